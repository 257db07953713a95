-- How many ranks the grids of a script have.
use Rattle.std.proofs.Common.{◌≡◌, ◌+◌, ◌*◌, ◌≤◌, ◌<◌, ℕ, zero, suc, List, [], ◌∷◌, ◌++◌, drop, length, refl, arith}
use Rattle.std.specs.Prelude.{slice_index_or}
use Rattle.run_data.specs.declared.command.Command.{Command}
use Rattle.run_data.specs.declared.command.Command.TheVariants as c
use Rattle.run_data.specs.Script.{Numbered}
use Rattle.blacs_grid.specs.declared.Grid.{Grid}
use Rattle.blacs_grid.specs.Limits.{IsGrid}
use Rattle.blacs_grid.specs.Places.{size}
use Rattle.rank_machine.specs.Setting.{sizes}
use Rattle.rank_machine.specs.Scripts.{grid_made, ranks_made, grids_from}
use Rattle.script_lines.specs.Layouts.{AreGrids}

few_with : (command : Command) (first : ℕ) (rest : List Grid) → first ≤ 64 → AreGrids (grid_made command first ++ rest) → (first + ranks_made command ≤ 64 → AreGrids rest → first + ranks_made command + sizes rest ≤ 64)
    → first + sizes (grid_made command first ++ rest) ≤ 64
few_with (c.Grid name p q f) first rest le grids more = (let here : first + p * (q + f) ≤ 64 = grids.0.ranks in omega (arith, more here grids.1))
few_with command first rest le grids more = (let here : first + 0 ≤ 64 = omega (arith, le) in omega (arith, more here grids))

few_from : (ns : List Numbered) (first : ℕ) → first ≤ 64 → AreGrids (grids_from first ns) → first + sizes (grids_from first ns) ≤ 64
few_from [] first le grids = omega (arith, le)
few_from (n ∷ ns) first le grids = few_with n.command first (grids_from (first + ranks_made n.command) ns) le grids (few_from ns (first + ranks_made n.command))

-- grids within their limits, as those of a script, have at most 64 ranks together
pub sizes-few : (ns : List Numbered) → AreGrids (grids_from 0 ns) → sizes (grids_from 0 ns) ≤ 64
sizes-few ns grids = omega (arith, few_from ns 0 (omega arith) grids)

pub grid-within : (gs : List Grid) (none : Grid) (i : ℕ) → AreGrids gs → i < length gs → IsGrid (slice_index_or gs i none)
grid-within [] none i grids lt = absurd (omega arith)
grid-within (g ∷ gs) none zero grids lt = grids.0
grid-within (g ∷ gs) none (suc i) grids lt = grid-within gs none i grids.1 (omega arith)

-- ---- one grid after another
next_size : (gs : List Grid) (none : Grid) (i : ℕ) → i < length gs → sizes (drop i gs) ≡ size (slice_index_or gs i none) + sizes (drop (suc i) gs)
next_size [] none i lt = absurd (omega arith)
next_size (g ∷ gs) none zero lt = refl
next_size (g ∷ gs) none (suc i) lt = next_size gs none i (omega arith)

pub sizes-more : (gs : List Grid) (none : Grid) (i ranks here : ℕ) → i < length gs → here ≡ size (slice_index_or gs i none) → ranks + sizes (drop i gs) ≡ sizes gs → ranks + here + sizes (drop (i + 1) gs) ≡ sizes gs
sizes-more gs none i ranks here lt is so_far = (let e : i + 1 ≡ suc i = omega arith in rw e (omega (arith, is, so_far, next_size gs none i lt)))
