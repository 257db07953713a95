-- The grids of a script that are within their limits.
use Rattle.std.proofs.Common.{ℕ, zero, suc, ◌+◌, ◌*◌, ◌<◌, ◌≤◌, List, [], ◌∷◌, ◌++◌, length, get_or, arith}
use Rattle.std.proofs.Math.Nat.{mul-le-mul_left}
use Rattle.run_data.specs.Script.{Numbered}
use Rattle.run_data.specs.declared.command.Command.{Command}
use Rattle.run_data.specs.declared.command.Command.TheVariants as c
use Rattle.blacs_grid.specs.declared.Grid.{Grid}
use Rattle.blacs_grid.specs.Limits.{IsGrid}
use Rattle.rank_machine.specs.Scripts.{grids_from, grid_made, ranks_made}
use Rattle.script_lines.specs.Layouts.{AreGrids}

-- the grid of a number
pub grid-within : (grids : List Grid) (g : ℕ) (d : Grid) → AreGrids grids → g < length grids → IsGrid (get_or grids g d)
grid-within [] g d within lt = absurd (omega arith)
grid-within (x ∷ xs) zero d within lt = within.0
grid-within (x ∷ xs) (suc g) d within lt = grid-within xs g d within.1 (omega arith)

-- a grid has a rank
some_ranks : (p q f : ℕ) → 1 ≤ p → 1 ≤ q → 1 ≤ p * (q + f)
some_ranks p q f a b =
    let wide : 1 ≤ q + f = omega arith in
    let all : p * 1 ≤ p * (q + f) = mul-le-mul_left p wide in
    omega (arith, all)

-- the grids that one command makes, beside those of the commands that are left
few_more : (first : ℕ) (command : Command) (rest : List Grid) → AreGrids (grid_made command first ++ rest) → first ≤ 64
    → (AreGrids rest → first + ranks_made command ≤ 64 → (first + ranks_made command) + length rest ≤ 64)
    → first + length (grid_made command first ++ rest) ≤ 64
few_more first (c.Grid name p q f) rest within low more =
    let some : 1 ≤ p * (q + f) = some_ranks p q f within.0.some_rows within.0.some_columns in
    let after : (first + p * (q + f)) + length rest ≤ 64 = more within.1 within.0.ranks in
    omega arith
few_more first command rest within low more =
    let after : (first + 0) + length rest ≤ 64 = more within (omega arith) in
    omega arith

few_from : (first : ℕ) (ns : List Numbered) → AreGrids (grids_from first ns) → first ≤ 64 → first + length (grids_from first ns) ≤ 64
few_from first [] within low = omega arith
few_from first (n ∷ ns) within low =
    few_more first n.command (grids_from (first + ranks_made n.command) ns) within low (λ rest next. few_from (first + ranks_made n.command) ns rest next)

-- there are at most as many as ranks
pub few-grids : (ns : List Numbered) → AreGrids (grids_from 0 ns) → length (grids_from 0 ns) ≤ 64
few-grids ns within = omega (arith, few_from 0 ns within (omega arith))
