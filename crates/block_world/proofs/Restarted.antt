-- Ranks that start again are those of a world that has just been opened.
use Rattle.std.proofs.Common.{◌≡◌, ◌+◌, ℕ, suc, List, [], ◌∷◌, IfSome, length, map, slice_get, refl, ap, subst, ◌∙◌, arith}
use Rattle.std.specs.List.{range_with_len}
use Rattle.rank_run.specs.Machine.{Machine}
use Rattle.rank_machine.specs.declared.slot.Tile.{Tile}
use Rattle.rank_machine.specs.Setting.{Setting, ranks}
use Rattle.rank_machine.specs.State.{State}
use Rattle.script_lines.specs.declared.lines.Line.{Line}
use Rattle.rank_slots.specs.Rank.{Rank}
use Rattle.rank_slots.specs.Stands.{Stands}
use Rattle.block_world.specs.Ranks.{empty_rank, empty_ranks, restarted}

-- ranks that know the table, and their numbers from k on
restarted_from : (table : List Line) (k : ℕ) (ms : List Rank) → ((rank : ℕ) → IfSome (slice_get ms rank) (λ m. (m.table ≡ table) × (m.number ≡ k + rank))) → map restarted ms ≡ map (empty_rank table) (range_with_len k (length ms))
restarted_from table k [] h = refl
restarted_from table k (m ∷ ms) h =
    let number : m.number ≡ k = (h 0).1 ∙ (omega arith) in
    let rest = restarted_from table (k + 1) ms (λ rank.
    let e : k + suc rank ≡ (k + 1) + rank = omega arith in
    subst (λ v. IfSome (slice_get ms rank) (λ y. (y.table ≡ table) × (y.number ≡ v))) e (h (suc rank))) in
    λ i. empty_rank ((h 0).0 i) (number i) ∷ rest i

pub all_restarted : (s : Setting) (table : List Line) (x : Machine Rank Tile) (st : State) → Stands s table x st → map restarted x.mems ≡ empty_ranks table (ranks s)
all_restarted s table x st h =
    restarted_from table 0 x.mems (λ rank.
    let e : rank ≡ 0 + rank = omega arith in
    subst (λ v. IfSome (slice_get x.mems rank) (λ m. (m.table ≡ table) × (m.number ≡ v))) e (h.numbered rank))
    ∙ ap (empty_ranks table) h.count
