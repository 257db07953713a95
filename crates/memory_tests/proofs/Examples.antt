-- When a kernel may be applied, as one test that computes.
use Rattle.std.proofs.Common.{◌≡◌, ◌&&◌, ℕ, Bool, true}
use Rattle.std.specs.Prelude.{if◌then◌else◌}
use Rattle.std.proofs.lemmas.Bool.{and_parts}
use Rattle.rank_machine.specs.declared.kernel.Kernel.{Kernel}
use Rattle.rank_machine.specs.Effect.{slot_of, target}
use Rattle.rank_machine.specs.Legal.{may_write, may_change, reads, makes, is_apart, is_held, is_shaped, has_divisors, is_placed, has_strips, factor_of}
use Rattle.script_lines.specs.Lines.{setting_on}
use Rattle.rank_slots.specs.Cells.{tiles_in}
use Rattle.rank_slots.specs.Rank.{Rank, state_in, is_below, MayApply}

abbrev is_writable : Rank → Kernel → Bool
is_writable m k = if makes k then may_write (state_in m) m.number (slot_of (target k)) else may_change (state_in m) m.number (slot_of (target k))

abbrev pub is_fit : ℕ → Rank → Kernel → Bool
is_fit p m k =
    let s = setting_on p m.table in
    let holding = tiles_in m.cells in
    is_held holding k && (is_apart (slot_of (target k)) (reads k) && (is_shaped holding k && (has_divisors holding k && (is_placed s m.number k && (has_strips s m.number holding k && is_below p (factor_of k))))))

pub may_apply : (p : ℕ) (m : Rank) (k : Kernel) → (m.live && (is_writable m k && is_fit p m k)) ≡ true → MayApply p m k
may_apply p m k h =
    let s = setting_on p m.table in
    let holding = tiles_in m.cells in
    let a = and_parts m.live (is_writable m k && is_fit p m k) h in
    let b = and_parts (is_writable m k) (is_fit p m k) a.1 in
    let held = and_parts (is_held holding k) _ b.1 in
    let apart = and_parts (is_apart (slot_of (target k)) (reads k)) _ held.1 in
    let shaped = and_parts (is_shaped holding k) _ apart.1 in
    let divisors = and_parts (has_divisors holding k) _ shaped.1 in
    let placed = and_parts (is_placed s m.number k) _ divisors.1 in
    let strips = and_parts (has_strips s m.number holding k) (is_below p (factor_of k)) placed.1 in
    record {
      live = a.0;
      writable = b.0;
      fit = record {
        held = held.0;
        apart = apart.0;
        shaped = shaped.0;
        divisors = divisors.0;
        placed = placed.0;
        strips = strips.0;
        factor = strips.1;
      };
    }
