-- The strips that a print line takes: each is a data rank's with a group of the matrix, each such strip is among them, and how many there are.
use Rattle.std.proofs.Common.{◌≡◌, ℕ, zero, suc, ◌+◌, ◌*◌, ◌<◌, length, IsTrue, ◌∙◌, subst, arith}
use Rattle.std.specs.List.{All, Contains, flat_map, range_with_len}
use Rattle.std.proofs.lemmas.List.{length-append}
use Rattle.std.proofs.lemmas.List.Elements.{All-map}
use Rattle.std.proofs.lemmas.List.FromFn.{length-map-range_with_len}
use Rattle.blacs_grid.specs.declared.Grid.{Grid}
use Rattle.blacs_grid.specs.declared.Scope.TheVariants as scope
use Rattle.blacs_grid.specs.Places.{is_data_rank, members, member, number_in}
use Rattle.blacs_grid.specs.Limits.{IsGrid}
use Rattle.blacs_grid.proofs.ScopeLaws.{number_in-lt, member-number_in}
use Rattle.rank_machine.specs.declared.slot.Slot.{Slot}
use Rattle.rank_machine.specs.declared.slot.SlotKind.TheVariants.{Data}
use Rattle.rank_machine.specs.declared.layout.Layout.{Layout}
use Rattle.rank_machine.specs.Setting.{group_count}
use Rattle.rank_machine.specs.CodeLaw.{slot_at}
use Rattle.line_phases.proofs.Ranges.{All-flat_map, Contains-flat_map, All-range, Contains-range, Contains-map_range}
use Rattle.line_phases.specs.Printing.{group_slots, strip_slots}

-- the strip of a group on a member of the grid
abbrev pub slot_on : ℕ → Grid → ℕ → ℕ → ℕ × Slot
slot_on line g group i = (member g scope.All i, slot_at Data line group)

pub slots-all : (P : ℕ × Slot → Type 0) (line : ℕ) (d : Layout) → ((group i : ℕ) → group < group_count d → i < members d.grid scope.All → P (slot_on line d.grid group i)) → All P (strip_slots line d)
slots-all P line d h =
    All-flat_map P (group_slots line d) (range_with_len 0 (group_count d))
    (All-range (λ group. All P (group_slots line d group)) (group_count d)
    (λ group b. All-map P (slot_on line d.grid group) (range_with_len 0 (members d.grid scope.All)) (All-range (λ i. P (slot_on line d.grid group i)) (members d.grid scope.All) (λ i i_in. h group i b i_in))))

pub slots-contain : (line : ℕ) (d : Layout) (group rank : ℕ) → IsGrid d.grid → IsTrue (is_data_rank d.grid rank) → group < group_count d → Contains (strip_slots line d) (rank, slot_at Data line group)
slots-contain line d group rank is meant b =
    Contains-flat_map (group_slots line d) (range_with_len 0 (group_count d)) group (rank, slot_at Data line group) (Contains-range (group_count d) group b)
    (subst (λ r. Contains (group_slots line d group) (r, slot_at Data line group)) (member-number_in d.grid scope.All rank meant)
    (Contains-map_range (slot_on line d.grid group) (members d.grid scope.All) (number_in d.grid scope.All rank) (number_in-lt d.grid scope.All rank is meant)))

groups_count : (line : ℕ) (d : Layout) (start n : ℕ) → length (flat_map (group_slots line d) (range_with_len start n)) ≡ n * members d.grid scope.All
groups_count line d start zero = omega arith
groups_count line d start (suc n) =
    let one = length-map-range_with_len (slot_on line d.grid start) 0 (members d.grid scope.All) in
    length-append (group_slots line d start) (flat_map (group_slots line d) (range_with_len (start + 1) n)) ∙ omega (arith, one, groups_count line d (start + 1) n)

pub slots-count : (line : ℕ) (d : Layout) → length (strip_slots line d) ≡ group_count d * members d.grid scope.All
slots-count line d = groups_count line d 0 (group_count d)
