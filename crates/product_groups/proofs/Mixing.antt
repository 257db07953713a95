-- A matrix whose first groups are those of one matrix, and the others those of another.
use Rattle.std.proofs.Common.{◌≡◌, ◌<◌, ◌≤◌, nat_lt, ℕ, Some, if◌then◌else◌, refl, sym, ap, ◌∙◌, inl, inr}
use Rattle.std.proofs.lemmas.Bool.{cases_lt, lt-ltb, le-ltb}
use Rattle.run_data.specs.Matrix.{Matrix, entry, tabulate}
use Rattle.run_data.proofs.Matrices.{rows-tabulate, cols-tabulate, entry-tabulate, tabulate-same}
use Rattle.blacs_grid.specs.Places.{row_of, col_of, rank_at}
use Rattle.blacs_grid.proofs.PlaceLaws.{is_data_rank-rank_at}
use Rattle.rank_machine.specs.declared.slot.Tile.TheVariants.{Words}
use Rattle.rank_machine.specs.declared.layout.Layout.{Layout}
use Rattle.rank_machine.specs.Setting.{group_count, strip_rows, strip_of, block_at, global_row, global_col}
use Rattle.rank_machine.specs.State.{State}
use Rattle.script_lines.specs.Layouts.{IsLayout}
use Rattle.dist_matrix.specs.Strips.{NamesStrip, group_of_entry}
use Rattle.dist_matrix.proofs.EntryLaws.{holds_entry-at, global_row-lt, only_strip}
use Rattle.phase_frames.specs.Groups.{HoldsGroup}
use Rattle.product_laws.specs.Held.{HoldsSome}

-- the global column of a place of a strip
abbrev column_at : Layout → ℕ → ℕ → ℕ → ℕ
column_at d rank group j = global_col d (block_at d group (col_of d.grid rank)) j

-- matrices that agree at the places of a strip have the same strip
strip-same : (d : Layout) (m m' : Matrix) (rank group : ℕ)
    → ((i j : ℕ) → i < strip_rows d (row_of d.grid rank) → j < d.desc.nb → column_at d rank group j < d.desc.n → entry m (global_row d rank i) (column_at d rank group j) ≡ entry m' (global_row d rank i) (column_at d rank group j))
    → strip_of d m rank group ≡ strip_of d m' rank group
strip-same d m m' rank group same =
    tabulate-same (strip_rows d (row_of d.grid rank)) d.desc.nb
    (λ i j. if nat_lt (column_at d rank group j) d.desc.n then entry m (global_row d rank i) (column_at d rank group j) else 0)
    (λ i j. if nat_lt (column_at d rank group j) d.desc.n then entry m' (global_row d rank i) (column_at d rank group j) else 0)
    (λ i j row column.
    elim (cases_lt (column_at d rank group j) d.desc.n) [
      | inl inside ↦ (let test = lt-ltb (column_at d rank group j) d.desc.n inside in rw test (same i j row column inside))
      | inr past ↦ (let test = le-ltb (column_at d rank group j) d.desc.n past in rw test refl)
    ])

module _ (d : Layout) (new old : Matrix) (group : ℕ) where
  abbrev mixed_word : ℕ → ℕ → ℕ
  mixed_word i j = if nat_lt (group_of_entry d j) group then entry new i j else entry old i j

  abbrev mixed : Matrix
  mixed = tabulate d.desc.m d.desc.n mixed_word

  module _ (is : IsLayout d) (rank g : ℕ) (names : NamesStrip d rank g) where
    mixed_entry : (i j : ℕ) → i < strip_rows d (row_of d.grid rank) → j < d.desc.nb → column_at d rank g j < d.desc.n
        → entry mixed (global_row d rank i) (column_at d rank g j) ≡ (if nat_lt g group then entry new (global_row d rank i) (column_at d rank g j) else entry old (global_row d rank i) (column_at d rank g j))
    mixed_entry i j row column inside =
        let r = global_row d rank i in
        let k = column_at d rank g j in
        entry-tabulate d.desc.m d.desc.n mixed_word r k (global_row-lt d rank g i is names row) inside
        ∙ ap (λ o. if nat_lt o group then entry new r k else entry old r k) (sym (only_strip d rank g r k names (holds_entry-at d rank g i j is names column)).1)

    strip_new : g < group → strip_of d mixed rank g ≡ strip_of d new rank g
    strip_new lt =
        strip-same d mixed new rank g
        (λ i j row column inside. mixed_entry i j row column inside ∙ ap (λ t. if t then entry new (global_row d rank i) (column_at d rank g j) else entry old (global_row d rank i) (column_at d rank g j)) (lt-ltb g group lt))

    strip_old : group ≤ g → strip_of d mixed rank g ≡ strip_of d old rank g
    strip_old le =
        strip-same d mixed old rank g
        (λ i j row column inside. mixed_entry i j row column inside ∙ ap (λ t. if t then entry new (global_row d rank i) (column_at d rank g j) else entry old (global_row d rank i) (column_at d rank g j)) (le-ltb g group le))

-- ranks that hold the first groups of one matrix, and the others of another, hold all groups of some matrix
pub HoldsSome-mixed : (st : State) (d : Layout) (line : ℕ) (new old : Matrix) (group : ℕ) → IsLayout d → ((g : ℕ) → g < group → HoldsGroup st d line new g)
    → ((g : ℕ) → group ≤ g → g < group_count d → HoldsGroup st d line old g) → HoldsSome st d line
HoldsSome-mixed st d line new old group is first others = record {
  matrix = mixed d new old group;
  shape = record { rows = rows-tabulate d.desc.m d.desc.n (mixed_word d new old group); columns = cols-tabulate d.desc.m d.desc.n (mixed_word d new old group) };
  groups = λ g inside row col hr hc.
      let rank = rank_at d.grid row col in
      let names : NamesStrip d rank g = record { data_rank = is_data_rank-rank_at d.grid row col hr hc; group_in = inside } in
      elim (cases_lt g group) [
        | inl lt ↦ first g lt row col hr hc ∙ ap (λ m. Some (Words m)) (sym (strip_new d new old group is rank g names lt))
        | inr le ↦ others g le inside row col hr hc ∙ ap (λ m. Some (Words m)) (sym (strip_old d new old group is rank g names le))
      ];
}
