-- Cutting strips and placing them undo one another.
use Rattle.std.proofs.Common.{◌≡◌, ℕ, zero, suc, ◌+◌, ◌%◌, ◌<◌, ◌≤◌, ◌⊎◌, nat_lt, Bool, true, false, if◌then◌else◌, Some, List, [], ◌∷◌, ◌++◌, length, get_or, take, refl, sym, ◌∙◌, ap, subst, arith, inl, inr}
use Rattle.std.specs.List.{flat_map, range_with_len}
use Rattle.std.proofs.Math.Nat.{mod-lt}
use Rattle.std.proofs.lemmas.Bool.{cases_lt, lt-ltb, le-ltb}
use Rattle.std.proofs.lemmas.List.FromFn.{length-range_with_len, get_or-range_with_len, length-map-range_with_len, get_or-map-range_with_len}
use Rattle.std.proofs.lemmas.List.Concat.{get_or-flat_map}
use Rattle.std.proofs.lemmas.List.Folds.{length-flat_map-take}
use Rattle.run_data.specs.Matrix.{Matrix, cols, entry, IsShaped, AreWords}
use Rattle.run_data.proofs.Matrices.{rows-tabulate, cols-tabulate, entry-tabulate, IsShaped-tabulate, tabulate_is, tabulate-same, same_matrices}
use Rattle.run_data.proofs.PartLaws.{AreWords-tabulate}
use Rattle.array_desc.specs.Maps.{local}
use Rattle.blacs_grid.specs.declared.Scope.TheVariants.{All}
use Rattle.blacs_grid.specs.Places.{row_of, col_of, member, members, number_in}
use Rattle.blacs_grid.proofs.ScopeLaws.{number_in-lt, member-number_in}
use Rattle.rank_machine.specs.declared.slot.SlotKind.TheVariants.{Data}
use Rattle.rank_machine.specs.declared.slot.Tile.TheVariants.{Words}
use Rattle.rank_machine.specs.declared.layout.Layout.{Layout}
use Rattle.rank_machine.specs.Setting.{Setting, layout, group_count, strip_rows, strip_of, block_at, global_row, global_col}
use Rattle.rank_machine.specs.State.{Took}
use Rattle.rank_machine.specs.Printed.{taken_from, IsPrinted}
use Rattle.dist_matrix.specs.Strips.{HasShape, NamesStrip, rank_of_entry, group_of_entry, holds_entry, word_in_strip, with_strip, HasStripShape, HoldsEntries, IsPadded, with_strips, HasEveryStrip, strips_of_group, all_strips}
use Rattle.script_lines.specs.Layouts.{IsLayout}
use Rattle.dist_matrix.proofs.EntryLaws.{some_block_column, row-from_local, local-below, column-from_local, holds_entry-at, word_in_strip-at, global_row-lt, only_strip, NamesStrip-of_entry, holds_entry-of_entry}

-- ---- the words of a strip
abbrev strip_word : Layout → Matrix → ℕ → ℕ → ℕ → ℕ → ℕ
strip_word d m rank group i j =
    if nat_lt (global_col d (block_at d group (col_of d.grid rank)) j) d.desc.n then entry m (global_row d rank i) (global_col d (block_at d group (col_of d.grid rank)) j) else 0

pub HasStripShape-strip_of : (d : Layout) (m : Matrix) (rank group : ℕ) → HasStripShape d rank (strip_of d m rank group)
HasStripShape-strip_of d m rank group = record {
  rows = rows-tabulate (strip_rows d (row_of d.grid rank)) d.desc.nb (strip_word d m rank group);
  columns = cols-tabulate (strip_rows d (row_of d.grid rank)) d.desc.nb (strip_word d m rank group);
}

pub IsShaped-strip_of : (d : Layout) (m : Matrix) (rank group : ℕ) → IsShaped (strip_of d m rank group)
IsShaped-strip_of d m rank group = IsShaped-tabulate (strip_rows d (row_of d.grid rank)) d.desc.nb (strip_word d m rank group)

-- the word at a place of the strip where the matrix has a column
pub entry-strip_of : (d : Layout) (m : Matrix) (rank group i j : ℕ) → i < strip_rows d (row_of d.grid rank) → j < d.desc.nb → global_col d (block_at d group (col_of d.grid rank)) j < d.desc.n
    → entry (strip_of d m rank group) i j ≡ entry m (global_row d rank i) (global_col d (block_at d group (col_of d.grid rank)) j)
entry-strip_of d m rank group i j row column inside =
    let test = lt-ltb (global_col d (block_at d group (col_of d.grid rank)) j) d.desc.n inside in
    entry-tabulate (strip_rows d (row_of d.grid rank)) d.desc.nb (strip_word d m rank group) i j row column ∙ rw test refl

-- and where it has none
pub entry-strip_of_padding : (d : Layout) (m : Matrix) (rank group i j : ℕ) → i < strip_rows d (row_of d.grid rank) → j < d.desc.nb → d.desc.n ≤ global_col d (block_at d group (col_of d.grid rank)) j
    → entry (strip_of d m rank group) i j ≡ 0
entry-strip_of_padding d m rank group i j row column past =
    let test = le-ltb (global_col d (block_at d group (col_of d.grid rank)) j) d.desc.n past in
    entry-tabulate (strip_rows d (row_of d.grid rank)) d.desc.nb (strip_word d m rank group) i j row column ∙ rw test refl

pub IsPadded-strip_of : (d : Layout) (m : Matrix) (rank group : ℕ) → IsPadded d rank group (strip_of d m rank group)
IsPadded-strip_of d m rank group i j row column past =
    let shape = HasStripShape-strip_of d m rank group in
    entry-strip_of_padding d m rank group i j (subst (λ k. i < k) shape.rows row) (subst (λ k. j < k) shape.columns column) past

word-below : (p : ℕ) (inside : Bool) (x : ℕ) → 0 < p → x < p → (if inside then x else 0) < p
word-below p true x some below = below
word-below p false x some below = some

-- words of a matrix make words of its strips
pub AreWords-strip_of : (p : ℕ) (d : Layout) (m : Matrix) (rank group : ℕ) → 0 < p → AreWords p m → AreWords p (strip_of d m rank group)
AreWords-strip_of p d m rank group some words =
    AreWords-tabulate p (strip_rows d (row_of d.grid rank)) d.desc.nb (strip_word d m rank group) some
    (λ i j _ _. word-below p (nat_lt (global_col d (block_at d group (col_of d.grid rank)) j) d.desc.n) (entry m (global_row d rank i) (global_col d (block_at d group (col_of d.grid rank)) j)) some
    (words.below (global_row d rank i) (global_col d (block_at d group (col_of d.grid rank)) j)))

-- the strip has each entry that lies in it, at its local row and at the remainder of its column by the width of a block
pub word_in_strip-strip_of : (d : Layout) (m : Matrix) (rank group i j : ℕ) → IsLayout d → holds_entry d rank group i j ≡ true → i < d.desc.m → j < d.desc.n
    → word_in_strip d (strip_of d m rank group) i j ≡ entry m i j
word_in_strip-strip_of d m rank group i j is holds row column =
    let n = d.desc.n in
    let l = local i d.desc.mb d.grid.p in
    let test = lt-ltb j n column in
    entry-tabulate (strip_rows d (row_of d.grid rank)) d.desc.nb (strip_word d m rank group) l (j % d.desc.nb) (local-below d rank group i j is holds row) (mod-lt j (some_block_column d is))
    ∙ ap (λ c. if nat_lt c n then entry m (global_row d rank l) c else 0) (column-from_local d rank group i j is holds)
    ∙ ap (λ r. if nat_lt j n then entry m r j else 0) (row-from_local d rank group i j is holds)
    ∙ rw test refl

pub HoldsEntries-strip_of : (d : Layout) (m : Matrix) (rank group : ℕ) → IsLayout d → HoldsEntries d m rank group (strip_of d m rank group)
HoldsEntries-strip_of d m rank group is i j row column holds = word_in_strip-strip_of d m rank group i j is holds row column

-- so the strip named by an entry has it
pub entry-in_strip : (d : Layout) (m : Matrix) (i j : ℕ) → IsLayout d → i < d.desc.m → j < d.desc.n
    → entry m i j ≡ entry (strip_of d m (rank_of_entry d i j) (group_of_entry d j)) (local i d.desc.mb d.grid.p) (j % d.desc.nb)
entry-in_strip d m i j is row column = sym (word_in_strip-strip_of d m (rank_of_entry d i j) (group_of_entry d j) i j is (holds_entry-of_entry d i j is) row column)

-- ---- one strip placed
pub rows-with_strip : (d : Layout) (out : Matrix) (rank group : ℕ) (s : Matrix) → (with_strip d out rank group s).rows ≡ out.rows
rows-with_strip d out rank group s = rows-tabulate out.rows (cols out) (λ i j. if holds_entry d rank group i j then word_in_strip d s i j else entry out i j)

pub cols-with_strip : (d : Layout) (out : Matrix) (rank group : ℕ) (s : Matrix) → cols (with_strip d out rank group s) ≡ cols out
cols-with_strip d out rank group s = cols-tabulate out.rows (cols out) (λ i j. if holds_entry d rank group i j then word_in_strip d s i j else entry out i j)

pub IsShaped-with_strip : (d : Layout) (out : Matrix) (rank group : ℕ) (s : Matrix) → IsShaped (with_strip d out rank group s)
IsShaped-with_strip d out rank group s = IsShaped-tabulate out.rows (cols out) (λ i j. if holds_entry d rank group i j then word_in_strip d s i j else entry out i j)

pub HasShape-with_strip : (d : Layout) (out : Matrix) (rank group : ℕ) (s : Matrix) → HasShape d out → HasShape d (with_strip d out rank group s)
HasShape-with_strip d out rank group s shape = record {
  rows = rows-with_strip d out rank group s ∙ shape.rows;
  columns = cols-with_strip d out rank group s ∙ shape.columns;
}

-- an entry that lies in the strip
pub entry-with_strip_inside : (d : Layout) (out : Matrix) (rank group : ℕ) (s : Matrix) (i j : ℕ) → i < out.rows → j < cols out → holds_entry d rank group i j ≡ true
    → entry (with_strip d out rank group s) i j ≡ word_in_strip d s i j
entry-with_strip_inside d out rank group s i j row column holds =
    entry-tabulate out.rows (cols out) (λ i j. if holds_entry d rank group i j then word_in_strip d s i j else entry out i j) i j row column ∙ rw holds refl

-- and any other
pub entry-with_strip_outside : (d : Layout) (out : Matrix) (rank group : ℕ) (s : Matrix) (i j : ℕ) → i < out.rows → j < cols out → holds_entry d rank group i j ≡ false
    → entry (with_strip d out rank group s) i j ≡ entry out i j
entry-with_strip_outside d out rank group s i j row column holds =
    entry-tabulate out.rows (cols out) (λ i j. if holds_entry d rank group i j then word_in_strip d s i j else entry out i j) i j row column ∙ rw holds refl

chosen-below : (p : ℕ) (holds : Bool) (x y : ℕ) → x < p → y < p → (if holds then x else y) < p
chosen-below p true x y new old = new
chosen-below p false x y new old = old

-- words stay words
pub AreWords-with_strip : (p : ℕ) (d : Layout) (out : Matrix) (rank group : ℕ) (s : Matrix) → 0 < p → AreWords p out → AreWords p s → AreWords p (with_strip d out rank group s)
AreWords-with_strip p d out rank group s some words new =
    AreWords-tabulate p out.rows (cols out) (λ i j. if holds_entry d rank group i j then word_in_strip d s i j else entry out i j) some
    (λ i j _ _. chosen-below p (holds_entry d rank group i j) (word_in_strip d s i j) (entry out i j) (new.below (local i d.desc.mb d.grid.p) (j % d.desc.nb)) (words.below i j))

cases_bool : (b : Bool) → (b ≡ true) ⊎ (b ≡ false)
cases_bool true = inl refl
cases_bool false = inr refl

-- the strip of a matrix in which a strip was placed is that strip
pub strip_of-with_strip : (d : Layout) (out : Matrix) (rank group : ℕ) (s : Matrix) → IsLayout d → NamesStrip d rank group → HasShape d out → HasStripShape d rank s → IsShaped s → IsPadded d rank group s
    → strip_of d (with_strip d out rank group s) rank group ≡ s
strip_of-with_strip d out rank group s is names shape strip_shape shaped padded =
    let w : Matrix = with_strip d out rank group s in
    let block = block_at d group (col_of d.grid rank) in
    sym (tabulate_is s (strip_rows d (row_of d.grid rank)) d.desc.nb (strip_word d w rank group) shaped strip_shape.rows strip_shape.columns
    (λ i j row column.
    elim (cases_lt (global_col d block j) d.desc.n) [
      | inl inside ↦
          (let test = lt-ltb (global_col d block j) d.desc.n inside in
          let below = global_row-lt d rank group i is names row in
          rw test
          (sym (entry-with_strip_inside d out rank group s (global_row d rank i) (global_col d block j) (omega (arith, shape.rows)) (omega (arith, shape.columns)) (holds_entry-at d rank group i j is names column)
          ∙ word_in_strip-at d s rank block i j is column)))
      | inr past ↦
          (let test = le-ltb (global_col d block j) d.desc.n past in
          rw test (padded i j (subst (λ k. i < k) (sym strip_shape.rows) row) (subst (λ k. j < k) (sym strip_shape.columns) column) past))
    ]))

-- and every other strip stays as it was
pub strip_of-with_strip_other :
    (d : Layout) (out : Matrix) (rank group : ℕ) (s : Matrix) (other_rank other_group : ℕ) → IsLayout d → NamesStrip d rank group → NamesStrip d other_rank other_group → HasShape d out
    → ((other_rank ≡ rank) × (other_group ≡ group) → ⊥) → strip_of d (with_strip d out rank group s) other_rank other_group ≡ strip_of d out other_rank other_group
strip_of-with_strip_other d out rank group s other_rank other_group is names other_names shape apart =
    let w : Matrix = with_strip d out rank group s in
    let block = block_at d other_group (col_of d.grid other_rank) in
    tabulate-same (strip_rows d (row_of d.grid other_rank)) d.desc.nb (strip_word d w other_rank other_group) (strip_word d out other_rank other_group)
    (λ i j row column.
    elim (cases_lt (global_col d block j) d.desc.n) [
      | inl inside ↦
          (let test = lt-ltb (global_col d block j) d.desc.n inside in
          let below = global_row-lt d other_rank other_group i is other_names row in
          let here = only_strip d other_rank other_group (global_row d other_rank i) (global_col d block j) other_names (holds_entry-at d other_rank other_group i j is other_names column) in
          let left : holds_entry d rank group (global_row d other_rank i) (global_col d block j) ≡ false =
          elim (cases_bool (holds_entry d rank group (global_row d other_rank i) (global_col d block j))) [
            | inl holds ↦ (let there = only_strip d rank group (global_row d other_rank i) (global_col d block j) names holds in absurd (apart (here.0 ∙ sym there.0, here.1 ∙ sym there.1)))
            | inr elsewhere ↦ elsewhere
          ] in
          rw test (entry-with_strip_outside d out rank group s (global_row d other_rank i) (global_col d block j) (omega (arith, shape.rows)) (omega (arith, shape.columns)) left))
      | inr past ↦ (let test = le-ltb (global_col d block j) d.desc.n past in rw test refl)
    ])

-- ---- many strips placed
pub HasShape-with_strips : (d : Layout) (m out : Matrix) (strips : List (ℕ × ℕ)) → HasShape d out → HasShape d (with_strips d m out strips)
HasShape-with_strips d m out [] shape = shape
HasShape-with_strips d m out (at ∷ rest) shape =
    HasShape-with_strips d m (with_strip d out at.0 at.1 (strip_of d m at.0 at.1)) rest (HasShape-with_strip d out at.0 at.1 (strip_of d m at.0 at.1) shape)

pub IsShaped-with_strips : (d : Layout) (m out : Matrix) (strips : List (ℕ × ℕ)) → IsShaped out → IsShaped (with_strips d m out strips)
IsShaped-with_strips d m out [] shaped = shaped
IsShaped-with_strips d m out (at ∷ rest) shaped =
    IsShaped-with_strips d m (with_strip d out at.0 at.1 (strip_of d m at.0 at.1)) rest (IsShaped-with_strip d out at.0 at.1 (strip_of d m at.0 at.1))

-- strips of one list, and then those of another
pub with_strips-append : (d : Layout) (m out : Matrix) (strips more : List (ℕ × ℕ)) → with_strips d m out (strips ++ more) ≡ with_strips d m (with_strips d m out strips) more
with_strips-append d m out [] more = refl
with_strips-append d m out (at ∷ rest) more = with_strips-append d m (with_strip d out at.0 at.1 (strip_of d m at.0 at.1)) rest more

-- a placed strip leaves an entry as it was, or makes it that of the matrix
entry-placed_inside : (d : Layout) (m out : Matrix) (rank group i j : ℕ) → IsLayout d → HasShape d out → i < d.desc.m → j < d.desc.n → holds_entry d rank group i j ≡ true
    → entry (with_strip d out rank group (strip_of d m rank group)) i j ≡ entry m i j
entry-placed_inside d m out rank group i j is shape row column holds =
    entry-with_strip_inside d out rank group (strip_of d m rank group) i j (omega (arith, shape.rows)) (omega (arith, shape.columns)) holds
    ∙ word_in_strip-strip_of d m rank group i j is holds row column

entry-placed_kept : (d : Layout) (m out : Matrix) (rank group i j : ℕ) → IsLayout d → HasShape d out → i < d.desc.m → j < d.desc.n → entry out i j ≡ entry m i j
    → entry (with_strip d out rank group (strip_of d m rank group)) i j ≡ entry m i j
entry-placed_kept d m out rank group i j is shape row column same =
    elim (cases_bool (holds_entry d rank group i j)) [
      | inl holds ↦ entry-placed_inside d m out rank group i j is shape row column holds
      | inr holds ↦ entry-with_strip_outside d out rank group (strip_of d m rank group) i j (omega (arith, shape.rows)) (omega (arith, shape.columns)) holds ∙ same
    ]

-- an entry that is the matrix's stays so
pub entry-with_strips_kept : (d : Layout) (m out : Matrix) (strips : List (ℕ × ℕ)) (i j : ℕ) → IsLayout d → HasShape d out → i < d.desc.m → j < d.desc.n → entry out i j ≡ entry m i j
    → entry (with_strips d m out strips) i j ≡ entry m i j
entry-with_strips_kept d m out [] i j is shape row column same = same
entry-with_strips_kept d m out (at ∷ rest) i j is shape row column same =
    let s : Matrix = strip_of d m at.0 at.1 in
    entry-with_strips_kept d m (with_strip d out at.0 at.1 s) rest i j is (HasShape-with_strip d out at.0 at.1 s shape) row column (entry-placed_kept d m out at.0 at.1 i j is shape row column same)

-- an entry is the matrix's once its strip was placed
pub entry-with_strips_placed : (d : Layout) (m out : Matrix) (strips : List (ℕ × ℕ)) (k rank group i j : ℕ) → IsLayout d → HasShape d out → i < d.desc.m → j < d.desc.n → holds_entry d rank group i j ≡ true
    → k < length strips → get_or strips k (rank, group) ≡ (rank, group) → entry (with_strips d m out strips) i j ≡ entry m i j
entry-with_strips_placed d m out [] k rank group i j is shape row column holds inside found = absurd (omega arith)
entry-with_strips_placed d m out (at ∷ rest) zero rank group i j is shape row column holds inside found =
    let s : Matrix = strip_of d m at.0 at.1 in
    entry-with_strips_kept d m (with_strip d out at.0 at.1 s) rest i j is (HasShape-with_strip d out at.0 at.1 s shape) row column
    (entry-placed_inside d m out at.0 at.1 i j is shape row column (ap (λ p. holds_entry d p.0 p.1 i j) found ∙ holds))
entry-with_strips_placed d m out (at ∷ rest) (suc k) rank group i j is shape row column holds inside found =
    let s : Matrix = strip_of d m at.0 at.1 in
    entry-with_strips_placed d m (with_strip d out at.0 at.1 s) rest k rank group i j is (HasShape-with_strip d out at.0 at.1 s shape) row column holds (omega arith) found

-- the strips of a matrix, placed in any order in which none is missing, make the matrix, whatever stood there
pub with_strips-every : (d : Layout) (m out : Matrix) (strips : List (ℕ × ℕ)) → IsLayout d → IsShaped m → HasShape d m → IsShaped out → HasShape d out → HasEveryStrip d strips → with_strips d m out strips ≡ m
with_strips-every d m out strips is m_shaped m_shape out_shaped out_shape every =
    let whole = HasShape-with_strips d m out strips out_shape in
    same_matrices (with_strips d m out strips) m (IsShaped-with_strips d m out strips out_shaped) m_shaped (whole.rows ∙ sym m_shape.rows) (whole.columns ∙ sym m_shape.columns)
    (λ i j row column.
    let row_in : i < d.desc.m = omega (arith, m_shape.rows) in
    let column_in : j < d.desc.n = omega (arith, m_shape.columns) in
    let found = every (rank_of_entry d i j) (group_of_entry d j) (NamesStrip-of_entry d i j is column_in) in
    entry-with_strips_placed d m out strips found.0 (rank_of_entry d i j) (group_of_entry d j) i j is out_shape row_in column_in (holds_entry-of_entry d i j is) found.1 found.2)

-- no strip is missing in the list that goes over the groups, and in each over the data ranks
pub HasEveryStrip-all_strips : (d : Layout) → IsLayout d → HasEveryStrip d (all_strips d)
HasEveryStrip-all_strips d is rank group names =
    let groups : List ℕ = range_with_len 0 (group_count d) in
    let at : ℕ = number_in d.grid All rank in
    let f : ℕ → List (ℕ × ℕ) = strips_of_group d in
    let before : ℕ = length (flat_map f (take group groups)) in
    let at_in : at < members d.grid All = number_in-lt d.grid All rank is.grid names.data_rank in
    let group_is : get_or groups group 0 ≡ group = get_or-range_with_len 0 (group_count d) group 0 names.group_in ∙ (let e : 0 + group ≡ group = omega arith in e) in
    let group_in : group < length groups = rw length-range_with_len names.group_in in
    let size : length (f (get_or groups group 0)) ≡ members d.grid All = ap (λ g. length (f g)) group_is ∙ length-map-range_with_len (λ i. (member d.grid All i, group)) 0 (members d.grid All) in
    let inside : at < length (f (get_or groups group 0)) = rw size at_in in
    let room = length-flat_map-take f groups group 0 group_in in (
      before + at,
      omega (arith, room, inside),
      get_or-flat_map f groups group at 0 (rank, group) group_in inside
          ∙ ap (λ g. get_or (f g) at (rank, group)) group_is
          ∙ get_or-map-range_with_len (λ i. (member d.grid All i, group)) 0 (members d.grid All) at at (rank, group) at_in (omega arith)
          ∙ ap (λ r. (r, group)) (member-number_in d.grid All rank names.data_rank),
    )

-- so all strips in that order make the matrix
pub with_strips-all : (d : Layout) (m out : Matrix) → IsLayout d → IsShaped m → HasShape d m → IsShaped out → HasShape d out → with_strips d m out (all_strips d) ≡ m
with_strips-all d m out is m_shaped m_shape out_shaped out_shape = with_strips-every d m out (all_strips d) is m_shaped m_shape out_shaped out_shape (HasEveryStrip-all_strips d is)

-- ---- printed matrices
-- a matrix was printed where the host took its strip from each data rank and of each group
pub IsPrinted-strips : (s : Setting) (taken : List Took) (line what : ℕ) (m : Matrix) → IsLayout (layout s what) → HasShape (layout s what) m
    → ((rank group : ℕ) → NamesStrip (layout s what) rank group → taken_from taken line rank (record { kind = Data; id = what; group = group }) ≡ Some (Words (strip_of (layout s what) m rank group)))
    → IsPrinted s taken line what m
IsPrinted-strips s taken line what m is shape took =
    let d : Layout = layout s what in record {
      rows = shape.rows;
      columns = shape.columns;
      entries = λ i j row column.
          let row_in : i < d.desc.m = omega (arith, shape.rows) in
          let column_in : j < d.desc.n = omega (arith, shape.columns) in
          let rank = rank_of_entry d i j in
          let group = group_of_entry d j in
          let strip : HasStripShape d rank (strip_of d m rank group) = HasStripShape-strip_of d m rank group in (
            strip_of d m rank group,
            took rank group (NamesStrip-of_entry d i j is column_in),
            subst (λ n. local i d.desc.mb d.grid.p < n) (sym strip.rows) (local-below d rank group i j is (holds_entry-of_entry d i j is) row_in),
            subst (λ n. j % d.desc.nb < n) (sym strip.columns) (mod-lt j (some_block_column d is)),
            entry-in_strip d m i j is row_in column_in,
          );
    }
