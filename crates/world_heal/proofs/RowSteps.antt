-- The rounds of a matrix, group by group and process row by process row.
use Rattle.std.specs.Prelude.{slice_index_or, nat_lt, nat_le}
use Rattle.std.specs.List.{range_with_len}
use Rattle.std.proofs.Common.{◌≡◌, ◌+◌, ◌*◌, ◌<◌, ◌≤◌, ◌&&◌, ◌==◌, ℕ, zero, suc, Bool, true, false, List, [], ◌∷◌, map, refl, sym, ap, subst, ◌∙◌, arith, inl, inr}
use Rattle.std.proofs.lemmas.Bool.{cases_lt, or_parts}
use Rattle.std.proofs.lemmas.Nat.{mul-le}
use Rattle.std.proofs.lemmas.List.FromFn.{get_or-map-range_with_len}
use Rattle.blacs_grid.specs.declared.Grid.{Grid}
use Rattle.blacs_grid.specs.Places.{width, rank_at}
use Rattle.rank_machine.specs.declared.mark.Mark.{Mark}
use Rattle.rank_machine.specs.declared.layout.Layout.{Layout}
use Rattle.rank_machine.specs.Setting.{Setting, layout, group_count}
use Rattle.rank_machine.specs.State.{State}
use Rattle.rank_machine.specs.Effect.{is_live_matrix}
use Rattle.rank_machine.specs.Legal.{lost_columns}
use Rattle.script_lines.specs.declared.lines.Line.{Line}
use Rattle.script_lines.specs.Layouts.{IsLayout}
use Rattle.script_lines.specs.Lines.{setting_on, IsTableOf}
use Rattle.script_lines.proofs.TableLaws.{layout_on, factoring_on}
use Rattle.run_laws.specs.Traces.{matrix_most}
use Rattle.block_world.specs.World.{WorldView, setting_in, state_of}
use Rattle.block_world.specs.declared.world.Did.{Did}
use Rattle.block_world.specs.declared.world.Did.TheVariants as did
use Rattle.recovery_code.specs.Spots.{Spot, spot_under}
use Rattle.recovery_counts.specs.Counted.{round_most}
use Rattle.recovery_rounds.specs.Rows.{IsRowHealed}
use Rattle.recovery_rounds.proofs.StateRounds.{row-whole}
use Rattle.world_heal.specs.Ways.{IfDone, IsUnderWay, rest_of}
use Rattle.world_heal.specs.Mended.{some_in, IsTable, IsMending, HasMended, IsHitMending, AreGroupsHealed, AreRowsHealed, IsMatrixHealed}
use Rattle.world_heal.proofs.Ways.{setting-way, rest_way, run_way, mark-rest}
use Rattle.world_heal.proofs.Steps.{Healed, mended-none, mended-then, mended-so, hit-then}
use Rattle.world_heal.proofs.RowRounds.{live-made}

-- ---- which of two outcomes came
module _ (most : ℕ) (P : Healed) (a b : WorldView) where
  pub when_done : (d : Did) → d ≡ did.Done → IfDone (HasMended most P a b) (IsHitMending most a b) d → HasMended most P a b
  when_done d e h = subst (λ x. IfDone (HasMended most P a b) (IsHitMending most a b) x) e h

  pub when_hit : (d : Did) → d ≡ did.Hit → IfDone (HasMended most P a b) (IsHitMending most a b) d → IsHitMending most a b
  when_hit d e h = subst (λ x. IfDone (HasMended most P a b) (IsHitMending most a b) x) e h

-- ---- one more of several things, each of which takes at most so many records
one_more : (n most : ℕ) → n * most + most ≤ (n + 1) * most
one_more n most = omega arith

one_of : (n all most : ℕ) → n < all → n * most + most ≤ all * most
one_of n all most lt = (let more : (n + 1) * most ≤ all * most = mul-le (n + 1) most all most (omega arith) (omega arith) in let here : (n + 1) * most ≡ n * most + most = omega arith in omega (arith, more, here))

pub one-hit : (a b c : WorldView) (n all most most' : ℕ) (P : Healed) → most' ≡ most → n < all → HasMended (n * most) P a b → IsHitMending most' b c → IsHitMending (all * most) a c
one-hit a b c n all most most' P same lt h hit = hit-then a b c (n * most) most' (all * most) P h hit (omega (arith, same, one_of n all most lt))

-- ---- where a script's table says that a matrix and a group are, and what the world says of it
module _ (w : WorldView) (table : List Line) (line : ℕ) (d : Layout) (is : IsTable (setting_in w) table) (e : d ≡ layout (setting_on 0 table) line) where
  pub laid-on : d ≡ layout (setting_in w) line
  laid-on = e ∙ layout_on (setting_in w) table 0 is.lines line

  pub grid-on : d.grid ≡ (layout (setting_in w) line).grid
  grid-on = ap (λ (z : Layout). z.grid) laid-on

  pub rows-on : d.grid.p ≡ (layout (setting_in w) line).grid.p
  rows-on = ap (λ (z : Layout). z.grid.p) laid-on

spot-on : (s : Setting) (table : List Line) → IsTableOf s.jobs table → (mark : Mark) (line row group : ℕ) → spot_under (setting_on 0 table) mark line row group ≡ spot_under s mark line row group
spot-on s table is mark line row group = λ i. record {
  d = layout_on s table 0 is line i;
  line = line;
  row = row;
  group = group;
  low = (nat_lt 0 line && (factoring_on s table 0 is mark i == line)) && nat_le mark.merged group;
  opened = (nat_lt 0 line && (factoring_on s table 0 is mark i == line)) && mark.opened;
  closed = mark.closed;
}

lost_later : (before now : State) (g : Grid) (row : ℕ) → now.lost ≡ before.lost → lost_columns now g row ≡ lost_columns before g row
lost_later before now g row same = ap (λ (f : ℕ → Bool). map (λ col. f (rank_at g row col)) (range_with_len 0 (width g))) same

-- a spot is one of a live matrix in a world, and its lost columns are known
pub record IsSpotOf (w : WorldView) (x : Spot) (lost : List Bool) : Type 0 where
  pub live : is_live_matrix (setting_in w) (rest_of w).mark x.line ≡ true
  pub place : x ≡ spot_under (setting_in w) (rest_of w).mark x.line x.row x.group
  pub laid_out : IsLayout x.d
  pub row_in : x.row < x.d.grid.p
  pub group_in : x.group < group_count x.d
  pub columns : lost ≡ lost_columns (state_of w) x.d.grid x.row

module _ (a b : WorldView) (table : List Line) (d : Layout) (line row group : ℕ) (mark : Mark) (x : Spot) (u : IsUnderWay a b) (is : IsTable (setting_in a) table) (laid : d ≡ layout (setting_in a) line) (marked : mark ≡ (state_of b).mark)
    (placed : x ≡ spot_under (setting_on 0 table) mark line row group) where
  in_b : x ≡ spot_under (setting_in b) (rest_of b).mark line row group
  in_b =
      let s = setting-way a b u in
      let m = marked ∙ mark-rest b in
      placed ∙ (spot-on (setting_in a) table is.lines mark line row group ∙ (λ i. spot_under (sym s i) (m i) line row group))

  layout_b : d ≡ layout (setting_in b) line
  layout_b = laid ∙ ap (λ s. layout s line) (sym (setting-way a b u))

  pub spot-of : (lost : List Bool) → is_live_matrix (setting_in a) (rest_of a).mark line ≡ true → IsLayout d → row < d.grid.p → group < group_count d → lost ≡ lost_columns (state_of a) d.grid row → IsSpotOf b x lost
  spot-of lost live laid_out hr hg are =
      let e = sym in_b in
      let s = setting-way a b u in
      let r = rest_way a b u in
      let live_b : is_live_matrix (setting_in b) (rest_of b).mark line ≡ true = (λ i. is_live_matrix (s i) (r i).mark line) ∙ live in
      let lost_b : lost ≡ lost_columns (state_of b) d.grid row = are ∙ sym (lost_later (state_of a) (state_of b) d.grid row (run_way a b u).lost) in
      record {
        live = subst (λ (y : Spot). is_live_matrix (setting_in b) (rest_of b).mark y.line ≡ true) e live_b;
        place = subst (λ (y : Spot). y ≡ spot_under (setting_in b) (rest_of b).mark y.line y.row y.group) e refl;
        laid_out = subst (λ (y : Spot). IsLayout y.d) e (subst IsLayout layout_b laid_out);
        row_in = subst (λ (y : Spot). y.row < y.d.grid.p) e (subst (λ (z : Layout). row < z.grid.p) layout_b hr);
        group_in = subst (λ (y : Spot). y.group < group_count y.d) e (subst (λ (z : Layout). group < group_count z) layout_b hg);
        columns = subst (λ (y : Spot). lost ≡ lost_columns (state_of b) y.d.grid y.row) e (subst (λ (z : Layout). lost ≡ lost_columns (state_of b) z.grid row) layout_b lost_b);
      }

  pub spot-most : round_most x.d ≡ round_most d
  spot-most = ap (λ (y : Spot). round_most y.d) in_b ∙ ap round_most (sym layout_b)

  pub spot-mended : (c : WorldView) → HasMended (round_most x.d) (λ (s : Setting) (last now : State). IsRowHealed s last now x.line x.row x.group) b c → HasMended (round_most d) (λ (s : Setting) (last now : State). IsRowHealed s last now line row group) b c
  spot-mended c h =
      subst (λ n. HasMended n (λ (s : Setting) (last now : State). IsRowHealed s last now line row group) b c) (ap round_most (sym layout_b))
      (subst (λ (y : Spot). HasMended (round_most y.d) (λ (s : Setting) (last now : State). IsRowHealed s last now y.line y.row y.group) b c) in_b h)

-- ---- the groups of a process row
pub groups-none : (w : WorldView) (line row most : ℕ) → IsMending w → HasMended (0 * most) (AreGroupsHealed line row 0) w w
groups-none w line row most h =
    mended-so w w 0 (0 * most) (AreGroupsHealed line row 0) (AreGroupsHealed line row 0) (mended-none w (AreGroupsHealed line row 0) h (λ group lt. absurd (omega (arith, lt)))) (omega arith) (λ x. x)

pub groups-more : (a b c : WorldView) (line row n most : ℕ) → is_live_matrix (setting_in a) (rest_of a).mark line ≡ true → row < (layout (setting_in a) line).grid.p → n < group_count (layout (setting_in a) line)
    → HasMended (n * most) (AreGroupsHealed line row n) a b → HasMended most (λ (s : Setting) (last now : State). IsRowHealed s last now line row n) b c → HasMended ((n + 1) * most) (AreGroupsHealed line row (n + 1)) a c
groups-more a b c line row n most live hr hg h k =
    mended-so a c (n * most + most) ((n + 1) * most) (AreGroupsHealed line row (n + 1)) (AreGroupsHealed line row (n + 1))
    (mended-then a b c (n * most) most (AreGroupsHealed line row n) (λ (s : Setting) (last now : State). IsRowHealed s last now line row n) (AreGroupsHealed line row (n + 1)) h k
    (λ before keeps here group lt.
    elim (cases_lt group n) [
      | inl early ↦ keeps.rows line row group live hr (omega (arith, early, hg)) (before group early)
      | inr late ↦ (let same : n ≡ group = omega (arith, late, lt) in subst (λ k. IsRowHealed (setting_in a) (rest_of a) (state_of c) line row k) same here)
    ]))
    (one_more n most) (λ x. x)

-- all of them
pub groups-all : (a b : WorldView) (line row n groups most : ℕ) → n ≡ groups → HasMended (n * most) (AreGroupsHealed line row n) a b → HasMended (groups * most) (AreGroupsHealed line row groups) a b
groups-all a b line row n groups most e h = subst (λ k. HasMended (k * most) (AreGroupsHealed line row k) a b) e h

-- ---- a process row that lost no rank
none_in : (bs : List Bool) (i : ℕ) → some_in bs ≡ false → slice_index_or bs i false ≡ false
none_in [] i h = refl
none_in (b ∷ bs) zero h = (or_parts b (some_in bs) h).0
none_in (b ∷ bs) (suc i) h = none_in bs i (or_parts b (some_in bs) h).1

none_lost : (st : State) (g : Grid) (row : ℕ) → some_in (lost_columns st g row) ≡ false → (col : ℕ) → col < width g → st.lost (rank_at g row col) ≡ false
none_lost st g row h col lt = sym (get_or-map-range_with_len (λ col. st.lost (rank_at g row col)) 0 (width g) col col false lt (omega arith)) ∙ none_in (lost_columns st g row) col h

pub row-passed : (w : WorldView) (line row : ℕ) (lost : List Bool) (d : Layout) → IsMending w → is_live_matrix (setting_in w) (rest_of w).mark line ≡ true → row < (layout (setting_in w) line).grid.p → d ≡ layout (setting_in w) line → lost ≡ lost_columns (state_of w) d.grid row
    → some_in lost ≡ false → HasMended (group_count (layout (setting_in w) line) * round_most (layout (setting_in w) line)) (AreGroupsHealed line row (group_count (layout (setting_in w) line))) w w
row-passed w line row lost d h live hr same are none =
    let s = setting_in w in
    let e = layout s line in
    let all = AreGroupsHealed line row (group_count e) in
    let none_now : some_in (lost_columns (state_of w) e.grid row) ≡ false = subst (λ (z : Layout). some_in (lost_columns (state_of w) z.grid row) ≡ false) same (subst (λ bs. some_in bs ≡ false) are none) in
    mended-so w w 0 (group_count e * round_most e) all all
    (mended-none w all h (λ group lt. row-whole s (rest_of w) (state_of w) line row group h.healing (h.mendable.of_run line (live-made s (rest_of w).mark line live)) hr (none_lost (state_of w) e.grid row none_now)))
    (omega arith) (λ x. x)

-- ---- the process rows of a matrix
abbrev pub row_most : Layout → ℕ
row_most d = group_count d * round_most d

all_rows : (d : Layout) → d.grid.p * row_most d ≡ matrix_most d
all_rows d = counted d.grid.p (group_count d) d.grid.f ((9 * d.grid.q + 9 * d.grid.f) + 3)
  where
    counted : (p groups f most : ℕ) → p * (groups * (f * most)) ≡ ((p * groups) * f) * most
    counted p groups f most = omega arith

pub rows-none : (w : WorldView) (line most : ℕ) → IsMending w → HasMended (0 * most) (AreRowsHealed line 0) w w
rows-none w line most h =
    mended-so w w 0 (0 * most) (AreRowsHealed line 0) (AreRowsHealed line 0) (mended-none w (AreRowsHealed line 0) h (λ row lt. absurd (omega (arith, lt)))) (omega arith) (λ x. x)

module _ (a b : WorldView) (line n : ℕ) (h : HasMended (n * row_most (layout (setting_in a) line)) (AreRowsHealed line n) a b) where
  here : setting_in b ≡ setting_in a
  here = setting-way a b h.under_way

  pub rows-table : (table : List Line) → IsTable (setting_in a) table → IsTable (setting_in b) table
  rows-table table is = subst (λ s. IsTable s table) (sym here) is

  pub rows-live : is_live_matrix (setting_in a) (rest_of a).mark line ≡ true → is_live_matrix (setting_in b) (rest_of b).mark line ≡ true
  rows-live live = (let r = rest_way a b h.under_way in (λ i. is_live_matrix (here i) (r i).mark line) ∙ live)

  pub rows-in : (row : ℕ) → row < (layout (setting_in a) line).grid.p → row < (layout (setting_in b) line).grid.p
  rows-in row hr = subst (λ s. row < (layout s line).grid.p) (sym here) hr

  pub rows-more : (c : WorldView) → is_live_matrix (setting_in a) (rest_of a).mark line ≡ true → n < (layout (setting_in a) line).grid.p
      → HasMended (row_most (layout (setting_in b) line)) (AreGroupsHealed line n (group_count (layout (setting_in b) line))) b c → HasMended ((n + 1) * row_most (layout (setting_in a) line)) (AreRowsHealed line (n + 1)) a c
  rows-more c live hr k =
      let d = layout (setting_in a) line in
      let k' : HasMended (row_most d) (AreGroupsHealed line n (group_count d)) b c = subst (λ s. HasMended (row_most (layout s line)) (AreGroupsHealed line n (group_count (layout s line))) b c) here k in
      mended-so a c (n * row_most d + row_most d) ((n + 1) * row_most d) (AreRowsHealed line (n + 1)) (AreRowsHealed line (n + 1))
      (mended-then a b c (n * row_most d) (row_most d) (AreRowsHealed line n) (AreGroupsHealed line n (group_count d)) (AreRowsHealed line (n + 1)) h k'
      (λ before keeps now row lt.
      elim (cases_lt row n) [
        | inl early ↦ λ group hg. keeps.rows line row group live (omega (arith, early, hr)) hg (before row early group hg)
        | inr late ↦ (let same : n ≡ row = omega (arith, late, lt) in subst (λ k. AreGroupsHealed line k (group_count d) (setting_in a) (rest_of a) (state_of c)) same now)
      ]))
      (one_more n (row_most d)) (λ x. x)

  pub rows-hit : (c : WorldView) → n < (layout (setting_in a) line).grid.p → IsHitMending (row_most (layout (setting_in b) line)) b c → IsHitMending (matrix_most (layout (setting_in a) line)) a c
  rows-hit c hr hit =
      let d = layout (setting_in a) line in
      subst (λ k. IsHitMending k a c) (all_rows d)
      (one-hit a b c n d.grid.p (row_most d) (row_most (layout (setting_in b) line)) (AreRowsHealed line n) (ap (λ s. row_most (layout s line)) here) hr h hit)

  pub rows-all : n ≡ (layout (setting_in a) line).grid.p → HasMended (matrix_most (layout (setting_in a) line)) (IsMatrixHealed line) a b
  rows-all e =
      let d = layout (setting_in a) line in
      subst (λ k. HasMended k (IsMatrixHealed line) a b) (all_rows d)
      (mended-so a b (n * row_most d) (d.grid.p * row_most d) (AreRowsHealed line n) (IsMatrixHealed line) h (all_same n d.grid.p (row_most d) e) (λ x. subst (λ k. AreRowsHealed line k (setting_in a) (rest_of a) (state_of b)) e x))
    where
      all_same : (n all most : ℕ) → n ≡ all → n * most ≤ all * most
      all_same n all most e = rw e (omega arith)
