-- The round of a process row and a group in a recovery: what it asks, and what it leaves.
use Rattle.std.specs.Prelude.{slice_index_or, nat_le}
use Rattle.std.proofs.Common.{◌≡◌, ℕ, ◌+◌, ◌*◌, ◌<◌, ◌≤◌, ◌&&◌, not, nat_lt, Bool, true, false, List, [], ◌++◌, length, count_by, refl, sym, ap, subst, ◌∙◌, arith, inl, inr, All}
use Rattle.std.proofs.lemmas.Bool.{and_parts, cases_eq, ltb-true}
use Rattle.std.proofs.lemmas.Nat.{mul-le}
use Rattle.std.proofs.lemmas.List.FromFn.{length-map-range_with_len, get_or-map-range_with_len}
use Rattle.field_core.specs.Residue.{inverse}
use Rattle.array_desc.proofs.GroupLaws.{groups-reached}
use Rattle.blacs_grid.specs.declared.Grid.{Grid}
use Rattle.blacs_grid.specs.Places.{width, rank_at}
use Rattle.blacs_grid.proofs.PlaceLaws.{is_member-from}
use Rattle.rank_run.specs.Parts as parts
use Rattle.rank_run.specs.declared.run.Ran.{Ran}
use Rattle.rank_run.specs.declared.run.Ran.TheVariants as ran
use Rattle.rank_run.specs.Action.{Action}
use Rattle.rank_machine.specs.declared.slot.Piece.{Piece}
use Rattle.rank_machine.specs.declared.kernel.Kernel.{Kernel}
use Rattle.rank_machine.specs.declared.mark.Mark.{Mark}
use Rattle.rank_machine.specs.declared.slot.SlotKind.TheVariants.{Pivots}
use Rattle.rank_machine.specs.declared.layout.Layout.{Layout}
use Rattle.rank_machine.specs.Setting.{Setting, ranks, layout, is_matrix, factored, group_count}
use Rattle.rank_machine.specs.State.{State}
use Rattle.rank_machine.specs.Effect.{replay, has_ended, is_dropped, is_live_matrix, is_live_list}
use Rattle.rank_machine.specs.Legal.{lost_columns, IsLegalFrom}
use Rattle.rank_machine.specs.CodeLaw.{slot_at}
use Rattle.rank_slots.specs.Stands.{records_of}
use Rattle.script_lines.specs.Layouts.{IsLayout}
use Rattle.script_lines.specs.Sound.{IsSound}
use Rattle.round_laws.specs.Turns.{IsGridOf}
use Rattle.run_laws.specs.Cuts.{IsWithin}
use Rattle.block_world.specs.World.{WorldView, setting_in, state_of}
use Rattle.block_world.specs.Rounds.{IsRoundOf}
use Rattle.recovery_laws.proofs.Factored.{count-lost}
use Rattle.recovery_rounds.specs.Mending.{Events}
use Rattle.recovery_rounds.specs.Rows.{row_events, IsHealing, AreCoefficients, IsRowHealed, IsListHealed, LeavesOthers}
use Rattle.recovery_rounds.proofs.StateRounds.{round-legal, round-heals, round-leaves, round-goes_on}
use Rattle.recovery_rounds.proofs.Stays.{row-stays}
use Rattle.recovery_words.proofs.RowSizes.{row-ends_roomy, row-holds}
use Rattle.recovery_code.specs.Spots.{Spot, spot_under, row_data_at, row_code_at, Decode}
use Rattle.recovery_code.proofs.Spotted.{row_is}
use Rattle.recovery_counts.specs.Counted.{round_most}
use Rattle.recovery_counts.proofs.StripCounts.{few-round}
use Rattle.recovery_counts.proofs.Judged.{matrix-few}
use Rattle.world_heal.specs.Ways.{rest_of}
use Rattle.world_heal.specs.Mended.{IsMendable, IsMending, KeepsHealed, HasMended, IsHitMending}
use Rattle.world_heal.proofs.Steps.{EndsRoomy, HoldsRound, mended-round, hit-round}
use Rattle.world_heal.proofs.Within.{row-within}

-- ---- what is live
pub live-made : (s : Setting) (mark : Mark) (line : ℕ) → is_live_matrix s mark line ≡ true → is_matrix s line ≡ true
live-made s mark line live = (and_parts (is_matrix s line) (has_ended mark line) (and_parts (is_matrix s line && has_ended mark line) (not (is_dropped s mark line)) live).0).0

pub list-factors : (s : Setting) (mark : Mark) (line : ℕ) → is_live_list s mark line ≡ true → 0 < factored s line
list-factors s mark line live =
    ltb-true 0 (factored s line) (and_parts (nat_lt 0 (factored s line)) (nat_le line mark.line) (and_parts (nat_lt 0 (factored s line) && nat_le line mark.line) (not (is_dropped s mark line)) live).0).0

-- ---- there are few groups
pub group-few : (d : Layout) (group : ℕ) → IsLayout d → group < group_count d → group < 65536
group-few d group h lt =
    let some_nb : 0 < d.desc.nb = omega (arith, h.desc.some_block_columns) in
    let some_q : 0 < d.grid.q = omega (arith, h.grid.some_columns) in
    let top : d.desc.n ≤ 1024 = h.desc.columns in
    let a : group * d.grid.q * d.desc.nb < d.desc.n = (groups-reached d.desc.n d.desc.nb d.grid.q some_nb some_q group).0 lt in
    let b = mul-le group 1 group d.grid.q (omega arith) (omega (arith, some_q)) in
    let c = mul-le (group * 1) 1 (group * d.grid.q) d.desc.nb b (omega (arith, some_nb)) in
    omega (arith, a, c, top)

-- ---- which columns are lost
columns : (st : State) (g : Grid) (row : ℕ) → length (lost_columns st g row) ≡ width g
columns st g row = length-map-range_with_len (λ col. st.lost (rank_at g row col)) 0 (width g)

lost_at : (st : State) (g : Grid) (row col : ℕ) → col < width g → slice_index_or (lost_columns st g row) col false ≡ st.lost (rank_at g row col)
lost_at st g row col h = get_or-map-range_with_len (λ col. st.lost (rank_at g row col)) 0 (width g) col col false h (omega arith)

few_columns : (s : Setting) (last now : State) (line row : ℕ) → IsMendable s → IsHealing s last now → IsWithin s now → is_live_matrix s last.mark line ≡ true → row < (layout s line).grid.p
    → count_by (λ b. b) (lost_columns now (layout s line).grid row) ≤ (layout s line).grid.f
few_columns s last now line row mendable healing within live hr =
    let made : is_matrix s line ≡ true = live-made s last.mark line live in
    let live' : is_live_matrix s now.mark line ≡ true = ap (λ m. is_live_matrix s m line) healing.back.mark ∙ live in
    omega (arith, count-lost now (layout s line).grid row, matrix-few s now line within live' (mendable.there line made) (mendable.on_grid line made) row hr)

-- ---- a round that heals a process row and a group
pub record HealsRow (s : Setting) (last now : State) (most line row group : ℕ) (es : Events) : Type 0 where
  pub links : (from to : ℕ) → now.links from to ≡ []
  pub within : All (parts.IsWithin (ranks s)) es
  pub legal : IsLegalFrom s now (records_of es)
  pub few : length (records_of es) ≤ most
  pub healing : IsHealing s last (replay s now (records_of es))
  pub keeps : KeepsHealed s last now (replay s now (records_of es))
  pub healed : IsRowHealed s last (replay s now (records_of es)) line row group
  pub roomy : EndsRoomy s last now es
  pub holds : HoldsRound s last now es

module _ (s : Setting) (last now : State) (line row group : ℕ) (coefficients : ℕ → List ℕ) (mendable : IsMendable s) (healing : IsHealing s last now) (live : is_live_matrix s last.mark line ≡ true)
    (hr : row < (layout s line).grid.p) (hg : group < group_count (layout s line)) (given : AreCoefficients s now (layout s line).grid row coefficients) where
  of_run : IsGridOf s (layout s line).grid
  of_run = mendable.of_run line (live-made s last.mark line live)

  next : State
  next = replay s now (records_of (row_events s last now line row group coefficients))

  heals : IsRowHealed s last next line row group
  unfolding next
  heals = round-heals s last now line row group coefficients healing live of_run hr hg given

  left : LeavesOthers s last now next line row group
  unfolding next
  left = round-leaves s last now line row group coefficients healing live of_run hr hg given

  rows_stay : (line' row' group' : ℕ) → is_live_matrix s last.mark line' ≡ true → row' < (layout s line').grid.p → IsRowHealed s last now line' row' group' → IsRowHealed s last next line' row' group'
  rows_stay line' row' group' live' hr' h =
      let stays = row-stays s last now next line row group left line' row' group' (mendable.of_run line' (live-made s last.mark line' live')) hr' in
      elim (cases_eq line' line) [
        | inl same_line ↦
            elim (cases_eq row' row) [
              | inl same_row ↦
                  elim (cases_eq group' group) [
                    | inl same_group ↦
                        subst (λ l. IsRowHealed s last next l row' group') (sym same_line)
                        (subst (λ r. IsRowHealed s last next line r group') (sym same_row) (subst (λ g. IsRowHealed s last next line row g) (sym same_group) heals))
                    | inr ne ↦ stays (record { differ = λ l g. absurd (ne g) }) h
                  ]
              | inr ne ↦ stays (record { differ = λ l g. ne }) h
            ]
        | inr ne ↦ stays (record { differ = λ l g. absurd (ne l) }) h
      ]

  lists_stay : (line' : ℕ) → is_live_list s last.mark line' ≡ true → IsListHealed s last now line' → IsListHealed s last next line'
  lists_stay line' live' h =
      let g = (layout s (factored s line')).grid in
      let of = mendable.of_run (factored s line') (mendable.matrices line' (list-factors s last.mark line' live')) in
      record {
        same = λ place lt.
            (let there : g.first + place < ranks s = of.ranks (g.first + place) (is_member-from g (g.first + place) (omega arith) (omega arith)) in
            left.other_slots (g.first + place) (slot_at Pivots line' 0) there refl refl refl refl refl ∙ h.same place lt);
      }

  row-heals : IsWithin s now → HealsRow s last now (round_most (layout s line)) line row group (row_events s last now line row group coefficients)
  unfolding next
  row-heals within = record {
    links = healing.quiet.links;
    within = row-within s last now line row group coefficients of_run hr;
    legal = round-legal s last now line row group coefficients healing live of_run hr hg given;
    few = few-round s last now line row group coefficients (omega (arith, count-lost now (layout s line).grid row, few_columns s last now line row mendable healing within live hr));
    healing = round-goes_on s last now line row group coefficients healing live of_run hr hg given;
    keeps = record { rows = λ line' row' group' live' hr' hg' h. rows_stay line' row' group' live' hr' h; lists = lists_stay };
    healed = heals;
    roomy = row-ends_roomy s last now line row group coefficients healing live hr hg;
    holds = λ roomy measured. row-holds s last now line row group coefficients measured healing live hr hg roomy;
  }

-- ---- as the code makes it
module _ (s : Setting) (last now : State) (line row group : ℕ) (x : Spot) (lost : List Bool) (spot : x ≡ spot_under s last.mark line row group) (lost_is : lost ≡ lost_columns now x.d.grid row) where
  matrix_is : x.d ≡ layout s line
  matrix_is = ap (λ (z : Spot). z.d) spot

  lost_there : lost ≡ lost_columns now (layout s line).grid row
  lost_there = lost_is ∙ ap (λ (d : Layout). lost_columns now d.grid row) matrix_is

  pub as-many : length lost ≡ width x.d.grid
  as-many = ap length lost_is ∙ columns now x.d.grid row

  pub few-lost : IsMendable s → IsHealing s last now → IsWithin s now → is_live_matrix s last.mark line ≡ true → row < x.d.grid.p → count_by (λ b. b) lost ≤ x.d.grid.f
  few-lost mendable healing within live hr =
      subst (λ (d : Layout). row < d.grid.p → count_by (λ b. b) lost ≤ d.grid.f) (sym matrix_is)
      (λ hr'. subst (λ l. count_by (λ b. b) l ≤ (layout s line).grid.f) (sym lost_there) (few_columns s last now line row mendable healing within live hr'))
      hr

  -- what decodes on the spot decodes in the setting
  decodes : (p : ℕ) (coefficients : ℕ → List ℕ) → s.modulus ≡ p → s.inverse ≡ inverse p → Decode p (inverse p) x lost x.d.grid.q coefficients → AreCoefficients s now (layout s line).grid row coefficients
  decodes p ks modulus inverses h =
      let here : Decode s.modulus s.inverse x lost x.d.grid.q ks =
      subst (λ m. Decode m s.inverse x lost x.d.grid.q ks) (sym modulus) (subst (λ f. Decode p f x lost x.d.grid.q ks) (sym inverses) h) in
      let there : Decode s.modulus s.inverse (spot_under s last.mark line row group) (lost_columns now (layout s line).grid row) (layout s line).grid.q ks =
      subst (λ (z : Spot). Decode s.modulus s.inverse z (lost_columns now (layout s line).grid row) z.d.grid.q ks) spot (subst (λ l. Decode s.modulus s.inverse x l x.d.grid.q ks) lost_there here) in
      record { decode = λ which hw is_lost. there.each which hw (lost_at now (layout s line).grid row which (omega arith) ∙ is_lost) }

  -- the events are those of the round
  events_are : (p : ℕ) (coefficients : ℕ → List ℕ) → s.inverse ≡ inverse p → row_data_at x lost coefficients x.d.grid.q ++ row_code_at (inverse p) x lost x.d.grid.f ≡ row_events s last now line row group coefficients
  events_are p ks inverses =
      (λ i. row_data_at (spot i) (lost_there i) ks (spot i).d.grid.q ++ row_code_at (sym inverses i) (spot i) (lost_there i) (spot i).d.grid.f)
      ∙ row_is s last now line row group ks

  pub code-heals : (p : ℕ) (es : Events) → IsMendable s → IsHealing s last now → IsWithin s now → is_live_matrix s last.mark line ≡ true → row < x.d.grid.p → group < group_count x.d → s.modulus ≡ p → s.inverse ≡ inverse p
      → ((coefficients : ℕ → List ℕ) × Decode p (inverse p) x lost x.d.grid.q coefficients × (es ≡ row_data_at x lost coefficients x.d.grid.q ++ row_code_at (inverse p) x lost x.d.grid.f))
      → HealsRow s last now (round_most x.d) line row group es
  code-heals p es mendable healing within live hr hg modulus inverses h =
      let hr' : row < (layout s line).grid.p = subst (λ (d : Layout). row < d.grid.p) matrix_is hr in
      let hg' : group < group_count (layout s line) = subst (λ (d : Layout). group < group_count d) matrix_is hg in
      subst (λ (d : Layout). HealsRow s last now (round_most d) line row group es) (sym matrix_is)
      (subst (HealsRow s last now (round_most (layout s line)) line row group) (sym (h.2 ∙ events_are p h.0 inverses))
      (row-heals s last now line row group h.0 mendable healing live hr' hg' (decodes p h.0 modulus inverses h.1) within))

-- ---- on a world
pub code-mends : (w : WorldView) (p : ℕ) (x : Spot) (lost : List Bool) (line row group : ℕ) (before es : Events) → IsMending w → is_live_matrix (setting_in w) (rest_of w).mark line ≡ true → x ≡ spot_under (setting_in w) (rest_of w).mark line row group
    → row < x.d.grid.p → group < group_count x.d → lost ≡ lost_columns (state_of w) x.d.grid row → IsSound p (setting_in w) → before ≡ []
    → ((coefficients : ℕ → List ℕ) × Decode p (inverse p) x lost x.d.grid.q coefficients × (es ≡ before ++ (row_data_at x lost coefficients x.d.grid.q ++ row_code_at (inverse p) x lost x.d.grid.f)))
    → HealsRow (setting_in w) (rest_of w) (state_of w) (round_most x.d) line row group es
code-mends w p x lost line row group before es mending live spot hr hg lost_is sound none h =
    code-heals (setting_in w) (rest_of w) (state_of w) line row group x lost spot lost_is p es mending.mendable mending.healing mending.within live hr hg sound.modulus (ap inverse sound.modulus)
    (h.0, h.1, h.2 ∙ ap (λ l. l ++ (row_data_at x lost h.0 x.d.grid.q ++ row_code_at (inverse p) x lost x.d.grid.f)) none)

pub row-mended : (w w' : WorldView) (es : Events) (order order' : List ℕ) (ended : Ran) (most line row group : ℕ) → IsMending w → HealsRow (setting_in w) (rest_of w) (state_of w) most line row group es
    → ended ≡ ran.Whole → ((noted : List (Action Kernel Piece)) × IsRoundOf w w' es order order' ended noted) → HasMended most (λ s last now. IsRowHealed s last now line row group) w w'
row-mended w w' es order order' ended most line row group mending h whole made =
    let made' = subst (λ e. (noted : List (Action Kernel Piece)) × IsRoundOf w w' es order order' e noted) whole made in
    mended-round w w' es order order' made'.0 most h.few (λ s last now. IsRowHealed s last now line row group) made'.1 mending h.healing h.keeps h.healed h.roomy h.holds

pub row-hit : (w w' : WorldView) (es : Events) (order order' : List ℕ) (ended : Ran) (most line row group : ℕ) → HealsRow (setting_in w) (rest_of w) (state_of w) most line row group es
    → ended ≡ ran.Hit → ((noted : List (Action Kernel Piece)) × IsRoundOf w w' es order order' ended noted) → IsHitMending most w w'
row-hit w w' es order order' ended most line row group h hit made =
    let made' = subst (λ e. (noted : List (Action Kernel Piece)) × IsRoundOf w w' es order order' e noted) hit made in
    hit-round w w' es order order' made'.0 most h.few made'.1 h.holds
