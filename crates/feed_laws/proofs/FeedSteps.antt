-- The steps of a phase that brings a matrix from a file: it begins, a strip is fed, a group is coded, and it ends.
use Rattle.std.proofs.Common.{◌≡◌, ◌≢◌, ◌+◌, ◌-◌, ◌*◌, ◌/◌, ◌%◌, ◌<◌, ◌≤◌, ◌==◌, ◌&&◌, ◌||◌, ℕ, Bool, true, false, not, nat_lt, nat_le, Some, None, is_some, [], refl, sym, ap, subst, ◌∙◌, ⊎_elim, IsTrue, arith}
use Rattle.std.specs.Prelude.{if◌then◌else◌}
use Rattle.std.proofs.lemmas.Bool.{cases_Bool, cases_lt, cases_eq, and_parts, and_from, and_right, or_right, or_from, eqb-true, eq-eqb, ne_eqb, lt-ltb, ltb-true, le-ltb, true≢false, false_from_ne_true}
use Rattle.field_core.proofs.Sums.{sum_to-same}
use Rattle.cauchy_code.specs.Cauchy.{weight}
use Rattle.run_data.specs.Matrix.{entry}
use Rattle.array_desc.specs.declared.Desc.{Desc}
use Rattle.blacs_grid.specs.declared.Grid.{Grid}
use Rattle.blacs_grid.specs.Places.{width, row_of, col_of, rank_at, is_member, is_data_rank, is_code_rank}
use Rattle.blacs_grid.proofs.PlaceLaws.{width-pos, is_member-rank_at, row_of-lt, rank_at-coords, same_place, is_data_rank-rank_at, is_data_rank-member, is_data_rank-col}
use Rattle.rank_machine.specs.declared.slot.Slot.{Slot}
use Rattle.rank_machine.specs.declared.slot.SlotKind.TheVariants.{Data, Code}
use Rattle.rank_machine.specs.declared.slot.Tile.TheVariants.{Words}
use Rattle.rank_machine.specs.declared.mark.Mark.{Mark}
use Rattle.rank_machine.specs.declared.record.Rec.TheVariants as r
use Rattle.rank_machine.specs.declared.layout.Layout.{Layout}
use Rattle.rank_machine.specs.Setting.{Setting, ranks, grid_of_rank, job, layout, is_matrix, factored, group_count, strip_of}
use Rattle.rank_machine.specs.State.{State, same_kind, same_slot, end_mark}
use Rattle.rank_machine.specs.Effect.{words_of, strip, after, is_live, is_live_matrix, is_dropped, has_ended, current}
use Rattle.rank_machine.specs.Legal.{IsFeed, some_lost, may_go, is_path}
use Rattle.rank_machine.specs.CodeLaw.{slot_at, CodeLaw, MatrixLaw, data_word, is_strip_of}
use Rattle.rank_machine.specs.Held.{size_of}
use Rattle.rank_machine.proofs.Base.{same_slot-true}
use Rattle.rank_slots.specs.Stands.{records_of}
use Rattle.rank_slots.proofs.CellLaws.{same_slot-refl}
use Rattle.round_laws.specs.Holdings.{holding, may_put}
use Rattle.round_laws.specs.Turns.{Replays, IsQuiet, on_grid, held_on}
use Rattle.run_laws.specs.LastCommit.{IsRest}
use Rattle.run_laws.specs.NextMark.{is_factored_under}
use Rattle.dist_matrix.specs.Encode.{work_slot, group_events}
use Rattle.dist_matrix.specs.Encode.{HasCodeStrips, CanEncode, with_code}
use Rattle.dist_matrix.proofs.CodeStrips.{held_after, encode_replays, has_code_strips}
use Rattle.phase_frames.specs.Groups.{HoldsGroup}
use Rattle.phase_frames.proofs.GroupLaws.{HoldsGroup-strip, MatrixLaw-groups, HasCodeStrips-kept}
use Rattle.phases.specs.declared.phase.Next.{Next}
use Rattle.phases.specs.declared.phase.Next.TheVariants as n
use Rattle.phases.specs.Plans.{CanStart, GoesOn}
use Rattle.phases.specs.Words.{AddThrough}
use Rattle.phase_frames.specs.Touching.{IsCapped}
use Rattle.run_laws.proofs.LawFrame.{CodeLaw-next_mark}
use Rattle.phase_frames.proofs.Touched.{elsewhere, untouched, may_put-stays}
use Rattle.phase_frames.proofs.Capped.{capped_through, capped_feed}
use Rattle.feed_laws.specs.Feeding.{FeedTask, MayFeed, HasFed, IsFeedable, FeedStands, feeds, rounds, strip_number, feed_at, code_of, answer_of, feed_plan, feed_progress, feed_words, feed_cap, is_own, strip_words}
use Rattle.feed_laws.specs.Begins.{is_current, not_live}
use Rattle.feed_laws.proofs.Numbers.{number_below, group_at, row_at, col_at, number_back, place_back, records_few}
use Rattle.feed_laws.proofs.Caps.{adds_words, strip_size, own_data, own_room, is_coding, encode_writes, coding_own, encode_caps}

module _ (s : Setting) (base : State) (t : FeedTask) (h : MayFeed s base t) (rest : IsRest s base) where
  abbrev d : Layout
  d = t.layout

  abbrev mark : Mark
  mark = end_mark t.line

  laid : IsFeedable d t.file
  laid = h.feedable

  some_p : 0 < d.grid.p
  some_p = omega (arith, laid.laid_out.grid.some_rows)

  some_q : 0 < d.grid.q
  some_q = omega (arith, laid.laid_out.grid.some_columns)

  wide : (col : ℕ) → col < d.grid.q → col < width d.grid
  wide col hc = omega (arith, hc)

  wide_code : (c : ℕ) → c < d.grid.f → d.grid.q + c < width d.grid
  wide_code c hc = omega (arith, hc)

  -- ---- what is not there yet
  no_data : (rank group : ℕ) → base.tiles rank (slot_at Data t.line group) ≡ None
  no_data rank group = rest.nothing_else rank (slot_at Data t.line group) (and_right (is_data_rank (layout s t.line).grid rank && nat_lt group (group_count (layout s t.line))) (is_live_matrix s base.mark t.line) (not_live s base t h))

  no_code : (rank group : ℕ) → base.tiles rank (slot_at Code t.line group) ≡ None
  no_code rank group = rest.nothing_else rank (slot_at Code t.line group) (and_right (is_code_rank (layout s t.line).grid rank && nat_lt group (group_count (layout s t.line))) (is_live_matrix s base.mark t.line) (not_live s base t h))

  no_work : (rank : ℕ) → base.tiles rank work_slot ≡ None
  no_work rank = rest.nothing_else rank work_slot refl

  may_new : (st : State) (rank : ℕ) (slot : Slot) → st.tiles rank slot ≡ None → may_put (holding st rank) slot ≡ true
  may_new st rank slot none = or_right (st.fresh rank slot || is_some (st.saved rank slot)) (not (is_some (st.tiles rank slot))) (ap (λ o. not (is_some o)) none)

  pub begins : FeedStands t 0 s base base
  begins = record {
    live = refl;
    saved = refl;
    mark = refl;
    lost = refl;
    links = rest.links;
    fed = λ group row col hg hr hc lt. absurd (omega (arith, lt));
    unfed = λ group row col hg hr hc le. no_data (rank_at d.grid row col) group;
    coded = λ group hg lt. absurd (omega (arith, lt));
    uncoded = λ group row c hg hr hc le. may_new base (rank_at d.grid row (d.grid.q + c)) (slot_at Code t.line group) (no_code (rank_at d.grid row (d.grid.q + c)) group);
    works = λ row c hr hc. may_new base (rank_at d.grid row (d.grid.q + c)) work_slot (no_work (rank_at d.grid row (d.grid.q + c)));
    rest = λ rank slot e. refl;
    capped = λ rank slot. omega arith;
  }

  module _ (calls : ℕ) (now : State) (stands : FeedStands t calls s base now) where
    live_at : (rank : ℕ) → rank < ranks s → now.live rank ≡ true
    live_at rank lt = ap (λ f. f rank) stands.live ∙ rest.live rank ∙ lt-ltb rank (ranks s) lt

    line_now : current s now.mark ≡ t.line
    line_now = ap (current s) stands.mark ∙ sym (is_current s base t h)

    -- ---- a strip is fed
    module _ (lt : calls < feeds d) where
      abbrev group : ℕ
      group = calls / d.grid.q / d.grid.p

      abbrev row : ℕ
      row = calls / d.grid.q % d.grid.p

      abbrev col : ℕ
      col = calls % d.grid.q

      abbrev rank : ℕ
      rank = rank_at d.grid row col

      abbrev slot : Slot
      slot = slot_at Data t.line group

      hg : group < group_count d
      hg = group_at d calls some_p some_q lt

      hr : row < d.grid.p
      hr = row_at d calls some_p

      hc : col < d.grid.q
      hc = col_at d calls some_q

      brings : strip s rank slot ≡ Words (strip_of d t.file rank group)
      brings = λ i. Words (strip_of (h.lies i) (h.file i) rank group)

      abbrev next : State
      next = after s now (r.Feed rank slot)

      new_slot : now.tiles rank slot ≡ None
      new_slot = stands.unfed group row col hg hr hc (let e = number_back d calls in omega (arith, e))

      legal : IsFeed s now rank slot
      legal = record {
        live = live_at rank (h.of.ranks rank (is_member-rank_at d.grid row col hr (wide col hc)));
        kind = refl;
        now = eq-eqb t.line (current s now.mark) (sym line_now);
        matrix = h.matrix;
        owner = ap (λ (x : Layout). is_data_rank x.grid rank) h.lies ∙ is_data_rank-rank_at d.grid row col hr hc;
        group = ap (λ (x : Layout). nat_lt group (group_count x)) h.lies ∙ lt-ltb group (group_count d) hg;
        writable = or_right (now.fresh rank slot || is_some (now.saved rank slot)) (not (is_some (now.tiles rank slot))) (ap (λ o. not (is_some o)) new_slot);
      }

      -- only this slot changes
      abbrev here : ℕ → Slot → Bool
      here a x = (a == rank) && same_slot x slot

      here_is : here rank slot ≡ true
      here_is = and_from (rank == rank) (same_slot slot slot) (eq-eqb rank rank refl) (same_slot-refl slot)

      tile_now : next.tiles rank slot ≡ Some (Words (strip_of d t.file rank group))
      tile_now = ap (λ b. if b then Some (strip s rank slot) else now.tiles rank slot) here_is ∙ ap Some brings

      kept : (a : ℕ) (x : Slot) → here a x ≡ false → next.tiles a x ≡ now.tiles a x
      kept a x e = ap (λ b. if b then Some (strip s rank slot) else now.tiles a x) e

      kept_fresh : (a : ℕ) (x : Slot) → here a x ≡ false → next.fresh a x ≡ now.fresh a x
      kept_fresh a x e = ap (λ b. if b then (now.fresh rank slot || not (is_some (now.tiles rank slot))) else now.fresh a x) e

      other_kind : (a : ℕ) (x : Slot) → same_slot x slot ≡ false → here a x ≡ false
      other_kind a x e = and_right (a == rank) (same_slot x slot) e

      -- another place has another slot
      other_place : (g2 r2 c2 : ℕ) → r2 < d.grid.p → c2 < d.grid.q → strip_number d g2 r2 c2 ≢ calls → here (rank_at d.grid r2 c2) (slot_at Data t.line g2) ≡ false
      other_place g2 r2 c2 lr lc ne =
          false_from_ne_true (here (rank_at d.grid r2 c2) (slot_at Data t.line g2))
          (λ e.
          let z = and_parts (rank_at d.grid r2 c2 == rank) (same_slot (slot_at Data t.line g2) slot) e in
          let p = same_place d.grid r2 c2 row col (wide c2 lc) (wide col hc) (eqb-true (rank_at d.grid r2 c2) rank z.0) in
          let q = eqb-true g2 group (and_parts (same_kind Data Data && (t.line == t.line)) (g2 == group) z.1).1 in
          ne ((λ i. strip_number d (q i) (p.0 i) (p.1 i)) ∙ number_back d calls))

      capped : IsCapped (feed_cap t base) next.tiles
      capped =
          capped_feed s (feed_cap t base) now rank slot stands.capped
          (let a : size_of (Some (strip s rank slot)) ≡ strip_words d rank = ap (λ x. size_of (Some x)) brings ∙ strip_size d t.file rank group in
          let b = own_room t base rank slot (own_data t row col group hr hc hg) in
          omega (arith, a, b))

      pub then_fed : FeedStands t (calls + 1) s base next
      then_fed = record {
        live = stands.live;
        saved = stands.saved;
        mark = stands.mark;
        lost = stands.lost;
        links = stands.links;
        fed = λ g2 r2 c2 lg lr lc less.
            ⊎_elim
            (λ (e : strip_number d g2 r2 c2 ≡ calls).
            let p = place_back d g2 r2 c2 calls lr lc e in
            subst (λ (x : ℕ × ℕ × ℕ). next.tiles (rank_at d.grid x.1 x.2) (slot_at Data t.line x.0) ≡ Some (Words (strip_of d t.file (rank_at d.grid x.1 x.2) x.0))) (λ i. (p.0 i, p.1 i, p.2 i)) tile_now)
            (λ (e : strip_number d g2 r2 c2 ≡ calls → ⊥). kept (rank_at d.grid r2 c2) (slot_at Data t.line g2) (other_place g2 r2 c2 lr lc e) ∙ stands.fed g2 r2 c2 lg lr lc (grind (arith, less, e)))
            (cases_eq (strip_number d g2 r2 c2) calls);
        unfed = λ g2 r2 c2 lg lr lc le. kept (rank_at d.grid r2 c2) (slot_at Data t.line g2) (other_place g2 r2 c2 lr lc (λ e. omega (arith, e, le))) ∙ stands.unfed g2 r2 c2 lg lr lc (omega (arith, le));
        coded = λ g2 lg less. absurd (omega (arith, less, lt));
        uncoded = λ g2 r2 c2 lg lr lc le.
            let a = rank_at d.grid r2 (d.grid.q + c2) in
            let x = slot_at Code t.line g2 in
            (λ i. (kept_fresh a x (other_kind a x refl) i || is_some (now.saved a x)) || not (is_some (kept a x (other_kind a x refl) i))) ∙ stands.uncoded g2 r2 c2 lg lr lc (omega (arith, le));
        works = λ r2 c2 lr lc.
            let a = rank_at d.grid r2 (d.grid.q + c2) in
            (λ i. (kept_fresh a work_slot (other_kind a work_slot refl) i || is_some (now.saved a work_slot)) || not (is_some (kept a work_slot (other_kind a work_slot refl) i))) ∙ stands.works r2 c2 lr lc;
        rest = λ a x e.
            elsewhere (is_own t) now.tiles rank slot (Some (strip s rank slot)) a x (own_data t row col group hr hc hg) e ∙ stands.rest a x e;
        capped = capped;
      }

      pub feed_goes : {K : Type 0} → GoesOn {K = K} (feed_plan t) (FeedStands t (calls + 1)) (feed_progress d (calls + 1)) s base now (feed_at d t.file t.line calls)
      feed_goes {K} = record {
        goes = record {
          brings = brings;
          legal = (legal, tt);
          words = (adds_words t base now stands.capped stands.saved, adds_words t base next capped stands.saved);
          stands = then_fed;
          nexts = omega (arith, lt);
        };
        few = let f = records_few d (calls + 1) in omega (arith, f);
      }

    -- ---- a group is coded
    module _ (group : ℕ) (all_fed : feeds d ≤ calls) (is : calls ≡ feeds d + group) (hg : group < group_count d) where
      pub quiet : IsQuiet s now
      quiet = record { live = live_at; links = stands.links; some = h.some_messages }

      pub held : HoldsGroup now d t.line t.file group
      held row col hr hc = stands.fed group row col hg hr hc (let b = number_below d group row col hg hr hc in omega (arith, b, all_fed))

      pub goes : (from to : ℕ) → IsTrue (is_path s now from to)
      goes from to = or_right (some_lost s now) _ (ap (λ p. may_go p (grid_of_rank s from) from to) (ap (λ l. (job s l).path) line_now ∙ h.goes))

      can_encode : CanEncode s now d t.line group
      can_encode = record {
        modulus = h.some_words;
        quiet = quiet;
        own_grid = h.of;
        paths = goes;
        strips = λ row q hr hq. HoldsGroup-strip now d t.line t.file group row q held hr hq;
        codes = λ row c hr hc. stands.uncoded group row c hg hr hc (omega (arith, is));
        works = stands.works;
      }

      abbrev coded_now : State
      coded_now = with_code s now d t.line group

      replays : Replays s now (is_member d.grid) (group_events s.inverse d t.line group) (on_grid d.grid (held_after s now d t.line group can_encode))
      replays = encode_replays s now d t.line group can_encode

      same : (a : ℕ) (x : Slot) → is_coding t group a x ≡ false → (coded_now.tiles a x ≡ now.tiles a x) × (coded_now.fresh a x ≡ now.fresh a x)
      same a x e = untouched s (is_coding t group) now (group_events s.inverse d t.line group) (encode_writes s.inverse t group) a x e

      data_same : (a g2 : ℕ) → coded_now.tiles a (slot_at Data t.line g2) ≡ now.tiles a (slot_at Data t.line g2)
      data_same a g2 = (same a (slot_at Data t.line g2) (and_right (is_code_rank d.grid a) false refl)).0

      other_code : (a g2 : ℕ) → g2 ≢ group → is_coding t group a (slot_at Code t.line g2) ≡ false
      other_code a g2 ne =
          and_right (is_code_rank d.grid a) (same_slot (slot_at Code t.line g2) (slot_at Code t.line group) || same_slot (slot_at Code t.line g2) work_slot)
          (or_from (same_slot (slot_at Code t.line g2) (slot_at Code t.line group)) (same_slot (slot_at Code t.line g2) work_slot) (and_right (same_kind Code Code && (t.line == t.line)) (g2 == group) (ne_eqb g2 group ne)) refl)

      through : AddThrough (feed_words d) s base now (records_of (group_events s.inverse d t.line group)) × IsCapped (feed_cap t base) coded_now.tiles
      through =
          capped_through s (feed_cap t base) (feed_words d) base base.saved (λ st capped saved. adds_words t base st capped saved) now (group_events s.inverse d t.line group)
          (encode_caps s s.inverse t base group hg (λ row q hr hq. no_data (rank_at d.grid row q) group)) stands.capped stands.saved stands.links

      pub then_coded : FeedStands t (calls + 1) s base coded_now
      then_coded = record {
        live = replays.live ∙ stands.live;
        saved = replays.saved ∙ stands.saved;
        mark = replays.mark ∙ stands.mark;
        lost = replays.lost ∙ stands.lost;
        links = replays.links;
        fed = λ g2 row col lg hr hc less.
            data_same (rank_at d.grid row col) g2 ∙ stands.fed g2 row col lg hr hc (let b = number_below d g2 row col lg hr hc in omega (arith, b, all_fed));
        unfed = λ g2 row col lg hr hc le. absurd (let b = number_below d g2 row col lg hr hc in omega (arith, b, all_fed, le));
        coded = λ g2 lg less.
            ⊎_elim
            (λ (e : g2 ≡ group). subst (HasCodeStrips s coded_now d t.line) (sym e) (has_code_strips s now d t.line group can_encode))
            (λ (e : g2 ≡ group → ⊥).
            HasCodeStrips-kept s now coded_now d t.line g2
            (λ row c hr hc. (same (rank_at d.grid row (d.grid.q + c)) (slot_at Code t.line g2) (other_code (rank_at d.grid row (d.grid.q + c)) g2 e)).0)
            (λ row q hr hq. data_same (rank_at d.grid row q) g2) (stands.coded g2 lg (grind (arith, less, is, e))))
            (cases_eq g2 group);
        uncoded = λ g2 row c lg hr hc le.
            let a = rank_at d.grid row (d.grid.q + c) in
            let x = slot_at Code t.line g2 in
            let ne : g2 ≢ group = λ e. omega (arith, e, le, is) in
            let z = same a x (other_code a g2 ne) in
            (λ i. (z.1 i || is_some (replays.saved i a x)) || not (is_some (z.0 i))) ∙ stands.uncoded g2 row c lg hr hc (omega (arith, le));
        works = λ row c hr hc. may_put-stays s now (group_events s.inverse d t.line group) (rank_at d.grid row (d.grid.q + c)) work_slot ∙ stands.works row c hr hc;
        rest = λ a x e. (same a x (coding_own t group hg a x e)).0 ∙ stands.rest a x e;
        capped = through.1;
      }

      pub code_goes : {K : Type 0} → group < rounds d → GoesOn {K = K} (feed_plan t) (FeedStands t (calls + 1)) (feed_progress d (calls + 1)) s base now (code_of s.inverse d t.line group)
      code_goes {K} lt = record {
        goes = record {
          brings = replays.within;
          legal = replays.legal;
          words = through.0;
          stands = then_coded;
          nexts = omega (arith, lt, is);
        };
        few = let f = records_few d (calls + 1) in omega (arith, f);
      }

    -- ---- the end
    module _ (all_fed : feeds d ≤ calls) (all_coded : rounds d ≤ calls - feeds d) where
      held_all : (group : ℕ) → group < group_count d → HoldsGroup now d t.line t.file group
      held_all group hg row col hr hc = stands.fed group row col hg hr hc (let b = number_below d group row col hg hr hc in omega (arith, b, all_fed))

      coded_all : (group : ℕ) → group < group_count d → HasCodeStrips s now d t.line group
      coded_all group hg =
          ⊎_elim
          (λ (e : (d.grid.f == 0) ≡ true).
          let none = eqb-true d.grid.f 0 e in
          record { shapes = λ row c hr hc. absurd (omega (arith, hc, none)); sums = λ row c i j hr hc hi hj. absurd (omega (arith, hc, none)) })
          (λ (e : (d.grid.f == 0) ≡ false).
          let some : rounds d ≡ group_count d = ap (λ b. if b then 0 else group_count d) e in
          stands.coded group hg (last some hg))
          (cases_Bool (d.grid.f == 0))
        where
          last : rounds d ≡ group_count d → group < group_count d → feeds d + group < calls
          last some hg = omega (arith, some, all_fed, all_coded, hg)

      not_zero : (0 == t.line) ≡ false
      not_zero = ne_eqb 0 t.line (λ e. let some = ltb-true 0 t.line (and_parts (nat_lt 0 t.line) (t.line == current s base.mark) (and_parts (nat_lt 0 t.line && (t.line == current s base.mark)) _ h.follows_last).0).0 in omega (arith, e, some))

      not_factored : is_factored_under s mark t.line ≡ false
      not_factored = and_right (nat_lt 0 t.line) (0 == t.line) not_zero

      own_law : MatrixLaw s now mark t.line (layout s t.line)
      own_law =
          subst (MatrixLaw s now mark t.line) (sym h.lies)
          (MatrixLaw-groups s now mark t.line d (λ _. t.file) held_all coded_all (λ group. ap (λ b. b && nat_le 0 group) not_factored) (ap (λ b. b && false) not_factored))

      -- a live slot that is not of the line is as it was
      kept_live : (rank : ℕ) (slot : Slot) → (slot.id == t.line) ≡ false → is_live s mark rank slot ≡ true → now.tiles rank slot ≡ base.tiles rank slot
      kept_live rank slot e live =
          stands.rest rank slot
          (or_from (is_data_rank d.grid rank && (same_kind slot.kind Data && ((slot.id == t.line) && nat_lt slot.group (group_count d)))) (is_code_rank d.grid rank && ((same_kind slot.kind Code && ((slot.id == t.line) && nat_lt slot.group (group_count d))) || same_slot slot work_slot))
          (and_right (is_data_rank d.grid rank) _ (and_right (same_kind slot.kind Data) _ (ap (λ b. b && nat_lt slot.group (group_count d)) e)))
          (and_right (is_code_rank d.grid rank) _ (or_from (same_kind slot.kind Code && ((slot.id == t.line) && nat_lt slot.group (group_count d))) (same_slot slot work_slot) (and_right (same_kind slot.kind Code) _ (ap (λ b. b && nat_lt slot.group (group_count d)) e)) no_work_live)))
        where
          no_work_live : same_slot slot work_slot ≡ false
          no_work_live = false_from_ne_true (same_slot slot work_slot) (λ u. true≢false (sym live ∙ ap (is_live s mark rank) (same_slot-true slot work_slot u)))

      pub law : CodeLaw s now mark
      law =
          CodeLaw-next_mark s base now mark (λ line. line == t.line) h.scripted h.rising h.follows_last rest.law (eq-eqb t.line t.line refl)
          (λ some. absurd (let none = h.plain in omega (arith, some, none)))
          kept_live
          (λ line e live. subst (λ l. MatrixLaw s now mark l (layout s l)) (sym (eqb-true line t.line e)) own_law)
          (λ line e live.
          let some = ltb-true 0 (factored s line) (and_parts (nat_lt 0 (factored s line)) _ (and_parts (nat_lt 0 (factored s line) && _) _ live).0).0 in
          absurd (let none = ap (factored s) (eqb-true line t.line e) ∙ h.plain in omega (arith, some, none)))

      live_now : is_live_matrix s mark t.line ≡ true
      live_now =
          and_from (is_matrix s t.line && has_ended mark t.line) (not (is_dropped s mark t.line))
          (and_from (is_matrix s t.line) (has_ended mark t.line) h.matrix (or_right (nat_lt t.line t.line) ((t.line == t.line) && true) (and_from (t.line == t.line) true (eq-eqb t.line t.line refl) refl))) (ap not h.undropped)

      pub effect : HasFed s base t [] (after s now (r.Commit mark false))
      effect = record {
        takes_none = refl;
        strips = λ rank group names.
            let m = is_data_rank-member d.grid rank names.data_rank in
            let hr = row_of-lt d.grid rank (width-pos d.grid laid.laid_out.grid) m in
            let hc = is_data_rank-col d.grid rank names.data_rank in
            let place = rank_at-coords d.grid rank m in
            let live : is_live s mark rank (slot_at Data t.line group) ≡ true =
            and_from (is_data_rank (layout s t.line).grid rank && nat_lt group (group_count (layout s t.line))) (is_live_matrix s mark t.line)
            (ap (λ (x : Layout). is_data_rank x.grid rank && nat_lt group (group_count x)) h.lies ∙ and_from (is_data_rank d.grid rank) (nat_lt group (group_count d)) names.data_rank (lt-ltb group (group_count d) names.group_in)) live_now in
            ap (λ b. if b then now.tiles rank (slot_at Data t.line group) else None) live
            ∙ subst (λ a. now.tiles a (slot_at Data t.line group) ≡ Some (Words (strip_of d t.file a group))) place (held_all group names.group_in (row_of d.grid rank) (col_of d.grid rank) hr hc);
        rest = λ rank slot ne live. ap (λ b. if b then now.tiles rank slot else None) live ∙ kept_live rank slot (ne_eqb slot.id t.line ne) live;
      }

      pub end_goes : {K : Type 0} → GoesOn {K = K} (feed_plan t) (FeedStands t (calls + 1)) (feed_progress d (calls + 1)) s base now n.End
      end_goes {K} = record { goes = record { law = law; effect = effect }; few = let f = records_few d (calls + 1) in omega (arith, f) }

-- ---- each answer
pub feed_goes_on : {K : Type 0} (t : FeedTask) (calls : ℕ) (s : Setting) (base now : State) → CanStart (feed_plan t) s base → FeedStands t calls s base now
    → GoesOn {K = K} (feed_plan t) (FeedStands t (calls + 1)) (feed_progress t.layout (calls + 1)) s base now (answer_of t.inverse t.layout t.file t.line calls)
feed_goes_on {K} t calls s base now start stands =
    let d = t.layout in
    let P : Next K → Type 0 = GoesOn {K = K} (feed_plan t) (FeedStands t (calls + 1)) (feed_progress d (calls + 1)) s base now in
    let coded : Next K = if nat_lt (calls - feeds d) (rounds d) then code_of t.inverse d t.line (calls - feeds d) else n.End in
    ⊎_elim
    (λ (lt : calls < feeds d). subst P (sym (ap (λ b. if b then feed_at d t.file t.line calls else coded) (lt-ltb calls (feeds d) lt))) (feed_goes s base t start.may start.rest calls now stands lt {K = K}))
    (λ (le : feeds d ≤ calls).
    subst P (sym (ap (λ b. if b then feed_at d t.file t.line calls else coded) (le-ltb calls (feeds d) le)))
    (⊎_elim
    (λ (lt : calls - feeds d < rounds d).
    subst P (sym (ap (λ b. if b then code_of t.inverse d t.line (calls - feeds d) else n.End) (lt-ltb (calls - feeds d) (rounds d) lt)))
    (subst (λ inverse. P (code_of inverse d t.line (calls - feeds d))) start.may.inverses
    (code_goes s base t start.may start.rest calls now stands (calls - feeds d) le (omega (arith, le)) (few_rounds d (calls - feeds d) lt) {K = K} lt)))
    (λ (none : rounds d ≤ calls - feeds d).
    subst P (sym (ap (λ b. if b then code_of t.inverse d t.line (calls - feeds d) else n.End) (le-ltb (calls - feeds d) (rounds d) none)))
    (end_goes s base t start.may start.rest calls now stands le none {K = K}))
    (cases_lt (calls - feeds d) (rounds d))))
    (cases_lt calls (feeds d))
  where
    few_rounds : (d : Layout) (k : ℕ) → k < rounds d → k < group_count d
    few_rounds d k lt =
        ⊎_elim
        (λ (e : (d.grid.f == 0) ≡ true). absurd (let z : rounds d ≡ 0 = ap (λ b. if b then 0 else group_count d) e in omega (arith, z, lt)))
        (λ (e : (d.grid.f == 0) ≡ false). let z : rounds d ≡ group_count d = ap (λ b. if b then 0 else group_count d) e in omega (arith, z, lt))
        (cases_Bool (d.grid.f == 0))
