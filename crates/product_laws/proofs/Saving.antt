-- The saves of the strips of a group: all of them may be made, and what they leave.
use Rattle.std.proofs.Common.{◌≡◌, ◌+◌, ◌-◌, ◌*◌, ◌/◌, ◌%◌, ◌<◌, ◌≤◌, ◌^◌, ◌==◌, ◌&&◌, ◌||◌, ◌⊎◌, ℕ, zero, suc, Bool, true, false, not, nat_lt, Option, Some, None, is_some, List, [], ◌∷◌, ◌++◌, length, map, slice_get, refl, sym, ap, subst, ◌∙◌, inl, inr, ⊎_elim, arith}
use Rattle.std.specs.Prelude.{if◌then◌else◌}
use Rattle.std.specs.List.{range_with_len}
use Rattle.std.proofs.lemmas.Bool.{cases_Bool, cases_lt, and_parts, and_from, and_left, eqb-true, eq-eqb, ne_eqb, lt-ltb, le-ltb, true≢false, false_from_ne_true}
use Rattle.std.proofs.lemmas.Nat.{mul-add-lt, div-mul-add, mod-mul-add, div-add-mod', div_below, mod_below}
use Rattle.std.proofs.lemmas.Option.{slice_get-get_or, slice_get_past}
use Rattle.std.proofs.lemmas.List.FromFn.{length-map-range_with_len, get_or-map-range_with_len, map-range_with_len_more}
use Rattle.blacs_grid.specs.Places.{width, rank_at, is_member}
use Rattle.blacs_grid.proofs.PlaceLaws.{width-pos, is_member-rank_at}
use Rattle.rank_machine.specs.declared.slot.Slot.{Slot}
use Rattle.rank_machine.specs.declared.slot.SlotKind.TheVariants.{Data, Code}
use Rattle.rank_machine.specs.declared.slot.Tile.{Tile}
use Rattle.rank_machine.specs.declared.layout.Layout.{Layout}
use Rattle.rank_machine.specs.declared.record.Rec.TheVariants as r
use Rattle.rank_machine.specs.Setting.{Setting, ranks}
use Rattle.rank_machine.specs.State.{State, same_kind, same_slot}
use Rattle.rank_machine.specs.Effect.{after, replay}
use Rattle.rank_machine.specs.CodeLaw.{slot_at, is_strip_of, MatrixLaw}
use Rattle.rank_machine.specs.Legal.{IsSave, IsLegalFrom}
use Rattle.rank_machine.proofs.Base.{same_slot-true}
use Rattle.rank_slots.proofs.CellLaws.{same_slot-refl}
use Rattle.round_laws.specs.Turns.{IsQuiet}
use Rattle.run_laws.specs.LastCommit.{IsRest}
use Rattle.run_laws.proofs.Journals.{replay-append, IsLegalFrom-append}
use Rattle.phases.specs.Plans.{saves}
use Rattle.product_rounds.specs.declared.rounds.GroupProduct.{GroupProduct}
use Rattle.product_rounds.specs.Rounds.{IsOnGrid, strip_slot}
use Rattle.product_laws.specs.Multiplying.{ProductTask, MayMultiplyMatrices, HasSaved, layout_c, is_strip_of_group, saved_at, saved_strips, saved_state}

-- ---- the list
-- One slot is saved for each rank of the grid.
pub saves_count : (x : GroupProduct) → length (saved_strips x) ≡ x.grid.p * width x.grid
saves_count x = length-map-range_with_len (saved_at x) 0 (x.grid.p * width x.grid)

-- So there are few of them.
pub saves_few : (x : GroupProduct) → IsOnGrid x → length (saved_strips x) < 2 ^ 32
saves_few x on_grid = let few : x.grid.first + x.grid.p * width x.grid ≤ 64 = on_grid.grid.ranks in omega (arith, few, saves_count x)

-- The slot at each place of the list.
pub saved_strip_at : (x : GroupProduct) (i : ℕ) → i < x.grid.p * width x.grid → slice_get (saved_strips x) i ≡ Some (saved_at x i)
saved_strip_at x i lt =
    slice_get-get_or (saved_strips x) i (saved_at x i) (omega (arith, lt, saves_count x))
    ∙ ap Some (get_or-map-range_with_len (saved_at x) 0 (x.grid.p * width x.grid) i i (saved_at x i) lt (omega arith))

-- Past them there is none.
pub saved_strip_past : (x : GroupProduct) (i : ℕ) → x.grid.p * width x.grid ≤ i → slice_get (saved_strips x) i ≡ None
saved_strip_past x i le = slice_get_past (saved_strips x) i (omega (arith, le, saves_count x))

-- the i-th rank is the i-th of the grid
rank_is : (x : GroupProduct) (i : ℕ) → rank_at x.grid (i / width x.grid) (i % width x.grid) ≡ x.grid.first + i
rank_is x i = let e = div-add-mod' i (width x.grid) in omega (arith, e)

-- ---- strips
-- the slot of a strip is one of the group's
strip_of_group : (x : GroupProduct) (col : ℕ) → is_strip_of_group x (strip_slot x x.line_c col) ≡ true
strip_of_group x col =
    and_from _ (x.group == x.group) (and_from _ (x.line_c == x.line_c) (kind (nat_lt col x.grid.q)) (eq-eqb x.line_c x.line_c refl)) (eq-eqb x.group x.group refl)
  where
    kind : (b : Bool) → (same_kind (if b then Data else Code) Data || same_kind (if b then Data else Code) Code) ≡ true
    kind true = refl
    kind false = refl

strip_there : (d : Layout) (row : ℕ) (o : Option Tile) → is_strip_of d row o ≡ true → is_some o ≡ true
strip_there d row (Some t) e = refl
strip_there d row None e = absurd (true≢false (sym e))

module _ (s : Setting) (base : State) (t : ProductTask) (may : MayMultiplyMatrices s base t) (rest : IsRest s base) where
  abbrev x : GroupProduct
  x = t.x

  abbrev slot_on : ℕ → Slot
  slot_on col = strip_slot x x.line_c col

  law : MatrixLaw s base base.mark x.line_c (layout_c x)
  law = subst (λ d. MatrixLaw s base base.mark x.line_c d) may.lies_c (rest.law.matrices x.line_c may.live_c)

  -- each strip is held
  held : (row col : ℕ) → row < x.grid.p → col < width x.grid → is_some (base.tiles (rank_at x.grid row col) (slot_on col)) ≡ true
  held row col hr hc =
      ⊎_elim
      (λ (lt : col < x.grid.q).
      ap (λ b. is_some (base.tiles (rank_at x.grid row col) (slot_at (if b then Data else Code) x.line_c x.group))) (lt-ltb col x.grid.q lt)
      ∙ strip_there (layout_c x) row (base.tiles (rank_at x.grid row col) (slot_at Data x.line_c x.group)) (law.data_strips row x.group col hr may.group_in lt))
      (λ (le : x.grid.q ≤ col).
      let c = col - x.grid.q in
      let same : x.grid.q + c ≡ col = omega (arith, le) in
      ap (λ b. is_some (base.tiles (rank_at x.grid row col) (slot_at (if b then Data else Code) x.line_c x.group))) (le-ltb col x.grid.q le)
      ∙ strip_there (layout_c x) row (base.tiles (rank_at x.grid row col) (slot_at Code x.line_c x.group))
      (subst (λ k. is_strip_of (layout_c x) row (base.tiles (rank_at x.grid row k) (slot_at Code x.line_c x.group)) ≡ true) same (law.code_strips row x.group c hr may.group_in (omega (arith, le, hc)))))
      (cases_lt col x.grid.q)

  -- ---- the first n saves
  abbrev listed : ℕ → List (ℕ × Slot)
  listed n = map (saved_at x) (range_with_len 0 n)

  abbrev is_at : ℕ → ℕ → Slot → Bool
  is_at i rank slot = (rank == (saved_at x i).0) && same_slot slot (saved_at x i).1

  record AreSaved (n : ℕ) (now : State) : Type 0 where
    legal : IsLegalFrom s base (saves (listed n))
    tiles : now.tiles ≡ base.tiles
    fresh : now.fresh ≡ base.fresh
    live : now.live ≡ base.live
    links : now.links ≡ base.links
    mark : now.mark ≡ base.mark
    lost : now.lost ≡ base.lost
    taken : now.taken ≡ base.taken
    strips : (i : ℕ) → i < n → now.saved (saved_at x i).0 (saved_at x i).1 ≡ base.tiles (saved_at x i).0 (saved_at x i).1
    others : (rank : ℕ) (slot : Slot) → ((i : ℕ) → i < n → is_at i rank slot ≡ false) → now.saved rank slot ≡ base.saved rank slot
    saved : (rank : ℕ) (slot : Slot) → (now.saved rank slot ≡ None) ⊎ (now.saved rank slot ≡ base.tiles rank slot)

  saves-append : (xs ys : List (ℕ × Slot)) → saves (xs ++ ys) ≡ saves xs ++ saves ys
  saves-append [] ys = refl
  saves-append (y ∷ xs) ys = ap (λ zs. r.Save y.0 y.1 ∷ zs) (saves-append xs ys)

  more : (n : ℕ) → saves (listed (suc n)) ≡ saves (listed n) ++ r.Save (saved_at x n).0 (saved_at x n).1 ∷ []
  more n =
      (let e : suc n ≡ n + 1 = omega arith in ap (λ k. saves (listed k)) e) ∙ ap saves (map-range_with_len_more (saved_at x) 0 n n (omega arith))
      ∙ saves-append (listed n) (saved_at x n ∷ [])

  one_more : (n : ℕ) (now : State) → n < x.grid.p * width x.grid → replay s base (saves (listed n)) ≡ now → AreSaved n now → AreSaved (suc n) (after s now (r.Save (saved_at x n).0 (saved_at x n).1))
  one_more n now lt is h =
      let rank = (saved_at x n).0 in
      let slot = (saved_at x n).1 in
      let wide : 0 < width x.grid = width-pos x.grid may.on_grid.grid in
      let row_in : n / width x.grid < x.grid.p = div_below n (width x.grid) x.grid.p wide lt in
      let col_in : n % width x.grid < width x.grid = mod_below n (width x.grid) wide in
      let there : rank < ranks s = may.of.ranks rank (is_member-rank_at x.grid (n / width x.grid) (n % width x.grid) row_in col_in) in
      let apart : (i : ℕ) → i < n → (rank == (saved_at x i).0) ≡ false = λ i less. ne_eqb rank (saved_at x i).0 (λ e. omega (arith, less, e, rank_is x n, rank_is x i)) in
      let apart_back : (i : ℕ) → i < n → ((saved_at x i).0 == rank) ≡ false = λ i less. ne_eqb (saved_at x i).0 rank (λ e. omega (arith, less, e, rank_is x n, rank_is x i)) in
      let unsaved : now.saved rank slot ≡ None = h.others rank slot (λ i less. and_left (rank == (saved_at x i).0) (same_slot slot (saved_at x i).1) (apart i less)) ∙ rest.saved rank slot in
      let save : IsSave s now rank slot = record {
        live = ap (λ f. f rank) h.live ∙ rest.live rank ∙ lt-ltb rank (ranks s) there;
        held = ap (λ (f : ℕ → Slot → Option Tile). is_some (f rank slot)) h.tiles ∙ held (n / width x.grid) (n % width x.grid) row_in col_in;
        old = ap (λ (f : ℕ → Slot → Bool). not (f rank slot)) h.fresh ∙ ap not (rest.fresh rank slot);
        unsaved = ap (λ (o : Option Tile). not (is_some o)) unsaved;
      } in
      record {
        legal = subst (λ xs. IsLegalFrom s base xs) (sym (more n)) (IsLegalFrom-append s base (saves (listed n)) (r.Save rank slot ∷ []) h.legal (subst (λ st. IsLegalFrom s st (r.Save rank slot ∷ [])) (sym is) (save, tt)));
        tiles = h.tiles;
        fresh = h.fresh;
        live = h.live;
        links = h.links;
        mark = h.mark;
        lost = h.lost;
        taken = h.taken;
        strips = λ i less.
            ⊎_elim
            (λ (before : i < n). ap (λ b. if b then now.tiles rank slot else now.saved (saved_at x i).0 (saved_at x i).1) (and_left ((saved_at x i).0 == rank) (same_slot (saved_at x i).1 slot) (apart_back i before)) ∙ h.strips i before)
            (λ (last : n ≤ i).
            let same : n ≡ i = omega (arith, less, last) in
            subst (λ k. (after s now (r.Save rank slot)).saved (saved_at x k).0 (saved_at x k).1 ≡ base.tiles (saved_at x k).0 (saved_at x k).1) same
            (ap (λ b. if b then now.tiles rank slot else now.saved rank slot) (and_from (rank == rank) (same_slot slot slot) (eq-eqb rank rank refl) (same_slot-refl slot))
            ∙ ap (λ (f : ℕ → Slot → Option Tile). f rank slot) h.tiles))
            (cases_lt i n);
        others = λ a y no.
            ap (λ b. if b then now.tiles rank slot else now.saved a y) (no n (omega arith)) ∙ h.others a y (λ i less. no i (omega (arith, less)));
        saved = λ a y.
            ⊎_elim
            (λ (e : ((a == rank) && same_slot y slot) ≡ true).
            let z = and_parts (a == rank) (same_slot y slot) e in
            let p = eqb-true a rank z.0 in
            let q = same_slot-true y slot z.1 in
            inr (ap (λ b. if b then now.tiles rank slot else now.saved a y) e ∙ ap (λ (f : ℕ → Slot → Option Tile). f rank slot) h.tiles ∙ sym (λ i. base.tiles (p i) (q i))))
            (λ (e : ((a == rank) && same_slot y slot) ≡ false).
            let old : (after s now (r.Save rank slot)).saved a y ≡ now.saved a y = ap (λ b. if b then now.tiles rank slot else now.saved a y) e in
            ⊎_elim (λ (u : now.saved a y ≡ None). inl (old ∙ u)) (λ (u : now.saved a y ≡ base.tiles a y). inr (old ∙ u)) (h.saved a y))
            (cases_Bool ((a == rank) && same_slot y slot));
      }

  so_far : (n : ℕ) → n ≤ x.grid.p * width x.grid → AreSaved n (replay s base (saves (listed n)))
  so_far zero le = record {
    legal = tt;
    tiles = refl;
    fresh = refl;
    live = refl;
    links = refl;
    mark = refl;
    lost = refl;
    taken = refl;
    strips = λ i less. absurd (omega (arith, less));
    others = λ rank slot no. refl;
    saved = λ rank slot. inl (rest.saved rank slot);
  }
  so_far (suc n) le =
      let now = replay s base (saves (listed n)) in
      let step : replay s base (saves (listed (suc n))) ≡ after s now (r.Save (saved_at x n).0 (saved_at x n).1) =
      ap (replay s base) (more n) ∙ replay-append s base (saves (listed n)) (r.Save (saved_at x n).0 (saved_at x n).1 ∷ []) in
      subst (AreSaved (suc n)) (sym step) (one_more n now (omega (arith, le)) refl (so_far n (omega (arith, le))))

  all_saved : AreSaved (x.grid.p * width x.grid) (saved_state s base x)
  all_saved = so_far (x.grid.p * width x.grid) (omega arith)

  -- All of the saves may be made.
  pub saves_legal : IsLegalFrom s base (saves (saved_strips x))
  saves_legal = all_saved.legal

  -- They save the strips of the group, and change nothing else.
  pub has_saved : HasSaved base x (saved_state s base x)
  has_saved =
      let all = all_saved in
      let wide : 0 < width x.grid = width-pos x.grid may.on_grid.grid in
      record {
        tiles = all.tiles;
        fresh = all.fresh;
        live = all.live;
        links = all.links;
        mark = all.mark;
        lost = all.lost;
        taken = all.taken;
        strips = λ row col hr hc.
            (let i = row * width x.grid + col in
            let below : i < width x.grid * x.grid.p = mul-add-lt row (width x.grid) col x.grid.p hr hc in
            let turned : width x.grid * x.grid.p ≡ x.grid.p * width x.grid = omega arith in
            let a : i / width x.grid ≡ row = div-mul-add row (width x.grid) col hc in
            let b : i % width x.grid ≡ col = mod-mul-add row (width x.grid) col hc in
            let P : ℕ → ℕ → Type 0 = λ u v. (saved_state s base x).saved (rank_at x.grid u v) (slot_on v) ≡ base.tiles (rank_at x.grid u v) (slot_on v) in
            subst (λ v. P row v) b (subst (λ u. P u (i % width x.grid)) a (all.strips i (omega (arith, below, turned)))));
        others = λ rank slot no.
            all.others rank slot
            (λ i less.
            false_from_ne_true (is_at i rank slot) (λ e.
            let z = and_parts (rank == (saved_at x i).0) (same_slot slot (saved_at x i).1) e in
            let p = eqb-true rank (saved_at x i).0 z.0 in
            let q = same_slot-true slot (saved_at x i).1 z.1 in
            let on : is_member x.grid rank ≡ true =
            ap (is_member x.grid) p ∙ is_member-rank_at x.grid (i / width x.grid) (i % width x.grid) (div_below i (width x.grid) x.grid.p wide less) (mod_below i (width x.grid) wide) in
            let strip : is_strip_of_group x slot ≡ true = ap (is_strip_of_group x) q ∙ strip_of_group x (i % width x.grid) in
            true≢false (sym (and_from (is_member x.grid rank) (is_strip_of_group x slot) on strip) ∙ no)));
        saved = all.saved;
      }

-- A state in which they are saved is one from which a round may begin.
pub saved_quiet : (s : Setting) (base now : State) (t : ProductTask) → MayMultiplyMatrices s base t → IsRest s base → HasSaved base t.x now → IsQuiet s now
saved_quiet s base now t may rest h = record {
  live = λ a lt. ap (λ f. f a) h.live ∙ rest.live a ∙ lt-ltb a (ranks s) lt;
  links = λ from to. ap (λ f. f from to) h.links ∙ rest.links from to;
  some = may.some_messages;
}
