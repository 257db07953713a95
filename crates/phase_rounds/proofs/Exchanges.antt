-- The round in which two global rows change places turns the ranks' holdings into ones whose strips hold the exchanged words: by nothing, by a swap on one
-- rank, or by messages between two, on each process column.
use Rattle.std.proofs.Common.{◌≡◌, ◌≢◌, ◌-◌, ◌<◌, ◌==◌, ℕ, Bool, true, false, Some, List, [], ◌∷◌, refl, sym, ap, subst, ◌∙◌, inl, inr, arith}
use Rattle.std.specs.Prelude.{if◌then◌else◌, nat_lt}
use Rattle.std.proofs.lemmas.Bool.{true≢false, and_from, or_left, lt-ltb, eqb-true}
use Rattle.std.proofs.lemmas.Bool.Decides.{eqb_tells}
use Rattle.run_data.specs.declared.matrix.Part.{Part}
use Rattle.blacs_grid.specs.declared.Scope.TheVariants.{Column}
use Rattle.blacs_grid.specs.Places.{width, rank_at, is_in_scope}
use Rattle.rank_run.specs.declared.round.Event.{Event}
use Rattle.rank_run.specs.declared.round.Event.TheVariants.{Local}
use Rattle.rank_machine.specs.declared.slot.Slot.{Slot}
use Rattle.rank_machine.specs.declared.slot.Tile.{Tile}
use Rattle.rank_machine.specs.declared.slot.Tile.TheVariants.{Words}
use Rattle.rank_machine.specs.declared.slot.Piece.{Piece}
use Rattle.rank_machine.specs.declared.slot.Piece.TheVariants as piece
use Rattle.rank_machine.specs.declared.kernel.Kernel.{Kernel}
use Rattle.rank_machine.specs.declared.kernel.Kernel.TheVariants as k
use Rattle.rank_machine.specs.declared.layout.Layout.{Layout}
use Rattle.rank_machine.specs.Setting.{Setting}
use Rattle.rank_machine.specs.State.{State, same_slot}
use Rattle.rank_machine.specs.Effect.{words_of, is_words, piece_in, with_piece, made_by, replay}
use Rattle.rank_machine.specs.Legal.{IsLegalFrom, is_inside}
use Rattle.rank_slots.specs.Rank.{Rank}
use Rattle.rank_slots.specs.Stands.{records_of}
use Rattle.rank_slots.proofs.CellLaws.{same_slot-refl}
use Rattle.serial_model.specs.Elimination.{exchange}
use Rattle.elimination.specs.Strips.{IsRowMap, rows_below, row_owner, row_place, one_row, AreExchanged}
use Rattle.elimination.proofs.StripMaps.{row_owner-lt, row_place-lt}
use Rattle.elimination.proofs.StripLaws.{exchanged-itself, exchange-held}
use Rattle.phase_laws.specs.Columns.{rows_of, strips_in}
use Rattle.phase_laws.proofs.Columns.{row_map}
use Rattle.phase_laws.proofs.KernelLaws.{words_are, swap-made, rows-sent}
use Rattle.round_laws.specs.Holdings.{Holding, put, may_put, CanRun}
use Rattle.round_laws.specs.Turns.{Turns, IsQuiet, on_grid, at_place, held_on}
use Rattle.round_laws.specs.Changes.{ChangesOnly, TurnsColumn, TurnsGrid, ChangesGrid}
use Rattle.round_laws.specs.Exchanges.{exchange_events}
use Rattle.round_laws.proofs.Holds.{put-here}
use Rattle.round_laws.proofs.Grids.{at_place-here, at_place-else, in_column, of_column}
use Rattle.round_laws.proofs.Factors.{or_right}
use Rattle.round_laws.proofs.Pieces.{inside, alter, equal}
use Rattle.round_laws.proofs.Exchanges.{exchanged, turns_exchange, first_made, second_made}
use Rattle.round_laws.proofs.ForEachColumn.{turns_columns_each}
use Rattle.round_laws.proofs.Changes.{unchanged, changed_put, changed_then, column_none, column_place, grid_legal, grid_held, grid_changes}
use Rattle.phase_rounds.specs.Strips.{HoldsWords, work}
use Rattle.phase_rounds.specs.Exchanges.{swap_events, exchange_round, MayExchange, CanExchange, swap_slots}
use Rattle.phase_rounds.proofs.Standing.{stands_same}

abbrev Events : Type 0
Events = List (Event Rank Kernel Piece Tile)

module _ (s : Setting) (st : State) (d : Layout) (slots : ℕ → Slot) (i j : ℕ) (may : MayExchange s st d slots i j) (col : ℕ) (hc : col < width d.grid) (w : ℕ → ℕ → ℕ) (f : ℕ → ℕ → Holding)
    (stands : HoldsWords d (slots col) w (λ row. f row col)) (work_free : (row : ℕ) → row < d.grid.p → may_put (f row col) (work 2) ≡ true) where
  abbrev slot : Slot
  slot = slots col

  abbrev a : ℕ
  a = row_owner (rows_of d) i

  abbrev b : ℕ
  b = row_owner (rows_of d) j

  map : IsRowMap (rows_of d)
  map = row_map d may.desc

  ha : a < d.grid.p
  ha = row_owner-lt (rows_of d) i map

  hb : b < d.grid.p
  hb = row_owner-lt (rows_of d) j map

  abbrev pub Swaps : Events → Type 0
  Swaps es = (h : TurnsColumn s st d.grid col (swap_slots slot) es f)
      × AreExchanged (rows_of d) d.desc.nb i j (strips_in (λ row. (f row col).tiles) slot) (strips_in (λ row. (h.after row col).tiles) slot)
      × ((row : ℕ) → row < d.grid.p → is_words ((h.after row col).tiles slot) ≡ true)

  in_slots : swap_slots slot slot ≡ true
  in_slots = or_left (same_slot slot slot) (same_slot slot (work 2)) (same_slot-refl slot)

  itself : i ≡ j → Swaps []
  itself e = (column_none s st d.grid col (swap_slots slot) f, subst (λ n. AreExchanged (rows_of d) d.desc.nb i n (strips_in (λ row. (f row col).tiles) slot) (strips_in (λ row. (f row col).tiles) slot)) e (exchanged-itself (rows_of d) d.desc.nb i (strips_in (λ row. (f row col).tiles) slot)), stands.there)

  there_a : (f a col).tiles slot ≡ Some (Words (words_of ((f a col).tiles slot)))
  there_a = words_are ((f a col).tiles slot) (stands.there a ha)

  there_b : (f b col).tiles slot ≡ Some (Words (words_of ((f b col).tiles slot)))
  there_b = words_are ((f b col).tiles slot) (stands.there b hb)

  -- ---- one rank holds both
  abbrev swap_kernel : Kernel
  swap_kernel = k.Swap slot (row_place (rows_of d) i) (row_place (rows_of d) j)

  can_swap : b ≡ a → CanRun s st (f a col) swap_kernel
  can_swap e = record {
    held = stands.there a ha;
    writable = alter (f a col) slot (Words (words_of ((f a col).tiles slot))) there_a (stands.free a ha);
    apart = refl;
    shaped =
        and_from (nat_lt (row_place (rows_of d) i) (words_of ((f a col).tiles slot)).rows) (nat_lt (row_place (rows_of d) j) (words_of ((f a col).tiles slot)).rows)
        (lt-ltb (row_place (rows_of d) i) (words_of ((f a col).tiles slot)).rows (omega (arith, stands.hold.rows a ha, row_place-lt (rows_of d) i map may.first_in)))
        (lt-ltb (row_place (rows_of d) j) (words_of ((f a col).tiles slot)).rows (omega (arith, stands.hold.rows a ha, row_place-lt (rows_of d) j map may.second_in, ap (rows_below (rows_of d) d.desc.m) e)));
    divisors = refl;
    placed = refl;
    strips = refl;
    factor = tt;
  }

  together : b ≡ a → Swaps (Local (rank_at d.grid a col) swap_kernel ∷ [])
  together e =
      let z = column_place s st d.grid col may.own_grid (swap_slots slot) a swap_kernel f hc ha (can_swap e) in_slots in (
        z.0,
        swap-made s d col d.desc.nb i j slot w (λ row. (f row col).tiles) (λ row. (z.0.after row col).tiles) may.desc may.first_in may.second_in stands.hold e
            (ap (λ h. h.tiles slot) z.1 ∙ put-here (f a col) slot (made_by s (f a col).number (f a col).tiles swap_kernel))
            (λ row hr ne. ap (λ h. h.tiles slot) (z.2 row ne)),
        λ row hr.
            elim (eqb_tells row a) [
              | inl p ↦ ap (λ r. is_words ((z.0.after r col).tiles slot)) p.1 ∙ ap is_words (ap (λ h. h.tiles slot) z.1 ∙ put-here (f a col) slot (made_by s (f a col).number (f a col).tiles swap_kernel))
              | inr p ↦ ap (λ h. is_words (h.tiles slot)) (z.2 row p.1) ∙ stands.there row hr
            ],
      )

  -- ---- two ranks
  abbrev at_i : Part
  at_i = one_row (row_place (rows_of d) i) d.desc.nb

  abbrev at_j : Part
  at_j = one_row (row_place (rows_of d) j) d.desc.nb

  in_a : is_inside at_i (words_of ((f a col).tiles slot)) ≡ true
  in_a = inside at_i (words_of ((f a col).tiles slot)) (omega arith) (omega (arith, stands.hold.rows a ha, row_place-lt (rows_of d) i map may.first_in)) (omega arith) (omega (arith, stands.hold.columns a ha))

  in_b : is_inside at_j (words_of ((f b col).tiles slot)) ≡ true
  in_b = inside at_j (words_of ((f b col).tiles slot)) (omega arith) (omega (arith, stands.hold.rows b hb, row_place-lt (rows_of d) j map may.second_in)) (omega arith) (omega (arith, stands.hold.columns b hb))

  tall : at_i.r1 - at_i.r0 ≡ at_j.r1 - at_j.r0
  tall = omega arith

  module _ (ne : b ≢ a) where
    other : a ≢ b
    other e = ne (sym e)

    abbrev first : Holding
    first = put (f a col) slot (with_piece ((f a col).tiles slot) (piece.Part slot at_i) (piece_in (f b col).tiles (piece.Part slot at_j)))

    abbrev got : Holding
    got = put (f b col) (work 2) (piece_in (f a col).tiles (piece.Part slot at_i))

    abbrev second : Holding
    second = put got slot (with_piece (got.tiles slot) (piece.Part slot at_j) (piece_in got.tiles (piece.Whole (work 2))))

    abbrev swapped : ℕ → ℕ → Holding
    swapped = exchanged s st d.grid may.own_grid (is_in_scope d.grid (Column col)) a b col slot (work 2) at_i at_j (words_of ((f a col).tiles slot)) (words_of ((f b col).tiles slot)) f ha hb hc other
        (in_column d.grid a col ha hc) (in_column d.grid b col hb hc) (λ r e. (of_column d.grid col r e).0) (may.paths (rank_at d.grid a col) (rank_at d.grid b col)) (may.paths (rank_at d.grid b col) (rank_at d.grid a col))
        there_a there_b (stands.free a ha) (stands.free b hb) (work_free b hb) (may.no_work col) in_a in_b tall refl

    turns : Turns s st (is_in_scope d.grid (Column col)) (exchange_events d.grid a b col slot (work 2) at_i at_j) (on_grid d.grid f) (on_grid d.grid swapped)
    turns = turns_exchange s st d.grid may.own_grid (is_in_scope d.grid (Column col)) a b col slot (work 2) at_i at_j (words_of ((f a col).tiles slot)) (words_of ((f b col).tiles slot)) f ha hb hc other
        (in_column d.grid a col ha hc) (in_column d.grid b col hb hc) (λ r e. (of_column d.grid col r e).0) (may.paths (rank_at d.grid a col) (rank_at d.grid b col)) (may.paths (rank_at d.grid b col) (rank_at d.grid a col))
        there_a there_b (stands.free a ha) (stands.free b hb) (work_free b hb) (may.no_work col) in_a in_b tall refl

    made_a : first.tiles slot ≡ Some (with_piece ((f a col).tiles slot) (piece.Part slot at_i) (piece_in (f b col).tiles (piece.Part slot at_j)))
    made_a = first_made s st d.grid may.own_grid (is_in_scope d.grid (Column col)) a b col slot (work 2) at_i at_j (words_of ((f a col).tiles slot)) (words_of ((f b col).tiles slot)) f ha hb hc other
        (in_column d.grid a col ha hc) (in_column d.grid b col hb hc) (λ r e. (of_column d.grid col r e).0) (may.paths (rank_at d.grid a col) (rank_at d.grid b col)) (may.paths (rank_at d.grid b col) (rank_at d.grid a col))
        there_a there_b (stands.free a ha) (stands.free b hb) (work_free b hb) (may.no_work col) in_a in_b tall refl

    made_b : second.tiles slot ≡ Some (with_piece ((f b col).tiles slot) (piece.Part slot at_j) (piece_in (f a col).tiles (piece.Part slot at_i)))
    made_b = second_made s st d.grid may.own_grid (is_in_scope d.grid (Column col)) a b col slot (work 2) at_i at_j (words_of ((f a col).tiles slot)) (words_of ((f b col).tiles slot)) f ha hb hc other
        (in_column d.grid a col ha hc) (in_column d.grid b col hb hc) (λ r e. (of_column d.grid col r e).0) (may.paths (rank_at d.grid a col) (rank_at d.grid b col)) (may.paths (rank_at d.grid b col) (rank_at d.grid a col))
        there_a there_b (stands.free a ha) (stands.free b hb) (work_free b hb) (may.no_work col) in_a in_b tall refl

    abbrev f1 : ℕ → ℕ → Holding
    f1 = at_place f b col got

    abbrev f2 : ℕ → ℕ → Holding
    f2 = at_place f1 a col first

    now_a : swapped a col ≡ first
    now_a = at_place-else f2 b col second a col (λ u v. other u) ∙ at_place-here f1 a col first

    now_b : swapped b col ≡ second
    now_b = at_place-here f2 b col second

    now_else : (r : ℕ) → r ≢ a → r ≢ b → swapped r col ≡ f r col
    now_else r na nb = at_place-else f2 b col second r col (λ u v. nb u) ∙ at_place-else f1 a col first r col (λ u v. na u) ∙ at_place-else f b col got r col (λ u v. nb u)

    changes : (row : ℕ) → row < d.grid.p → ChangesOnly (swap_slots slot) (f row col) (swapped row col)
    changes row hr =
        elim (eqb_tells row a) [
          | inl p ↦
              subst (λ r. ChangesOnly (swap_slots slot) (f r col) (swapped r col)) (sym p.1)
              (subst (ChangesOnly (swap_slots slot) (f a col)) (sym now_a) (changed_put (swap_slots slot) (f a col) slot (with_piece ((f a col).tiles slot) (piece.Part slot at_i) (piece_in (f b col).tiles (piece.Part slot at_j))) in_slots))
          | inr p ↦
              elim (eqb_tells row b) [
                | inl q ↦
                    subst (λ r. ChangesOnly (swap_slots slot) (f r col) (swapped r col)) (sym q.1)
                    (subst (ChangesOnly (swap_slots slot) (f b col)) (sym now_b)
                    (changed_then (swap_slots slot) (f b col) got second
                    (changed_put (swap_slots slot) (f b col) (work 2) (piece_in (f a col).tiles (piece.Part slot at_i)) (or_right (same_slot (work 2) slot) (same_slot (work 2) (work 2)) refl))
                    (changed_put (swap_slots slot) got slot (with_piece (got.tiles slot) (piece.Part slot at_j) (piece_in got.tiles (piece.Whole (work 2)))) in_slots)))
                | inr q ↦ subst (ChangesOnly (swap_slots slot) (f row col)) (sym (now_else row p.1 q.1)) (unchanged (swap_slots slot) (f row col))
              ]
        ]

    apart : Swaps (exchange_events d.grid a b col slot (work 2) at_i at_j)
    apart = (
      record {
        after = swapped;
        turns = turns;
        changed = changes;
      },
      rows-sent d d.desc.nb i j slot w (λ row. (f row col).tiles) (λ row. (swapped row col).tiles) may.desc may.first_in may.second_in stands.hold ne (stands.there a ha) (stands.there b hb)
          (ap (λ h. h.tiles slot) now_a ∙ made_a) (ap (λ h. h.tiles slot) now_b ∙ made_b) (λ row hr na nb. ap (λ h. h.tiles slot) (now_else row na nb)),
      λ row hr.
          elim (eqb_tells row a) [
            | inl p ↦ ap (λ r. is_words ((swapped r col).tiles slot)) p.1 ∙ ap is_words (ap (λ h. h.tiles slot) now_a ∙ made_a)
            | inr p ↦
                elim (eqb_tells row b) [
                  | inl q ↦ ap (λ r. is_words ((swapped r col).tiles slot)) q.1 ∙ ap is_words (ap (λ h. h.tiles slot) now_b ∙ made_b)
                  | inr q ↦ ap (λ h. is_words (h.tiles slot)) (now_else row p.1 q.1) ∙ stands.there row hr
                ]
          ],
    )

  by_cases : (x y : Bool) → (i == j) ≡ x → (b == a) ≡ y → Swaps (if x then [] else if y then Local (rank_at d.grid a col) swap_kernel ∷ [] else exchange_events d.grid a b col slot (work 2) at_i at_j)
  by_cases true y e u = itself (eqb-true i j e)
  by_cases false true e u = together (eqb-true b a u)
  by_cases false false e u = apart (λ p. true≢false (sym (equal b a p) ∙ u))

  swaps : Swaps (swap_events d slot col i j)
  swaps = by_cases (i == j) (b == a) refl refl

  abbrev pub Exchanges : (ℕ → Holding) → Type 0
  Exchanges at = HoldsWords d slot (exchange i j w) at × ((row : ℕ) → row < d.grid.p → ChangesOnly (swap_slots slot) (f row col) (at row))

  pub column_exchanges : (h : ℕ → ℕ → Holding) × Turns s st (is_in_scope d.grid (Column col)) (swap_events d slot col i j) (on_grid d.grid f) (on_grid d.grid h) × Exchanges (λ row. h row col)
  column_exchanges =
      let z = swaps in (
        z.0.after,
        z.0.turns,
        (
          record {
            there = z.2;
            free = λ row hr. (z.0.changed row hr).free slot (stands.free row hr);
            hold = exchange-held (rows_of d) d.desc.nb i j w (strips_in (λ row. (f row col).tiles) slot) (strips_in (λ row. (z.0.after row col).tiles) slot) map may.first_in may.second_in z.1 stands.hold;
          },
          z.0.changed,
        ),
      )

module _ (s : Setting) (st : State) (d : Layout) (slot : ℕ → Slot) (i j : ℕ) (words : ℕ → ℕ → ℕ → ℕ) (may : MayExchange s st d slot i j) where
  abbrev test : ℕ → Slot → Bool
  test col = swap_slots (slot col)

  -- on all process columns
  pub exchanges : (f : ℕ → ℕ → Holding) → CanExchange d slot words f
      → (h : TurnsGrid s st d.grid (λ col. swap_slots (slot col)) (exchange_round d slot i j) f) × ((col : ℕ) → col < width d.grid → HoldsWords d (slot col) (exchange i j (words col)) (λ row. h.after row col))
  exchanges f can =
      let z =
      turns_columns_each s st d.grid may.own_grid (λ col. swap_events d (slot col) col i j) f
      (λ col at. HoldsWords d (slot col) (exchange i j (words col)) at × ((row : ℕ) → row < d.grid.p → ChangesOnly (swap_slots (slot col)) (f row col) (at row)))
      (λ col hc. column_exchanges s st d slot i j may col hc (words col) f (can.stands col hc) (λ row hr. can.work_free row col hr hc)) in (
        record { after = z.0; turns = z.1; changed = λ row col hr hc. (z.2 col hc).1 row hr },
        λ col hc. (z.2 col hc).0,
      )

  -- from a quiet state
  module _ (quiet : IsQuiet s st) (can : CanExchange d slot words (held_on st d.grid)) where
    abbrev round : TurnsGrid s st d.grid test (exchange_round d slot i j) (held_on st d.grid)
    round = (exchanges (held_on st d.grid) can).0

    pub exchange_legal : IsLegalFrom s st (records_of (exchange_round d slot i j))
    exchange_legal = (grid_legal s st d.grid test may.own_grid quiet (exchange_round d slot i j) round).legal

    pub exchange_held : (col : ℕ) → col < width d.grid → HoldsWords d (slot col) (exchange i j (words col)) (λ row. held_on (replay s st (records_of (exchange_round d slot i j))) d.grid row col)
    exchange_held col hc =
        stands_same d (slot col) (exchange i j (words col)) (λ row. round.after row col) (λ row. held_on (replay s st (records_of (exchange_round d slot i j))) d.grid row col)
        (λ row hr. grid_held s st d.grid test may.own_grid quiet (exchange_round d slot i j) round row col hr hc) ((exchanges (held_on st d.grid) can).1 col hc)

    pub exchange_changes : ChangesGrid s d.grid (λ col. swap_slots (slot col)) st (replay s st (records_of (exchange_round d slot i j)))
    exchange_changes = grid_changes s st d.grid test may.own_grid quiet (exchange_round d slot i j) round
