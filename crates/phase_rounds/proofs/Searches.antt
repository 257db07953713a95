-- The pivot search of a column: every rank of the process column has the number of the pivot's row.
use Rattle.std.proofs.Common.{◌≡◌, ◌-◌, ◌<◌, ◌≤◌, ℕ, zero, suc, true, not, Some, [], ◌∷◌, refl, sym, ap, subst, ◌∙◌, arith}
use Rattle.std.specs.Prelude.{min}
use Rattle.std.proofs.lemmas.Bool.{and_from, lt-ltb}
use Rattle.blacs_grid.specs.Places.{width, rank_at}
use Rattle.run_data.specs.Matrix.{cols}
use Rattle.rank_machine.specs.declared.slot.Tile.TheVariants.{Index}
use Rattle.rank_machine.specs.declared.slot.Piece.TheVariants as piece
use Rattle.rank_machine.specs.declared.layout.Layout.{Layout}
use Rattle.rank_machine.specs.Setting.{Setting}
use Rattle.rank_machine.specs.State.{State, same_slot}
use Rattle.rank_machine.specs.Effect.{words_of, least_of, first_row}
use Rattle.rank_machine.specs.Legal.{in_matrix}
use Rattle.serial_model.specs.Elimination.{pivot_from}
use Rattle.phase_laws.specs.Search.{number_found}
use Rattle.phase_laws.proofs.KernelLaws.{words_are}
use Rattle.phase_laws.proofs.Searches.{least_of-none, least_of-is, least-pivot}
use Rattle.round_laws.specs.Holdings.{Holding, CanRun}
use Rattle.round_laws.specs.Turns.{IsGridOf}
use Rattle.round_laws.specs.Changes.{TurnsColumn}
use Rattle.round_laws.specs.Searches.{Search, find_kernel, search_events, search_slots, number_of_search}
use Rattle.round_laws.proofs.Pieces.{holds_whole}
use Rattle.round_laws.proofs.PivotSearch.{turns_search}
use Rattle.phase_rounds.specs.Searches.{MaySearch, CanSearch}

module _ (s : Setting) (st : State) (d : Layout) (x : Search) (words : ℕ → ℕ → ℕ) (f : ℕ → ℕ → Holding) (may : MaySearch s st d x) (can : CanSearch s d x words f) where
  -- in the words of the search's own grid
  of : IsGridOf s x.grid
  of = subst (IsGridOf s) (sym may.grid) may.own_grid

  wide : x.col < width x.grid
  wide = subst (λ g. x.col < width g) (sym may.grid) may.col_in

  root_in : x.root < x.grid.p
  root_in = subst (λ g. x.root < g.p) (sym may.grid) may.root_in

  row_in : (row : ℕ) → row < x.grid.p → row < d.grid.p
  row_in row hr = subst (λ g. row < g.p) may.grid hr

  can_find : (row : ℕ) → row < x.grid.p → CanRun s st (f row x.col) (find_kernel x)
  can_find row hr =
      let hd = row_in row hr in
      let m = words_of ((f row x.col).tiles x.slot) in
      record {
        held = holds_whole (f row x.col).tiles x.slot m (words_are ((f row x.col).tiles x.slot) (can.stands.there row hd));
        writable = can.first_free row hd;
        apart = and_from (not (same_slot x.first x.slot)) true (ap not may.not_first) refl;
        shaped = (let wide_enough = can.stands.hold.columns row hd in let in_width = may.j_in in lt-ltb x.j (cols m - 0) (omega (arith, wide_enough, in_width)));
        divisors = refl;
        placed = ap (λ r. in_matrix s r x.slot) (can.numbers row hd) ∙ can.placed row hd;
        strips = refl;
        factor = tt;
      }

  round : (h : TurnsColumn s st x.grid x.col (search_slots x) (search_events x) f) × ((row : ℕ) → row < x.grid.p → (h.after row x.col).tiles x.first ≡ Some (Index (number_of_search s x f ∷ [])))
  round = turns_search s st x of may.paths f wide root_in may.apart may.other can_find (λ row hr. can.second_free row (row_in row hr))

  abbrev numbers : ℕ → ℕ
  numbers row = first_row s (rank_at d.grid row x.col) (f row x.col).tiles (piece.Whole x.slot) x.j x.above

  least_is : (n : ℕ) → n ≤ d.grid.p → least_of n (λ row. first_row s (f row x.col).number (f row x.col).tiles (piece.Whole x.slot) x.j x.above) ≡ least_of n numbers
  least_is zero le = refl
  least_is (suc n) le = λ i. min (least_is n (omega arith) i) (first_row s (can.numbers n (omega arith) i) (f n x.col).tiles (piece.Whole x.slot) x.j x.above)

  number_is : number_of_search s x f ≡ number_found (pivot_from (λ i. words i x.j) x.above (d.desc.m - x.above))
  number_is =
      ap (λ g. least_of g.p (λ row. first_row s (f row x.col).number (f row x.col).tiles (piece.Whole x.slot) x.j x.above)) may.grid ∙ least_is d.grid.p (omega arith)
      ∙ least-pivot s d x.col x.slot (λ row. (f row x.col).tiles) d.desc.nb words x.j x.above (least_of d.grid.p numbers) may.desc may.col_in may.laid can.stands.hold may.j_in may.above_in
      (least_of-is d.grid.p numbers (let some = may.own_grid.grid.some_rows in omega (arith, some)) (λ row h. least_of-none _ _))

  -- the pivot's number, or the one that means none, is on all ranks of the process column
  pub searches : (h : TurnsColumn s st x.grid x.col (search_slots x) (search_events x) f)
      × ((row : ℕ) → row < d.grid.p → (h.after row x.col).tiles x.first ≡ Some (Index (number_found (pivot_from (λ i. words i x.j) x.above (d.desc.m - x.above)) ∷ [])))
  searches = (round.0, λ row hr. round.1 row (subst (λ g. row < g.p) (sym may.grid) hr) ∙ ap (λ n. Some (Index (n ∷ []))) number_is)
