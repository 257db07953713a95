-- A part of a round for each process column, where each part is found on its own: the parts together, and for each process column what its part promised.
use Rattle.std.proofs.Common.{◌≡◌, ◌<◌, ◌≤◌, ◌==◌, ◌⊎◌, ℕ, true, List, refl, sym, ap, inl, inr, arith}
use Rattle.std.proofs.lemmas.Bool.{and_parts, eqb-true, cases_lt}
use Rattle.rank_run.specs.declared.round.Event.{Event}
use Rattle.blacs_grid.specs.declared.Scope.TheVariants.{Column}
use Rattle.blacs_grid.specs.declared.Grid.{Grid}
use Rattle.blacs_grid.specs.Places.{width, row_of, col_of, is_member, is_in_scope}
use Rattle.rank_machine.specs.declared.slot.Tile.{Tile}
use Rattle.rank_machine.specs.declared.slot.Piece.{Piece}
use Rattle.rank_machine.specs.declared.kernel.Kernel.{Kernel}
use Rattle.rank_machine.specs.Setting.{Setting}
use Rattle.rank_machine.specs.State.{State}
use Rattle.rank_slots.specs.Rank.{Rank}
use Rattle.round_laws.specs.Holdings.{Holding}
use Rattle.round_laws.specs.Turns.{Turns, each_below, on_grid, IsGridOf}
use Rattle.round_laws.proofs.Laws.{turns_same}
use Rattle.round_laws.proofs.Grids.{turns_columns}

abbrev Events : Type 0
Events = List (Event Rank Kernel Piece Tile)

module _ (s : Setting) (st : State) (g : Grid) (of : IsGridOf s g) (es : ℕ → Events) (f : ℕ → ℕ → Holding) (P : ℕ → (ℕ → Holding) → Type 0)
    (each : (col : ℕ) → col < width g → (k : ℕ → ℕ → Holding) × Turns s st (is_in_scope g (Column col)) (es col) (on_grid g f) (on_grid g k) × P col (λ row. k row col)) where
  abbrev pick : (col : ℕ) → (col < width g) ⊎ (width g ≤ col) → ℕ → Holding
  pick col (inl lt) row = (each col lt).0 row col
  pick col (inr le) row = f row col

  pick-good : (col : ℕ) (c : (col < width g) ⊎ (width g ≤ col)) → col < width g → P col (λ row. pick col c row)
  pick-good col (inl lt) hc = (each col lt).2
  pick-good col (inr le) hc = absurd (let z : ⊥ = omega arith in z)

  col_is : (col r : ℕ) → is_in_scope g (Column col) r ≡ true → col_of g r ≡ col
  col_is col r e = eqb-true (col_of g r) col (and_parts (is_member g r) (col_of g r == col) e).1

  pick-turns : (col : ℕ) (c : (col < width g) ⊎ (width g ≤ col)) → col < width g → Turns s st (is_in_scope g (Column col)) (es col) (on_grid g f) (on_grid g (λ row _. pick col c row))
  pick-turns col (inl lt) hc =
      turns_same s st (is_in_scope g (Column col)) (es col) (on_grid g f) (on_grid g (each col lt).0) (on_grid g f) (on_grid g (λ row _. (each col lt).0 row col)) (λ r e. refl)
      (λ r e. ap ((each col lt).0 (row_of g r)) (sym (col_is col r e))) (each col lt).1
  pick-turns col (inr le) hc = absurd (let z : ⊥ = omega arith in z)

  abbrev picked : ℕ → ℕ → Holding
  picked row col = pick col (cases_lt col (width g)) row

  pub turns_columns_each : (h : ℕ → ℕ → Holding) × Turns s st (is_member g) (each_below (width g) es) (on_grid g f) (on_grid g h) × ((col : ℕ) → col < width g → P col (λ row. h row col))
  turns_columns_each = (
    picked,
    turns_columns s st g of es f picked
        (λ col hc.
        turns_same s st (is_in_scope g (Column col)) (es col) (on_grid g f) (on_grid g (λ row _. pick col (cases_lt col (width g)) row)) (on_grid g f) (on_grid g picked) (λ r e. refl)
        (λ r e. ap (λ c. pick c (cases_lt c (width g)) (row_of g r)) (col_is col r e)) (pick-turns col (cases_lt col (width g)) hc)),
    λ col hc. pick-good col (cases_lt col (width g)) hc,
  )
