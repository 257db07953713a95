-- The strips of a group are multiplied by a number, on each rank of the grid.
use Rattle.std.proofs.Common.{◌≡◌, ◌<◌, ◌||◌, ℕ, true, Some, refl, ap}
use Rattle.std.proofs.lemmas.Bool.{or_left}
use Rattle.blacs_grid.specs.Places.{width}
use Rattle.run_data.specs.Matrix.{Matrix}
use Rattle.rank_machine.specs.declared.slot.Slot.{Slot}
use Rattle.rank_machine.specs.declared.slot.Tile.{Tile}
use Rattle.rank_machine.specs.declared.slot.Tile.TheVariants.{Words}
use Rattle.rank_machine.specs.declared.slot.Piece.TheVariants as piece
use Rattle.rank_machine.specs.declared.kernel.Kernel.{Kernel}
use Rattle.rank_machine.specs.declared.kernel.Kernel.TheVariants as k
use Rattle.rank_machine.specs.declared.layout.Layout.{Layout}
use Rattle.rank_machine.specs.Setting.{Setting, job}
use Rattle.rank_machine.specs.State.{State, same_slot}
use Rattle.rank_machine.specs.Effect.{current, is_words, words_of, made_by}
use Rattle.rank_machine.specs.Legal.{is_among}
use Rattle.rank_slots.proofs.CellLaws.{same_slot-refl}
use Rattle.elimination.proofs.StripLaws.{scale-held}
use Rattle.phase_laws.specs.Columns.{rows_of, strips_in}
use Rattle.phase_laws.proofs.KernelLaws.{words_are, scale-made}
use Rattle.round_laws.specs.Holdings.{Holding, CanRun, holdings}
use Rattle.round_laws.specs.Turns.{IsGridOf}
use Rattle.round_laws.specs.Changes.{TurnsGrid}
use Rattle.round_laws.proofs.Holds.{put-here, put-free_here}
use Rattle.round_laws.proofs.Grids.{turns_columns, turns_column_works}
use Rattle.round_laws.proofs.Factors.{factor_scalar}
use Rattle.round_laws.proofs.Pieces.{holds_whole, alter}
use Rattle.round_laws.proofs.Changes.{changed_put}
use Rattle.phase_rounds.specs.Strips.{HoldsWords, work}
use Rattle.product_rounds.specs.declared.rounds.GroupProduct.{GroupProduct}
use Rattle.product_rounds.specs.Rounds.{strip_slot, scale_column, scale_events}
use Rattle.product_rounds.specs.Groups.{group_slots, scaled_words}

module _ (s : Setting) (st : State) (x : GroupProduct) (words : ℕ → ℕ → ℕ → ℕ) (f : ℕ → ℕ → Holding) (of : IsGridOf s x.grid) (factor : is_among (job s (current s st.mark)).scalars x.beta ≡ true)
    (stands : (col : ℕ) → col < width x.grid → HoldsWords (record { grid = x.grid; desc = x.c }) (strip_slot x x.line_c col) (words col) (λ row. f row col)) where
  abbrev at : Layout
  at = record { grid = x.grid; desc = x.c }

  abbrev slot : ℕ → Slot
  slot col = strip_slot x x.line_c col

  abbrev kernel : ℕ → Kernel
  kernel col = k.Scale (piece.Whole (slot col)) x.beta

  abbrev mc : ℕ → ℕ → Matrix
  mc row col = words_of ((f row col).tiles (slot col))

  c_is : (row col : ℕ) → row < x.grid.p → col < width x.grid → (f row col).tiles (slot col) ≡ Some (Words (mc row col))
  c_is row col hr hc = words_are ((f row col).tiles (slot col)) ((stands col hc).there row hr)

  abbrev scaled : ℕ → ℕ → Holding
  scaled row col = (holdings s st).applied (f row col) (kernel col)

  abbrev made_tile : ℕ → ℕ → Tile
  made_tile row col = made_by s (f row col).number (f row col).tiles (kernel col)

  can_scale : (row col : ℕ) → row < x.grid.p → col < width x.grid → CanRun s st (f row col) (kernel col)
  can_scale row col hr hc = record {
    held = holds_whole (f row col).tiles (slot col) (mc row col) (c_is row col hr hc);
    writable = alter (f row col) (slot col) (Words (mc row col)) (c_is row col hr hc) ((stands col hc).free row hr);
    apart = refl;
    shaped = refl;
    divisors = refl;
    placed = refl;
    strips = refl;
    factor = factor_scalar s st (f row col).number x.beta factor;
  }

  c_made : (row col : ℕ) → (scaled row col).tiles (slot col) ≡ Some (made_tile row col)
  c_made row col = put-here (f row col) (slot col) (made_tile row col)

  holds : (col : ℕ) → col < width x.grid → HoldsWords at (slot col) (scaled_words s x words col) (λ row. scaled row col)
  holds col hc = record {
    there = λ row hr. ap (λ o. is_words o) (c_made row col);
    free = λ row hr. put-free_here (f row col) (slot col) (made_tile row col);
    hold = scale-held (rows_of at) x.c.nb s.modulus x.beta (words col) (strips_in (λ row. (f row col).tiles) (slot col)) (strips_in (λ row. (scaled row col).tiles) (slot col))
        (scale-made s at col (slot col) x.beta (λ row. (f row col).tiles) (λ row. (scaled row col).tiles) (λ row hr. c_made row col)) (stands col hc).hold;
  }

  pub strips_scale : (h : TurnsGrid s st x.grid (group_slots x) (scale_events x) f) × ((col : ℕ) → col < width x.grid → HoldsWords at (slot col) (scaled_words s x words col) (λ row. h.after row col))
  strips_scale = (
    record {
      after = scaled;
      turns = turns_columns s st x.grid of (scale_column x) f scaled (λ col hc. turns_column_works s st x.grid of col (λ row. kernel col) f scaled hc (λ row hr. can_scale row col hr hc) (λ row hr. refl));
      changed = λ row col hr hc. changed_put (group_slots x col) (f row col) (slot col) (made_tile row col) (or_left (same_slot (slot col) (slot col)) (same_slot (slot col) (work 0) || same_slot (slot col) (work 1)) (same_slot-refl (slot col)));
    },
    holds,
  )
