-- Strips that hold words, by the holdings of their ranks.
use Rattle.std.proofs.Common.{◌≡◌, ◌<◌, ℕ, true, false, ap, sym, ◌∙◌, ⊎_elim}
use Rattle.std.proofs.lemmas.Bool.{cases_Bool, true≢false}
use Rattle.rank_machine.specs.declared.slot.Slot.{Slot}
use Rattle.rank_machine.specs.declared.layout.Layout.{Layout}
use Rattle.rank_machine.specs.State.{same_slot}
use Rattle.rank_machine.specs.Effect.{is_words, words_of}
use Rattle.rank_machine.proofs.Base.{same_slot-true}
use Rattle.rank_slots.proofs.CellLaws.{same_slot-refl}
use Rattle.elimination.proofs.StripLaws.{hold-strips}
use Rattle.phase_laws.specs.Columns.{rows_of, strips_in}
use Rattle.round_laws.specs.Holdings.{Holding}
use Rattle.phase_rounds.specs.Strips.{HoldsWords}

-- other holdings with the same tiles in the slot, in which it is free
pub stands_still : (d : Layout) (slot : Slot) (words : ℕ → ℕ → ℕ) (at at' : ℕ → Holding) → ((row : ℕ) → row < d.grid.p → (at' row).tiles slot ≡ (at row).tiles slot) → ((row : ℕ) → row < d.grid.p → (at' row).free slot ≡ true)
    → HoldsWords d slot words at → HoldsWords d slot words at'
stands_still d slot words at at' same free h = record {
  there = λ row hr. ap is_words (same row hr) ∙ h.there row hr;
  free = free;
  hold = hold-strips (rows_of d) d.desc.nb words (strips_in (λ row. (at row).tiles) slot) (strips_in (λ row. (at' row).tiles) slot) (λ row hr. ap words_of (same row hr)) h.hold;
}

-- equal holdings
pub stands_same : (d : Layout) (slot : Slot) (words : ℕ → ℕ → ℕ) (at at' : ℕ → Holding) → ((row : ℕ) → row < d.grid.p → at' row ≡ at row) → HoldsWords d slot words at → HoldsWords d slot words at'
stands_same d slot words at at' same h = stands_still d slot words at at' (λ row hr. ap (λ y. y.tiles slot) (same row hr)) (λ row hr. ap (λ y. y.free slot) (same row hr) ∙ h.free row hr) h

-- two slots that are not the same, the other way round
pub other_way : (a b : Slot) → same_slot a b ≡ false → same_slot b a ≡ false
other_way a b e =
    ⊎_elim
    (λ (u : same_slot b a ≡ true). absurd (true≢false (sym (ap (same_slot a) (same_slot-true b a u) ∙ same_slot-refl a) ∙ e)))
    (λ (u : same_slot b a ≡ false). u)
    (cases_Bool (same_slot b a))
