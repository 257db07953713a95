-- Lists of slots, each with the words that may be in it.
use Rattle.std.proofs.Common.{◌≡◌, ◌+◌, ◌*◌, ◌<◌, ◌≤◌, ◌==◌, ◌&&◌, ℕ, zero, suc, true, false, List, [], ◌∷◌, ◌++◌, refl, sym, ap, ◌∙◌, ⊎_elim, arith}
use Rattle.std.specs.Prelude.{if◌then◌else◌}
use Rattle.std.proofs.lemmas.Bool.{cases_Bool, and_from, eq-eqb, true≢false}
use Rattle.rank_machine.specs.declared.slot.Slot.{Slot}
use Rattle.rank_machine.specs.declared.slot.SlotKind.{SlotKind}
use Rattle.rank_machine.specs.State.{same_kind, same_slot}
use Rattle.rank_machine.specs.CodeLaw.{slot_at}
use Rattle.phase_frames.specs.Touching.{allowed, total}

pub total-append : (xs ys : List (Slot × ℕ)) → total (xs ++ ys) ≡ total xs + total ys
total-append [] ys = omega arith
total-append (x ∷ xs) ys = omega (arith, total-append xs ys)

pub allowed-append : (xs ys : List (Slot × ℕ)) (x : Slot) → allowed (xs ++ ys) x ≡ allowed xs x + allowed ys x
allowed-append [] ys x = omega arith
allowed-append (p ∷ ps) ys x = omega (arith, allowed-append ps ys x)

-- ---- the slots of a kind of the first groups of a matrix, each with so many words
abbrev pub each_slot : SlotKind → ℕ → ℕ → ℕ → List (Slot × ℕ)
each_slot kind line words zero = []
each_slot kind line words (suc n) = (slot_at kind line n, words) ∷ each_slot kind line words n

pub total_each : (kind : SlotKind) (line words n : ℕ) → total (each_slot kind line words n) ≡ words * n
total_each kind line words zero = omega arith
total_each kind line words (suc n) = let a = total_each kind line words n in omega (arith, a)

pub allowed_each : (kind : SlotKind) (line words n : ℕ) (slot : Slot) → same_kind slot.kind kind ≡ true → (slot.id == line) ≡ true → slot.group < n → words ≤ allowed (each_slot kind line words n) slot
allowed_each kind line words zero slot e i lt = absurd (omega (arith, lt))
allowed_each kind line words (suc n) slot e i lt =
    ⊎_elim
    (λ (here : (slot.group == n) ≡ true).
    let same : same_slot slot (slot_at kind line n) ≡ true = and_from (same_kind slot.kind kind && (slot.id == line)) (slot.group == n) (and_from (same_kind slot.kind kind) (slot.id == line) e i) here in
    let one : (if same_slot slot (slot_at kind line n) then words else 0) ≡ words = ap (λ b. if b then words else 0) same in
    omega (arith, one))
    (λ (other : (slot.group == n) ≡ false).
    let ne : slot.group ≡ n → ⊥ = λ x. true≢false (sym (eq-eqb slot.group n x) ∙ other) in
    let less : slot.group < n = grind (arith, lt, ne) in
    omega (arith, allowed_each kind line words n slot e i less))
    (cases_Bool (slot.group == n))
