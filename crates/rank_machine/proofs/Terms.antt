-- Short words for worked journals.
use Rattle.std.proofs.Common.{◌≡◌, ◌++◌, ℕ, ◌==◌, ◌&&◌, not, zero, suc, Bool, true, false, List, [], ◌∷◌, slice_index_or, sym, subst}
use Rattle.std.specs.Prelude.{if◌then◌else◌}
use Rattle.field_core.specs.Residue.{inverse}
use Rattle.field_core.specs.Primes.{prime_65537}
use Rattle.field_core.proofs.Computing.{quick_inverse, quick_inverse_is}
use Rattle.run_data.specs.Matrix.{Matrix}
use Rattle.run_data.specs.Script.{Numbered}
use Rattle.run_data.specs.declared.matrix.Part.{Part}
use Rattle.rank_machine.specs.declared.slot.SlotKind.TheVariants.{Data, Code, Low, Open, Pivots, Work}
use Rattle.rank_machine.specs.declared.slot.Slot.{Slot}
use Rattle.rank_machine.specs.declared.mark.Mark.{Mark}
use Rattle.rank_machine.specs.declared.record.Rec.{Rec}
use Rattle.rank_machine.specs.declared.record.Rec.TheVariants as r
use Rattle.rank_machine.specs.Setting.{Setting}
use Rattle.rank_machine.specs.Scripts.{setting_over}
use Rattle.rank_machine.specs.State.{State, opened}
use Rattle.rank_machine.specs.Effect.{after, replay, state_after}
use Rattle.rank_machine.specs.Legal.{IsLegalFrom, IsLegal}
use Rattle.rank_machine.specs.Tests.{Known, legal_test}
use Rattle.rank_machine.proofs.Agree.{AllDecode, IsLegal-from_test}

-- a script's setting modulo 65537, and the same with an inverse that computes
abbrev pub setting_with : List Numbered → (ℕ → Matrix) → Setting
setting_with ns files = setting_over 65537 (inverse 65537) ns files

abbrev pub quick_setting : List Numbered → (ℕ → Matrix) → Setting
quick_setting ns files = setting_over 65537 (quick_inverse 65537) ns files

-- the two settings have the same legal journals
pub as_quick : (ns : List Numbered) (files : ℕ → Matrix) (journal : List Rec) → IsLegal (setting_with ns files) journal → IsLegal (quick_setting ns files) journal
as_quick ns files journal h = subst (λ inverses. IsLegal (setting_over 65537 inverses ns files) journal) (sym (quick_inverse_is 65537 prime_65537)) h

pub legal_by_quick : (ns : List Numbered) (files : ℕ → Matrix) (known : List Known) (journal : List Rec) → AllDecode (quick_setting ns files) known → legal_test (quick_setting ns files) known journal ≡ true → IsLegal (setting_with ns files) journal
legal_by_quick ns files known journal all h =
    subst (λ inverses. IsLegal (setting_over 65537 inverses ns files) journal) (quick_inverse_is 65537 prime_65537) (IsLegal-from_test (quick_setting ns files) known journal all h)

-- what a legal journal that begins with some records says of those that follow
legal_later : (s : Setting) (st : State) (before later : List Rec) → IsLegalFrom s st (before ++ later) → IsLegalFrom s (replay s st before) later
legal_later s st [] later h = h
legal_later s st (x ∷ xs) later h = legal_later s (after s st x) xs later h.1

pub legal_past : (ns : List Numbered) (files : ℕ → Matrix) (before later : List Rec) → IsLegal (setting_with ns files) (before ++ later) → IsLegalFrom (quick_setting ns files) (state_after (quick_setting ns files) before) later
legal_past ns files before later h = legal_later (quick_setting ns files) (opened (quick_setting ns files)) before later (as_quick ns files (before ++ later) h)

abbrev pub no_matrix : Matrix
no_matrix = record { rows = 0; columns = [] }

abbrev pub by_line : ℕ → ℕ → Matrix → Matrix → Matrix
by_line k line a b = if line == k then a else b

abbrev pub d : ℕ → ℕ → Slot
d id group = record { kind = Data; id = id; group = group }

abbrev pub co : ℕ → ℕ → Slot
co id group = record { kind = Code; id = id; group = group }

abbrev pub lo : ℕ → ℕ → Slot
lo id group = record { kind = Low; id = id; group = group }

abbrev pub o : ℕ → ℕ → Slot
o id group = record { kind = Open; id = id; group = group }

abbrev pub v : ℕ → ℕ → Slot
v id group = record { kind = Pivots; id = id; group = group }

abbrev pub w : ℕ → ℕ → Slot
w id group = record { kind = Work; id = id; group = group }

abbrev pub mark : ℕ → Bool → ℕ → Bool → ℕ → Mark
mark line ended closed opened merged = record { line = line; ended = ended; closed = closed; opened = opened; merged = merged }

abbrev pub rect : ℕ → ℕ → ℕ → ℕ → Part
rect r0 r1 c0 c1 = record { r0 = r0; r1 = r1; c0 = c0; c1 = c1 }

-- whether the record at a place of a journal is a loss
abbrev pub is_loss : Rec → Bool
is_loss (r.Lose rank) = true
is_loss _ = false

abbrev pub is_loss_at : List Rec → ℕ → Bool
is_loss_at [] n = false
is_loss_at (x ∷ xs) zero = is_loss x
is_loss_at (x ∷ xs) (suc n) = is_loss_at xs n

abbrev pub all_false : List Bool → Bool
all_false [] = true
all_false (x ∷ xs) = not x && all_false xs

-- where nothing is lost, no column is
pub none_lost : (xs : List Bool) (i : ℕ) → all_false xs ≡ true → slice_index_or xs i false ≡ true → ⊥
none_lost [] i a h = let e : false ≡ true = h in cc
none_lost (true ∷ xs) i a h = let e : false ≡ true = a in cc
none_lost (false ∷ xs) zero a h = let e : false ≡ true = h in cc
none_lost (false ∷ xs) (suc i) a h = none_lost xs i a h
