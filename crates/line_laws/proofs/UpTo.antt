-- The commands up to a line, and one line more.
use Rattle.std.proofs.Common.{◌≡◌, ◌+◌, ◌<◌, ◌≤◌, ◌==◌, nat_lt, ℕ, zero, suc, Bool, true, false, List, [], ◌∷◌, ◌++◌, Option, Some, None, refl, sym, ap, subst, ◌∙◌, ⊎_elim, arith}
use Rattle.std.specs.Prelude.{if◌then◌else◌, nat_le}
use Rattle.std.proofs.lemmas.List.{append_assoc}
use Rattle.std.proofs.lemmas.Bool.{leb-true, le-leb, eqb-true, eq-eqb, eqb-false, true≢false, cases_Bool, false_from_ne_true}
use Rattle.run_data.specs.Matrix.{Matrix}
use Rattle.run_data.specs.declared.command.Command.{Command}
use Rattle.run_data.specs.Script.{Numbered, commands_from, command_at, modulus_of}
use Rattle.serial_model.specs.Serial.{Values, text_from, up_to}
use Rattle.line_laws.specs.Lines.{values_after, values_of, text_added}

-- the command of a line, if there is one
abbrev pub one_of : ℕ → Option Command → List Numbered
one_of line None = []
one_of line (Some command) = record { line = line; command = command } ∷ []

more_than : (n k : ℕ) → k < n → nat_le n k ≡ false
more_than n k lt = false_from_ne_true (nat_le n k) (λ e. omega (arith, lt, leb-true n k e))

other_than : (n k : ℕ) → n < k → (n == k) ≡ false
other_than n k lt = false_from_ne_true (n == k) (λ e. omega (arith, lt, eqb-true n k e))

other_from : (n k : ℕ) → k < n → (n == k) ≡ false
other_from n k lt = false_from_ne_true (n == k) (λ e. omega (arith, lt, eqb-true n k e))

-- no command stands before the first line
pub none-before : (n k : ℕ) (lines : List (Option Command)) → k < n → up_to k (commands_from n lines) ≡ []
none-before n k [] lt = refl
none-before n k (None ∷ lines) lt = none-before (suc n) k lines (omega (arith, lt))
none-before n k (Some x ∷ lines) lt = ap (λ b. if b then record { line = n; command = x } ∷ up_to k (commands_from (suc n) lines) else up_to k (commands_from (suc n) lines)) (more_than n k lt) ∙ none-before (suc n) k lines (omega (arith, lt))

none_there : (n k : ℕ) (lines : List (Option Command)) → k < n → command_at (commands_from n lines) k ≡ None
none_there n k [] lt = refl
none_there n k (None ∷ lines) lt = none_there (suc n) k lines (omega (arith, lt))
none_there n k (Some x ∷ lines) lt = ap (λ b. if b then Some x else command_at (commands_from (suc n) lines) k) (other_from n k lt) ∙ none_there (suc n) k lines (omega (arith, lt))

-- ---- one line more
module _ (n k : ℕ) (x : Command) (lines : List (Option Command)) where
  abbrev more : List Numbered
  more = commands_from (suc n) lines

  abbrev this : Numbered
  this = record { line = n; command = x }

  abbrev GoesOn : List Numbered → Type 0
  GoesOn ns = up_to (suc k) ns ≡ up_to k ns ++ one_of (suc k) (command_at ns (suc k))

  put : (k : ℕ) (b : Bool) → nat_le n k ≡ b → up_to k (this ∷ more) ≡ (if b then this ∷ up_to k more else up_to k more)
  put k b e = ap (λ b. if b then this ∷ up_to k more else up_to k more) e

  at : (b : Bool) → (n == suc k) ≡ b → command_at (this ∷ more) (suc k) ≡ (if b then Some x else command_at more (suc k))
  at b e = ap (λ b. if b then Some x else command_at more (suc k)) e

  before : GoesOn more → nat_le n k ≡ true → GoesOn (this ∷ more)
  before go e =
      let le : n ≤ k = leb-true n k e in
      put (suc k) true (le-leb n (suc k) (omega (arith, le))) ∙ (ap (λ xs. this ∷ xs) go ∙ (λ i. sym (put k true e) i ++ one_of (suc k) (sym (at false (other_than n (suc k) (omega (arith, le)))) i)))

  here : nat_le n k ≡ false → (n == suc k) ≡ true → GoesOn (this ∷ more)
  here e h =
      let is : n ≡ suc k = eqb-true n (suc k) h in
      put (suc k) true (le-leb n (suc k) (omega (arith, is)))
      ∙ (ap (λ xs. this ∷ xs) (none-before (suc n) (suc k) lines (omega (arith, is)))
      ∙ (ap (λ l. one_of l (Some x)) is ∙ (λ i. sym (put k false e ∙ none-before (suc n) k lines (omega (arith, is))) i ++ one_of (suc k) (sym (at true h) i))))

  past : GoesOn more → nat_le n k ≡ false → (n == suc k) ≡ false → GoesOn (this ∷ more)
  past go e h =
      let lt : suc k < n = beyond (λ h. true≢false (sym (le-leb n k h) ∙ e)) (eqb-false n (suc k) h) in
      put (suc k) false (more_than n (suc k) lt) ∙ (go ∙ (λ i. sym (put k false e) i ++ one_of (suc k) (sym (at false h) i)))
    where
      beyond : (n ≤ k → ⊥) → (n ≡ suc k → ⊥) → suc k < n
      beyond a b = grind arith

pub up_to-next : (n k : ℕ) (lines : List (Option Command)) → up_to (suc k) (commands_from n lines) ≡ up_to k (commands_from n lines) ++ one_of (suc k) (command_at (commands_from n lines) (suc k))
up_to-next n k [] = refl
up_to-next n k (None ∷ lines) = up_to-next (suc n) k lines
up_to-next n k (Some x ∷ lines) =
    ⊎_elim
    (λ (e : nat_le n k ≡ true). before n k x lines (up_to-next (suc n) k lines) e)
    (λ (e : nat_le n k ≡ false). ⊎_elim (λ (h : (n == suc k) ≡ true). here n k x lines e h) (λ (h : (n == suc k) ≡ false). past n k x lines (up_to-next (suc n) k lines) e h) (cases_Bool (n == suc k)))
    (cases_Bool (nat_le n k))

-- ---- what commands do, one after another
pub text-append : (files : ℕ → Matrix) (script xs ys : List Numbered) (values : Values)
    → text_from files script (xs ++ ys) values ≡ text_from files script xs values ++ text_from files script ys (values_of (modulus_of script) files xs values)
text-append files script [] ys values = refl
text-append files script (n ∷ xs) ys values =
    let next : Values = values_after (modulus_of script) files n.line n.command values in
    let first : List ℕ = text_added script n.line n.command values in
    ap (λ ws. first ++ ws) (text-append files script xs ys next)
    ∙ sym (append_assoc first (text_from files script xs next) (text_from files script ys (values_of (modulus_of script) files xs next)))

pub values-append : (p : ℕ) (files : ℕ → Matrix) (xs ys : List Numbered) (values : Values) → values_of p files (xs ++ ys) values ≡ values_of p files ys (values_of p files xs values)
values-append p files [] ys values = refl
values-append p files (n ∷ xs) ys values = values-append p files xs ys (values_after p files n.line n.command values)
