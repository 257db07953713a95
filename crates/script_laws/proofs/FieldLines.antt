-- A script that keeps the rules is over one of two fields.
use Rattle.std.proofs.Common.{◌≡◌, ◌==◌, ◌||◌, ◌<◌, ℕ, suc, true, List, [], ◌∷◌, Option, Some, None, slice_get, take, refl, sym, ap, subst, arith, inl, inr, ⊎_elim}
use Rattle.std.specs.Prelude.{◌⊎◌}
use Rattle.std.proofs.lemmas.Bool.{eqb-true, or_cases}
use Rattle.field_core.specs.Residue.{IsPrime}
use Rattle.field_core.specs.Primes.{prime_65537, prime_65521}
use Rattle.run_data.specs.declared.command.Command.{Command}
use Rattle.run_data.specs.declared.command.Command.TheVariants as c
use Rattle.run_data.specs.Script.{commands_from, commands_of, modulus_after, modulus_from, modulus_of}
use Rattle.script_rules.specs.Rules.{field_lines, field_rules, matrix_lines}
use Rattle.script_words.proofs.Tables.{all_kept}
use Rattle.script_bounds.specs.Accepted.{KeepsRules}
use Rattle.script_bounds.proofs.Limits.{kept_on}

abbrev IsOfTwo : ℕ → Type 0
IsOfTwo n = (n ≡ 65537) ⊎ (n ≡ 65521)

-- what a field line says
one_of_two : (n : ℕ) → ((n == 65537) || (n == 65521)) ≡ true → IsOfTwo n
one_of_two n t = ⊎_elim (λ e. inl (eqb-true n 65537 e)) (λ e. inr (eqb-true n 65521 e)) (or_cases (n == 65537) (n == 65521) t)

field_said : (script : List (Option Command)) → KeepsRules script → (place n : ℕ) → slice_get script place ≡ Some (Some (c.Field n)) → IsOfTwo n
field_said script kept place n e =
    let front = commands_of (take place script) in
    one_of_two n (all_kept (field_rules (field_lines front) (matrix_lines front) n) (kept_on script place (c.Field n) kept e).own).0

-- one command more, and all lines
after_one : (command : Command) (before : ℕ) → ((n : ℕ) → command ≡ c.Field n → IsOfTwo n) → IsOfTwo before → IsOfTwo (modulus_after command before)
after_one (c.Field n) before says was = says n refl
after_one command before says was = was

after_lines : (k before : ℕ) (lines : List (Option Command)) → ((place n : ℕ) → slice_get lines place ≡ Some (Some (c.Field n)) → IsOfTwo n) → IsOfTwo before → IsOfTwo (modulus_from before (commands_from k lines))
after_lines k before [] says was = was
after_lines k before (None ∷ lines) says was = after_lines (suc k) before lines (λ place n e. says (suc place) n e) was
after_lines k before (Some command ∷ lines) says was =
    after_lines (suc k) (modulus_after command before) lines (λ place n e. says (suc place) n e) (after_one command before (λ n is. says 0 n (ap (λ x. Some (Some x)) is)) was)

pub accepted-field : (script : List (Option Command)) → KeepsRules script → (modulus_of (commands_of script) ≡ 65537) ⊎ (modulus_of (commands_of script) ≡ 65521)
accepted-field script kept = after_lines 1 65537 script (field_said script kept) (inl refl)

-- so its modulus is a prime, and greater than what a weight of a code column divides by
pub accepted-prime : (script : List (Option Command)) → KeepsRules script → IsPrime (modulus_of (commands_of script))
accepted-prime script kept = ⊎_elim (λ e. subst IsPrime (sym e) prime_65537) (λ e. subst IsPrime (sym e) prime_65521) (accepted-field script kept)

pub accepted-large : (script : List (Option Command)) → KeepsRules script → 32 < modulus_of (commands_of script)
accepted-large script kept = ⊎_elim (λ e. omega (arith, e)) (λ e. omega (arith, e)) (accepted-field script kept)
