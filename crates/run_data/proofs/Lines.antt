-- The commands of a script and the lines that they stand on.
use Rattle.std.proofs.Common.{◌≡◌, ℕ, suc, ◌+◌, ◌-◌, ◌<◌, ◌≤◌, false, eqb, List, [], ◌∷◌, length, get_or, drop, Option, Some, None, refl, sym, ap, ◌∙◌, arith, inl, inr}
use Rattle.std.specs.List.{slice_get}
use Rattle.std.proofs.Common.{eq-eqb}
use Rattle.std.proofs.lemmas.Bool.{cases_lt}
use Rattle.std.proofs.lemmas.List.{drop_more}
use Rattle.std.proofs.lemmas.Option.{slice_get_read, slice_get_past}
use Rattle.std.proofs.lemmas.Bool.Decides.{nat_tests}
use Rattle.run_data.specs.declared.command.Command.{Command}
use Rattle.run_data.specs.Script.{commands_from, commands_of, command_at}

-- what a line says, if it is there
abbrev pub said : Option (Option Command) → Option Command
said None = None
said (Some c) = c

differs : (n line : ℕ) → line < n → eqb n line ≡ false
differs n line lt = grind (arith, nat_tests)

differs_below : (n line : ℕ) → n < line → eqb n line ≡ false
differs_below n line lt = grind (arith, nat_tests)

-- a line before all lines has no command
pub command_at-before : (n : ℕ) (lines : List (Option Command)) (line : ℕ) → line < n → command_at (commands_from n lines) line ≡ None
command_at-before n [] line lt = refl
command_at-before n (None ∷ ls) line lt = command_at-before (suc n) ls line (omega arith)
command_at-before n (Some c ∷ ls) line lt = rw (differs n line lt) (command_at-before (suc n) ls line (omega arith))

later : (n : ℕ) (c : Option Command) (ls : List (Option Command)) (line : ℕ) → n < line → command_at (commands_from n (c ∷ ls)) line ≡ command_at (commands_from (suc n) ls) line
later n None ls line lt = refl
later n (Some c) ls line lt = rw (differs_below n line lt) refl

here : (n : ℕ) (c : Option Command) (ls : List (Option Command)) → command_at (commands_from n (c ∷ ls)) n ≡ c
here n None ls = command_at-before (suc n) ls n (omega arith)
here n (Some c) ls = rw (eq-eqb n n refl) refl

-- the command of a line is what the line says
pub command_at-commands_from : (n : ℕ) (lines : List (Option Command)) (line : ℕ) → n ≤ line → command_at (commands_from n lines) line ≡ said (slice_get lines (line - n))
command_at-commands_from n [] line le = refl
command_at-commands_from n (c ∷ ls) line le =
    elim (cases_lt n line) [
      | inl lt ↦
          let k : line - n ≡ suc (line - suc n) = omega arith in
          later n c ls line lt ∙ command_at-commands_from (suc n) ls line (omega arith) ∙ sym (ap (λ i. said (slice_get (c ∷ ls) i)) k)
      | inr ge ↦
          let same : n ≡ line = omega arith in
          let k : line - n ≡ 0 = omega arith in
          ap (λ i. command_at (commands_from n (c ∷ ls)) i) (sym same) ∙ here n c ls ∙ sym (ap (λ i. said (slice_get (c ∷ ls) i)) k)
    ]

pub command_at_found : (lines : List (Option Command)) (line : ℕ) (c : Option Command) → 0 < line → line - 1 < length lines → c ≡ get_or lines (line - 1) c → command_at (commands_of lines) line ≡ c
command_at_found lines line c low lt e = command_at-commands_from 1 lines line (omega arith) ∙ ap said (slice_get_read lines (length lines) (line - 1) c refl lt e)

pub command_at_past : (lines : List (Option Command)) (line : ℕ) → 0 < line → length lines ≤ line - 1 → command_at (commands_of lines) line ≡ None
command_at_past lines line low ge = command_at-commands_from 1 lines line (omega arith) ∙ ap said (slice_get_past lines (line - 1) ge)

-- ---- the commands of the lines from the one at place i on: those of that line and of the others
commands_left : (lines : List (Option Command)) (i : ℕ) (d : Option Command) → i < length lines → commands_from (suc i) (drop i lines) ≡ commands_from (suc i) (get_or lines i d ∷ drop (i + 1) lines)
commands_left lines i d lt = ap (commands_from (suc i)) (drop_more lines i d lt)

pub left-some : (lines : List (Option Command)) (i : ℕ) (d : Option Command) (command : Command) → i < length lines → get_or lines i d ≡ Some command
    → commands_from (suc i) (drop i lines) ≡ record { line = i + 1; command = command } ∷ commands_from (suc (i + 1)) (drop (i + 1) lines)
left-some lines i d command lt e =
    let k : suc i ≡ i + 1 = omega arith in
    commands_left lines i d lt ∙ ap (λ o. commands_from (suc i) (o ∷ drop (i + 1) lines)) e
    ∙ ap (λ (m : ℕ). record { line = m; command = command } ∷ commands_from (suc m) (drop (i + 1) lines)) k

pub left-none : (lines : List (Option Command)) (i : ℕ) (d : Option Command) → i < length lines → get_or lines i d ≡ None
    → commands_from (suc i) (drop i lines) ≡ commands_from (suc (i + 1)) (drop (i + 1) lines)
left-none lines i d lt e =
    let k : suc i ≡ i + 1 = omega arith in
    commands_left lines i d lt ∙ ap (λ o. commands_from (suc i) (o ∷ drop (i + 1) lines)) e ∙ ap (λ (m : ℕ). commands_from (suc m) (drop (i + 1) lines)) k
