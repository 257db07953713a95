-- What holds of each command of a script holds of each in a list of some of them.
use Rattle.std.proofs.Common.{◌≡◌, ℕ, zero, suc, ◌<◌, Bool, List, [], ◌∷◌, length, get_or, Option, Some, refl, ap, ◌∙◌, arith}
use Rattle.std.specs.Prelude.{if◌then◌else◌}
use Rattle.std.specs.List.{Contains}
use Rattle.std.proofs.lemmas.Bool.{eq-eqb, ne_eqb}
use Rattle.std.proofs.lemmas.List.Elements.{Contains-append_right}
use Rattle.run_data.specs.declared.command.Command.{Command}
use Rattle.run_data.specs.Script.{Numbered, commands_of, command_at}
use Rattle.script_recovery.proofs.GridsAt.{LinesRise, commands-rise}

pub Contains-head : {X : Type 0} (x : X) (xs : List X) → Contains (x ∷ xs) x
Contains-head x xs = (0, omega arith, refl)

pub Contains-later : {X : Type 0} (x : X) (xs : List X) (y : X) → Contains xs y → Contains (x ∷ xs) y
Contains-later x xs y h = Contains-append_right (x ∷ []) xs y h

-- each command of a list stands above its bound
line_above : (bound : ℕ) (ns : List Numbered) (k : ℕ) (n : Numbered) → LinesRise bound ns → k < length ns → get_or ns k n ≡ n → bound < n.line
line_above bound [] k n rise l e = absurd (omega arith)
line_above bound (m ∷ ms) zero n rise l e = let same : m.line ≡ n.line = ap (λ (x : Numbered). x.line) e in omega (arith, rise.0)
line_above bound (m ∷ ms) (suc k) n rise l e = let rest : m.line < n.line = line_above m.line ms k n rise.1 (omega arith) e in omega (arith, rise.0)

other_line : (m n : ℕ) → m < n → m ≡ n → ⊥
other_line m n lt e = omega arith

-- the command of a line
command_there : (bound : ℕ) (ns : List Numbered) (k : ℕ) (n : Numbered) → LinesRise bound ns → k < length ns → get_or ns k n ≡ n → command_at ns n.line ≡ Some n.command
command_there bound [] k n rise l e = absurd (omega arith)
command_there bound (m ∷ ms) zero n rise l e =
    ap (λ (b : Bool). if b then Some m.command else command_at ms n.line) (eq-eqb m.line n.line (ap (λ (x : Numbered). x.line) e)) ∙ ap (λ (x : Numbered). Some x.command) e
command_there bound (m ∷ ms) (suc k) n rise l e =
    ap (λ (b : Bool). if b then Some m.command else command_at ms n.line) (ne_eqb m.line n.line (other_line m.line n.line (line_above m.line ms k n rise.1 (omega arith) e)))
    ∙ command_there m.line ms k n rise.1 (omega arith) e

pub command_at-there : (ns : List Numbered) (n : Numbered) → LinesRise 0 ns → Contains ns n → command_at ns n.line ≡ Some n.command
command_at-there ns n rise there = command_there 0 ns there.0 n rise there.1 there.2

-- each of these commands stands on its line
abbrev pub AreThere : List Numbered → List Numbered → Type 0
AreThere ns more = (n : Numbered) → Contains more n → command_at ns n.line ≡ Some n.command

pub there-all : (script : List (Option Command)) → AreThere (commands_of script) (commands_of script)
there-all script n among = command_at-there (commands_of script) n (commands-rise script) among

pub there-first : (ns more : List Numbered) (n : Numbered) → AreThere ns (n ∷ more) → command_at ns n.line ≡ Some n.command
there-first ns more n all = all n (Contains-head n more)

pub there-later : (ns more : List Numbered) (n : Numbered) → AreThere ns (n ∷ more) → AreThere ns more
there-later ns more n all m among = all m (Contains-later n more m among)
