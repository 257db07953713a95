-- The grids of a script: their ranks, and the one that a line makes.
use Rattle.std.proofs.Common.{◌≡◌, ℕ, suc, ◌+◌, ◌*◌, ◌<◌, ◌≤◌, Bool, List, [], ◌∷◌, ◌++◌, length, Option, Some, None, refl, sym, ap, ◌∙◌, subst, arith, inl, inr}
use Rattle.std.specs.Prelude.{◌==◌, if◌then◌else◌, slice_index_or}
use Rattle.std.proofs.lemmas.Bool.{cases_Bool, eqb-true, lt-ltb, le-ltb}
use Rattle.std.proofs.lemmas.Option.{same_Some}
use Rattle.run_data.specs.declared.command.Command.{Command}
use Rattle.run_data.specs.declared.command.Command.TheVariants as c
use Rattle.run_data.specs.Script.{Numbered, commands_from, commands_of, command_at, is_grid, grids_before}
use Rattle.blacs_grid.specs.declared.Grid.{Grid}
use Rattle.rank_machine.specs.Setting.{sizes, no_grid}
use Rattle.rank_machine.specs.Scripts.{grid_made, ranks_made, grids_from}
use Rattle.script_rules.specs.Rules.{total_after, ranks_made as ranks_of_command}

-- ---- lines rise
abbrev pub LinesRise : ℕ → List Numbered → Type 0
LinesRise bound [] = Unit {0}
LinesRise bound (n ∷ ns) = (bound < n.line) × LinesRise n.line ns

commands_from-rise : (bound n : ℕ) (lines : List (Option Command)) → bound < n → LinesRise bound (commands_from n lines)
commands_from-rise bound n [] lt = tt
commands_from-rise bound n (None ∷ lines) lt = commands_from-rise bound (suc n) lines (omega arith)
commands_from-rise bound n (Some command ∷ lines) lt = (lt, commands_from-rise n (suc n) lines (omega arith))

pub commands-rise : (lines : List (Option Command)) → LinesRise 0 (commands_of lines)
commands-rise lines = commands_from-rise 0 1 lines (omega arith)

-- ---- the ranks of the grids
pub sizes-made : (command : Command) (first : ℕ) (rest : List Grid) → sizes (grid_made command first ++ rest) ≡ ranks_made command + sizes rest
sizes-made (c.Grid name p q f) first rest = refl
sizes-made command first rest = omega arith

same_ranks : (command : Command) → ranks_of_command command ≡ ranks_made command
same_ranks (c.Grid name p q f) = refl
same_ranks command = refl

abbrev total_ranks : List Numbered → List Numbered → ℕ
total_ranks before more = total_after (λ before n. ranks_of_command n.command) before more

pub sizes-from : (before more : List Numbered) (first : ℕ) → sizes (grids_from first more) ≡ total_ranks before more
sizes-from before [] first = refl
sizes-from before (n ∷ more) first =
    let here = sizes-made n.command first (grids_from (first + ranks_made n.command) more) in
    let rest = sizes-from (before ++ n ∷ []) more (first + ranks_made n.command) in
    let same = same_ranks n.command in
    omega (arith, here, rest, same)

-- ---- the grid of a line
pub command-above : (bound : ℕ) (more : List Numbered) (line : ℕ) (command : Command) → LinesRise bound more → command_at more line ≡ Some command → bound < line
command-above bound [] line command rise e = absurd cc
command-above bound (n ∷ more) line command rise e =
    elim (cases_Bool (n.line == line)) [
      | inl here ↦ (let same : n.line ≡ line = eqb-true n.line line here in omega (arith, rise.0))
      | inr other ↦
          (let above : n.line < line = command-above n.line more line command rise.1 (ap (λ (b : Bool). if b then Some n.command else command_at more line) (sym other) ∙ e) in omega (arith, rise.0))
    ]

grids_before-none : (more : List Numbered) (bound line : ℕ) → LinesRise bound more → line ≤ bound → grids_before more line ≡ 0
grids_before-none [] bound line rise low = refl
grids_before-none (n ∷ more) bound line rise low =
    let rest = grids_before-none more n.line line rise.1 (omega (arith, rise.0)) in
    ap (λ (b : Bool). (if b then (if is_grid n.command then 1 else 0) else 0) + grids_before more line) (le-ltb n.line line (omega (arith, rise.0))) ∙ omega (arith, rest)

-- among grids whose first rank is given, the one of a number begins where its ranks still fit
pub record LiesAt (grids : List Grid) (first number p q f : ℕ) : Type 0 where
  pub start : ℕ
  pub grid : slice_index_or grids number no_grid ≡ record { p = p; q = q; f = f; first = start }
  pub inside : start + p * (q + f) ≤ first + sizes grids
  pub there : number < length grids

lies_here : (command : Command) (first number p q f : ℕ) (made : List ℕ) (rest : List Grid) → command ≡ c.Grid made p q f → number ≡ 0 → LiesAt (grid_made command first ++ rest) first number p q f
lies_here command first number p q f made rest e zero_is =
    let whole : LiesAt (record { p = p; q = q; f = f; first = first } ∷ rest) first 0 p q f = record { start = first; grid = refl; inside = omega arith; there = omega arith } in
    subst (λ (x : Command). LiesAt (grid_made x first ++ rest) first number p q f) (sym e)
    (subst (λ (k : ℕ). LiesAt (record { p = p; q = q; f = f; first = first } ∷ rest) first k p q f) (sym zero_is) whole)

lies_later : (command : Command) (first number p q f : ℕ) (rest : List Grid) → LiesAt rest (first + ranks_made command) number p q f
    → LiesAt (grid_made command first ++ rest) first ((if is_grid command then 1 else 0) + number) p q f
lies_later (c.Grid name a b d) first number p q f rest lies =
    let grids : List Grid = record { p = a; q = b; f = d; first = first } ∷ rest in
    let next : 1 + number ≡ suc number = omega arith in
    let inside = lies.inside in
    record { start = lies.start; grid = ap (λ k. slice_index_or grids k no_grid) next ∙ lies.grid; inside = omega (arith, inside); there = omega (arith, lies.there) }
lies_later command first number p q f rest lies =
    let next : 0 + number ≡ number = omega arith in
    let inside = lies.inside in
    record { start = lies.start; grid = ap (λ k. slice_index_or rest k no_grid) next ∙ lies.grid; inside = omega (arith, inside); there = omega (arith, lies.there) }

pub LiesAt-from : (more : List Numbered) (bound first line : ℕ) (made : List ℕ) (p q f : ℕ) → LinesRise bound more → command_at more line ≡ Some (c.Grid made p q f)
    → LiesAt (grids_from first more) first (grids_before more line) p q f
LiesAt-from [] bound first line made p q f rise e = absurd cc
LiesAt-from (n ∷ more) bound first line made p q f rise e =
    elim (cases_Bool (n.line == line)) [
      | inl here ↦
          (let same : n.line ≡ line = eqb-true n.line line here in
          let command : n.command ≡ c.Grid made p q f = same_Some n.command (c.Grid made p q f) (ap (λ (b : Bool). if b then Some n.command else command_at more line) (sym here) ∙ e) in
          let past : grids_before more line ≡ 0 = grids_before-none more n.line line rise.1 (omega (arith, same)) in
          let none : grids_before (n ∷ more) line ≡ 0 =
          ap (λ (b : Bool). (if b then (if is_grid n.command then 1 else 0) else 0) + grids_before more line) (le-ltb n.line line (omega (arith, same)))
          ∙ omega (arith, past) in
          lies_here n.command first (grids_before (n ∷ more) line) p q f made (grids_from (first + ranks_made n.command) more) command none)
      | inr other ↦
          (let rest : command_at more line ≡ Some (c.Grid made p q f) = ap (λ (b : Bool). if b then Some n.command else command_at more line) (sym other) ∙ e in
          let above = command-above n.line more line (c.Grid made p q f) rise.1 rest in
          let number : grids_before (n ∷ more) line ≡ (if is_grid n.command then 1 else 0) + grids_before more line =
          ap (λ (b : Bool). (if b then (if is_grid n.command then 1 else 0) else 0) + grids_before more line) (lt-ltb n.line line above) in
          subst (λ (k : ℕ). LiesAt (grids_from first (n ∷ more)) first k p q f) (sym number)
          (lies_later n.command first (grids_before more line) p q f (grids_from (first + ranks_made n.command) more) (LiesAt-from more n.line (first + ranks_made n.command) line made p q f rise.1 rest)))
    ]
