-- A line of a script, with what it says.
use Rattle.std.proofs.Common.{◌≡◌, ℕ, ◌+◌, ◌-◌, ◌<◌, List, length, get_or, Option, sym, ap, subst, ◌∙◌, arith}
use Rattle.run_data.specs.declared.command.Command.{Command}
use Rattle.run_data.specs.Script.{commands_of, command_at}
use Rattle.run_data.proofs.Lines.{command_at_found}

-- a line is there with what it says
pub there : (lines : List (Option Command)) (i : ℕ) (o : Option Command) → i < length lines → o ≡ get_or lines i o → command_at (commands_of lines) (i + 1) ≡ o
there lines i o lt e =
    let k : (i + 1) - 1 ≡ i = omega arith in
    let low : 0 < i + 1 = omega arith in
    let inside : (i + 1) - 1 < length lines = subst (λ n. n < length lines) (sym k) lt in
    command_at_found lines (i + 1) o low inside (e ∙ ap (λ n. get_or lines n o) (sym k))
