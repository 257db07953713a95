-- The grids of the script are within their limits, and its matrix is laid out.
use Rattle.std.proofs.Common.{◌≡◌, ℕ, Bool, true, false, List, [], ◌∷◌, Option, Some, None, is_some, refl, sym, subst, arith}
use Rattle.std.specs.Prelude.{◌==◌, if◌then◌else◌, IfSome, unwrap_or}
use Rattle.std.proofs.lemmas.Bool.{true≢false}
use Rattle.run_data.specs.declared.command.Command.{Command}
use Rattle.run_data.specs.Script.{commands_of}
use Rattle.rank_machine.specs.declared.layout.Layout.{Layout}
use Rattle.rank_machine.specs.Setting.{Job, job_in, no_layout}
use Rattle.rank_machine.specs.Scripts.{grids_from}
use Rattle.script_lines.specs.Layouts.{AreGrids, IsLayout, jobs_of, makes_matrix, layout_in}
use Rattle.strips_tests.specs.FactoredScript.{lines}

-- each matrix of some jobs is laid out
abbrev AreLaidOut : List Job → Type 0
AreLaidOut [] = Unit {0}
AreLaidOut (j ∷ js) = IfSome j.makes IsLayout × AreLaidOut js

one_of_two : (here : Bool) (j after : Job) → IfSome j.makes IsLayout → IfSome after.makes IsLayout → IfSome (if here then j else after).makes IsLayout
one_of_two true j after h k = h
one_of_two false j after h k = k

job-laid_out : (jobs : List Job) (line : ℕ) → AreLaidOut jobs → IfSome (job_in jobs line).makes IsLayout
job-laid_out [] line h = tt
job-laid_out (j ∷ js) line h = one_of_two (j.line == line) j (job_in js line) h.0 (job-laid_out js line h.1)

made-laid_out : (o : Option Layout) → IfSome o IsLayout → is_some o ≡ true → IsLayout (unwrap_or o no_layout)
made-laid_out None h e = absurd (true≢false (sym e))
made-laid_out (Some d) h e = h

lines-laid_out : AreLaidOut (jobs_of lines)
unfolding lines
lines-laid_out = (
  record {
    grid = record { some_rows = omega arith; rows = omega arith; some_columns = omega arith; columns = omega arith; code_columns = omega arith; ranks = omega arith };
    desc = record {
      dense = refl;
      some_rows = omega arith;
      rows = omega arith;
      some_columns = omega arith;
      columns = omega arith;
      some_block_rows = omega arith;
      block_rows = omega arith;
      some_block_columns = omega arith;
      block_columns = omega arith;
      row_source = omega arith;
      column_source = omega arith;
      local_rows = refl;
    };
  },
  (tt, (tt, (tt, tt))),
)

two_grids : AreGrids (grids_from 0 (commands_of lines))
unfolding lines
two_grids = (
  record { some_rows = omega arith; rows = omega arith; some_columns = omega arith; columns = omega arith; code_columns = omega arith; ranks = omega arith },
  (record { some_rows = omega arith; rows = omega arith; some_columns = omega arith; columns = omega arith; code_columns = omega arith; ranks = omega arith }, tt),
)

-- ---- for the script of a test
pub grids-within : (script : List (Option Command)) → script ≡ lines → AreGrids (grids_from 0 (commands_of script))
grids-within script e = subst (λ s. AreGrids (grids_from 0 (commands_of s))) (sym e) two_grids

pub laid-out : (script : List (Option Command)) → script ≡ lines → (line : ℕ) → makes_matrix script line ≡ true → IsLayout (layout_in script line)
laid-out script e line makes =
    let all : AreLaidOut (jobs_of script) = subst (λ s. AreLaidOut (jobs_of s)) (sym e) lines-laid_out in
    made-laid_out (job_in (jobs_of script) line).makes (job-laid_out (jobs_of script) line all) makes
