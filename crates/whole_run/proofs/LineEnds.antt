-- A line of one phase, whose commit ends the line, leads from one line to the next.
use Rattle.std.proofs.Common.{ℕ, suc, List, ◌++◌, Option}
use Rattle.run_data.specs.declared.command.Command.{Command}
use Rattle.rank_machine.specs.Scripts.{Matrices}
use Rattle.block_world.specs.World.{WorldView}
use Rattle.whole_run.specs.Between.{HasRun}
use Rattle.whole_run.proofs.Partly.{EndsLineAfter, partly-begins, partly-ends}

-- the only phase of the next line has been driven to the commit that ends the line
abbrev pub EndsLine : List (Option Command) → Matrices → ℕ → WorldView → WorldView → Command → List ℕ → Type 1
EndsLine script files line old new x text = EndsLineAfter script files line 0 old new x text

pub line-ends : (script : List (Option Command)) (files : Matrices) (line : ℕ) (old new : WorldView) (out : List ℕ) (x : Command) (text : List ℕ) → HasRun script files line old out → EndsLine script files line old new x text → HasRun script files (suc line) new (out ++ text)
line-ends script files line old new out x text h g = partly-ends script files line 0 old new out x text (partly-begins script files line old out h) g
