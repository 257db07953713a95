-- A script that is ready for the ranks can be run, and how its run ends.
use Rattle.std.proofs.Common.{◌≡◌, ℕ, true, List, Option, Some, refl, sym, ap, subst, ◌∙◌}
use Rattle.run_data.specs.declared.command.Command.{Command}
use Rattle.run_data.specs.declared.command.Command.TheVariants as c
use Rattle.run_data.specs.Script.{commands_of, command_at, modulus_of}
use Rattle.rank_machine.specs.declared.layout.Layout.{Layout}
use Rattle.rank_machine.specs.Scripts.{Matrices}
use Rattle.script_lines.specs.Layouts.{makes_matrix}
use Rattle.script_lines.proofs.JobAt.{layout-is}
use Rattle.world_heal.specs.declared.healing.Drove.{Drove}
use Rattle.world_heal.specs.declared.healing.Drove.TheVariants as d
use Rattle.whole_run.specs.Inside.{ending_at}
use Rattle.whole_run.specs.WholeRun.{IsRunOf, Completes}
use Rattle.whole_run.proofs.WholeText.{whole-text, text-begins}
use Rattle.script_run.specs.Runnable as run
use Rattle.script_run.proofs.AcceptedLayouts.{matrix_line-from}
use Rattle.scalapack_top.specs.declared.words.Machine.TheVariants as machine
use Rattle.serial_laws.specs.Files.{HasSizedFile, FileFits}
use Rattle.scalapack_top.specs.Read.{IsPrepared}
use Rattle.scalapack_top.specs.Status.{error_text, answer_of}
use Rattle.scalapack_top.specs.Work.{EndsBy}

module _ (script : List (Option Command)) (files : Matrices) (ready : IsPrepared machine.Ranks script files) where
  -- the file of a matrix line
  file_of_line : (line : ℕ) (name grid : List ℕ) (m n mb nb rsrc csrc : ℕ) (file : List ℕ) → command_at (commands_of script) line ≡ Some (c.Matrix name grid m n mb nb rsrc csrc file) → HasSizedFile (modulus_of (commands_of script)) m n files line
  file_of_line line name grid m n mb nb rsrc csrc file e = subst (λ o. FileFits (modulus_of (commands_of script)) o files line) e (ready.file line)

  has_file : (line : ℕ) → makes_matrix script line ≡ true → run.HasFile script files line
  has_file line made =
      let w = matrix_line-from script files line made in
      let h = file_of_line line w.name w.grid w.m w.n w.mb w.nb w.rsrc w.csrc w.file w.is in
      let there = layout-is script line w.name w.grid w.m w.n w.mb w.nb w.rsrc w.csrc w.file w.is in
      record {
        there = h.there;
        shaped = h.residues.shaped;
        shape = record { rows = h.residues.rows ∙ sym (ap (λ (d : Layout). d.desc.m) there); columns = h.residues.columns ∙ sym (ap (λ (d : Layout). d.desc.n) there) };
        words = h.residues.words;
      }

  pub can_run : run.IsRunnable script files
  can_run = record { accepted = ready.accepted; runs = ready.runs; has_files = has_file }

pub ends-by : (script : List (Option Command)) (files : Matrices) (x : Drove) (out journal : List ℕ) → IsRunOf script files (ending_at x) out journal → Completes script files (ending_at x)
    → EndsBy machine.Ranks (record { script = script; files = files }) x (record { out = out; err = error_text (answer_of x); journal = journal })
ends-by script files d.Done out journal h k = record { ran = record { run = h; begins = text-begins script files (ending_at d.Done) out journal h; complete = k; err = refl }; serial = whole-text script files out journal h }
ends-by script files (d.Beyond grid row) out journal h k = record { run = h; begins = text-begins script files (ending_at (d.Beyond grid row)) out journal h; complete = k; err = refl }
ends-by script files (d.NoSpare rank) out journal h k = record { run = h; begins = text-begins script files (ending_at (d.NoSpare rank)) out journal h; complete = k; err = refl }
