use Rattle.std.proofs.Common.{Some, is_some, ap, sym, ◌∙◌}
use Rattle.run_data.specs.Script.{commands_of}
use Rattle.rank_machine.specs.declared.layout.Layout.{Layout}
use Rattle.rank_machine.specs.Setting as machine
use Rattle.rank_machine.specs.Setting.{no_job}
use Rattle.rank_machine.specs.Scripts.{grids_from, job_of}
use Rattle.script_lines.specs.Lines.{of_slots}
use Rattle.script_lines.proofs.JobAt.{job_for, job-in_script, layout-is}
use Rattle.script_lines.proofs.lines.line_of.Goals as goal

pub layout_in-requires-clause-makes : goal.layout_in-requires-clause-makes
layout_in-requires-clause-makes c =
    let script = c.args.script.now in
    let at = c.requires.there ∙ ap Some c.in-Matrix.is in
    ap (λ (j : machine.Job). is_some j.makes) (job-in_script script c.args.line ∙ ap (job_for (commands_of script) (grids_from 0 (commands_of script)) c.args.line) at)

pub returns-in-Matrix-clause-job : goal.returns-in-Matrix-clause-job
returns-in-Matrix-clause-job c =
    let f = c.in-Matrix in
    let script = c.args.script.now in
    let at = c.requires.there ∙ ap Some f.is in
    let there = layout-is script c.args.line f.name f.grid f.m f.n f.mb f.nb f.rsrc f.csrc f.file at in
    ap (λ (d : Layout). record (no_job c.args.line) { makes = Some d }) (c.layout_in.ensures ∙ there)
    ∙ sym (ap (λ command. of_slots (job_of (commands_of script) (grids_from 0 (commands_of script)) c.args.line command)) f.is)
