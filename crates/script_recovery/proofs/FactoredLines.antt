-- What a line factors is a matrix.
use Rattle.std.proofs.Common.{◌≡◌, ℕ, ◌<◌, ◌&&◌, not, true, false, List, Option, refl}
use Rattle.std.proofs.lemmas.Bool.{and_parts}
use Rattle.run_data.specs.declared.command.Command.{Command}
use Rattle.rank_machine.specs.declared.mark.Mark.{Mark}
use Rattle.rank_machine.specs.Setting.{Setting, is_matrix, factored}
use Rattle.rank_machine.specs.Scripts.{Matrices, setting_of}
use Rattle.rank_machine.specs.Effect.{has_ended, is_dropped}
use Rattle.script_bounds.specs.Accepted.{KeepsRules}
use Rattle.script_laws.proofs.Factoring.{factored-live}

pub factors-matrix : (script : List (Option Command)) (files : Matrices) (line : ℕ) → KeepsRules script → 0 < factored (setting_of script files) line → is_matrix (setting_of script files) (factored (setting_of script files) line) ≡ true
factors-matrix script files line kept some =
    let s : Setting = setting_of script files in
    let mark : Mark = record { line = line; ended = false; closed = 0; opened = false; merged = 0 } in
    let at = factored s line in
    let live = factored-live script files mark kept refl some in
    (and_parts (is_matrix s at) (has_ended mark at) (and_parts (is_matrix s at && has_ended mark at) (not (is_dropped s mark at)) live).0).0
