-- The first rule that a script breaks, as it is and not as a text.
use Rattle.std.specs.Prelude.{ℕ, suc, ◌+◌, ◌*◌, if◌then◌else◌, nat_lt, nat_le, List, [], ◌∷◌, ◌++◌, length, Option, Some, None, ℤ, pos}
use Rattle.std.specs.List.{sum_by}
use Rattle.std.specs.Option.{option_or}
use Rattle.run_data.specs.declared.command.Command.{Command}
use Rattle.run_data.specs.declared.command.Command.TheVariants as c
use Rattle.run_data.specs.Script.{Numbered, commands_of}
use Rattle.script_words.specs.declared.fault.Refused.{Refused}
use Rattle.script_words.specs.Limits.{line_limit, record_limit}
use Rattle.script_rules.specs.declared.told.Told.{Told}
use Rattle.script_words.specs.Tables.{first_code}
use Rattle.script_rules.specs.Rules.{is_shape}
use Rattle.script_text.specs.Script.{refused}
use Rattle.script_bounds.specs.Accepted.{broken_by}
use Rattle.script_bounds.specs.Bounds.{bound}

-- the ranks that a command tells: those of a grid whose shape is in range, whatever else is refused of its line
abbrev pub ranks_shaped : Command → ℕ
ranks_shaped (c.Grid name p q f) = if is_shape p q f then p * (q + f) else 0
ranks_shaped _ = 0

-- what a script tells as a whole
abbrev pub told_of : List Numbered → Told
told_of cs = record { ranks = sum_by (λ n. ranks_shaped n.command) cs }

-- the first rule that the command of a line breaks, as the next line of a script; a line without words breaks none
abbrev pub command_broken : Told → List (Option Command) → Option Command → Option ℤ
command_broken told script None = None
command_broken told script (Some c) = broken_by told script c

-- the same after the rule that a script has no further line
abbrev pub line_broken : Told → List (Option Command) → Option Command → Option ℤ
line_broken told script line = option_or (first_code ((pos 11, nat_lt (length script) line_limit) ∷ [])) (command_broken told script line)

abbrev pub refused_on : ℕ → Option ℤ → Option Refused
refused_on line None = None
refused_on line (Some code) = Some (refused line code)

-- the first rule that lines break, each after the lines of a script and those before it
unfoldable pub first_broken : Told → List (Option Command) → List (Option Command) → Option Refused
first_broken told script [] = None
first_broken told script (line ∷ lines) = option_or (refused_on (suc (length script)) (line_broken told script line)) (first_broken told (script ++ line ∷ []) lines)

-- the bound on the records
abbrev pub bound_broken : List (Option Command) → Option Refused
bound_broken script = if nat_le (bound (commands_of script)) record_limit then None else Some (refused 0 (pos 7))

-- the first rule that a script breaks: of its lines, one after another, and then the bound on its records
unfoldable pub first_refusal : List (Option Command) → Option Refused
first_refusal script = option_or (first_broken (told_of (commands_of script)) [] script) (bound_broken script)
