-- The script that a text is, or the first rule that it breaks.
use Rattle.std.specs.Prelude.{ℕ, suc, if◌then◌else◌, nat_lt, nat_le, List, [], ◌∷◌, ◌++◌, length, Option, Some, None, Result, Ok, Err, ℤ, pos}
use Rattle.std.specs.Option.{option_or}
use Rattle.run_data.specs.declared.command.Command.{Command}
use Rattle.run_data.specs.Script.{commands_of}
use Rattle.script_words.specs.declared.fault.Refused.{Refused}
use Rattle.script_words.specs.declared.kinds.CommandWord.{CommandWord}
use Rattle.script_words.specs.Limits.{line_limit, record_limit}
use Rattle.script_rules.specs.declared.told.Told.{Told}
use Rattle.script_words.specs.Kinds.{command_word, kinds_of, takes_more, has_count}
use Rattle.script_words.specs.Tables.{first_code}
use Rattle.script_rules.specs.Rules.{words_code, more_rules, rules}
use Rattle.script_words.specs.Commands.{command_of}
use Rattle.script_bounds.specs.Bounds.{bound}
use Rattle.script_rules.specs.Told.{told_by}
use Rattle.script_words.specs.Lines.{word_lines}

-- a rule of the script, by the line that breaks it; line 0 is the whole script
abbrev pub refused : ℕ → ℤ → Refused
refused line code = record { file = 0; line = line; code = code }

-- the first rule of its form that a line breaks, by its command and its other words: a command, the number of words, and each word from
-- left to right
abbrev pub command_code : List (Option Command) → Option CommandWord → List (List ℕ) → Option ℤ
command_code script None others = Some (pos 1)
command_code script (Some c) others =
    option_or (first_code ((pos 2, has_count c (length others)) ∷ []))
    (option_or (words_code (commands_of script) (suc (length script)) (kinds_of c) others) (first_code (more_rules (takes_more c) others)))

abbrev pub form_code_of : List (Option Command) → List (List ℕ) → Option ℤ
form_code_of script [] = None
form_code_of script (first ∷ others) = command_code script (command_word first) others

-- the same after the rule that a script has no further line
unfoldable pub form_code : List (Option Command) → List (List ℕ) → Option ℤ
form_code script words = option_or (first_code ((pos 11, nat_lt (length script) line_limit) ∷ [])) (form_code_of script words)

-- the first of its command's rules that a line breaks
unfoldable pub rule_code : Told → List (Option Command) → Option Command → Option ℤ
rule_code told script None = None
rule_code told script (Some c) = first_code (rules told (commands_of script) (suc (length script)) c)

-- the first rule that a line with these words breaks, after the lines of a script; `told` is what the whole script tells
unfoldable pub line_code : Told → List (Option Command) → List (List ℕ) → Option ℤ
line_code told script words = option_or (form_code script words) (rule_code told script (command_of words))

abbrev pub answer_by : List (Option Command) → List (List ℕ) → Option ℤ → Result (Option Command) Refused
answer_by script words None = Ok (command_of words)
answer_by script words (Some code) = Err (refused (suc (length script)) code)

-- the command of a line, or the first rule that it breaks
unfoldable pub line_answer : Told → List (Option Command) → List (List ℕ) → Result (Option Command) Refused
line_answer told script words = answer_by script words (line_code told script words)

abbrev pub and_then : {A B : Type 0} → Result A Refused → (A → Result B Refused) → Result B Refused
and_then (Err r) next = Err r
and_then (Ok x) next = next x

-- the script of lines after the lines of a script, each read after those before it
unfoldable pub script_after : Told → List (Option Command) → List (List (List ℕ)) → Result (List (Option Command)) Refused
script_after told script [] = Ok script
script_after told script (words ∷ lines) = and_then (line_answer told script words) (λ c. script_after told (script ++ c ∷ []) lines)

-- after all lines: the bound on the records
unfoldable pub bounded : List (Option Command) → Result (List (Option Command)) Refused
bounded script = if nat_le (bound (commands_of script)) record_limit then Ok script else Err (refused 0 (pos 7))

-- the script that the bytes spell, or the first rule that they break
unfoldable pub script_of : List ℕ → Result (List (Option Command)) Refused
script_of bytes = and_then (script_after (told_by (word_lines bytes)) [] (word_lines bytes)) bounded
