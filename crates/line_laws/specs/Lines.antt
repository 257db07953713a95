-- What names mean after some commands, and what a command of a script does to them and prints.
use Rattle.std.specs.Prelude.{ℕ, List, [], ◌∷◌}
use Rattle.field_core.specs.Residue.{inverse}
use Rattle.run_data.specs.Matrix.{Matrix}
use Rattle.run_data.specs.declared.command.Command.{Command}
use Rattle.run_data.specs.Script.{Numbered, modulus_of}
use Rattle.serial_model.specs.Serial.{Values, values_under, text_under}

-- the values after a command on a line, modulo p, and after some commands
abbrev pub values_after : ℕ → (ℕ → Matrix) → ℕ → Command → Values → Values
values_after p files line command values = values_under p (inverse p) files line command values

abbrev pub values_of : ℕ → (ℕ → Matrix) → List Numbered → Values → Values
values_of p files [] values = values
values_of p files (n ∷ ns) values = values_of p files ns (values_after p files n.line n.command values)

-- the text that a command on a line of a script adds
abbrev pub text_added : List Numbered → ℕ → Command → Values → List ℕ
text_added script line command values = text_under (modulus_of script) (inverse (modulus_of script)) script line command values
