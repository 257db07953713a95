-- The values of names, as a list of names with their values.
use Rattle.std.specs.Prelude.{◌≡◌, ℕ, suc, if◌then◌else◌, List, [], ◌∷◌, Option, Some, None}
use Rattle.std.specs.Str.{bytes_eq}
use Rattle.run_data.specs.Matrix.{Matrix}
use Rattle.serial_model.specs.Serial as model
use Rattle.serial_model.specs.Serial.{Values}
use Rattle.serial_machine.specs.declared.values.Named.{Named}
use Rattle.serial_machine.specs.declared.values.Value.{Value}
use Rattle.serial_machine.specs.declared.values.Value.TheVariants as v

-- a value, as the serial run has it
abbrev pub seen_value : Value → model.Value
seen_value (v.Whole m) = model.whole m
seen_value (v.Rows l) = model.rows l.items

abbrev pub seen : Option Value → Option model.Value
seen None = None
seen (Some value) = Some (seen_value value)

-- the values of these names; the first of a name counts
abbrev pub values_of : List Named → Values
values_of [] name = None
values_of (e ∷ es) name = if bytes_eq e.name.items name then seen e.value else values_of es name

-- how many entries stand before the first of a name, or all where there is none
abbrev pub place_in : List Named → List ℕ → ℕ
place_in [] name = 0
place_in (e ∷ es) name = if bytes_eq e.name.items name then 0 else suc (place_in es name)

-- a name means a matrix
abbrev pub IsMatrix : Option model.Value → Type 0
IsMatrix value = (m : Matrix) × (value ≡ Some (model.whole m))

-- a name means a pivot list
abbrev pub IsList : Option model.Value → Type 0
IsList value = (l : List ℕ) × (value ≡ Some (model.rows l))
