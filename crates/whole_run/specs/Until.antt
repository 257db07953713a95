-- The first lines of a script: what they print, and what their names mean after them.
use Rattle.std.specs.Prelude.{◌≡◌, ℕ, true, false, nat_le, List, [], ◌∷◌, Contains}
use Rattle.run_data.specs.Matrix.{Matrix}
use Rattle.std.specs.List.{sum_by}
use Rattle.run_data.specs.Script.{Numbered, modulus_of}
use Rattle.script_bounds.specs.Bounds.{records_in}
use Rattle.serial_model.specs.Serial.{Values, no_values, up_to}
use Rattle.line_laws.specs.Lines.{values_of}
use Rattle.rank_machine.specs.declared.record.Rec.{Rec}
use Rattle.rank_machine.specs.declared.record.Rec.TheVariants as r
use Rattle.rank_machine.specs.State.{end_mark}
use Rattle.rank_machine.specs.Setting.{Setting, is_job}

-- what names mean after the lines up to one
abbrev pub values_at : (ℕ → Matrix) → List Numbered → ℕ → Values
values_at files ns line = values_of (modulus_of ns) files (up_to line ns) no_values

-- the records of these lines where no rank is lost
abbrev pub bound_until : ℕ → List Numbered → ℕ
bound_until line ns = sum_by (λ n. records_in ns n.line n.command) (up_to line ns)

-- each line up to one that makes records has its commit that ends it
abbrev pub AllEndUntil : Setting → ℕ → List Rec → Type 0
AllEndUntil s line journal = (at : ℕ) → is_job s at ≡ true → nat_le at line ≡ true → Contains journal (r.Commit (end_mark at) false)
