-- A `pgemm` line between two of its phases.
use Rattle.std.specs.Prelude.{◌≡◌, ℕ, suc, Bool, true, false, List, Option, Some}
use Rattle.run_data.specs.Matrix.{Matrix}
use Rattle.run_data.specs.declared.command.Command.{Command}
use Rattle.run_data.specs.declared.command.Command.TheVariants as c
use Rattle.run_data.specs.Script.{commands_of, command_at}
use Rattle.rank_machine.specs.Setting.{layout, group_count}
use Rattle.rank_machine.specs.Scripts.{Matrices, file_of, setting_of}
use Rattle.serial_model.specs.Serial.{matrix_in}
use Rattle.block_world.specs.World.{WorldView, setting_in}
use Rattle.phase_words.specs.Resting.{IsMeasured}
use Rattle.world_heal.specs.Ways.{rest_of}
use Rattle.whole_run.specs.Until.{values_at}
use Rattle.whole_run.specs.Between.{HasRun}
use Rattle.product_rounds.specs.declared.rounds.GroupProduct.{GroupProduct}
use Rattle.product_laws.specs.Multiplying.{HaveShapes}
use Rattle.product_lines.specs.Lines.{line_of_a, line_of_b, line_of_c, line_product}
use Rattle.product_groups.specs.Groups.{MayMultiplyLine, IsOperand, HasGroups}

-- a `pgemm` command, by its words
pub record IsProduct (o : Option Command) : Type 0 where
  pub transa : List ℕ
  pub transb : List ℕ
  pub m : ℕ
  pub n : ℕ
  pub k : ℕ
  pub alpha : ℕ
  pub a : List ℕ
  pub ia : ℕ
  pub ja : ℕ
  pub b : List ℕ
  pub ib : ℕ
  pub jb : ℕ
  pub beta : ℕ
  pub x : List ℕ
  pub ic : ℕ
  pub jc : ℕ
  pub there : o ≡ Some (c.Pgemm transa transb m n k alpha a ia ja b ib jb beta x ic jc)

-- what a name means before the line
abbrev pub value_before : List (Option Command) → Matrices → ℕ → List ℕ → Matrix
value_before script files done name = matrix_in (values_at (file_of files) (commands_of script) done name)

-- how many groups C has
abbrev pub groups_of : List (Option Command) → Matrices → ℕ → ℕ
groups_of script files done = group_count (layout (setting_of script files) (line_of_c script (suc done)))

-- the product of the line, for its first group
abbrev pub product_at : List (Option Command) → Matrices → ℕ → ℕ → ℕ → GroupProduct
product_at script files done alpha beta = line_product script (setting_of script files) (suc done) alpha beta 0

-- So many groups of C hold the product of what the names of the line mean before it. What the line asks of the setting, and the shapes of its matrices, are known, and the words that the last
-- commit left can be counted.
pub record IsAtGroup (script : List (Option Command)) (files : Matrices) (done group : ℕ) (w : WorldView) (out : List ℕ) : Type 0 where
  pub words : IsProduct (command_at (commands_of script) (suc done))
  pub asks : MayMultiplyLine (setting_of script files) (product_at script files done words.alpha words.beta) (suc done)
  pub first : IsOperand script files done (line_of_a script (suc done)) words.a (value_before script files done words.a)
  pub second : IsOperand script files done (line_of_b script (suc done)) words.b (value_before script files done words.b)
  pub sum : IsOperand script files done (line_of_c script (suc done)) words.x (value_before script files done words.x)
  pub shapes : HaveShapes (product_at script files done words.alpha words.beta) (value_before script files done words.a) (value_before script files done words.b) (value_before script files done words.x)
  pub groups : HasGroups script files done (product_at script files done words.alpha words.beta) (value_before script files done words.a) (value_before script files done words.b) (value_before script files done words.x) group w out
  pub measured : IsMeasured (setting_in w) (rest_of w)

-- so many, while some are left, and then the line has ended
abbrev pub UpToGroup : Bool → List (Option Command) → Matrices → ℕ → ℕ → WorldView → List ℕ → Type 0
UpToGroup true script files done group w out = IsAtGroup script files done group w out
UpToGroup false script files done group w out = HasRun script files (suc done) w out
