-- What holds between two groups of the matrix that a line multiplies into.
use Rattle.std.specs.Prelude.{◌≡◌, ◌≢◌, ◌≤◌, ◌<◌, ◌*◌, ℕ, suc, true, false, List, Option, Some, IsTrue}
use Rattle.run_data.specs.Matrix.{Matrix}
use Rattle.run_data.specs.declared.command.Command.{Command}
use Rattle.run_data.specs.Script.{commands_of}
use Rattle.rank_machine.specs.Setting.{Setting, job, is_job, layout, is_matrix, factored, group_count}
use Rattle.rank_machine.specs.Scripts.{Matrices, file_of}
use Rattle.rank_machine.specs.State.{end_mark}
use Rattle.rank_machine.specs.Effect.{is_live_matrix, is_live_list}
use Rattle.rank_machine.specs.Legal.{is_among}
use Rattle.rank_machine.specs.Marks.{follows}
use Rattle.round_laws.specs.Turns.{IsGridOf}
use Rattle.round_laws.specs.Paths.{path_of}
use Rattle.run_laws.specs.LastCommit.{IsScripted}
use Rattle.run_laws.specs.NextMark.{JobsRise}
use Rattle.serial_model.specs.Serial.{whole}
use Rattle.serial_model.specs.Solves.{product_of}
use Rattle.phase_frames.specs.Groups.{HoldsGroup}
use Rattle.block_world.specs.World.{WorldView, setting_in, state_of}
use Rattle.product_rounds.specs.declared.rounds.GroupProduct.{GroupProduct}
use Rattle.product_rounds.specs.Rounds.{IsOnGrid}
use Rattle.product_rounds.specs.Standing.{AreAligned}
use Rattle.product_laws.specs.Held.{HoldsGroups}
use Rattle.product_laws.specs.Multiplying.{layout_a, layout_b, layout_c, product_records}
use Rattle.whole_run.specs.Until.{values_at}
use Rattle.whole_run.specs.Between.{StandsForMatrix, StandsForList, Names}
use Rattle.whole_run.specs.Inside.{IsPartly, part_mark}

-- the same product for another group
abbrev pub at_group : GroupProduct → ℕ → GroupProduct
at_group x group = record x { group = group }

-- ---- what the phases of a line ask of the setting alone, for each group
-- The line makes records. It makes, factors and drops no matrix, has these factors, and its messages go this way. The three matrices lie on one grid, in blocks that fit,
-- and C is neither A nor B; they are live from the line's first commit on. The script is one.
pub record MayMultiplyLine (s : Setting) (x : GroupProduct) (line : ℕ) : Type 0 where
  pub there : is_job s line ≡ true
  pub no_matrix : is_matrix s line ≡ false
  pub plain : factored s line ≡ 0
  pub drops_none : (job s line).drops ≡ 0
  pub alpha : is_among (job s line).scalars x.alpha ≡ true
  pub beta : is_among (job s line).scalars x.beta ≡ true
  pub path : (job s line).path ≡ path_of x.topology
  pub some_words : 0 < s.modulus
  pub some_messages : 0 < s.capacity
  pub on_grid : IsOnGrid (at_group x 0)
  pub aligned : AreAligned (at_group x 0)
  pub of : IsGridOf s x.grid
  pub lies_a : layout s x.line_a ≡ layout_a x
  pub lies_b : layout s x.line_b ≡ layout_b x
  pub lies_c : layout s x.line_c ≡ layout_c x
  pub live_a : is_live_matrix s (part_mark line) x.line_a ≡ true
  pub live_b : is_live_matrix s (part_mark line) x.line_b ≡ true
  pub live_c : is_live_matrix s (part_mark line) x.line_c ≡ true
  pub plain_c : factored s x.line_c ≡ 0
  pub apart_a : x.line_c ≢ x.line_a
  pub apart_b : x.line_c ≢ x.line_b
  pub scripted : IsScripted s
  pub rising : JobsRise 0 s.jobs

-- a line made a matrix of this name, and the name means it after the lines up to one
pub record IsOperand (script : List (Option Command)) (files : Matrices) (done line : ℕ) (name : List ℕ) (m : Matrix) : Type 0 where
  pub named : Names (commands_of script) line name
  pub means : values_at (file_of files) (commands_of script) done name ≡ Some (whole m)

-- ---- between two groups
-- So many groups of C hold the product of a, b and c, and the others hold those of c; A and B are held, and all else that is live is what it is in the serial run
-- after the lines before. A commit inside the line may come next, and so may the line's end.
pub record HasGroups (script : List (Option Command)) (files : Matrices) (done : ℕ) (x : GroupProduct) (a b c : Matrix) (group : ℕ) (w : WorldView) (out : List ℕ) : Type 0 where
  pub partly : IsPartly script files done (group * product_records x) w out
  pub part : IsTrue (follows (setting_in w) (state_of w).mark (part_mark (suc done)))
  pub ends : IsTrue (follows (setting_in w) (state_of w).mark (end_mark (suc done)))
  pub matrices_same : (at : ℕ) → is_live_matrix (setting_in w) (state_of w).mark at ≡ is_live_matrix (setting_in w) (part_mark (suc done)) at
  pub lists_same : (at : ℕ) → is_live_list (setting_in w) (state_of w).mark at ≡ is_live_list (setting_in w) (part_mark (suc done)) at
  pub holds_a : HoldsGroups (state_of w) (layout_a x) x.line_a a
  pub holds_b : HoldsGroups (state_of w) (layout_b x) x.line_b b
  pub made : (g : ℕ) → g < group → HoldsGroup (state_of w) (layout_c x) x.line_c (product_of (setting_in w).modulus x.alpha a b x.beta c) g
  pub rest : (g : ℕ) → group ≤ g → g < group_count (layout_c x) → HoldsGroup (state_of w) (layout_c x) x.line_c c g
  pub others : (at : ℕ) (name : List ℕ) → at ≢ x.line_c → is_live_matrix (setting_in w) (state_of w).mark at ≡ true → Names (commands_of script) at name
      → StandsForMatrix (setting_in w) (state_of w) at name (values_at (file_of files) (commands_of script) done)
  pub lists : (at : ℕ) (name : List ℕ) → is_live_list (setting_in w) (state_of w).mark at ≡ true → Names (commands_of script) at name
      → StandsForList (setting_in w) (state_of w) at name (values_at (file_of files) (commands_of script) done)
