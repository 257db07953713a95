-- Records made one after another, each after the losses that are due before it.
use Rattle.std.specs.Prelude.{◌≡◌, ℕ, Bool, true, false, ◌&&◌, if◌then◌else◌, List, [], ◌∷◌, ◌++◌}
use Rattle.run_data.specs.Matrix.{Matrix}
use Rattle.rank_machine.specs.declared.record.Rec.{Rec}
use Rattle.rank_machine.specs.declared.record.Rec.TheVariants as r
use Rattle.rank_machine.specs.declared.layout.Layout.{Layout}
use Rattle.rank_machine.specs.Setting.{Setting, layout, is_matrix}
use Rattle.rank_machine.specs.Effect.{state_after}
use Rattle.rank_machine.specs.Losses.{falls}
use Rattle.rank_machine.specs.Tests.{rec_test}
use Rattle.run_laws.specs.Due.{numbered, is_due_in}
use Rattle.script_lines.specs.Layouts.{IsLayout}
use Rattle.dist_matrix.specs.Strips.{HasShape}

-- the journal with the losses of its next record at the end
abbrev pub ready : Setting → List Rec → List Rec
ready s journal = if is_due_in s.losses journal then journal ++ falls s.losses (numbered journal) else journal

-- a record that one call makes: neither a step of a round nor a loss
abbrev pub is_one_call : Rec → Bool
is_one_call (r.Feed rank slot) = true
is_one_call (r.Save rank slot) = true
is_one_call (r.Take rank slot) = true
is_one_call r.Restore = true
is_one_call (r.Spawn rank) = true
is_one_call (r.Commit mark healed) = true
is_one_call (r.Kernel rank kernel) = false
is_one_call (r.Send from to x) = false
is_one_call (r.Recv to from x) = false
is_one_call (r.Lose rank) = false

-- after a journal and the losses that are due, a record may be made by one call
unfoldable pub may_make : Setting → List Rec → Rec → Bool
may_make s journal x = is_one_call x && rec_test s [] (state_after s journal) x

-- each of some records may be made in its turn
unfoldable pub may_play : Setting → List Rec → List Rec → Bool
may_play s journal [] = true
may_play s journal (x ∷ xs) = may_make s (ready s journal) x && may_play s (ready s journal ++ x ∷ []) xs

-- a matrix is that of every matrix line, and lies there like this
pub record IsOnlyMatrix (s : Setting) (d : Layout) (m : Matrix) : Type 0 where
  pub laid_out : IsLayout d
  pub shape : HasShape d m
  pub layouts : (line : ℕ) → is_matrix s line ≡ true → layout s line ≡ d
  pub files : (line : ℕ) → is_matrix s line ≡ true → s.files line ≡ m
