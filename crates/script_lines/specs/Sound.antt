-- What a run on ranks asks of its script and its files.
use Rattle.std.specs.Prelude.{◌≡◌, ℕ, ◌<◌, ◌≤◌, true, All}
use Rattle.run_data.specs.Matrix.{AreWords}
use Rattle.rank_machine.specs.declared.record.Loss.{Loss}
use Rattle.rank_machine.specs.Setting.{Setting, ranks, job, layout, is_matrix}
use Rattle.script_lines.specs.Layouts.{AreGrids, IsLayout}

-- the words are those modulo p, which is greater than what a weight of a code column divides by; the grids are within their limits, so that all their ranks together are at most 64; each matrix
-- lies on a grid and has a file of words; factors that a line gives are words; a link holds 1 to 64 messages; the ranks that are
-- to be lost are there
pub record IsSound (p : ℕ) (s : Setting) : Type 0 where
  pub modulus : s.modulus ≡ p
  pub large : 32 < p
  pub grids : AreGrids s.grids
  pub layouts : (line : ℕ) → is_matrix s line ≡ true → IsLayout (layout s line)
  pub files : (line : ℕ) → is_matrix s line ≡ true → AreWords p (s.files line)
  pub scalars : (line : ℕ) → All (λ a. a < p) (job s line).scalars
  pub some_messages : 1 ≤ s.capacity
  pub messages : s.capacity ≤ 64
  pub of_ranks : All (λ (l : Loss). l.rank < ranks s) s.losses
