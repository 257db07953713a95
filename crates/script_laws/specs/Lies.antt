-- Where the matrix of a line lies.
use Rattle.std.specs.Prelude.{◌≡◌, ℕ, ◌<◌, length}
use Rattle.rank_machine.specs.Setting.{Setting, layout, grid_numbered}
use Rattle.round_laws.specs.Turns.{IsGridOf}

-- on the grid of the number that its descriptor has, which is one of the run
pub record LiesOnGrid (s : Setting) (line : ℕ) : Type 0 where
  pub there : (layout s line).desc.ctxt < length s.grids
  pub numbered : (layout s line).grid ≡ grid_numbered s (layout s line).desc.ctxt
  pub of_run : IsGridOf s (layout s line).grid
