-- A script and the last mark of its run: which matrices and pivot lists are there, and where they lie.
use Rattle.std.specs.Prelude.{◌≡◌, ℕ, Bool, true, false, ◌==◌, if◌then◌else◌, min, Option, Some, None, List}
use Rattle.std.specs.FinMap as map
use Rattle.run_data.specs.declared.command.Command.{Command}
use Rattle.run_data.specs.declared.command.Command.TheVariants as c
use Rattle.array_desc.specs.declared.Desc.{Desc}
use Rattle.rank_machine.specs.declared.mark.Mark.{Mark}
use Rattle.rank_machine.specs.Setting.{Setting, layout, is_matrix, factored}
use Rattle.rank_machine.specs.Scripts.{setting_of}
use Rattle.rank_machine.specs.Effect.{is_live_matrix, is_live_list, factoring}
use Rattle.dist_matrix.specs.declared.site.ListShape.{ListShape}

pub record SiteView : Type 0 where
  -- line by line
  pub script : List (Option Command)
  -- the last mark
  pub mark : Mark

-- the setting of the script without its files: no matrix's words are asked for
abbrev pub setting_in : SiteView → Setting
setting_in v = setting_of v.script map.empty

-- a command that makes a matrix
abbrev pub is_matrix_line : Option Command → Bool
is_matrix_line (Some (c.Matrix name grid m n mb nb rsrc csrc file)) = true
is_matrix_line _ = false

-- the descriptor of the matrix that a line makes
abbrev pub shape_of : Setting → ℕ → Option Desc
shape_of s line = if is_matrix s line then Some (layout s line).desc else None

-- the same, while the matrix is live under a mark
abbrev pub desc_under : Setting → Mark → ℕ → Option Desc
desc_under s mark line = if is_live_matrix s mark line then Some (layout s line).desc else None

-- the grid of the matrix that a line factors, and how many pivots it has
abbrev pub list_shape : Setting → ℕ → ListShape
list_shape s line = let d = (layout s (factored s line)).desc in record { grid = d.ctxt; n = min d.m d.n }

-- the same, while the list of pivots is live under a mark
abbrev pub list_under : Setting → Mark → ℕ → Option ListShape
list_under s mark line = if is_live_list s mark line then Some (list_shape s line) else None

-- the line of the matrix that is being factored under a mark, and the line that factors it
abbrev pub factoring_under : Setting → Mark → Option (ℕ × ℕ)
factoring_under s mark = if factoring s mark == 0 then None else Some (factoring s mark, mark.line)

-- no matrix and no list of pivots is live
pub record IsBare (v : SiteView) : Type 0 where
  pub matrices : (line : ℕ) → is_live_matrix (setting_in v) v.mark line ≡ false
  pub lists : (line : ℕ) → is_live_list (setting_in v) v.mark line ≡ false
