-- How many words ranks hold in the state that a commit leaves.
use Rattle.std.specs.Prelude.{◌≡◌, ◌≤◌, ◌<◌, ℕ, true, false, List, length, min, IsTrue}
use Rattle.blacs_grid.specs.Places.{is_member}
use Rattle.rank_machine.specs.declared.slot.Slot.{Slot}
use Rattle.rank_machine.specs.Setting.{Setting, ranks, grid_of_rank, layout, is_matrix, factored}
use Rattle.rank_machine.specs.State.{State}
use Rattle.rank_machine.specs.Effect.{is_live_matrix, is_live_list}
use Rattle.rank_machine.specs.CodeLaw.{pivots_of}
use Rattle.rank_machine.specs.Held.{are_distinct, words_in}
use Rattle.script_lines.specs.Layouts.{IsLayout}
use Rattle.phases.specs.Words.{at_rest}

-- each rank holds at most what a commit under the last mark leaves on it
abbrev pub HoldAtRest : Setting → State → Type 0
HoldAtRest s st = (rank : ℕ) → rank < ranks s → (slots : List Slot) → IsTrue (are_distinct slots) → words_in st rank slots ≤ at_rest s st.mark rank

-- What the bound on words asks beside the code law: each matrix lies by a layout within the limits, on the grid that its ranks know as their own; a matrix is
-- live as long as it is being factored; and no list is longer than it becomes.
pub record IsMeasured (s : Setting) (st : State) : Type 0 where
  pub laid_out : (line : ℕ) → is_matrix s line ≡ true → IsLayout (layout s line)
  pub own_grid : (line rank : ℕ) → is_matrix s line ≡ true → is_member (layout s line).grid rank ≡ true → grid_of_rank s rank ≡ (layout s line).grid
  pub factors_live : st.mark.ended ≡ false → 0 < factored s st.mark.line → is_live_matrix s st.mark (factored s st.mark.line) ≡ true
  pub lists : (line : ℕ) → is_live_list s st.mark line ≡ true
      → length (pivots_of st line (layout s (factored s line))) ≤ min (layout s (factored s line)).desc.m (layout s (factored s line)).desc.n
