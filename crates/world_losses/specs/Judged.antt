-- What is found out of a state in which ranks are lost.
use Rattle.std.specs.Prelude.{◌≡◌, ℕ, ◌+◌, ◌<◌, ◌&&◌, ◌||◌, ◌==◌, Bool, true, false, not, Option, Some, None, nat_lt}
use Rattle.blacs_grid.specs.declared.Grid.{Grid}
use Rattle.rank_machine.specs.declared.mark.Mark.{Mark}
use Rattle.rank_machine.specs.Setting.{Job, Setting, layout}
use Rattle.rank_machine.specs.State.{State}
use Rattle.rank_machine.specs.Effect.{is_live_matrix, is_live_list}
use Rattle.rank_machine.specs.Losses.{lost_in, lost_now, IsBeyond, LacksSpare}
use Rattle.run_laws.specs.Cuts.{IsWithin}

-- what a job made is live, and lies on the grid of a number
abbrev pub lies_on : Setting → Mark → Job → ℕ → Bool
lies_on s mark j number =
    (is_live_matrix s mark j.line && ((layout s j.line).desc.ctxt == number)) || (is_live_list s mark j.line && ((layout s j.factors).desc.ctxt == number))

-- the first process row of a grid that lost more ranks than the grid has code columns, where the grid counts
abbrev pub is_over : State → Grid → Bool → ℕ → Bool
is_over st g live row = live && nat_lt g.f (lost_in st g row)

abbrev pub FirstRow : State → Grid → Bool → Option ℕ → Type 0
FirstRow st g live None = (row : ℕ) → row < g.p → is_over st g live row ≡ false
FirstRow st g live (Some row) = (row < g.p) × (is_over st g live row ≡ true) × ((other : ℕ) → other < row → is_over st g live other ≡ false)

-- the first grid and row that are beyond repair, or none is
abbrev pub FirstBeyond : Setting → State → Option (ℕ × ℕ) → Type 0
FirstBeyond s st None = IsWithin s st
FirstBeyond s st (Some x) = IsBeyond s st x.0 x.1

-- among the ranks below n, the first that is lost while as many lost ranks stand before it as spares are left of so many
abbrev pub lacks_of : State → ℕ → ℕ → Bool
lacks_of st spares rank = not (st.live rank) && ((st.spawned + lost_now st rank) == spares)

abbrev pub FirstWithout : State → ℕ → ℕ → Option ℕ → Type 0
FirstWithout st spares n None = (rank : ℕ) → rank < n → lacks_of st spares rank ≡ false
FirstWithout st spares n (Some rank) = (rank < n) × (lacks_of st spares rank ≡ true)

-- the lost rank that gets no spare, or none lacks one
abbrev pub FirstLacking : Setting → State → Option ℕ → Type 0
FirstLacking s st None = (rank : ℕ) → LacksSpare s st rank → ⊥
FirstLacking s st (Some rank) = LacksSpare s st rank
