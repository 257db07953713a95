-- What the last commit of a journal left, and what came after it.
use Rattle.std.specs.Prelude.{◌≡◌, ◌≤◌, ◌<◌, ◌+◌, ◌*◌, ℕ, Bool, true, false, not, ◌&&◌, if◌then◌else◌, Option, None, List, [], ◌∷◌, ◌++◌, nat_lt, All}
use Rattle.rank_machine.specs.declared.slot.Slot.{Slot}
use Rattle.rank_machine.specs.declared.mark.Mark.{Mark}
use Rattle.rank_machine.specs.declared.record.Rec.{Rec}
use Rattle.rank_machine.specs.declared.record.Rec.TheVariants as r
use Rattle.rank_machine.specs.Setting.{Setting, ranks, layout, is_matrix}
use Rattle.blacs_grid.specs.Places.{width}
use Rattle.rank_machine.specs.State.{State, opened}
use Rattle.rank_machine.specs.Effect.{after, is_live}
use Rattle.rank_machine.specs.CodeLaw.{CodeLaw}

abbrev pub is_commit : Rec → Bool
is_commit (r.Commit mark healed) = true
is_commit (r.Feed rank slot) = false
is_commit (r.Kernel rank kernel) = false
is_commit (r.Send from to x) = false
is_commit (r.Recv to from x) = false
is_commit (r.Save rank slot) = false
is_commit (r.Take rank slot) = false
is_commit r.Restore = false
is_commit (r.Spawn rank) = false
is_commit (r.Lose rank) = false

-- a record of a phase: all but commits, and what losses bring with them
abbrev pub is_inner : Rec → Bool
is_inner (r.Commit mark healed) = false
is_inner r.Restore = false
is_inner (r.Spawn rank) = false
is_inner (r.Lose rank) = false
is_inner (r.Feed rank slot) = true
is_inner (r.Kernel rank kernel) = true
is_inner (r.Send from to x) = true
is_inner (r.Recv to from x) = true
is_inner (r.Save rank slot) = true
is_inner (r.Take rank slot) = true

-- the records after the last commit, or all where there is none
abbrev pub since_from : List Rec → List Rec → List Rec
since_from acc [] = acc
since_from acc (x ∷ xs) = since_from (if is_commit x then [] else (acc ++ x ∷ [])) xs

abbrev pub since : List Rec → List Rec
since journal = since_from [] journal

-- the state that the last commit left, or the opening one where there is none
abbrev pub rest_from : Setting → State → State → List Rec → State
rest_from s rest now [] = rest
rest_from s rest now (x ∷ xs) = rest_from s (if is_commit x then after s now x else rest) (after s now x) xs

abbrev pub rest_after : Setting → List Rec → State
rest_after s journal = rest_from s (opened s) (opened s) journal

-- the same state, but that so many ranks were spawned: what a recovery leads back to counts those that it spawned
abbrev pub with_spawned : State → ℕ → State
with_spawned st n = record st { spawned = n }

-- as a commit or the opening leaves the machine: all ranks are live and none counts as lost, nothing is saved, fresh, on its way or taken, and the code law holds
pub record IsRest (s : Setting) (st : State) : Type 0 where
  pub live : (rank : ℕ) → st.live rank ≡ nat_lt rank (ranks s)
  pub lost : (rank : ℕ) → st.lost rank ≡ false
  pub saved : (rank : ℕ) (slot : Slot) → st.saved rank slot ≡ None
  pub fresh : (rank : ℕ) (slot : Slot) → st.fresh rank slot ≡ false
  pub links : (from to : ℕ) → st.links from to ≡ []
  pub taken : st.taken ≡ []
  pub law : CodeLaw s st st.mark
  pub nothing_else : (rank : ℕ) (slot : Slot) → is_live s st.mark rank slot ≡ false → st.tiles rank slot ≡ None

-- as a setting of a script is: lines count from 1, and each grid has ranks
pub record IsScripted (s : Setting) : Type 0 where
  pub no_line : is_matrix s 0 ≡ false
  pub some_ranks : (line : ℕ) → 0 < (layout s line).grid.p * width (layout s line).grid
