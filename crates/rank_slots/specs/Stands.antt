-- Memories and links that hold what a state of the rank machine says, and the records of a round.
use Rattle.std.specs.Prelude.{◌≡◌, ℕ, zero, suc, ◌*◌, ◌<◌, ◌&&◌, Bool, false, nat_lt, Option, None, List, [], ◌∷◌, length, slice_get, IfSome, IsTrue, All}
use Rattle.field_core.specs.Residue.{inverse}
use Rattle.rank_link.specs.Traffic.{messages}
use Rattle.rank_run.specs.declared.round.Event.{Event}
use Rattle.rank_run.specs.declared.round.Event.TheVariants.{Local, Move}
use Rattle.rank_run.specs.Action.{Action, Works, Sends, Receives}
use Rattle.rank_run.specs.Machine.{Machine}
use Rattle.rank_machine.specs.declared.slot.Slot.{Slot}
use Rattle.rank_machine.specs.declared.slot.Tile.{Tile}
use Rattle.rank_machine.specs.declared.slot.Piece.{Piece}
use Rattle.rank_machine.specs.declared.kernel.Kernel.{Kernel}
use Rattle.rank_machine.specs.declared.record.Rec.{Rec}
use Rattle.rank_machine.specs.declared.record.Rec.TheVariants as r
use Rattle.rank_machine.specs.Setting.{Setting, ranks, layout, is_matrix}
use Rattle.rank_machine.specs.State.{State}
use Rattle.rank_machine.specs.Legal.{factor_of, IsFactor, FactorOf, is_path}
use Rattle.script_lines.specs.declared.lines.Line.{Line}
use Rattle.script_lines.specs.Lines.{setting_on}
use Rattle.rank_slots.specs.Cells.{tiles_in, saved_in, fresh_in, IsTileOf, AreCellsOf}
use Rattle.rank_slots.specs.Rank.{Rank}

-- ---- records
-- the record of a step
abbrev pub rec_of : Action Kernel Piece → Rec
rec_of (Works rank k) = r.Kernel rank k
rec_of (Sends from to x) = r.Send from to x
rec_of (Receives to from x) = r.Recv to from x

-- the records of events in list order
abbrev pub records_of : List (Event Rank Kernel Piece Tile) → List Rec
records_of [] = []
records_of (Local rank k ∷ es) = r.Kernel rank k ∷ records_of es
records_of (Move from to a b ∷ es) = r.Send from to a ∷ r.Recv to from b ∷ records_of es

-- what a legal record asks beyond the memories: the factors that a line allows, and where a rank may send. It reads the script, the mark and what counts as lost, which no step changes
abbrev pub StepAllowed : Setting → State → Action Kernel Piece → Type 0
StepAllowed s st (Works rank k) = FactorOf s st rank (factor_of k)
StepAllowed s st (Sends from to x) = IsTrue (nat_lt to (ranks s) && is_path s st from to)
StepAllowed s st (Receives to from x) = Unit {0}

-- ---- what the ranks of a list hold, by rank
abbrev pub live_at : List Rank → ℕ → Bool
live_at [] rank = false
live_at (m ∷ ms) zero = m.live
live_at (m ∷ ms) (suc rank) = live_at ms rank

abbrev pub tiles_at : List Rank → ℕ → Slot → Option Tile
tiles_at [] rank slot = None
tiles_at (m ∷ ms) zero slot = tiles_in m.cells slot
tiles_at (m ∷ ms) (suc rank) slot = tiles_at ms rank slot

abbrev pub saved_at : List Rank → ℕ → Slot → Option Tile
saved_at [] rank slot = None
saved_at (m ∷ ms) zero slot = saved_in m.cells slot
saved_at (m ∷ ms) (suc rank) slot = saved_at ms rank slot

abbrev pub fresh_at : List Rank → ℕ → Slot → Bool
fresh_at [] rank slot = false
fresh_at (m ∷ ms) zero slot = fresh_in m.cells slot
fresh_at (m ∷ ms) (suc rank) slot = fresh_at ms rank slot

-- ---- memories and links stand for a state
-- a table has the matrices of a setting, whose words are those modulo p
pub record AgreesOn (s : Setting) (p : ℕ) (table : List Line) : Type 0 where
  pub some : 0 < p
  pub modulus : s.modulus ≡ p
  pub inverses : s.inverse ≡ inverse p
  pub layouts : (line : ℕ) → layout (setting_on p table) line ≡ layout s line
  pub matrices : (line : ℕ) → is_matrix (setting_on p table) line ≡ is_matrix s line

-- every factor that a legal kernel may have is below p
abbrev pub AreFactorsBelow : Setting → ℕ → Type 0
AreFactorsBelow s p = (st : State) (rank a : ℕ) → IsFactor s st rank a → a < p

-- the ranks of a step are among the first n
abbrev pub IsStepWithin : ℕ → Action Kernel Piece → Type 0
IsStepWithin n (Works rank k) = rank < n
IsStepWithin n (Sends from to x) = (from < n) × (to < n)
IsStepWithin n (Receives to from x) = (to < n) × (from < n)

-- each rank knows where the matrices lie, and its number
abbrev pub AreNumbered : List Line → List Rank → Type 0
AreNumbered table ms = (rank : ℕ) → IfSome (slice_get ms rank) (λ m. (m.table ≡ table) × (m.number ≡ rank))

pub record Stands (s : Setting) (table : List Line) (x : Machine Rank Tile) (st : State) : Type 0 where
  pub count : length x.mems ≡ ranks s
  pub sides : x.links.ranks ≡ ranks s
  pub pairs : length x.links.lists ≡ ranks s * ranks s
  pub capacity : x.links.capacity ≡ s.capacity
  pub numbered : AreNumbered table x.mems
  pub live : (rank : ℕ) → live_at x.mems rank ≡ st.live rank
  pub tiles : (rank : ℕ) (slot : Slot) → tiles_at x.mems rank slot ≡ st.tiles rank slot
  pub saved : (rank : ℕ) (slot : Slot) → saved_at x.mems rank slot ≡ st.saved rank slot
  pub fresh : (rank : ℕ) (slot : Slot) → fresh_at x.mems rank slot ≡ st.fresh rank slot
  pub links : (from to : ℕ) → from < ranks s → to < ranks s → messages x.links from to ≡ st.links from to
  pub no_links : (from to : ℕ) → (nat_lt from (ranks s) && nat_lt to (ranks s)) ≡ false → st.links from to ≡ []

-- all words that ranks hold or that are on their way are residues
pub record AreResidues (p : ℕ) (x : Machine Rank Tile) : Type 0 where
  pub mems : All (λ m. AreCellsOf p m.cells) x.mems
  pub links : All (λ ts. All (IsTileOf p) ts) x.links.lists
