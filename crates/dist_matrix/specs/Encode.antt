-- The code strips of a group of a matrix made anew: each code rank gets zeros, and then each strip of its process row, times its weight.
use Rattle.std.specs.Prelude.{◌≡◌, ℕ, ◌+◌, ◌*◌, ◌%◌, ◌<◌, ◌||◌, true, false, Some, List, [], ◌∷◌, IsTrue}
use Rattle.field_core.specs.Sums.{sum_to}
use Rattle.cauchy_code.specs.Cauchy.{weight}
use Rattle.run_data.specs.Matrix.{Matrix, entry, tabulate}
use Rattle.rank_run.specs.declared.round.Event.{Event}
use Rattle.rank_run.specs.declared.round.Event.TheVariants.{Local, Move}
use Rattle.blacs_grid.specs.Places.{rank_at, is_member}
use Rattle.rank_machine.specs.declared.slot.Slot.{Slot}
use Rattle.rank_machine.specs.declared.slot.SlotKind.TheVariants.{Data, Code, Work}
use Rattle.rank_machine.specs.declared.slot.Tile.{Tile}
use Rattle.rank_machine.specs.declared.slot.Tile.TheVariants.{Words}
use Rattle.rank_machine.specs.declared.slot.Piece.{Piece}
use Rattle.rank_machine.specs.declared.slot.Piece.TheVariants.{Whole}
use Rattle.rank_machine.specs.declared.kernel.Cut.TheVariants as cut
use Rattle.rank_machine.specs.declared.kernel.Kernel.{Kernel}
use Rattle.rank_machine.specs.declared.kernel.Kernel.TheVariants as k
use Rattle.rank_machine.specs.declared.layout.Layout.{Layout}
use Rattle.rank_machine.specs.Setting.{Setting, ranks, strip_rows}
use Rattle.rank_machine.specs.State.{State, same_slot}
use Rattle.rank_machine.specs.Effect.{words_of, replay}
use Rattle.rank_machine.specs.Legal.{is_path}
use Rattle.rank_machine.specs.CodeLaw.{slot_at, is_strip_of, code_word, weighted_sum}
use Rattle.rank_slots.specs.Rank.{Rank}
use Rattle.rank_slots.specs.Stands.{records_of}
use Rattle.round_laws.specs.Holdings.{Holding, holding, may_put, IsBut}
use Rattle.round_laws.specs.Turns.{IsGridOf, IsQuiet, each_below}

-- the work slot into which a code rank gets strips
abbrev pub work_slot : Slot
work_slot = slot_at Work 0 0

-- ---- the events, for a way to invert residues
-- the code rank of a process row and a code column gets the strip of the data rank at column q, and adds it, times its weight, to its code strip
abbrev pub adding_events : (ℕ → ℕ) → Layout → ℕ → ℕ → ℕ → ℕ → ℕ → List (Event Rank Kernel Piece Tile)
adding_events inverse d line group row c q =
    Move (rank_at d.grid row q) (rank_at d.grid row (d.grid.q + c)) (Whole (slot_at Data line group)) (Whole work_slot)
    ∷ Local (rank_at d.grid row (d.grid.q + c)) (k.Add (Whole (slot_at Code line group)) (weight inverse d.grid.q c q) (Whole work_slot) cut.Whole) ∷ []

-- it sets its code strip to zeros, and adds the strips of all data ranks of its process row, by rising column
abbrev pub summing_events : (ℕ → ℕ) → Layout → ℕ → ℕ → ℕ → ℕ → List (Event Rank Kernel Piece Tile)
summing_events inverse d line group row c =
    Local (rank_at d.grid row (d.grid.q + c)) (k.Zero (slot_at Code line group) (strip_rows d row) d.desc.nb) ∷ each_below d.grid.q (adding_events inverse d line group row c)

-- so do the code ranks of a process row, by rising column
abbrev pub row_events : (ℕ → ℕ) → Layout → ℕ → ℕ → ℕ → List (Event Rank Kernel Piece Tile)
row_events inverse d line group row = each_below d.grid.f (summing_events inverse d line group row)

-- and those of all process rows, by rising row
abbrev pub group_events : (ℕ → ℕ) → Layout → ℕ → ℕ → List (Event Rank Kernel Piece Tile)
group_events inverse d line group = each_below d.grid.p (row_events inverse d line group)

-- ---- what the events ask of what the ranks of a grid hold, by row and column, and make of it
-- the ranks of a grid hold the strips of a group, each code rank may write its code strip, and has the work slot to use
pub record IsEncodable (d : Layout) (line group : ℕ) (f : ℕ → ℕ → Holding) : Type 0 where
  pub numbers : (row col : ℕ) → row < d.grid.p → col < d.grid.q + d.grid.f → (f row col).number ≡ rank_at d.grid row col
  pub strips : (row q : ℕ) → row < d.grid.p → q < d.grid.q → IsTrue (is_strip_of d row ((f row q).tiles (slot_at Data line group)))
  pub codes : (row c : ℕ) → row < d.grid.p → c < d.grid.f → may_put (f row (d.grid.q + c)) (slot_at Code line group) ≡ true
  pub free : (row c : ℕ) → row < d.grid.p → c < d.grid.f → may_put (f row (d.grid.q + c)) work_slot ≡ true

-- the sum of the first n strips of a process row, each times its weight
abbrev pub coded_strip : Setting → Layout → ℕ → ℕ → (ℕ → ℕ → Holding) → ℕ → ℕ → ℕ → Matrix
coded_strip s d line group f row c n =
    tabulate (strip_rows d row) d.desc.nb (λ i j. sum_to n (λ q. weight s.inverse d.grid.q c q * entry (words_of ((f row q).tiles (slot_at Data line group))) i j) % s.modulus)

-- each code rank holds the weighted sum of the strips of its row, and else what it held, but for the work slot; the data ranks hold what they held
pub record IsEncoded (s : Setting) (d : Layout) (line group : ℕ) (f h : ℕ → ℕ → Holding) : Type 0 where
  pub strips : (row q : ℕ) → row < d.grid.p → q < d.grid.q → h row q ≡ f row q
  pub codes : (row c : ℕ) → row < d.grid.p → c < d.grid.f → (h row (d.grid.q + c)).tiles (slot_at Code line group) ≡ Some (Words (coded_strip s d line group f row c d.grid.q))
  pub free : (row c : ℕ) → row < d.grid.p → c < d.grid.f → (h row (d.grid.q + c)).free (slot_at Code line group) ≡ true
  pub work_free : (row c : ℕ) → row < d.grid.p → c < d.grid.f → may_put (h row (d.grid.q + c)) work_slot ≡ true
  pub rest : (row c : ℕ) → row < d.grid.p → c < d.grid.f → IsBut (λ x. same_slot x (slot_at Code line group) || same_slot x work_slot) (f row (d.grid.q + c)) (h row (d.grid.q + c))

-- ---- what they ask of a state, and make of it
-- a round of this group may be taken: a quiet state in which messages may go everywhere, on whose grid the data strips of the group are there, and
-- each code rank may write its code strip and the work slot: either is new there, or fresh, or saved
pub record CanEncode (s : Setting) (st : State) (d : Layout) (line group : ℕ) : Type 0 where
  pub modulus : 0 < s.modulus
  pub quiet : IsQuiet s st
  pub own_grid : IsGridOf s d.grid
  pub paths : (from to : ℕ) → IsTrue (is_path s st from to)
  pub strips : (row q : ℕ) → row < d.grid.p → q < d.grid.q → IsTrue (is_strip_of d row (st.tiles (rank_at d.grid row q) (slot_at Data line group)))
  pub codes : (row c : ℕ) → row < d.grid.p → c < d.grid.f → may_put (holding st (rank_at d.grid row (d.grid.q + c))) (slot_at Code line group) ≡ true
  pub works : (row c : ℕ) → row < d.grid.p → c < d.grid.f → may_put (holding st (rank_at d.grid row (d.grid.q + c))) work_slot ≡ true

-- the state after the round
abbrev pub with_code : Setting → State → Layout → ℕ → ℕ → State
with_code s st d line group = replay s st (records_of (group_events s.inverse d line group))

-- the code strips of a group have their shape, and are the weighted sums of its data strips
pub record HasCodeStrips (s : Setting) (st : State) (d : Layout) (line group : ℕ) : Type 0 where
  pub shapes : (row c : ℕ) → row < d.grid.p → c < d.grid.f → IsTrue (is_strip_of d row (st.tiles (rank_at d.grid row (d.grid.q + c)) (slot_at Code line group)))
  pub sums : (row c i j : ℕ) → row < d.grid.p → c < d.grid.f → i < strip_rows d row → j < d.desc.nb
      → code_word st Code line d row group c i j % s.modulus ≡ weighted_sum s st line d row group c i j (λ col. true) % s.modulus

-- but for the code strips of a group, and the work slot, the ranks hold in the second state what they held in the first
pub record KeepsElse (s : Setting) (st st' : State) (d : Layout) (line group : ℕ) : Type 0 where
  pub data_ranks : (row q : ℕ) → row < d.grid.p → q < d.grid.q → holding st' (rank_at d.grid row q) ≡ holding st (rank_at d.grid row q)
  pub code_ranks : (row c : ℕ) → row < d.grid.p → c < d.grid.f
      → IsBut (λ x. same_slot x (slot_at Code line group) || same_slot x work_slot) (holding st (rank_at d.grid row (d.grid.q + c))) (holding st' (rank_at d.grid row (d.grid.q + c)))
  pub other_ranks : (r : ℕ) → r < ranks s → is_member d.grid r ≡ false → holding st' r ≡ holding st r

-- what no event changes
pub record KeepsRun (st st' : State) : Type 0 where
  pub links : (from to : ℕ) → st'.links from to ≡ []
  pub live : st'.live ≡ st.live
  pub saved : st'.saved ≡ st.saved
  pub mark : st'.mark ≡ st.mark
  pub lost : st'.lost ≡ st.lost
  pub taken : st'.taken ≡ st.taken
  pub committed : st'.committed ≡ st.committed
  pub spawned : st'.spawned ≡ st.spawned
