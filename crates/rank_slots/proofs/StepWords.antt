-- A step of a round keeps that all words are residues.
use Rattle.std.proofs.Common.{◌≡◌, ◌+◌, ◌*◌, ◌<◌, ◌≤◌, ◌++◌, ℕ, Some, List, [], ◌∷◌, length, drop, slice_get, sym, subst, ⊎_elim, All}
use Rattle.std.specs.Option.{IsSomeAnd}
use Rattle.std.proofs.lemmas.Bool.{cases_lt}
use Rattle.std.proofs.lemmas.List.{get_or_past}
use Rattle.std.proofs.lemmas.List.Elements.{All-nil, All-same, All-get_or, All-set, All-push, All-drop}
use Rattle.std.proofs.lemmas.Option.{get_or_from_slice_get, slice_get_within}
use Rattle.rank_link.specs.Traffic.{Traffic, messages, with_messages}
use Rattle.rank_run.specs.Action.{Action, Works, Sends, Receives}
use Rattle.rank_run.specs.Machine.{Machine, machine, after_send, after_step, after_steps, MayStep, MaySteps}
use Rattle.rank_run.specs.Rounds.{on_rank, written_in, read_out}
use Rattle.rank_run.proofs.Ranks.{on_rank-set, some_of}
use Rattle.rank_machine.specs.declared.slot.Tile.{Tile}
use Rattle.rank_machine.specs.declared.slot.Piece.{Piece}
use Rattle.rank_machine.specs.declared.kernel.Kernel.{Kernel}
use Rattle.rank_machine.specs.Effect.{slot_of, piece_in, with_piece, target, made_by}
use Rattle.script_lines.specs.Lines.{setting_on}
use Rattle.rank_slots.specs.Cells.{tiles_in, IsTileOf, AreCellsOf}
use Rattle.rank_slots.specs.Rank.{Rank, memory}
use Rattle.rank_slots.specs.Stands.{AreResidues}
use Rattle.rank_slots.proofs.CellWords.{cells_tile, cells_put}
use Rattle.rank_slots.proofs.Residues.{cut_residues, piece_residues, made_residues}

-- ---- the ranks and the links after a change of one
-- what is true of each is true of the one at a place
pub at_place : {X : Type 0} (P : X → Type 0) (xs : List X) (r : ℕ) (x : X) → slice_get xs r ≡ Some x → All P xs → P x
at_place P xs r x e h = subst P (get_or_from_slice_get xs r x x e) (h r x (slice_get_within xs r x e))

-- one rank's words
ranks_put : (p : ℕ) (ms : List Rank) (r : ℕ) (f : Rank → Rank) (m : Rank) → slice_get ms r ≡ Some m → AreCellsOf p (f m).cells → All (λ y. AreCellsOf p y.cells) ms → All (λ y. AreCellsOf p y.cells) (on_rank ms r f)
ranks_put p ms r f m is g h = All-same (λ y. AreCellsOf p y.cells) (on_rank ms r f) _ (on_rank-set ms r f m is) (All-set (λ y. AreCellsOf p y.cells) ms r (f m) g h)

-- the messages on a link
pub link_words : (p : ℕ) (l : Traffic Tile) (from to : ℕ) → All (λ ts. All (IsTileOf p) ts) l.lists → All (IsTileOf p) (messages l from to)
link_words p l from to h =
    ⊎_elim
    (λ (lt : from * l.ranks + to < length l.lists). All-get_or (λ ts. All (IsTileOf p) ts) l.lists (from * l.ranks + to) [] lt h)
    (λ (le : length l.lists ≤ from * l.ranks + to). All-same (IsTileOf p) (messages l from to) [] (get_or_past l.lists (from * l.ranks + to) [] le) (All-nil (IsTileOf p)))
    (cases_lt (from * l.ranks + to) (length l.lists))

-- other messages on a link
links_put : (p : ℕ) (l : Traffic Tile) (from to : ℕ) (ts : List Tile) → All (IsTileOf p) ts → All (λ us. All (IsTileOf p) us) l.lists → All (λ us. All (IsTileOf p) us) (with_messages l from to ts).lists
links_put p l from to ts g h = All-set (λ us. All (IsTileOf p) us) l.lists (from * l.ranks + to) ts g h

-- ---- a step, and steps
pub residues_step : (p : ℕ) (x : Machine Rank Tile) (t : Action Kernel Piece) → 0 < p → AreResidues p x → MayStep (memory p) x t → AreResidues p (after_step (memory p) x t)
residues_step p x (Works r op) some h may =
    let m = some_of (slice_get x.mems r) (λ y. (memory p).can_apply y op) may in
    let cells = at_place (λ y. AreCellsOf p y.cells) x.mems r m.0 m.1 h.mems in
    let made = made_residues (setting_on p m.0.table) m.0.number (tiles_in m.0.cells) op some (λ slot. cells_tile p m.0.cells slot cells) in
    record { mems = ranks_put p x.mems r (λ y. (memory p).applied y op) m.0 m.1 (cells_put p m.0.cells (slot_of (target op)) (made_by (setting_on p m.0.table) m.0.number (tiles_in m.0.cells) op) made cells) h.mems; links = h.links }
residues_step p x (Sends from to y) some h may =
    let m = some_of (slice_get x.mems from) (λ z. (memory p).can_read z y) may.0 in
    let cells = at_place (λ z. AreCellsOf p z.cells) x.mems from m.0 m.1 h.mems in
    let msg = cut_residues p y (tiles_in m.0.cells (slot_of y)) some (cells_tile p m.0.cells (slot_of y) cells) in
    let ts : List Tile = messages x.links from to ++ piece_in (tiles_in m.0.cells) y ∷ [] in
    let now = links_put p x.links from to ts (All-push (IsTileOf p) (messages x.links from to) (piece_in (tiles_in m.0.cells) y) (link_words p x.links from to h.links) msg) h.links in
    subst (λ o. AreResidues p (machine x.mems (after_send x.links from to (read_out (memory p) o y)))) (sym m.1) (record { mems = h.mems; links = now })
residues_step p x (Receives to from y) some h may =
    let t = some_of (slice_get (messages x.links from to) 0) (λ msg. IsSomeAnd (slice_get x.mems to) (λ z. (memory p).can_write z y msg)) may in
    let m = some_of (slice_get x.mems to) (λ z. (memory p).can_write z y t.0) t.2 in
    let cells = at_place (λ z. AreCellsOf p z.cells) x.mems to m.0 m.1 h.mems in
    let new = piece_residues p (tiles_in m.0.cells (slot_of y)) y t.0 some (cells_tile p m.0.cells (slot_of y) cells) m.2.residues in
    let now = links_put p x.links from to (drop 1 (messages x.links from to)) (All-drop (IsTileOf p) 1 (messages x.links from to) (link_words p x.links from to h.links)) h.links in
    subst (λ o. AreResidues p (machine (written_in (memory p) x.mems to y o) (with_messages x.links from to (drop 1 (messages x.links from to))))) (sym t.1)
    (record { mems = ranks_put p x.mems to (λ z. (memory p).written z y t.0) m.0 m.1 (cells_put p m.0.cells (slot_of y) (with_piece (tiles_in m.0.cells (slot_of y)) y t.0) new cells) h.mems; links = now })

pub residues_steps : (p : ℕ) (x : Machine Rank Tile) (ts : List (Action Kernel Piece)) → 0 < p → AreResidues p x → MaySteps (memory p) x ts → AreResidues p (after_steps (memory p) x ts)
residues_steps p x [] some h may = h
residues_steps p x (t ∷ ts) some h may = residues_steps p (after_step (memory p) x t) ts some (residues_step p x t some h may.0) may.1
