-- The memories of all ranks, one after another.
use Rattle.std.specs.Prelude.{ℕ, zero, suc, ◌==◌, ◌||◌, Bool, true, false, if◌then◌else◌, List, [], ◌∷◌, map, slice_set}
use Rattle.std.specs.List.{range_with_len}
use Rattle.rank_link.specs.Traffic.{Traffic, with_messages}
use Rattle.rank_run.specs.Rounds.{on_rank}
use Rattle.rank_machine.specs.declared.slot.Tile.{Tile}
use Rattle.rank_machine.specs.declared.record.Loss.{Loss}
use Rattle.rank_machine.specs.declared.mark.Mark.{Mark}
use Rattle.rank_machine.specs.Effect.{is_live}
use Rattle.script_lines.specs.declared.lines.Line.{Line}
use Rattle.script_lines.specs.Lines.{setting_on}
use Rattle.rank_slots.specs.declared.cells.Cell.{Cell}
use Rattle.rank_slots.specs.Cells.{kept_in}
use Rattle.rank_slots.specs.Rank.{Rank, with_cells}
use Rattle.rank_slots.specs.Lost.{lost_rank}

-- a live rank that holds nothing
abbrev pub empty_rank : List Line → ℕ → Rank
empty_rank table number = record { table = table; number = number; live = true; cells = [] }

-- so many of them, numbered from 0
abbrev pub empty_ranks : List Line → ℕ → List Rank
empty_ranks table count = map (empty_rank table) (range_with_len 0 count)

-- the same rank, live and holding nothing
abbrev pub restarted : Rank → Rank
restarted m = empty_rank m.table m.number

-- a rank with what is live under a mark
abbrev pub committed : Mark → Rank → Rank
committed mark m = with_cells m (kept_in (is_live (setting_on 0 m.table) mark m.number) m.cells)

-- the cells of a rank
abbrev pub cells_at : List Rank → ℕ → List Cell
cells_at [] rank = []
cells_at (m ∷ ms) zero = m.cells
cells_at (m ∷ ms) (suc rank) = cells_at ms rank

-- ---- losses that fall at a number, one after another
-- no message is on its way from or to a rank, by the first so many of the others
abbrev pub cut_to : ℕ → ℕ → Traffic Tile → Traffic Tile
cut_to rank zero l = l
cut_to rank (suc other) l = with_messages (with_messages (cut_to rank other l) rank other []) other rank []

abbrev pub cut_off : ℕ → Traffic Tile → Traffic Tile
cut_off rank l = cut_to rank l.ranks l

abbrev pub flagged : List Bool → ℕ → List Bool
flagged bs rank = slice_set bs rank true

-- the memories, the links and the flags after the losses of a number
abbrev pub mems_after : List Loss → ℕ → List Rank → List Rank
mems_after [] at ms = ms
mems_after (l ∷ ls) at ms = mems_after ls at (if l.at == at then on_rank ms l.rank lost_rank else ms)

abbrev pub links_after : List Loss → ℕ → Traffic Tile → Traffic Tile
links_after [] at links = links
links_after (l ∷ ls) at links = links_after ls at (if l.at == at then cut_off l.rank links else links)

abbrev pub flags_after : List Loss → ℕ → List Bool → List Bool
flags_after [] at bs = bs
flags_after (l ∷ ls) at bs = flags_after ls at (if l.at == at then flagged bs l.rank else bs)

-- ---- flags
abbrev pub some_flag : List Bool → Bool
some_flag [] = false
some_flag (b ∷ bs) = b || some_flag bs

abbrev pub lowered : Bool → Bool
lowered b = false
