-- The round of a group of a product: the strips of C are multiplied by BETA, and then each block column of A adds its product with the block row of B that meets it.
use Rattle.std.specs.Prelude.{ℕ, ◌+◌, ◌-◌, ◌*◌, ◌/◌, ◌%◌, nat_lt, min, if◌then◌else◌, List, [], ◌∷◌, ◌++◌}
use Rattle.array_desc.specs.Descriptors.{IsDesc}
use Rattle.array_desc.specs.Maps.{numroc, ceil_div, group_of}
use Rattle.blacs_grid.specs.declared.Scope.TheVariants.{Column}
use Rattle.blacs_grid.specs.Limits.{IsGrid}
use Rattle.blacs_grid.specs.Places.{width, rank_at, member}
use Rattle.blacs_comm.specs.Positions as positions
use Rattle.blacs_comm.specs.Positions.{sender_of}
use Rattle.blacs_comm.specs.Moves.{broadcast_moves}
use Rattle.rank_run.specs.declared.round.Event.{Event}
use Rattle.rank_run.specs.declared.round.Event.TheVariants.{Local}
use Rattle.rank_machine.specs.declared.slot.Slot.{Slot}
use Rattle.rank_machine.specs.declared.slot.SlotKind.TheVariants.{Data, Code}
use Rattle.rank_machine.specs.declared.slot.Tile.{Tile}
use Rattle.rank_machine.specs.declared.slot.Piece.{Piece}
use Rattle.rank_machine.specs.declared.slot.Piece.TheVariants as piece
use Rattle.rank_machine.specs.declared.kernel.Kernel.{Kernel}
use Rattle.rank_machine.specs.declared.kernel.Kernel.TheVariants as k
use Rattle.rank_machine.specs.CodeLaw.{slot_at}
use Rattle.rank_slots.specs.Rank.{Rank}
use Rattle.round_laws.specs.Turns.{each_below}
use Rattle.phase_rounds.specs.Strips.{work}
use Rattle.phase_rounds.specs.Products.{BlockProduct, product_events}
use Rattle.product_rounds.specs.declared.rounds.GroupProduct.{GroupProduct}

-- the slot of a strip of the group on a process column, a data or a code column
abbrev pub strip_slot : GroupProduct → ℕ → ℕ → Slot
strip_slot x line col = slot_at (if nat_lt col x.grid.q then Data else Code) line x.group

-- how many columns a block column of A has
abbrev pub block_width : GroupProduct → ℕ → ℕ
block_width x block = min x.a.nb (x.a.n - block * x.a.nb)

-- the product of a block column of A with the block row of B that meets it
abbrev pub block_product : GroupProduct → ℕ → BlockProduct
block_product x block = record {
  at = record { grid = x.grid; desc = x.c };
  topology = x.topology;
  alpha = x.alpha;
  q = (x.a.csrc + block) % x.grid.q;
  r = (x.b.rsrc + block) % x.grid.p;
  a = slot_at Data x.line_a (group_of block x.grid.q);
  b = strip_slot x x.line_b;
  c = strip_slot x x.line_c;
  left = λ row. record { r0 = 0; r1 = numroc x.a.m x.a.mb row x.a.rsrc x.grid.p; c0 = 0; c1 = block_width x block };
  right = record { r0 = x.b.mb * (block / x.grid.p); r1 = x.b.mb * (block / x.grid.p) + block_width x block; c0 = 0; c1 = x.b.nb };
}

-- the moves of a block row of B down a process column
abbrev pub column_moves : BlockProduct → ℕ → List (Event Rank Kernel Piece Tile)
column_moves y col =
    broadcast_moves (positions.rank_at (member y.at.grid (Column col)) y.at.grid.p y.topology y.r) (sender_of y.topology) (piece.Part (y.b col) y.right) (piece.Whole (work 1)) (y.at.grid.p - 1)

-- the strips of a process column, and of all of them, are multiplied by BETA
abbrev pub scale_column : GroupProduct → ℕ → List (Event Rank Kernel Piece Tile)
scale_column x col = each_below x.grid.p (λ row. Local (rank_at x.grid row col) (k.Scale (piece.Whole (strip_slot x x.line_c col)) x.beta) ∷ [])

abbrev pub scale_events : GroupProduct → List (Event Rank Kernel Piece Tile)
scale_events x = each_below (width x.grid) (scale_column x)

-- how many block columns A has
abbrev pub block_count : GroupProduct → ℕ
block_count x = ceil_div x.a.n x.a.nb

-- all of the round
abbrev pub group_events : GroupProduct → List (Event Rank Kernel Piece Tile)
group_events x = scale_events x ++ each_below (block_count x) (λ block. product_events (block_product x block))

-- the grid is within the limits, and so are the descriptors on it
pub record IsOnGrid (x : GroupProduct) : Type 0 where
  pub grid : IsGrid x.grid
  pub a : IsDesc x.grid.p x.grid.q x.a
  pub b : IsDesc x.grid.p x.grid.q x.b
  pub c : IsDesc x.grid.p x.grid.q x.c
