-- The strips that a print line took, and the whole matrix.
use Rattle.std.specs.Prelude.{◌≡◌, ℕ, List, map}
use Rattle.run_data.specs.Matrix.{Matrix, IsShaped}
use Rattle.rank_machine.specs.declared.slot.Slot.{Slot}
use Rattle.rank_machine.specs.declared.slot.Tile.{Tile}
use Rattle.rank_machine.specs.declared.slot.Tile.TheVariants.{Words, Index}
use Rattle.rank_machine.specs.declared.layout.Layout.{Layout}
use Rattle.rank_machine.specs.Setting.{strip_of}
use Rattle.dist_matrix.specs.Strips.{HasShape, HasStripShape, NamesStrip, with_strip}
use Rattle.line_phases.specs.Printing.{strip_slots}
use Rattle.plain_phases.specs.declared.taking.Got.{Got}

-- the strip of a matrix that is taken from a rank and a slot
abbrev pub strip_got : Layout → Matrix → ℕ × Slot → Got
strip_got d m p = record { rank = p.0; slot = p.1; tile = Words (strip_of d m p.0 p.1.group) }

-- these are the strips of a matrix, in the order in which a print line takes them
pub record AreStrips (d : Layout) (line : ℕ) (m : Matrix) (got : List Got) : Type 0 where
  pub shaped : IsShaped m
  pub shape : HasShape d m
  pub are : got ≡ map (strip_got d m) (strip_slots line d)

-- what was taken is a strip by its place and its shape
abbrev pub IsWords : Layout → ℕ → Tile → Type 0
IsWords d rank (Words m) = HasStripShape d rank m
IsWords d rank (Index ns) = ⊥

pub record IsStrip (d : Layout) (got : Got) : Type 0 where
  pub names : NamesStrip d got.rank got.slot.group
  pub words : IsWords d got.rank got.tile

-- a matrix with the words of a strip
abbrev pub with_tile : Layout → Matrix → ℕ → ℕ → Tile → Matrix
with_tile d out rank group (Words m) = with_strip d out rank group m
with_tile d out rank group (Index ns) = out

abbrev pub with_got : Layout → Matrix → Got → Matrix
with_got d out got = with_tile d out got.rank got.slot.group got.tile
