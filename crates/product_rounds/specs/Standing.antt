-- What the ranks of a grid hold of the factors of a product.
use Rattle.std.specs.Prelude.{◌≡◌, ◌<◌, ℕ, ◌+◌, ◌*◌, true}
use Rattle.blacs_grid.specs.Places.{width}
use Rattle.rank_machine.specs.declared.slot.Slot.{Slot}
use Rattle.rank_machine.specs.declared.layout.Layout.{Layout}
use Rattle.rank_machine.specs.Effect.{is_words}
use Rattle.elimination.specs.Strips.{Hold}
use Rattle.phase_laws.specs.Columns.{rows_of, strips_in}
use Rattle.round_laws.specs.Holdings.{Holding}
use Rattle.product_rounds.specs.declared.rounds.GroupProduct.{GroupProduct}
use Rattle.product_rounds.specs.Rounds.{strip_slot, block_product, block_count}

-- in a slot the ranks of a process column hold strips of a matrix that lies by d, with these words by global row and by the strip's column
pub record HaveWords (d : Layout) (slot : Slot) (words : ℕ → ℕ → ℕ) (at : ℕ → Holding) : Type 0 where
  pub there : (row : ℕ) → row < d.grid.p → is_words ((at row).tiles slot) ≡ true
  pub hold : Hold (rows_of d) d.desc.nb words (strips_in (λ row. (at row).tiles) slot)

-- the three matrices of a product lie in blocks that fit
pub record AreAligned (x : GroupProduct) : Type 0 where
  pub rows : x.a.m ≡ x.c.m
  pub row_blocks : x.a.mb ≡ x.c.mb
  pub row_source : x.a.rsrc ≡ x.c.rsrc
  pub inner : x.a.n ≡ x.b.m
  pub inner_blocks : x.a.nb ≡ x.b.mb
  pub columns : x.b.n ≡ x.c.n
  pub column_blocks : x.b.nb ≡ x.c.nb
  pub column_source : x.b.csrc ≡ x.c.csrc

-- the words of a block column of A, and of the block row of B that meets it, in the columns of a group
abbrev pub left_words : GroupProduct → (ℕ → ℕ → ℕ) → ℕ → ℕ → ℕ → ℕ
left_words x a block i q = a i (block * x.a.nb + q)

abbrev pub right_words : GroupProduct → (ℕ → ℕ → ℕ → ℕ) → ℕ → ℕ → ℕ → ℕ → ℕ
right_words x b block col q c = b col (block * x.a.nb + q) c

-- the block columns of A are there with the words a, and on each process column the group's strips of B with the words b
pub record HaveFactors (x : GroupProduct) (a : ℕ → ℕ → ℕ) (b : ℕ → ℕ → ℕ → ℕ) (f : ℕ → ℕ → Holding) : Type 0 where
  pub first : (block : ℕ) → block < block_count x → HaveWords (record { grid = x.grid; desc = x.a }) (block_product x block).a (left_words x a block) (λ row. f row (block_product x block).q)
  pub second : (col : ℕ) → col < width x.grid → HaveWords (record { grid = x.grid; desc = x.b }) (strip_slot x x.line_b col) (b col) (λ row. f row col)
