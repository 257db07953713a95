-- The round of a group of a product: what it asks, which slots it may change, and which words it makes.
use Rattle.std.specs.Prelude.{◌≡◌, ◌<◌, ◌*◌, ◌%◌, ◌||◌, ℕ, zero, suc, Bool, true}
use Rattle.blacs_grid.specs.Places.{width}
use Rattle.rank_machine.specs.declared.slot.Slot.{Slot}
use Rattle.rank_machine.specs.Setting.{Setting, job}
use Rattle.rank_machine.specs.State.{State, same_slot}
use Rattle.rank_machine.specs.Effect.{current}
use Rattle.rank_machine.specs.Legal.{is_among}
use Rattle.round_laws.specs.Holdings.{Holding}
use Rattle.round_laws.specs.Turns.{IsGridOf}
use Rattle.phase_rounds.specs.Strips.{HoldsWords, work}
use Rattle.phase_rounds.specs.Products.{MayMultiply, CanMultiply, product_words}
use Rattle.product_rounds.specs.declared.rounds.GroupProduct.{GroupProduct}
use Rattle.product_rounds.specs.Rounds.{strip_slot, block_product, block_count}

-- the slots that a group's round may change on a process column
abbrev pub group_slots : GroupProduct → ℕ → Slot → Bool
group_slots x col slot = same_slot slot (strip_slot x x.line_c col) || (same_slot slot (work 0) || same_slot slot (work 1))

-- the words of the group after its first block columns
abbrev pub group_words : Setting → GroupProduct → (ℕ → ℕ → ℕ → ℕ) → (ℕ → ℕ) → (ℕ → ℕ → ℕ → ℕ → ℕ) → (ℕ → ℕ → ℕ → ℕ) → ℕ → ℕ → ℕ → ℕ → ℕ
group_words s x l n y words zero = words
group_words s x l n y words (suc k) = product_words s (block_product x k) (l k) (n k) (y k) (group_words s x l n y words k)

-- the words of the group, multiplied by BETA
abbrev pub scaled_words : Setting → GroupProduct → (ℕ → ℕ → ℕ → ℕ) → ℕ → ℕ → ℕ → ℕ
scaled_words s x words col i c = (words col i c * x.beta) % s.modulus

-- what the round of a group asks: of the setting, and of what the ranks hold
pub record MayMultiplyGroup (s : Setting) (st : State) (x : GroupProduct) : Type 0 where
  pub own_grid : IsGridOf s x.grid
  pub factor : is_among (job s (current s st.mark)).scalars x.beta ≡ true
  pub blocks : (block : ℕ) → block < block_count x → MayMultiply s st (block_product x block)

pub record CanMultiplyGroup (x : GroupProduct) (l : ℕ → ℕ → ℕ → ℕ) (n : ℕ → ℕ) (y : ℕ → ℕ → ℕ → ℕ → ℕ) (words : ℕ → ℕ → ℕ → ℕ) (f : ℕ → ℕ → Holding) : Type 0 where
  pub blocks : (block : ℕ) → block < block_count x → CanMultiply (block_product x block) (l block) (n block) (y block) words f
  pub stands : (col : ℕ) → col < width x.grid → HoldsWords (record { grid = x.grid; desc = x.c }) (strip_slot x x.line_c col) (words col) (λ row. f row col)

-- the words of the group after its round
abbrev pub product_group_words : Setting → GroupProduct → (ℕ → ℕ → ℕ → ℕ) → (ℕ → ℕ) → (ℕ → ℕ → ℕ → ℕ → ℕ) → (ℕ → ℕ → ℕ → ℕ) → ℕ → ℕ → ℕ → ℕ
product_group_words s x l n y words = group_words s x l n y (scaled_words s x words) (block_count x)
