-- The whole round of a group: its strips are multiplied by BETA, and gain the products of all block columns.
use Rattle.std.proofs.Common.{◌<◌, ℕ}
use Rattle.std.proofs.Math.Nat.{le_refl}
use Rattle.blacs_grid.specs.Places.{width}
use Rattle.rank_machine.specs.Setting.{Setting}
use Rattle.rank_machine.specs.State.{State}
use Rattle.rank_machine.specs.Effect.{replay}
use Rattle.rank_machine.specs.Legal.{IsLegalFrom}
use Rattle.rank_slots.specs.Stands.{records_of}
use Rattle.round_laws.specs.Holdings.{Holding}
use Rattle.round_laws.specs.Turns.{IsQuiet, each_below, held_on}
use Rattle.round_laws.specs.Changes.{TurnsGrid, ChangesGrid}
use Rattle.round_laws.proofs.Changes.{grid_then, grid_legal, grid_held, grid_changes}
use Rattle.phase_rounds.specs.Strips.{HoldsWords}
use Rattle.phase_rounds.specs.Products.{CanMultiply, product_events}
use Rattle.phase_rounds.proofs.Standing.{stands_same}
use Rattle.product_rounds.specs.declared.rounds.GroupProduct.{GroupProduct}
use Rattle.product_rounds.specs.Rounds.{strip_slot, block_product, block_count, scale_events, group_events}
use Rattle.product_rounds.specs.Groups.{MayMultiplyGroup, CanMultiplyGroup, group_slots, scaled_words, product_group_words}
use Rattle.product_rounds.proofs.Blocks.{can_still, blocks_multiply}
use Rattle.product_rounds.proofs.Scales.{strips_scale}

pub group_multiplies : (s : Setting) (st : State) (x : GroupProduct) (l : ℕ → ℕ → ℕ → ℕ) (n : ℕ → ℕ) (y : ℕ → ℕ → ℕ → ℕ → ℕ) (words : ℕ → ℕ → ℕ → ℕ) (f : ℕ → ℕ → Holding) → MayMultiplyGroup s st x → CanMultiplyGroup x l n y words f
    → (h : TurnsGrid s st x.grid (group_slots x) (group_events x) f)
    × ((col : ℕ) → col < width x.grid → HoldsWords (record { grid = x.grid; desc = x.c }) (strip_slot x x.line_c col) (product_group_words s x l n y words col) (λ row. h.after row col))
group_multiplies s st x l n y words f may can =
    let one = strips_scale s st x words f may.own_grid may.factor can.stands in
    let can_now : (block : ℕ) → block < block_count x → CanMultiply (block_product x block) (l block) (n block) (y block) (scaled_words s x words) one.0.after =
    λ block lt. can_still s st (block_product x block) (l block) (n block) (y block) words (scaled_words s x words) f one.0.after (may.blocks block lt) (can.blocks block lt) one.0.changed one.1 in
    let all = blocks_multiply s st x l n y (scaled_words s x words) one.0.after may.blocks can_now one.1 (block_count x) (le_refl (block_count x)) in
    (grid_then s st x.grid (group_slots x) (scale_events x) (each_below (block_count x) (λ block. product_events (block_product x block))) f one.0 all.0, all.1)

-- from a quiet state
module _ (s : Setting) (st : State) (x : GroupProduct) (l : ℕ → ℕ → ℕ → ℕ) (n : ℕ → ℕ) (y : ℕ → ℕ → ℕ → ℕ → ℕ) (words : ℕ → ℕ → ℕ → ℕ) (quiet : IsQuiet s st) (may : MayMultiplyGroup s st x)
    (can : CanMultiplyGroup x l n y words (held_on st x.grid)) where
  abbrev round : TurnsGrid s st x.grid (group_slots x) (group_events x) (held_on st x.grid)
  round = (group_multiplies s st x l n y words (held_on st x.grid) may can).0

  pub group_legal : IsLegalFrom s st (records_of (group_events x))
  group_legal = (grid_legal s st x.grid (group_slots x) may.own_grid quiet (group_events x) round).legal

  pub group_held : (col : ℕ) → col < width x.grid → HoldsWords (record { grid = x.grid; desc = x.c }) (strip_slot x x.line_c col) (product_group_words s x l n y words col) (λ row. held_on (replay s st (records_of (group_events x))) x.grid row col)
  group_held col hc =
      stands_same (record { grid = x.grid; desc = x.c }) (strip_slot x x.line_c col) (product_group_words s x l n y words col) (λ row. round.after row col) (λ row. held_on (replay s st (records_of (group_events x))) x.grid row col)
      (λ row hr. grid_held s st x.grid (group_slots x) may.own_grid quiet (group_events x) round row col hr hc) ((group_multiplies s st x l n y words (held_on st x.grid) may can).1 col hc)

  pub group_changes : ChangesGrid s x.grid (group_slots x) st (replay s st (records_of (group_events x)))
  group_changes = grid_changes s st x.grid (group_slots x) may.own_grid quiet (group_events x) round
