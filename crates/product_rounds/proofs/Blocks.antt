-- All block columns of a product, one after another: each finds what the ones before it left alone, and the words gain them all.
use Rattle.std.proofs.Common.{◌≡◌, ◌<◌, ◌≤◌, ◌||◌, ℕ, zero, suc, Bool, false, ap, ◌∙◌, arith}
use Rattle.run_data.specs.Parts.{part_entry}
use Rattle.blacs_grid.specs.Places.{width}
use Rattle.rank_machine.specs.Setting.{Setting}
use Rattle.rank_machine.specs.State.{State, same_slot}
use Rattle.rank_machine.specs.Effect.{is_words, words_of}
use Rattle.rank_machine.specs.Legal.{is_inside}
use Rattle.round_laws.specs.Holdings.{Holding}
use Rattle.round_laws.specs.Turns.{each_below}
use Rattle.round_laws.specs.Changes.{ChangesOnly, TurnsGrid}
use Rattle.round_laws.proofs.Changes.{grid_none, grid_then}
use Rattle.phase_rounds.specs.Strips.{HoldsWords, work}
use Rattle.phase_rounds.specs.Products.{BlockProduct, MayMultiply, CanMultiply, product_events, product_slots}
use Rattle.phase_rounds.proofs.Products.{multiplies}
use Rattle.phase_rounds.proofs.Standing.{other_way}
use Rattle.product_rounds.specs.declared.rounds.GroupProduct.{GroupProduct}
use Rattle.product_rounds.specs.Rounds.{strip_slot, block_product, block_count}
use Rattle.product_rounds.specs.Groups.{group_slots, group_words}

none_of_three : (a b c : Bool) → a ≡ false → b ≡ false → c ≡ false → (a || (b || c)) ≡ false
none_of_three a b c ea eb ec = λ i. ea i || (eb i || ec i)

-- a product may be made also from holdings that have changed in its own slots alone, and in which its third matrix stands
pub can_still : (s : Setting) (st : State) (x : BlockProduct) (l : ℕ → ℕ → ℕ) (n : ℕ) (y words words' : ℕ → ℕ → ℕ → ℕ) (f f' : ℕ → ℕ → Holding) → MayMultiply s st x → CanMultiply x l n y words f
    → ((row col : ℕ) → row < x.at.grid.p → col < width x.at.grid → ChangesOnly (product_slots x col) (f row col) (f' row col))
    → ((col : ℕ) → col < width x.at.grid → HoldsWords x.at (x.c col) (words' col) (λ row. f' row col)) → CanMultiply x l n y words' f'
can_still s st x l n y words words' f f' may can changed stands =
    let a_apart : (col : ℕ) → product_slots x col x.a ≡ false =
    λ col. none_of_three (same_slot x.a (x.c col)) (same_slot x.a (work 0)) (same_slot x.a (work 1)) (other_way (x.c col) x.a (may.c_not_a col)) (may.a_no_work 0) (may.a_no_work 1) in
    let b_apart : (col : ℕ) → product_slots x col (x.b col) ≡ false =
    λ col. none_of_three (same_slot (x.b col) (x.c col)) (same_slot (x.b col) (work 0)) (same_slot (x.b col) (work 1)) (other_way (x.c col) (x.b col) (may.c_not_b col)) (may.b_no_work col 0) (may.b_no_work col 1) in
    let a_same : (row : ℕ) → row < x.at.grid.p → (f' row x.q).tiles x.a ≡ (f row x.q).tiles x.a = λ row hr. (changed row x.q hr may.q_in).but.tiles x.a (a_apart x.q) in
    let b_same : (col : ℕ) → col < width x.at.grid → (f' x.r col).tiles (x.b col) ≡ (f x.r col).tiles (x.b col) = λ col hc. (changed x.r col may.r_in hc).but.tiles (x.b col) (b_apart col) in
    record {
      a_there = λ row hr. ap (λ o. is_words o) (a_same row hr) ∙ can.a_there row hr;
      left_in = λ row hr. ap (λ o. is_inside (x.left row) (words_of o)) (a_same row hr) ∙ can.left_in row hr;
      left_rows = can.left_rows;
      left_columns = can.left_columns;
      left_words = λ row i q hr hi hq. ap (λ o. part_entry (words_of o) (x.left row) i q) (a_same row hr) ∙ can.left_words row i q hr hi hq;
      b_there = λ col hc. ap (λ o. is_words o) (b_same col hc) ∙ can.b_there col hc;
      right_in = λ col hc. ap (λ o. is_inside x.right (words_of o)) (b_same col hc) ∙ can.right_in col hc;
      right_rows = can.right_rows;
      right_columns = can.right_columns;
      right_words = λ col q c hc hq hw. ap (λ o. part_entry (words_of o) x.right q c) (b_same col hc) ∙ can.right_words col q c hc hq hw;
      stands = stands;
      first_free = λ row col hr hc. (changed row col hr hc).may (work 0) (can.first_free row col hr hc);
      second_free = λ row col hr hc. (changed row col hr hc).may (work 1) (can.second_free row col hr hc);
    }

pub blocks_multiply : (s : Setting) (st : State) (x : GroupProduct) (l : ℕ → ℕ → ℕ → ℕ) (n : ℕ → ℕ) (y : ℕ → ℕ → ℕ → ℕ → ℕ) (words : ℕ → ℕ → ℕ → ℕ) (f : ℕ → ℕ → Holding)
    → ((block : ℕ) → block < block_count x → MayMultiply s st (block_product x block)) → ((block : ℕ) → block < block_count x → CanMultiply (block_product x block) (l block) (n block) (y block) words f)
    → ((col : ℕ) → col < width x.grid → HoldsWords (record { grid = x.grid; desc = x.c }) (strip_slot x x.line_c col) (words col) (λ row. f row col)) → (k : ℕ) → k ≤ block_count x
    → (h : TurnsGrid s st x.grid (group_slots x) (each_below k (λ block. product_events (block_product x block))) f)
    × ((col : ℕ) → col < width x.grid → HoldsWords (record { grid = x.grid; desc = x.c }) (strip_slot x x.line_c col) (group_words s x l n y words k col) (λ row. h.after row col))
blocks_multiply s st x l n y words f may can stands zero few = (grid_none s st x.grid (group_slots x) f, stands)
blocks_multiply s st x l n y words f may can stands (suc k) few =
    let before = blocks_multiply s st x l n y words f may can stands k (omega arith) in
    let one = before.0 in
    let can_now : CanMultiply (block_product x k) (l k) (n k) (y k) (group_words s x l n y words k) one.after =
    can_still s st (block_product x k) (l k) (n k) (y k) words (group_words s x l n y words k) f one.after (may k few) (can k few) one.changed before.1 in
    let next = multiplies s st (block_product x k) (l k) (n k) (y k) (group_words s x l n y words k) one.after (may k few) can_now in
    (grid_then s st x.grid (group_slots x) (each_below k (λ block. product_events (block_product x block))) (product_events (block_product x k)) f one next.0, next.1)
