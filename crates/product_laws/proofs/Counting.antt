-- How many records the round of a group makes, and that its ranks are there.
use Rattle.std.proofs.Common.{◌≡◌, ◌+◌, ◌-◌, ◌*◌, ◌%◌, ◌<◌, ◌==◌, ℕ, zero, suc, List, [], ◌∷◌, ◌++◌, refl, ◌∙◌, All, arith}
use Rattle.std.specs.Prelude.{if◌then◌else◌}
use Rattle.std.proofs.lemmas.Nat.{mod_below}
use Rattle.std.proofs.lemmas.List.Elements.{All-nil, All-cons, All-append}
use Rattle.blacs_comm.specs.Positions as positions
use Rattle.blacs_comm.specs.Positions.{sender_of, place_of}
use Rattle.blacs_comm.specs.Moves.{broadcast_moves}
use Rattle.blacs_comm.specs.declared.topology.Topology.{Topology}
use Rattle.blacs_comm.proofs.Places.{place_in, place_apart, sender_below}
use Rattle.blacs_grid.specs.declared.Scope.TheVariants.{Row, Column}
use Rattle.blacs_grid.specs.Places.{width, rank_at, member}
use Rattle.blacs_grid.proofs.PlaceLaws.{is_member-rank_at, same_place}
use Rattle.rank_run.specs.declared.round.Event.{Event}
use Rattle.rank_run.specs.declared.round.Event.TheVariants.{Local, Move}
use Rattle.rank_run.specs.Parts.{IsWithin}
use Rattle.rank_run.specs.Rounds.{steps}
use Rattle.rank_machine.specs.declared.slot.Tile.{Tile}
use Rattle.rank_machine.specs.declared.slot.Piece.{Piece}
use Rattle.rank_machine.specs.declared.slot.Piece.TheVariants as piece
use Rattle.rank_machine.specs.declared.kernel.Kernel.{Kernel}
use Rattle.rank_machine.specs.Setting.{Setting, ranks}
use Rattle.rank_slots.specs.Rank.{Rank}
use Rattle.round_laws.specs.Turns.{each_below, IsGridOf}
use Rattle.phase_rounds.specs.Strips.{work}
use Rattle.phase_rounds.specs.Products.{BlockProduct, product_row, product_column, product_events, product_kernel}
use Rattle.product_rounds.specs.declared.rounds.GroupProduct.{GroupProduct}
use Rattle.product_rounds.specs.Rounds.{IsOnGrid, block_product, block_count, column_moves, scale_column, scale_events, group_events}
use Rattle.product_laws.specs.Multiplying.{round_records}

abbrev RoundEvent : Type 0
RoundEvent = Event Rank Kernel Piece Tile

-- ---- how many steps
steps_more : (xs ys : List RoundEvent) → steps (xs ++ ys) ≡ steps xs + steps ys
steps_more [] ys = omega arith
steps_more (x ∷ xs) ys = omega (arith, steps_more xs ys)

each_steps : (n m : ℕ) (f : ℕ → List RoundEvent) → ((i : ℕ) → steps (f i) ≡ m) → steps (each_below n f) ≡ n * m
each_steps zero m f h = omega arith
each_steps (suc n) m f h =
    let a = steps_more (each_below n f) (f n) in
    let b = each_steps n m f h in
    let c = h n in
    omega (arith, a, b, c)

moves_steps : (at up : ℕ → ℕ) (source to : Piece) (k : ℕ) → steps {Mem = Rank} {Op = Kernel} {Piece = Piece} {Msg = Tile} (broadcast_moves at up source to k) ≡ 2 * k
moves_steps at up source to zero = refl
moves_steps at up source to (suc k) =
    let last : List RoundEvent = Move (at (up (suc k))) (at (suc k)) (if up (suc k) == 0 then source else to) to ∷ [] in
    let a = steps_more (broadcast_moves at up source to k) last in
    let b = moves_steps at up source to k in
    omega (arith, a, b)

row_steps : (y : BlockProduct) (row : ℕ) → steps (product_row y row) ≡ 2 * (width y.at.grid - 1)
row_steps y row = moves_steps (positions.rank_at (member y.at.grid (Row row)) (width y.at.grid) y.topology y.q) (sender_of y.topology) (piece.Whole y.a) (piece.Whole (work 0)) (width y.at.grid - 1)

column_steps : (y : BlockProduct) (col : ℕ) → steps (product_column y col) ≡ 2 * (y.at.grid.p - 1) + y.at.grid.p * 1
column_steps y col =
    let works : List RoundEvent = each_below y.at.grid.p (λ row. Local (rank_at y.at.grid row col) (product_kernel y row col) ∷ []) in
    let a = steps_more (column_moves y col) works in
    let b = moves_steps (positions.rank_at (member y.at.grid (Column col)) y.at.grid.p y.topology y.r) (sender_of y.topology) (piece.Part (y.b col) y.right) (piece.Whole (work 1)) (y.at.grid.p - 1) in
    let c = each_steps y.at.grid.p 1 (λ row. Local (rank_at y.at.grid row col) (product_kernel y row col) ∷ []) (λ row. refl) in
    omega (arith, a, b, c)

block_steps : (y : BlockProduct) → steps (product_events y) ≡ y.at.grid.p * (2 * (width y.at.grid - 1)) + width y.at.grid * (2 * (y.at.grid.p - 1) + y.at.grid.p * 1)
block_steps y =
    let a = steps_more (each_below y.at.grid.p (product_row y)) (each_below (width y.at.grid) (product_column y)) in
    let b = each_steps y.at.grid.p (2 * (width y.at.grid - 1)) (product_row y) (row_steps y) in
    let c = each_steps (width y.at.grid) (2 * (y.at.grid.p - 1) + y.at.grid.p * 1) (product_column y) (column_steps y) in
    omega (arith, a, b, c)

in_order : (p w a b m : ℕ) → w * (p * 1) + m * (p * (2 * a) + w * (2 * b + p * 1)) ≡ p * w + m * ((2 * (p * a) + 2 * (w * b)) + p * w)
in_order p w a b m = omega arith

-- The round makes just as many records as its number says.
pub round_steps : (x : GroupProduct) → IsOnGrid x → steps (group_events x) ≡ round_records x
round_steps x on_grid =
    let p = x.grid.p in
    let w = width x.grid in
    let a = steps_more (scale_events x) (each_below (block_count x) (λ block. product_events (block_product x block))) in
    let b = each_steps w (p * 1) (scale_column x) (λ col. each_steps p 1 _ (λ row. refl)) in
    let c = each_steps (block_count x) (p * (2 * (w - 1)) + w * (2 * (p - 1) + p * 1)) (λ block. product_events (block_product x block)) (λ block. block_steps (block_product x block)) in
    let d = in_order p w (w - 1) (p - 1) (block_count x) in
    a ∙ (λ i. b i + c i) ∙ d

-- ---- which ranks
each_within : (s : Setting) (n : ℕ) (f : ℕ → List RoundEvent) → ((i : ℕ) → i < n → All (IsWithin (ranks s)) (f i)) → All (IsWithin (ranks s)) (each_below n f)
each_within s zero f h = All-nil (IsWithin (ranks s))
each_within s (suc n) f h = All-append (IsWithin (ranks s)) (each_below n f) (f n) (each_within s n f (λ i lt. h i (omega (arith, lt)))) (h n (omega arith))

-- a broadcast among members that are there, no two of them alike
moves_within : (s : Setting) (at : ℕ → ℕ) (n : ℕ) (t : Topology) (root : ℕ) (source to : Piece) → root < n → ((j : ℕ) → j < n → at j < ranks s) → ((i j : ℕ) → i < n → j < n → at i ≡ at j → i ≡ j) → (k : ℕ) → k < n
    → All (IsWithin {Mem = Rank} {Op = Kernel} {Piece = Piece} {Msg = Tile} (ranks s)) (broadcast_moves (positions.rank_at at n t root) (sender_of t) source to k)
moves_within s at n t root source to lt there apart zero hk = All-nil (IsWithin (ranks s))
moves_within s at n t root source to lt there apart (suc k) hk =
    let up = sender_of t (suc k) in
    let low : up < suc k = sender_below t (suc k) (omega arith) in
    let first : place_of t n root up < n = place_in t n root up lt (omega (arith, low, hk)) in
    let second : place_of t n root (suc k) < n = place_in t n root (suc k) lt hk in
    let move : RoundEvent = Move (at (place_of t n root up)) (at (place_of t n root (suc k))) (if up == 0 then source else to) to in
    All-append (IsWithin (ranks s)) (broadcast_moves (positions.rank_at at n t root) (sender_of t) source to k) (move ∷ [])
    (moves_within s at n t root source to lt there apart k (omega (arith, hk)))
    (All-cons (IsWithin (ranks s)) move [] (
      λ e. place_apart t n root up (suc k) lt (omega (arith, low, hk)) hk (λ u. omega (arith, u, low)) (apart (place_of t n root up) (place_of t n root (suc k)) first second e),
      there (place_of t n root up) first,
      there (place_of t n root (suc k)) second,
    ) (All-nil (IsWithin (ranks s))))

module _ (s : Setting) (y : BlockProduct) (of : IsGridOf s y.at.grid) (q_in : y.q < width y.at.grid) (r_in : y.r < y.at.grid.p) where
  rank_in : (row col : ℕ) → row < y.at.grid.p → col < width y.at.grid → rank_at y.at.grid row col < ranks s
  rank_in row col hr hc = of.ranks (rank_at y.at.grid row col) (is_member-rank_at y.at.grid row col hr hc)

  row_within : (row : ℕ) → row < y.at.grid.p → All (IsWithin (ranks s)) (product_row y row)
  row_within row hr =
      moves_within s (member y.at.grid (Row row)) (width y.at.grid) y.topology y.q (piece.Whole y.a) (piece.Whole (work 0)) q_in (λ col hc. rank_in row col hr hc)
      (λ i j hi hj e. (same_place y.at.grid row i row j hi hj e).1) (width y.at.grid - 1) (omega (arith, q_in))

  column_within : (col : ℕ) → col < width y.at.grid → All (IsWithin (ranks s)) (product_column y col)
  column_within col hc =
      let works : List RoundEvent = each_below y.at.grid.p (λ row. Local (rank_at y.at.grid row col) (product_kernel y row col) ∷ []) in
      All-append (IsWithin (ranks s)) (column_moves y col) works
      (moves_within s (member y.at.grid (Column col)) y.at.grid.p y.topology y.r (piece.Part (y.b col) y.right) (piece.Whole (work 1)) r_in (λ row hr. rank_in row col hr hc)
      (λ i j hi hj e. (same_place y.at.grid i col j col hc hc e).0) (y.at.grid.p - 1) (omega (arith, r_in)))
      (each_within s y.at.grid.p _ (λ row hr. All-cons (IsWithin (ranks s)) (Local (rank_at y.at.grid row col) (product_kernel y row col)) [] (rank_in row col hr hc) (All-nil (IsWithin (ranks s)))))

  block_within : All (IsWithin (ranks s)) (product_events y)
  block_within =
      All-append (IsWithin (ranks s)) (each_below y.at.grid.p (product_row y)) (each_below (width y.at.grid) (product_column y))
      (each_within s y.at.grid.p (product_row y) row_within) (each_within s (width y.at.grid) (product_column y) column_within)

-- The ranks of the round are those of the run.
pub round_within : (s : Setting) (x : GroupProduct) → IsOnGrid x → IsGridOf s x.grid → All (IsWithin (ranks s)) (group_events x)
round_within s x on_grid of =
    let blocks : ℕ → List RoundEvent = λ block. product_events (block_product x block) in
    All-append (IsWithin (ranks s)) (scale_events x) (each_below (block_count x) blocks)
    (each_within s (width x.grid) (scale_column x) (λ col hc. each_within s x.grid.p _ (λ row hr. All-cons (IsWithin (ranks s)) _ [] (of.ranks (rank_at x.grid row col) (is_member-rank_at x.grid row col hr hc)) (All-nil (IsWithin (ranks s))))))
    (each_within s (block_count x) blocks (λ block lt.
    let q : (x.a.csrc + block) % x.grid.q < x.grid.q = mod_below (x.a.csrc + block) x.grid.q (omega (arith, on_grid.grid.some_columns)) in
    let r : (x.b.rsrc + block) % x.grid.p < x.grid.p = mod_below (x.b.rsrc + block) x.grid.p (omega (arith, on_grid.grid.some_rows)) in
    block_within s (block_product x block) of (omega (arith, q)) r))
