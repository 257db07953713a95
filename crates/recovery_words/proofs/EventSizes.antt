-- How large the tiles of a rank get while it is mended, whatever is in them.
use Rattle.std.proofs.Common.{◌≡◌, ◌+◌, ◌-◌, ◌*◌, ◌%◌, ◌<◌, ◌≤◌, ℕ, zero, suc, Bool, true, false, Option, Some, None, List, [], ◌∷◌, refl, ap, arith}
use Rattle.std.specs.Prelude.{if◌then◌else◌}
use Rattle.run_data.specs.Matrix.{Matrix, cols, entry, zero_matrix}
use Rattle.run_data.specs.declared.matrix.Part.{Part}
use Rattle.run_data.specs.Parts.{whole_part, part_entry}
use Rattle.run_data.proofs.Matrices.{rows-tabulate, cols-tabulate}
use Rattle.run_data.proofs.PartLaws.{rows-with_part, cols-with_part}
use Rattle.local_blas.specs.Kernels.{with_added}
use Rattle.rank_run.specs.declared.round.Event.TheVariants.{Move}
use Rattle.rank_machine.specs.declared.slot.Slot.{Slot}
use Rattle.rank_machine.specs.declared.slot.SlotKind.TheVariants.{Pivots}
use Rattle.rank_machine.specs.declared.slot.Tile.{Tile}
use Rattle.rank_machine.specs.declared.slot.Tile.TheVariants.{Words, Index}
use Rattle.rank_machine.specs.declared.slot.Piece.TheVariants.{Whole}
use Rattle.rank_machine.specs.declared.kernel.Cut.{Cut}
use Rattle.rank_machine.specs.declared.kernel.Cut.TheVariants as cut
use Rattle.rank_machine.specs.Setting.{Setting}
use Rattle.rank_machine.specs.State.{State, same_kind, same_slot}
use Rattle.rank_machine.specs.Effect.{words_of, cut_out, reaches, zero_tile}
use Rattle.rank_machine.specs.Held.{size_of}
use Rattle.rank_slots.proofs.CellLaws.{same_slot-refl}
use Rattle.round_laws.specs.Turns.{each_below}
use Rattle.phases.specs.Words.{live_tile}
use Rattle.phase_frames.specs.Touching.{RoundEvent, AllEvents, KeepsCap}
use Rattle.phase_frames.proofs.Touched.{events_then}
use Rattle.recovery_rounds.specs.Mending.{brought, bring, gain, clear, gain_all}
use Rattle.recovery_words.specs.Roomy.{room_in}

-- ---- parts of a round
pub events_each : (P : RoundEvent → Type 0) (n : ℕ) (f : ℕ → List RoundEvent) → ((i : ℕ) → i < n → AllEvents P (f i)) → AllEvents P (each_below n f)
events_each P zero f h = tt
events_each P (suc n) f h = events_then P (each_below n f) (f n) (events_each P n f (λ i lt. h i (omega (arith, lt)))) (h n (omega arith))

pub events_if : (P : RoundEvent → Type 0) (b : Bool) (xs ys : List RoundEvent) → (b ≡ true → AllEvents P xs) → (b ≡ false → AllEvents P ys) → AllEvents P (if b then xs else ys)
events_if P true xs ys h k = h refl
events_if P false xs ys h k = k refl

-- ---- sizes
zero_size : (rows columns : ℕ) → (zero_matrix rows columns).rows * cols (zero_matrix rows columns) ≡ rows * columns
zero_size rows columns = λ i. rows-tabulate rows columns (λ a b. 0) i * cols-tabulate rows columns (λ a b. 0) i

words_size : (o : Option Tile) → (words_of o).rows * cols (words_of o) ≤ size_of o
words_size None = omega (arith, zero_size 0 0)
words_size (Some (Words m)) = omega arith
words_size (Some (Index ns)) = omega (arith, zero_size 0 0)

cut_size : (slot : Slot) (o : Option Tile) → size_of (Some (cut_out (Whole slot) o)) ≤ size_of o
cut_size slot None = omega arith
cut_size slot (Some (Index ns)) = omega arith
cut_size slot (Some (Words m)) =
    let a : size_of (Some (cut_out (Whole slot) (Some (Words m)))) ≡ (m.rows - 0) * (cols m - 0) = λ i. rows-tabulate (m.rows - 0) (cols m - 0) (part_entry m (whole_part m)) i * cols-tabulate (m.rows - 0) (cols m - 0) (part_entry m (whole_part m)) i in
    let b : (m.rows - 0) * (cols m - 0) ≡ m.rows * cols m = λ i. (let x : m.rows - 0 ≡ m.rows = omega arith in x) i * (let y : cols m - 0 ≡ cols m = omega arith in y) i in
    omega (arith, a, b)

added_size : (p : ℕ) (m : Matrix) (at : Part) (a : ℕ) (x : Matrix) (sp : Part) (test : ℕ → ℕ → Bool) → (with_added p m at a x sp test).rows * cols (with_added p m at a x sp test) ≡ m.rows * cols m
added_size p m at a x sp test =
    let u : (with_added p m at a x sp test).rows ≡ m.rows = rows-with_part m at (λ i j. if test (at.r0 + (i - at.r0)) (at.c0 + (j - at.c0)) then (entry m i j + a * part_entry x sp (i - at.r0) (j - at.c0)) % p else entry m i j) in
    let v : cols (with_added p m at a x sp test) ≡ cols m = cols-with_part m at (λ i j. if test (at.r0 + (i - at.r0)) (at.c0 + (j - at.c0)) then (entry m i j + a * part_entry x sp (i - at.r0) (j - at.c0)) % p else entry m i j) in
    λ i. u i * v i

-- ---- each event leaves its tile no larger than it may be
module _ (s : Setting) (last : State) where
  abbrev pub Fits : RoundEvent → Type 0
  Fits = KeepsCap s (room_in s last)

  -- a tile as large as at the last commit is cleared
  pub clear-fits : (rank : ℕ) (slot : Slot) (rows columns : ℕ) → same_kind slot.kind Pivots ≡ false → size_of (last.tiles rank slot) ≡ rows * columns → Fits (clear rank slot rows columns)
  clear-fits rank slot rows columns kind size tiles fits =
      let made : size_of (Some (zero_tile slot rows columns)) ≡ (zero_matrix rows columns).rows * cols (zero_matrix rows columns) = ap (λ b. size_of (Some (if b then Index [] else Words (zero_matrix rows columns)))) kind in
      omega (arith, made, zero_size rows columns, size)

  -- a slot may have what it had
  room_there : (rank : ℕ) (slot : Slot) → same_slot slot brought ≡ false → room_in s last rank slot ≡ size_of (last.tiles rank slot)
  room_there rank slot e = let none : (if same_slot slot brought then live_tile s last.mark s.jobs else 0) ≡ 0 = ap (λ b. if b then live_tile s last.mark s.jobs else 0) e in omega (arith, none)

  -- a strip is brought
  abbrev pub IsSmall : ℕ → Slot → Type 0
  IsSmall from slot = (same_slot slot brought ≡ false) × (size_of (last.tiles from slot) ≤ live_tile s last.mark s.jobs)

  pub bring-fits : (from to : ℕ) (slot : Slot) → IsSmall from slot → Fits (bring from to slot)
  bring-fits from to slot small tiles fits =
      let most = live_tile s last.mark s.jobs in
      let room : (if same_slot brought brought then most else 0) ≡ most = ap (λ b. if b then most else 0) (same_slot-refl brought) in
      omega (arith, cut_size slot (tiles from slot), fits from slot, room_there from slot small.0, small.1, room)

  -- what was brought is added
  pub gain-fits : (rank : ℕ) (to : Slot) (a : ℕ) (at : Cut) → Fits (gain rank to a at)
  gain-fits rank to a at tiles fits =
      let m = words_of (tiles rank to) in
      let x = words_of (tiles rank brought) in
      let same = added_size s.modulus m (whole_part m) a x (whole_part x) (reaches s rank to at) in
      omega (arith, same, words_size (tiles rank to), fits rank to)

  -- the strips of some slots
  abbrev pub AreSmall : ℕ → List Slot → Type 0
  AreSmall from [] = Unit {0}
  AreSmall from (x ∷ xs) = IsSmall from x × AreSmall from xs

  pub gain_all-fits : (from rank : ℕ) (to : Slot) (a : ℕ) (slots : List Slot) → AreSmall from slots → AllEvents Fits (gain_all from rank to a slots)
  gain_all-fits from rank to a [] small = tt
  gain_all-fits from rank to a (x ∷ xs) small = (bring-fits from rank x small.0, (gain-fits rank to a cut.Whole, gain_all-fits from rank to a xs small.1))

  -- a list is copied from a rank to another one that had one as long
  pub copy-fits : (from to : ℕ) (slot : Slot) → same_slot slot brought ≡ false → size_of (last.tiles from slot) ≡ size_of (last.tiles to slot) → Fits (Move from to (Whole slot) (Whole slot))
  copy-fits from to slot kind size tiles fits = omega (arith, cut_size slot (tiles from slot), fits from slot, room_there from slot kind, size)
