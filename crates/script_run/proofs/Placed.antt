-- Strips of a matrix, listed and placed one after another.
use Rattle.std.proofs.Common.{◌≡◌, ◌+◌, ◌-◌, ◌<◌, ◌≤◌, ℕ, suc, List, [], ◌∷◌, ◌++◌, map, length, get_or, refl, sym, ap, subst, ◌∙◌, append_assoc, arith}
use Rattle.std.specs.Prelude.{drop}
use Rattle.std.specs.List.{All, Contains, flat_map, range_with_len}
use Rattle.std.proofs.Math.Seq.{drop-cons}
use Rattle.std.proofs.lemmas.List.{length-map, get_or-map, at_drop_all}
use Rattle.std.proofs.lemmas.List.Elements.{All-map}
use Rattle.blacs_grid.specs.declared.Scope.TheVariants as scope
use Rattle.blacs_grid.specs.Places.{member}
use Rattle.blacs_grid.proofs.ScopeLaws.{is_in_scope-member}
use Rattle.run_data.specs.Matrix.{Matrix, zero_matrix}
use Rattle.run_data.proofs.Matrices.{IsShaped-tabulate, rows-tabulate, cols-tabulate}
use Rattle.rank_machine.specs.declared.slot.Slot.{Slot}
use Rattle.rank_machine.specs.declared.slot.SlotKind.TheVariants.{Data}
use Rattle.rank_machine.specs.declared.slot.Tile.{Tile}
use Rattle.rank_machine.specs.declared.slot.Tile.TheVariants.{Words, Index}
use Rattle.rank_machine.specs.declared.layout.Layout.{Layout}
use Rattle.rank_machine.specs.Setting.{strip_of}
use Rattle.rank_machine.specs.CodeLaw.{slot_at}
use Rattle.dist_matrix.specs.Strips.{HasShape, with_strip, with_strips, HasEveryStrip}
use Rattle.dist_matrix.proofs.StripLaws.{HasStripShape-strip_of, HasShape-with_strip, with_strips-every}
use Rattle.script_lines.specs.Layouts.{IsLayout}
use Rattle.line_phases.specs.Printing.{strip_slots}
use Rattle.line_phases.proofs.PrintSlots.{slots-all, slots-contain}
use Rattle.plain_phases.specs.declared.taking.Got.{Got}
use Rattle.script_run.specs.Strips.{strip_got, AreStrips, IsStrip, with_tile, with_got}

-- ---- a list that grows number by number
range_next : (i n : ℕ) → i < n → range_with_len i (n - i) ≡ i ∷ range_with_len (i + 1) (n - (i + 1))
range_next i n lt = let e : n - i ≡ suc (n - (i + 1)) = omega (arith, lt) in ap (λ k. range_with_len i k) e

module _ {X : Type 0} (i n : ℕ) (now target : List X) where
  -- one more element was added, or the elements of one more list, and the others come after them
  pub one-added : (f : ℕ → X) (new : List X) → i < n → new ≡ now ++ f i ∷ [] → now ++ map f (range_with_len i (n - i)) ≡ target → new ++ map f (range_with_len (i + 1) (n - (i + 1))) ≡ target
  one-added f new lt e t =
      ap (λ xs. xs ++ map f (range_with_len (i + 1) (n - (i + 1)))) e
      ∙ append_assoc now (f i ∷ []) (map f (range_with_len (i + 1) (n - (i + 1))))
      ∙ (ap (λ is. now ++ map f is) (sym (range_next i n lt)) ∙ t)

  pub list-added : (f : ℕ → List X) (new : List X) → i < n → new ≡ now ++ f i → now ++ flat_map f (range_with_len i (n - i)) ≡ target → new ++ flat_map f (range_with_len (i + 1) (n - (i + 1))) ≡ target
  list-added f new lt e t =
      ap (λ xs. xs ++ flat_map f (range_with_len (i + 1) (n - (i + 1)))) e
      ∙ append_assoc now (f i) (flat_map f (range_with_len (i + 1) (n - (i + 1))))
      ∙ (ap (λ is. now ++ flat_map f is) (sym (range_next i n lt)) ∙ t)

-- ---- strips that were taken
-- each strip of a matrix that was taken is one by its place and its shape
pub strips-are : (d : Layout) (line : ℕ) (m : Matrix) (got : List Got) → IsLayout d → AreStrips d line m got → All (IsStrip d) got
strips-are d line m got is h =
    subst (All (IsStrip d)) (sym h.are)
    (All-map (IsStrip d) (strip_got d m) (strip_slots line d)
    (slots-all (λ p. IsStrip d (strip_got d m p)) line d
    (λ group i group_in i_in.
    let rank : ℕ = member d.grid scope.All i in
    record {
      names = record { data_rank = is_in_scope-member d.grid scope.All i is.grid tt i_in; group_in = group_in };
      words = HasStripShape-strip_of d m rank group;
    })))

-- a matrix with the words of strips, one after the other
abbrev pub with_each : Layout → Matrix → List Got → Matrix
with_each d out [] = out
with_each d out (g ∷ gs) = with_each d (with_got d out g) gs

-- one more strip is placed
drop_next : (got : List Got) (i : ℕ) (g : Got) → i < length got → get_or got i g ≡ g → drop i got ≡ g ∷ drop (i + 1) got
drop_next got i g lt is = let e : suc i ≡ i + 1 = omega arith in drop-cons got i g lt ∙ (λ j. is j ∷ drop (e j) got)

pub placed-next : (d : Layout) (got : List Got) (i : ℕ) (now new target : Matrix) (g : Got) → i < length got → get_or got i g ≡ g → new ≡ with_got d now g → with_each d now (drop i got) ≡ target → with_each d new (drop (i + 1) got) ≡ target
placed-next d got i now new target g lt is e t = ap (λ m. with_each d m (drop (i + 1) got)) e ∙ (ap (with_each d now) (sym (drop_next got i g lt is)) ∙ t)

-- none is left to be placed
pub none-left : (d : Layout) (now : Matrix) (got : List Got) (i : ℕ) → length got ≤ i → with_each d now (drop i got) ≡ now
none-left d now got i le = at_drop_all (with_each d now) got i le

-- a matrix keeps its shape
pub got-shape : (d : Layout) (out : Matrix) (g : Got) → HasShape d out → HasShape d (with_got d out g)
got-shape d out g shape = by_tile g.tile
  where
    by_tile : (t : Tile) → HasShape d (with_tile d out g.rank g.slot.group t)
    by_tile (Words m) = HasShape-with_strip d out g.rank g.slot.group m shape
    by_tile (Index ns) = shape

-- the image of an element is among the images
Contains-map : {X Y : Type 0} (f : X → Y) (xs : List X) (x : X) → Contains xs x → Contains (map f xs) (f x)
Contains-map f xs x h = (h.0, omega (arith, h.1, length-map xs f), get_or-map f xs h.0 x (f x) h.1 ∙ ap f h.2)

-- where a strip is, by its rank and its group
abbrev place_of : ℕ × Slot → ℕ × ℕ
place_of p = (p.0, p.1.group)

each_strip : (d : Layout) (m out : Matrix) (ps : List (ℕ × Slot)) → with_each d out (map (strip_got d m) ps) ≡ with_strips d m out (map place_of ps)
each_strip d m out [] = refl
each_strip d m out (p ∷ ps) = each_strip d m (with_strip d out p.0 p.1.group (strip_of d m p.0 p.1.group)) ps

every_strip : (line : ℕ) (d : Layout) → IsLayout d → HasEveryStrip d (map place_of (strip_slots line d))
every_strip line d is rank group names = Contains-map place_of (strip_slots line d) (rank, slot_at Data line group) (slots-contain line d group rank is.grid names.data_rank names.group_in)

-- the matrix of zeros has the shape
pub zeros-shape : (d : Layout) → HasShape d (zero_matrix d.desc.m d.desc.n)
zeros-shape d = record { rows = rows-tabulate d.desc.m d.desc.n (λ i j. 0); columns = cols-tabulate d.desc.m d.desc.n (λ i j. 0) }

-- placed in it, the strips of a matrix make that matrix
pub whole-is : (d : Layout) (line : ℕ) (m : Matrix) (got : List Got) → IsLayout d → AreStrips d line m got → with_each d (zero_matrix d.desc.m d.desc.n) got ≡ m
whole-is d line m got is h =
    let zeros : Matrix = zero_matrix d.desc.m d.desc.n in
    ap (with_each d zeros) h.are
    ∙ (each_strip d m zeros (strip_slots line d)
    ∙ with_strips-every d m zeros (map place_of (strip_slots line d)) is h.shaped h.shape (IsShaped-tabulate d.desc.m d.desc.n (λ i j. 0)) (zeros-shape d) (every_strip line d is))
