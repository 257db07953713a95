-- The order of slots.
use Rattle.std.proofs.Common.{◌≡◌, ◌==◌, ◌&&◌, ◌||◌, ℕ, Bool, true, false, nat_lt, arith}
use Rattle.std.proofs.lemmas.Bool.Decides.{nat_tests}
use Rattle.rank_machine.specs.declared.slot.Slot.{Slot}
use Rattle.rank_machine.specs.State.{kind_number, same_slot}
use Rattle.rank_slots.specs.Cells.{is_before}

-- three numbers and three others: compared one after another, and the same
abbrev is_less : ℕ → ℕ → ℕ → ℕ → ℕ → ℕ → Bool
is_less k l i j g h = nat_lt k l || ((k == l) && (nat_lt i j || ((i == j) && nat_lt g h)))

abbrev is_same : ℕ → ℕ → ℕ → ℕ → ℕ → ℕ → Bool
is_same k l i j g h = ((k == l) && (i == j)) && (g == h)

less_then : (k l m i j n g h o : ℕ) → is_less k l i j g h ≡ true → is_less l m j n h o ≡ true → is_less k m i n g o ≡ true
less_then k l m i j n g h o p q = grind (arith, nat_tests)

less_other : (k l i j g h : ℕ) → is_less k l i j g h ≡ true → is_same k l i j g h ≡ false
less_other k l i j g h p = grind (arith, nat_tests)

less_first : (k l i j g h : ℕ) → is_less k l i j g h ≡ true → is_less l k j i h g ≡ false
less_first k l i j g h p = grind (arith, nat_tests)

one_less : (k l i j g h : ℕ) → is_less k l i j g h ≡ false → is_same l k j i h g ≡ false → is_less l k j i h g ≡ true
one_less k l i j g h p q = grind (arith, nat_tests)

same_turned : (k l i j g h : ℕ) → is_same k l i j g h ≡ false → is_same l k j i h g ≡ false
same_turned k l i j g h p = grind (arith, nat_tests)

pub before-trans : (a b c : Slot) → is_before a b ≡ true → is_before b c ≡ true → is_before a c ≡ true
before-trans a b c p q = less_then (kind_number a.kind) (kind_number b.kind) (kind_number c.kind) a.id b.id c.id a.group b.group c.group p q

-- a slot that comes before another is not the same
pub before_other : (a b : Slot) → is_before a b ≡ true → same_slot a b ≡ false
before_other a b p = less_other (kind_number a.kind) (kind_number b.kind) a.id b.id a.group b.group p

-- nor does the other come before it
pub before_first : (a b : Slot) → is_before a b ≡ true → is_before b a ≡ false
before_first a b p = less_first (kind_number a.kind) (kind_number b.kind) a.id b.id a.group b.group p

-- of two slots that are not the same one comes first
pub before_else : (a b : Slot) → is_before a b ≡ false → same_slot b a ≡ false → is_before b a ≡ true
before_else a b p q = one_less (kind_number a.kind) (kind_number b.kind) a.id b.id a.group b.group p q

pub other_turned : (a b : Slot) → same_slot a b ≡ false → same_slot b a ≡ false
other_turned a b p = same_turned (kind_number a.kind) (kind_number b.kind) a.id b.id a.group b.group p
