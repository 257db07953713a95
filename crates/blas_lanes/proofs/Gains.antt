-- Sixteen sums that gain a word times a factor.
use Rattle.std.proofs.Common.{◌-◌, ◌⊎◌, inl, inr, ◌≡◌, ℕ, zero, suc, ◌+◌, ◌*◌, ◌%◌, ◌^◌, ◌<◌, ◌≤◌, length, slice_index, List, [], ◌∷◌, refl, sym, ◌∙◌, ap, arith, Fits, w32, w64, map}
use Rattle.std.proofs.Math.Nat.{mul-le-mul, mod-lt}
use Rattle.field_core.specs.Sums.{sum_to}
use Rattle.std.proofs.lemmas.Nat.{mul-mod_second}
use Rattle.std.proofs.lemmas.List.{get_or-set_other, length-set}
use Rattle.std.proofs.lemmas.Grind.{get_or-set_at}
use Rattle.std.proofs.Common.{set}
use Rattle.field_core.proofs.Modular.{same_sum}
use Rattle.field_core.proofs.Sums.{sum_to-none, sum_to-suc, sum_to-more, sum_to-same, sum_to-first}
use Rattle.std.specs.Simd.Lanes.{zip2, chunk, sum_l, Each1, Each2}
use Rattle.std.proofs.lemmas.Simd.{Each2-splat, Each1-from_get_or, Each2-of, get_or-chunk, length-chunk, get_or-zip2, get_or-replicate, length-zip2, length-replicate}
use Rattle.std.specs.Prelude.{replicate}

pub widened : (xs : List ℕ) → map (λ x. x) xs ≡ xs
widened [] = refl
widened (x ∷ xs) = ap (λ ys. x ∷ ys) (widened xs)

pub product_bound : (a b : ℕ) → a ≤ 65536 → b ≤ 65536 → a * b ≤ 4294967296
product_bound a b le_a le_b = mul-le-mul le_a le_b

pub products_fit : (words : List ℕ) (factor : ℕ) → length words ≡ 16 → ((i : ℕ) → i < 16 → slice_index words i ≤ 65536) → factor ≤ 65536
    → Each2 (λ a b. Fits w64 (a * b)) words (replicate 16 factor)
products_fit words factor long below le =
    Each2-splat (λ a b. Fits w64 (a * b)) words 16 factor
    (Each1-from_get_or (λ a. Fits w64 (a * factor)) words 0 (λ i lt. record { fits = omega (arith, product_bound (slice_index words i) factor (below i (omega arith)) le) }))

-- lane i of the products
pub product_at : (words : List ℕ) (factor i : ℕ) → length words ≡ 16 → i < 16 → slice_index (zip2 (λ a b. a * b) words (replicate 16 factor)) i ≡ slice_index words i * factor
product_at words factor i long lt =
    get_or-zip2 (λ a b. a * b) words (replicate 16 factor) i 0 0 0 (omega arith) (omega (arith, length-replicate 16 factor))
    ∙ ap (λ b. slice_index words i * b) (get_or-replicate 16 i factor 0 lt)

pub products_long : (words : List ℕ) (factor : ℕ) → length words ≡ 16 → length (zip2 (λ a b. a * b) words (replicate 16 factor)) ≡ 16
products_long words factor long = length-zip2 (λ a b. a * b) words (replicate 16 factor) (long ∙ sym (length-replicate 16 factor)) ∙ long

pub sums_fit : (sums words : List ℕ) (factor : ℕ) → length sums ≡ 16 → length words ≡ 16 → ((i : ℕ) → i < 16 → slice_index sums i + 2 ^ 32 < 2 ^ 64)
    → ((i : ℕ) → i < 16 → slice_index words i ≤ 65536) → factor ≤ 65536
    → Each2 (λ a b. Fits w64 (a + b)) sums (zip2 (λ a b. a * b) words (replicate 16 factor))
sums_fit sums words factor long_s long_w low below le =
    let products = zip2 (λ a b. a * b) words (replicate 16 factor) in
    Each2-of (λ a. a + 2 ^ 32 < 2 ^ 64) (λ b. b ≤ 4294967296) (λ a b. Fits w64 (a + b)) (λ a b lt le2. record { fits = omega arith }) sums products
    (Each1-from_get_or (λ a. a + 2 ^ 32 < 2 ^ 64) sums 0 (λ i lt. low i (omega arith)))
    (Each1-from_get_or (λ b. b ≤ 4294967296) products 0
    (λ i lt. (let small : i < 16 = omega (arith, products_long words factor long_w) in
    omega (arith, product_at words factor i long_w small, product_bound (slice_index words i) factor (below i small) le))))

pub gained : (sums words : List ℕ) (factor : ℕ) → length sums ≡ 16 → length words ≡ 16
    → (length (zip2 (λ a b. a + b) sums (zip2 (λ a b. a * b) words (replicate 16 factor))) ≡ 16)
    × ((i : ℕ) → i < 16 → slice_index (zip2 (λ a b. a + b) sums (zip2 (λ a b. a * b) words (replicate 16 factor))) i ≡ slice_index sums i + slice_index words i * factor)
gained sums words factor long_s long_w =
    let products = zip2 (λ a b. a * b) words (replicate 16 factor) in
    let long_p = products_long words factor long_w in (
      length-zip2 (λ a b. a + b) sums products (long_s ∙ sym long_p) ∙ long_s,
      λ i lt. get_or-zip2 (λ a b. a + b) sums products i 0 0 0 (omega arith) (omega (arith, long_p)) ∙ ap (λ b. slice_index sums i + b) (product_at words factor i long_w lt),
    )

-- a sum of n terms
pub sum_to_bound : (n : ℕ) (f : ℕ → ℕ) → ((k : ℕ) → f k ≤ 4294967296) → sum_to n f ≤ n * 4294967296
sum_to_bound zero f le = omega (arith, sum_to-none f)
sum_to_bound (suc n) f le = omega (arith, sum_to-suc n f, sum_to_bound n f le, le n)

-- the sums stay below what u64 holds
pub sums_small : (s k n : ℕ) (f g : ℕ → ℕ) → s ≡ sum_to k (λ k. f k * g k) → k < n → n < 2 ^ 32 → ((k : ℕ) → f k ≤ 65536) → ((k : ℕ) → g k ≤ 65536) → s + 2 ^ 32 < 2 ^ 64
sums_small s k n f g e few small le_f le_g = omega (arith, e, sum_to_bound k (λ k. f k * g k) (λ j. product_bound (f j) (g j) (le_f j) (le_g j)))

pub one_more : (s k w u new : ℕ) (f g : ℕ → ℕ) → s ≡ sum_to k (λ k. f k * g k) → w ≡ f k → u ≡ g k → new ≡ s + w * u → new ≡ sum_to (k + 1) (λ k. f k * g k)
one_more s k w u new f g e e_w e_u e_new = e_new ∙ ap (λ n. s + n * u) e_w ∙ ap (λ n. s + f k * n) e_u ∙ omega (arith, e, sum_to-more k (λ k. f k * g k))

-- a word that gains a times a remainder
pub gains_rest : (m x a s : ℕ) → (x + a * (s % m)) % m ≡ (x + a * s) % m
gains_rest m x a s = same_sum m x x (a * (s % m)) (a * s) refl (mul-mod_second a s m)

-- remainders
pub remainder_at : (sums : List ℕ) (m i : ℕ) → length sums ≡ 16 → i < 16 → slice_index (zip2 (λ a b. a % b) sums (replicate 16 m)) i ≡ slice_index sums i % m
remainder_at sums m i long lt =
    get_or-zip2 (λ a b. a % b) sums (replicate 16 m) i 0 0 0 (omega arith) (omega (arith, length-replicate 16 m))
    ∙ ap (λ b. slice_index sums i % b) (get_or-replicate 16 i m 0 lt)

pub remainders_long : (sums : List ℕ) (m : ℕ) → length sums ≡ 16 → length (zip2 (λ a b. a % b) sums (replicate 16 m)) ≡ 16
remainders_long sums m long = length-zip2 (λ a b. a % b) sums (replicate 16 m) (long ∙ sym (length-replicate 16 m)) ∙ long

pub remainders_fit : (sums : List ℕ) (m : ℕ) → length sums ≡ 16 → 0 < m → m ≤ 65537 → Each1 (Fits w32) (zip2 (λ a b. a % b) sums (replicate 16 m))
remainders_fit sums m long positive le =
    Each1-from_get_or (Fits w32) (zip2 (λ a b. a % b) sums (replicate 16 m)) 0
    (λ i lt. (let small : i < 16 = omega (arith, remainders_long sums m long) in record { fits = omega (arith, remainder_at sums m i long small, mod-lt (slice_index sums i) positive) }))

lt_or_le : (a b : ℕ) → (a < b) ⊎ (b ≤ a)
lt_or_le a b = grind arith

-- sixteen words more have their values
pub block_stored : (old mid new : List ℕ) (at : ℕ) (value : ℕ → ℕ) → ((i : ℕ) → i < at → slice_index mid i ≡ value i) → ((i : ℕ) → at ≤ i → slice_index mid i ≡ slice_index old i)
    → ((i : ℕ) → i < 16 → slice_index new (at + i) ≡ value (at + i)) → ((k : ℕ) → k < at → slice_index new k ≡ slice_index mid k)
    → ((k : ℕ) → at + 16 ≤ k → slice_index new k ≡ slice_index mid k) → (n : ℕ) → n ≡ at + 16
    → ((i : ℕ) → i < n → slice_index new i ≡ value i) × ((i : ℕ) → n ≤ i → slice_index new i ≡ slice_index old i)
block_stored old mid new at value done left here before after n e_n = (
  λ i lt. elim (lt_or_le i at) [
    | inl h ↦ before i h ∙ done i h
    | inr h ↦
        let e : at + (i - at) ≡ i = omega arith in
        ap (λ k. slice_index new k) (sym e) ∙ here (i - at) (omega arith) ∙ ap value e
  ],
  λ i le. after i (omega arith) ∙ left i (omega arith),
)

-- the products of place at + i
pub reindexed : (from at stride n i : ℕ) (w u : ℕ → ℕ) → sum_to n (λ k. w (from + at + k * stride + i) * u k) ≡ sum_to n (λ k. w (from + k * stride + (at + i)) * u k)
reindexed from at stride n i w u =
    sum_to-same n (λ k. w (from + at + k * stride + i) * u k) (λ k. w (from + k * stride + (at + i)) * u k)
    (λ k lt. ap (λ a. w a * u k) (let e : from + at + k * stride + i ≡ from + k * stride + (at + i) = omega arith in e))

-- the word that is stored
pub stored_word : (new g w x r s a' a m : ℕ) → new ≡ g % m → g ≡ w + r * a' → w ≡ x → r ≡ s % m → a' ≡ a → new ≡ (x + a * s) % m
stored_word new g w x r s a' a m e e_g e_w e_r e_a =
    e ∙ ap (λ n. n % m) (e_g ∙ ap (λ n. n + r * a') e_w ∙ ap (λ n. x + n * a') e_r ∙ ap (λ n. x + s % m * n) e_a ∙ (let e_c : x + s % m * a ≡ x + a * (s % m) = omega arith in e_c)) ∙ gains_rest m x a s

-- one word more has its value, in a list that is written from a place on
pub place_stored : (old mid : List ℕ) (start place v : ℕ) (value : ℕ → ℕ) → length mid ≡ length old → ((i : ℕ) → i < start → slice_index mid i ≡ slice_index old i) → ((i : ℕ) → start ≤ i → i < place → slice_index mid i ≡ value i)
    → ((i : ℕ) → place ≤ i → slice_index mid i ≡ slice_index old i) → place < length mid → start ≤ place → v ≡ value place
    → (length (set mid place v) ≡ length old) × ((i : ℕ) → i < start → slice_index (set mid place v) i ≡ slice_index old i) × ((i : ℕ) → start ≤ i → i < place + 1 → slice_index (set mid place v) i ≡ value i)
    × ((i : ℕ) → place + 1 ≤ i → slice_index (set mid place v) i ≡ slice_index old i)
place_stored old mid start place v value e_len before done left lt le e_v = (
  length-set mid place v ∙ e_len,
  λ i small. get_or-set_other mid place i v 0 (omega arith) ∙ before i small,
  λ i from small. elim (lt_or_le i place) [
    | inl h ↦ get_or-set_other mid place i v 0 (omega arith) ∙ done i from h
    | inr h ↦
        let e : i ≡ place = omega arith in
        get_or-set_at mid place i v 0 e lt ∙ e_v ∙ sym (ap value e)
  ],
  λ i far. get_or-set_other mid place i v 0 (omega arith) ∙ left i (omega arith),
)

-- the products of a row, by its place
pub row_reindexed : (from place stride n : ℕ) (w u : ℕ → ℕ) → sum_to n (λ k. w (from + place + k * stride) * u k) ≡ sum_to n (λ k. w (from + k * stride + place) * u k)
row_reindexed from place stride n w u =
    sum_to-same n (λ k. w (from + place + k * stride) * u k) (λ k. w (from + k * stride + place) * u k)
    (λ k lt. ap (λ a. w a * u k) (let e : from + place + k * stride ≡ from + k * stride + place = omega arith in e))

pub stored_scalar : (y x s a a' r m m2 m4 : ℕ) (new : ℕ) → y ≡ x → a' ≡ a → m2 ≡ m → m4 ≡ m → new ≡ (y + a' * (s % m2)) % m4 → new ≡ (x + a * s) % m
stored_scalar y x s a a' r m m2 m4 new e_y e_a e_2 e_4 e = e ∙ ap (λ n. (n + a' * (s % m2)) % m4) e_y ∙ ap (λ n. (x + n * (s % m2)) % m4) e_a ∙ ap (λ n. (x + a * (s % n)) % m4) e_2 ∙ ap (λ n. (x + a * (s % m)) % n) e_4 ∙ gains_rest m x a s

-- ---- sixteen words of a slice

pub chunk_word : (xs : List ℕ) (at i : ℕ) → i < 16 → slice_index (chunk at 16 xs) i ≡ slice_index xs (at + i)
chunk_word xs at i lt = get_or-chunk at 16 xs i 0 lt

pub chunk_small_from : (old xs : List ℕ) (at : ℕ) → at + 16 ≤ length xs → ((i : ℕ) → slice_index old i ≤ 65536) → ((i : ℕ) → at ≤ i → slice_index xs i ≡ slice_index old i)
    → (length (chunk at 16 xs) ≡ 16) × ((i : ℕ) → i < 16 → slice_index (chunk at 16 xs) i ≤ 65536)
chunk_small_from old xs at room small same = (length-chunk at 16 xs room, λ i lt. omega (arith, chunk_word xs at i lt, same (at + i) (omega arith), small (at + i)))

pub chunk_small : (xs : List ℕ) (at : ℕ) → at + 16 ≤ length xs → ((i : ℕ) → slice_index xs i ≤ 65536) → (length (chunk at 16 xs) ≡ 16) × ((i : ℕ) → i < 16 → slice_index (chunk at 16 xs) i ≤ 65536)
chunk_small xs at room small = chunk_small_from xs xs at room small (λ i le. refl)

-- a word that gained a product
pub gained_word : (new s w b y x a : ℕ) → new ≡ s + w * b → s ≡ y → w ≡ x → b ≡ a → new ≡ y + x * a
gained_word new s w b y x a e e_s e_w e_b = e ∙ ap (λ n. n + w * b) e_s ∙ ap (λ n. y + n * b) e_w ∙ ap (λ n. y + x * n) e_b

-- ---- the sum of the lanes

sum_of_lanes : (xs : List ℕ) → sum_l xs ≡ sum_to (length xs) (λ i. slice_index xs i)
sum_of_lanes [] = sym (sum_to-none (λ i. 0))
sum_of_lanes (x ∷ xs) = ap (λ s. x + s) (sum_of_lanes xs) ∙ sym (sum_to-first (length xs) (λ i. slice_index (x ∷ xs) i))

pub lanes_products : (xs ys : List ℕ) (at : ℕ) (f g : ℕ → ℕ) → length xs ≡ 16 → length ys ≡ 16 → ((i : ℕ) → i < 16 → slice_index xs i ≡ f (at + i)) → ((i : ℕ) → i < 16 → slice_index ys i ≡ g (at + i))
    → sum_l (zip2 (λ a b. a * b) xs ys) ≡ sum_to 16 (λ i. f (at + i) * g (at + i))
lanes_products xs ys at f g long_x long_y is_f is_g =
    let zs = zip2 (λ a b. a * b) xs ys in
    sum_of_lanes zs ∙ ap (λ n. sum_to n (λ i. slice_index zs i)) (length-zip2 (λ a b. a * b) xs ys (long_x ∙ sym long_y) ∙ long_x)
    ∙ sum_to-same 16 (λ i. slice_index zs i) (λ i. f (at + i) * g (at + i))
    (λ i lt. get_or-zip2 (λ a b. a * b) xs ys i 0 0 0 (omega arith) (omega arith) ∙ ap (λ a. a * slice_index ys i) (is_f i lt) ∙ ap (λ b. f (at + i) * b) (is_g i lt))

-- products of the words of two vectors fit
pub lane_products_fit : (xs ys : List ℕ) (at : ℕ) (f g : ℕ → ℕ) → length xs ≡ 16 → length ys ≡ 16 → ((i : ℕ) → i < 16 → slice_index xs i ≡ f (at + i)) → ((i : ℕ) → i < 16 → slice_index ys i ≡ g (at + i))
    → ((k : ℕ) → f k ≤ 65536) → ((k : ℕ) → g k ≤ 65536) → Each2 (λ a b. Fits w64 (a * b)) xs ys
lane_products_fit xs ys at f g long_x long_y is_f is_g le_f le_g =
    Each2-of (λ a. a ≤ 65536) (λ b. b ≤ 65536) (λ a b. Fits w64 (a * b)) (λ a b le_a le_b. record { fits = omega (arith, product_bound a b le_a le_b) }) xs ys
    (Each1-from_get_or (λ a. a ≤ 65536) xs 0 (λ i lt. (let small : i < 16 = omega arith in omega (arith, is_f i small, le_f (at + i)))))
    (Each1-from_get_or (λ b. b ≤ 65536) ys 0 (λ i lt. (let small : i < 16 = omega arith in omega (arith, is_g i small, le_g (at + i)))))

-- a sum of fewer than 2 ^ 31 products
pub products_sum_small : (n : ℕ) (f g : ℕ → ℕ) → n < 2 ^ 31 → ((k : ℕ) → f k ≤ 65536) → ((k : ℕ) → g k ≤ 65536) → sum_to n (λ k. f k * g k) < 2 ^ 63
products_sum_small n f g few le_f le_g = omega (arith, sum_to_bound n (λ k. f k * g k) (λ j. product_bound (f j) (g j) (le_f j) (le_g j)))
