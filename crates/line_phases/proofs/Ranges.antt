-- Lists of lists, and lists over a range.
use Rattle.std.proofs.Common.{◌≡◌, ℕ, zero, suc, ◌+◌, ◌<◌, List, [], ◌∷◌, length, get_or, map, sym, ◌∙◌, subst, arith}
use Rattle.std.specs.List.{All, Contains, flat_map, range_with_len}
use Rattle.std.proofs.lemmas.List.Elements.{All-nil, All-head, All-tail, All-append, All-from_get_or, Contains-append_left, Contains-append_right}
use Rattle.std.proofs.lemmas.List.FromFn.{length-range_with_len, get_or-range_with_len, length-map-range_with_len, get_or-map-range_with_len}

pub All-flat_map : {X Y : Type 0} (P : Y → Type 0) (f : X → List Y) (xs : List X) → All (λ x. All P (f x)) xs → All P (flat_map f xs)
All-flat_map P f [] h = All-nil P
All-flat_map P f (x ∷ xs) h = All-append P (f x) (flat_map f xs) (All-head (λ x. All P (f x)) x xs h) (All-flat_map P f xs (All-tail (λ x. All P (f x)) x xs h))

inside_at : {X Y : Type 0} (f : X → List Y) (xs : List X) (k : ℕ) (x : X) (y : Y) → k < length xs → get_or xs k x ≡ x → Contains (f x) y → Contains (flat_map f xs) y
inside_at f [] k x y l e c = absurd (omega arith)
inside_at f (z ∷ zs) zero x y l e c = Contains-append_left (f z) (flat_map f zs) y (subst (λ w. Contains (f w) y) (sym e) c)
inside_at f (z ∷ zs) (suc k) x y l e c = Contains-append_right (f z) (flat_map f zs) y (inside_at f zs k x y (omega arith) e c)

pub Contains-flat_map : {X Y : Type 0} (f : X → List Y) (xs : List X) (x : X) (y : Y) → Contains xs x → Contains (f x) y → Contains (flat_map f xs) y
Contains-flat_map f xs x y h c = inside_at f xs h.0 x y h.1 h.2 c

pub All-range : (P : ℕ → Type 0) (n : ℕ) → ((i : ℕ) → i < n → P i) → All P (range_with_len 0 n)
All-range P n h =
    All-from_get_or P (range_with_len 0 n) 0
    (λ i l. let b : i < n = omega (arith, length-range_with_len 0 n) in
    let z : 0 + i ≡ i = omega arith in
    subst P (sym (get_or-range_with_len 0 n i 0 b ∙ z)) (h i b))

pub Contains-range : (n i : ℕ) → i < n → Contains (range_with_len 0 n) i
Contains-range n i l =
    let z : 0 + i ≡ i = omega arith in
    (i, omega (arith, length-range_with_len 0 n), get_or-range_with_len 0 n i i l ∙ z)

pub Contains-map_range : {X : Type 0} (f : ℕ → X) (n i : ℕ) → i < n → Contains (map f (range_with_len 0 n)) (f i)
Contains-map_range f n i l =
    let within : i < length (map f (range_with_len 0 n)) = omega (arith, length-map-range_with_len f 0 n) in
    (i, within, get_or-map-range_with_len f 0 n i i (f i) l (omega arith))
