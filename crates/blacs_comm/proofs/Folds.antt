-- The fold over the positions is the fold over the members.
use Rattle.std.proofs.Common.{◌≡◌, ℕ, zero, suc, ◌+◌, ◌-◌, ◌%◌, ◌<◌, ◌≤◌, ◌⊎◌, refl, sym, ◌∙◌, ap, inl, inr, true, Bool, arith}
use Rattle.blacs_comm.specs.declared.topology.Topology.{Topology}
use Rattle.blacs_comm.specs.declared.topology.Topology.TheVariants.{I, D, T}
use Rattle.blacs_comm.specs.Moves.{folded}
use Rattle.blacs_comm.specs.Positions.{place_of}
use Rattle.blacs_comm.proofs.Places.{wrap}

zero_or : (n : ℕ) → (n ≡ 0) ⊎ (0 < n)
zero_or n = grind arith

module _ {Msg : Type 0} (op : Msg → Msg → Msg) (good : Msg → Bool) (stays : (a b : Msg) → good a ≡ true → good b ≡ true → good (op a b) ≡ true) (assoc : (a b c : Msg) → good a ≡ true → good b ≡ true → good c ≡ true → op (op a b) c ≡ op a (op b c)) (comm : (a b : Msg) → good a ≡ true → good b ≡ true → op a b ≡ op b a) where
  same : (v w : ℕ → Msg) (k : ℕ) → ((i : ℕ) → i ≤ k → v i ≡ w i) → folded op v k ≡ folded op w k
  same v w zero h = h 0 (omega arith)
  same v w (suc k) h =
      let one : folded op v k ≡ folded op w k = same v w k (λ i le. h i (omega (arith, le))) in
      let two : v (suc k) ≡ w (suc k) = h (suc k) (omega arith) in
      cc

  all_good : (v : ℕ → Msg) (k : ℕ) → ((i : ℕ) → i ≤ k → good (v i) ≡ true) → good (folded op v k) ≡ true
  all_good v zero h = h 0 (omega arith)
  all_good v (suc k) h = stays (folded op v k) (v (suc k)) (all_good v k (λ i le. h i (omega (arith, le)))) (h (suc k) (omega arith))

  -- a fold in two parts
  split : (v : ℕ → Msg) (x y : ℕ) → ((i : ℕ) → i ≤ suc (x + y) → good (v i) ≡ true) → folded op v (suc (x + y)) ≡ op (folded op v x) (folded op (λ i. v (suc (x + i))) y)
  split v x zero h =
      let e : x + 0 ≡ x = omega arith in
      ap (λ (k : ℕ). op (folded op v k) (v (suc (x + 0)))) e
  split v x (suc y) h =
      let e : x + suc y ≡ suc (x + y) = omega arith in
      let before = split v x y (λ i le. h i (omega (arith, le))) in
      ap (λ (k : ℕ). op (folded op v k) (v (suc (x + suc y)))) e
      ∙ (ap (λ a. op a (v (suc (x + suc y)))) before
      ∙ assoc (folded op v x) (folded op (λ i. v (suc (x + i))) y) (v (suc (x + suc y))) (all_good v x (λ i le. h i (omega (arith, le)))) (all_good (λ i. v (suc (x + i))) y (λ i le. h (suc (x + i)) (omega (arith, le)))) (h (suc (x + suc y)) (omega arith)))

  turned : (v : ℕ → Msg) (k : ℕ) → ((i : ℕ) → i ≤ k → good (v i) ≡ true) → folded op (λ i. v (k - i)) k ≡ folded op v k
  turned v zero h = refl
  turned v (suc k) h =
      let w = λ (i : ℕ). v (suc k - i) in
      let e : 0 + k ≡ k = omega arith in
      let front : folded op w (suc (0 + k)) ≡ op (w 0) (folded op (λ i. w (suc (0 + i))) k) = split w 0 k (λ i le. h (suc k - i) (omega arith)) in
      let rest : folded op (λ i. w (suc (0 + i))) k ≡ folded op v k =
      same (λ i. w (suc (0 + i))) (λ i. v (k - i)) k (λ i le. ap v (omega arith)) ∙ turned v k (λ i le. h i (omega (arith, le))) in
      let first : w 0 ≡ v (suc k) = ap v (omega arith) in
      ap (λ (j : ℕ). folded op w (suc j)) (sym e) ∙ (front ∙ (ap (op (w 0)) rest ∙ (ap (λ a. op a (folded op v k)) first ∙ comm (v (suc k)) (folded op v k) (h (suc k) (omega arith)) (all_good v k (λ i le. h i (omega (arith, le)))))))

  forward_fold : (v : ℕ → Msg) (n root : ℕ) → root < n → ((i : ℕ) → i < n → good (v i) ≡ true) → folded op (λ i. v ((root + i) % n)) (n - 1) ≡ folded op v (n - 1)
  forward_fold v n root lt h =
      elim (zero_or root) [
        | inl z ↦ same (λ i. v ((root + i) % n)) v (n - 1) (λ i le. ap v (elim (wrap (root + i) n (omega (arith, z, le))) [ inl p ↦ omega (arith, p.1, z) | inr p ↦ omega (arith, p.0, z, le) ]))
        | inr z ↦
            let w = λ (i : ℕ). v ((root + i) % n) in
            let x = n - root - 1 in
            let y = root - 1 in
            let len : suc (x + y) ≡ n - 1 = omega (arith, z) in
            let len' : suc (y + x) ≡ n - 1 = omega (arith, z) in
            let gw : (i : ℕ) → i < n → good (w i) ≡ true = λ i li. elim (wrap (root + i) n (omega (arith, li))) [ inl p ↦ h ((root + i) % n) (omega (arith, p.0, p.1)) | inr p ↦ h ((root + i) % n) (omega (arith, p.0, p.1, li)) ] in
            let a : folded op w x ≡ folded op (λ i. v (suc (y + i))) x =
            same w (λ i. v (suc (y + i))) x (λ i le. ap v (elim (wrap (root + i) n (omega (arith, le, z))) [ inl p ↦ omega (arith, p.1, z) | inr p ↦ omega (arith, p.0, le, z) ])) in
            let b : folded op (λ i. w (suc (x + i))) y ≡ folded op v y =
            same (λ i. w (suc (x + i))) v y (λ i le. ap v (elim (wrap (root + suc (x + i)) n (omega (arith, le, z))) [ inl p ↦ omega (arith, p.0, le, z) | inr p ↦ omega (arith, p.1, le, z) ])) in
            let ga : good (folded op (λ i. v (suc (y + i))) x) ≡ true = all_good (λ i. v (suc (y + i))) x (λ i le. h (suc (y + i)) (omega (arith, le, z))) in
            let gb : good (folded op v y) ≡ true = all_good v y (λ i le. h i (omega (arith, le, z))) in
            ap (folded op w) (sym len)
            ∙ (split w x y (λ i le. gw i (omega (arith, le, z)))
            ∙ (ap (λ c. op c (folded op (λ i. w (suc (x + i))) y)) a
            ∙ (ap (op (folded op (λ i. v (suc (y + i))) x)) b
            ∙ (comm (folded op (λ i. v (suc (y + i))) x) (folded op v y) ga gb ∙ (sym (split v y x (λ i le. h i (omega (arith, le, z)))) ∙ ap (folded op v) len')))))
      ]

  backward_fold : (v : ℕ → Msg) (n root : ℕ) → root < n → ((i : ℕ) → i < n → good (v i) ≡ true) → folded op (λ i. v ((root + (n - i)) % n)) (n - 1) ≡ folded op v (n - 1)
  backward_fold v n root lt h =
      let w = λ (i : ℕ). v ((root + (n - i)) % n) in
      let near : (i : ℕ) → i ≤ root → w i ≡ v (root - i) = λ i le. ap v (elim (wrap (root + (n - i)) n (omega (arith, le))) [ inl p ↦ omega (arith, p.0, le) | inr p ↦ omega (arith, p.1, le) ]) in
      let far : (i : ℕ) → root < i → i < n → w i ≡ v (root + n - i) = λ i lo hi. ap v (elim (wrap (root + (n - i)) n (omega (arith, lo, hi))) [ inl p ↦ omega (arith, p.1, lo, hi) | inr p ↦ omega (arith, p.0, lo, hi) ]) in
      elim (zero_or (n - 1 - root)) [
        | inl z ↦
            let e : n - 1 ≡ root = omega (arith, z) in
            ap (folded op w) e ∙ (same w (λ i. v (root - i)) root near ∙ (turned v root (λ i le. h i (omega (arith, le))) ∙ ap (folded op v) (sym e)))
        | inr z ↦
            let y = n - 1 - root - 1 in
            let len : suc (root + y) ≡ n - 1 = omega (arith, z) in
            let gw : (i : ℕ) → i < n → good (w i) ≡ true = λ i li. elim (wrap (root + (n - i)) n (omega (arith, li))) [ inl p ↦ h ((root + (n - i)) % n) (omega (arith, p.0, p.1)) | inr p ↦ h ((root + (n - i)) % n) (omega (arith, p.0, p.1, li)) ] in
            let u = λ (i : ℕ). v (suc (root + i)) in
            let gu : (i : ℕ) → i ≤ y → good (u i) ≡ true = λ i le. h (suc (root + i)) (omega (arith, le, z)) in
            let a : folded op w root ≡ folded op v root = same w (λ i. v (root - i)) root near ∙ turned v root (λ i le. h i (omega (arith, le))) in
            let b : folded op (λ i. w (suc (root + i))) y ≡ folded op u y =
            same (λ i. w (suc (root + i))) (λ i. u (y - i)) y (λ i le. far (suc (root + i)) (omega arith) (omega (arith, le, z)) ∙ ap v (omega (arith, le, z))) ∙ turned u y gu in
            ap (folded op w) (sym len)
            ∙ (split w root y (λ i le. gw i (omega (arith, le, z)))
            ∙ (ap (λ c. op c (folded op (λ i. w (suc (root + i))) y)) a
            ∙ (ap (op (folded op v root)) b ∙ (sym (split v root y (λ i le. h i (omega (arith, le, z)))) ∙ ap (folded op v) len))))
      ]

  pub fold_places : (t : Topology) (v : ℕ → Msg) (n root : ℕ) → root < n → ((i : ℕ) → i < n → good (v i) ≡ true) → folded op (λ i. v (place_of t n root i)) (n - 1) ≡ folded op v (n - 1)
  fold_places I v n root lt h = forward_fold v n root lt h
  fold_places D v n root lt h = backward_fold v n root lt h
  fold_places T v n root lt h = forward_fold v n root lt h
