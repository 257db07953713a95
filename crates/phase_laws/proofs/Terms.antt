-- One term of the code law: what stands in Low and in Open of one column, by its block and the mark.
use Rattle.std.proofs.Common.{◌≡◌, ℕ, ◌+◌, ◌*◌, ◌<◌, ◌≤◌, ◌⊎◌, ◌==◌, ◌&&◌, Bool, true, false, if◌then◌else◌, nat_lt, refl, sym, ◌∙◌, ap, arith, inl, inr}
use Rattle.std.proofs.lemmas.Bool.{cases_lt, cases_eq, lt-ltb, le-ltb, eq-eqb, ne_eqb}
use Rattle.std.proofs.lemmas.Nat.{mul-le}
use Rattle.elimination.specs.CodeLaw.{Stage, Ahead, Open, Closed, lower, low_part, open_part, stage_at, IsOwn}
use Rattle.elimination.proofs.Stages.{stage_at-closed, stage_at-open, stage_at-ahead}

no_weight : (w : ℕ) → 0 ≡ w * 0
no_weight w = omega arith

-- a part that is not closed has nothing in Low, and one that is not open nothing in Open
pub low-after : (first width k d : ℕ) (x : ℕ → ℕ) (i : ℕ) → first ≤ k → low_part (stage_at first width k) d x i ≡ 0
unfolding low_part
low-after first width k d x i h =
    elim (cases_lt k (first + width)) [
      | inl among ↦ rw (stage_at-open first width k h among) refl
      | inr past ↦ rw (stage_at-ahead first width k past) refl
    ]

pub open-outside : (first width k d : ℕ) (x : ℕ → ℕ) (i : ℕ) → (k < first) ⊎ (first + width ≤ k) → open_part (stage_at first width k) d x i ≡ 0
unfolding open_part
open-outside first width k d x i (inl before) = rw (stage_at-closed first width k before) refl
open-outside first width k d x i (inr past) = rw (stage_at-ahead first width k past) refl

open-inside : (first width k d : ℕ) (x : ℕ → ℕ) (i : ℕ) → first ≤ k → k < first + width → open_part (stage_at first width k) d x i ≡ x i
unfolding open_part
open-inside first width k d x i h among = rw (stage_at-open first width k h among) refl

low-before : (first width k d : ℕ) (x : ℕ → ℕ) (i : ℕ) → k < first → low_part (stage_at first width k) d x i ≡ lower d x i
unfolding low_part
low-before first width k d x i h = rw (stage_at-closed first width k h) refl

times_if : (b : Bool) (w y : ℕ) → (if b then w * y else 0) ≡ w * (if b then y else 0)
times_if true w y = refl
times_if false w y = no_weight w

if_false : (b : Bool) (x : ℕ) → (if false && b then x else 0) ≡ 0
if_false b x = refl

-- columns of a block before block e are before column e * nb
before_block : (b e nb c : ℕ) → c < nb → b < e → b * nb + c < e * nb
before_block b e nb c hc h =
    let more : (b + 1) * nb ≤ e * nb = mul-le (b + 1) nb e nb (omega arith) (omega arith) in
    let split : (b + 1) * nb ≡ b * nb + nb = omega arith in
    omega arith

from_block : (b e nb c : ℕ) → e ≤ b → e * nb ≤ b * nb + c
from_block b e nb c h = (let more : e * nb ≤ b * nb = mul-le e nb b nb h (omega arith) in omega arith)

-- a multiplier of a closed panel, at global row r of a column in block b
pub low-term : (closed nb b j width r w y : ℕ) (x : ℕ → ℕ) → j < nb → x r ≡ y → (if nat_lt b closed && nat_lt (b * nb + j) r then w * y else 0) ≡ w * low_part (stage_at (closed * nb) width (b * nb + j)) (b * nb + j) x r
low-term closed nb b j width r w y x hj e =
    elim (cases_lt b closed) [
      | inl before ↦
          (let t : nat_lt b closed ≡ true = lt-ltb b closed before in
          rw t (times_if (nat_lt (b * nb + j) r) w y ∙ ap (λ z. w * (if nat_lt (b * nb + j) r then z else 0)) (sym e)
          ∙ ap (λ z. w * z) (sym (low-before (closed * nb) width (b * nb + j) (b * nb + j) x r (before_block b closed nb j hj before)))))
      | inr from ↦
          (let t : nat_lt b closed ≡ false = le-ltb b closed from in
          rw t (no_weight w ∙ ap (λ z. w * z) (sym (low-after (closed * nb) width (b * nb + j) (b * nb + j) x r (from_block b closed nb j from)))))
    ]

-- a word of the open panel, on its process column `own`, and on the others
pub open-term : (first width columns own q r w y : ℕ) (col : ℕ → ℕ) (x : ℕ → ℕ) → IsOwn first width columns own col → q < columns → x r ≡ y → (if q == own then w * y else 0) ≡ w * open_part (stage_at first width (col q)) (col q) x r
open-term first width columns own q r w y col x is hq e =
    elim (cases_eq q own) [
      | inl here ↦
          (let t : (q == own) ≡ true = eq-eqb q own here in
          let from : first ≤ col q = omega (arith, is.from, ap col here) in
          let before : col q < first + width = omega (arith, is.before, ap col here) in
          rw t (ap (λ z. w * z) (sym (open-inside first width (col q) (col q) x r from before ∙ e))))
      | inr other ↦
          (let t : (q == own) ≡ false = ne_eqb q own other in
          rw t (no_weight w ∙ ap (λ z. w * z) (sym (open-outside first width (col q) (col q) x r (is.others q hq other)))))
    ]

-- a part of a zero word is zero
pub low_part-zero : (stage : Stage) (d : ℕ) (x : ℕ → ℕ) (i : ℕ) → x i ≡ 0 → low_part stage d x i ≡ 0
unfolding low_part
low_part-zero Ahead d x i e = refl
low_part-zero Open d x i e = refl
low_part-zero Closed d x i e = if_word (nat_lt d i)
  where
    if_word : (b : Bool) → (if b then x i else 0) ≡ 0
    if_word true = e
    if_word false = refl

pub open_part-zero : (stage : Stage) (d : ℕ) (x : ℕ → ℕ) (i : ℕ) → x i ≡ 0 → open_part stage d x i ≡ 0
unfolding open_part
open_part-zero Ahead d x i e = refl
open_part-zero Open d x i e = e
open_part-zero Closed d x i e = refl
