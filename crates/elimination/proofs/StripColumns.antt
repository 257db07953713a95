-- From strips to columns: searches, weighted sums, and which columns a group has.
use Rattle.std.proofs.Common.{◌≡◌, ◌≢◌, ℕ, ◌+◌, ◌-◌, ◌*◌, ◌%◌, ◌<◌, ◌≤◌, true, false, nat_lt, refl, sym, ◌∙◌, ap, arith, inl, inr, List}
use Rattle.std.proofs.Math.Nat.{mod-lt}
use Rattle.std.proofs.lemmas.Bool.{cases_lt, lt-ltb, le-ltb}
use Rattle.std.proofs.lemmas.Nat.{mul-le}
use Rattle.field_core.specs.Sums.{sum_to}
use Rattle.field_core.proofs.Sums.{sum_to-same, sum_to-zero}
use Rattle.run_data.specs.Matrix.{Matrix, entry}
use Rattle.run_data.specs.Parts.{part_entry}
use Rattle.array_desc.specs.Maps.{block_in, group_of}
use Rattle.array_desc.proofs.CountLaws.{numroc-le}
use Rattle.array_desc.proofs.GroupLaws.{owner-block_in, group_of-block_in, block_in-group_of}
use Rattle.elimination.specs.CodeLaw.{IsWeightedSum, IsOwn, IsOutside, Ahead, Open, Closed, stage_at}
use Rattle.elimination.proofs.Stages.{stage_at-closed, stage_at-open, stage_at-ahead}
use Rattle.elimination.specs.Strips.{RowMap, IsRowMap, rows_below, row_at, row_owner, row_place, Hold, held, group_column, IsBlock, AreSolved, HaveGained, solved_rows, span, block_rows}
use Rattle.elimination.proofs.StripMaps.{row_owner-lt, row_at-owner, row_owner-at, row_place-at, row_place-lt, row_at-lt}
use Rattle.run_data.specs.declared.matrix.Part.{Part}
use Rattle.serial_model.specs.Elimination.{Eliminated, eliminate_columns, exchanged}
use Rattle.elimination.specs.Panels.{IsReady, IsPanel, carried}
use Rattle.elimination.proofs.StripLaws.{hold-same, block_words, block_row-held}
use Rattle.elimination.proofs.PanelLaws.{column-carried_by, column-exchanged_by}

-- a word that strips hold, at its owner
pub held-at : (d : RowMap) (width : ℕ) (f : ℕ → ℕ → ℕ) (strips : ℕ → Matrix) (i c : ℕ) → IsRowMap d → Hold d width f strips → i < d.m → c < width → entry (strips (row_owner d i)) (row_place d i) c ≡ f i c
held-at d width f strips i c map hold hi hc =
    hold.words (row_owner d i) (row_place d i) c (row_owner-lt d i map) (row_place-lt d i map hi) hc ∙ ap (λ r. f r c) (row_at-owner d i map)

-- what each process row sees of a column between two global rows, all of them see
pub zeros-held : (d : RowMap) (width : ℕ) (f : ℕ → ℕ → ℕ) (strips : ℕ → Matrix) (lo hi c : ℕ) → IsRowMap d → Hold d width f strips → hi ≤ d.m → c < width → ((row l : ℕ) → row < d.procs → l < rows_below d d.m row → lo ≤ row_at d row l → row_at d row l < hi → entry (strips row) l c ≡ 0) → (i : ℕ) → lo ≤ i → i < hi → f i c ≡ 0
zeros-held d width f strips lo hi c map hold hm hc zeros i h1 h2 =
    let at : row_at d (row_owner d i) (row_place d i) ≡ i = row_at-owner d i map in
    sym (held-at d width f strips i c map hold (omega arith) hc)
    ∙ zeros (row_owner d i) (row_place d i) (row_owner-lt d i map) (row_place-lt d i map (omega arith)) (omega arith) (omega arith)

-- weighted sums in the strips are weighted sums of the columns
pub weighted-held : (d : RowMap) (p n : ℕ) (w : ℕ → ℕ) (strips : ℕ → ℕ → Matrix) (code : ℕ → Matrix) (c : ℕ) → IsRowMap d → ((row l : ℕ) → row < d.procs → l < rows_below d d.m row → entry (code row) l c % p ≡ sum_to n (λ q. w q * entry (strips q row) l c) % p) → IsWeightedSum p n w (λ q i. held d (strips q) i c) (λ i. held d code i c)
weighted-held d p n w strips code c map sums =
    record {
      at = λ i. elim (cases_lt i d.m) [
        | inl inside ↦
            (let t : nat_lt i d.m ≡ true = lt-ltb i d.m inside in
            simp t (sums (row_owner d i) (row_place d i) (row_owner-lt d i map) (row_place-lt d i map inside)))
        | inr past ↦
            (let t : nat_lt i d.m ≡ false = le-ltb i d.m past in
            simp t (ap (λ s. s % p) (sym (sum_to-same n (λ q. w q * 0) (λ q. 0) (λ q _. nothing (w q)) ∙ sum_to-zero n))))
      ];
    }
  where
    nothing : (x : ℕ) → x * 0 ≡ 0
    nothing x = omega arith

-- and the other way round
pub weighted-strips : (d : RowMap) (p n : ℕ) (w : ℕ → ℕ) (strips : ℕ → ℕ → Matrix) (code : ℕ → Matrix) (c : ℕ) → IsRowMap d → IsWeightedSum p n w (λ q i. held d (strips q) i c) (λ i. held d code i c) → (row l : ℕ) → row < d.procs → l < rows_below d d.m row → entry (code row) l c % p ≡ sum_to n (λ q. w q * entry (strips q row) l c) % p
weighted-strips d p n w strips code c map sums row l h hl =
    let g = row_at d row l in
    let t : nat_lt g d.m ≡ true = lt-ltb g d.m (row_at-lt d row l map h hl) in
    let place : (x : ℕ → Matrix) → held d x g c ≡ entry (x row) l c =
    λ x. (rw t (ap (λ r. entry (x r) (row_place d g) c) (row_owner-at d row l map h) ∙ ap (λ k. entry (x row) k c) (row_place-at d row l map))) in
    ap (λ s. s % p) (sym (place code)) ∙ sums.at g
    ∙ ap (λ s. s % p) (sum_to-same n (λ q. w q * held d (strips q) g c) (λ q. w q * entry (strips q row) l c) (λ q _. ap (λ y. w q * y) (place (strips q))))

-- a column of a block before block e is before column e * nb, and one of a later block is not
before_block : (b e nb c : ℕ) → c < nb → b < e → b * nb + c < e * nb
before_block b e nb c hc h =
    let more : (b + 1) * nb ≤ e * nb = mul-le (b + 1) nb e nb (omega arith) (omega arith) in
    let split : (b + 1) * nb ≡ b * nb + nb = omega arith in
    omega arith

from_block : (b e nb c : ℕ) → e ≤ b → e * nb ≤ b * nb + c
from_block b e nb c h =
    let more : e * nb ≤ b * nb = mul-le e nb b nb h (omega arith) in
    omega arith

-- the columns of a group are outside the block columns of other groups
pub group-outside : (group nb src procs c first last : ℕ) → c < nb → src < procs → ((block : ℕ) → first ≤ block → block < last → group_of block procs ≢ group) → IsOutside (first * nb) (last * nb) procs (group_column group nb src procs c)
group-outside group nb src procs c first last hc hs others =
    record {
      outside = λ q hq.
          (let b = block_in group q src procs in
          elim (cases_lt b first) [
            | inl before ↦ inl (before_block b first nb c hc before)
            | inr from ↦
                (elim (cases_lt b last) [
                  | inl among ↦ absurd (others b from among (group_of-block_in group q src procs (omega arith)))
                  | inr past ↦ inr (from_block b last nb c past)
                ])
          ]);
    }

-- the panel's own group has one column in it, on the panel's process column
pub group-own : (block nb src procs c : ℕ) → c < nb → src < procs → IsOwn (block * nb) nb procs ((src + block) % procs) (group_column (group_of block procs) nb src procs c)
group-own block nb src procs c hc hs =
    let at = (src + block) % procs in
    let mine : block_in (group_of block procs) at src procs ≡ block = block_in-group_of block src procs hs in
    let column : group_column (group_of block procs) nb src procs c at ≡ block * nb + c = ap (λ b. b * nb + c) mine in
    record {
      is_column = mod-lt (src + block) (omega arith);
      from = rw column (omega arith);
      before = rw column (omega arith);
      others = λ q hq other.
          (let b = block_in (group_of block procs) q src procs in
          let own : (src + b) % procs ≡ q = owner-block_in (group_of block procs) q src procs hs hq in
          let apart : b ≢ block = (λ e. other (sym own ∙ ap (λ k. (src + k) % procs) e)) in
          elim (cases_lt b block) [
            | inl before ↦ inl (before_block b block nb c hc before)
            | inr from ↦ inr (let past : (block + 1) * nb ≤ b * nb + c = from_block b (block + 1) nb c (omega arith) in let split : (block + 1) * nb ≡ block * nb + nb = omega arith in omega arith)
          ]);
    }

-- the stage of a column follows from its block
pub stages-by_block : (k nb b c : ℕ) → c < nb → (b < k → (opened : ℕ) → stage_at (k * nb) opened (b * nb + c) ≡ Closed) × (b ≡ k → stage_at (k * nb) nb (b * nb + c) ≡ Open) × (k ≤ b → stage_at (k * nb) 0 (b * nb + c) ≡ Ahead) × (k < b → stage_at (k * nb) nb (b * nb + c) ≡ Ahead)
stages-by_block k nb b c hc = (
  λ h opened. stage_at-closed (k * nb) opened (b * nb + c) (before_block b k nb c hc h),
  λ e. (let same : b * nb ≡ k * nb = ap (λ m. m * nb) e in stage_at-open (k * nb) nb (b * nb + c) (omega arith) (omega arith)),
  λ h. (let far : k * nb ≤ b * nb + c = from_block b k nb c h in stage_at-ahead (k * nb) 0 (b * nb + c) (omega arith)),
  λ h.
      (let far : (k + 1) * nb ≤ b * nb + c = from_block b (k + 1) nb c (omega arith) in
      let split : (k + 1) * nb ≡ k * nb + nb = omega arith in
      stage_at-ahead (k * nb) nb (b * nb + c) (omega arith)),
)

-- a panel goes over a block column right of it
pub carried-held : (d : RowMap) (width p : ℕ) (inverse : ℕ → ℕ) (first n start : ℕ) (s : Eliminated) (l : ℕ → ℕ → ℕ) (v : List ℕ) (block : Matrix) (bp : Part) (left : ℕ → Matrix) (lp : ℕ → Part) (right : ℕ → Matrix) (rp : ℕ → Part) (exchanged_strips solved_strips strips' : ℕ → Matrix) → IsRowMap d → IsBlock d first n → first + n ≤ start → IsReady p d.m first s → IsPanel first n (eliminate_columns p inverse d.m first n s) l v → Hold d width (λ i c. exchanged v first n (λ r. s.words r (start + c)) i) exchanged_strips → AreSolved d width p inverse true l first n block bp exchanged_strips solved_strips → HaveGained d width p (p - 1) (λ i k. l i (first + k)) n (λ k c. solved_rows p inverse true l first n (λ i c. exchanged v first n (λ r. s.words r (start + c)) i) (first + k) c) (first + n) d.m left lp right rp solved_strips strips' → Hold d width (λ i c. (eliminate_columns p inverse d.m first n s).words i (start + c)) strips'
carried-held d width p inverse first n start s l v block bp left lp right rp exchanged_strips solved_strips strips' map in_one after ready panel hold solve gain =
    hold-same d width (λ i c. carried p inverse l v first n (λ r. s.words r (start + c)) i) (λ i c. (eliminate_columns p inverse d.m first n s).words i (start + c)) strips' map
    (λ i c _ _. sym (column-carried_by p inverse d.m first n s l v i (start + c) in_one.inside ready panel (omega arith)))
    (block_row-held d width p inverse true l (λ i c. exchanged v first n (λ r. s.words r (start + c)) i) first n block bp left lp right rp exchanged_strips solved_strips strips' map in_one solve gain hold)

-- and over one left of it
pub exchanged-held : (d : RowMap) (width p : ℕ) (inverse : ℕ → ℕ) (first n start : ℕ) (s : Eliminated) (l : ℕ → ℕ → ℕ) (v : List ℕ) (strips' : ℕ → Matrix) → IsRowMap d → first + n ≤ d.m → start + width ≤ first → IsReady p d.m first s → IsPanel first n (eliminate_columns p inverse d.m first n s) l v → Hold d width (λ i c. exchanged v first n (λ r. s.words r (start + c)) i) strips' → Hold d width (λ i c. (eliminate_columns p inverse d.m first n s).words i (start + c)) strips'
exchanged-held d width p inverse first n start s l v strips' map inside before ready panel hold =
    hold-same d width (λ i c. exchanged v first n (λ r. s.words r (start + c)) i) (λ i c. (eliminate_columns p inverse d.m first n s).words i (start + c)) strips' map
    (λ i c _ hc. sym (column-exchanged_by p inverse d.m first n s l v i (start + c) inside ready panel (omega arith))) hold

-- the part of a strip with the global rows of a range
pub span-words : (d : RowMap) (width lo hi n : ℕ) (f : ℕ → ℕ → ℕ) (strips : ℕ → Matrix) (row i k : ℕ) → IsRowMap d → Hold d width f strips → hi ≤ d.m → n ≤ width → row < d.procs → rows_below d lo row + i < rows_below d hi row → k < n → part_entry (strips row) (span d lo hi n row) i k ≡ f (row_at d row (rows_below d lo row + i)) k
span-words d width lo hi n f strips row i k map hold hm hn h hi_row hk =
    let all : rows_below d hi row ≤ rows_below d d.m row = numroc-le hi d.m d.mb row d.src d.procs hm in
    ap (entry (strips row) (rows_below d lo row + i)) (let e : 0 + k ≡ k = omega arith in e) ∙ hold.words row (rows_below d lo row + i) k h (omega arith) (omega arith)

-- the rows of one block, on their process row
pub block-words : (d : RowMap) (width first n : ℕ) (f : ℕ → ℕ → ℕ) (strips : ℕ → Matrix) (k c : ℕ) → IsRowMap d → IsBlock d first n → Hold d width f strips → k < n → c < width → part_entry (strips (row_owner d first)) (block_rows d first n width) k c ≡ f (first + k) c
block-words d width first n f strips k c map block hold hk hc = block_words d width first n f strips k c c map block hold hk hc refl
