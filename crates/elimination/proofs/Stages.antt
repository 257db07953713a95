use Rattle.std.proofs.Common.{◌≡◌, ◌≢◌, ℕ, ◌+◌, ◌-◌, ◌*◌, ◌%◌, ◌<◌, ◌≤◌, ◌⊎◌, true, false, nat_lt, List, refl, sym, ◌∙◌, ap, arith, inl, inr}
use Rattle.std.proofs.Math.Path.{fun_ext}
use Rattle.std.proofs.lemmas.Bool.{cases_lt, lt-ltb, le-ltb}
use Rattle.field_core.proofs.Sums.{sum_to-same}
use Rattle.serial_model.specs.Elimination.{Eliminated, eliminate_columns, exchanged}
use Rattle.elimination.specs.Panels.{IsReady, carried, IsPanel}
use Rattle.elimination.specs.CodeLaw.{upper, lower, Stage, Ahead, Open, Closed, code_part, low_part, open_part, IsCoded, after_panel, stage_at, between, IsOwn, IsOutside}
use Rattle.elimination.proofs.PanelLaws.{columns-left, column-carried, columns-pivots, exchanged-panel, carried-panel}
use Rattle.elimination.proofs.CodeLaws.{group-coded, panel-coded, close-coded}

pub stage_at-closed : (first width k : ℕ) → k < first → stage_at first width k ≡ Closed
unfolding stage_at
stage_at-closed first width k h = (let t : nat_lt k first ≡ true = lt-ltb k first h in rw t refl)

pub stage_at-open : (first width k : ℕ) → first ≤ k → k < first + width → stage_at first width k ≡ Open
unfolding stage_at
stage_at-open first width k h1 h2 =
    (let t : nat_lt k first ≡ false = le-ltb k first h1 in
    let u : nat_lt k (first + width) ≡ true = lt-ltb k (first + width) h2 in
    rw (t, u) refl)

pub stage_at-ahead : (first width k : ℕ) → first + width ≤ k → stage_at first width k ≡ Ahead
unfolding stage_at
stage_at-ahead first width k h =
    (let t : nat_lt k first ≡ false = le-ltb k first (omega arith) in
    let u : nat_lt k (first + width) ≡ false = le-ltb k (first + width) h in
    rw (t, u) refl)

-- a column outside the panel stands as after the closing
pub stage_at-outside : (first width k : ℕ) → (k < first) ⊎ (first + width ≤ k) → stage_at first width k ≡ stage_at (first + width) 0 k
stage_at-outside first width k (inl h) = stage_at-closed first width k h ∙ sym (stage_at-closed (first + width) 0 k (omega arith))
stage_at-outside first width k (inr h) = stage_at-ahead first width k h ∙ sym (stage_at-ahead (first + width) 0 k (omega arith))

-- and as before the panel was opened
pub stage_at-before : (first width k : ℕ) → (k < first) ⊎ (first + width ≤ k) → stage_at first width k ≡ stage_at first 0 k
stage_at-before first width k (inl h) = stage_at-closed first width k h ∙ sym (stage_at-closed first 0 k h)
stage_at-before first width k (inr h) = stage_at-ahead first width k h ∙ sym (stage_at-ahead first 0 k (omega arith))

closed-before : (first width k : ℕ) → stage_at first width k ≡ Closed → k < first
closed-before first width k e =
    elim (cases_lt k first) [
      | inl below ↦ below
      | inr from ↦
          absurd (elim (cases_lt k (first + width)) [
            | inl among ↦ (let o : stage_at first width k ≡ Open = stage_at-open first width k from among in cc)
            | inr after ↦ (let a : stage_at first width k ≡ Ahead = stage_at-ahead first width k after in cc)
          ])
    ]

between-left : (first width : ℕ) (s t : ℕ → ℕ → ℕ) (k : ℕ) → k < first → between first width s t k ≡ (λ i. s i k)
unfolding between
between-left first width s t k h = fun_ext (λ i. (let e : nat_lt k first ≡ true = lt-ltb k first h in rw e refl))

between-among : (first width : ℕ) (s t : ℕ → ℕ → ℕ) (k : ℕ) → first ≤ k → k < first + width → between first width s t k ≡ (λ i. t i k)
unfolding between
between-among first width s t k h1 h2 =
    fun_ext (λ i. (let e : nat_lt k first ≡ false = le-ltb k first h1 in let f : nat_lt k (first + width) ≡ true = lt-ltb k (first + width) h2 in rw (e, f) refl))

between-right : (first width : ℕ) (s t : ℕ → ℕ → ℕ) (k : ℕ) → first + width ≤ k → between first width s t k ≡ (λ i. s i k)
unfolding between
between-right first width s t k h =
    fun_ext (λ i. (let e : nat_lt k first ≡ false = le-ltb k first (omega arith) in let f : nat_lt k (first + width) ≡ false = le-ltb k (first + width) h in rw (e, f) refl))

-- what a panel makes of a column in the midst of its work is the column after it
pub after_panel-is : (p : ℕ) (inverse : ℕ → ℕ) (m first width n : ℕ) (s : Eliminated) (k i : ℕ) → n ≤ width → first + n ≤ m → IsReady p m first s → after_panel p inverse (eliminate_columns p inverse m first n s).words (eliminate_columns p inverse m first n s).pivots first n (stage_at first width k) (between first width s.words (eliminate_columns p inverse m first n s).words k) i ≡ (eliminate_columns p inverse m first n s).words i k
unfolding after_panel
after_panel-is p inverse m first width n s k i narrow h ready =
    let u = eliminate_columns p inverse m first n s in
    let y = between first width s.words u.words k in
    elim (cases_lt k first) [
      | inl left ↦
          ap (λ g. after_panel p inverse u.words u.pivots first n g y i) (stage_at-closed first width k left)
          ∙ ap (λ c. after_panel p inverse u.words u.pivots first n Closed c i) (between-left first width s.words u.words k left)
          ∙ sym (columns-left p inverse m first n s i k h ready left)
      | inr from ↦
          (elim (cases_lt k (first + width)) [
            | inl among ↦
                ap (λ g. after_panel p inverse u.words u.pivots first n g y i) (stage_at-open first width k from among)
                ∙ ap (λ c. after_panel p inverse u.words u.pivots first n Open c i) (between-among first width s.words u.words k from among)
            | inr after ↦
                ap (λ g. after_panel p inverse u.words u.pivots first n g y i) (stage_at-ahead first width k after)
                ∙ ap (λ c. after_panel p inverse u.words u.pivots first n Ahead c i) (between-right first width s.words u.words k after)
                ∙ sym (column-carried p inverse m first n s i k h ready (omega arith))
          ])
    ]

-- the law speaks of the columns' words alone
pub coded-same : (p n : ℕ) (w : ℕ → ℕ) (stage stage' : ℕ → Stage) (d : ℕ → ℕ) (x y : ℕ → ℕ → ℕ) (code low open_words : ℕ → ℕ) → ((q : ℕ) → q < n → stage q ≡ stage' q) → ((q : ℕ) → q < n → x q ≡ y q) → IsCoded p n w stage d x code low open_words → IsCoded p n w stage' d y code low open_words
coded-same p n w stage stage' d x y code low open_words stages columns law =
    record {
      code_is = λ i. law.code_is i ∙ ap (λ s. s % p) (sum_to-same n (λ q. w q * code_part (stage q) (d q) (x q) i) (λ q. w q * code_part (stage' q) (d q) (y q) i) (λ q h. ap (λ c. w q * code_part (stage q) (d q) c i) (columns q h) ∙ ap (λ g. w q * code_part g (d q) (y q) i) (stages q h)));
      low_is = λ i. law.low_is i ∙ ap (λ s. s % p) (sum_to-same n (λ q. w q * low_part (stage q) (d q) (x q) i) (λ q. w q * low_part (stage' q) (d q) (y q) i) (λ q h. ap (λ c. w q * low_part (stage q) (d q) c i) (columns q h) ∙ ap (λ g. w q * low_part g (d q) (y q) i) (stages q h)));
      open_is = λ i. law.open_is i ∙ ap (λ s. s % p) (sum_to-same n (λ q. w q * open_part (stage q) (d q) (x q) i) (λ q. w q * open_part (stage' q) (d q) (y q) i) (λ q h. ap (λ c. w q * open_part (stage q) (d q) c i) (columns q h) ∙ ap (λ g. w q * open_part g (d q) (y q) i) (stages q h)));
    }

-- a law about what a panel carries, said by other words and pivots of that panel
carried-coded : (p : ℕ) (inverse : ℕ → ℕ) (n : ℕ) (w : ℕ → ℕ) (stage : ℕ → Stage) (d : ℕ → ℕ) (x : ℕ → ℕ → ℕ) (first count : ℕ) (u : Eliminated) (l : ℕ → ℕ → ℕ) (v : List ℕ) (code low open_words : ℕ → ℕ) → IsPanel first count u l v → IsCoded p n w stage d x (carried p inverse u.words u.pivots first count code) (exchanged u.pivots first count low) open_words → IsCoded p n w stage d x (carried p inverse l v first count code) (exchanged v first count low) open_words
carried-coded p inverse n w stage d x first count u l v code low open_words panel law =
    record {
      code_is = λ i. ap (λ k. k % p) (carried-panel p inverse first count u l v code i panel) ∙ law.code_is i;
      low_is = λ i. ap (λ k. k % p) (exchanged-panel first count u l v low i panel) ∙ law.low_is i;
      open_is = law.open_is;
    }

-- the group phase: from the columns in the midst of a panel's work to those after it, with the law
pub group-law : (p : ℕ) (inverse : ℕ → ℕ) (m first width n : ℕ) (s : Eliminated) (l : ℕ → ℕ → ℕ) (v : List ℕ) (columns : ℕ) (w : ℕ → ℕ) (col : ℕ → ℕ) (code low open_words : ℕ → ℕ) → n ≤ width → first + n ≤ m → IsReady p m first s → IsPanel first n (eliminate_columns p inverse m first n s) l v → IsCoded p columns w (λ q. stage_at first width (col q)) col (λ q. between first width s.words (eliminate_columns p inverse m first n s).words (col q)) code low open_words → IsCoded p columns w (λ q. stage_at first width (col q)) col (λ q i. (eliminate_columns p inverse m first n s).words i (col q)) (carried p inverse l v first n code) (exchanged v first n low) open_words
group-law p inverse m first width n s l v columns w col code low open_words narrow h ready panel law =
    let u = eliminate_columns p inverse m first n s in
    let pos_p : 0 < p = omega (arith, ready.below 0 0) in
    carried-coded p inverse columns w (λ q. stage_at first width (col q)) col (λ q i. u.words i (col q)) first n u l v code low open_words panel
    (coded-same p columns w (λ q. stage_at first width (col q)) (λ q. stage_at first width (col q)) col
    (λ q. after_panel p inverse u.words u.pivots first n (stage_at first width (col q)) (between first width s.words u.words (col q))) (λ q i. u.words i (col q))
    (carried p inverse u.words u.pivots first n code) (exchanged u.pivots first n low) open_words (λ q _. refl)
    (λ q _. fun_ext (λ i. after_panel-is p inverse m first width n s (col q) i narrow h ready))
    (group-coded p inverse columns w (λ q. stage_at first width (col q)) col (λ q. between first width s.words u.words (col q)) code low open_words u.words u.pivots first n pos_p
    (record { down = λ k h1 h2. (columns-pivots p inverse m first n s k h ready h1 h2).0 }) (λ q _ e. closed-before first width (col q) e) law))

between-outside : (first width : ℕ) (s t : ℕ → ℕ → ℕ) (k : ℕ) → (k < first) ⊎ (first + width ≤ k) → between first width s t k ≡ (λ i. s i k)
between-outside first width s t k (inl h) = between-left first width s t k h
between-outside first width s t k (inr h) = between-right first width s t k h

not-open : (first width k : ℕ) → (k < first) ⊎ (first + width ≤ k) → stage_at first width k ≢ Open
not-open first width k (inl h) = λ e. (let c : stage_at first width k ≡ Closed = stage_at-closed first width k h in cc)
not-open first width k (inr h) = λ e. (let c : stage_at first width k ≡ Ahead = stage_at-ahead first width k h in cc)

-- the panel phase: the panel's columns become those of t; Code loses the old one's share, and Open takes the new one's
pub panel-law : (p first width columns at : ℕ) (s t : ℕ → ℕ → ℕ) (w : ℕ → ℕ) (col : ℕ → ℕ) (code low code' open' : ℕ → ℕ) → 0 < p → IsOwn first width columns at col → ((i : ℕ) → code' i % p ≡ (code i + (p - 1) * (w at * s i (col at))) % p) → ((i : ℕ) → open' i % p ≡ (w at * t i (col at)) % p) → IsCoded p columns w (λ q. stage_at first 0 (col q)) col (λ q i. s i (col q)) code low (λ i. 0) → IsCoded p columns w (λ q. stage_at first width (col q)) col (λ q. between first width s t (col q)) code' low open'
panel-law p first width columns at s t w col code low code' open' pos_p own code_new open_new law =
    panel-coded p columns at w (λ q. stage_at first 0 (col q)) (λ q. stage_at first width (col q)) col (λ q i. s i (col q)) (λ q. between first width s t (col q)) code low code' open' pos_p own.is_column
    (stage_at-ahead first 0 (col at) (omega (arith, own.from))) (stage_at-open first width (col at) own.from own.before)
    (record {
      stages = λ q h other. stage_at-before first width (col q) (own.others q h other);
      columns = λ q h other. between-outside first width s t (col q) (own.others q h other);
    })
    code_new (λ i. open_new i ∙ ap (λ (c : ℕ → ℕ). (w at * c i) % p) (sym (between-among first width s t (col at) own.from own.before))) law

-- the closing: what Open holds goes into Code and Low
pub close-law : (p first width columns at : ℕ) (t : ℕ → ℕ → ℕ) (w : ℕ → ℕ) (col : ℕ → ℕ) (code low open_words code' low' : ℕ → ℕ) → IsOwn first width columns at col → ((i : ℕ) → code' i % p ≡ (code i + upper (col at) open_words i) % p) → ((i : ℕ) → low' i % p ≡ (low i + lower (col at) open_words i) % p) → IsCoded p columns w (λ q. stage_at first width (col q)) col (λ q i. t i (col q)) code low open_words → IsCoded p columns w (λ q. stage_at (first + width) 0 (col q)) col (λ q i. t i (col q)) code' low' (λ i. 0)
close-law p first width columns at t w col code low open_words code' low' own code_new low_new law =
    close-coded p columns at w (λ q. stage_at first width (col q)) (λ q. stage_at (first + width) 0 (col q)) col (λ q i. t i (col q)) code low open_words code' low' own.is_column
    (stage_at-open first width (col at) own.from own.before) (stage_at-closed (first + width) 0 (col at) own.before)
    (record { stages = λ q h other. sym (stage_at-outside first width (col q) (own.others q h other)); columns = λ q h other. refl })
    (λ q h other. not-open first width (col q) (own.others q h other)) code_new low_new law

-- a column outside has one stage under all marks between
pub stage_at-waiting : (first closed opened closed' opened' k : ℕ) → first ≤ closed → first ≤ closed' → (k < first) ⊎ (closed + opened ≤ k) → (k < first) ⊎ (closed' + opened' ≤ k) → stage_at closed opened k ≡ stage_at closed' opened' k
stage_at-waiting first closed opened closed' opened' k h h' (inl a) (inl b) = stage_at-closed closed opened k (omega arith) ∙ sym (stage_at-closed closed' opened' k (omega arith))
stage_at-waiting first closed opened closed' opened' k h h' (inl a) (inr b) = absurd (omega arith)
stage_at-waiting first closed opened closed' opened' k h h' (inr a) (inl b) = absurd (omega arith)
stage_at-waiting first closed opened closed' opened' k h h' (inr a) (inr b) = stage_at-ahead closed opened k a ∙ sym (stage_at-ahead closed' opened' k b)

-- the law of a group that waits is the same under all marks between
pub waiting-law : (p first columns : ℕ) (x : ℕ → ℕ → ℕ) (w col : ℕ → ℕ) (closed opened closed' opened' : ℕ) (code low open_words : ℕ → ℕ) → first ≤ closed → first ≤ closed' → IsOutside first (closed + opened) columns col → IsOutside first (closed' + opened') columns col → IsCoded p columns w (λ q. stage_at closed opened (col q)) col x code low open_words → IsCoded p columns w (λ q. stage_at closed' opened' (col q)) col x code low open_words
waiting-law p first columns x w col closed opened closed' opened' code low open_words h h' out out' law =
    coded-same p columns w (λ q. stage_at closed opened (col q)) (λ q. stage_at closed' opened' (col q)) col x x code low open_words
    (λ q hq. stage_at-waiting first closed opened closed' opened' (col q) h h' (out.outside q hq) (out'.outside q hq)) (λ q _. refl) law

-- what a panel makes of a column that is outside, under a mark of a later time
after_panel-outside : (p : ℕ) (inverse : ℕ → ℕ) (m first n closed opened : ℕ) (s : Eliminated) (k i : ℕ) → first + n ≤ m → first + n ≤ closed + opened → first ≤ closed → IsReady p m first s → (k < first) ⊎ (closed + opened ≤ k) → after_panel p inverse (eliminate_columns p inverse m first n s).words (eliminate_columns p inverse m first n s).pivots first n (stage_at closed opened k) (λ r. s.words r k) i ≡ (eliminate_columns p inverse m first n s).words i k
unfolding after_panel
after_panel-outside p inverse m first n closed opened s k i h he hc ready (inl left) =
    let u = eliminate_columns p inverse m first n s in
    ap (λ g. after_panel p inverse u.words u.pivots first n g (λ r. s.words r k) i) (stage_at-closed closed opened k (omega arith)) ∙ sym (columns-left p inverse m first n s i k h ready left)
after_panel-outside p inverse m first n closed opened s k i h he hc ready (inr after) =
    let u = eliminate_columns p inverse m first n s in
    ap (λ g. after_panel p inverse u.words u.pivots first n g (λ r. s.words r k) i) (stage_at-ahead closed opened k after) ∙ sym (column-carried p inverse m first n s i k h ready (omega arith))

closed-outside : (first closed opened k : ℕ) → (k < first) ⊎ (closed + opened ≤ k) → stage_at closed opened k ≡ Closed → k < first
closed-outside first closed opened k (inl h) e = h
closed-outside first closed opened k (inr h) e = absurd (let a : stage_at closed opened k ≡ Ahead = stage_at-ahead closed opened k h in cc)

-- the group phase of a group with no column in the panel nor in those that were opened since
pub other_group-law : (p : ℕ) (inverse : ℕ → ℕ) (m first width n : ℕ) (s : Eliminated) (l : ℕ → ℕ → ℕ) (v : List ℕ) (columns : ℕ) (w col : ℕ → ℕ) (closed opened : ℕ) (code low open_words : ℕ → ℕ) → n ≤ width → first + n ≤ m → first + width ≤ closed + opened → first ≤ closed → IsReady p m first s → IsPanel first n (eliminate_columns p inverse m first n s) l v → IsOutside first (closed + opened) columns col → IsCoded p columns w (λ q. stage_at closed opened (col q)) col (λ q i. s.words i (col q)) code low open_words → IsCoded p columns w (λ q. stage_at closed opened (col q)) col (λ q i. (eliminate_columns p inverse m first n s).words i (col q)) (carried p inverse l v first n code) (exchanged v first n low) open_words
other_group-law p inverse m first width n s l v columns w col closed opened code low open_words narrow h he hc ready panel out law =
    let u = eliminate_columns p inverse m first n s in
    let pos_p : 0 < p = omega (arith, ready.below 0 0) in
    let stage : ℕ → Stage = λ q. stage_at closed opened (col q) in
    carried-coded p inverse columns w stage col (λ q i. u.words i (col q)) first n u l v code low open_words panel
    (coded-same p columns w stage stage col (λ q. after_panel p inverse u.words u.pivots first n (stage q) (λ i. s.words i (col q))) (λ q i. u.words i (col q))
    (carried p inverse u.words u.pivots first n code) (exchanged u.pivots first n low) open_words (λ q _. refl)
    (λ q hq. fun_ext (λ i. after_panel-outside p inverse m first n closed opened s (col q) i h (omega arith) hc ready (out.outside q hq)))
    (group-coded p inverse columns w stage col (λ q i. s.words i (col q)) code low open_words u.words u.pivots first n pos_p
    (record { down = λ k h1 h2. (columns-pivots p inverse m first n s k h ready h1 h2).0 }) (λ q hq e. closed-outside first closed opened (col q) (out.outside q hq) e) law))
