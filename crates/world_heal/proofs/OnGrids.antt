-- What is live on the grids, one thing after the other, and that it is all that is live.
use Rattle.std.specs.Prelude.{◌==◌, if◌then◌else◌, IfOk}
use Rattle.std.proofs.Common.{Result, ◌≡◌, ◌+◌, ◌<◌, ◌≤◌, ◌&&◌, ℕ, Bool, true, List, length, get_or, refl, sym, ap, subst, ◌∙◌, arith}
use Rattle.std.proofs.lemmas.Bool.{eq-eqb}
use Rattle.rank_machine.specs.declared.mark.Mark.{Mark}
use Rattle.rank_machine.specs.declared.layout.Layout.{Layout}
use Rattle.rank_machine.specs.Setting.{Job, Setting, layout, factored, no_job}
use Rattle.rank_machine.specs.State.{State}
use Rattle.rank_machine.specs.Effect.{is_live_matrix, is_live_list}
use Rattle.script_lines.specs.declared.lines.Line.{Line}
use Rattle.script_lines.specs.Lines.{job_seen, no_line, setting_on}
use Rattle.script_lines.proofs.TableLaws.{is_live_matrix_on, is_live_list_on, layout_on}
use Rattle.run_laws.specs.Traces.{matrix_most, list_most}
use Rattle.block_world.specs.declared.world.Did.{Did}
use Rattle.block_world.specs.World.{WorldView, setting_in, state_of}
use Rattle.recovery_counts.specs.Counted.{job_at, matrix_on, list_on, matrices_so_far, lists_so_far, grid_most, grids_so_far}
use Rattle.recovery_counts.proofs.TableJobs.{as-long, lines-jobs}
use Rattle.recovery_rounds.specs.Rows.{IsListHealed, IsAllHealed}
use Rattle.world_heal.specs.Ways.{IfDone, IsUnderWay, rest_of}
use Rattle.world_heal.specs.Mended.{IsMendable, IsTable, IsMending, KeepsHealed, HasMended, IsHitMending, IsMatrixHealed, AreMatricesHealed, AreListsHealed, IsGridHealed, AreGridsHealed}
use Rattle.world_heal.proofs.Ways.{setting-way, mark-rest}
use Rattle.world_heal.proofs.Outcomes.{if_ok, if_done}
use Rattle.world_heal.proofs.Steps.{mended-none, mended-then, mended-so, hit-then, hit-more}
use Rattle.world_heal.proofs.OneByOne.{said-before, none-yet, one-more, one-hit}
use Rattle.world_heal.proofs.JobPlaces.{place-matrix, place-list, live-matrix, live-list}

-- ---- what is healed of a line
abbrev pub IsMatrixOn : ℕ → ℕ → Setting → State → State → Type 0
IsMatrixOn number line s last now = is_live_matrix s last.mark line ≡ true → (layout s line).desc.ctxt ≡ number → IsMatrixHealed line s last now

abbrev IsListNow : ℕ → Setting → State → State → Type 0
IsListNow line s last now = IsListHealed s last now line

abbrev pub IsListOn : ℕ → ℕ → ℕ → Setting → State → State → Type 0
IsListOn number line factors s last now = is_live_list s last.mark line ≡ true → (layout s factors).desc.ctxt ≡ number → IsListHealed s last now line

matrix-stays : (number line : ℕ) (s : Setting) (last before now : State) → KeepsHealed s last before now → IsMatrixOn number line s last before → IsMatrixOn number line s last now
matrix-stays number line s last before now keeps h live on = λ row row_in group group_in. keeps.rows line row group live row_in group_in (h live on row row_in group group_in)

list-stays : (number line factors : ℕ) (s : Setting) (last before now : State) → KeepsHealed s last before now → IsListOn number line factors s last before → IsListOn number line factors s last now
list-stays number line factors s last before now keeps h live on = keeps.lists line live (h live on)

-- ---- what the code reads of a table is what the setting says
pub table-way : (a b : WorldView) (table : List Line) → IsUnderWay a b → IsTable (setting_in a) table → IsTable (setting_in b) table
table-way a b table u is = subst (λ s. IsTable s table) (sym (setting-way a b u)) is

module _ (w : WorldView) (table : List Line) (is : IsTable (setting_in w) table) where
  pub matrix-read : (mark : Mark) (line : ℕ) (live : Bool) → mark ≡ (state_of w).mark → live ≡ is_live_matrix (setting_on 0 table) mark line → live ≡ is_live_matrix (setting_in w) (rest_of w).mark line
  matrix-read mark line live last e = e ∙ (is_live_matrix_on (setting_in w) table 0 is.lines mark line ∙ ap (λ m. is_live_matrix (setting_in w) m line) (last ∙ mark-rest w))

  pub list-read : (mark : Mark) (line : ℕ) (live : Bool) → mark ≡ (state_of w).mark → live ≡ is_live_list (setting_on 0 table) mark line → live ≡ is_live_list (setting_in w) (rest_of w).mark line
  list-read mark line live last e = e ∙ (is_live_list_on (setting_in w) table 0 is.lines mark line ∙ ap (λ m. is_live_list (setting_in w) m line) (last ∙ mark-rest w))

  pub grid-read : (line : ℕ) (d : Layout) → d ≡ layout (setting_on 0 table) line → d.desc.ctxt ≡ (layout (setting_in w) line).desc.ctxt
  grid-read line d e = ap (λ (x : Layout). x.desc.ctxt) e ∙ ap (λ (x : Layout). x.desc.ctxt) (layout_on (setting_in w) table 0 is.lines line)

-- ---- where the matrix or the list of a line is live on the grid, its records count, and else nothing is healed
counted : (live : Bool) (at number most : ℕ) → live ≡ true → at ≡ number → most ≤ (if live && (at == number) then most else 0)
counted live at number most l e = rw (l, eq-eqb at number e) (omega arith)

module _ (w : WorldView) (number : ℕ) where
  matrix-counted : (line : ℕ) → is_live_matrix (setting_in w) (rest_of w).mark line ≡ true → (layout (setting_in w) line).desc.ctxt ≡ number →
      matrix_most (layout (setting_in w) line) ≤ matrix_on (setting_in w) (rest_of w).mark number (no_job line)
  matrix-counted line live on = counted (is_live_matrix (setting_in w) (rest_of w).mark line) (layout (setting_in w) line).desc.ctxt number (matrix_most (layout (setting_in w) line)) live on

  list-counted : (x : Line) → is_live_list (setting_in w) (rest_of w).mark x.line ≡ true → (layout (setting_in w) x.factors).desc.ctxt ≡ number →
      list_most (layout (setting_in w) x.factors) ≤ list_on (setting_in w) (rest_of w).mark number (job_seen x)
  list-counted x live on = counted (is_live_list (setting_in w) (rest_of w).mark x.line) (layout (setting_in w) x.factors).desc.ctxt number (list_most (layout (setting_in w) x.factors)) live on

  -- what becomes of it where it is live there
  pub matrix-outcome : {E : Type 0} (w' : WorldView) (line : ℕ) → is_live_matrix (setting_in w) (rest_of w).mark line ≡ true → (layout (setting_in w) line).desc.ctxt ≡ number → (r : Result Did E) →
      IfOk r (IfDone (HasMended (matrix_most (layout (setting_in w) line)) (IsMatrixHealed line) w w') (IsHitMending (matrix_most (layout (setting_in w) line)) w w')) →
      IfOk r (IfDone (HasMended (matrix_on (setting_in w) (rest_of w).mark number (no_job line)) (IsMatrixOn number line) w w') (IsHitMending (matrix_on (setting_in w) (rest_of w).mark number (no_job line)) w w'))
  matrix-outcome w' line live on r h =
      let few = matrix_most (layout (setting_in w) line) in
      let most = matrix_on (setting_in w) (rest_of w).mark number (no_job line) in
      let le : few ≤ most = matrix-counted line live on in
      if_ok (IfDone (HasMended few (IsMatrixHealed line) w w') (IsHitMending few w w')) (IfDone (HasMended most (IsMatrixOn number line) w w') (IsHitMending most w w'))
      (λ d. if_done (HasMended few (IsMatrixHealed line) w w') (HasMended most (IsMatrixOn number line) w w') (IsHitMending few w w') (IsHitMending most w w')
      (λ m. mended-so w w' few most (IsMatrixHealed line) (IsMatrixOn number line) m le (λ healed _ _. healed)) (λ hit. hit-more w w' few most hit le) d) r h

  pub list-outcome : {E : Type 0} (w' : WorldView) (x : Line) → is_live_list (setting_in w) (rest_of w).mark x.line ≡ true → (layout (setting_in w) x.factors).desc.ctxt ≡ number → (r : Result Did E) →
      IfOk r (IfDone (HasMended (list_most (layout (setting_in w) x.factors)) (IsListNow x.line) w w') (IsHitMending (list_most (layout (setting_in w) x.factors)) w w')) →
      IfOk r (IfDone (HasMended (list_on (setting_in w) (rest_of w).mark number (job_seen x)) (IsListOn number x.line x.factors) w w') (IsHitMending (list_on (setting_in w) (rest_of w).mark number (job_seen x)) w w'))
  list-outcome w' x live on r h =
      let few = list_most (layout (setting_in w) x.factors) in
      let most = list_on (setting_in w) (rest_of w).mark number (job_seen x) in
      let le : few ≤ most = list-counted x live on in
      if_ok (IfDone (HasMended few (IsListNow x.line) w w') (IsHitMending few w w')) (IfDone (HasMended most (IsListOn number x.line x.factors) w w') (IsHitMending most w w'))
      (λ d. if_done (HasMended few (IsListNow x.line) w w') (HasMended most (IsListOn number x.line x.factors) w w') (IsHitMending few w w') (IsHitMending most w w')
      (λ m. mended-so w w' few most (IsListNow x.line) (IsListOn number x.line x.factors) m le (λ healed _ _. healed)) (λ hit. hit-more w w' few most hit le) d) r h

  -- and where it is not
  pub matrix-none : (line : ℕ) → IsMending w → (is_live_matrix (setting_in w) (rest_of w).mark line ≡ true → (layout (setting_in w) line).desc.ctxt ≡ number → ⊥) →
      HasMended (matrix_on (setting_in w) (rest_of w).mark number (no_job line)) (IsMatrixOn number line) w w
  matrix-none line h none =
      mended-so w w 0 (matrix_on (setting_in w) (rest_of w).mark number (no_job line)) (IsMatrixOn number line) (IsMatrixOn number line)
      (mended-none w (IsMatrixOn number line) h (λ live on. absurd (none live on))) (omega arith) (λ x. x)

  pub list-none : (x : Line) → IsMending w → (is_live_list (setting_in w) (rest_of w).mark x.line ≡ true → (layout (setting_in w) x.factors).desc.ctxt ≡ number → ⊥) →
      HasMended (list_on (setting_in w) (rest_of w).mark number (job_seen x)) (IsListOn number x.line x.factors) w w
  list-none x h none =
      mended-so w w 0 (list_on (setting_in w) (rest_of w).mark number (job_seen x)) (IsListOn number x.line x.factors) (IsListOn number x.line x.factors)
      (mended-none w (IsListOn number x.line x.factors) h (λ live on. absurd (none live on))) (omega arith) (λ x. x)

-- ---- the matrices and the lists of a grid, by the places of their jobs
abbrev MatrixAt : ℕ → ℕ → Setting → State → State → Type 0
MatrixAt number i s last now = IsMatrixOn number (job_at s i).line s last now

abbrev ListAt : ℕ → ℕ → Setting → State → State → Type 0
ListAt number i s last now = IsListOn number (job_at s i).line (job_at s i).factors s last now

abbrev matrix_most_at : ℕ → Setting → Mark → ℕ → ℕ
matrix_most_at number s mark i = matrix_on s mark number (job_at s i)

abbrev list_most_at : ℕ → Setting → Mark → ℕ → ℕ
list_most_at number s mark i = list_on s mark number (job_at s i)

pub matrices-none : (number : ℕ) (w : WorldView) → IsMending w → HasMended (matrices_so_far (setting_in w) (rest_of w).mark number 0) (AreMatricesHealed number 0) w w
matrices-none number w h = none-yet (matrix_most_at number) (MatrixAt number) w h

pub lists-none : (number : ℕ) (w : WorldView) → IsMending w → HasMended (lists_so_far (setting_in w) (rest_of w).mark number 0) (AreListsHealed number 0) w w
lists-none number w h = none-yet (list_most_at number) (ListAt number) w h

-- the line of a table at a place
abbrev pub line_at : List Line → ℕ → Line
line_at table i = get_or table i (no_line 0)

module _ (table : List Line) (number i : ℕ) (a b c : WorldView) (is : IsTable (setting_in a) table) where
  abbrev asked : Line
  asked = line_at table i

  -- it is that of the job at the place
  line-at : IsUnderWay a b → (job_at (setting_in b) i).line ≡ asked.line
  line-at u = (lines-jobs (setting_in b) table i (table-way a b table u is).lines).0

  factors-at : IsUnderWay a b → (job_at (setting_in b) i).factors ≡ asked.factors
  factors-at u = (lines-jobs (setting_in b) table i (table-way a b table u is).lines).1

  same-matrix : IsUnderWay a b → matrix_on (setting_in b) (rest_of b).mark number (no_job asked.line) ≡ matrix_most_at number (setting_in b) (rest_of b).mark i
  same-matrix u = ap (λ k. matrix_on (setting_in b) (rest_of b).mark number (no_job k)) (sym (line-at u))

  same-list : IsUnderWay a b → list_on (setting_in b) (rest_of b).mark number (job_seen asked) ≡ list_most_at number (setting_in b) (rest_of b).mark i
  same-list u = λ j. list_on (setting_in b) (rest_of b).mark number (record (no_job (sym (line-at u) j)) { factors = sym (factors-at u) j })

  pub matrices-more : HasMended (matrices_so_far (setting_in a) (rest_of a).mark number i) (AreMatricesHealed number i) a b →
      HasMended (matrix_on (setting_in b) (rest_of b).mark number (no_job asked.line)) (IsMatrixOn number asked.line) b c →
      HasMended (matrices_so_far (setting_in a) (rest_of a).mark number (i + 1)) (AreMatricesHealed number (i + 1)) a c
  matrices-more h k =
      one-more (matrix_most_at number) (MatrixAt number) (λ j s last before now. matrix-stays number (job_at s j).line s last before now) a b c i h
      (mended-so b c (matrix_on (setting_in b) (rest_of b).mark number (no_job asked.line)) (matrix_most_at number (setting_in b) (rest_of b).mark i) (IsMatrixOn number asked.line) (MatrixAt number i) k
      (omega (arith, same-matrix h.under_way)) (λ m. subst (λ line. IsMatrixOn number line (setting_in b) (rest_of b) (state_of c)) (sym (line-at h.under_way)) m))

  pub matrices-hit : i < length table → HasMended (matrices_so_far (setting_in a) (rest_of a).mark number i) (AreMatricesHealed number i) a b →
      IsHitMending (matrix_on (setting_in b) (rest_of b).mark number (no_job asked.line)) b c → IsHitMending (matrices_so_far (setting_in a) (rest_of a).mark number (length (setting_in a).jobs)) a c
  matrices-hit lt h hit =
      one-hit (matrix_most_at number) (MatrixAt number) a b c i (length (setting_in a).jobs) (omega (arith, lt, as-long (setting_in a) table is.lines)) h
      (subst (λ m. IsHitMending m b c) (same-matrix h.under_way) hit)

  pub lists-more : HasMended (lists_so_far (setting_in a) (rest_of a).mark number i) (AreListsHealed number i) a b →
      HasMended (list_on (setting_in b) (rest_of b).mark number (job_seen asked)) (IsListOn number asked.line asked.factors) b c →
      HasMended (lists_so_far (setting_in a) (rest_of a).mark number (i + 1)) (AreListsHealed number (i + 1)) a c
  lists-more h k =
      one-more (list_most_at number) (ListAt number) (λ j s last before now. list-stays number (job_at s j).line (job_at s j).factors s last before now) a b c i h
      (mended-so b c (list_on (setting_in b) (rest_of b).mark number (job_seen asked)) (list_most_at number (setting_in b) (rest_of b).mark i) (IsListOn number asked.line asked.factors) (ListAt number i) k
      (omega (arith, same-list h.under_way))
      (λ m. let at = subst (λ line. IsListOn number line asked.factors (setting_in b) (rest_of b) (state_of c)) (sym (line-at h.under_way)) m in
      subst (λ factors. IsListOn number (job_at (setting_in b) i).line factors (setting_in b) (rest_of b) (state_of c)) (sym (factors-at h.under_way)) at))

  pub lists-hit : i < length table → HasMended (lists_so_far (setting_in a) (rest_of a).mark number i) (AreListsHealed number i) a b →
      IsHitMending (list_on (setting_in b) (rest_of b).mark number (job_seen asked)) b c → IsHitMending (lists_so_far (setting_in a) (rest_of a).mark number (length (setting_in a).jobs)) a c
  lists-hit lt h hit =
      one-hit (list_most_at number) (ListAt number) a b c i (length (setting_in a).jobs) (omega (arith, lt, as-long (setting_in a) table is.lines)) h
      (subst (λ m. IsHitMending m b c) (same-list h.under_way) hit)

-- ---- at the end of the table
module _ (table : List Line) (number : ℕ) (a b : WorldView) (is : IsTable (setting_in a) table) where
  pub matrices-all : HasMended (matrices_so_far (setting_in a) (rest_of a).mark number (length table)) (AreMatricesHealed number (length table)) a b →
      HasMended (matrices_so_far (setting_in a) (rest_of a).mark number (length (setting_in a).jobs)) (AreMatricesHealed number (length (setting_in a).jobs)) a b
  matrices-all h = subst (λ n. HasMended (matrices_so_far (setting_in a) (rest_of a).mark number n) (AreMatricesHealed number n) a b) (as-long (setting_in a) table is.lines) h

  pub lists-all : HasMended (lists_so_far (setting_in a) (rest_of a).mark number (length table)) (AreListsHealed number (length table)) a b →
      HasMended (lists_so_far (setting_in a) (rest_of a).mark number (length (setting_in a).jobs)) (AreListsHealed number (length (setting_in a).jobs)) a b
  lists-all h = subst (λ n. HasMended (lists_so_far (setting_in a) (rest_of a).mark number n) (AreListsHealed number n) a b) (as-long (setting_in a) table is.lines) h

-- ---- a grid: its matrices, and then its lists
grid-stays : (number : ℕ) (s : Setting) (last before now : State) → KeepsHealed s last before now → IsGridHealed number s last before → IsGridHealed number s last now
grid-stays number s last before now keeps h = record {
  matrices = λ i lt. matrix-stays number (job_at s i).line s last before now keeps (h.matrices i lt);
  lists = λ i lt. list-stays number (job_at s i).line (job_at s i).factors s last before now keeps (h.lists i lt);
}

module _ (number : ℕ) (a b c : WorldView) where
  abbrev matrices_most : WorldView → ℕ
  matrices_most w = matrices_so_far (setting_in w) (rest_of w).mark number (length (setting_in w).jobs)

  abbrev lists_most : WorldView → ℕ
  lists_most w = lists_so_far (setting_in w) (rest_of w).mark number (length (setting_in w).jobs)

  pub grid-hit_first : IsHitMending (matrices_most a) a b → IsHitMending (grid_most (setting_in a) (rest_of a).mark number) a b
  grid-hit_first hit = hit-more a b (matrices_most a) (grid_most (setting_in a) (rest_of a).mark number) hit (omega arith)

  pub grid-hit : HasMended (matrices_most a) (AreMatricesHealed number (length (setting_in a).jobs)) a b → IsHitMending (lists_most b) b c → IsHitMending (grid_most (setting_in a) (rest_of a).mark number) a c
  grid-hit h hit =
      hit-then a b c (matrices_most a) (lists_most a) (grid_most (setting_in a) (rest_of a).mark number) (AreMatricesHealed number (length (setting_in a).jobs)) h
      (said-before a b (λ s mark. IsHitMending (lists_so_far s mark number (length s.jobs)) b c) h.under_way hit) (omega arith)

  pub grid-mended : HasMended (matrices_most a) (AreMatricesHealed number (length (setting_in a).jobs)) a b → HasMended (lists_most b) (AreListsHealed number (length (setting_in b).jobs)) b c →
      HasMended (grid_most (setting_in a) (rest_of a).mark number) (IsGridHealed number) a c
  grid-mended h k =
      let s = setting_in a in
      let lists : HasMended (lists_most a) (AreListsHealed number (length s.jobs)) b c = said-before a b (λ s mark. HasMended (lists_so_far s mark number (length s.jobs)) (AreListsHealed number (length s.jobs)) b c) h.under_way k in
      mended-then a b c (matrices_most a) (lists_most a) (AreMatricesHealed number (length s.jobs)) (AreListsHealed number (length s.jobs)) (IsGridHealed number) h lists
      (λ before keeps now. record { matrices = λ i lt. matrix-stays number (job_at s i).line s (rest_of a) (state_of b) (state_of c) keeps (before i lt); lists = now })

  -- whatever becomes of the lists
  pub grid-outcome : {E : Type 0} → HasMended (matrices_most a) (AreMatricesHealed number (length (setting_in a).jobs)) a b → (r : Result Did E) →
      IfOk r (IfDone (HasMended (lists_most b) (AreListsHealed number (length (setting_in b).jobs)) b c) (IsHitMending (lists_most b) b c)) →
      IfOk r (IfDone (HasMended (grid_most (setting_in a) (rest_of a).mark number) (IsGridHealed number) a c) (IsHitMending (grid_most (setting_in a) (rest_of a).mark number) a c))
  grid-outcome h r lists =
      let Mended = HasMended (lists_most b) (AreListsHealed number (length (setting_in b).jobs)) b c in
      let Hit = IsHitMending (lists_most b) b c in
      let Mended' = HasMended (grid_most (setting_in a) (rest_of a).mark number) (IsGridHealed number) a c in
      let Hit' = IsHitMending (grid_most (setting_in a) (rest_of a).mark number) a c in
      if_ok (IfDone Mended Hit) (IfDone Mended' Hit') (λ d. if_done Mended Mended' Hit Hit' (grid-mended h) (grid-hit h) d) r lists

-- ---- grid by grid
pub grids-none : (w : WorldView) → IsMending w → HasMended (grids_so_far (setting_in w) (rest_of w).mark 0) (AreGridsHealed 0) w w
grids-none w h = none-yet grid_most IsGridHealed w h

module _ (a b c : WorldView) (number : ℕ) where
  pub grids-more : HasMended (grids_so_far (setting_in a) (rest_of a).mark number) (AreGridsHealed number) a b → HasMended (grid_most (setting_in b) (rest_of b).mark number) (IsGridHealed number) b c →
      HasMended (grids_so_far (setting_in a) (rest_of a).mark (number + 1)) (AreGridsHealed (number + 1)) a c
  grids-more h k = one-more grid_most IsGridHealed grid-stays a b c number h k

  pub grids-hit : (n : ℕ) → number < n → HasMended (grids_so_far (setting_in a) (rest_of a).mark number) (AreGridsHealed number) a b → IsHitMending (grid_most (setting_in b) (rest_of b).mark number) b c →
      IsHitMending (grids_so_far (setting_in a) (rest_of a).mark n) a c
  grids-hit n lt h hit = one-hit grid_most IsGridHealed a b c number n lt h hit

-- all that is live lies on some grid of the run, and its job stands at some place
pub all-healed : (s : Setting) (last now : State) → IsMendable s → AreGridsHealed (length s.grids) s last now → IsAllHealed s last now
all-healed s last now may h = record {
  rows = λ line row group live row_in group_in.
      let there = live-matrix s last.mark line live in
      let at = place-matrix s line there in
      let on = (h (layout s line).desc.ctxt (may.there line there)).matrices at.0 at.1.within in
      let mine = subst (λ k. IsMatrixOn (layout s line).desc.ctxt k s last now) at.1.number on in
      mine live refl row row_in group group_in;
  lists = λ line live.
      let of_one = live-list s last.mark line live in
      let at = place-list s line of_one in
      let on = (h (layout s (factored s line)).desc.ctxt (may.there (factored s line) (may.matrices line of_one))).lists at.0 at.1.within in
      let numbered = subst (λ k. IsListOn (layout s (factored s line)).desc.ctxt k (job_at s at.0).factors s last now) at.1.number on in
      let mine = subst (λ k. IsListOn (layout s (factored s line)).desc.ctxt line k s last now) (ap (λ (j : Job). j.factors) at.1.job) numbered in
      mine live refl;
}

-- so after the last grid all is healed
pub all-mended : (w w' : WorldView) (n : ℕ) → n ≡ length (setting_in w).grids → IsMending w → HasMended (grids_so_far (setting_in w) (rest_of w).mark n) (AreGridsHealed n) w w' →
    HasMended (grids_so_far (setting_in w) (rest_of w).mark n) IsAllHealed w w'
all-mended w w' n e may h =
    let most = grids_so_far (setting_in w) (rest_of w).mark n in
    mended-so w w' most most (AreGridsHealed n) IsAllHealed h (omega arith)
    (λ all. all-healed (setting_in w) (rest_of w) (state_of w') may.mendable (subst (λ k. AreGridsHealed k (setting_in w) (rest_of w) (state_of w')) e all))
