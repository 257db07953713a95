-- Lines that make no records print nothing.
use Rattle.std.proofs.Common.{◌≡◌, ◌+◌, ◌*◌, ◌<◌, ◌≤◌, ◌==◌, ℕ, suc, true, false, not, List, [], ◌∷◌, ◌++◌, Option, Some, None, length, refl, sym, ap, subst, ◌∙◌, ⊎_elim, arith, All}
use Rattle.std.specs.Prelude.{if◌then◌else◌, nat_le}
use Rattle.std.proofs.lemmas.List.Elements.{All-head, All-tail, All-nil, All-cons}
use Rattle.std.specs.List.{sum_by}
use Rattle.std.proofs.lemmas.List.Sums.{sum_by-cons}
use Rattle.std.proofs.lemmas.Bool.{true≢false, cases_Bool, or_left, or_right, or_cases, eqb-true, eq-eqb}
use Rattle.std.proofs.lemmas.Bool.Decides.{nat_tests}
use Rattle.run_data.specs.Matrix.{Matrix}
use Rattle.run_data.specs.declared.command.Command.{Command}
use Rattle.run_data.specs.declared.command.Command.TheVariants as c
use Rattle.run_data.specs.Script.{Numbered, commands_from, commands_of, makes_records, modulus_of}
use Rattle.blacs_grid.specs.declared.Grid.{Grid}
use Rattle.rank_machine.specs.Setting.{Job, Setting, some_job, is_job}
use Rattle.rank_machine.specs.Scripts.{Matrices, jobs_from, job_of, grids_from, setting_of}
use Rattle.rank_machine.specs.State.{Took}
use Rattle.rank_machine.proofs.Jobs.{job_of-line}
use Rattle.script_bounds.specs.Bounds.{records_in, plain_bound, bound, losses}
use Rattle.line_laws.specs.Lines.{values_after, text_added}
use Rattle.serial_model.specs.Serial.{Values, text_from}
use Rattle.whole_run.specs.PrintedFrom.{IsTextOf, ArePrinted}
use Rattle.serial_model.specs.Serial.{up_to}
use Rattle.whole_run.specs.Until.{bound_until}
use Rattle.whole_run.specs.Between.{cost}

-- ---- a line without records
none_printed : (s : Setting) (ns : List Numbered) (taken : List Took) (line : ℕ) (x : Command) (text : List ℕ) → makes_records x ≡ false → IsTextOf s ns taken line x text → text ≡ []
none_printed s ns taken line (c.Print name) text e h = absurd (true≢false e)
none_printed s ns taken line (c.Pivots name) text e h = absurd (true≢false e)
none_printed s ns taken line (c.Ptrsm side uplo transa diag m n alpha a ia ja b ib jb) text e h = absurd (true≢false e)
none_printed s ns taken line (c.Pgetrf m n a ia ja v) text e h = absurd (true≢false e)
none_printed s ns taken line (c.Pgetrs trans n nrhs a ia ja v b ib jb) text e h = absurd (true≢false e)
none_printed s ns taken line (c.Pgemm transa transb m n k alpha a ia ja b ib jb beta x ic jc) text e h = absurd (true≢false e)
none_printed s ns taken line (c.Matrix name grid m n mb nb rsrc csrc file) text e h = absurd (true≢false e)
none_printed s ns taken line (c.Pgemr2d m n a ia ja b ib jb ctxt) text e h = absurd (true≢false e)
none_printed s ns taken line (c.Discard name) text e h = absurd (true≢false e)
none_printed s ns taken line (c.Grid name p q f) text e h = h
none_printed s ns taken line (c.Topology kind) text e h = h
none_printed s ns taken line (c.Links n) text e h = h
none_printed s ns taken line (c.Order numbers) text e h = h
none_printed s ns taken line (c.Lose at rank) text e h = h
none_printed s ns taken line (c.Spares n) text e h = h
none_printed s ns taken line (c.Field n) text e h = h
none_printed s ns taken line (c.Ptran m n alpha a ia ja beta x ic jc) text e h = absurd (true≢false e)
none_printed s ns taken line (c.Pgetri n a ia ja v b ib jb) text e h = absurd (true≢false e)
none_printed s ns taken line (c.Flip name i j x) text e h = h
none_printed s ns taken line (c.Pverify name) text e h = absurd (true≢false e)

pub says_nothing : (s : Setting) (ns : List Numbered) (taken : List Took) (line : ℕ) (x : Command) → makes_records x ≡ false → IsTextOf s ns taken line x []
says_nothing s ns taken line (c.Print name) e = absurd (true≢false e)
says_nothing s ns taken line (c.Pivots name) e = absurd (true≢false e)
says_nothing s ns taken line (c.Ptrsm side uplo transa diag m n alpha a ia ja b ib jb) e = absurd (true≢false e)
says_nothing s ns taken line (c.Pgetrf m n a ia ja v) e = absurd (true≢false e)
says_nothing s ns taken line (c.Pgetrs trans n nrhs a ia ja v b ib jb) e = absurd (true≢false e)
says_nothing s ns taken line (c.Pgemm transa transb m n k alpha a ia ja b ib jb beta x ic jc) e = refl
says_nothing s ns taken line (c.Matrix name grid m n mb nb rsrc csrc file) e = refl
says_nothing s ns taken line (c.Pgemr2d m n a ia ja b ib jb ctxt) e = refl
says_nothing s ns taken line (c.Discard name) e = refl
says_nothing s ns taken line (c.Grid name p q f) e = refl
says_nothing s ns taken line (c.Topology kind) e = refl
says_nothing s ns taken line (c.Links n) e = refl
says_nothing s ns taken line (c.Order numbers) e = refl
says_nothing s ns taken line (c.Lose at rank) e = refl
says_nothing s ns taken line (c.Spares n) e = refl
says_nothing s ns taken line (c.Field n) e = refl
says_nothing s ns taken line (c.Ptran m n alpha a ia ja beta x ic jc) e = refl
says_nothing s ns taken line (c.Pgetri n a ia ja v b ib jb) e = absurd (true≢false e)
says_nothing s ns taken line (c.Flip name i j x) e = refl
says_nothing s ns taken line (c.Pverify name) e = absurd (true≢false e)

pub none_added : (script : List Numbered) (line : ℕ) (x : Command) (values : Values) → makes_records x ≡ false → text_added script line x values ≡ []
none_added script line (c.Print name) values e = absurd (true≢false e)
none_added script line (c.Pivots name) values e = absurd (true≢false e)
none_added script line (c.Ptrsm side uplo transa diag m n alpha a ia ja b ib jb) values e = absurd (true≢false e)
none_added script line (c.Pgetrf m n a ia ja v) values e = absurd (true≢false e)
none_added script line (c.Pgetrs trans n nrhs a ia ja v b ib jb) values e = absurd (true≢false e)
none_added script line (c.Pgemm transa transb m n k alpha a ia ja b ib jb beta x ic jc) values e = absurd (true≢false e)
none_added script line (c.Matrix name grid m n mb nb rsrc csrc file) values e = absurd (true≢false e)
none_added script line (c.Pgemr2d m n a ia ja b ib jb ctxt) values e = absurd (true≢false e)
none_added script line (c.Discard name) values e = absurd (true≢false e)
none_added script line (c.Grid name p q f) values e = refl
none_added script line (c.Topology kind) values e = refl
none_added script line (c.Links n) values e = refl
none_added script line (c.Order numbers) values e = refl
none_added script line (c.Lose at rank) values e = refl
none_added script line (c.Spares n) values e = refl
none_added script line (c.Field n) values e = refl
none_added script line (c.Ptran m n alpha a ia ja beta x ic jc) values e = absurd (true≢false e)
none_added script line (c.Pgetri n a ia ja v b ib jb) values e = absurd (true≢false e)
none_added script line (c.Flip name i j x) values e = refl
none_added script line (c.Pverify name) values e = absurd (true≢false e)

pub same_values : (modulus : ℕ) (files : ℕ → Matrix) (line : ℕ) (x : Command) (values : Values) → makes_records x ≡ false → values_after modulus files line x values ≡ values
same_values modulus files line (c.Print name) values e = absurd (true≢false e)
same_values modulus files line (c.Pivots name) values e = absurd (true≢false e)
same_values modulus files line (c.Ptrsm side uplo transa diag m n alpha a ia ja b ib jb) values e = absurd (true≢false e)
same_values modulus files line (c.Pgetrf m n a ia ja v) values e = absurd (true≢false e)
same_values modulus files line (c.Pgetrs trans n nrhs a ia ja v b ib jb) values e = absurd (true≢false e)
same_values modulus files line (c.Pgemm transa transb m n k alpha a ia ja b ib jb beta x ic jc) values e = absurd (true≢false e)
same_values modulus files line (c.Matrix name grid m n mb nb rsrc csrc file) values e = absurd (true≢false e)
same_values modulus files line (c.Pgemr2d m n a ia ja b ib jb ctxt) values e = absurd (true≢false e)
same_values modulus files line (c.Discard name) values e = absurd (true≢false e)
same_values modulus files line (c.Grid name p q f) values e = refl
same_values modulus files line (c.Topology kind) values e = refl
same_values modulus files line (c.Links n) values e = refl
same_values modulus files line (c.Order numbers) values e = refl
same_values modulus files line (c.Lose at rank) values e = refl
same_values modulus files line (c.Spares n) values e = refl
same_values modulus files line (c.Field n) values e = refl
same_values modulus files line (c.Ptran m n alpha a ia ja beta x ic jc) values e = absurd (true≢false e)
same_values modulus files line (c.Pgetri n a ia ja v b ib jb) values e = absurd (true≢false e)
same_values modulus files line (c.Flip name i j x) values e = refl
same_values modulus files line (c.Pverify name) values e = absurd (true≢false e)

-- ---- lines up to one, or up to the last one of these that makes records
abbrev pub IsBy : ℕ → ℕ → Numbered → Type 0
IsBy line last n = makes_records n.command ≡ true → nat_le n.line line ≡ true → nat_le n.line last ≡ true

within : (a b n : ℕ) → nat_le a b ≡ true → nat_le n a ≡ true → nat_le n b ≡ true
within a b n e h = grind (arith, nat_tests)

not_made : (line last : ℕ) (n : Numbered) → IsBy line last n → nat_le n.line line ≡ true → nat_le n.line last ≡ false → makes_records n.command ≡ false
not_made line last n by here past =
    ⊎_elim (λ (e : makes_records n.command ≡ true). absurd (true≢false (sym (by e here) ∙ past))) (λ (e : makes_records n.command ≡ false). e) (cases_Bool (makes_records n.command))

module _ (line last : ℕ) (le : nat_le last line ≡ true) where
  pub printed-shorter : (s : Setting) (ns : List Numbered) (taken : List Took) (xs : List Numbered) (text : List ℕ) → All (IsBy line last) xs → ArePrinted s ns taken (up_to line xs) text → ArePrinted s ns taken (up_to last xs) text
  printed-shorter s ns taken [] text by h = h
  printed-shorter s ns taken (n ∷ xs) text by h =
      ⊎_elim
      (λ (in_last : nat_le n.line last ≡ true).
      let here : nat_le n.line line ≡ true = within last line n.line le in_last in
      let p : ArePrinted s ns taken (n ∷ up_to line xs) text = subst (λ b. ArePrinted s ns taken (if b then n ∷ up_to line xs else up_to line xs) text) here h in
      rw in_last (p.0, p.1, p.2, printed-shorter s ns taken xs p.1 (All-tail (IsBy line last) n xs by) p.3, p.4))
      (λ (past : nat_le n.line last ≡ false). ⊎_elim
      (λ (here : nat_le n.line line ≡ true).
      let p : ArePrinted s ns taken (n ∷ up_to line xs) text = subst (λ b. ArePrinted s ns taken (if b then n ∷ up_to line xs else up_to line xs) text) here h in
      let none : p.0 ≡ [] = none_printed s ns taken n.line n.command p.0 (not_made line last n (All-head (IsBy line last) n xs by) here past) p.2 in
      let same : text ≡ p.1 = p.4 ∙ ap (λ ws. ws ++ p.1) none in
      rw past (printed-shorter s ns taken xs text (All-tail (IsBy line last) n xs by) (subst (λ ws. ArePrinted s ns taken (up_to line xs) ws) (sym same) p.3)))
      (λ (out : nat_le n.line line ≡ false).
      rw past (printed-shorter s ns taken xs text (All-tail (IsBy line last) n xs by) (subst (λ b. ArePrinted s ns taken (if b then n ∷ up_to line xs else up_to line xs) text) out h)))
      (cases_Bool (nat_le n.line line)))
      (cases_Bool (nat_le n.line last))

  pub text-shorter : (files : ℕ → Matrix) (script xs : List Numbered) (values : Values) → All (IsBy line last) xs → text_from files script (up_to line xs) values ≡ text_from files script (up_to last xs) values
  text-shorter files script [] values by = refl
  text-shorter files script (n ∷ xs) values by =
      let p : ℕ = modulus_of script in
      let next : Values = values_after p files n.line n.command values in
      let more : All (IsBy line last) xs = All-tail (IsBy line last) n xs by in
      ⊎_elim
      (λ (in_last : nat_le n.line last ≡ true).
      let here : nat_le n.line line ≡ true = within last line n.line le in_last in
      rw (in_last, here) (ap (λ ws. text_added script n.line n.command values ++ ws) (text-shorter files script xs next more)))
      (λ (past : nat_le n.line last ≡ false). ⊎_elim
      (λ (here : nat_le n.line line ≡ true).
      let none : makes_records n.command ≡ false = not_made line last n (All-head (IsBy line last) n xs by) here past in
      rw (past, here) (ap (λ ws. ws ++ text_from files script (up_to line xs) next) (none_added script n.line n.command values none)
      ∙ (ap (text_from files script (up_to line xs)) (same_values p files n.line n.command values none) ∙ text-shorter files script xs values more)))
      (λ (out : nat_le n.line line ≡ false). rw (past, out) (text-shorter files script xs values more))
      (cases_Bool (nat_le n.line line)))
      (cases_Bool (nat_le n.line last))

-- ---- which lines make records
by_jobs : (ns : List Numbered) (grids : List Grid) (line last : ℕ) (xs : List Numbered) → ((at : ℕ) → some_job (jobs_from ns grids xs) (λ j. j.line == at) ≡ true → nat_le at line ≡ true → nat_le at last ≡ true) → All (IsBy line last) xs
by_jobs ns grids line last [] h = All-nil (IsBy line last)
by_jobs ns grids line last (n ∷ xs) h =
    ⊎_elim
    (λ (e : makes_records n.command ≡ true).
    let j : Job = job_of ns grids n.line n.command in
    let jobs : some_jobs (n ∷ xs) ≡ j ∷ some_jobs xs = rw e refl in
    let here : (j.line == n.line) ≡ true = eq-eqb j.line n.line (job_of-line ns grids n.line n.command) in
    All-cons (IsBy line last) n xs
    (λ _ le. h n.line (ap (λ js. some_job js (λ j. j.line == n.line)) jobs ∙ or_left (j.line == n.line) (some_job (some_jobs xs) (λ j. j.line == n.line)) here) le)
    (by_jobs ns grids line last xs (λ at is le. h at (ap (λ js. some_job js (λ j. j.line == at)) jobs ∙ or_right (j.line == at) (some_job (some_jobs xs) (λ j. j.line == at)) is) le)))
    (λ (e : makes_records n.command ≡ false).
    let jobs : some_jobs (n ∷ xs) ≡ some_jobs xs = rw e refl in
    All-cons (IsBy line last) n xs (λ made _. absurd (true≢false (sym made ∙ e))) (by_jobs ns grids line last xs (λ at is le. h at (ap (λ js. some_job js (λ j. j.line == at)) jobs ∙ is) le)))
    (cases_Bool (makes_records n.command))
  where
    some_jobs : List Numbered → List Job
    some_jobs xs = jobs_from ns grids xs

pub all-by : (script : List (Option Command)) (files : Matrices) (line last : ℕ) → ((at : ℕ) → is_job (setting_of script files) at ≡ true → nat_le at line ≡ true → nat_le at last ≡ true) → All (IsBy line last) (commands_of script)
all-by script files line last h = by_jobs (commands_of script) (grids_from 0 (commands_of script)) line last (commands_of script) h

-- no line after the last makes any
job_below : (ns : List Numbered) (grids : List Grid) (n : ℕ) (lines : List (Option Command)) (at : ℕ) → some_job (jobs_from ns grids (commands_from n lines)) (λ j. j.line == at) ≡ true → at < n + length lines
job_below ns grids n [] at h = absurd (true≢false (sym h))
job_below ns grids n (None ∷ lines) at h = omega (arith, job_below ns grids (suc n) lines at h)
job_below ns grids n (Some x ∷ lines) at h =
    ⊎_elim
    (λ (e : makes_records x ≡ true).
    let j : Job = job_of ns grids n x in
    ⊎_elim
    (λ (is : (j.line == at) ≡ true). omega (arith, eqb-true j.line at is, job_of-line ns grids n x))
    (λ (is : some_job (jobs_from ns grids (commands_from (suc n) lines)) (λ j. j.line == at) ≡ true). omega (arith, job_below ns grids (suc n) lines at is))
    (or_cases (j.line == at) (some_job (jobs_from ns grids (commands_from (suc n) lines)) (λ j. j.line == at))
    (subst (λ b. some_job (if b then j ∷ jobs_from ns grids (commands_from (suc n) lines) else jobs_from ns grids (commands_from (suc n) lines)) (λ j. j.line == at) ≡ true) e h)))
    (λ (e : makes_records x ≡ false).
    omega (arith, job_below ns grids (suc n) lines at (subst (λ b. some_job (if b then job_of ns grids n x ∷ jobs_from ns grids (commands_from (suc n) lines) else jobs_from ns grids (commands_from (suc n) lines)) (λ j. j.line == at) ≡ true) e h)))
    (cases_Bool (makes_records x))

pub job-last : (script : List (Option Command)) (files : Matrices) (at : ℕ) → is_job (setting_of script files) at ≡ true → at ≤ length script
job-last script files at h = omega (arith, job_below (commands_of script) (grids_from 0 (commands_of script)) 1 script at h)

-- ---- counts
few_of : (f : Numbered → ℕ) (line : ℕ) (xs : List Numbered) → sum_by f (up_to line xs) ≤ sum_by f xs
few_of f line [] = omega arith
few_of f line (n ∷ xs) =
    ⊎_elim
    (λ (e : nat_le n.line line ≡ true). rw e (omega (arith, few_of f line xs, sum_by-cons f n (up_to line xs), sum_by-cons f n xs)))
    (λ (e : nat_le n.line line ≡ false). rw e (omega (arith, few_of f line xs, sum_by-cons f n xs)))
    (cases_Bool (nat_le n.line line))

pub few-until : (line : ℕ) (ns : List Numbered) → bound_until line ns ≤ plain_bound ns
unfolding plain_bound
few-until line ns = few_of (λ n. records_in ns n.line n.command) line ns

pub bound-is : (ns : List Numbered) → bound ns ≡ plain_bound ns + losses ns * cost ns
unfolding bound
bound-is ns = refl
