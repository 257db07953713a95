-- What the computed test says of a journal is what the facts say.
use Rattle.std.proofs.Common.{◌∙◌, ◌≡◌, ◌+◌, ◌*◌, ◌%◌, ◌<◌, ◌≤◌, ◌⊎◌, ◌&&◌, ◌||◌, ◌==◌, ◌∷◌, ℕ, zero, suc, Bool, true, false, Option, Some, None, is_some, List, length, refl, ⊎_elim, ap, arith, sym, subst, inl, inr, []}
use Rattle.std.specs.Prelude.{slice_index_or, nat_lt, nat_le, min, Contains}
use Rattle.cauchy_code.specs.Cauchy.{IsDecoding}
use Rattle.blacs_grid.specs.declared.Grid.{Grid}
use Rattle.blacs_grid.specs.Places.{width, row_of, rank_at}
use Rattle.rank_machine.specs.declared.slot.SlotKind.TheVariants.{Data, Code, Low, Open, Pivots}
use Rattle.rank_machine.specs.declared.slot.Tile.{Tile}
use Rattle.rank_machine.specs.declared.slot.Tile.TheVariants.{Words, Index}
use Rattle.rank_machine.specs.declared.mark.Mark.{Mark}
use Rattle.rank_machine.specs.declared.record.Rec.{Rec}
use Rattle.rank_machine.specs.declared.record.Rec.TheVariants as r
use Rattle.rank_machine.specs.declared.layout.Layout.{Layout}
use Rattle.rank_machine.specs.Setting.{Job, Setting, all_below, all_jobs, grid_of_rank, no_job, job_in, layout, is_matrix, factored, group_count, strip_rows, block_at, global_col}
use Rattle.rank_machine.specs.State.{State, opened}
use Rattle.rank_machine.specs.Effect.{numbers_of, is_index, has_ended, is_live_matrix, is_live_list, after}
use Rattle.rank_machine.specs.CodeLaw.{slot_at, has_low, has_open, is_open_group, data_word, code_word, symbol, weighted_sum, is_multiplier, is_open_column, is_strip_of, IsPlace, MatrixLaw, ListLaw, pivots_of, CodeLaw}
use Rattle.rank_machine.specs.Marks.{same_bool, has_numbers}
use Rattle.rank_machine.specs.Legal.{factor_of, is_among, is_plain_factor, lost_columns, IsDecodingEntry, FactorOf, some_lost, IsNext, IsLegalRec, IsLegalFrom, IsLegal}
use Rattle.rank_machine.specs.Tests.{each_place, when, data_test, sums_test, code_test, open_test, group_test, matrix_test, same_numbers, list_test, matrix_test_if, list_test_if, law_test, Known, same_bools, is_known, factor_test, same_mark, next_test, rec_test, legal_from, legal_test}
use Rattle.std.proofs.lemmas.Bool.{eqb-true, and_parts, cases_lt, cases_Bool}
use Rattle.std.proofs.lemmas.Bool.Decides.{nat_tests}

-- ---- small steps
pub all_below-at : (n : ℕ) (f : ℕ → Bool) (i : ℕ) → all_below n f ≡ true → i < n → f i ≡ true
all_below-at zero f i h l = absurd (omega arith)
all_below-at (suc n) f i h l =
    let p = and_parts (all_below n f) (f n) h in
    ⊎_elim (λ (q : i < n). all_below-at n f i p.0 q) (λ (q : n ≤ i). let e : i ≡ n = omega arith in ap f e ∙ p.1) (cases_lt i n)

first : (a b : Bool) → (a && b) ≡ true → a ≡ true
first a b h = (and_parts a b h).0

rest : (a b : Bool) → (a && b) ≡ true → b ≡ true
rest a b h = (and_parts a b h).1

when-holds : (a b : Bool) → when a b ≡ true → a ≡ true → b ≡ true
when-holds true b h e = h
when-holds false b h e = absurd (cc)

or_cases : (a b : Bool) → (a || b) ≡ true → (a ≡ true) ⊎ (b ≡ true)
or_cases true b h = inl refl
or_cases false b h = inr h

same_bool-true : (a b : Bool) → same_bool a b ≡ true → a ≡ b
same_bool-true true true h = refl
same_bool-true true false h = absurd (cc)
same_bool-true false true h = absurd (cc)
same_bool-true false false h = refl

same_numbers-true : (xs ys : List ℕ) → same_numbers xs ys ≡ true → xs ≡ ys
same_numbers-true [] [] h = refl
same_numbers-true [] (y ∷ ys) h = absurd (cc)
same_numbers-true (x ∷ xs) [] h = absurd (cc)
same_numbers-true (x ∷ xs) (y ∷ ys) h =
    let a : x ≡ y = eqb-true x y (first (x == y) (same_numbers xs ys) h) in
    let b : xs ≡ ys = same_numbers-true xs ys (rest (x == y) (same_numbers xs ys) h) in
    cc

same_bools-true : (xs ys : List Bool) → same_bools xs ys ≡ true → xs ≡ ys
same_bools-true [] [] h = refl
same_bools-true [] (y ∷ ys) h = absurd (cc)
same_bools-true (x ∷ xs) [] h = absurd (cc)
same_bools-true (x ∷ xs) (y ∷ ys) h =
    let a : x ≡ y = same_bool-true x y (first (same_bool x y) (same_bools xs ys) h) in
    let b : xs ≡ ys = same_bools-true xs ys (rest (same_bool x y) (same_bools xs ys) h) in
    cc

index_is : (t : Option Tile) (ns : List ℕ) → (is_index t && same_numbers (numbers_of t) ns) ≡ true → t ≡ Some (Index ns)
index_is None ns h = absurd (cc)
index_is (Some (Words m)) ns h = absurd (cc)
index_is (Some (Index ms)) ns h = ap (λ n. Some (Index n)) (same_numbers-true ms ns h)

-- ---- the code law
each_place-at : (d : Layout) (row group i j : ℕ) (f : ℕ → ℕ → Bool) → each_place d row f ≡ true → IsPlace d row group i j → f i j ≡ true
each_place-at d row group i j f h p = all_below-at d.desc.nb (f i) j (all_below-at (strip_rows d row) (λ n. all_below d.desc.nb (f n)) i h p.i_in) p.j_in

three_parts : (a b c d e : Bool) → (a && (when b c && when d e)) ≡ true → (a ≡ true) × (b ≡ true → c ≡ true) × (d ≡ true → e ≡ true)
three_parts a b c d e h =
    let x = and_parts a (when b c && when d e) h in
    let y = and_parts (when b c) (when d e) x.1 in
    (x.0, when-holds b c y.0, when-holds d e y.1)

row_at : (s : Setting) (st : State) (mark : Mark) (line : ℕ) (d : Layout) (row : ℕ) → matrix_test s st mark line d ≡ true → row < d.grid.p
    → (all_below d.grid.f (λ c. open_test s st mark line d row c) ≡ true) × (all_below (group_count d) (λ group. group_test s st mark line d row group) ≡ true)
row_at s st mark line d row h a =
    and_parts _ _ (all_below-at d.grid.p (λ row. all_below d.grid.f (λ c. open_test s st mark line d row c) && all_below (group_count d) (λ group. group_test s st mark line d row group)) row h a)

group_at : (s : Setting) (st : State) (mark : Mark) (line : ℕ) (d : Layout) (row group : ℕ) → matrix_test s st mark line d ≡ true → row < d.grid.p → group < group_count d
    → (all_below d.grid.q (λ col. data_test s st line d row group col) ≡ true) × (all_below d.grid.f (λ c. code_test s st mark line d row group c) ≡ true)
group_at s st mark line d row group h a b = and_parts _ _ (all_below-at (group_count d) (λ group. group_test s st mark line d row group) group (row_at s st mark line d row h a).1 b)

data_at : (s : Setting) (st : State) (mark : Mark) (line : ℕ) (d : Layout) (row group col : ℕ) → matrix_test s st mark line d ≡ true → row < d.grid.p → group < group_count d → col < d.grid.q
    → (is_strip_of d row (st.tiles (rank_at d.grid row col) (slot_at Data line group)) ≡ true) × (each_place d row (λ i j. nat_lt (global_col d (block_at d group col) j) d.desc.n || (data_word st line d row group col i j == 0)) ≡ true)
data_at s st mark line d row group col h a b e = and_parts _ _ (all_below-at d.grid.q (λ col. data_test s st line d row group col) col (group_at s st mark line d row group h a b).0 e)

code_at : (s : Setting) (st : State) (mark : Mark) (line : ℕ) (d : Layout) (row group c : ℕ) → matrix_test s st mark line d ≡ true → row < d.grid.p → group < group_count d → c < d.grid.f
    → (is_strip_of d row (st.tiles (rank_at d.grid row (d.grid.q + c)) (slot_at Code line group)) ≡ true)
    × (when (has_low s mark line group) (is_strip_of d row (st.tiles (rank_at d.grid row (d.grid.q + c)) (slot_at Low line group))) ≡ true)
    × (each_place d row (λ i j. sums_test s st mark line d row group c i j) ≡ true)
code_at s st mark line d row group c h a b e =
    let x = and_parts (is_strip_of d row (st.tiles (rank_at d.grid row (d.grid.q + c)) (slot_at Code line group)))
    (when (has_low s mark line group) (is_strip_of d row (st.tiles (rank_at d.grid row (d.grid.q + c)) (slot_at Low line group))) && each_place d row (λ i j. sums_test s st mark line d row group c i j))
    (all_below-at d.grid.f (λ c. code_test s st mark line d row group c) c (group_at s st mark line d row group h a b).1 e) in
    let y = and_parts (when (has_low s mark line group) (is_strip_of d row (st.tiles (rank_at d.grid row (d.grid.q + c)) (slot_at Low line group)))) (each_place d row (λ i j. sums_test s st mark line d row group c i j)) x.1 in
    (x.0, y.0, y.1)

sums_at : (s : Setting) (st : State) (mark : Mark) (line : ℕ) (d : Layout) (row group c i j : ℕ) → matrix_test s st mark line d ≡ true → IsPlace d row group i j → c < d.grid.f
    → (symbol s st mark line d row group c i j % s.modulus ≡ weighted_sum s st line d row group c i j (λ col. true) % s.modulus)
    × (has_low s mark line group ≡ true → code_word st Low line d row group c i j % s.modulus ≡ weighted_sum s st line d row group c i j (is_multiplier mark d row group i j) % s.modulus)
    × (is_open_group s mark line d group ≡ true → code_word st Open line d row 0 c i j % s.modulus ≡ weighted_sum s st line d row group c i j (is_open_column mark d) % s.modulus)
sums_at s st mark line d row group c i j h p e =
    let x = three_parts _ _ _ _ _ (each_place-at d row group i j (λ i j. sums_test s st mark line d row group c i j) (code_at s st mark line d row group c h p.row_in p.group_in e).2 p) in
    (eqb-true _ _ x.0, (λ l. eqb-true _ _ (x.1 l)), (λ l. eqb-true _ _ (x.2 l)))

padded : (a b w : ℕ) → (nat_lt a b || (w == 0)) ≡ true → b ≤ a → w ≡ 0
padded a b w h l = ⊎_elim (λ (t : nat_lt a b ≡ true). absurd (grind (arith, nat_tests))) (λ (t : (w == 0) ≡ true). eqb-true w 0 t) (or_cases (nat_lt a b) (w == 0) h)

pub MatrixLaw-from_test : (s : Setting) (st : State) (mark : Mark) (line : ℕ) (d : Layout) → matrix_test s st mark line d ≡ true → MatrixLaw s st mark line d
MatrixLaw-from_test s st mark line d h =
    record {
      data_strips = λ row group col a b e. (data_at s st mark line d row group col h a b e).0;
      code_strips = λ row group c a b e. (code_at s st mark line d row group c h a b e).0;
      low_strips = λ row group c a b e l. when-holds (has_low s mark line group) _ (code_at s st mark line d row group c h a b e).1 l;
      open_strips = λ row c a e l. when-holds (has_open s mark line) _ (all_below-at d.grid.f (λ c. open_test s st mark line d row c) c (row_at s st mark line d row h a).0 e) l;
      padding = λ row group col i j p e l.
          padded (global_col d (block_at d group col) j) d.desc.n (data_word st line d row group col i j)
          (each_place-at d row group i j (λ i j. nat_lt (global_col d (block_at d group col) j) d.desc.n || (data_word st line d row group col i j == 0)) (data_at s st mark line d row group col h p.row_in p.group_in e).1 p) l;
      code = λ row group c i j p e. (sums_at s st mark line d row group c i j h p e).0;
      low = λ row group c i j p e l. (sums_at s st mark line d row group c i j h p e).1 l;
      panel = λ row group c i j p e l. (sums_at s st mark line d row group c i j h p e).2 l;
    }

le_of : (a b : ℕ) → nat_le a b ≡ true → a ≤ b
le_of a b h = grind (arith, nat_tests)

pub ListLaw-from_test : (st : State) (mark : Mark) (line : ℕ) (d : Layout) (ns : List ℕ) → list_test st mark line d ns ≡ true → ListLaw st mark line d ns
ListLaw-from_test st mark line d ns h =
    let holds = λ (place : ℕ). let t = st.tiles (d.grid.first + place) (slot_at Pivots line 0) in is_index t && same_numbers (numbers_of t) ns in
    let bounds = λ (i : ℕ). nat_le (i + 1) (slice_index_or ns i 0) && nat_le (slice_index_or ns i 0) d.desc.m in
    let x = and_parts (all_below (d.grid.p * width d.grid) holds) (all_below (length ns) bounds && when (has_ended mark line) (length ns == min d.desc.m d.desc.n)) h in
    let y = and_parts (all_below (length ns) bounds) (when (has_ended mark line) (length ns == min d.desc.m d.desc.n)) x.1 in
    record {
      same = λ place a. index_is (st.tiles (d.grid.first + place) (slot_at Pivots line 0)) ns (all_below-at (d.grid.p * width d.grid) holds place x.0 a);
      at_least = λ i a. le_of (i + 1) (slice_index_or ns i 0) (first (nat_le (i + 1) (slice_index_or ns i 0)) (nat_le (slice_index_or ns i 0) d.desc.m) (all_below-at (length ns) bounds i y.0 a));
      at_most = λ i a. le_of (slice_index_or ns i 0) d.desc.m (rest (nat_le (i + 1) (slice_index_or ns i 0)) (nat_le (slice_index_or ns i 0) d.desc.m) (all_below-at (length ns) bounds i y.0 a));
      whole = λ e. eqb-true (length ns) (min d.desc.m d.desc.n) (when-holds (has_ended mark line) (length ns == min d.desc.m d.desc.n) y.1 e);
    }

matrix_test-if : (b : Bool) (s : Setting) (st : State) (mark : Mark) (line : ℕ) → matrix_test_if b s st mark line ≡ true → b ≡ true → MatrixLaw s st mark line (layout s line)
matrix_test-if true s st mark line h e = MatrixLaw-from_test s st mark line (layout s line) h
matrix_test-if false s st mark line h e = absurd (cc)

list_test-if : (b : Bool) (s : Setting) (st : State) (mark : Mark) (line : ℕ) → list_test_if b s st mark line ≡ true → b ≡ true
    → ListLaw st mark line (layout s (factored s line)) (pivots_of st line (layout s (factored s line)))
list_test-if true s st mark line h e = ListLaw-from_test st mark line (layout s (factored s line)) (pivots_of st line (layout s (factored s line))) h
list_test-if false s st mark line h e = absurd (cc)

all_jobs-at : (js : List Job) (f : ℕ → Bool) (line : ℕ) → all_jobs js (λ j. f j.line) ≡ true → (f line ≡ true) ⊎ (job_in js line ≡ no_job line)
all_jobs-at [] f line h = inr refl
all_jobs-at (j ∷ js) f line h =
    let p = and_parts (f j.line) (all_jobs js (λ x. f x.line)) h in
    ⊎_elim
    (λ (e : (j.line == line) ≡ true). inl (ap f (sym (eqb-true j.line line e)) ∙ p.0))
    (λ (e : (j.line == line) ≡ false). ⊎_elim (λ (q : f line ≡ true). inl q) (λ (q : job_in js line ≡ no_job line). inr (rw e q)) (all_jobs-at js f line p.1))
    (cases_Bool (j.line == line))

no_matrix-here : (s : Setting) (mark : Mark) (line : ℕ) → job_in s.jobs line ≡ no_job line → is_live_matrix s mark line ≡ true → ⊥
no_matrix-here s mark line e h = let p : is_matrix s line ≡ true = (and_parts (is_matrix s line) (has_ended mark line) (and_parts _ _ h).0).0 in let q : false ≡ true = sym (ap (λ j. is_some j.makes) e) ∙ p in cc

no_list-here : (s : Setting) (mark : Mark) (line : ℕ) → job_in s.jobs line ≡ no_job line → is_live_list s mark line ≡ true → ⊥
no_list-here s mark line e h = let p : nat_lt 0 (factored s line) ≡ true = (and_parts (nat_lt 0 (factored s line)) (nat_le line mark.line) (and_parts _ _ h).0).0 in let q : false ≡ true = sym (ap (λ j. nat_lt 0 j.factors) e) ∙ p in cc

pub CodeLaw-from_test : (s : Setting) (st : State) (mark : Mark) → law_test s st mark ≡ true → CodeLaw s st mark
CodeLaw-from_test s st mark h =
    let of = λ (line : ℕ). matrix_test_if (is_live_matrix s mark line) s st mark line && list_test_if (is_live_list s mark line) s st mark line in
    record {
      matrices = λ line e.
          ⊎_elim (λ (t : of line ≡ true). matrix_test-if (is_live_matrix s mark line) s st mark line (and_parts (matrix_test_if (is_live_matrix s mark line) s st mark line) (list_test_if (is_live_list s mark line) s st mark line) t).0 e)
          (λ (n : job_in s.jobs line ≡ no_job line). absurd (no_matrix-here s mark line n e)) (all_jobs-at s.jobs of line h);
      lists = λ line e.
          ⊎_elim (λ (t : of line ≡ true). list_test-if (is_live_list s mark line) s st mark line (and_parts (matrix_test_if (is_live_matrix s mark line) s st mark line) (list_test_if (is_live_list s mark line) s st mark line) t).1 e)
          (λ (n : job_in s.jobs line ≡ no_job line). absurd (no_list-here s mark line n e)) (all_jobs-at s.jobs of line h);
    }

-- ---- factors
-- each list that counts as known decodes
abbrev pub AllDecode : Setting → List Known → Type 0
AllDecode s [] = Unit {0}
AllDecode s (t ∷ ts) = IsDecoding s.modulus s.inverse t.q t.lost t.which t.list × AllDecode s ts

contains-from : (xs : List ℕ) (a : ℕ) → is_among xs a ≡ true → Contains xs a
contains-from [] a h = absurd (cc)
contains-from (x ∷ xs) a h =
    ⊎_elim (λ (e : (x == a) ≡ true). (0, omega arith, eqb-true x a e)) (λ (e : is_among xs a ≡ true). let y = contains-from xs a e in (suc y.0, omega (arith, y.1), y.2)) (or_cases (x == a) (is_among xs a) h)

known-from : (s : Setting) (known : List Known) (g : Grid) (lost : List Bool) (a : ℕ) → AllDecode s known → is_known known g.q lost a ≡ true → IsDecodingEntry s g lost a
known-from s [] g lost a all h = absurd (cc)
known-from s (t ∷ ts) g lost a all h =
    ⊎_elim
    (λ (e : ((((t.q == g.q) && same_bools t.lost lost) && nat_lt t.which g.q) && (slice_index_or t.lost t.which false && is_among t.list a)) ≡ true).
    let x = and_parts (((t.q == g.q) && same_bools t.lost lost) && nat_lt t.which g.q) (slice_index_or t.lost t.which false && is_among t.list a) e in
    let y = and_parts ((t.q == g.q) && same_bools t.lost lost) (nat_lt t.which g.q) x.0 in
    let z = and_parts (t.q == g.q) (same_bools t.lost lost) y.0 in
    let u = and_parts (slice_index_or t.lost t.which false) (is_among t.list a) x.1 in
    let l : t.lost ≡ lost = same_bools-true t.lost lost z.1 in
    let q : t.q ≡ g.q = eqb-true t.q g.q z.0 in
    record {
      which = t.which;
      list = t.list;
      column = y.1;
      is_lost = subst (λ n. slice_index_or n t.which false ≡ true) l u.0;
      decodes = subst (λ n. IsDecoding s.modulus s.inverse g.q n t.which t.list) l (subst (λ n. IsDecoding s.modulus s.inverse n t.lost t.which t.list) q all.0);
      entry = contains-from t.list a u.1;
    })
    (λ (e : is_known ts g.q lost a ≡ true). known-from s ts g lost a all.1 e)
    (or_cases ((((t.q == g.q) && same_bools t.lost lost) && nat_lt t.which g.q) && (slice_index_or t.lost t.which false && is_among t.list a)) (is_known ts g.q lost a) h)

factor-from : (s : Setting) (known : List Known) (st : State) (rank : ℕ) (f : Option ℕ) → AllDecode s known → factor_test s known st rank f ≡ true → FactorOf s st rank f
factor-from s known st rank None all h = tt
factor-from s known st rank (Some a) all h =
    let g = grid_of_rank s rank in
    ⊎_elim (λ (e : is_plain_factor s st rank a ≡ true). inl e) (λ (e : is_known known g.q (lost_columns st g (row_of g rank)) a ≡ true). inr (known-from s known g (lost_columns st g (row_of g rank)) a all e)) (or_cases (is_plain_factor s st rank a) (is_known known g.q (lost_columns st g (row_of g rank)) a) h)

-- ---- records
same_mark-true : (a b : Mark) → same_mark a b ≡ true → a ≡ b
same_mark-true a b h =
    let x = and_parts ((a.line == b.line) && same_bool a.ended b.ended) (has_numbers a b.closed b.opened b.merged) h in
    let y = and_parts (a.line == b.line) (same_bool a.ended b.ended) x.0 in
    let z = and_parts ((a.closed == b.closed) && same_bool a.opened b.opened) (a.merged == b.merged) x.1 in
    let u = and_parts (a.closed == b.closed) (same_bool a.opened b.opened) z.0 in
    let e1 = eqb-true a.line b.line y.0 in
    let e2 = same_bool-true a.ended b.ended y.1 in
    let e3 = eqb-true a.closed b.closed u.0 in
    let e4 = same_bool-true a.opened b.opened u.1 in
    let e5 = eqb-true a.merged b.merged z.1 in
    λ i. record { line = e1 i; ended = e2 i; closed = e3 i; opened = e4 i; merged = e5 i }

next-from : (s : Setting) (st : State) (mark : Mark) (healed : Bool) → next_test s st mark healed ≡ true → IsNext s st mark healed
next-from s st mark true h = same_mark-true mark st.mark h
next-from s st mark false h = h

pub IsLegalRec-from_test : (s : Setting) (known : List Known) (st : State) (x : Rec) → AllDecode s known → rec_test s known st x ≡ true → IsLegalRec s st x
IsLegalRec-from_test s known st (r.Feed rank slot) all h =
    let a = and_parts _ _ h in
    let b = and_parts _ _ a.1 in
    let c = and_parts _ _ b.1 in
    let d = and_parts _ _ c.1 in
    let e = and_parts _ _ d.1 in
    let f = and_parts _ _ e.1 in
    record { live = a.0; kind = b.0; now = c.0; matrix = d.0; owner = e.0; group = f.0; writable = f.1 }
IsLegalRec-from_test s known st (r.Kernel rank kernel) all h =
    let a = and_parts _ _ h in
    let b = and_parts _ _ a.1 in
    let c = and_parts _ _ b.1 in
    let d = and_parts _ _ c.1 in
    let e = and_parts _ _ d.1 in
    let f = and_parts _ _ e.1 in
    let g = and_parts _ _ f.1 in
    let i = and_parts _ _ g.1 in
    record { live = a.0; held = b.0; writable = c.0; apart = d.0; shaped = e.0; divisors = f.0; placed = g.0; strips = i.0; factor = factor-from s known st rank (factor_of kernel) all i.1 }
IsLegalRec-from_test s known st (r.Send from to x) all h =
    let a = and_parts _ _ h in
    let b = and_parts _ _ a.1 in
    let c = and_parts _ _ b.1 in
    let d = and_parts _ _ c.1 in
    record { live = a.0; there = b.0; held = c.0; room = d.0; path = d.1 }
IsLegalRec-from_test s known st (r.Recv to from x) all h = let a = and_parts _ _ h in record { live = a.0; fitting = a.1 }
IsLegalRec-from_test s known st (r.Save rank slot) all h =
    let a = and_parts _ _ h in
    let b = and_parts _ _ a.1 in
    let c = and_parts _ _ b.1 in
    record { live = a.0; held = b.0; old = c.0; unsaved = c.1 }
IsLegalRec-from_test s known st (r.Take rank slot) all h =
    let a = and_parts _ _ h in
    let b = and_parts _ _ a.1 in
    record { live = a.0; held = b.0; allowed = b.1 }
IsLegalRec-from_test s known st r.Restore all h = tt
IsLegalRec-from_test s known st (r.Spawn rank) all h =
    let a = and_parts _ _ h in
    let b = and_parts _ _ a.1 in
    record { there = a.0; gone = b.0; spare = b.1 }
IsLegalRec-from_test s known st (r.Commit mark healed) all h =
    let a = and_parts _ _ h in
    let b = and_parts _ _ a.1 in
    let c = and_parts _ _ b.1 in
    let d = and_parts _ _ c.1 in
    record { live = a.0; empty = b.0; loss = same_bool-true (some_lost s st) healed c.0; next = next-from s st mark healed d.0; law = CodeLaw-from_test s st mark d.1 }
IsLegalRec-from_test s known st (r.Lose rank) all h = h

pub IsLegalFrom-from_test : (s : Setting) (known : List Known) (st : State) (journal : List Rec) → AllDecode s known → legal_from s known st journal ≡ true → IsLegalFrom s st journal
IsLegalFrom-from_test s known st [] all h = tt
IsLegalFrom-from_test s known st (x ∷ xs) all h =
    let a = and_parts (rec_test s known st x) (legal_from s known (after s st x) xs) h in
    (IsLegalRec-from_test s known st x all a.0, IsLegalFrom-from_test s known (after s st x) xs all a.1)

-- a journal that passes the test is legal
pub IsLegal-from_test : (s : Setting) (known : List Known) (journal : List Rec) → AllDecode s known → legal_test s known journal ≡ true → IsLegal s journal
IsLegal-from_test s known journal all h = IsLegalFrom-from_test s known (opened s) journal all h
