-- Lines of a table that are looked up by their numbers, and what a table says of drops.
use Rattle.std.proofs.Common.{◌≡◌, ◌≢◌, ◌&&◌, ◌||◌, ◌<◌, ◌≤◌, ℕ, zero, suc, Bool, true, false, not, Some, None, is_some, List, [], ◌∷◌, length, map, get_or, refl, sym, ap, subst, ◌∙◌, arith, ⊎_elim, All}
use Rattle.std.specs.Prelude.{◌==◌, if◌then◌else◌, nat_lt, nat_le, IfSome}
use Rattle.std.specs.List.Sorted.{IsPartitionedBy, IsPartitionPoint}
use Rattle.std.proofs.lemmas.Bool.{cases_Bool, cases_lt, true≢false}
use Rattle.std.proofs.lemmas.Bool.Decides.{nat_tests}
use Rattle.std.proofs.lemmas.List.Elements.{All-nil, All-cons, All-head, All-tail, All-weaker, All-get_or}
use Rattle.rank_machine.specs.declared.mark.Mark.{Mark}
use Rattle.rank_machine.specs.Setting.{Job, job_in, some_job, is_matrix, factored}
use Rattle.rank_machine.specs.Effect.{has_ended, is_dropped, is_live_matrix, is_live_list}
use Rattle.script_lines.specs.declared.lines.Line.{Line}
use Rattle.script_lines.specs.Layouts.{IsLayout}
use Rattle.script_lines.specs.Lines.{job_seen, setting_on, no_line, line_in, first_drop, is_dropped_by, AreRising, AreSound}

-- ---- the first line of a table, or one after it
is_other : (a b : ℕ) → a < b → (a == b) ≡ false
is_other a b lt = grind (arith, nat_tests)

is_other_turned : (a b : ℕ) → a < b → (b == a) ≡ false
is_other_turned a b lt = grind (arith, nat_tests)

is_same : (a b : ℕ) → a ≡ b → (a == b) ≡ true
is_same a b e = grind (arith, nat_tests)

first_line : (x : Line) (xs : List Line) (line : ℕ) → (x.line == line) ≡ true → line_in (x ∷ xs) line ≡ x
first_line x xs line e = rw e refl

past_line : (x : Line) (xs : List Line) (line : ℕ) → (x.line == line) ≡ false → line_in (x ∷ xs) line ≡ line_in xs line
past_line x xs line e = rw e refl

-- ---- what a table has on a line is what its jobs have
job_chosen : (here : Bool) (x after : Line) (j : Job) → job_seen after ≡ j → job_seen (if here then x else after) ≡ (if here then job_seen x else j)
job_chosen true x after j h = refl
job_chosen false x after j h = h

pub line_in-job : (table : List Line) (line : ℕ) → job_seen (line_in table line) ≡ job_in (map job_seen table) line
line_in-job [] line = refl
line_in-job (x ∷ xs) line = job_chosen (x.line == line) x (line_in xs line) (job_in (map job_seen xs) line) (line_in-job xs line)

number_chosen : (here : Bool) (x after : Line) (line : ℕ) → (here ≡ true → x.line ≡ line) → after.line ≡ line → (if here then x else after).line ≡ line
number_chosen true x after line e h = e refl
number_chosen false x after line e h = h

same_number : (a b : ℕ) → (a == b) ≡ true → a ≡ b
same_number a b e = grind (arith, nat_tests)

line_in-number : (table : List Line) (line : ℕ) → (line_in table line).line ≡ line
line_in-number [] line = refl
line_in-number (x ∷ xs) line = number_chosen (x.line == line) x (line_in xs line) line (same_number x.line line) (line_in-number xs line)

-- what each line of a table has, and one that asks nothing, the line of a number has
all_chosen : (P : Line → Type 0) (here : Bool) (x after : Line) → P x → P after → P (if here then x else after)
all_chosen P true x after h k = h
all_chosen P false x after h k = k

line_in-all : (P : Line → Type 0) (table : List Line) (line : ℕ) → All P table → P (no_line line) → P (line_in table line)
line_in-all P [] line h none = none
line_in-all P (x ∷ xs) line h none = all_chosen P (x.line == line) x (line_in xs line) (All-head P x xs h) (line_in-all P xs line (All-tail P x xs h) none)

-- ---- a search by halving
-- a line is found where it stands
pub found_at : (xs : List Line) (line i : ℕ) (d : Line) → AreRising xs → i < length xs → (get_or xs i d).line ≡ line → line_in xs line ≡ get_or xs i d
found_at [] line i d rising lt e = absurd (omega arith)
found_at (x ∷ xs) line zero d rising lt e = first_line x xs line (is_same x.line line e)
found_at (x ∷ xs) line (suc i) d rising lt e =
    let later : x.line < (get_or xs i d).line = All-get_or (λ (y : Line). x.line < y.line) xs i d (omega arith) rising.0 in
    past_line x xs line (is_other x.line line (subst (λ n. x.line < n) e later)) ∙ found_at xs line i d rising.1 (omega arith) e

-- a line before all of a table is none of it
none_after : (xs : List Line) (line : ℕ) → All (λ (y : Line). line < y.line) xs → line_in xs line ≡ no_line line
none_after [] line h = refl
none_after (x ∷ xs) line h =
    past_line x xs line (is_other_turned line x.line (All-head (λ (y : Line). line < y.line) x xs h)) ∙ none_after xs line (All-tail (λ (y : Line). line < y.line) x xs h)

-- where the lines before a number end
abbrev pub EndsAt : List Line → ℕ → ℕ → Type 0
EndsAt xs line i = IsPartitionPoint (λ (y : Line). nat_lt y.line line ≡ true) (λ (y : Line). nat_lt y.line line ≡ false) xs i

is_past : (a b : ℕ) → nat_lt a b ≡ false → (a == b) ≡ false → b < a
is_past a b h e = grind (arith, nat_tests)

is_before : (a b : ℕ) → nat_lt a b ≡ true → a < b
is_before a b h = grind (arith, nat_tests)

not_same : (a b : ℕ) → a ≢ b → (a == b) ≡ false
not_same a b h = ⊎_elim (λ (e : (a == b) ≡ true). absurd (h (same_number a b e))) (λ (e : (a == b) ≡ false). e) (cases_Bool (a == b))

-- a number that doesn't stand there is none of the table
pub missing_at : (xs : List Line) (line i : ℕ) (d : Line) → AreRising xs → EndsAt xs line i → (i < length xs → (get_or xs i d).line ≢ line) → line_in xs line ≡ no_line line
missing_at [] line i d rising ends other = refl
missing_at (x ∷ xs) line zero d rising ends other =
    let e : (x.line == line) ≡ false = not_same x.line line (other (omega arith)) in
    let past : line < x.line = is_past x.line line (ends.1 0 x (omega arith) (omega arith)) e in
    past_line x xs line e ∙ none_after xs line (All-weaker (λ (y : Line). x.line < y.line) (λ (y : Line). line < y.line) (λ y lt. omega (arith, lt, past)) xs rising.0)
missing_at (x ∷ xs) line (suc i) d rising ends other =
    let rest : EndsAt xs line i = (λ k e lo hi. ends.0 (suc k) e (omega arith) (omega arith), λ k e lo hi. ends.1 (suc k) e (omega arith) (omega arith)) in
    past_line x xs line (is_other x.line line (is_before x.line line (ends.0 0 x (omega arith) (omega arith)))) ∙ missing_at xs line i d rising.1 rest (λ lt. other (omega arith))

-- whatever stands before a line before a number comes before it too
far_before : (xs : List Line) (i j : ℕ) (d : Line) → AreRising xs → i < j → j < length xs → (get_or xs i d).line < (get_or xs j d).line
far_before [] i j d rising lt in_range = absurd (omega arith)
far_before (x ∷ xs) i zero d rising lt in_range = absurd (omega arith)
far_before (x ∷ xs) zero (suc j) d rising lt in_range = All-get_or (λ (y : Line). x.line < y.line) xs j d (omega arith) rising.0
far_before (x ∷ xs) (suc i) (suc j) d rising lt in_range = far_before xs i j d rising.1 (omega arith) (omega arith)

before_too : (a b line : ℕ) → a < b → nat_lt b line ≡ true → nat_lt a line ≡ true
before_too a b line lt h = grind (arith, nat_tests)

pub parted : (xs : List Line) (line : ℕ) → AreRising xs → IsPartitionedBy (λ (y : Line). nat_lt y.line line) xs
parted xs line rising i j d le lt b =
    ⊎_elim
    (λ (l : i < j). before_too (get_or xs i d).line (get_or xs j d).line line (far_before xs i j d rising l lt) b)
    (λ (l : j ≤ i). let e : j ≡ i = omega arith in ap (λ k. nat_lt (get_or xs k d).line line) (sym e) ∙ b)
    (cases_lt i j)

-- ---- drops
-- what has not ended has not ended before what comes later
later_open : (mark : Mark) (ended : Bool) (a b : ℕ) → a < b → (nat_lt a mark.line || ((a == mark.line) && ended)) ≡ false → (nat_lt b mark.line || ((b == mark.line) && ended)) ≡ false
later_open mark ended a b lt h =
    ⊎_elim
    (λ (l : nat_lt a mark.line ≡ true). absurd (true≢false (sym (ap (λ t. t || ((a == mark.line) && ended)) l) ∙ h)))
    (λ (l : nat_lt a mark.line ≡ false).
    let past : nat_lt b mark.line ≡ false = grind (arith, nat_tests) in
    let other : (b == mark.line) ≡ false = grind (arith, nat_tests) in
    (λ i. past i || (other i && ended)))
    (cases_Bool (nat_lt a mark.line))

none_open : (xs : List Line) (mark : Mark) (line what : ℕ) → All (λ (y : Line). line < y.line) xs → has_ended mark line ≡ false → some_job (map job_seen xs) (λ j. has_ended mark j.line && (j.drops == what)) ≡ false
none_open [] mark line what h e = refl
none_open (x ∷ xs) mark line what h e =
    let P : Line → Type 0 = λ y. line < y.line in
    let here : has_ended mark x.line ≡ false = later_open mark mark.ended line x.line (All-head P x xs h) e in
    (λ i. (here i && (x.drops == what)) || none_open xs mark line what (All-tail P x xs h) e i)

and_true : (a b : Bool) → b ≡ true → (a && b) ≡ a
and_true true b e = e
and_true false b e = refl

and_false : (a b : Bool) → b ≡ false → (a && b) ≡ false
and_false true b e = e
and_false false b e = refl

-- one line that has ended, or none of the later ones has
or_later : (a b : Bool) → (a ≡ false → b ≡ false) → (a || b) ≡ a
or_later true b h = refl
or_later false b h = h refl

-- the first line that drops something tells whether it has been dropped
pub first_drop-tells : (table : List Line) (mark : Mark) (what : ℕ) → AreRising table → is_dropped (setting_on 0 table) mark what ≡ is_dropped_by mark (first_drop table what)
first_drop-tells [] mark what rising = refl
first_drop-tells (x ∷ xs) mark what rising =
    let rest : Bool = some_job (map job_seen xs) (λ j. has_ended mark j.line && (j.drops == what)) in
    ⊎_elim
    (λ (e : (x.drops == what) ≡ true).
    ap (λ b. b || rest) (and_true (has_ended mark x.line) (x.drops == what) e)
    ∙ or_later (has_ended mark x.line) rest (none_open xs mark x.line what rising.0)
    ∙ sym (ap (λ b. is_dropped_by mark (if b then Some x.line else first_drop xs what)) e))
    (λ (e : (x.drops == what) ≡ false).
    ap (λ b. b || rest) (and_false (has_ended mark x.line) (x.drops == what) e)
    ∙ first_drop-tells xs mark what rising.1
    ∙ sym (ap (λ b. is_dropped_by mark (if b then Some x.line else first_drop xs what)) e))
    (cases_Bool (x.drops == what))

-- a line that asks for something says whether it has been dropped
says_drop : (table : List Line) (mark : Mark) (line : ℕ) (asks : Line → Bool) → AreSound table → asks (no_line line) ≡ false → asks (line_in table line) ≡ true
    → is_dropped_by mark (line_in table line).dropped ≡ is_dropped (setting_on 0 table) mark line
says_drop table mark line asks sound none some =
    let said : (line_in table line).dropped ≡ first_drop table (line_in table line).line =
    line_in-all (λ (x : Line). asks x ≡ true → x.dropped ≡ first_drop table x.line) table line
    (All-weaker (λ (x : Line). x.dropped ≡ first_drop table x.line) (λ (x : Line). asks x ≡ true → x.dropped ≡ first_drop table x.line) (λ x h t. h) table sound.drops)
    (λ t. absurd (true≢false (sym t ∙ none))) some in
    ap (is_dropped_by mark) (said ∙ ap (first_drop table) (line_in-number table line)) ∙ sym (first_drop-tells table mark line sound.rising)

guarded : (a a' b d d' : Bool) → a ≡ a' → (a ≡ true → d ≡ d') → ((a && b) && not d) ≡ ((a' && b) && not d')
guarded true a' b d d' e h = (λ i. (e i && b) && not (h refl i))
guarded false a' b d d' e h = (λ i. (e i && b) && not d) ∙ closed a' b d d' (sym e)
  where
    closed : (a b d d' : Bool) → a ≡ false → ((a && b) && not d) ≡ ((a && b) && not d')
    closed true b d d' e = absurd (true≢false e)
    closed false b d d' e = refl

-- ---- what is live
-- a matrix that was made is live unless it was dropped
pub matrix_unless_dropped : (table : List Line) (mark : Mark) (line : ℕ) (x : Line) → AreSound table → x ≡ line_in table line → is_some x.makes ≡ true → has_ended mark line ≡ true
    → not (is_dropped_by mark x.dropped) ≡ is_live_matrix (setting_on 0 table) mark line
matrix_unless_dropped table mark line x sound at makes ended =
    let y = line_in table line in
    let made : is_some y.makes ≡ true = sym (ap (λ (z : Line). is_some z.makes) at) ∙ makes in
    ap (λ (z : Line). not (is_dropped_by mark z.dropped)) at
    ∙ sym (λ i. (made i && ended i) && not (is_dropped_by mark y.dropped))
    ∙ guarded (is_some y.makes) (is_matrix (setting_on 0 table) line) (has_ended mark line) (is_dropped_by mark y.dropped) (is_dropped (setting_on 0 table) mark line)
    (ap (λ (j : Job). is_some j.makes) (line_in-job table line))
    (says_drop table mark line (λ z. is_some z.makes) sound refl)

-- so is a list of pivots that was begun
pub list_unless_dropped : (table : List Line) (mark : Mark) (line : ℕ) (x : Line) → AreSound table → x ≡ line_in table line → nat_lt 0 x.factors ≡ true → nat_le line mark.line ≡ true
    → not (is_dropped_by mark x.dropped) ≡ is_live_list (setting_on 0 table) mark line
list_unless_dropped table mark line x sound at factors begun =
    let y = line_in table line in
    let made : nat_lt 0 y.factors ≡ true = sym (ap (λ (z : Line). nat_lt 0 z.factors) at) ∙ factors in
    ap (λ (z : Line). not (is_dropped_by mark z.dropped)) at
    ∙ sym (λ i. (made i && begun i) && not (is_dropped_by mark y.dropped))
    ∙ guarded (nat_lt 0 y.factors) (nat_lt 0 (factored (setting_on 0 table) line)) (nat_le line mark.line) (is_dropped_by mark y.dropped) (is_dropped (setting_on 0 table) mark line)
    (ap (λ (j : Job). nat_lt 0 j.factors) (line_in-job table line))
    (says_drop table mark line (λ z. nat_lt 0 z.factors) sound refl)

-- a line that drops nothing of its own and is dropped by none is a sound table
pub one_sound : (x : Line) → IfSome x.makes IsLayout → x.dropped ≡ None → (x.drops == x.line) ≡ false → AreSound (x ∷ [])
one_sound x laid_out none other = record {
  laid_out = All-cons (λ (y : Line). IfSome y.makes IsLayout) x [] laid_out (All-nil (λ (y : Line). IfSome y.makes IsLayout));
  rising = (All-nil (λ (y : Line). x.line < y.line), tt);
  drops = All-cons (λ (y : Line). y.dropped ≡ first_drop (x ∷ []) y.line) x [] (none ∙ sym (ap (λ b. if b then Some x.line else None) other)) (All-nil (λ (y : Line). y.dropped ≡ first_drop (x ∷ []) y.line));
}
