-- The lines before a line: what names mean among them is what they mean in the whole script.
use Rattle.std.proofs.Common.{◌≡◌, ℕ, zero, suc, ◌<◌, ◌≤◌, Bool, true, false, cond, List, [], ◌∷◌, ◌++◌, length, take, Option, Some, None, refl, sym, ap, ◌∙◌, arith, ◌+◌, ◌-◌, ltb, drop}
use Rattle.std.specs.Prelude.{slice_get}
use Rattle.std.proofs.lemmas.Bool.{ltb-true}
use Rattle.std.proofs.lemmas.Bool.Decides.{nat_tests}
use Rattle.std.proofs.lemmas.Option.{same_Some}
use Rattle.run_data.specs.declared.command.Command.{Command}
use Rattle.run_data.specs.Script.{Numbered, commands_of, commands_from, command_at, is_name, name_made, name_dropped, maker_after, maker_from, maker}
use Rattle.std.proofs.lemmas.List.{take-append-drop}
use Rattle.run_data.specs.declared.command.Command.TheVariants.{Matrix, Pgetrf}
use Rattle.run_data.specs.declared.flips.Flip.{Flip}
use Rattle.run_data.specs.Flips.{pending_after, pending_from, pending}
use Rattle.run_data.proofs.Lines.{said, command_at-before, command_at-commands_from}
use Rattle.script_rules.specs.Rules.{command_on, maker_command, distribution_on, distribution_made, distribution_of, factored_made, factored}
use Rattle.script_rules.proofs.Counting.{commands_from-append}

-- ---- a list with one more item

pub slice_get-front : {X : Type 0} (xs : List X) (y : X) (i : ℕ) → i < length xs → slice_get (xs ++ y ∷ []) i ≡ slice_get xs i
slice_get-front [] y i lt = absurd (omega arith)
slice_get-front (x ∷ xs) y zero lt = refl
slice_get-front (x ∷ xs) y (suc i) lt = slice_get-front xs y i (omega arith)

pub slice_get-last : {X : Type 0} (xs : List X) (y : X) → slice_get (xs ++ y ∷ []) (length xs) ≡ Some y
slice_get-last [] y = refl
slice_get-last (x ∷ xs) y = slice_get-last xs y

pub take-front : {X : Type 0} (xs : List X) (y : X) → take (length xs) (xs ++ y ∷ []) ≡ xs
take-front [] y = refl
take-front (x ∷ xs) y = ap (λ ys. x ∷ ys) (take-front xs y)

pub length-more : {X : Type 0} (xs : List X) (y : X) → length (xs ++ y ∷ []) ≡ suc (length xs)
length-more [] y = refl
length-more (x ∷ xs) y = ap suc (length-more xs y)

-- ---- the lines before a line

slice_get-take : {X : Type 0} (xs : List X) (i k : ℕ) → k < i → slice_get (take i xs) k ≡ slice_get xs k
slice_get-take [] zero k lt = absurd (omega arith)
slice_get-take [] (suc i) k lt = refl
slice_get-take (x ∷ xs) zero k lt = absurd (omega arith)
slice_get-take (x ∷ xs) (suc i) zero lt = refl
slice_get-take (x ∷ xs) (suc i) (suc k) lt = slice_get-take xs i k (omega arith)

pub length-take_le : {X : Type 0} (xs : List X) (i : ℕ) → i ≤ length xs → length (take i xs) ≡ i
length-take_le xs zero le = refl
length-take_le [] (suc i) le = absurd (omega arith)
length-take_le (x ∷ xs) (suc i) le = ap suc (length-take_le xs i (omega arith))

maker_from-append : (xs ys : List Numbered) (line : ℕ) (name : List ℕ) (before : Option ℕ) → maker_from (xs ++ ys) line name before ≡ maker_from ys line name (maker_from xs line name before)
maker_from-append [] ys line name before = refl
maker_from-append (n ∷ xs) ys line name before = maker_from-append xs ys line name (cond (ltb n.line line) (maker_after n name before) before)

not_lt : (a b : ℕ) → b ≤ a → ltb a b ≡ false
not_lt a b le = grind (arith, nat_tests)

maker_from-late : (k : ℕ) (lines : List (Option Command)) (line : ℕ) (name : List ℕ) (before : Option ℕ) → line ≤ k → maker_from (commands_from k lines) line name before ≡ before
maker_from-late k [] line name before le = refl
maker_from-late k (None ∷ lines) line name before le = maker_from-late (suc k) lines line name before (omega arith)
maker_from-late k (Some c ∷ lines) line name before le =
    ap (λ t. maker_from (commands_from (suc k) lines) line name (cond t (maker_after (record { line = k; command = c }) name before) before)) (not_lt k line le)
    ∙ maker_from-late (suc k) lines line name before (omega arith)

-- what a name means as seen from a line up to one is the same among the lines before
pub maker-within : (script : List (Option Command)) (i line : ℕ) (name : List ℕ) → i ≤ length script → line ≤ suc i → maker (commands_of (take i script)) line name ≡ maker (commands_of script) line name
maker-within script i line name le to =
    let front = take i script in
    let back = drop i script in
    let whole : commands_of script ≡ commands_of front ++ commands_from (1 + length front) back =
    ap commands_of (sym (take-append-drop i script)) ∙ commands_from-append 1 front back in
    sym (ap (λ ns. maker ns line name) whole ∙ maker_from-append (commands_of front) (commands_from (1 + length front) back) line name None
    ∙ maker_from-late (1 + length front) back line name (maker (commands_of front) line name) (omega (arith, length-take_le script i le)))

pending_from-append : (xs ys : List Numbered) (line : ℕ) (name : List ℕ) (before : List Flip) → pending_from (xs ++ ys) line name before ≡ pending_from ys line name (pending_from xs line name before)
pending_from-append [] ys line name before = refl
pending_from-append (n ∷ xs) ys line name before = pending_from-append xs ys line name (cond (ltb n.line line) (pending_after n.line n.command name before) before)

pending_from-late : (k : ℕ) (lines : List (Option Command)) (line : ℕ) (name : List ℕ) (before : List Flip) → line ≤ k → pending_from (commands_from k lines) line name before ≡ before
pending_from-late k [] line name before le = refl
pending_from-late k (None ∷ lines) line name before le = pending_from-late (suc k) lines line name before (omega arith)
pending_from-late k (Some c ∷ lines) line name before le =
    ap (λ t. pending_from (commands_from (suc k) lines) line name (cond t (pending_after k c name before) before)) (not_lt k line le)
    ∙ pending_from-late (suc k) lines line name before (omega arith)

-- the pending flips of a name as seen from a line up to one, likewise
pub pending-within : (script : List (Option Command)) (i line : ℕ) (name : List ℕ) → i ≤ length script → line ≤ suc i → pending (commands_of (take i script)) line name ≡ pending (commands_of script) line name
pending-within script i line name le to =
    let front = take i script in
    let back = drop i script in
    let whole : commands_of script ≡ commands_of front ++ commands_from (1 + length front) back =
    ap commands_of (sym (take-append-drop i script)) ∙ commands_from-append 1 front back in
    sym (ap (λ ns. pending ns line name) whole ∙ pending_from-append (commands_of front) (commands_from (1 + length front) back) line name []
    ∙ pending_from-late (1 + length front) back line name (pending (commands_of front) line name) (omega (arith, length-take_le script i le)))

pub maker-take : (script : List (Option Command)) (i : ℕ) (name : List ℕ) → i ≤ length script → maker (commands_of (take i script)) (suc i) name ≡ maker (commands_of script) (suc i) name
maker-take script i name le = maker-within script i (suc i) name le (omega arith)

after_lt : (made dropped : Bool) (n line l : ℕ) (before : Option ℕ) → n < line → (before ≡ Some l → l < line) → cond made (Some n) (cond dropped None before) ≡ Some l → l < line
after_lt true dropped n line l before lt h e = let same : n ≡ l = same_Some n l e in omega arith
after_lt false true n line l before lt h e = absurd cc
after_lt false false n line l before lt h e = h e

maker_from-lt : (ns : List Numbered) (line : ℕ) (name : List ℕ) (before : Option ℕ) (l : ℕ) → (before ≡ Some l → l < line) → maker_from ns line name before ≡ Some l → l < line
maker_from-lt [] line name before l h e = h e
maker_from-lt (n ∷ ns) line name before l h e = maker_from-lt ns line name (cond (ltb n.line line) (maker_after n name before) before) l (step (ltb n.line line) refl) e
  where
    step : (t : Bool) → ltb n.line line ≡ t → cond t (maker_after n name before) before ≡ Some l → l < line
    step true t = after_lt (is_name (name_made n.command) name) (is_name (name_dropped n.command) name) n.line line l before (ltb-true n.line line t) h
    step false t = h

pub maker-lt : (ns : List Numbered) (line : ℕ) (name : List ℕ) (l : ℕ) → maker ns line name ≡ Some l → l < line
maker-lt ns line name l e = maker_from-lt ns line name None l (λ e. absurd cc) e

pub command_at-take : (script : List (Option Command)) (i l : ℕ) → l ≤ i → command_at (commands_of (take i script)) l ≡ command_at (commands_of script) l
command_at-take script i zero le = command_at-before 1 (take i script) 0 (omega arith) ∙ sym (command_at-before 1 script 0 (omega arith))
command_at-take script i (suc l) le =
    let k : suc l - 1 ≡ l = omega arith in
    command_at-commands_from 1 (take i script) (suc l) (omega arith) ∙ ap (λ n. said (slice_get (take i script) n)) k ∙ ap said (slice_get-take script i l (omega arith))
    ∙ sym (command_at-commands_from 1 script (suc l) (omega arith) ∙ ap (λ n. said (slice_get script n)) k)

-- the command that made what a name means, likewise
pub maker_command-within : (script : List (Option Command)) (i line : ℕ) (name : List ℕ) → i ≤ length script → line ≤ suc i →
    maker_command (commands_of (take i script)) line name ≡ maker_command (commands_of script) line name
maker_command-within script i line name le to = by_maker (maker (commands_of script) line name) refl
  where
    by_maker : (o : Option ℕ) → maker (commands_of script) line name ≡ o → maker_command (commands_of (take i script)) line name ≡ maker_command (commands_of script) line name
    by_maker None e = ap (command_on (commands_of (take i script))) (maker-within script i line name le to ∙ e) ∙ sym (ap (command_on (commands_of script)) e)
    by_maker (Some l) e =
        let lt = maker-lt (commands_of script) line name l e in
        ap (command_on (commands_of (take i script))) (maker-within script i line name le to ∙ e) ∙ command_at-take script i l (omega arith) ∙ sym (ap (command_on (commands_of script)) e)

pub maker_command-take : (script : List (Option Command)) (i : ℕ) (name : List ℕ) → i ≤ length script → maker_command (commands_of (take i script)) (suc i) name ≡ maker_command (commands_of script) (suc i) name
maker_command-take script i name le = maker_command-within script i (suc i) name le (omega arith)

-- the matrix that a name means, likewise
pub distribution_of-within : (script : List (Option Command)) (i line : ℕ) (name : List ℕ) → i ≤ length script → line ≤ suc i → distribution_of (commands_of (take i script)) line name ≡ distribution_of (commands_of script) line name
distribution_of-within script i line name le to =
    ap (λ o. distribution_made (commands_of (take i script)) o (maker_command (commands_of (take i script)) line name)) (maker-within script i line name le to)
    ∙ ap (distribution_made (commands_of (take i script)) (maker (commands_of script) line name)) (maker_command-within script i line name le to)
    ∙ by_maker (maker (commands_of script) line name) refl
  where
    by_command : (l : ℕ) (o : Option Command) → l < line → distribution_made (commands_of (take i script)) (Some l) o ≡ distribution_made (commands_of script) (Some l) o
    by_command l (Some (Matrix made grid m n mb nb rsrc csrc file)) lt =
        ap (λ o. distribution_on o (maker_command (commands_of (take i script)) l grid) m n mb nb rsrc csrc) (maker-within script i l grid le (omega arith))
        ∙ ap (λ o. distribution_on (maker (commands_of script) l grid) o m n mb nb rsrc csrc) (maker_command-within script i l grid le (omega arith))
    by_command l o lt = refl

    by_maker : (o : Option ℕ) → maker (commands_of script) line name ≡ o → distribution_made (commands_of (take i script)) o (command_on (commands_of script) o) ≡ distribution_made (commands_of script) o (command_on (commands_of script) o)
    by_maker None e = refl
    by_maker (Some l) e = by_command l (command_at (commands_of script) l) (maker-lt (commands_of script) line name l e)

pub distribution_of-take : (script : List (Option Command)) (i : ℕ) (name : List ℕ) → i ≤ length script → distribution_of (commands_of (take i script)) (suc i) name ≡ distribution_of (commands_of script) (suc i) name
distribution_of-take script i name le = distribution_of-within script i (suc i) name le (omega arith)

-- the matrix whose factorization made the list that a name means, likewise
pub factored-take : (script : List (Option Command)) (i : ℕ) (name : List ℕ) → i ≤ length script → factored (commands_of (take i script)) (suc i) name ≡ factored (commands_of script) (suc i) name
factored-take script i name le =
    ap (λ o. factored_made (commands_of (take i script)) o (maker_command (commands_of (take i script)) (suc i) name)) (maker-take script i name le)
    ∙ ap (factored_made (commands_of (take i script)) (maker (commands_of script) (suc i) name)) (maker_command-take script i name le)
    ∙ by_maker (maker (commands_of script) (suc i) name) refl
  where
    by_command : (l : ℕ) (o : Option Command) → l < suc i → factored_made (commands_of (take i script)) (Some l) o ≡ factored_made (commands_of script) (Some l) o
    by_command l (Some (Pgetrf m n a ia ja v)) lt = distribution_of-within script i l a le (omega arith)
    by_command l o lt = refl

    by_maker : (o : Option ℕ) → maker (commands_of script) (suc i) name ≡ o → factored_made (commands_of (take i script)) o (command_on (commands_of script) o) ≡ factored_made (commands_of script) o (command_on (commands_of script) o)
    by_maker None e = refl
    by_maker (Some l) e = by_command l (command_at (commands_of script) l) (maker-lt (commands_of script) (suc i) name l e)
