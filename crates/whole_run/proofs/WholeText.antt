-- What a run printed: to its end the text of the serial run, and otherwise the beginning of it.
use Rattle.std.proofs.Common.{◌≡◌, ◌+◌, ◌*◌, ◌≤◌, ℕ, zero, suc, true, false, List, [], ◌∷◌, ◌++◌, ◌<◌, Option, Some, None, length, refl, sym, ap, ◌∙◌, ⊎_elim, arith, All}
use Rattle.std.specs.Prelude.{if◌then◌else◌, nat_le, Contains}
use Rattle.std.proofs.lemmas.Bool.{cases_Bool, le-leb, leb-false}
use Rattle.run_data.specs.declared.command.Command.{Command}
use Rattle.run_data.specs.Script.{Numbered, commands_from, commands_of, modulus_of}
use Rattle.rank_machine.specs.declared.mark.Mark.{Mark}
use Rattle.rank_machine.specs.declared.record.Rec.{Rec}
use Rattle.rank_machine.specs.declared.record.Rec.TheVariants as r
use Rattle.rank_machine.specs.Setting.{Setting}
use Rattle.rank_machine.specs.Scripts.{Matrices, file_of, setting_of}
use Rattle.rank_machine.specs.State.{State, opened, end_mark}
use Rattle.rank_machine.specs.Effect.{after}
use Rattle.rank_machine.specs.Legal.{IsLegalFrom}
use Rattle.rank_machine.specs.Losses.{last_ended, last_ended_from}
use Rattle.serial_model.specs.Serial.{no_values, up_to, text_from, text_to, serial_text}
use Rattle.line_laws.specs.Lines.{values_of}
use Rattle.line_laws.proofs.UpTo.{none-before, text-append}
use Rattle.whole_run.specs.WholeRun.{Ending, done, IsRunOf}
use Rattle.whole_run.proofs.Lasting.{place, commit_on}
use Rattle.whole_run.proofs.Shorter.{IsBy, all-by, text-shorter}

-- ---- no line has ended after the last
-- the last ended line of a legal journal never falls
never_falls : (s : Setting) (st : State) (line : ℕ) (xs : List Rec) → IsLegalFrom s st xs → 2 * line + 1 ≤ place st.mark → line ≤ last_ended_from line xs
never_falls s st line [] h le = omega arith
never_falls s st line (r.Commit m b ∷ xs) h le =
    let on : place st.mark ≤ place m = commit_on s st m b h.0.next in
    ⊎_elim
    (λ (e : m.ended ≡ true).
    let reaches : 2 * m.line + 1 ≤ place m = rw e (omega arith) in
    let here : place m ≡ 2 * m.line + 1 = rw e refl in
    let more : m.line ≤ last_ended_from m.line xs = never_falls s (after s st (r.Commit m b)) m.line xs h.1 reaches in
    rw e (omega (arith, on, here, le, more)))
    (λ (e : m.ended ≡ false). rw e (never_falls s (after s st (r.Commit m b)) line xs h.1 (omega (arith, on, le))))
    (cases_Bool m.ended)
never_falls s st line (r.Feed a b ∷ xs) h le = never_falls s (after s st (r.Feed a b)) line xs h.1 le
never_falls s st line (r.Kernel a b ∷ xs) h le = never_falls s (after s st (r.Kernel a b)) line xs h.1 le
never_falls s st line (r.Send a b c ∷ xs) h le = never_falls s (after s st (r.Send a b c)) line xs h.1 le
never_falls s st line (r.Recv a b c ∷ xs) h le = never_falls s (after s st (r.Recv a b c)) line xs h.1 le
never_falls s st line (r.Save a b ∷ xs) h le = never_falls s (after s st (r.Save a b)) line xs h.1 le
never_falls s st line (r.Take a b ∷ xs) h le = never_falls s (after s st (r.Take a b)) line xs h.1 le
never_falls s st line (r.Restore ∷ xs) h le = never_falls s (after s st r.Restore) line xs h.1 le
never_falls s st line (r.Spawn a ∷ xs) h le = never_falls s (after s st (r.Spawn a)) line xs h.1 le
never_falls s st line (r.Lose a ∷ xs) h le = never_falls s (after s st (r.Lose a)) line xs h.1 le

in_tail : {X : Type 0} (y : X) (ys : List X) (x : X) → (y ≡ x → ⊥) → Contains (y ∷ ys) x → Contains ys x
in_tail y ys x other (zero, lt, e) = absurd (other e)
in_tail y ys x other (suc k, lt, e) = (k, omega (arith, lt), e)

abbrev ends_line : ℕ → Rec
ends_line at = r.Commit (end_mark at) false

-- a line that has ended is at most the last one
by_last : (s : Setting) (st : State) (line at : ℕ) (xs : List Rec) → IsLegalFrom s st xs → Contains xs (ends_line at) → at ≤ last_ended_from line xs
by_last s st line at [] h (k, lt, e) = absurd (omega (arith, lt))
by_last s st line at (r.Commit m b ∷ xs) h (zero, lt, e) =
    let same : m ≡ end_mark at = cc in
    let ended : m.ended ≡ true = ap (λ (m : Mark). m.ended) same in
    let line_is : m.line ≡ at = ap (λ (m : Mark). m.line) same in
    let reaches : 2 * m.line + 1 ≤ place m = rw ended (omega arith) in
    rw ended (omega (arith, line_is, never_falls s (after s st (r.Commit m b)) m.line xs h.1 reaches))
by_last s st line at (r.Commit m b ∷ xs) h (suc k, lt, e) = by_last s (after s st (r.Commit m b)) (if m.ended then m.line else line) at xs h.1 (k, omega (arith, lt), e)
by_last s st line at (r.Feed a b ∷ xs) h c = by_last s (after s st (r.Feed a b)) line at xs h.1 (in_tail (r.Feed a b) xs (ends_line at) (λ e. cc) c)
by_last s st line at (r.Kernel a b ∷ xs) h c = by_last s (after s st (r.Kernel a b)) line at xs h.1 (in_tail (r.Kernel a b) xs (ends_line at) (λ e. cc) c)
by_last s st line at (r.Send a b d ∷ xs) h c = by_last s (after s st (r.Send a b d)) line at xs h.1 (in_tail (r.Send a b d) xs (ends_line at) (λ e. cc) c)
by_last s st line at (r.Recv a b d ∷ xs) h c = by_last s (after s st (r.Recv a b d)) line at xs h.1 (in_tail (r.Recv a b d) xs (ends_line at) (λ e. cc) c)
by_last s st line at (r.Save a b ∷ xs) h c = by_last s (after s st (r.Save a b)) line at xs h.1 (in_tail (r.Save a b) xs (ends_line at) (λ e. cc) c)
by_last s st line at (r.Take a b ∷ xs) h c = by_last s (after s st (r.Take a b)) line at xs h.1 (in_tail (r.Take a b) xs (ends_line at) (λ e. cc) c)
by_last s st line at (r.Restore ∷ xs) h c = by_last s (after s st r.Restore) line at xs h.1 (in_tail r.Restore xs (ends_line at) (λ e. cc) c)
by_last s st line at (r.Spawn a ∷ xs) h c = by_last s (after s st (r.Spawn a)) line at xs h.1 (in_tail (r.Spawn a) xs (ends_line at) (λ e. cc) c)
by_last s st line at (r.Lose a ∷ xs) h c = by_last s (after s st (r.Lose a)) line at xs h.1 (in_tail (r.Lose a) xs (ends_line at) (λ e. cc) c)

-- ---- all lines
-- the commands up to a line that none is after are all commands
up_to-all : (n k : ℕ) (lines : List (Option Command)) → n + length lines ≤ k + 1 → up_to k (commands_from n lines) ≡ commands_from n lines
up_to-all n k [] le = refl
up_to-all n k (None ∷ lines) le = up_to-all (suc n) k lines (omega (arith, le))
up_to-all n k (Some x ∷ lines) le =
    let here : nat_le n k ≡ true = le-leb n k (omega (arith, le)) in
    let more : up_to k (commands_from (suc n) lines) ≡ commands_from (suc n) lines = up_to-all (suc n) k lines (omega (arith, le)) in
    ap (λ b. if b then record { line = n; command = x } ∷ up_to k (commands_from (suc n) lines) else up_to k (commands_from (suc n) lines)) here
    ∙ ap (λ (ns : List Numbered). record { line = n; command = x } ∷ ns) more

-- in a run to its end no line makes records after the last that has ended, so the lines after it print nothing
pub whole-text : (script : List (Option Command)) (files : Matrices) (out journal : List ℕ) → IsRunOf script files done out journal → out ≡ serial_text (file_of files) (commands_of script)
whole-text script files out journal run =
    let s : Setting = setting_of script files in
    let ns : List Numbered = commands_of script in
    let last : ℕ = last_ended run.records in
    let all : ℕ = length script + last in
    let by : All (IsBy all last) ns = all-by script files all last (λ at job le.
    le-leb at last (by_last s (opened s) 0 at run.records run.legal.legal (run.ends at at job (le-leb at at (omega arith))))) in
    let shorter : text_to (file_of files) ns all ≡ text_to (file_of files) ns last = text-shorter all last (le-leb last all (omega arith)) (file_of files) ns ns no_values by in
    let whole : up_to all ns ≡ ns = up_to-all 1 all script (omega arith) in
    run.serial ∙ (sym shorter ∙ ap (λ xs. text_from (file_of files) ns xs no_values) whole)

-- ---- the first lines
-- the commands up to a line are the first of all
first_lines : (n k : ℕ) (lines : List (Option Command)) → (more : List Numbered) × (commands_from n lines ≡ up_to k (commands_from n lines) ++ more)
first_lines n k [] = ([], refl)
first_lines n k (None ∷ lines) = first_lines (suc n) k lines
first_lines n k (Some x ∷ lines) =
    ⊎_elim
    (λ (e : nat_le n k ≡ true). let rest = first_lines (suc n) k lines in rw e (rest.0, ap (λ (ns : List Numbered). record { line = n; command = x } ∷ ns) rest.1))
    (λ (e : nat_le n k ≡ false).
    let past : k < n = leb-false n k e in
    let none : up_to k (commands_from (suc n) lines) ≡ [] = none-before (suc n) k lines (omega (arith, past)) in
    rw (e, none) (record { line = n; command = x } ∷ commands_from (suc n) lines, refl))
    (cases_Bool (nat_le n k))

-- however a run ends, the text of the serial run begins with what was printed
pub text-begins : (script : List (Option Command)) (files : Matrices) (ending : Ending) (out journal : List ℕ) → IsRunOf script files ending out journal → (rest : List ℕ) × (serial_text (file_of files) (commands_of script) ≡ out ++ rest)
text-begins script files ending out journal run =
    let cut = first_lines 1 (last_ended run.records) script in
    let first : List Numbered = up_to (last_ended run.records) (commands_of script) in
    let ns : List Numbered = commands_of script in
    let rest : List ℕ = text_from (file_of files) ns cut.0 (values_of (modulus_of ns) (file_of files) first no_values) in
    (rest, ap (λ xs. text_from (file_of files) ns xs no_values) cut.1 ∙ (text-append (file_of files) ns first cut.0 no_values ∙ ap (λ t. t ++ rest) (sym run.serial)))
