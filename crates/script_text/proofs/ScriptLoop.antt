-- Reading the lines of a script one after another, as a loop does.
use Rattle.std.proofs.Common.{◌≡◌, ℕ, ◌<◌, List, [], ◌∷◌, ◌++◌, length, drop, Result, Ok, Err, sym, ap, ◌∙◌}
use Rattle.run_data.specs.declared.command.Command.{Command}
use Rattle.std.specs.Prelude.{Option}
use Rattle.script_words.specs.declared.fault.Refused.{Refused}
use Rattle.script_words.specs.declared.fault.TextFault.{TextFault}
use Rattle.script_words.specs.declared.fault.TextFault.TheVariants as faults
use Rattle.script_rules.specs.declared.told.Told.{Told}
use Rattle.script_words.specs.Gives.{Fails}
use Rattle.script_words.specs.Lines.{until, from_on, is_line_feed, line_words, word_lines}
use Rattle.script_text.specs.Script.{and_then, line_answer, script_after}
use Rattle.script_words.proofs.Cuts.{word_lines-cut, word_lines-end}

abbrev pub Answer : Type 0
Answer = Result (List (Option Command)) Refused

after_line : (told : Told) (front : List (Option Command)) (words : List (List ℕ)) (lines : List (List (List ℕ))) (a : Result (Option Command) Refused) → line_answer told front words ≡ a →
    script_after told front (words ∷ lines) ≡ and_then a (λ c. script_after told (front ++ c ∷ []) lines)
unfolding script_after
after_line told front words lines a e = ap (λ x. and_then x (λ c. script_after told (front ++ c ∷ []) lines)) e

-- a line that breaks no rule
pub goes_on : (told : Told) (front front' : List (Option Command)) (text line after next : List ℕ) (words : List (List ℕ)) (c : Option Command) (total : Answer) → 0 < length text →
    line ≡ until is_line_feed text → after ≡ from_on is_line_feed text → next ≡ drop 1 after → words ≡ line_words line → line_answer told front words ≡ Ok c → front' ≡ front ++ c ∷ [] →
    script_after told front (word_lines text) ≡ total → script_after told front' (word_lines next) ≡ total
goes_on told front front' text line after next words c total lt l a n w r f e =
    let cutting = word_lines-cut text line after next lt l a n ∙ ap (λ ws. ws ∷ word_lines next) (sym w) in
    ap (λ s. script_after told s (word_lines next)) f ∙ sym (after_line told front words (word_lines next) (Ok c) r) ∙ sym (ap (script_after told front) cutting) ∙ e

-- a line that breaks a rule
pub stops : (told : Told) (front : List (Option Command)) (text line after next : List ℕ) (words : List (List ℕ)) (fault : TextFault) (total : Answer) → 0 < length text →
    line ≡ until is_line_feed text → after ≡ from_on is_line_feed text → next ≡ drop 1 after → words ≡ line_words line → Fails fault (line_answer told front words) →
    script_after told front (word_lines text) ≡ total → Fails fault total
stops told front text line after next words faults.NoMemory total lt l a n w r e = tt
stops told front text line after next words (faults.Refused x) total lt l a n w r e =
    let cutting = word_lines-cut text line after next lt l a n ∙ ap (λ ws. ws ∷ word_lines next) (sym w) in
    sym e ∙ ap (script_after told front) cutting ∙ after_line told front words (word_lines next) (Err x) r

-- no further line
pub ends : (told : Told) (front : List (Option Command)) (text : List ℕ) (total : Answer) → length text ≡ 0 → script_after told front (word_lines text) ≡ total → total ≡ Ok front
unfolding script_after
ends told front text total z e = sym e ∙ ap (script_after told front) (word_lines-end text z)
