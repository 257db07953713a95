-- The first rule that the command of a line inside a script breaks: of its form, of its names, and of its command.
use Rattle.std.proofs.Common.{◌≡◌, ℕ, suc, ◌-◌, ◌≤◌, List, [], ◌∷◌, length, take, Option, Some, None, refl, sym, ap, ◌∙◌, arith}
use Rattle.std.specs.Prelude.{◌||◌, is_none, ℤ, pos, Result, Ok, Err, IfOk, IfErr, OnOk}
use Rattle.std.specs.Option.{option_or}
use Rattle.run_data.specs.declared.command.Command.{Command}
use Rattle.run_data.specs.Script.{commands_of, is_grid_line}
use Rattle.script_rules.specs.declared.counts.Counts.{Counts}
use Rattle.script_words.specs.declared.kinds.Kind.{Kind}
use Rattle.script_words.specs.declared.kinds.Kind.TheVariants.{NewName, GridName, MatrixName, ListName, ThingName}
use Rattle.script_rules.specs.declared.told.Told.{Told}
use Rattle.script_words.specs.Names.{is_name}
use Rattle.script_words.specs.Tables.{first_code}
use Rattle.script_rules.specs.Rules.{word_rules, is_matrix_line, is_list_line, rules}
use Rattle.script_rules.specs.Counted.{commands_before}
use Rattle.script_bounds.specs.Accepted.{count_rules, named_words, names_code, broken_by}
use Rattle.script_rules.proofs.Before.{length-take_le, maker-within}
use Rattle.script_rules.proofs.Inside.{maker_command-before}

-- ---- the names of a command

word_rules-before : (script : List (Option Command)) (line : ℕ) (kind : Kind) (word : List ℕ) → 1 ≤ line → line ≤ suc (length script) → word_rules (commands_before script line) line kind word ≡ word_rules (commands_of script) line kind word
word_rules-before script line NewName word low to =
    ap (λ o. (pos 4, is_name word) ∷ (pos 5, is_none o) ∷ []) (maker-within script (line - 1) line word (omega arith) (omega arith))
word_rules-before script line GridName word low to = ap (λ o. (pos 6, is_grid_line o) ∷ []) (maker_command-before script line word low to)
word_rules-before script line MatrixName word low to = ap (λ o. (pos 6, is_matrix_line o) ∷ []) (maker_command-before script line word low to)
word_rules-before script line ListName word low to = ap (λ o. (pos 6, is_list_line o) ∷ []) (maker_command-before script line word low to)
word_rules-before script line ThingName word low to = ap (λ o. (pos 6, is_matrix_line o || is_list_line o) ∷ []) (maker_command-before script line word low to)
word_rules-before script line kind word low to = refl

names_code-before : (script : List (Option Command)) (line : ℕ) (words : List (Kind × List ℕ)) → 1 ≤ line → line ≤ suc (length script) → names_code (commands_before script line) line words ≡ names_code (commands_of script) line words
names_code-before script line [] low to = refl
names_code-before script line (word ∷ words) low to =
    ap (λ rs. option_or (first_code rs) (names_code (commands_before script line) line words)) (word_rules-before script line word.0 word.1 low to)
    ∙ ap (option_or (first_code (word_rules (commands_of script) line word.0 word.1))) (names_code-before script line words low to)

-- the first rule that the command of a line breaks, by those of its form, of its names and of its command
pub broken_split : (told : Told) (script : List (Option Command)) (line : ℕ) (d : Command) (count names own : Option ℤ) → 1 ≤ line → line ≤ suc (length script) → count ≡ first_code (count_rules d) →
    names ≡ names_code (commands_of script) line (named_words d) → first_code (rules told (commands_before script line) line d) ≡ own → broken_by told (take (line - 1) script) d ≡ option_or count (option_or names own)
unfolding broken_by
broken_split told script line d count names own low to f n o =
    let size : suc (length (take (line - 1) script)) ≡ line = omega (arith, length-take_le script (line - 1) (omega arith)) in
    let cs = commands_before script line in
    ap (λ l. option_or (first_code (count_rules d)) (option_or (names_code cs l (named_words d)) (first_code (rules told cs l d)))) size
    ∙ ap (λ x. option_or x (option_or (names_code cs line (named_words d)) (first_code (rules told cs line d)))) (sym f)
    ∙ ap (λ x. option_or count (option_or x (first_code (rules told cs line d)))) (names_code-before script line (named_words d) low to ∙ sym n)
    ∙ ap (λ x. option_or count (option_or names x)) o

-- the answer of the counting is that of the line, where neither its form nor its names break a rule
pub broken_kept : (told : Told) (script : List (Option Command)) (line : ℕ) (d : Command) (a : Result Counts ℤ) (count names : Option ℤ) → 1 ≤ line → line ≤ suc (length script) → count ≡ first_code (count_rules d) → count ≡ None →
    names ≡ names_code (commands_of script) line (named_words d) → names ≡ None → IfOk a (λ _. first_code (rules told (commands_before script line) line d) ≡ None) → OnOk a (broken_by told (take (line - 1) script) d ≡ None)
broken_kept told script line d (Ok x) count names low to f zf n zn k = broken_split told script line d None None None low to (sym zf ∙ f) (sym zn ∙ n) k
broken_kept told script line d (Err x) count names low to f zf n zn k = tt

pub broken_told : (told : Told) (script : List (Option Command)) (line : ℕ) (d : Command) (a : Result Counts ℤ) (count names : Option ℤ) → 1 ≤ line → line ≤ suc (length script) → count ≡ first_code (count_rules d) → count ≡ None →
    names ≡ names_code (commands_of script) line (named_words d) → names ≡ None → IfErr a (λ code. first_code (rules told (commands_before script line) line d) ≡ Some code) →
    IfErr a (λ code. broken_by told (take (line - 1) script) d ≡ Some code)
broken_told told script line d (Ok x) count names low to f zf n zn k = tt
broken_told told script line d (Err x) count names low to f zf n zn k = broken_split told script line d None None (Some x) low to (sym zf ∙ f) (sym zn ∙ n) k
