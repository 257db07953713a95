-- What a script tells as a whole: the same by its lines, as they are read, and by its commands.
use Rattle.std.proofs.Common.{◌≡◌, ℕ, suc, ◌+◌, ◌*◌, Bool, true, false, cond, List, [], ◌∷◌, ◌++◌, length, Option, Some, None, Ok, refl, sym, ap, subst, ◌∙◌, arith}
use Rattle.std.specs.Prelude.{codes}
use Rattle.std.specs.List.{sum_by}
use Rattle.std.specs.Option.{option_or}
use Rattle.std.specs.Str.{bytes_eq}
use Rattle.std.proofs.lemmas.Bool.{eqb-true}
use Rattle.std.proofs.lemmas.List.Sums.{sum_by-cons}
use Rattle.std.proofs.lemmas.Option.{same_Some}
use Rattle.std.proofs.lemmas.Slice.Eq.{bytes_eq-Decides}
use Rattle.run_data.specs.declared.command.Command.{Command}
use Rattle.run_data.specs.declared.command.Command.TheVariants as c
use Rattle.run_data.specs.Script.{Numbered, commands_of}
use Rattle.script_words.specs.declared.kinds.CommandWord.{CommandWord}
use Rattle.script_words.specs.declared.kinds.CommandWord.TheVariants as w
use Rattle.script_rules.specs.declared.told.Told.{Told}
use Rattle.script_words.specs.Numbers.{number_of}
use Rattle.script_words.specs.Kinds.{own_words, routine_words, command_in, command_word}
use Rattle.script_words.specs.Tables.{first_code}
use Rattle.script_rules.specs.Rules.{ranks_made, ranks_of, is_shape, grid_rules, rules}
use Rattle.script_words.specs.Commands.{grid_of, command_as, command_of}
use Rattle.script_text.specs.Script.{command_code, form_code_of, rule_code, script_after}
use Rattle.script_rules.specs.Told.{shape_ranks, ranks_told, told_by, told_of_script}
use Rattle.script_bounds.specs.Accepted.{named_words, count_rules, names_code, broken_by, KeepsRules}
use Rattle.script_words.proofs.Tables.{or_none, all_kept}
use Rattle.script_rules.proofs.Counting.{total-append, commands_of-none, commands_of-some}
use Rattle.script_text.proofs.Keeping.{bind_some, word_of, formed, formed_command, command_spelled, Said, KeepsRulesOf, KeepsRulesOf-from_script_after, read_lines_of}

-- ---- the words of the commands as text

abbrev spelling : CommandWord → List ℕ
spelling w.Grid = codes "grid"
spelling w.Matrix = codes "matrix"
spelling w.Pgemm = codes "pgemm"
spelling w.Ptrsm = codes "ptrsm"
spelling w.Pgetrf = codes "pgetrf"
spelling w.Pgetrs = codes "pgetrs"
spelling w.Pgemr2d = codes "pgemr2d"
spelling w.Print = codes "print"
spelling w.Pivots = codes "pivots"
spelling w.Discard = codes "drop"
spelling w.Topology = codes "topology"
spelling w.Links = codes "links"
spelling w.Order = codes "order"
spelling w.Lose = codes "lose"
spelling w.Spares = codes "spares"
spelling w.Field = codes "field"
spelling w.Ptran = codes "ptran"
spelling w.Pgetri = codes "pgetri"
spelling w.Flip = codes "flip"
spelling w.Pverify = codes "pverify"

abbrev AllSpelled : List (List ℕ × CommandWord) → Type 0
AllSpelled [] = Unit {0}
AllSpelled (row ∷ rows) = (row.0 ≡ spelling row.1) × AllSpelled rows

by_row : (row : List ℕ × CommandWord) (rest : Option CommandWord) (word : List ℕ) (x : CommandWord) → row.0 ≡ spelling row.1 → (rest ≡ Some x → word ≡ spelling x) →
    (t : Bool) → bytes_eq word row.0 ≡ t → cond t (Some row.1) rest ≡ Some x → word ≡ spelling x
by_row row rest word x s more true t e = (bytes_eq-Decides word row.0).0 t ∙ s ∙ ap spelling (same_Some row.1 x e)
by_row row rest word x s more false t e = more e

command_in-spelled : (rows : List (List ℕ × CommandWord)) (word : List ℕ) (x : CommandWord) → AllSpelled rows → command_in rows word ≡ Some x → word ≡ spelling x
command_in-spelled [] word x h e = absurd cc
command_in-spelled (row ∷ rows) word x h e = by_row row (command_in rows word) word x h.0 (command_in-spelled rows word x h.1) (bytes_eq word row.0) refl e

command_word-spelled : (word : List ℕ) (x : CommandWord) → command_word word ≡ Some x → word ≡ spelling x
unfolding command_word
command_word-spelled word x e = by_own (command_in own_words word) refl e
  where
    by_own : (o : Option CommandWord) → command_in own_words word ≡ o → option_or o (command_in routine_words word) ≡ Some x → word ≡ spelling x
    by_own (Some y) o e = command_in-spelled own_words word x (refl, (refl, (refl, (refl, (refl, (refl, (refl, (refl, (refl, (refl, (refl, (refl, tt)))))))))))) (o ∙ e)
    by_own None o e = command_in-spelled routine_words word x (refl, (refl, (refl, (refl, (refl, (refl, (refl, (refl, tt)))))))) e

-- ---- the ranks of a line

-- a line whose first word isn't `grid`
none_told : (first : List ℕ) (others : List (List ℕ)) → bytes_eq first (codes "grid") ≡ false → ranks_told (first ∷ others) ≡ 0
none_told first [] t = refl
none_told first (x0 ∷ []) t = refl
none_told first (x0 ∷ x1 ∷ []) t = refl
none_told first (x0 ∷ x1 ∷ x2 ∷ []) t = refl
none_told first (x0 ∷ x1 ∷ x2 ∷ x3 ∷ []) t = ap (λ b. cond b (shape_ranks (number_of x1) (number_of x2) (number_of x3)) 0) t
none_told first (x0 ∷ x1 ∷ x2 ∷ x3 ∷ x4 ∷ more) t = refl

shape_told : (a b d : Option ℕ) (p q f : ℕ) → a ≡ Some p → b ≡ Some q → d ≡ Some f → is_shape p q f ≡ true → shape_ranks a b d ≡ p * (q + f)
shape_told a b d p q f ea eb ed t =
    ap (λ o. shape_ranks o b d) ea ∙ ap (λ o. shape_ranks (Some p) o d) eb ∙ ap (λ o. shape_ranks (Some p) (Some q) o) ed ∙ ap (λ t. cond t (p * (q + f)) 0) t

grid_told : (told : Told) (cs : List Numbered) (line : ℕ) (others : List (List ℕ)) (d : Command) → length others ≡ 4 → grid_of (codes "grid" ∷ others) ≡ Some d → first_code (rules told cs line d) ≡ None →
    ranks_told (codes "grid" ∷ others) ≡ ranks_made d
unfolding grid_of
grid_told told cs line [] d n e r = absurd (omega arith)
grid_told told cs line (x0 ∷ []) d n e r = absurd (omega arith)
grid_told told cs line (x0 ∷ x1 ∷ []) d n e r = absurd (omega arith)
grid_told told cs line (x0 ∷ x1 ∷ x2 ∷ []) d n e r = absurd (omega arith)
grid_told told cs line (x0 ∷ x1 ∷ x2 ∷ x3 ∷ []) d n e r =
    let p = bind_some (number_of x1) _ d e in
    let q = bind_some (number_of x2) _ d p.2 in
    let f = bind_some (number_of x3) _ d q.2 in
    let same : c.Grid x0 p.0 q.0 f.0 ≡ d = same_Some (c.Grid x0 p.0 q.0 f.0) d f.2 in
    let kept : first_code (grid_rules (ranks_of cs) p.0 q.0 f.0) ≡ None = subst (λ x. first_code (rules told cs line x) ≡ None) (sym same) r in
    shape_told (number_of x1) (number_of x2) (number_of x3) p.0 q.0 f.0 p.1 q.1 f.1 (all_kept (grid_rules (ranks_of cs) p.0 q.0 f.0) kept).0 ∙ ap ranks_made same
grid_told told cs line (x0 ∷ x1 ∷ x2 ∷ x3 ∷ x4 ∷ more) d n e r = absurd (omega arith)

no_ranks : (d : Command) → (word_of d ≡ w.Grid → ⊥) → ranks_made d ≡ 0
no_ranks (c.Grid name p q f) h = absurd (h refl)
no_ranks d h = refl

ranks_by : (told : Told) (cs : List Numbered) (line : ℕ) (first : List ℕ) (others : List (List ℕ)) (d : Command) (x : CommandWord) → first ≡ spelling x → word_of d ≡ x → command_as (Some x) (first ∷ others) ≡ Some d →
    (x ≡ w.Grid → length others ≡ 4) → first_code (rules told cs line d) ≡ None → ranks_told (first ∷ others) ≡ ranks_made d
unfolding command_as
ranks_by told cs line first others d w.Grid s v e n r =
    ap (λ f. ranks_told (f ∷ others)) s ∙ grid_told told cs line others d (n refl) (sym (ap (λ f. grid_of (f ∷ others)) s) ∙ e) r
ranks_by told cs line first others d x s v e n r = none_told first others (ap (λ f. bytes_eq f (codes "grid")) s) ∙ sym (no_ranks d (λ g. cc))

-- ---- a line that is read tells what its command does

abbrev ranks_of_line : Option Command → ℕ
ranks_of_line None = 0
ranks_of_line (Some d) = ranks_made d

form_of_grid : (script : List (Option Command)) (first : List ℕ) (others : List (List ℕ)) → form_code_of script (first ∷ others) ≡ None → command_word first ≡ Some w.Grid → length others ≡ 4
form_of_grid script first others f e = eqb-true (length others) 4 (formed script w.Grid others (sym (ap (λ o. command_code script o others) e) ∙ f)).count

line_tells : (told : Told) (front : List (Option Command)) (words : List (List ℕ)) (o : Option Command) → Said told front words o → ranks_told words ≡ ranks_of_line o
unfolding command_of rule_code
line_tells told front [] o said = subst (λ x. 0 ≡ ranks_of_line x) said.command refl
line_tells told front (first ∷ others) o said =
    let there = command_spelled front first others said.form in
    let d = there.0 in
    let is : Some d ≡ o = sym there.1 ∙ said.command in
    let by_form = formed_command front first others d said.form there.1 in
    let same : first ≡ spelling by_form.0 = command_word-spelled first by_form.0 by_form.1 in
    let word : word_of d ≡ by_form.0 = by_form.2.same in
    let kept : first_code (rules told (commands_of front) (suc (length front)) d) ≡ None = ap (rule_code told front) is ∙ said.rule in
    let spelled : command_as (Some by_form.0) (first ∷ others) ≡ Some d = sym (ap (λ x. command_as x (first ∷ others)) by_form.1) ∙ there.1 in
    let count : by_form.0 ≡ w.Grid → length others ≡ 4 = λ g. form_of_grid front first others said.form (by_form.1 ∙ ap (λ (x : CommandWord). Some x) g) in
    subst (λ x. ranks_told (first ∷ others) ≡ ranks_of_line x) is (ranks_by told (commands_of front) (suc (length front)) first others d by_form.0 same word spelled count kept)

-- ---- the whole script

ranks_more : (front : List (Option Command)) (o : Option Command) → ranks_of (commands_of (front ++ o ∷ [])) ≡ ranks_of (commands_of front) + ranks_of_line o
ranks_more front None = omega (arith, ap ranks_of (commands_of-none front))
ranks_more front (Some d) =
    ap ranks_of (commands_of-some front (suc (length front)) d refl) ∙ total-append (λ before n. ranks_made n.command) (commands_of front) (record { line = suc (length front); command = d })

-- what the commands of the lines so far and the lines that are left tell together
abbrev TellsAll : List (List (List ℕ)) → List (Option Command) → List (List (List ℕ)) → Type 0
TellsAll all front lines = ranks_of (commands_of front) + sum_by ranks_told lines ≡ sum_by ranks_told all

TellsAll-next : (told : Told) (all : List (List (List ℕ))) (front : List (Option Command)) (words : List (List ℕ)) (lines : List (List (List ℕ))) (o : Option Command) → Said told front words o →
    TellsAll all front (words ∷ lines) → TellsAll all (front ++ o ∷ []) lines
TellsAll-next told all front words lines o said h = omega (arith, ranks_more front o, line_tells told front words o said, h, sum_by-cons ranks_told words lines)

-- a script that is read tells what its lines tell
pub tells_same : (lines : List (List (List ℕ))) (script : List (Option Command)) → script_after (told_by lines) [] lines ≡ Ok script → told_by lines ≡ told_of_script (commands_of script)
tells_same lines script e =
    let whole : TellsAll lines script [] =
    read_lines_of (told_by lines) (TellsAll lines) script (λ front words rest o said h. TellsAll-next (told_by lines) lines front words rest o said h) [] lines (omega arith) e in
    let ranks : sum_by ranks_told lines ≡ ranks_of (commands_of script) = omega (arith, whole) in
    λ i. record { ranks = ranks i }

-- a script none of whose lines breaks a rule, where its own commands tell what it tells as a whole, keeps the rules
pub KeepsRules-from_Of : (script : List (Option Command)) → KeepsRulesOf (told_of_script (commands_of script)) script → KeepsRules script
KeepsRules-from_Of script h = record { few = h.few; kept = h.kept }

-- a script that is read keeps the rules
pub KeepsRules-from_script_after : (lines : List (List (List ℕ))) (script : List (Option Command)) → script_after (told_by lines) [] lines ≡ Ok script → KeepsRules script
KeepsRules-from_script_after lines script e =
    KeepsRules-from_Of script (subst (λ told. KeepsRulesOf told script) (tells_same lines script e) (KeepsRulesOf-from_script_after (told_by lines) lines script e))

-- a command that breaks no rule of its line breaks none of its own
pub rules_of : (told : Told) (front : List (Option Command)) (d : Command) → broken_by told front d ≡ None → first_code (rules told (commands_of front) (suc (length front)) d) ≡ None
unfolding broken_by
rules_of told front d e =
    let one = or_none (first_code (count_rules d)) _ e in
    (or_none (names_code (commands_of front) (suc (length front)) (named_words d)) _ one.1).1
