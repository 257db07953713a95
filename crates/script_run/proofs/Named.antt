-- The names of matrices and of pivot lists are text.
use Rattle.std.proofs.Common.{◌≡◌, ℕ, zero, suc, ◌<◌, Bool, true, false, cond, ◌&&◌, List, [], ◌∷◌, Option, Some, None, refl, sym, ap, subst, ◌∙◌, arith, ◌⊎◌, inl, inr, ⊎_elim}
use Rattle.std.specs.Prelude.{nat_le, nat_lt, length, Contains}
use Rattle.std.specs.Char.{is_ascii_alphabetic}
use Rattle.std.specs.List.{list_all}
use Rattle.std.specs.Str.{bytes_eq, IsUtf8, IsAscii}
use Rattle.std.proofs.lemmas.Str.{IsUtf8-from_ascii}
use Rattle.std.proofs.lemmas.Slice.Eq.{bytes_eq-Decides}
use Rattle.std.proofs.lemmas.Bool.{and_parts, false≢true}
use Rattle.std.proofs.lemmas.Option.{same_Some}
use Rattle.std.proofs.lemmas.Bool.Decides.{nat_tests}
use Rattle.run_data.specs.declared.command.Command.{Command}
use Rattle.run_data.specs.declared.command.Command.TheVariants as c
use Rattle.run_data.specs.Script.{Numbered, commands_of, command_at, name_made, name_dropped, maker_after, maker_from, maker}
use Rattle.run_data.specs.Script as names
use Rattle.script_recovery.proofs.GridsAt.{commands-rise}
use Rattle.script_run.proofs.EachCommand.{Contains-head, Contains-later, command_at-there}
use Rattle.script_words.specs.Names.{is_name_byte, is_name}
use Rattle.script_rules.specs.Rules.{command_on, maker_command, is_matrix_line, is_list_line}
use Rattle.script_bounds.specs.Accepted.{KeepsRules}
use Rattle.script_bounds.proofs.Limits.{print_kept, NameIsNew, matrix_name_kept, list_name_kept}

-- ---- a name is text
letter_below : (b : ℕ) → is_ascii_alphabetic b ≡ true → b < 128
letter_below b h = grind (arith, nat_tests)

name_byte_below : (b : ℕ) → is_name_byte b ≡ true → b < 128
name_byte_below b h = grind (arith, nat_tests)

rest_below : (bs : List ℕ) → list_all is_name_byte bs ≡ true → IsAscii bs
rest_below [] h i = omega arith
rest_below (b ∷ bs) h zero = name_byte_below b (and_parts (is_name_byte b) (list_all is_name_byte bs) h).0
rest_below (b ∷ bs) h (suc i) = rest_below bs (and_parts (is_name_byte b) (list_all is_name_byte bs) h).1 i

name_below : (bs : List ℕ) → is_name bs ≡ true → IsAscii bs
name_below [] h i = omega arith
name_below (b ∷ bs) h zero = letter_below b (and_parts (is_ascii_alphabetic b) (list_all is_name_byte bs) (and_parts (is_ascii_alphabetic b && list_all is_name_byte bs) (nat_le (length bs) 15) h).0).0
name_below (b ∷ bs) h (suc i) = rest_below bs (and_parts (is_ascii_alphabetic b) (list_all is_name_byte bs) (and_parts (is_ascii_alphabetic b && list_all is_name_byte bs) (nat_le (length bs) 15) h).0).1 i

name_is_text : (bs : List ℕ) → is_name bs ≡ true → IsUtf8 bs
name_is_text bs h = IsUtf8-from_ascii bs (name_below bs h)

-- ---- what a name means was made under that name
pub record MadeUnder (ns : List Numbered) (name : List ℕ) (line : ℕ) : Type 0 where
  pub by : Numbered
  pub among : Contains ns by
  pub on : by.line ≡ line
  pub named : names.is_name (name_made by.command) name ≡ true

later : (n : Numbered) (ns : List Numbered) (name : List ℕ) (line : ℕ) → MadeUnder ns name line → MadeUnder (n ∷ ns) name line
later n ns name line m = record { by = m.by; among = Contains-later n ns m.by m.among; on = m.on; named = m.named }

made_now : (made dropped : Bool) (here : ℕ) (before : Option ℕ) (line : ℕ) → cond made (Some here) (cond dropped None before) ≡ Some line → ((made ≡ true) × (here ≡ line)) ⊎ (before ≡ Some line)
made_now true dropped here before line e = inl (refl, cc)
made_now false true here before line e = absurd cc
made_now false false here before line e = inr e

seen_now : (b : Bool) (after before : Option ℕ) (line : ℕ) → cond b after before ≡ Some line → (after ≡ Some line) ⊎ (before ≡ Some line)
seen_now true after before line e = inl e
seen_now false after before line e = inr e

made_under : (ns : List Numbered) (upto : ℕ) (name : List ℕ) (before : Option ℕ) (line : ℕ) → maker_from ns upto name before ≡ Some line → MadeUnder ns name line ⊎ (before ≡ Some line)
made_under [] upto name before line e = inr e
made_under (n ∷ ns) upto name before line e =
    ⊎_elim
    (λ (m : MadeUnder ns name line). inl (later n ns name line m))
    (λ (h : cond (nat_lt n.line upto) (maker_after n name before) before ≡ Some line).
    ⊎_elim
    (λ (a : maker_after n name before ≡ Some line).
    ⊎_elim
    (λ (p : (names.is_name (name_made n.command) name ≡ true) × (n.line ≡ line)). inl (record { by = n; among = Contains-head n ns; on = p.1; named = p.0 }))
    (λ (b : before ≡ Some line). inr b)
    (made_now (names.is_name (name_made n.command) name) (names.is_name (name_dropped n.command) name) n.line before line a))
    (λ (b : before ≡ Some line). inr b)
    (seen_now (nat_lt n.line upto) (maker_after n name before) before line h))
    (made_under ns upto name (cond (nat_lt n.line upto) (maker_after n name before) before) line e)

pub maker-named : (ns : List Numbered) (upto : ℕ) (name : List ℕ) (line : ℕ) → maker ns upto name ≡ Some line → MadeUnder ns name line
maker-named ns upto name line e = ⊎_elim (λ (m : MadeUnder ns name line). m) (λ (h : ◌≡◌ {A = Option ℕ} None (Some line)). absurd cc) (made_under ns upto name None line e)

-- ---- the name of a matrix or of a pivot list
module _ (script : List (Option Command)) (line : ℕ) (name : List ℕ) (keeps : KeepsRules script) where
  -- what a name means was made by a command under a new name
  made-named : (at : ℕ) (command : Command) (made : List ℕ) → maker (commands_of script) line name ≡ Some at → command_at (commands_of script) at ≡ Some command → name_made command ≡ Some made
      → NameIsNew (commands_of script) at made → IsUtf8 name
  made-named at command made means e m new =
      let ns : List Numbered = commands_of script in
      let under : MadeUnder ns name at = maker-named ns line name at means in
      let is : command_at ns at ≡ Some under.by.command = ap (command_at ns) (sym under.on) ∙ command_at-there ns under.by (commands-rise script) under.among in
      let same : under.by.command ≡ command = same_Some under.by.command command (sym is ∙ e) in
      let equal : bytes_eq made name ≡ true = sym (ap (λ (command : Command). names.is_name (name_made command) name) same ∙ ap (λ (o : Option (List ℕ)). names.is_name o name) m) ∙ under.named in
      let one : made ≡ name = (bytes_eq-Decides made name).0 equal in
      subst IsUtf8 one (name_is_text made new.form)

  pub matrix-named : is_matrix_line (maker_command (commands_of script) line name) ≡ true → IsUtf8 name
  matrix-named h = by_maker (maker (commands_of script) line name) refl h
    where
      by_command : (at : ℕ) (o : Option Command) → maker (commands_of script) line name ≡ Some at → command_at (commands_of script) at ≡ o → is_matrix_line o ≡ true → IsUtf8 name
      by_command at (Some (c.Matrix made grid m n mb nb rsrc csrc file)) means e h =
          made-named at (c.Matrix made grid m n mb nb rsrc csrc file) made means e refl (matrix_name_kept script at made grid m n mb nb rsrc csrc file keeps e)
      by_command at None means e h = absurd (false≢true h)
      by_command at (Some command) means e h = absurd (false≢true h)

      by_maker : (o : Option ℕ) → maker (commands_of script) line name ≡ o → is_matrix_line (command_on (commands_of script) o) ≡ true → IsUtf8 name
      by_maker None means h = absurd (false≢true h)
      by_maker (Some at) means h = by_command at (command_at (commands_of script) at) means refl h

  pub list-named : is_list_line (maker_command (commands_of script) line name) ≡ true → IsUtf8 name
  list-named h = by_maker (maker (commands_of script) line name) refl h
    where
      by_command : (at : ℕ) (o : Option Command) → maker (commands_of script) line name ≡ Some at → command_at (commands_of script) at ≡ o → is_list_line o ≡ true → IsUtf8 name
      by_command at (Some (c.Pgetrf m n a ia ja v)) means e h = made-named at (c.Pgetrf m n a ia ja v) v means e refl (list_name_kept script at m n a ia ja v keeps e)
      by_command at None means e h = absurd (false≢true h)
      by_command at (Some command) means e h = absurd (false≢true h)

      by_maker : (o : Option ℕ) → maker (commands_of script) line name ≡ o → is_list_line (command_on (commands_of script) o) ≡ true → IsUtf8 name
      by_maker None means h = absurd (false≢true h)
      by_maker (Some at) means h = by_command at (command_at (commands_of script) at) means refl h

-- what a print names is a matrix
pub print-matrix : (script : List (Option Command)) (line : ℕ) (name : List ℕ) → KeepsRules script → command_at (commands_of script) line ≡ Some (c.Print name) → is_matrix_line (maker_command (commands_of script) line name) ≡ true
print-matrix script line name keeps e =
    let means = (print_kept script line name keeps e).means in
    ap (λ o. is_matrix_line (command_on (commands_of script) o)) means.maker_is ∙ ap is_matrix_line means.matrix

pub print-named : (script : List (Option Command)) (line : ℕ) (name : List ℕ) → KeepsRules script → command_at (commands_of script) line ≡ Some (c.Print name) → IsUtf8 name
print-named script line name keeps e = matrix-named script line name keeps (print-matrix script line name keeps e)
