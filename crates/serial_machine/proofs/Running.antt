-- The serial run under way: what is left of it, and that each command leads to the rest.
use Rattle.std.proofs.Common.{◌≡◌, ℕ, suc, ◌<◌, ◌≤◌, List, [], ◌∷◌, ◌++◌, Option, Some, None, length, drop, append_assoc, sym, ap, subst, ◌∙◌}
use Rattle.std.proofs.lemmas.List.{append-nil, drop_all}
use Rattle.run_data.specs.declared.command.Command.{Command}
use Rattle.run_data.specs.Script.{Numbered, commands_from}
use Rattle.rank_machine.specs.Scripts.{Matrices, file_of}
use Rattle.serial_model.specs.Serial.{Values, values_under, text_under, texts_under, no_values}
use Rattle.serial_machine.specs.Ready.{AreReady, AreWhole}
use Rattle.serial_machine.proofs.Keeping.{keeps-whole}

-- these commands are left, from these values on, after this text of a whole text
pub record InRun (p : ℕ) (inverse : ℕ → ℕ) (script : List Numbered) (files : Matrices) (all : List ℕ) (left : List Numbered) (values : Values) (text : List ℕ) : Type 0 where
  pub ready : AreReady p inverse files left values
  pub whole : AreWhole p values
  pub said : text ++ texts_under p inverse script (file_of files) left values ≡ all

pub run-first : (p : ℕ) (inverse : ℕ → ℕ) (script : List Numbered) (files : Matrices) (ns : List Numbered) (values : Values) (text : List ℕ) → values ≡ no_values → text ≡ [] → AreReady p inverse files ns no_values
    → InRun p inverse script files (texts_under p inverse script (file_of files) ns no_values) ns values text
run-first p inverse script files ns values text ev et ready = record {
  ready = subst (AreReady p inverse files ns) (sym ev) ready;
  whole = record { matrices = λ name m e. absurd (no_value (sym (ap (λ (v : Values). v name) ev) ∙ e)) };
  said = λ t. et t ++ texts_under p inverse script (file_of files) ns (ev t);
}
  where
    no_value : {X : Type 0} {x : X} → None ≡ Some x → ⊥
    no_value e = cc

pub run-after : (p : ℕ) (inverse : ℕ → ℕ) (script : List Numbered) (files : Matrices) (all : List ℕ) (n : Numbered) (left : List Numbered) (values : Values) (text : List ℕ) (values' : Values) (text' : List ℕ) → 0 < p
    → InRun p inverse script files all (n ∷ left) values text → values' ≡ values_under p inverse (file_of files) n.line n.command values → text' ≡ text ++ text_under p inverse script n.line n.command values
    → InRun p inverse script files all left values' text'
run-after p inverse script files all n left values text values' text' pos way ev et = record {
  ready = subst (AreReady p inverse files left) (sym ev) way.ready.1;
  whole = subst (AreWhole p) (sym ev) (keeps-whole p inverse files n.line n.command values pos way.whole way.ready.0);
  said = (λ t. et t ++ texts_under p inverse script (file_of files) left (ev t)) ∙ append_assoc text (text_under p inverse script n.line n.command values) (texts_under p inverse script (file_of files) left (values_under p inverse (file_of files) n.line n.command values)) ∙ way.said;
}

pub run-over : (p : ℕ) (inverse : ℕ → ℕ) (script : List Numbered) (files : Matrices) (all : List ℕ) (values : Values) (text : List ℕ) → InRun p inverse script files all [] values text → text ≡ all
run-over p inverse script files all values text way = sym (append-nil text) ∙ way.said

-- no line is left
pub none-left : (lines : List (Option Command)) (i : ℕ) → length lines ≤ i → commands_from (suc i) (drop i lines) ≡ []
none-left lines i past = ap (λ ls. commands_from (suc i) ls) (drop_all i lines past)
