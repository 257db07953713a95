-- A line that makes no records changes nothing.
use Rattle.std.proofs.Common.{◌≡◌, ◌+◌, ◌*◌, ◌≤◌, ◌<◌, ◌==◌, ℕ, suc, Bool, true, false, nat_lt, List, [], ◌∷◌, ◌++◌, Option, Some, None, refl, sym, ap, subst, ◌∙◌, ⊎_elim, arith}
use Rattle.std.specs.Prelude.{if◌then◌else◌, nat_le}
use Rattle.std.specs.List.{sum_by}
use Rattle.std.proofs.lemmas.List.{append-nil, append_assoc}
use Rattle.std.proofs.lemmas.List.Sums.{sum_by-append}
use Rattle.std.proofs.lemmas.Bool.{leb-true, le-leb, true≢false, cases_Bool, false_from_ne_true}
use Rattle.run_data.specs.Matrix.{Matrix}
use Rattle.run_data.specs.declared.command.Command.{Command}
use Rattle.run_data.specs.Script.{Numbered, commands_of, command_at, makes_records, modulus_of}
use Rattle.rank_machine.specs.Setting.{Setting, is_job}
use Rattle.rank_machine.specs.Scripts.{Matrices, file_of, setting_of}
use Rattle.rank_machine.specs.State.{State, Took}
use Rattle.rank_machine.specs.Effect.{has_ended}
use Rattle.rank_machine.specs.Losses.{last_ended}
use Rattle.script_bounds.specs.Bounds.{records_in, losses}
use Rattle.serial_model.specs.Serial.{Values, no_values, text_from, up_to, text_to}
use Rattle.block_world.specs.World.{WorldView, setting_in, state_of}
use Rattle.whole_run.specs.PrintedFrom.{IsTextOf, ArePrinted}
use Rattle.line_laws.proofs.UpTo.{one_of, up_to-next, text-append, values-append}
use Rattle.whole_run.specs.Until.{values_at, bound_until}
use Rattle.line_laws.specs.Lines.{values_of}
use Rattle.whole_run.specs.Between.{StandsFor, StandsForMatrix, StandsForList, HasRun, cost}
use Rattle.whole_run.proofs.JobLines.{HasCommand, job-makes}
use Rattle.whole_run.proofs.Shorter.{none_added, same_values, says_nothing}
use Rattle.whole_run.proofs.Ending.{setting_is}

-- the command of a line makes no records, or there is none
abbrev pub IsSilent : Option Command → Type 0
IsSilent None = Unit {0}
IsSilent (Some command) = makes_records command ≡ false

pub printed-append : (s : Setting) (ns : List Numbered) (taken : List Took) (xs ys : List Numbered) (a b : List ℕ) → ArePrinted s ns taken xs a → ArePrinted s ns taken ys b → ArePrinted s ns taken (xs ++ ys) (a ++ b)
printed-append s ns taken [] ys a b h k = subst (λ t. ArePrinted s ns taken ys (t ++ b)) (sym h) k
printed-append s ns taken (n ∷ xs) ys a b h k =
    (h.0, h.1 ++ b, h.2, printed-append s ns taken xs ys h.1 b h.3 k, ap (λ t. t ++ b) h.4 ∙ append_assoc h.0 h.1 b)

module _ (files : ℕ → Matrix) (line : ℕ) where
  silent-values : (p : ℕ) (o : Option Command) (values : Values) → IsSilent o → values_of p files (one_of line o) values ≡ values
  silent-values p None values h = refl
  silent-values p (Some x) values h = same_values p files line x values h

  silent-text : (script : List Numbered) (o : Option Command) (values : Values) → IsSilent o → text_from files script (one_of line o) values ≡ []
  silent-text script None values h = refl
  silent-text script (Some x) values h = ap (λ ws. ws ++ []) (none_added script line x values h)

silent-printed : (s : Setting) (ns : List Numbered) (taken : List Took) (line : ℕ) (o : Option Command) → IsSilent o → ArePrinted s ns taken (one_of line o) []
silent-printed s ns taken line None h = refl
silent-printed s ns taken line (Some x) h = ([], [], says_nothing s ns taken line x h, refl, refl)

-- ---- the line is no job
pub le_step : (at line : ℕ) → nat_le at (suc line) ≡ true → (at ≡ suc line → ⊥) → nat_le at line ≡ true
le_step at line h other = le-leb at line (less at line (leb-true at (suc line) h) other)
  where
    less : (a b : ℕ) → a ≤ suc b → (a ≡ suc b → ⊥) → a ≤ b
    less a b le ne = grind arith

le_same : (at line : ℕ) → (at ≡ suc line → ⊥) → nat_le at line ≡ nat_le at (suc line)
le_same at line other =
    ⊎_elim
    (λ (e : nat_le at line ≡ true). e ∙ sym (le-leb at (suc line) (omega (arith, leb-true at line e))))
    (λ (e : nat_le at line ≡ false). e ∙ sym (false_from_ne_true (nat_le at (suc line)) (λ h. true≢false (sym (le_step at line h other) ∙ e))))
    (cases_Bool (nat_le at line))

no_job : (script : List (Option Command)) (files : Matrices) (line : ℕ) → IsSilent (command_at (commands_of script) line) → is_job (setting_of script files) line ≡ true → ⊥
no_job script files line silent job =
    let k = job-makes script files line job in
    let makes_none : makes_records k.command ≡ false = subst IsSilent k.there silent in
    true≢false (sym k.makes ∙ makes_none)

-- what holds before such a line holds after it
pub passed : (script : List (Option Command)) (files : Matrices) (line : ℕ) (w : WorldView) (out : List ℕ) → HasRun script files line w out → IsSilent (command_at (commands_of script) (suc line)) → HasRun script files (suc line) w out
passed script files line w out h silent =
    let ns = commands_of script in
    let one = one_of (suc line) (command_at ns (suc line)) in
    let more : up_to (suc line) ns ≡ up_to line ns ++ one = up_to-next 1 line script in
    let same : setting_in w ≡ setting_of script files = setting_is w script files h.script_is h.files_are in
    let other : (at : ℕ) → is_job (setting_in w) at ≡ true → at ≡ suc line → ⊥ =
    λ at job e. no_job script files (suc line) silent (subst (λ n. is_job (setting_of script files) n ≡ true) e (subst (λ s. is_job s at ≡ true) same job)) in
    let values : values_at (file_of files) ns line ≡ values_at (file_of files) ns (suc line) =
    sym (ap (λ xs. values_of (modulus_of ns) (file_of files) xs no_values) more
    ∙ (values-append (modulus_of ns) (file_of files) (up_to line ns) one no_values ∙ silent-values (file_of files) (suc line) (modulus_of ns) (command_at ns (suc line)) (values_at (file_of files) ns line) silent)) in
    let printed : ArePrinted (setting_in w) ns (state_of w).committed (up_to line ns ++ one) (out ++ []) =
    printed-append (setting_in w) ns (state_of w).committed (up_to line ns) one out [] h.printed (silent-printed (setting_in w) ns (state_of w).committed (suc line) (command_at ns (suc line)) silent) in
    let text : text_to (file_of files) ns (suc line) ≡ text_to (file_of files) ns line =
    ap (λ xs. text_from (file_of files) ns xs no_values) more
    ∙ (text-append (file_of files) ns (up_to line ns) one no_values
    ∙ (ap (λ t. text_to (file_of files) ns line ++ t) (silent-text (file_of files) (suc line) ns (command_at ns (suc line)) _ silent) ∙ append-nil (text_to (file_of files) ns line))) in
    let bound : bound_until (suc line) ns ≡ bound_until line ns + sum_by (λ n. records_in ns n.line n.command) one =
    ap (λ xs. sum_by (λ (n : Numbered). records_in ns n.line n.command) xs) more ∙ sum_by-append (λ n. records_in ns n.line n.command) (up_to line ns) one in
    record {
      script_is = h.script_is;
      files_are = h.files_are;
      rest = h.rest;
      done = λ at job. h.done at job ∙ le_same at line (other at job);
      none_begun = h.none_begun;
      last = le-leb (last_ended w.journal) (suc line) (omega (arith, leb-true (last_ended w.journal) line h.last));
      ends = λ at job le. h.ends at job (le_step at line le (other at job));
      stands = subst (λ v. StandsFor (setting_in w) ns (state_of w) v) values h.stands;
      printed = subst (λ xs. ArePrinted (setting_in w) ns (state_of w).committed xs out) (sym more) (subst (λ t. ArePrinted (setting_in w) ns (state_of w).committed (up_to line ns ++ one) t) (append-nil out) printed);
      text = h.text ∙ sym text;
      bounds = h.bounds;
      few = omega (arith, h.few, bound);
    }
