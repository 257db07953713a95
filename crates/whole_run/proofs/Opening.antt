-- Before its first line a run has done nothing.
use Rattle.std.proofs.Common.{◌≡◌, ◌+◌, ◌*◌, ◌≤◌, ◌<◌, ◌==◌, ◌&&◌, ◌||◌, ℕ, zero, suc, Bool, true, false, not, nat_lt, List, [], ◌∷◌, ◌++◌, length, Option, refl, sym, ap, subst, ◌∙◌, ⊎_elim, arith}
use Rattle.std.specs.Prelude.{if◌then◌else◌, nat_le}
use Rattle.std.proofs.Math.Nat.{mul-le-mul_right}
use Rattle.std.specs.List.{sum_by}
use Rattle.std.proofs.lemmas.List.{length-append}
use Rattle.std.proofs.lemmas.List.Sums.{sum_by-cons}
use Rattle.std.proofs.lemmas.Bool.{and_parts, or_cases, eqb-true, ltb-true, leb-true, true≢false, cases_Bool, false_from_ne_true}
use Rattle.run_data.specs.declared.command.Command.{Command}
use Rattle.run_data.specs.declared.command.Command.TheVariants as c
use Rattle.run_data.specs.Script.{Numbered, commands_of}
use Rattle.rank_machine.specs.declared.slot.Slot.{Slot}
use Rattle.rank_machine.specs.declared.record.Loss.{Loss}
use Rattle.rank_machine.specs.Setting.{Setting, Job, is_job, is_matrix, factored}
use Rattle.rank_machine.specs.Scripts.{Matrices, file_of, losses_in, loss_made, setting_of}
use Rattle.rank_machine.specs.State.{State, opened, first_mark}
use Rattle.rank_machine.specs.Effect.{has_ended, is_dropped, is_live_matrix, is_live_list}
use Rattle.rank_machine.specs.Held.{words_in}
use Rattle.script_bounds.specs.Bounds.{losses, losses_made}
use Rattle.serial_model.specs.Serial.{no_values, text_from, up_to}
use Rattle.block_world.specs.World.{WorldView}
use Rattle.run_laws.specs.Due.{is_ahead, ahead_of}
use Rattle.run_laws.specs.NextMark.{JobsRise, has_line}
use Rattle.run_laws.proofs.Scripts.{script_rising}
use Rattle.whole_run.specs.PrintedFrom.{ArePrinted}
use Rattle.loss_recovery.proofs.Opening.{at_rest_opened}
use Rattle.line_laws.proofs.UpTo.{none-before}
use Rattle.line_laws.proofs.NextLine.{above, job-of_list}
use Rattle.whole_run.specs.Between.{HasRun, cost}

-- a world in which nothing has happened yet
abbrev pub fresh_world : List (Option Command) → Matrices → ℕ → WorldView
fresh_world script files room = record { script = script; files = files; journal = []; room = room }

-- ---- no line has ended
none_ended : (line : ℕ) → has_ended first_mark line ≡ true → ⊥
none_ended line h =
    ⊎_elim
    (λ (e : nat_lt line 0 ≡ true). absurd (omega (arith, ltb-true line 0 e)))
    (λ (e : ((line == 0) && false) ≡ true). absurd (true≢false (sym (and_parts (line == 0) false e).1)))
    (or_cases (nat_lt line 0) ((line == 0) && false) h)

not_job : (script : List (Option Command)) (files : Matrices) (at : ℕ) → is_job (setting_of script files) at ≡ true → nat_le at 0 ≡ true → ⊥
not_job script files at job le = absurd (omega (arith, above (setting_of script files).jobs 0 at (script_rising script files) job, leb-true at 0 le))

no_matrix : (s : Setting) (line : ℕ) → is_live_matrix s first_mark line ≡ true → ⊥
no_matrix s line live =
    none_ended line (and_parts (is_matrix s line) (has_ended first_mark line) (and_parts (is_matrix s line && has_ended first_mark line) (not (is_dropped s first_mark line)) live).0).1

no_list : (script : List (Option Command)) (files : Matrices) (line : ℕ) → is_live_list (setting_of script files) first_mark line ≡ true → ⊥
no_list script files line live =
    let s = setting_of script files in
    let parts = and_parts (nat_lt 0 (factored s line)) (nat_le line 0) (and_parts (nat_lt 0 (factored s line) && nat_le line 0) (not (is_dropped s first_mark line)) live).0 in
    not_job script files line (job-of_list s line parts.0) parts.1

-- ---- words
no_words : (s : Setting) (rank : ℕ) (slots : List Slot) → words_in (opened s) rank slots ≡ 0
no_words s rank [] = refl
no_words s rank (x ∷ xs) = omega (arith, no_words s rank xs)

-- ---- losses
loss_one : (x : Command) → length (loss_made x) ≡ losses_made x
loss_one (c.Lose at rank) = refl
loss_one (c.Grid name p q f) = refl
loss_one (c.Matrix name grid m n mb nb rsrc csrc file) = refl
loss_one (c.Pgemm transa transb m n k alpha a ia ja b ib jb beta x ic jc) = refl
loss_one (c.Ptrsm side uplo transa diag m n alpha a ia ja b ib jb) = refl
loss_one (c.Pgetrf m n a ia ja v) = refl
loss_one (c.Pgetrs trans n nrhs a ia ja v b ib jb) = refl
loss_one (c.Pgemr2d m n a ia ja b ib jb ctxt) = refl
loss_one (c.Print name) = refl
loss_one (c.Pivots name) = refl
loss_one (c.Discard name) = refl
loss_one (c.Topology kind) = refl
loss_one (c.Links n) = refl
loss_one (c.Order numbers) = refl
loss_one (c.Spares n) = refl
loss_one (c.Field n) = refl
loss_one (c.Ptran m n alpha a ia ja beta x ic jc) = refl
loss_one (c.Pgetri n a ia ja v b ib jb) = refl
loss_one (c.Flip name i j x) = refl
loss_one (c.Pverify name) = refl

losses_counted : (ns : List Numbered) → length (losses_in ns) ≡ losses ns
unfolding losses
losses_counted [] = refl
losses_counted (n ∷ ns) =
    length-append (loss_made n.command) (losses_in ns) ∙ (omega (arith, loss_one n.command, losses_counted_here ns (losses_counted ns), sum_by-cons (λ (n : Numbered). losses_made n.command) n ns))
  where
    losses_counted_here : (xs : List Numbered) → length (losses_in xs) ≡ losses xs → length (losses_in xs) ≡ sum_by (λ n. losses_made n.command) xs
    losses_counted_here xs e = e

few_ahead : (ls : List Loss) (n : ℕ) (fell : Bool) → ahead_of ls n fell ≤ length ls
few_ahead [] n fell = omega arith
few_ahead (l ∷ ls) n fell = omega (arith, few_ahead ls n fell, one (is_ahead n fell l))
  where
    one : (b : Bool) → (if b then 1 else 0) ≤ 1
    one true = omega arith
    one false = omega arith

few_spent : (a most c : ℕ) → a ≤ most → 0 + a * c ≤ 0 + most * c
few_spent a most c le = omega (arith, mul-le-mul_right c le)

pub at-opening : (script : List (Option Command)) (files : Matrices) (room : ℕ) → HasRun script files 0 (fresh_world script files room) []
at-opening script files room =
    let s = setting_of script files in
    let ns = commands_of script in
    let none : up_to 0 ns ≡ [] = none-before 1 0 script (omega arith) in
    record {
      script_is = refl;
      files_are = refl;
      rest = at_rest_opened (fresh_world script files room) refl (λ line. not_live (is_live_list s first_mark line) (no_list script files line));
      done = λ at job. not_live (has_ended first_mark at) (none_ended at) ∙ sym (not_live (nat_le at 0) (not_job script files at job));
      none_begun = refl;
      last = refl;
      ends = λ at job le. absurd (not_job script files at job le);
      stands = record { matrices = λ line name live names. absurd (no_matrix s line live); lists = λ line name live names. absurd (no_list script files line live) };
      printed = subst (λ xs. ArePrinted s ns [] xs []) (sym none) refl;
      text = sym (ap (λ xs. text_from (file_of files) ns xs no_values) none);
      bounds = record { goes = record { may = tt; back = tt }; short = tt; heals = tt; held = λ rank lt slots distinct. omega (arith, no_words s rank slots) };
      few = omega (arith, few_spent (ahead_of s.losses 0 false) (losses ns) (cost ns) (omega (arith, few_ahead s.losses 0 false, losses_counted ns)));
    }
  where
    not_live : (b : Bool) → (b ≡ true → ⊥) → b ≡ false
    not_live b never = false_from_ne_true b never
