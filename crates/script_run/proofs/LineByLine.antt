-- A run line by line, and its end.
use Rattle.std.proofs.Common.{◌≡◌, ◌≤◌, ◌<◌, ◌+◌, ◌-◌, ℕ, List, [], get_or, Option, Some, None, length, refl, sym, ap, subst, ◌∙◌, arith, add-one}
use Rattle.run_data.proofs.Lines.{command_at_found}
use Rattle.run_data.specs.declared.command.Command.{Command}
use Rattle.run_data.specs.Script.{commands_of, command_at}
use Rattle.rank_machine.specs.Scripts.{Matrices}
use Rattle.rank_machine.specs.JournalText.{journal_text}
use Rattle.block_world.specs.World.{WorldView, setting_in}
use Rattle.run_laws.specs.Due.{IsRunning}
use Rattle.dist_matrix.specs.Site.{SiteView}
use Rattle.world_heal.specs.Outcomes.{IfDrove}
use Rattle.world_heal.specs.declared.healing.Drove.{Drove}
use Rattle.world_heal.specs.declared.healing.Drove.TheVariants as d
use Rattle.loss_recovery.specs.Driven.{site_at}
use Rattle.whole_run.specs.Between.{HasRun}
use Rattle.whole_run.specs.Inside.{IsStopped, ending_at}
use Rattle.whole_run.specs.WholeRun.{IsRunOf}
use Rattle.whole_run.proofs.Ending.{run-done}
use Rattle.whole_run.proofs.Keeping.{run-stopped}
use Rattle.whole_run.proofs.Passing.{IsSilent, passed}
use Rattle.whole_run.proofs.Opening.{fresh_world, at-opening}

-- so many lines have run, and the site is that of the world
pub record IsUpTo (script : List (Option Command)) (files : Matrices) (done : ℕ) (w : WorldView) (v : SiteView) (out : List ℕ) : Type 0 where
  pub run : HasRun script files done w out
  pub site_is : v ≡ site_at w
  pub within : done ≤ length script

-- ---- the next line
-- the command of the line at a place
pub here : (script : List (Option Command)) (i : ℕ) (x : Option Command) → i < length script → x ≡ get_or script i x → command_at (commands_of script) (i + 1) ≡ x
here script i x lt e = let same : i ≡ (i + 1) - 1 = omega arith in command_at_found script (i + 1) x (omega arith) (omega (arith, lt)) (subst (λ k. x ≡ get_or script k x) same e)

-- it has run
pub after-line : (script : List (Option Command)) (files : Matrices) (i : ℕ) (new : WorldView) (v : SiteView) (out : List ℕ) (drove : Drove) → drove ≡ d.Done → i < length script
    → IfDrove (HasRun script files (i + 1) new out) (IsStopped script files i new out) drove → v ≡ site_at new → IsUpTo script files (i + 1) new v out
after-line script files i new v out drove is lt h same = record { run = subst (IfDrove (HasRun script files (i + 1) new out) (IsStopped script files i new out)) is h; site_is = same; within = omega (arith, lt) }

pub same-upto : (script : List (Option Command)) (files : Matrices) (k : ℕ) (w w' : WorldView) (v v' : SiteView) (out out' : List ℕ) → w ≡ w' → v ≡ v' → out ≡ out' → IsUpTo script files k w' v' out' → IsUpTo script files k w v out
same-upto script files k w w' v v' out out' a b e h = subst (λ x. IsUpTo script files k x v out) (sym a) (subst (λ x. IsUpTo script files k w' x out) (sym b) (subst (λ x. IsUpTo script files k w' v' x) (sym e) h))

-- it has no command
pub empty-line : (script : List (Option Command)) (files : Matrices) (i : ℕ) (w : WorldView) (v : SiteView) (out : List ℕ) → i < length script → command_at (commands_of script) (i + 1) ≡ None
    → IsUpTo script files i w v out → IsUpTo script files (i + 1) w v out
empty-line script files i w v out lt none h = record {
  run = subst (λ k. HasRun script files k w out) (sym (add-one i)) (passed script files i w out h.run (subst IsSilent (sym (ap (command_at (commands_of script)) (sym (add-one i)) ∙ none)) tt));
  site_is = h.site_is;
  within = omega (arith, lt);
}

-- it was cut short
pub cut-line : (script : List (Option Command)) (files : Matrices) (i : ℕ) (new : WorldView) (out : List ℕ) (drove : Drove) → (drove ≡ d.Done → ⊥) → IfDrove (HasRun script files (i + 1) new out) (IsStopped script files i new out) drove
    → IfDrove (HasRun script files (length script) new out) (λ cut. (done : ℕ) × IsStopped script files done new out cut) drove
cut-line script files i new out d.Done other h = absurd (other refl)
cut-line script files i new out (d.Beyond grid row) other h = (i, h)
cut-line script files i new out (d.NoSpare rank) other h = (i, h)

-- ---- all lines
pub all-lines : (script : List (Option Command)) (files : Matrices) (i : ℕ) (w : WorldView) (v : SiteView) (out : List ℕ) → IsUpTo script files i w v out → length script ≤ i → HasRun script files (length script) w out
all-lines script files i w v out h past = let whole : i ≡ length script = omega (arith, h.within, past) in subst (λ k. HasRun script files k w out) whole h.run

pub first-line : (script : List (Option Command)) (files : Matrices) (room : ℕ) (w : WorldView) (out : List ℕ) → w ≡ fresh_world script files room → out ≡ [] → HasRun script files 0 w out
first-line script files room w out opened none = subst (λ v. HasRun script files 0 v out) (sym opened) (subst (λ o. HasRun script files 0 (fresh_world script files room) o) (sym none) (at-opening script files room))

-- what all lines, or a line that was cut short, make of a run
pub run-of : (script : List (Option Command)) (files : Matrices) (w : WorldView) (out journal : List ℕ) (drove : Drove)
    → IfDrove (HasRun script files (length script) w out) (λ cut. (done : ℕ) × IsStopped script files done w out cut) drove → IsRunning (setting_in w) w.journal → journal ≡ journal_text w.journal
    → IsRunOf script files (ending_at drove) out journal
run-of script files w out journal d.Done h running text = subst (λ j. IsRunOf script files (ending_at d.Done) out j) (sym text) (run-done script files (length script) w out h (omega arith) running)
run-of script files w out journal (d.Beyond grid row) h running text =
    subst (λ j. IsRunOf script files (ending_at (d.Beyond grid row)) out j) (sym text) (run-stopped script files h.0 w out (d.Beyond grid row) h.1 running)
run-of script files w out journal (d.NoSpare rank) h running text =
    subst (λ j. IsRunOf script files (ending_at (d.NoSpare rank)) out j) (sym text) (run-stopped script files h.0 w out (d.NoSpare rank) h.1 running)
