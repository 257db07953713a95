-- A `matrix` line is driven by feeding its file, which ends it.
use Rattle.std.proofs.Common.{◌≡◌, ◌≤◌, ℕ, suc, Result, List, [], Option, Some, None, is_some, refl, sym, ap, subst, ◌∙◌}
use Rattle.std.specs.Prelude.{IfOk}
use Rattle.std.specs.FinMap as map
use Rattle.std.proofs.lemmas.List.{append-nil}
use Rattle.std.proofs.lemmas.Option.{same_Some}
use Rattle.field_core.specs.Residue.{inverse}
use Rattle.run_data.specs.Matrix.{Matrix}
use Rattle.run_data.specs.declared.command.Command.{Command}
use Rattle.run_data.specs.declared.command.Command.TheVariants as c
use Rattle.run_data.specs.Script.{commands_of, command_at, modulus_of}
use Rattle.rank_machine.specs.Setting.{Job, layout}
use Rattle.rank_machine.specs.Scripts.{Matrices, file_of, setting_of}
use Rattle.script_bounds.specs.Bounds.{records_in}
use Rattle.dist_matrix.specs.Site.{SiteView}
use Rattle.dist_matrix.specs.Site as site
use Rattle.dist_matrix.specs.Strips.{HasShape}
use Rattle.block_world.specs.World.{WorldView, setting_in}
use Rattle.phases.specs.Plans.{Progress}
use Rattle.feed_laws.specs.Feeding.{FeedView, feed_task, feed_plan, feed_records}
use Rattle.world_heal.specs.Outcomes.{IfDrove}
use Rattle.world_heal.specs.declared.healing.Drove.{Drove}
use Rattle.world_heal.proofs.Outcomes.{if_ok, if_drove}
use Rattle.loss_recovery.specs.Driven.{site_at}
use Rattle.whole_run.specs.Between.{HasRun}
use Rattle.whole_run.specs.Inside.{IsStopped}
use Rattle.whole_run.proofs.Ending.{setting_is}
use Rattle.whole_run.proofs.LineEnds.{line-ends}
use Rattle.line_phases.proofs.NextJob.{job-is}
use Rattle.line_phases.proofs.MatrixLayout.{feeds-few}
use Rattle.line_phases.proofs.MatrixLine.{matrix-may, matrix-ends}
use Rattle.script_run.specs.Runnable.{IsRunnable, HasFile}
use Rattle.script_run.specs.Driving.{MakesMatrix, IsWholeLine, HasDriven}
use Rattle.script_run.proofs.AcceptedSound.{accepted-sound}
use Rattle.script_run.proofs.Commands.{line-few}

-- the words of the line
record IsMatrixLine (o : Option Command) : Type 0 where
  name : List ℕ
  grid : List ℕ
  m : ℕ
  n : ℕ
  mb : ℕ
  nb : ℕ
  rsrc : ℕ
  csrc : ℕ
  file : List ℕ
  there : o ≡ Some (c.Matrix name grid m n mb nb rsrc csrc file)

matrix_line : (o : Option Command) → MakesMatrix o → IsMatrixLine o
matrix_line (Some (c.Matrix name grid m n mb nb rsrc csrc file)) h = record { name = name; grid = grid; m = m; n = n; mb = mb; nb = nb; rsrc = rsrc; csrc = csrc; file = file; there = refl }
matrix_line (Some x) h = absurd h
matrix_line None h = absurd h

-- ---- a line of this kind, and its file
module _ (script : List (Option Command)) (files : Matrices) (line : ℕ) (h : IsRunnable script files) (makes : MakesMatrix (command_at (commands_of script) line)) where
  its : IsMatrixLine (command_at (commands_of script) line)
  its = matrix_line (command_at (commands_of script) line) makes

  pub matrix-few : line ≤ 4096
  matrix-few = line-few script line (c.Matrix its.name its.grid its.m its.n its.mb its.nb its.rsrc its.csrc its.file) h.accepted.lines its.there

  line_file : HasFile script files line
  line_file = h.has_files line (ap (λ (j : Job). is_some j.makes) (job-is script files line (c.Matrix its.name its.grid its.m its.n its.mb its.nb its.rsrc its.csrc its.file) its.there))

  pub file-is : (m : Matrix) → Some m ≡ map.get files line → m ≡ file_of files line
  file-is m e = same_Some m (file_of files line) (e ∙ line_file.there)

  pub file-there : None ≡ map.get files line → ⊥
  file-there e = none_some (e ∙ line_file.there)
    where
      none_some : None ≡ Some (file_of files line) → ⊥
      none_some n = cc

  -- the file has the shape that a site of the script tells
  pub file-shaped : (v : SiteView) (m : Matrix) → v.script ≡ script → m ≡ file_of files line → HasShape (layout (site.setting_in v) line) m
  file-shaped v m same is = subst (λ ls. HasShape (layout (setting_of ls map.empty) line) m) (sym same) (subst (λ x. HasShape (layout (setting_of script map.empty) line) x) (sym is) line_file.shape)

-- ---- driving it
module _ (script : List (Option Command)) (files : Matrices) (done : ℕ) (w : WorldView) (out : List ℕ) (h : IsRunnable script files) (makes : MakesMatrix (command_at (commands_of script) (suc done)))
    (before : HasRun script files done w out) where
  words : IsMatrixLine (command_at (commands_of script) (suc done))
  words = its script files (suc done) h makes

  abbrev command : Command
  command = c.Matrix words.name words.grid words.m words.n words.mb words.nb words.rsrc words.csrc words.file

  own_file : HasFile script files (suc done)
  own_file = line_file script files (suc done) h makes

  same : setting_in w ≡ setting_of script files
  same = setting_is w script files before.script_is before.files_are

  shape : HasShape (layout (setting_in w) (suc done)) (file_of files (suc done))
  shape = subst (λ s. HasShape (layout s (suc done)) (file_of files (suc done))) (sym same) own_file.shape

  abbrev told : FeedView
  told = record { file = file_of files (suc done); layout = layout (setting_in w) (suc done); line = suc done; calls = 0 }

  -- the phase that a site of the world gives
  pub told-is : (x : FeedView) (v : SiteView) (m : Matrix) (next : ℕ) → x ≡ record { file = m; layout = layout (site.setting_in v) next; line = next; calls = 0 } → v ≡ site_at w → m ≡ file_of files next → next ≡ suc done → x ≡ told
  told-is x v m next made at is here =
      made
      ∙ ((λ i. record { file = is i; layout = layout (site.setting_in (at i)) next; line = next; calls = 0 })
      ∙ (λ i. record { file = file_of files (here i); layout = layout (setting_in w) (here i); line = here i; calls = 0 }))

  module _ (x : FeedView) (is : x ≡ told) (p : ℕ) (field : p ≡ modulus_of (commands_of script)) where
    pub matrix-whole : IsWholeLine script done (feed_plan (feed_task (inverse p) x.file x.layout x.line)) w
    matrix-whole =
        subst (λ q. IsWholeLine script done (feed_plan (feed_task (inverse q) x.file x.layout x.line)) w) (sym field)
        (subst (λ (v : FeedView). IsWholeLine script done (feed_plan (feed_task (inverse (modulus_of (commands_of script))) v.file v.layout v.line)) w) (sym is)
        (record {
          command = command;
          there = words.there;
          may = matrix-may script files done w out words.name words.grid words.m words.n words.mb words.nb words.rsrc words.csrc words.file before h.accepted.lines (accepted-sound script files h) words.there shape;
          mark = refl;
          few = subst (λ s. feed_records (layout s (suc done)) ≤ records_in (commands_of script) (suc done) command) (sym same)
              (feeds-few script files (suc done) words.name words.grid words.m words.n words.mb words.nb words.rsrc words.csrc words.file h.accepted.lines words.there);
        }))

    abbrev Drives : Progress → WorldView → Type 0
    Drives progress new = HasDriven script (feed_plan (feed_task (inverse p) x.file x.layout x.line)) progress w new

    ran : (progress : Progress) (new : WorldView) → Drives progress new → HasRun script files (suc done) new out
    ran progress new way =
        let own : HasDriven script (feed_plan (feed_task (inverse (modulus_of (commands_of script))) x.file x.layout x.line)) progress w new =
        subst (λ q. HasDriven script (feed_plan (feed_task (inverse q) x.file x.layout x.line)) progress w new) field way in
        let k : HasDriven script (feed_plan (feed_task (inverse (modulus_of (commands_of script))) (file_of files (suc done)) (layout (setting_in w) (suc done)) (suc done))) progress w new =
        subst (λ (v : FeedView). HasDriven script (feed_plan (feed_task (inverse (modulus_of (commands_of script))) v.file v.layout v.line)) progress w new) is own in
        subst (λ text. HasRun script files (suc done) new text) (append-nil out)
        (line-ends script files done w new out command [] before
        (matrix-ends script files done w new out progress words.name words.grid words.m words.n words.mb words.nb words.rsrc words.csrc words.file before h.accepted.lines (accepted-sound script files h) words.there own_file.shaped shape
        k.driven k.goes k.short k.heals k.held k.costs))

    stopped : (new : WorldView) (drove : Drove) → IsStopped script w.files done new out drove → IsStopped script files done new out drove
    stopped new drove cut = subst (λ fs. IsStopped script fs done new out drove) before.files_are cut

    pub matrix-ran : {E : Type 0} (progress : Progress) (new : WorldView) (result : Result Drove E) → IfOk result (IfDrove (Drives progress new) (IsStopped script w.files done new out))
        → IfOk result (IfDrove (HasRun script files (suc done) new out) (IsStopped script files done new out))
    matrix-ran progress new =
        if_ok (IfDrove (Drives progress new) (IsStopped script w.files done new out)) (IfDrove (HasRun script files (suc done) new out) (IsStopped script files done new out))
        (if_drove (Drives progress new) (HasRun script files (suc done) new out) (IsStopped script w.files done new out) (IsStopped script files done new out) (ran progress new) (stopped new))
