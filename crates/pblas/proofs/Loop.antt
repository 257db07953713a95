-- The groups of a product line, one after another.
use Rattle.std.proofs.Common.{◌≡◌, ◌<◌, ◌≤◌, ℕ, suc, Bool, true, false, nat_lt, List, Option, sym, ap, subst, ◌∙◌}
use Rattle.std.specs.FinMap as map
use Rattle.std.proofs.lemmas.Bool.{lt-ltb, le-ltb}
use Rattle.run_data.specs.declared.command.Command.{Command}
use Rattle.run_data.specs.Script.{commands_of, command_at, modulus_of}
use Rattle.blacs_comm.specs.declared.topology.Topology.{Topology}
use Rattle.rank_machine.specs.Setting.{job, group_count}
use Rattle.rank_machine.specs.Scripts.{Matrices, setting_of}
use Rattle.script_lines.specs.Sound.{IsSound}
use Rattle.script_bounds.specs.Accepted.{KeepsRules}
use Rattle.dist_matrix.specs.Site.{SiteView}
use Rattle.dist_matrix.specs.Site as site
use Rattle.block_world.specs.World.{WorldView}
use Rattle.loss_recovery.specs.Driven.{site_at}
use Rattle.whole_run.specs.Between.{HasRun}
use Rattle.product_rounds.specs.declared.rounds.GroupProduct.{GroupProduct}
use Rattle.product_rounds.specs.Rounds.{IsOnGrid}
use Rattle.product_laws.specs.Multiplying.{layout_c}
use Rattle.product_lines.specs.Lines.{topology_of, line_product}
use Rattle.product_groups.specs.Groups.{at_group}
use Rattle.pblas.specs.Groups.{IsProduct, groups_of, product_at, IsAtGroup, UpToGroup}
use Rattle.pblas.proofs.Begin.{some-groups, begins-on, begins}
use Rattle.pblas.proofs.Driving.{line-few}

-- the world is that of the script and the files, after so many groups, and the site is the world's
pub record IsUpTo (script : List (Option Command)) (files : Matrices) (done group : ℕ) (w : WorldView) (v : SiteView) (out : List ℕ) : Type 0 where
  pub ran : UpToGroup (nat_lt group (groups_of script files done)) script files done group w out
  pub files_are : w.files ≡ files
  pub site_is : v ≡ site_at w

-- the product that the code makes for the line
pub product-told : (script : List (Option Command)) (files : Matrices) (done next : ℕ) (v : SiteView) (product : GroupProduct) → next ≡ suc done → v.script ≡ script
    → ((words : IsProduct (command_at (commands_of script) next)) → product ≡ line_product script (site.setting_in v) next words.alpha words.beta 0)
    → (words : IsProduct (command_at (commands_of script) (suc done))) → product ≡ product_at script files done words.alpha words.beta
product-told script files done next v product here script_is made words =
    subst (λ k. (words : IsProduct (command_at (commands_of script) k)) → product ≡ line_product script (site.setting_in v) k words.alpha words.beta 0) here made words
    ∙ ap (λ (ls : List (Option Command)). line_product script (setting_of ls map.empty) (suc done) words.alpha words.beta 0) script_is

-- its topology is that of the line
pub topology-told : (script : List (Option Command)) (files : Matrices) (done next : ℕ) (v : SiteView) (topology : Topology) → next ≡ suc done → v.script ≡ script
    → topology ≡ topology_of (job (setting_of script files) (suc done)).path → topology ≡ topology_of (job (site.setting_in v) next).path
topology-told script files done next v topology here script_is is = is ∙ sym (λ i. topology_of (job (setting_of (script_is i) map.empty) (here i)).path)

-- and how many groups it has
pub groups-told : (script : List (Option Command)) (files : Matrices) (done : ℕ) (product : GroupProduct) (n alpha beta : ℕ) → product ≡ product_at script files done alpha beta → n ≡ group_count (layout_c product) → n ≡ groups_of script files done
groups-told script files done product n alpha beta is all = all ∙ ap (λ (y : GroupProduct). group_count (layout_c y)) is

module _ (script : List (Option Command)) (files : Matrices) (done : ℕ) (w : WorldView) (out : List ℕ) (kept : KeepsRules script) (sound : IsSound (modulus_of (commands_of script)) (setting_of script files))
    (h : HasRun script files done w out) (words : IsProduct (command_at (commands_of script) (suc done))) where
  -- before the first group
  pub starts : (v : SiteView) → v ≡ site_at w → IsUpTo script files done 0 w v out
  starts v is = record {
    ran = subst (λ t. UpToGroup t script files done 0 w out) (sym (lt-ltb 0 (groups_of script files done) (some-groups script files done w out kept sound h words))) (begins script files done w out kept sound h words);
    files_are = h.files_are;
    site_is = is;
  }

  pub grid-told : (product : GroupProduct) → product ≡ product_at script files done words.alpha words.beta → IsOnGrid (at_group product 0)
  grid-told product is = subst (λ (y : GroupProduct). IsOnGrid (at_group y 0)) (sym is) (begins-on script files done w out kept sound h words)

  pub few-lines : suc done ≤ 4096
  few-lines = line-few script files done 0 w out kept sound (begins script files done w out kept sound h words) (some-groups script files done w out kept sound h words)

-- while there is a group left
pub at-group : (script : List (Option Command)) (files : Matrices) (done group : ℕ) (w : WorldView) (v : SiteView) (out : List ℕ) → IsUpTo script files done group w v out → group < groups_of script files done → IsAtGroup script files done group w out
at-group script files done group w v out h lt = subst (λ t. UpToGroup t script files done group w out) (lt-ltb group (groups_of script files done) lt) h.ran

-- the same for the files of the world
pub at-group_here : (script : List (Option Command)) (files : Matrices) (done group : ℕ) (w : WorldView) (v : SiteView) (out : List ℕ) → IsUpTo script files done group w v out → group < groups_of script files done
    → IsAtGroup script w.files done group w out × (group < groups_of script w.files done)
at-group_here script files done group w v out h lt =
    subst (λ (fs : Matrices). IsAtGroup script fs done group w out × (group < groups_of script fs done)) (sym h.files_are) (at-group script files done group w v out h lt, lt)

-- after it
pub next-group : (script : List (Option Command)) (files : Matrices) (done group : ℕ) (old new : WorldView) (v v' : SiteView) (out : List ℕ) → IsUpTo script files done group old v out
    → UpToGroup (nat_lt (suc group) (groups_of script old.files done)) script old.files done (suc group) new out → v' ≡ site_at new → IsUpTo script files done (suc group) new v' out
next-group script files done group old new v v' out h ran site_is =
    let now : UpToGroup (nat_lt (suc group) (groups_of script files done)) script files done (suc group) new out = subst (λ (fs : Matrices). UpToGroup (nat_lt (suc group) (groups_of script fs done)) script fs done (suc group) new out) h.files_are ran in
    record { ran = now; files_are = files_of (nat_lt (suc group) (groups_of script files done)) now; site_is = site_is }
  where
    files_of : (t : Bool) → UpToGroup t script files done (suc group) new out → new.files ≡ files
    files_of true at = at.groups.partly.inside.files_are
    files_of false at = at.files_are

-- and after the last one
pub all-groups : (script : List (Option Command)) (files : Matrices) (done group : ℕ) (w : WorldView) (v : SiteView) (out : List ℕ) → IsUpTo script files done group w v out → groups_of script files done ≤ group → HasRun script files (suc done) w out
all-groups script files done group w v out h le = subst (λ t. UpToGroup t script files done group w out) (le-ltb group (groups_of script files done) le) h.ran
