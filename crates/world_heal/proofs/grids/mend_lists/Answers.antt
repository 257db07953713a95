use Rattle.std.proofs.Common.{◌≡◌, length, subst, arith}
use Rattle.script_lines.specs.Lines.{job_seen, no_line}
use Rattle.recovery_counts.specs.Counted.{list_on, lists_so_far}
use Rattle.block_world.specs.World.{setting_in}
use Rattle.world_heal.specs.Ways.{rest_of}
use Rattle.world_heal.specs.Mended.{HasMended, AreListsHealed}
use Rattle.world_heal.proofs.JobPlaces.{line-factors}
use Rattle.world_heal.proofs.OneByOne.{at_done, at_hit}
use Rattle.world_heal.proofs.OnGrids.{line_at, IsListOn, table-way, lists-none, lists-more, lists-hit, lists-all}
use Rattle.world_heal.proofs.grids.mend_lists.Goals as goal

pub loop-i-init : goal.loop-i-init
loop-i-init g c = lists-none c.args.number c.args.world.now c.requires.mending

pub mend_list_on-requires : goal.mend_list_on-requires
mend_list_on-requires g c =
    let b = c.loop-i.world in
    let is = table-way c.args.world.now b c.args.table.now c.loop-i.invariant.under_way c.requires.table in
    record { mending = c.loop-i.invariant.mending; table = is; factors = line-factors (setting_in b) c.args.table.now c.loop-i.i (no_line 0) is (omega arith) }

pub loop-i-preserved : goal.loop-i-preserved
loop-i-preserved g c =
    let b = c.loop-i.world in
    let x = line_at c.args.table.now c.loop-i.i in
    let on = list_on (setting_in b) (rest_of b).mark c.args.number (job_seen x) in
    lists-more c.args.table.now c.args.number c.loop-i.i c.args.world.now b c.mend_list_on.new.world c.requires.table c.loop-i.invariant
    (at_done on (IsListOn c.args.number x.line x.factors) b c.mend_list_on.new.world _ c.in-Done.is c.in_ok-mend_list_on.ensures)

pub returns-in-Hit : goal.returns-in-Hit
returns-in-Hit g c =
    let b = c.loop-i.world in
    let x = line_at c.args.table.now c.loop-i.i in
    let on = list_on (setting_in b) (rest_of b).mark c.args.number (job_seen x) in
    lists-hit c.args.table.now c.args.number c.loop-i.i c.args.world.now b c.mend_list_on.new.world c.requires.table (omega arith) c.loop-i.invariant
    (at_hit on (IsListOn c.args.number x.line x.factors) b c.mend_list_on.new.world _ c.in-Hit.is c.in_ok-mend_list_on.ensures)

pub returns : goal.returns
returns g c =
    let a = c.args.world.now in
    let end : c.loop-i.i ≡ length c.args.table.now = omega arith in
    lists-all c.args.table.now c.args.number a c.loop-i.world c.requires.table
    (subst (λ n. HasMended (lists_so_far (setting_in a) (rest_of a).mark c.args.number n) (AreListsHealed c.args.number n) a c.loop-i.world) end c.loop-i.invariant)
