use Rattle.std.proofs.Common.{◌≡◌, length, subst, arith}
use Rattle.rank_machine.specs.Setting.{no_job}
use Rattle.recovery_counts.specs.Counted.{matrix_on, matrices_so_far}
use Rattle.block_world.specs.World.{setting_in}
use Rattle.world_heal.specs.Ways.{rest_of}
use Rattle.world_heal.specs.Mended.{HasMended, AreMatricesHealed}
use Rattle.world_heal.proofs.OneByOne.{at_done, at_hit}
use Rattle.world_heal.proofs.OnGrids.{line_at, IsMatrixOn, table-way, matrices-none, matrices-more, matrices-hit, matrices-all}
use Rattle.world_heal.proofs.grids.mend_matrices.Goals as goal

pub loop-i-init : goal.loop-i-init
loop-i-init g c = matrices-none c.args.number c.args.world.now c.requires.mending

pub mend_matrix_on-requires : goal.mend_matrix_on-requires
mend_matrix_on-requires g c = record {
  mending = c.loop-i.invariant.mending;
  table = table-way c.args.world.now c.loop-i.world c.args.table.now c.loop-i.invariant.under_way c.requires.table;
}

pub loop-i-preserved : goal.loop-i-preserved
loop-i-preserved g c =
    let b = c.loop-i.world in
    let x = line_at c.args.table.now c.loop-i.i in
    let on = matrix_on (setting_in b) (rest_of b).mark c.args.number (no_job x.line) in
    matrices-more c.args.table.now c.args.number c.loop-i.i c.args.world.now b c.mend_matrix_on.new.world c.requires.table c.loop-i.invariant
    (at_done on (IsMatrixOn c.args.number x.line) b c.mend_matrix_on.new.world _ c.in-Done.is c.in_ok-mend_matrix_on.ensures)

pub returns-in-Hit : goal.returns-in-Hit
returns-in-Hit g c =
    let b = c.loop-i.world in
    let x = line_at c.args.table.now c.loop-i.i in
    let on = matrix_on (setting_in b) (rest_of b).mark c.args.number (no_job x.line) in
    matrices-hit c.args.table.now c.args.number c.loop-i.i c.args.world.now b c.mend_matrix_on.new.world c.requires.table (omega arith) c.loop-i.invariant
    (at_hit on (IsMatrixOn c.args.number x.line) b c.mend_matrix_on.new.world _ c.in-Hit.is c.in_ok-mend_matrix_on.ensures)

pub returns : goal.returns
returns g c =
    let a = c.args.world.now in
    let end : c.loop-i.i ≡ length c.args.table.now = omega arith in
    matrices-all c.args.table.now c.args.number a c.loop-i.world c.requires.table
    (subst (λ n. HasMended (matrices_so_far (setting_in a) (rest_of a).mark c.args.number n) (AreMatricesHealed c.args.number n) a c.loop-i.world) end c.loop-i.invariant)
