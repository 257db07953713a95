use Rattle.std.proofs.Common.{◌≡◌, ◌∙◌, sym}
use Rattle.std.proofs.lemmas.Bool.{false≢true}
use Rattle.rank_machine.specs.Effect.{is_live_matrix}
use Rattle.block_world.specs.World.{setting_in}
use Rattle.world_heal.specs.Ways.{rest_of}
use Rattle.world_heal.proofs.OnGrids.{matrix-read, grid-read, matrix-outcome, matrix-none}
use Rattle.world_heal.proofs.grids.mend_matrix_on.Goals as goal
use Rattle.world_heal.proofs.grids.mend_matrix_on.Goals.{else-is_live_matrix-via-then-is_live_matrix+else-layout_at-number, else-is_live_matrix-via-else-is_live_matrix}

pub mend_matrix-requires : goal.mend_matrix-requires
mend_matrix-requires g c =
    let w = c.args.world.now in
    let read : c.is_live_matrix.result ≡ is_live_matrix (setting_in w) (rest_of w).mark c.args.line = matrix-read w c.args.table.now c.requires.table c.mark.result c.args.line c.is_live_matrix.result c.mark.ensures c.is_live_matrix.ensures in
    record { mending = c.requires.mending; table = c.requires.table; live = sym read ∙ c.if-is_live_matrix.true }

pub returns-then-layout_at-number : goal.returns-then-layout_at-number
returns-then-layout_at-number g c =
    let w = c.args.world.now in
    let read : c.is_live_matrix.result ≡ is_live_matrix (setting_in w) (rest_of w).mark c.args.line = matrix-read w c.args.table.now c.requires.table c.mark.result c.args.line c.is_live_matrix.result c.mark.ensures c.is_live_matrix.ensures in
    let on = grid-read w c.args.table.now c.requires.table c.args.line c.layout_at.result c.layout_at.ensures.value in
    matrix-outcome w c.args.number c.mend_matrix.new.world c.args.line (sym read ∙ c.if-is_live_matrix.true) (sym on ∙ c.if-layout_at-number.true) c.mend_matrix.result c.mend_matrix.ensures

pub returns : goal.returns
returns g c =
    let w = c.args.world.now in
    let read : c.is_live_matrix.result ≡ is_live_matrix (setting_in w) (rest_of w).mark c.args.line = matrix-read w c.args.table.now c.requires.table c.mark.result c.args.line c.is_live_matrix.result c.mark.ensures c.is_live_matrix.ensures in
    matrix-none w c.args.number c.args.line c.requires.mending
    (elim c.else-is_live_matrix.branch [
      | else-is_live_matrix-via-then-is_live_matrix+else-layout_at-number x ↦ λ live on. x.if-layout_at-number.false (grid-read w c.args.table.now c.requires.table c.args.line x.layout_at.result x.layout_at.ensures.value ∙ on)
      | else-is_live_matrix-via-else-is_live_matrix x ↦ λ live on. false≢true (sym x.if-is_live_matrix.false ∙ (read ∙ live))
    ])
