use Rattle.std.proofs.Common.{◌≡◌, ◌∙◌, sym}
use Rattle.std.proofs.lemmas.Bool.{false≢true}
use Rattle.rank_machine.specs.Effect.{is_live_list}
use Rattle.block_world.specs.World.{setting_in}
use Rattle.world_heal.specs.Ways.{rest_of}
use Rattle.world_heal.proofs.OnGrids.{list-read, grid-read, list-outcome, list-none}
use Rattle.world_heal.proofs.grids.mend_list_on.Goals as goal
use Rattle.world_heal.proofs.grids.mend_list_on.Goals.{else-is_live_list-via-then-is_live_list+else-layout_at-number, else-is_live_list-via-else-is_live_list}

pub mend_list-requires : goal.mend_list-requires
mend_list-requires g c =
    let w = c.args.world.now in
    let read : c.is_live_list.result ≡ is_live_list (setting_in w) (rest_of w).mark c.args.asked.now.line = list-read w c.args.table.now c.requires.table c.mark.result c.args.asked.now.line c.is_live_list.result c.mark.ensures c.is_live_list.ensures in
    record { mending = c.requires.mending; table = c.requires.table; live = sym read ∙ c.if-is_live_list.true; factors = c.requires.factors }

pub returns-then-layout_at-number : goal.returns-then-layout_at-number
returns-then-layout_at-number g c =
    let w = c.args.world.now in
    let read : c.is_live_list.result ≡ is_live_list (setting_in w) (rest_of w).mark c.args.asked.now.line = list-read w c.args.table.now c.requires.table c.mark.result c.args.asked.now.line c.is_live_list.result c.mark.ensures c.is_live_list.ensures in
    let on = grid-read w c.args.table.now c.requires.table c.args.asked.now.factors c.layout_at.result c.layout_at.ensures.value in
    list-outcome w c.args.number c.mend_list.new.world c.args.asked.now (sym read ∙ c.if-is_live_list.true) (sym on ∙ c.if-layout_at-number.true) c.mend_list.result c.mend_list.ensures

pub returns : goal.returns
returns g c =
    let w = c.args.world.now in
    let read : c.is_live_list.result ≡ is_live_list (setting_in w) (rest_of w).mark c.args.asked.now.line = list-read w c.args.table.now c.requires.table c.mark.result c.args.asked.now.line c.is_live_list.result c.mark.ensures c.is_live_list.ensures in
    list-none w c.args.number c.args.asked.now c.requires.mending
    (elim c.else-is_live_list.branch [
      | else-is_live_list-via-then-is_live_list+else-layout_at-number x ↦ λ live on. x.if-layout_at-number.false (grid-read w c.args.table.now c.requires.table c.args.asked.now.factors x.layout_at.result x.layout_at.ensures.value ∙ on)
      | else-is_live_list-via-else-is_live_list x ↦ λ live on. false≢true (sym x.if-is_live_list.false ∙ (read ∙ live))
    ])
