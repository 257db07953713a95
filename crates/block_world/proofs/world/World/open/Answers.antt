use Rattle.std.proofs.Common.{false, replicate, ◌∙◌}
use Rattle.std.proofs.lemmas.List.{length-replicate}
use Rattle.rank_link.specs.Traffic.{empty_traffic}
use Rattle.rank_run.specs.Machine.{machine}
use Rattle.block_world.specs.Log.{empty_log}
use Rattle.block_world.proofs.Replayed.{fields_are, IsReplay-opened, down_at}
use Rattle.block_world.proofs.world.World.open.Goals as goal

pub invariant_of-result : goal.invariant_of-result
invariant_of-result g c =
    let script = c.args.script.now in
    let files = c.args.files.now in
    let mems = c.in_ok-mems.ensures in
    let x = machine c.in_ok-mems.mems.items c.in_ok-links.links in
    let n = c.ranks_of-2.result in
    let links = c.in_ok-links.ensures ∙ (λ j. empty_traffic (c.ranks_of.ensures.count j) (c.capacity_of.ensures j)) in
    let flags = c.in_ok-lost.ensures in
    fields_are g.K.Field.MODULUS script files c.first.result (record { log = c.in_ok-keeper.keeper; mems = c.in_ok-mems.mems.items; links = c.in_ok-links.links; lost = c.in_ok-lost.lost.items })
    (record { log = empty_log c.args.losses.now c.args.room; mems = c.in_ok-mems.mems.items; links = c.in_ok-links.links; lost = replicate n false })
    (λ j. record { log = c.in_ok-keeper.ensures j; mems = c.in_ok-mems.mems.items; links = c.in_ok-links.links; lost = flags j })
    (IsReplay-opened g.K.Field.MODULUS script files mems.0 c.args.losses.now c.args.room x c.first.result (replicate n false) c.requires.sound c.requires.losses mems.1 (λ j. machine (mems.2 j) (links j)) c.first.ensures
    (length-replicate n false ∙ c.ranks_of-2.ensures.count) (down_at n))
