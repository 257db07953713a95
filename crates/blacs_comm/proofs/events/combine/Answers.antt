use Rattle.std.proofs.Common.{◌≡◌, true, rules}
use Rattle.std.proofs.lemmas.Result.{on_ok_weaker}
use Rattle.blacs_grid.specs.Places.{member, members}
use Rattle.blacs_comm.proofs.Scopes.{members_differ}
use Rattle.blacs_comm.proofs.Spreading.{combines_all, for_all}
use Rattle.blacs_comm.proofs.events.combine.Goals as goal

pub returns-clause-leads : goal.returns-clause-leads
returns-clause-leads g c =
    let shared : c.args.to_all ≡ true = search rules in
    on_ok_weaker c.broadcast.result
    (λ led. for_all c.args.to_all _ _ shared
    (combines_all g.S.Store.memory g.met.S.Store.reads_back c.args.round.now c.combine_to_root.new.round c.broadcast.new.round (member c.args.grid.now c.args.scope) (members c.args.grid.now c.args.scope) c.args.root c.args.own c.args.work
    c.args.join c.requires.root (members_differ c.args.grid.now c.args.scope c.requires.grid c.requires.scope_in) c.in_ok-combine_to_root.ensures.leads led))
    c.broadcast.ensures.leads
