use Rattle.std.proofs.Common.{sym, subst, Some, None, List, [], ◌∷◌}
use Rattle.rank_run.specs.Action.{Action}
use Rattle.rank_run.specs.declared.run.Ran.TheVariants.{Whole, Hit}
use Rattle.rank_machine.specs.declared.slot.Piece.{Piece}
use Rattle.rank_machine.specs.declared.kernel.Kernel.{Kernel}
use Rattle.rank_machine.specs.declared.record.Rec.TheVariants as r
use Rattle.rank_machine.specs.Legal.{IsLegalFrom}
use Rattle.block_world.specs.World.{setting_in, state_of}
use Rattle.block_world.specs.Rounds.{IsRoundOf}
use Rattle.block_world.specs.Did.{IsDid, IsTaken}
use Rattle.phases.specs.Plans.{Brings, records_in, steps_in}
use Rattle.world_heal.specs.Ways.{IsHit}
use Rattle.loss_recovery.specs.Driven.{HasCarried, HoldsAlong}
use Rattle.loss_recovery.proofs.Carrying.{carried_round, hit_round, carried_feed, carried_take, hit_here}
use Rattle.loss_recovery.proofs.Holding.{along_round, along_one, along_kept}
use Rattle.loss_recovery.proofs.driving.carry_out.Goals as goal

pub returns-in-Whole-clause-carried : goal.returns-in-Whole-clause-carried
returns-in-Whole-clause-carried g c =
    let h = subst (λ e. (ts : List (Action Kernel Piece)) × IsRoundOf c.args.world.now c.run.new.self c.in-Round.round c.args.order.now c.run.new.order e ts) c.in-Whole.is c.in_ok-run-in-Round.ensures in
    subst (λ n. HasCarried {K = g.row.K.Denot} c.args.world.now c.run.new.self n None) (sym c.in-Round.is)
    (carried_round {K = g.row.K.Denot} c.args.world.now c.run.new.self c.in-Round.round c.args.order.now c.run.new.order h.0 h.1)

pub returns-in-Round-clause-carried : goal.returns-in-Round-clause-carried
returns-in-Round-clause-carried g c =
    let h = subst (λ e. (ts : List (Action Kernel Piece)) × IsRoundOf c.args.world.now c.run.new.self c.in-Round.round c.args.order.now c.run.new.order e ts) c.in-Hit.is c.in_ok-run-in-Round.ensures in
    subst (λ n. IsHit (steps_in {K = g.row.K.Denot} n) c.args.world.now c.run.new.self) (sym c.in-Round.is)
    (hit_round c.args.world.now c.run.new.self c.in-Round.round c.args.order.now c.run.new.order h.0 h.1)

pub returns-in-Done-clause-carried : goal.returns-in-Done-clause-carried
returns-in-Done-clause-carried g c =
    let h = subst (λ d. IsDid d c.args.world.now c.feed.new.self (r.Feed c.in-Feed.rank c.in-Feed.slot)) c.in-Done.is c.in_ok-feed-in-Feed.ensures.did in
    subst (λ n. HasCarried {K = g.row.K.Denot} c.args.world.now c.feed.new.self n None) (sym c.in-Feed.is)
    (carried_feed {K = g.row.K.Denot} c.args.world.now c.feed.new.self c.in-Feed.rank c.in-Feed.slot c.in-Feed.m h)

pub returns-in-Tile-clause-carried : goal.returns-in-Tile-clause-carried
returns-in-Tile-clause-carried g c =
    let h = subst (λ t. IsTaken t c.args.world.now c.take.new.self c.in-Take.rank c.in-Take.slot) c.in-Tile.is c.in_ok-tile-in-Take.ensures.taken in
    subst (λ n. HasCarried {K = g.row.K.Denot} c.args.world.now c.take.new.self n (Some c.in-Tile.tile)) (sym c.in-Take.is)
    (carried_take {K = g.row.K.Denot} c.args.world.now c.take.new.self c.in-Take.rank c.in-Take.slot c.in-Tile.tile h.tile h.noted)

pub run-requires-clause-links : goal.run-requires-clause-links
run-requires-clause-links g c = c.requires.links

pub run-requires-clause-ranks : goal.run-requires-clause-ranks
run-requires-clause-ranks g c = subst (λ n. Brings {K = g.row.K.Denot} (setting_in c.args.world.now) n) c.in-Round.is c.requires.brings

pub run-requires-clause-legal : goal.run-requires-clause-legal
run-requires-clause-legal g c = subst (λ n. IsLegalFrom (setting_in c.args.world.now) (state_of c.args.world.now) (records_in {K = g.row.K.Denot} n)) c.in-Round.is c.requires.legal

pub feed-requires-clause-legal : goal.feed-requires-clause-legal
feed-requires-clause-legal g c = (subst (λ n. IsLegalFrom (setting_in c.args.world.now) (state_of c.args.world.now) (records_in {K = g.row.K.Denot} n)) c.in-Feed.is c.requires.legal).0

pub feed-requires-clause-brings : goal.feed-requires-clause-brings
feed-requires-clause-brings g c = subst (λ n. Brings {K = g.row.K.Denot} (setting_in c.args.world.now) n) c.in-Feed.is c.requires.brings

pub take-requires : goal.take-requires
take-requires g c = record { legal = (subst (λ n. IsLegalFrom (setting_in c.args.world.now) (state_of c.args.world.now) (records_in {K = g.row.K.Denot} n)) c.in-Take.is c.requires.legal).0 }

pub returns-in-Feed-clause-carried : goal.returns-in-Feed-clause-carried
returns-in-Feed-clause-carried g c =
    let h = subst (λ d. IsDid d c.args.world.now c.feed.new.self (r.Feed c.in-Feed.rank c.in-Feed.slot)) c.in-Hit-2.is c.in_ok-feed-in-Feed.ensures.did in
    subst (λ n. IsHit (steps_in {K = g.row.K.Denot} n) c.args.world.now c.feed.new.self) (sym c.in-Feed.is) (hit_here c.args.world.now c.feed.new.self 1 h)

pub returns-in-Take-clause-carried : goal.returns-in-Take-clause-carried
returns-in-Take-clause-carried g c =
    let h = subst (λ t. IsTaken t c.args.world.now c.take.new.self c.in-Take.rank c.in-Take.slot) c.in-Hit-3.is c.in_ok-tile-in-Take.ensures.taken in
    subst (λ n. IsHit (steps_in {K = g.row.K.Denot} n) c.args.world.now c.take.new.self) (sym c.in-Take.is) (hit_here c.args.world.now c.take.new.self 1 h)

pub returns-in-Whole-clause-holds : goal.returns-in-Whole-clause-holds
returns-in-Whole-clause-holds g c =
    let h = subst (λ e. (ts : List (Action Kernel Piece)) × IsRoundOf c.args.world.now c.run.new.self c.in-Round.round c.args.order.now c.run.new.order e ts) c.in-Whole.is c.in_ok-run-in-Round.ensures in
    subst (λ n. HoldsAlong (records_in {K = g.row.K.Denot} n) c.args.world.now c.run.new.self) (sym c.in-Round.is)
    (along_round c.args.world.now c.run.new.self c.in-Round.round c.args.order.now c.run.new.order Whole h.0 h.1)

pub returns-in-Round-clause-holds : goal.returns-in-Round-clause-holds
returns-in-Round-clause-holds g c =
    let h = subst (λ e. (ts : List (Action Kernel Piece)) × IsRoundOf c.args.world.now c.run.new.self c.in-Round.round c.args.order.now c.run.new.order e ts) c.in-Hit.is c.in_ok-run-in-Round.ensures in
    subst (λ n. HoldsAlong (records_in {K = g.row.K.Denot} n) c.args.world.now c.run.new.self) (sym c.in-Round.is)
    (along_round c.args.world.now c.run.new.self c.in-Round.round c.args.order.now c.run.new.order Hit h.0 h.1)

pub returns-in-Done-clause-holds : goal.returns-in-Done-clause-holds
returns-in-Done-clause-holds g c =
    let h = subst (λ d. IsDid d c.args.world.now c.feed.new.self (r.Feed c.in-Feed.rank c.in-Feed.slot)) c.in-Done.is c.in_ok-feed-in-Feed.ensures.did in
    subst (λ n. HoldsAlong (records_in {K = g.row.K.Denot} n) c.args.world.now c.feed.new.self) (sym c.in-Feed.is)
    (along_one c.args.world.now c.feed.new.self (r.Feed c.in-Feed.rank c.in-Feed.slot) h.noted)

pub returns-in-Feed-clause-holds : goal.returns-in-Feed-clause-holds
returns-in-Feed-clause-holds g c =
    let h = subst (λ d. IsDid d c.args.world.now c.feed.new.self (r.Feed c.in-Feed.rank c.in-Feed.slot)) c.in-Hit-2.is c.in_ok-feed-in-Feed.ensures.did in
    subst (λ n. HoldsAlong (records_in {K = g.row.K.Denot} n) c.args.world.now c.feed.new.self) (sym c.in-Feed.is)
    (along_kept c.args.world.now c.feed.new.self (r.Feed c.in-Feed.rank c.in-Feed.slot ∷ []) h.kept)

pub returns-in-Tile-clause-holds : goal.returns-in-Tile-clause-holds
returns-in-Tile-clause-holds g c =
    let h = subst (λ t. IsTaken t c.args.world.now c.take.new.self c.in-Take.rank c.in-Take.slot) c.in-Tile.is c.in_ok-tile-in-Take.ensures.taken in
    subst (λ n. HoldsAlong (records_in {K = g.row.K.Denot} n) c.args.world.now c.take.new.self) (sym c.in-Take.is)
    (along_one c.args.world.now c.take.new.self (r.Take c.in-Take.rank c.in-Take.slot) h.noted)

pub returns-in-Take-clause-holds : goal.returns-in-Take-clause-holds
returns-in-Take-clause-holds g c =
    let h = subst (λ t. IsTaken t c.args.world.now c.take.new.self c.in-Take.rank c.in-Take.slot) c.in-Hit-3.is c.in_ok-tile-in-Take.ensures.taken in
    subst (λ n. HoldsAlong (records_in {K = g.row.K.Denot} n) c.args.world.now c.take.new.self) (sym c.in-Take.is)
    (along_kept c.args.world.now c.take.new.self (r.Take c.in-Take.rank c.in-Take.slot ∷ []) h.kept)
