use Rattle.std.proofs.Common.{◌<◌, ◌∙◌, length, refl, sym, arith, rules}
use Rattle.rank_run.proofs.Loop.{in_round_at_start, some_ready, rank_within, place_within, turn, run_whole, run_hit}
use Rattle.rank_run.proofs.run.run_round.Goals as goal

pub loop-init : goal.loop-init
loop-init g c =
    (in_round_at_start _ _ _ _ c.args.round.now _ _ _ _ _ c.ranks.result c.events-events.ensures c.requires.ranks c.requires.empty c.requires.may c.ranks.ensures.ranks c.in_ok-places.ensures, refl, refl)

pub returns-then-due-clause-run : goal.returns-then-due-clause-run
returns-then-due-clause-run g c =
    run_hit g.S.Store.base c.loop.invariant.0 c.args.round.now c.events-events.ensures g.met.S.Store.keeps_base refl (omega arith) (sym c.due.ensures ∙ c.if-due.true)

pub pick_rank-requires-clause-some : goal.pick_rank-requires-clause-some
pick_rank-requires-clause-some g c =
    some_ready c.loop.invariant.0 c.args.round.now c.as_slice.result.now c.events-events.ensures c.as_slice.ensures.value c.ranks.ensures.room (omega arith)

pub index-place-requires : goal.index-place-requires
index-place-requires g c =
    let lt : c.in_ok-rank.rank < length c.loop.places.items = rank_within c.loop.invariant.0 c.as_slice.result.now c.in_ok-rank.rank c.as_slice.ensures.value c.in_ok-rank.ensures.picked in
    omega arith

pub offset_bounds-events-place : goal.offset_bounds-events-place
offset_bounds-events-place g c =
    let inside : c.index-place.result.now < length c.events-events.result.now = place_within c.loop.invariant.0 c.as_slice.result.now c.in_ok-rank.rank c.index-place.result.now c.as_slice.ensures.value c.in_ok-rank.ensures.picked c.index-place.ensures in
    omega arith

pub bounds-events-place : goal.bounds-events-place
bounds-events-place g c =
    place_within c.loop.invariant.0 c.as_slice.result.now c.in_ok-rank.rank c.index-place.result.now c.as_slice.ensures.value c.in_ok-rank.ensures.picked c.index-place.ensures

pub take_step-requires-clause-within : goal.take_step-requires-clause-within
take_step-requires-clause-within g c =
    (turn c.loop.invariant.0 c.as_slice.result.now c.in_ok-rank.rank c.index-place.result.now c.index-events-place.result c.as_slice.ensures.value c.in_ok-rank.ensures.picked c.index-place.ensures c.index-events-place.is).inside

pub take_step-requires-clause-own : goal.take_step-requires-clause-own
take_step-requires-clause-own g c =
    (turn c.loop.invariant.0 c.as_slice.result.now c.in_ok-rank.rank c.index-place.result.now c.index-events-place.result c.as_slice.ensures.value c.in_ok-rank.ensures.picked c.index-place.ensures c.index-events-place.is).own_part

pub take_step-requires-clause-may : goal.take_step-requires-clause-may
take_step-requires-clause-may g c =
    (turn c.loop.invariant.0 c.as_slice.result.now c.in_ok-rank.rank c.index-place.result.now c.index-events-place.result c.as_slice.ensures.value c.in_ok-rank.ensures.picked c.index-place.ensures c.index-events-place.is).may

pub overflow_add-place : goal.overflow_add-place
overflow_add-place g c =
    let inside : c.index-place.result.now < length c.events-events.result.now = place_within c.loop.invariant.0 c.as_slice.result.now c.in_ok-rank.rank c.index-place.result.now c.as_slice.ensures.value c.in_ok-rank.ensures.picked c.index-place.ensures in
    search rules

pub index_mut-requires : goal.index_mut-requires
index_mut-requires g c =
    let lt : c.in_ok-rank.rank < length c.loop.places.items = rank_within c.loop.invariant.0 c.as_slice.result.now c.in_ok-rank.rank c.as_slice.ensures.value c.in_ok-rank.ensures.picked in
    omega arith

pub loop-preserved : goal.loop-preserved
loop-preserved g c = (
  (turn c.loop.invariant.0 c.as_slice.result.now c.in_ok-rank.rank c.index-place.result.now c.index-events-place.result c.as_slice.ensures.value c.in_ok-rank.ensures.picked c.index-place.ensures c.index-events-place.is).onward
      _ _ _ c.next_place.result c.in_ok-take_step.ensures.taken c.in_ok-rank.ensures.rest (sym c.due.ensures ∙ c.if-due.false) c.in_ok-take_step.ensures.noted c.next_place.ensures.same c.next_place.ensures.here,
  c.take_step.ensures.blank ∙ c.loop.invariant.1,
  c.take_step.ensures.unheard ∙ c.loop.invariant.2,
)

pub returns-clause-run : goal.returns-clause-run
returns-clause-run g c =
    run_whole g.S.Store.base c.loop.invariant.0 c.args.round.now c.events-events.ensures g.met.S.Store.keeps_base c.requires.ranks refl (omega arith)
