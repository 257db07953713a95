use Rattle.std.proofs.Common.{◌≡◌, ◌∙◌, length, true, IfSome, refl, sym, subst}
use Rattle.std.proofs.lemmas.Option.{slice_get_read, slice_get_past}
use Rattle.rank_run.specs.Parts.{has_part}
use Rattle.rank_run.proofs.Events.{own_past}
use Rattle.rank_run.proofs.run.next_place.Goals as goal

pub loop-at-preserved : goal.loop-at-preserved
loop-at-preserved g c =
    sym
    (own_past c.args.rank c.args.events.now c.loop-at.at c.index-events-at.result
    (slice_get_read c.args.events.now (length c.args.events.now) c.loop-at.at c.index-events-at.result refl c.loop-at-test.true c.index-events-at.is) (sym c.takes_part.ensures ∙ c.if-not-takes_part.true))
    ∙ c.loop-at.invariant

pub returns-else-not-takes_part-clause-here : goal.returns-else-not-takes_part-clause-here
returns-else-not-takes_part-clause-here g c =
    subst (λ o. IfSome o (λ e. has_part c.args.rank e ≡ true))
    (sym (slice_get_read c.args.events.now (length c.args.events.now) c.loop-at.at c.index-events-at.result refl c.loop-at-test.true c.index-events-at.is)) (sym c.takes_part.ensures ∙ c.if-not-takes_part.false)

pub returns-after-loop-at-clause-here : goal.returns-after-loop-at-clause-here
returns-after-loop-at-clause-here g c = subst (λ o. IfSome o (λ e. has_part c.args.rank e ≡ true)) (sym (slice_get_past c.args.events.now c.loop-at.at c.loop-at-test.false)) tt
