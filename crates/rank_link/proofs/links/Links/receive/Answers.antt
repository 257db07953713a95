use Rattle.std.proofs.Common.{◌≡◌, ◌<◌, ◌*◌, ◌+◌, drop, slice_get, ap, length, arith, ◌∙◌, sym}
use Rattle.rank_link.specs.Traffic.{messages}
use Rattle.rank_link.proofs.RingLemmas.{place_within, rings_after, messages_at, view_after, first_there, same_when_empty}
use Rattle.rank_link.proofs.links.Links.receive.Goals as goal

pub invariant_of-self : goal.invariant_of-self
invariant_of-self g c =
    rings_after c.self.inside.ranks c.self.inside.capacity c.self.inside.rings.items (c.args.from * c.self.inside.ranks + c.args.to) c.index_mut-ring.result.now c.pop_front.new.self c.self.invariant c.index_mut-ring.ensures.value
    (ap (λ x. x.capacity) c.pop_front.ensures.items)

pub returns-clause-some : goal.returns-clause-some
returns-clause-some g c =
    let e : c.self.inside.ranks ≡ c.args.self.now.ranks = ap (λ t. t.ranks) c.self.view_is in
    let lt : c.args.from * c.self.inside.ranks + c.args.to < length c.self.inside.rings.items = place_within c.self.inside.ranks c.self.inside.capacity c.self.inside.rings.items c.args.from c.args.to c.self.invariant (omega arith) (omega arith) in
    let items = messages_at c.self.inside.ranks c.self.inside.capacity c.self.inside.rings.items c.args.self.now c.args.from c.args.to c.index_mut-ring.result.now c.self.view_is lt c.index_mut-ring.ensures.value in
    first_there (messages c.args.self.now c.args.from c.args.to) c.pop_front.result (c.pop_front.ensures.value ∙ ap (λ l. slice_get l 0) (sym items))

pub returns-clause-first : goal.returns-clause-first
returns-clause-first g c =
    let e : c.self.inside.ranks ≡ c.args.self.now.ranks = ap (λ t. t.ranks) c.self.view_is in
    let lt : c.args.from * c.self.inside.ranks + c.args.to < length c.self.inside.rings.items = place_within c.self.inside.ranks c.self.inside.capacity c.self.inside.rings.items c.args.from c.args.to c.self.invariant (omega arith) (omega arith) in
    let items = messages_at c.self.inside.ranks c.self.inside.capacity c.self.inside.rings.items c.args.self.now c.args.from c.args.to c.index_mut-ring.result.now c.self.view_is lt c.index_mut-ring.ensures.value in
    c.pop_front.ensures.value ∙ ap (λ l. slice_get l 0) (sym items)

pub returns-clause-rest : goal.returns-clause-rest
returns-clause-rest g c =
    let e : c.self.inside.ranks ≡ c.args.self.now.ranks = ap (λ t. t.ranks) c.self.view_is in
    let lt : c.args.from * c.self.inside.ranks + c.args.to < length c.self.inside.rings.items = place_within c.self.inside.ranks c.self.inside.capacity c.self.inside.rings.items c.args.from c.args.to c.self.invariant (omega arith) (omega arith) in
    let items = messages_at c.self.inside.ranks c.self.inside.capacity c.self.inside.rings.items c.args.self.now c.args.from c.args.to c.index_mut-ring.result.now c.self.view_is lt c.index_mut-ring.ensures.value in
    view_after c.self.inside.ranks c.self.inside.capacity c.self.inside.rings.items c.args.self.now c.args.from c.args.to c.pop_front.new.self (drop 1 (messages c.args.self.now c.args.from c.args.to)) c.self.view_is
    (ap (λ x. x.items) c.pop_front.ensures.items ∙ ap (drop 1) (sym items))

pub returns-clause-none : goal.returns-clause-none
returns-clause-none g c =
    let e : c.self.inside.ranks ≡ c.args.self.now.ranks = ap (λ t. t.ranks) c.self.view_is in
    let lt : c.args.from * c.self.inside.ranks + c.args.to < length c.self.inside.rings.items = place_within c.self.inside.ranks c.self.inside.capacity c.self.inside.rings.items c.args.from c.args.to c.self.invariant (omega arith) (omega arith) in
    let items = messages_at c.self.inside.ranks c.self.inside.capacity c.self.inside.rings.items c.args.self.now c.args.from c.args.to c.index_mut-ring.result.now c.self.view_is lt c.index_mut-ring.ensures.value in
    same_when_empty c.args.self.now _ c.args.from c.args.to c.pop_front.result (c.pop_front.ensures.value ∙ ap (λ l. slice_get l 0) (sym items))
    (view_after c.self.inside.ranks c.self.inside.capacity c.self.inside.rings.items c.args.self.now c.args.from c.args.to c.pop_front.new.self (drop 1 (messages c.args.self.now c.args.from c.args.to)) c.self.view_is
    (ap (λ x. x.items) c.pop_front.ensures.items ∙ ap (drop 1) (sym items)))
