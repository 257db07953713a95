use Rattle.blacs_comm.proofs.Scopes.{members_differ}
use Rattle.blacs_grid.specs.Places.{member, members}
use Rattle.std.proofs.Common.{◌≡◌, ◌∙◌, ◌++◌, ◌-◌, ◌==◌, if◌then◌else◌, ap, sym, ℕ, arith, ◌+◌}
use Rattle.rank_run.proofs.Ranks.{if_same, if_other}
use Rattle.rank_run.specs.Rounds.{steps}
use Rattle.blacs_comm.proofs.Counts.{steps-append, broadcast_steps}
use Rattle.blacs_comm.specs.Moves.{broadcast_moves}
use Rattle.blacs_comm.specs.Positions.{rank_at, sender_of}
use Rattle.blacs_comm.proofs.Spreads.{moves_go_on, extends_broadcast}
use Rattle.blacs_comm.proofs.events.broadcast.Goals as goal
use Rattle.blacs_comm.proofs.events.broadcast.Goals.{then-up-eq0, else-up-eq0}

pub loop-i-preserved : goal.loop-i-preserved
loop-i-preserved g c =
    let up : c.sender-up.result ≡ sender_of c.args.topology c.loop-i.i = c.sender-up.ensures.value in
    let piece : c.if-up-eq0.piece ≡ (if c.sender-up.result == 0 then c.args.source else c.args.work) =
    elim c.if-up-eq0.branch [
      | then-up-eq0 w ↦ w.piece-is ∙ sym (if_same c.sender-up.result 0 c.args.source c.args.work w.if-up-eq0.true)
      | else-up-eq0 w ↦ w.piece-is ∙ sym (if_other c.sender-up.result 0 c.args.source c.args.work w.if-up-eq0.false)
    ] in
    moves_go_on (rank_at (member c.args.grid.now c.args.scope) (members c.args.grid.now c.args.scope) c.args.topology c.args.root) (sender_of c.args.topology) c.args.source c.args.work c.if-up-eq0.piece c.args.round.now c.loop-i.round c.push.new.self c.loop-i.i c.rank-from.result c.rank-to.result c.loop-i.auto.i c.loop-i.invariant
    (c.rank-from.ensures ∙ ap (rank_at (member c.args.grid.now c.args.scope) (members c.args.grid.now c.args.scope) c.args.topology c.args.root) up) c.rank-to.ensures
    (piece ∙ ap (λ (u : ℕ). if u == 0 then c.args.source else c.args.work) up) c.in_ok-push.ensures.ok

pub returns-clause-leads : goal.returns-clause-leads
returns-clause-leads g c =
    let at = rank_at (member c.args.grid.now c.args.scope) (members c.args.grid.now c.args.scope) c.args.topology c.args.root in
    let up = sender_of c.args.topology in
    let all : c.loop-i.i ≡ members c.args.grid.now c.args.scope = omega (arith, c.loop-i.auto.i-end (omega (arith, c.requires.root))) in
    extends_broadcast g.S.Store.memory g.met.S.Store.reads_back c.args.round.now c.loop-i.round (member c.args.grid.now c.args.scope) (members c.args.grid.now c.args.scope) c.args.topology c.args.root c.args.source c.args.work c.requires.root (members_differ c.args.grid.now c.args.scope c.requires.grid c.requires.scope_in)
    (c.loop-i.invariant ∙ ap (λ (k : ℕ). c.args.round.now ++ broadcast_moves at up c.args.source c.args.work (k - 1)) all)

pub returns-clause-steps : goal.returns-clause-steps
returns-clause-steps g c =
    let at = rank_at (member c.args.grid.now c.args.scope) (members c.args.grid.now c.args.scope) c.args.topology c.args.root in
    let up = sender_of c.args.topology in
    let n = members c.args.grid.now c.args.scope in
    let all : c.loop-i.i ≡ n = omega (arith, c.loop-i.auto.i-end (omega (arith, c.requires.root))) in
    let is : c.loop-i.round ≡ c.args.round.now ++ broadcast_moves at up c.args.source c.args.work (n - 1) =
    c.loop-i.invariant ∙ ap (λ (k : ℕ). c.args.round.now ++ broadcast_moves at up c.args.source c.args.work (k - 1)) all in
    ap steps is
    ∙ (steps-append g.S.Store.memory c.args.round.now (broadcast_moves at up c.args.source c.args.work (n - 1))
    ∙ ap (λ (k : ℕ). steps c.args.round.now + k) (broadcast_steps g.S.Store.memory at up c.args.source c.args.work (n - 1)))
