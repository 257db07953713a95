use Rattle.blacs_comm.proofs.Scopes.{members_differ}
use Rattle.blacs_grid.specs.Places.{member, members}
use Rattle.std.proofs.Common.{◌≡◌, ◌-◌, ◌++◌, append-nil, ap, sym, ◌∙◌, ℕ, refl, arith, ◌+◌}
use Rattle.rank_run.specs.Rounds.{steps}
use Rattle.blacs_comm.proofs.Counts.{steps-append, combine_steps}
use Rattle.blacs_comm.specs.Moves.{joined_at, combine_moves}
use Rattle.blacs_comm.specs.Positions.{rank_at}
use Rattle.blacs_comm.proofs.Joins.{combines, combine_goes_on}
use Rattle.blacs_comm.proofs.events.combine_to_root.Goals as goal

pub loop-parent-preserved : goal.loop-parent-preserved
loop-parent-preserved g c =
    let at = rank_at (member c.args.joins.now.grid c.args.joins.now.scope) (members c.args.joins.now.grid c.args.joins.now.scope) c.args.joins.now.topology c.args.joins.now.root in
    let n = members c.args.joins.now.grid c.args.joins.now.scope in (
      omega (arith, c.loop-parent.invariant.0),
      combine_goes_on at (joined_at c.args.joins.now.topology) n c.args.joins.now.own c.args.joins.now.work c.args.joins.now.join c.loop-parent.round c.join_all.new.round _ c.loop-parent.parent (c.loop-parent.parent - 1) (omega arith) refl c.loop-parent.invariant.1 c.in_ok-join_all.ensures,
    )

pub returns-clause-leads : goal.returns-clause-leads
returns-clause-leads g c =
    let at = rank_at (member c.args.joins.now.grid c.args.joins.now.scope) (members c.args.joins.now.grid c.args.joins.now.scope) c.args.joins.now.topology c.args.joins.now.root in
    let n = members c.args.joins.now.grid c.args.joins.now.scope in
    let none : c.loop-parent.parent ≡ 0 = omega arith in
    combines g.S.Store.memory c.args.round.now c.loop-parent.round (member c.args.joins.now.grid c.args.joins.now.scope) (members c.args.joins.now.grid c.args.joins.now.scope) c.args.joins.now.topology c.args.joins.now.root c.args.joins.now.own c.args.joins.now.work c.args.joins.now.join c.requires.root (members_differ c.args.joins.now.grid c.args.joins.now.scope c.requires.grid c.requires.scope_in)
    (sym (append-nil c.loop-parent.round) ∙ (ap (λ (k : ℕ). c.loop-parent.round ++ combine_moves at (joined_at c.args.joins.now.topology) n c.args.joins.now.own c.args.joins.now.work c.args.joins.now.join k) (sym none) ∙ c.loop-parent.invariant.1))

pub returns-clause-steps : goal.returns-clause-steps
returns-clause-steps g c =
    let at = rank_at (member c.args.joins.now.grid c.args.joins.now.scope) (members c.args.joins.now.grid c.args.joins.now.scope) c.args.joins.now.topology c.args.joins.now.root in
    let n = members c.args.joins.now.grid c.args.joins.now.scope in
    let none : c.loop-parent.parent ≡ 0 = omega arith in
    let is : c.loop-parent.round ≡ c.args.round.now ++ combine_moves at (joined_at c.args.joins.now.topology) n c.args.joins.now.own c.args.joins.now.work c.args.joins.now.join n =
    sym (append-nil c.loop-parent.round) ∙ (ap (λ (k : ℕ). c.loop-parent.round ++ combine_moves at (joined_at c.args.joins.now.topology) n c.args.joins.now.own c.args.joins.now.work c.args.joins.now.join k) (sym none) ∙ c.loop-parent.invariant.1) in
    ap steps is
    ∙ (steps-append g.S.Store.memory c.args.round.now (combine_moves at (joined_at c.args.joins.now.topology) n c.args.joins.now.own c.args.joins.now.work c.args.joins.now.join n)
    ∙ ap (λ (k : ℕ). steps c.args.round.now + k) (combine_steps g.S.Store.memory c.args.joins.now.topology at n c.args.joins.now.own c.args.joins.now.work c.args.joins.now.join))
