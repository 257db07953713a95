use Rattle.std.proofs.Common.{◌∙◌, ◌<◌, ℕ, List, Some, get_or, slice_get, ap, sym, refl}
use Rattle.rank_link.specs.Traffic.{empty_traffic}
use Rattle.rank_run.specs.Memory.{ReadsBack}
use Rattle.blacs_grid.specs.Places.{member, members}
use Rattle.ranks_tests.specs.declared.moves.cell.Cell.{Cell}
use Rattle.ranks_tests.specs.declared.moves.cell.Slot.TheVariants.{Own, Work}
use Rattle.ranks_tests.specs.contracts.moves.cell.CellStore.TheImpl.{ghosts}
use Rattle.blacs_comm.specs.Moves.{broadcast_to}
use Rattle.blacs_comm.proofs.Ends.{left_at_end}
use Rattle.blacs_comm.proofs.Leading.{get-memories, may_of_extends, after_of_extends}
use Rattle.blacs_comm.proofs.Scopes.{member_below}
use Rattle.blacs_comm.proofs.Spreading.{at_other}
use Rattle.ranks_tests.proofs.moves.cases.spread.Goals as goal

pub run_round-requires-clause-may : goal.run_round-requires-clause-may
run_round-requires-clause-may c =
    may_of_extends _ _ _ _ _ (record { own = 0; work = 0 }) c.args.cells.now 64 c.in_ok-broadcast.ensures.leads c.new-round.ensures c.requires.ranks
    (record { within = λ j lt. member_below c.args.case.now.grid c.args.case.now.scope j c.requires.grid c.requires.scope_in lt; can_read = tt; can_write = λ j lt ne. tt })

pub run_round-requires-clause-empty : goal.run_round-requires-clause-empty
run_round-requires-clause-empty c = c.in_ok-links.ensures ∙ sym (ap (λ l. empty_traffic l.ranks l.capacity) c.in_ok-links.ensures)

pub returns : goal.returns
returns c j lt ne =
    let back : ReadsBack ghosts.memory = record { can = λ x p w h. tt; same = λ x. elim [ Own ↦ λ w h. refl | Work ↦ λ w h. refl ] } in
    let none : Cell = record { own = 0; work = 0 } in
    let at = member c.args.case.now.grid c.args.case.now.scope in
    let below : (i : ℕ) → i < members c.args.case.now.grid c.args.case.now.scope → at i < 64 = λ i h. member_below c.args.case.now.grid c.args.case.now.scope i c.requires.grid c.requires.scope_in h in
    let first : ℕ → Cell = λ r. get_or c.args.cells.now r none in
    let means = after_of_extends _ _ _ _ _ none c.args.cells.now 64 c.in_ok-broadcast.ensures.leads c.new-round.ensures c.requires.ranks (record { within = below; can_read = tt; can_write = λ i h n. tt }) in
    let left = left_at_end _ _ _ _ _ _ _ _ _ _ _ _ _ c.in_ok-run_round.ensures.run.1 (λ n. refl) in
    ap (λ (cells : List Cell). slice_get cells (at j)) (left ∙ means)
    ∙ (get-memories 64 (broadcast_to ghosts.memory at (members c.args.case.now.grid c.args.case.now.scope) c.args.case.now.root Own Work first) (at j) (below j lt)
    ∙ ap (λ (x : Cell). Some x) (at_other ghosts.memory back at (members c.args.case.now.grid c.args.case.now.scope) c.args.case.now.root Own Work first j lt ne))
