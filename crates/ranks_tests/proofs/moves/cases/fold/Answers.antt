use Rattle.std.proofs.Common.{◌≡◌, ◌∙◌, ℕ, ◌+◌, ◌-◌, ◌<◌, min, true, List, Option, get_or, slice_get, refl, ap, sym, subst, arith}
use Rattle.std.specs.Option.{IsSomeAnd}
use Rattle.std.proofs.lemmas.Int.{clamps}
use Rattle.rank_link.specs.Traffic.{empty_traffic}
use Rattle.blacs_grid.specs.Places.{member, members}
use Rattle.ranks_tests.specs.declared.moves.cell.Cell.{Cell}
use Rattle.ranks_tests.specs.declared.moves.cell.Join.{Join}
use Rattle.ranks_tests.specs.declared.moves.cell.Join.TheVariants.{Add, Least}
use Rattle.ranks_tests.specs.declared.moves.cell.Slot.TheVariants.{Own, Work}
use Rattle.ranks_tests.specs.contracts.moves.cell.CellStore.TheImpl.{ghosts}
use Rattle.blacs_comm.specs.Moves.{IsJoin, folded}
use Rattle.blacs_comm.proofs.Ends.{left_at_end}
use Rattle.blacs_comm.proofs.Leading.{get-memories}
use Rattle.blacs_comm.proofs.Scopes.{member_below}
use Rattle.blacs_comm.proofs.Spreading.{may_of_combine, total_of_combine}
use Rattle.ranks_tests.proofs.moves.cases.fold.Goals as goal

abbrev joined : Join → ℕ → ℕ → ℕ
joined join a b = elim join [ Add ↦ min (a + b) 4294967295 | Least ↦ min a b ]

joined-assoc : (join : Join) (a b c : ℕ) → joined join (joined join a b) c ≡ joined join a (joined join b c)
joined-assoc Add a b c = omega (arith, clamps)
joined-assoc Least a b c = omega (arith, clamps)

joined-comm : (join : Join) (a b : ℕ) → joined join a b ≡ joined join b a
joined-comm Add a b = omega (arith, clamps)
joined-comm Least a b = omega (arith, clamps)

is_join : (join : Join) → IsJoin ghosts.memory Own Work join (joined join) (λ x. true) (λ w. true)
is_join Add = record {
  can_read = λ x f. tt;
  reads_good = λ x f. refl;
  can_write = λ x w f k. tt;
  can_join = λ x w f k. tt;
  stays_fit = λ x w f k. refl;
  value = λ x w f k. refl;
  stays_good = λ a b f k. refl;
  assoc = λ a b c f k l. joined-assoc Add a b c;
  comm = λ a b f k. joined-comm Add a b;
}
is_join Least = record {
  can_read = λ x f. tt;
  reads_good = λ x f. refl;
  can_write = λ x w f k. tt;
  can_join = λ x w f k. tt;
  stays_fit = λ x w f k. refl;
  value = λ x w f k. refl;
  stays_good = λ a b f k. refl;
  assoc = λ a b c f k l. joined-assoc Least a b c;
  comm = λ a b f k. joined-comm Least a b;
}

pub run_round-requires-clause-may : goal.run_round-requires-clause-may
run_round-requires-clause-may c =
    may_of_combine _ c.args.to_all _ _ (member c.args.case.now.grid c.args.case.now.scope) (members c.args.case.now.grid c.args.case.now.scope) c.args.case.now.root Own Work c.args.join
    (joined c.args.join) (λ x. true) (λ w. true) (record { own = 0; work = 0 }) c.args.cells.now 64 (is_join c.args.join) (λ x w f k. tt) c.in_ok-combine.ensures.leads c.new-round.ensures c.requires.ranks
    (record { within = λ j lt. member_below c.args.case.now.grid c.args.case.now.scope j c.requires.grid c.requires.scope_in lt; fit_each = λ j lt. refl })

pub run_round-requires-clause-empty : goal.run_round-requires-clause-empty
run_round-requires-clause-empty c = c.in_ok-links.ensures ∙ sym (ap (λ l. empty_traffic l.ranks l.capacity) c.in_ok-links.ensures)

pub returns : goal.returns
returns c j lt who =
    let none : Cell = record { own = 0; work = 0 } in
    let at = member c.args.case.now.grid c.args.case.now.scope in
    let count = members c.args.case.now.grid c.args.case.now.scope in
    let below : (i : ℕ) → i < count → at i < 64 = λ i h. member_below c.args.case.now.grid c.args.case.now.scope i c.requires.grid c.requires.scope_in h in
    let total : ℕ = folded (joined c.args.join) (λ i. (get_or c.args.cells.now (at i) none).own) (count - 1) in
    let means =
    total_of_combine _ c.args.to_all _ _ at count c.args.case.now.root Own Work c.args.join (joined c.args.join) (λ x. true) (λ w. true) none c.args.cells.now 64 (is_join c.args.join) (λ x w f k. tt)
    c.in_ok-combine.ensures.leads c.new-round.ensures c.requires.ranks (record { within = below; fit_each = λ i h. refl }) in
    let left = left_at_end _ _ _ _ _ _ _ _ _ _ _ _ _ c.in_ok-run_round.ensures.run.1 (λ n. refl) in
    subst (λ (o : Option Cell). IsSomeAnd o (λ x. x.own ≡ total))
    (sym (ap (λ (cells : List Cell). slice_get cells (at j)) (left ∙ means.1) ∙ get-memories 64 means.0 (at j) (below j lt))) (means.2 j lt who)
