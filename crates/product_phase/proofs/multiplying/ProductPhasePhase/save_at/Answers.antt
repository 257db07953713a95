use Rattle.std.proofs.Common.{◌≡◌, ◌<◌, ◌*◌, ◌/◌, ◌%◌, Some, sym, ap, ◌∙◌, arith}
use Rattle.blacs_grid.specs.Places.{width, rank_at}
use Rattle.product_rounds.specs.Rounds.{strip_slot}
use Rattle.product_laws.specs.Multiplying.{ProductView}
use Rattle.product_laws.proofs.Saving.{saved_strip_at, saved_strip_past}
use Rattle.product_phase.proofs.multiplying.ProductPhasePhase.save_at.Goals as goal

pub returns-then-saves-i : goal.returns-then-saves-i
returns-then-saves-i g c =
    let count = c.saves.ensures.value in
    sym (saved_strip_past c.args.self.now.x c.args.i (omega (arith, count, c.if-saves-i.true)))

pub returns : goal.returns
returns g c =
    let x = c.self.inside.product in
    let count : c.saves.result ≡ x.grid.p * width x.grid = c.saves.ensures.value ∙ sym (ap (λ (v : ProductView). v.x.grid.p * width v.x.grid) c.self.view_is) in
    let lt : c.args.i < x.grid.p * width x.grid = omega (arith, count, c.if-saves-i.false) in
    rw (← c.self.view_is)
    ((λ k. Some (
      (c.rank-rank.ensures.value ∙ (λ j. rank_at x.grid (c.args.i / c.width-2.ensures j) (c.args.i % c.width.ensures j))) k,
      (c.strip_slot.ensures ∙ (λ j. strip_slot x x.line_c (c.args.i % c.width.ensures j))) k,
    ))
    ∙ sym (saved_strip_at x c.args.i lt))
