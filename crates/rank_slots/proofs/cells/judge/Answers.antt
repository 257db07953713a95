use Rattle.std.proofs.Common.{◌∙◌, ap, sym, not, set, get_or, Bool, None, arith}
use Rattle.std.proofs.lemmas.List.Edits.{map_over_more}
use Rattle.rank_machine.specs.Effect.{is_live}
use Rattle.script_lines.specs.Lines.{setting_on}
use Rattle.rank_slots.specs.declared.cells.Cell.{Cell}
use Rattle.rank_slots.specs.Cells.{judged}
use Rattle.rank_slots.proofs.cells.judge.Goals as goal

pub loop-cell-preserved : goal.loop-cell-preserved
loop-cell-preserved c =
    let i = c.loop-cell.cell-index in
    let f = judged (is_live (setting_on 0 c.args.table.now) c.args.mark c.args.rank) in
    let x = get_or c.loop-cell.items i c.cell-item.result in
    record {
      known = c.is_live_beside.ensures.known;
      judged = ap (λ (live : Bool). set c.loop-cell.items i (record { slot = x.slot; tile = x.tile; saved = None; fresh = not live })) c.is_live_beside.ensures.live
          ∙ ap (λ (y : Cell). set c.loop-cell.items i (f y)) (sym c.cell-item.is)
          ∙ map_over_more f c.args.items.now c.loop-cell.items i c.cell-item.result (omega (arith, c.loop-cell-test.true)) c.loop-cell.invariant.judged c.cell-item.is;
    }
