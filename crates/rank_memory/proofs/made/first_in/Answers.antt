use Rattle.std.proofs.Common.{◌≡◌, ◌+◌, ◌-◌, ◌==◌, ◌&&◌, not, nat_lt, [], ◌∷◌, ◌∙◌, ap, subst}
use Rattle.std.specs.Prelude.{ℕ, IfOk}
use Rattle.run_data.specs.Matrix.{entry}
use Rattle.rank_machine.specs.declared.slot.Slot.{Slot}
use Rattle.rank_machine.specs.declared.slot.Tile.{Tile}
use Rattle.rank_machine.specs.declared.slot.Tile.TheVariants.{Index}
use Rattle.rank_machine.specs.Setting.{layout, global_row}
use Rattle.rank_machine.specs.Effect.{area, first_row, least_of, number_if}
use Rattle.script_lines.specs.Lines.{setting_on}
use Rattle.rank_slots.specs.Cells.{tiles_in}
use Rattle.rank_memory.proofs.made.first_in.Goals as goal

pub returns : goal.returns
returns c =
    let s = setting_on 0 c.args.table.now in
    let w = c.words_at-m.ensures in
    let a = c.area_of.ensures ∙ ap (area c.args.from) w in
    let l = c.layout_at-placed.ensures.value ∙ ap (λ (x : Slot). layout s x.id) c.slot.ensures in
    let rank = c.args.rank in
    let is : c.first_row-n.result ≡ first_row s rank (tiles_in c.args.cells.now) c.args.from c.args.j c.args.above =
    c.first_row-n.ensures
    ∙ (λ n. least_of ((a n).r1 - (a n).r0) (λ i. number_if (not (entry (w n) ((a n).r0 + i) ((a n).c0 + c.args.j) == 0) && nat_lt c.args.above (global_row (l n) rank ((a n).r0 + i) + 1)) (global_row (l n) rank ((a n).r0 + i) + 1))) in
    subst (λ (v : ℕ). IfOk c.single.result (λ (t : Tile). t ≡ Index (v ∷ []))) is c.single.ensures
