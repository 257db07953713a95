use Rattle.std.proofs.Common.{◌≡◌, ◌+◌, [], ◌∷◌, ◌∙◌, min, ap, sym, subst}
use Rattle.std.specs.Prelude.{IfOk}
use Rattle.rank_machine.specs.declared.slot.Tile.{Tile}
use Rattle.rank_machine.specs.declared.slot.Tile.TheVariants.{Index}
use Rattle.rank_machine.specs.Setting.{layout}
use Rattle.rank_machine.specs.Effect.{diagonal, least_of, number_if, is_zero_here, made_by}
use Rattle.script_lines.specs.Lines.{setting_on}
use Rattle.rank_slots.specs.Cells.{tiles_in}
use Rattle.rank_memory.proofs.made.made.Goals as goal

pub returns-in-Diag : goal.returns-in-Diag
returns-in-Diag g c =
    let s = setting_on 0 c.args.table.now in
    let holding = tiles_in c.args.cells.now in
    let slot = c.slot.ensures in
    subst (λ (v : Tile). IfOk c.zero_in.result (λ (t : Tile). t ≡ v))
    ((λ k. Index (least_of (min c.in-Diag.n (diagonal (layout s (slot k).id))) (λ i. number_if (is_zero_here s c.args.rank holding (slot k).id i) (i + 1)) ∷ []))
    ∙ sym (ap (made_by (setting_on g.K.Field.MODULUS c.args.table.now) c.args.rank holding) c.in-Diag.is))
    c.zero_in.ensures
