use Rattle.std.proofs.Common.{◌≡◌, ◌+◌, [], ◌∷◌, ◌∙◌, min, sym, subst}
use Rattle.std.specs.Prelude.{ℕ, IfOk}
use Rattle.rank_machine.specs.declared.slot.Tile.{Tile}
use Rattle.rank_machine.specs.declared.slot.Tile.TheVariants.{Index}
use Rattle.rank_machine.specs.Setting.{layout}
use Rattle.rank_machine.specs.Effect.{diagonal, least_of, number_if, is_zero_here}
use Rattle.script_lines.specs.Lines.{setting_on}
use Rattle.rank_slots.specs.Cells.{tiles_in}
use Rattle.rank_memory.proofs.made.zero_in.Goals as goal

pub returns : goal.returns
returns c =
    let s = setting_on 0 c.args.table.now in
    let l = c.layout_at-placed.ensures.value in
    let is : c.first_zero-n.result ≡ least_of (min c.args.n (diagonal (layout s c.args.slot.id))) (λ i. number_if (is_zero_here s c.args.rank (tiles_in c.args.cells.now) c.args.slot.id i) (i + 1)) =
    c.first_zero-n.ensures s (sym l)
    ∙ (λ n. least_of (min c.args.n (diagonal (l n))) (λ i. number_if (is_zero_here s c.args.rank (tiles_in c.args.cells.now) c.args.slot.id i) (i + 1))) in
    subst (λ (v : ℕ). IfOk c.single.result (λ (t : Tile). t ≡ Index (v ∷ []))) is c.single.ensures
