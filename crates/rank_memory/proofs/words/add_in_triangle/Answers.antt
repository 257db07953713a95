use Rattle.std.proofs.Common.{◌∙◌, ap, sym}
use Rattle.local_blas.specs.Kernels.{with_added}
use Rattle.rank_machine.specs.declared.layout.Layout.{Layout}
use Rattle.script_lines.specs.Lines.{setting_on}
use Rattle.rank_slots.specs.Shapes.{is_in_triangle}
use Rattle.rank_slots.proofs.TestLaws.{in_matrix-member}
use Rattle.rank_memory.proofs.words.add_in_triangle.Goals as goal

pub add_triangle-requires-clause-member : goal.add_triangle-requires-clause-member
add_triangle-requires-clause-member g c =
    in_matrix-member (setting_on 0 c.args.table.now) c.args.rank c.args.slot c.layout_at-placed.result (sym c.layout_at-placed.ensures.value) c.requires.placed

pub returns : goal.returns
returns g c =
    c.add_triangle.ensures
    ∙ ap (λ (d : Layout). with_added g.K.Field.MODULUS c.args.dst.now c.args.at c.args.a c.args.src.now c.args.sp (is_in_triangle d c.args.rank c.args.upper c.args.block)) c.layout_at-placed.ensures.value
