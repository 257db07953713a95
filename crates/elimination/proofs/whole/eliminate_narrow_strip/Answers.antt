use Rattle.std.proofs.Common.{◌≡◌, arith}
use Rattle.field_core.specs.Residue.{inverse}
use Rattle.run_data.specs.Matrix.{cols}
use Rattle.elimination.proofs.WholeLoops.{strip_ready, strip_starts, strip_list_starts, strip_rows, strip_cols, strip_are_words, strip_goes_on, strip_list_goes_on}
use Rattle.elimination.proofs.whole.eliminate_narrow_strip.Goals as goal

pub loop-j-init : goal.loop-j-init
loop-j-init g c = (strip_starts _ _ _ _ _ c.rows-shaped.ensures.shaped, strip_list_starts _ _ _ _ _)

pub eliminate_strip_column-requires-clause-inside :
    goal.eliminate_strip_column-requires-clause-inside
eliminate_strip_column-requires-clause-inside g c =
    let rows : c.loop-j.a.rows ≡ c.args.a.now.rows = strip_rows g.K.Field.MODULUS (inverse g.K.Field.MODULUS) c.args.first c.loop-j.j c.args.a.now c.loop-j.a c.args.pivots.now.items c.loop-j.invariant.0 in
    omega arith

pub eliminate_strip_column-requires-clause-column :
    goal.eliminate_strip_column-requires-clause-column
eliminate_strip_column-requires-clause-column g c =
    let columns : cols c.loop-j.a ≡ cols c.args.a.now = strip_cols g.K.Field.MODULUS (inverse g.K.Field.MODULUS) c.args.first c.loop-j.j c.args.a.now c.loop-j.a c.args.pivots.now.items c.loop-j.invariant.0 in
    omega arith

pub eliminate_strip_column-requires-clause-words :
    goal.eliminate_strip_column-requires-clause-words
eliminate_strip_column-requires-clause-words g c =
    strip_are_words g.K.Field.MODULUS (inverse g.K.Field.MODULUS) c.args.first c.loop-j.j c.args.a.now c.loop-j.a c.args.pivots.now.items
    (strip_ready _ _ _ _ c.rows-shaped.ensures.shaped c.requires.words c.requires.count) (omega arith) c.loop-j.invariant.0

pub loop-j-preserved : goal.loop-j-preserved
loop-j-preserved g c = (
  strip_goes_on g.K.Field.MODULUS (inverse g.K.Field.MODULUS) c.args.first c.loop-j.j c.args.a.now c.loop-j.a c.eliminate_strip_column.new.a c.args.pivots.now.items c.loop-j.pivots.items
      (strip_ready _ _ _ _ c.rows-shaped.ensures.shaped c.requires.words c.requires.count) (omega arith) (omega arith) c.loop-j.invariant.0 c.loop-j.invariant.1 c.in_ok-eliminate_strip_column.ensures.matrix,
  strip_list_goes_on g.K.Field.MODULUS (inverse g.K.Field.MODULUS) c.args.first c.loop-j.j c.args.a.now c.loop-j.a c.args.pivots.now.items c.loop-j.pivots.items c.eliminate_strip_column.new.pivots.items
      (strip_ready _ _ _ _ c.rows-shaped.ensures.shaped c.requires.words c.requires.count) (omega arith) (omega arith) c.loop-j.invariant.0 c.loop-j.invariant.1 c.in_ok-eliminate_strip_column.ensures.list,
)
