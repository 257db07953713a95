use Rattle.std.proofs.Common.{sym, ap, subst, ◌∙◌}
use Rattle.std.proofs.lemmas.List.Elements.{All-get_or}
use Rattle.dist_matrix.specs.Strips.{HasShape}
use Rattle.script_run.specs.Strips.{IsStrip}
use Rattle.script_run.proofs.Placed.{with_each, placed-next, got-shape, strips-are, none-left, zeros-shape, whole-is}
use Rattle.script_run.proofs.printing.whole_of.Goals as goal

pub loop-i-init : goal.loop-i-init
loop-i-init c = record {
  shape = subst (HasShape c.args.layout) (sym c.in_ok-whole.ensures) (zeros-shape c.args.layout);
  placed = ap (λ m. with_each c.args.layout m c.args.got.now) c.in_ok-whole.ensures;
}

pub place_strip-requires-clause-strip : goal.place_strip-requires-clause-strip
place_strip-requires-clause-strip c =
    let d = c.args.layout in
    subst (IsStrip d) (sym c.index-got-i.is)
    (All-get_or (IsStrip d) c.args.got.now c.loop-i.i c.index-got-i.result c.loop-i-test.true (strips-are d c.args.line c.requires.strips.0 c.args.got.now c.requires.laid_out c.requires.strips.1))

pub loop-i-preserved : goal.loop-i-preserved
loop-i-preserved c =
    let d = c.args.layout in
    record {
      shape = subst (HasShape d) (sym c.place_strip.ensures) (got-shape d c.loop-i.whole c.index-got-i.result c.loop-i.invariant.shape);
      placed = placed-next d c.args.got.now c.loop-i.i c.loop-i.whole c.place_strip.new.whole _ c.index-got-i.result c.loop-i-test.true (sym c.index-got-i.is) c.place_strip.ensures c.loop-i.invariant.placed;
    }

pub returns : goal.returns
returns c = λ m are.
    let d = c.args.layout in
    sym (none-left d c.loop-i.whole c.args.got.now c.loop-i.i c.loop-i-test.false) ∙ (c.loop-i.invariant.placed ∙ whole-is d c.args.line m c.args.got.now c.requires.laid_out are)
