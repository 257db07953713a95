use Rattle.std.proofs.Common.{◌+◌, sym, ◌∙◌, ap, subst, arith}
use Rattle.run_data.specs.Matrix.{entry}
use Rattle.run_data.proofs.Matrices.{IsShaped-tabulate, rows-tabulate, cols-tabulate}
use Rattle.run_data.proofs.Fills.{rows-with_done, cols-with_done, fill_starts, fill_goes_on, fill_ends_column, fill_ends}
use Rattle.dist_matrix.specs.Strips.{layout_of, HasStripShape, IsPadded, HoldsEntries}
use Rattle.dist_matrix.proofs.EntryLaws.{row_below}
use Rattle.dist_matrix.proofs.Cutting.{strip_is}
use Rattle.dist_matrix.proofs.StripLaws.{HasStripShape-strip_of, IsPadded-strip_of, HoldsEntries-strip_of}
use Rattle.dist_matrix.proofs.strips.strip.Goals as goal

pub loop-j-init : goal.loop-j-init
loop-j-init c = c.in_ok-result.ensures ∙ fill_starts _ _ _ (IsShaped-tabulate _ _ _)

pub global-row-requires-clause-fits : goal.global-row-requires-clause-fits
global-row-requires-clause-fits c =
    let below =
    row_below (layout_of c.args.grid.now c.args.d.now) c.args.rank c.args.group c.loop-i.i c.span_of-at.result.process_row c.span_of-at.result.rows (record { grid = c.requires.grid; desc = c.requires.descriptor })
    (record { data_rank = c.requires.data_rank; group_in = c.requires.group_in }) c.span_of-at.ensures.process_row c.span_of-at.ensures.rows c.loop-i-test.true in
    omega (arith, below, c.requires.descriptor.rows)

pub get-requires-clause-row : goal.get-requires-clause-row
get-requires-clause-row c =
    let below =
    row_below (layout_of c.args.grid.now c.args.d.now) c.args.rank c.args.group c.loop-i.i c.span_of-at.result.process_row c.span_of-at.result.rows (record { grid = c.requires.grid; desc = c.requires.descriptor })
    (record { data_rank = c.requires.data_rank; group_in = c.requires.group_in }) c.span_of-at.ensures.process_row c.span_of-at.ensures.rows c.loop-i-test.true in
    omega (arith, below, c.global-row.ensures.value, c.requires.whole.rows)

pub set-requires-clause-row : goal.set-requires-clause-row
set-requires-clause-row c = rw (c.loop-i.invariant, rows-with_done, rows-tabulate) (omega arith)

pub set-requires-clause-column : goal.set-requires-clause-column
set-requires-clause-column c = rw (c.loop-i.invariant, cols-with_done, cols-tabulate) (omega (arith, c.span_of-at.ensures.columns))

pub loop-i-preserved : goal.loop-i-preserved
loop-i-preserved c =
    fill_goes_on _ _ _ _ _ _ _ _ c.loop-i.invariant c.set.ensures (omega arith) (omega arith) (omega arith) (omega arith)
    (c.get.ensures ∙ ap (λ r. entry c.args.m.now r (c.span_of-at.result.first_column + c.loop-j.j)) c.global-row.ensures.value)

pub loop-j-preserved : goal.loop-j-preserved
loop-j-preserved c = c.loop-i.invariant ∙ fill_ends_column _ _ _ _ _ (omega arith)

pub returns-clause-value : goal.returns-clause-value
returns-clause-value c =
    c.loop-j.invariant ∙ fill_ends _ _ _ _ _ (omega arith)
    ∙ strip_is (layout_of c.args.grid.now c.args.d.now) c.args.m.now c.args.rank c.args.group c.span_of-at.result.rows c.span_of-at.result.process_row
    c.span_of-at.result.first_column c.span_of-at.result.columns c.span_of-at.ensures.process_row c.span_of-at.ensures.rows
    c.span_of-at.ensures.first_column c.span_of-at.ensures.columns

pub returns-clause-shape : goal.returns-clause-shape
returns-clause-shape c =
    subst (HasStripShape (layout_of c.args.grid.now c.args.d.now) c.args.rank) (sym (returns-clause-value c))
    (HasStripShape-strip_of (layout_of c.args.grid.now c.args.d.now) c.args.m.now c.args.rank c.args.group)

pub returns-clause-padded : goal.returns-clause-padded
returns-clause-padded c =
    subst (IsPadded (layout_of c.args.grid.now c.args.d.now) c.args.rank c.args.group) (sym (returns-clause-value c))
    (IsPadded-strip_of (layout_of c.args.grid.now c.args.d.now) c.args.m.now c.args.rank c.args.group)

pub returns-clause-entries : goal.returns-clause-entries
returns-clause-entries c =
    subst (HoldsEntries (layout_of c.args.grid.now c.args.d.now) c.args.m.now c.args.rank c.args.group) (sym (returns-clause-value c))
    (HoldsEntries-strip_of (layout_of c.args.grid.now c.args.d.now) c.args.m.now c.args.rank c.args.group (record { grid = c.requires.grid; desc = c.requires.descriptor }))
