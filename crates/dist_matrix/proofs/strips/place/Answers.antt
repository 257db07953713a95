use Rattle.std.proofs.Common.{◌≡◌, ◌+◌, ◌-◌, sym, ◌∙◌, min, ap, subst, arith}
use Rattle.array_desc.specs.Maps.{global}
use Rattle.rank_machine.specs.Setting.{strip_of}
use Rattle.dist_matrix.specs.Strips.{layout_of, HasShape}
use Rattle.dist_matrix.proofs.EntryLaws.{row_below}
use Rattle.dist_matrix.proofs.Placing.{with_placed, rows-with_placed, cols-with_placed, place_starts, place_goes_on, place_ends_column, place_ends}
use Rattle.dist_matrix.proofs.StripLaws.{HasShape-with_strip, strip_of-with_strip}
use Rattle.dist_matrix.proofs.strips.place.Goals as goal

pub loop-j-init : goal.loop-j-init
loop-j-init c =
    place_starts (layout_of c.args.grid.now c.args.d.now) c.args.out.now c.args.rank c.args.group c.args.strip.now (c.span_of-at.result.first_column + 0) (record { grid = c.requires.grid; desc = c.requires.descriptor }) c.rows-shaped.ensures.shaped
    (omega (arith, c.span_of-at.ensures.first_column))

pub global-row-requires-clause-fits : goal.global-row-requires-clause-fits
global-row-requires-clause-fits c =
    let below =
    row_below (layout_of c.args.grid.now c.args.d.now) c.args.rank c.args.group c.loop-i.i c.span_of-at.result.process_row c.span_of-at.result.rows (record { grid = c.requires.grid; desc = c.requires.descriptor })
    (record { data_rank = c.requires.data_rank; group_in = c.requires.group_in }) c.span_of-at.ensures.process_row c.span_of-at.ensures.rows c.loop-i-test.true in
    omega (arith, below, c.requires.descriptor.rows)

pub set-requires-clause-row : goal.set-requires-clause-row
set-requires-clause-row c =
    let below =
    row_below (layout_of c.args.grid.now c.args.d.now) c.args.rank c.args.group c.loop-i.i c.span_of-at.result.process_row c.span_of-at.result.rows (record { grid = c.requires.grid; desc = c.requires.descriptor })
    (record { data_rank = c.requires.data_rank; group_in = c.requires.group_in }) c.span_of-at.ensures.process_row c.span_of-at.ensures.rows c.loop-i-test.true in
    rw (c.loop-i.invariant, rows-with_placed) (omega (arith, below, c.global-row.ensures.value, c.requires.whole.rows))

pub set-requires-clause-column : goal.set-requires-clause-column
set-requires-clause-column c = rw (c.loop-i.invariant, cols-with_placed) (omega (arith, c.span_of-at.ensures.columns, c.requires.whole.columns))

pub loop-i-preserved : goal.loop-i-preserved
loop-i-preserved c =
    place_goes_on (layout_of c.args.grid.now c.args.d.now) c.args.out.now c.loop-i.out c.set.new.self c.args.rank c.args.group c.args.strip.now c.loop-i.i
    (c.span_of-at.result.first_column + c.loop-j.j) c.loop-j.j c.global-row.result c.get.result (record { grid = c.requires.grid; desc = c.requires.descriptor })
    (record { data_rank = c.requires.data_rank; group_in = c.requires.group_in }) c.loop-i.invariant c.set.ensures
    (c.global-row.ensures.value ∙ ap (λ row. global c.loop-i.i c.args.d.now.mb row c.args.d.now.rsrc c.args.grid.now.p) c.span_of-at.ensures.process_row)
    (ap (λ first. first + c.loop-j.j) c.span_of-at.ensures.first_column) (omega (arith, c.span_of-at.ensures.columns)) c.get.ensures

pub loop-j-preserved : goal.loop-j-preserved
loop-j-preserved c =
    c.loop-i.invariant
    ∙ place_ends_column (layout_of c.args.grid.now c.args.d.now) c.args.out.now c.args.rank c.args.group c.args.strip.now c.loop-i.i (c.span_of-at.result.first_column + c.loop-j.j) (record { grid = c.requires.grid; desc = c.requires.descriptor }) c.requires.whole
    (omega (arith, c.span_of-at.ensures.rows))
    ∙ ap (with_placed (layout_of c.args.grid.now c.args.d.now) c.args.out.now c.args.rank c.args.group c.args.strip.now 0)
    (let next : c.span_of-at.result.first_column + c.loop-j.j + 1 ≡ c.span_of-at.result.first_column + (c.loop-j.j + 1) = omega arith in next)

pub returns-clause-value : goal.returns-clause-value
returns-clause-value c =
    c.loop-j.invariant
    ∙ place_ends (layout_of c.args.grid.now c.args.d.now) c.args.out.now c.args.rank c.args.group c.args.strip.now (c.span_of-at.result.first_column + c.loop-j.j) c.span_of-at.result.columns (record { grid = c.requires.grid; desc = c.requires.descriptor }) c.requires.whole
    (c.span_of-at.ensures.columns ∙ ap (λ first. min (c.args.d.now.n - first) c.args.d.now.nb) c.span_of-at.ensures.first_column)
    (omega (arith, c.span_of-at.ensures.first_column))

pub returns-clause-whole_kept : goal.returns-clause-whole_kept
returns-clause-whole_kept c =
    subst (HasShape (layout_of c.args.grid.now c.args.d.now)) (sym (returns-clause-value c))
    (HasShape-with_strip (layout_of c.args.grid.now c.args.d.now) c.args.out.now c.args.rank c.args.group c.args.strip.now c.requires.whole)

pub returns-clause-read_back : goal.returns-clause-read_back
returns-clause-read_back c padded =
    ap (λ m. strip_of (layout_of c.args.grid.now c.args.d.now) m c.args.rank c.args.group) (returns-clause-value c)
    ∙ strip_of-with_strip (layout_of c.args.grid.now c.args.d.now) c.args.out.now c.args.rank c.args.group c.args.strip.now (record { grid = c.requires.grid; desc = c.requires.descriptor })
    (record { data_rank = c.requires.data_rank; group_in = c.requires.group_in }) c.requires.whole c.requires.shape c.rows-strip_shaped.ensures.shaped padded
