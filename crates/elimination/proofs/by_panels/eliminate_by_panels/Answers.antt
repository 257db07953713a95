use Rattle.std.proofs.Common.{◌≡◌, ◌+◌, ◌≤◌, min, ◌∙◌, ap, arith}
use Rattle.field_core.specs.Residue.{inverse}
use Rattle.run_data.specs.Matrix.{cols, tabulate}
use Rattle.elimination.specs.Whole.{panel_count}
use Rattle.elimination.proofs.ByPanels.{starts, list_starts, rows_so_far, cols_so_far, words_so_far, count_so_far, goes_on, list_goes_on, all_are_elimination, info_is}
use Rattle.elimination.proofs.by_panels.eliminate_by_panels.Goals as goal

pub loop-first-init : goal.loop-first-init
loop-first-init g c =
    record { inside = omega arith; matrix = starts g.K.Field.MODULUS (inverse g.K.Field.MODULUS) c.args.a.now c.rows.ensures.shaped; list = list_starts g.K.Field.MODULUS (inverse g.K.Field.MODULUS) c.args.a.now c.new-pivots.result.items c.new-pivots.ensures.items }

pub eliminate_panel-requires-clause-rows : goal.eliminate_panel-requires-clause-rows
eliminate_panel-requires-clause-rows g c =
    let last : c.min-last.result ≡ min c.args.a.now.rows (cols c.args.a.now) = omega (arith, c.rows.ensures.value, c.cols.ensures) in
    let rows : c.loop-first.a.rows ≡ c.args.a.now.rows = rows_so_far g.K.Field.MODULUS (inverse g.K.Field.MODULUS) c.args.a.now c.loop-first.a c.loop-first.first c.loop-first.invariant.matrix in
    omega arith

pub eliminate_panel-requires-clause-columns : goal.eliminate_panel-requires-clause-columns
eliminate_panel-requires-clause-columns g c =
    let last : c.min-last.result ≡ min c.args.a.now.rows (cols c.args.a.now) = omega (arith, c.rows.ensures.value, c.cols.ensures) in
    let columns : cols c.loop-first.a ≡ cols c.args.a.now = cols_so_far g.K.Field.MODULUS (inverse g.K.Field.MODULUS) c.args.a.now c.loop-first.a c.loop-first.first c.loop-first.invariant.matrix in
    omega arith

pub eliminate_panel-requires-clause-count : goal.eliminate_panel-requires-clause-count
eliminate_panel-requires-clause-count g c =
    let last : c.min-last.result ≡ min c.args.a.now.rows (cols c.args.a.now) = omega (arith, c.rows.ensures.value, c.cols.ensures) in
    let inside : c.loop-first.first ≤ c.args.a.now.rows = omega (arith, c.loop-first.invariant.inside) in
    count_so_far g.K.Field.MODULUS (inverse g.K.Field.MODULUS) c.args.a.now c.loop-first.pivots.items c.loop-first.first c.rows.ensures.shaped c.requires.words inside c.loop-first.invariant.list

pub eliminate_panel-requires-clause-words : goal.eliminate_panel-requires-clause-words
eliminate_panel-requires-clause-words g c =
    let last : c.min-last.result ≡ min c.args.a.now.rows (cols c.args.a.now) = omega (arith, c.rows.ensures.value, c.cols.ensures) in
    let inside : c.loop-first.first ≤ c.args.a.now.rows = omega (arith, c.loop-first.invariant.inside) in
    words_so_far g.K.Field.MODULUS (inverse g.K.Field.MODULUS) c.args.a.now c.loop-first.a c.loop-first.first c.rows.ensures.shaped c.requires.words inside c.loop-first.invariant.matrix

pub loop-first-preserved : goal.loop-first-preserved
loop-first-preserved g c =
    let last : c.min-last.result ≡ min c.args.a.now.rows (cols c.args.a.now) = omega (arith, c.rows.ensures.value, c.cols.ensures) in
    let rows : c.loop-first.a.rows ≡ c.args.a.now.rows = rows_so_far g.K.Field.MODULUS (inverse g.K.Field.MODULUS) c.args.a.now c.loop-first.a c.loop-first.first c.loop-first.invariant.matrix in
    let columns : cols c.loop-first.a ≡ cols c.args.a.now = cols_so_far g.K.Field.MODULUS (inverse g.K.Field.MODULUS) c.args.a.now c.loop-first.a c.loop-first.first c.loop-first.invariant.matrix in
    let inside : c.loop-first.first + (panel_count c.loop-first.a c.loop-first.first c.args.nb) ≤ min c.args.a.now.rows (cols c.args.a.now) = omega (arith, c.loop-first.invariant.inside) in
    let next : (c.loop-first.first + c.min-first.result) ≡ c.loop-first.first + (panel_count c.loop-first.a c.loop-first.first c.args.nb) = omega (arith, c.min-first.ensures) in
    record {
      inside = omega (arith, c.min-first.ensures);
      matrix = goes_on g.K.Field.MODULUS (inverse g.K.Field.MODULUS) c.args.a.now c.loop-first.a c.eliminate_panel.new.a c.loop-first.pivots.items c.loop-first.first (panel_count c.loop-first.a c.loop-first.first c.args.nb) (c.loop-first.first + c.min-first.result) c.rows.ensures.shaped c.requires.words inside next c.loop-first.invariant.matrix c.loop-first.invariant.list c.in_ok-eliminate_panel.ensures.matrix;
      list = list_goes_on g.K.Field.MODULUS (inverse g.K.Field.MODULUS) c.args.a.now c.loop-first.a c.loop-first.pivots.items c.eliminate_panel.new.pivots.items c.loop-first.first (panel_count c.loop-first.a c.loop-first.first c.args.nb) (c.loop-first.first + c.min-first.result) c.rows.ensures.shaped c.requires.words inside next c.loop-first.invariant.matrix c.loop-first.invariant.list c.in_ok-eliminate_panel.ensures.list;
    }

pub first_zero-info-requires-clause-rows : goal.first_zero-info-requires-clause-rows
first_zero-info-requires-clause-rows g c =
    let last : c.min-last.result ≡ min c.args.a.now.rows (cols c.args.a.now) = omega (arith, c.rows.ensures.value, c.cols.ensures) in
    let rows : c.loop-first.a.rows ≡ c.args.a.now.rows = rows_so_far g.K.Field.MODULUS (inverse g.K.Field.MODULUS) c.args.a.now c.loop-first.a c.loop-first.first c.loop-first.invariant.matrix in
    omega arith

pub first_zero-info-requires-clause-columns : goal.first_zero-info-requires-clause-columns
first_zero-info-requires-clause-columns g c =
    let last : c.min-last.result ≡ min c.args.a.now.rows (cols c.args.a.now) = omega (arith, c.rows.ensures.value, c.cols.ensures) in
    let columns : cols c.loop-first.a ≡ cols c.args.a.now = cols_so_far g.K.Field.MODULUS (inverse g.K.Field.MODULUS) c.args.a.now c.loop-first.a c.loop-first.first c.loop-first.invariant.matrix in
    omega arith

pub returns-clause-matrix : goal.returns-clause-matrix
returns-clause-matrix g c =
    let last : c.min-last.result ≡ min c.args.a.now.rows (cols c.args.a.now) = omega (arith, c.rows.ensures.value, c.cols.ensures) in
    let all : c.loop-first.first ≡ min c.args.a.now.rows (cols c.args.a.now) = omega (arith, c.loop-first.invariant.inside) in
    let is = all_are_elimination g.K.Field.MODULUS (inverse g.K.Field.MODULUS) c.args.a.now c.loop-first.first all in
    c.loop-first.invariant.matrix ∙ ap (λ s. tabulate c.args.a.now.rows (cols c.args.a.now) s.words) is

pub returns-clause-pivots : goal.returns-clause-pivots
returns-clause-pivots g c =
    let last : c.min-last.result ≡ min c.args.a.now.rows (cols c.args.a.now) = omega (arith, c.rows.ensures.value, c.cols.ensures) in
    let all : c.loop-first.first ≡ min c.args.a.now.rows (cols c.args.a.now) = omega (arith, c.loop-first.invariant.inside) in
    let is = all_are_elimination g.K.Field.MODULUS (inverse g.K.Field.MODULUS) c.args.a.now c.loop-first.first all in
    c.loop-first.invariant.list ∙ ap (λ s. s.pivots) is

pub returns-clause-info : goal.returns-clause-info
returns-clause-info g c =
    let last : c.min-last.result ≡ min c.args.a.now.rows (cols c.args.a.now) = omega (arith, c.rows.ensures.value, c.cols.ensures) in
    let all : c.loop-first.first ≡ min c.args.a.now.rows (cols c.args.a.now) = omega (arith, c.loop-first.invariant.inside) in
    let is = all_are_elimination g.K.Field.MODULUS (inverse g.K.Field.MODULUS) c.args.a.now c.loop-first.first all in
    c.first_zero-info.ensures ∙ info_is g.K.Field.MODULUS (inverse g.K.Field.MODULUS) c.args.a.now c.loop-first.a c.min-last.result c.rows.ensures.shaped c.requires.words last (c.loop-first.invariant.matrix ∙ ap (λ s. tabulate c.args.a.now.rows (cols c.args.a.now) s.words) is)
