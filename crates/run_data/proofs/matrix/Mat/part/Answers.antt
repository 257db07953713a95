use Rattle.std.proofs.Common.{◌≡◌, ◌-◌, ◌∙◌, ap, arith}
use Rattle.run_data.specs.Matrix.{cols}
use Rattle.run_data.specs.Parts.{part_entry, with_copy}
use Rattle.run_data.proofs.Matrices.{rows-tabulate, cols-tabulate, tabulate-same}
use Rattle.run_data.proofs.Fills.{all_of, with_part-all_of}
use Rattle.run_data.proofs.matrix.Mat.part.Goals as goal

pub put_part-requires-clause-dst_part : goal.put_part-requires-clause-dst_part
put_part-requires-clause-dst_part c =
    let rows : c.in_ok-result.result.rows ≡ c.args.at.r1 - c.args.at.r0 = ap (λ m. m.rows) c.in_ok-result.ensures ∙ rows-tabulate _ _ _ in
    let columns : cols c.in_ok-result.result ≡ c.args.at.c1 - c.args.at.c0 = ap cols c.in_ok-result.ensures ∙ cols-tabulate _ _ _ in
    record { rows_ordered = omega arith; rows_end = omega arith; columns_ordered = omega arith; columns_end = omega arith }

pub returns : goal.returns
returns c =
    let m = c.args.at.r1 - c.args.at.r0 in
    let n = c.args.at.c1 - c.args.at.c0 in
    c.put_part.ensures ∙ ap (λ zeros. with_copy zeros (all_of m n) c.args.self.now c.args.at) c.in_ok-result.ensures ∙ with_part-all_of _ _ _ _
    ∙ tabulate-same m n (λ i j. part_entry c.args.self.now c.args.at (i - 0) (j - 0)) (part_entry c.args.self.now c.args.at)
    (λ i j _ _. ap (λ r. part_entry c.args.self.now c.args.at r (j - 0)) (let e : i - 0 ≡ i = omega arith in e) ∙ ap (part_entry c.args.self.now c.args.at i) (let e : j - 0 ≡ j = omega arith in e))
