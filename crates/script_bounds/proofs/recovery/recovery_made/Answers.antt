use Rattle.std.proofs.Common.{Some, ◌+◌, ap, suc, ◌∙◌, arith}
use Rattle.run_data.specs.Script.{commands_of}
use Rattle.script_bounds.proofs.Sized.{as_distribution, as_matrix_distribution, matrix_distribution_kept, pgetrf_kept}
use Rattle.script_bounds.proofs.Limits.{command_at-from_OnLine}
use Rattle.script_bounds.proofs.recovery.recovery_made.Goals as goal

pub matrix_recovery-requires : goal.matrix_recovery-requires
matrix_recovery-requires c =
    let e = command_at-from_OnLine c.args.script.now c.args.place _ (c.requires.there ∙ ap (λ x. Some (Some x)) c.in-Matrix.is) in
    let h = matrix_distribution_kept c.args.script.now (suc c.args.place) _ _ _ _ _ _ _ _ _ c.requires.rules e in
    as_matrix_distribution c.distribution_on.result (commands_of c.args.script.now) (c.args.place + 1) (suc c.args.place) c.bytes.result.now c.in-Matrix.grid c.in-Matrix.m c.in-Matrix.n c.in-Matrix.mb c.in-Matrix.nb c.in-Matrix.rsrc
    c.in-Matrix.csrc c.distribution_on.ensures (omega arith) c.bytes.ensures h

pub list_recovery-requires : goal.list_recovery-requires
list_recovery-requires c =
    let e = command_at-from_OnLine c.args.script.now c.args.place _ (c.requires.there ∙ ap (λ x. Some (Some x)) c.in-Pgetrf.is) in
    let h = pgetrf_kept c.args.script.now (suc c.args.place) _ _ _ _ _ _ c.requires.rules e in
    as_distribution c.distribution_of.result (commands_of c.args.script.now) (c.args.place + 1) (suc c.args.place) c.bytes-in-Pgetrf.result.now c.in-Pgetrf.a c.distribution_of.ensures (omega arith) c.bytes-in-Pgetrf.ensures h.0
