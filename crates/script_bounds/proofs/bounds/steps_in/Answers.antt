use Rattle.std.proofs.Common.{Some, ◌+◌, ap, suc, ◌∙◌, arith}
use Rattle.run_data.specs.Script.{commands_of}
use Rattle.script_bounds.proofs.Sized.{as_distribution, matrix_sizes, pgemm_kept, ptrsm_kept, pgetrf_kept, pgetrs_kept, pgemr2d_kept, ptran_kept, pgetri_kept, pverify_kept}
use Rattle.script_bounds.proofs.Limits.{command_at-from_OnLine}
use Rattle.script_bounds.proofs.bounds.steps_in.Goals as goal

pub records_of_matrix-requires-clause-columns : goal.records_of_matrix-requires-clause-columns
records_of_matrix-requires-clause-columns c =
    let e = command_at-from_OnLine c.args.script.now c.args.place _ (c.requires.there ∙ ap (λ x. Some (Some x)) c.in-Matrix.is) in
    let h = matrix_sizes c.args.script.now (suc c.args.place) _ _ _ _ _ _ _ _ _ c.requires.rules e in
    h.0

pub records_of_matrix-requires-clause-block : goal.records_of_matrix-requires-clause-block
records_of_matrix-requires-clause-block c =
    let e = command_at-from_OnLine c.args.script.now c.args.place _ (c.requires.there ∙ ap (λ x. Some (Some x)) c.in-Matrix.is) in
    let h = matrix_sizes c.args.script.now (suc c.args.place) _ _ _ _ _ _ _ _ _ c.requires.rules e in
    h.1

pub pgemm_steps-requires-clause-in_range : goal.pgemm_steps-requires-clause-in_range
pgemm_steps-requires-clause-in_range c =
    let e = command_at-from_OnLine c.args.script.now c.args.place _ (c.requires.there ∙ ap (λ x. Some (Some x)) c.in-Pgemm.is) in
    let h = pgemm_kept c.args.script.now (suc c.args.place) _ _ _ _ _ _ _ _ _ _ _ _ _ _ _ _ c.requires.rules e in
    as_distribution c.distribution_of.result (commands_of c.args.script.now) (c.args.place + 1) (suc c.args.place) c.bytes-in-Pgemm.result.now c.in-Pgemm.a c.distribution_of.ensures (omega arith) c.bytes-in-Pgemm.ensures h.0

pub pgemm_steps-requires-clause-other_in_range : goal.pgemm_steps-requires-clause-other_in_range
pgemm_steps-requires-clause-other_in_range c =
    let e = command_at-from_OnLine c.args.script.now c.args.place _ (c.requires.there ∙ ap (λ x. Some (Some x)) c.in-Pgemm.is) in
    let h = pgemm_kept c.args.script.now (suc c.args.place) _ _ _ _ _ _ _ _ _ _ _ _ _ _ _ _ c.requires.rules e in
    as_distribution c.distribution_of-in-Pgemm.result (commands_of c.args.script.now) (c.args.place + 1) (suc c.args.place) c.bytes-in-Pgemm-2.result.now c.in-Pgemm.c c.distribution_of-in-Pgemm.ensures (omega arith) c.bytes-in-Pgemm-2.ensures h.1

pub pgemm_steps-requires-clause-small : goal.pgemm_steps-requires-clause-small
pgemm_steps-requires-clause-small c =
    let e = command_at-from_OnLine c.args.script.now c.args.place _ (c.requires.there ∙ ap (λ x. Some (Some x)) c.in-Pgemm.is) in
    let h = pgemm_kept c.args.script.now (suc c.args.place) _ _ _ _ _ _ _ _ _ _ _ _ _ _ _ _ c.requires.rules e in
    h.2

pub ptrsm_steps-requires-clause-in_range : goal.ptrsm_steps-requires-clause-in_range
ptrsm_steps-requires-clause-in_range c =
    let e = command_at-from_OnLine c.args.script.now c.args.place _ (c.requires.there ∙ ap (λ x. Some (Some x)) c.in-Ptrsm.is) in
    let h = ptrsm_kept c.args.script.now (suc c.args.place) _ _ _ _ _ _ _ _ _ _ _ _ _ c.requires.rules e in
    as_distribution c.distribution_of-in-Ptrsm.result (commands_of c.args.script.now) (c.args.place + 1) (suc c.args.place) c.bytes-in-Ptrsm-3.result.now c.in-Ptrsm.a c.distribution_of-in-Ptrsm.ensures (omega arith) c.bytes-in-Ptrsm-3.ensures h.0

pub ptrsm_steps-requires-clause-other_in_range : goal.ptrsm_steps-requires-clause-other_in_range
ptrsm_steps-requires-clause-other_in_range c =
    let e = command_at-from_OnLine c.args.script.now c.args.place _ (c.requires.there ∙ ap (λ x. Some (Some x)) c.in-Ptrsm.is) in
    let h = ptrsm_kept c.args.script.now (suc c.args.place) _ _ _ _ _ _ _ _ _ _ _ _ _ c.requires.rules e in
    as_distribution c.distribution_of-in-Ptrsm-2.result (commands_of c.args.script.now) (c.args.place + 1) (suc c.args.place) c.bytes-in-Ptrsm-4.result.now c.in-Ptrsm.b c.distribution_of-in-Ptrsm-2.ensures (omega arith) c.bytes-in-Ptrsm-4.ensures h.1

pub ptrsm_steps-requires-clause-small : goal.ptrsm_steps-requires-clause-small
ptrsm_steps-requires-clause-small c =
    let e = command_at-from_OnLine c.args.script.now c.args.place _ (c.requires.there ∙ ap (λ x. Some (Some x)) c.in-Ptrsm.is) in
    let h = ptrsm_kept c.args.script.now (suc c.args.place) _ _ _ _ _ _ _ _ _ _ _ _ _ c.requires.rules e in
    h.2

pub ptrsm_steps-requires-clause-small_columns : goal.ptrsm_steps-requires-clause-small_columns
ptrsm_steps-requires-clause-small_columns c =
    let e = command_at-from_OnLine c.args.script.now c.args.place _ (c.requires.there ∙ ap (λ x. Some (Some x)) c.in-Ptrsm.is) in
    let h = ptrsm_kept c.args.script.now (suc c.args.place) _ _ _ _ _ _ _ _ _ _ _ _ _ c.requires.rules e in
    h.3

pub pgetrf_steps-requires-clause-in_range : goal.pgetrf_steps-requires-clause-in_range
pgetrf_steps-requires-clause-in_range c =
    let e = command_at-from_OnLine c.args.script.now c.args.place _ (c.requires.there ∙ ap (λ x. Some (Some x)) c.in-Pgetrf.is) in
    let h = pgetrf_kept c.args.script.now (suc c.args.place) _ _ _ _ _ _ c.requires.rules e in
    as_distribution c.distribution_of-in-Pgetrf.result (commands_of c.args.script.now) (c.args.place + 1) (suc c.args.place) c.bytes-in-Pgetrf.result.now c.in-Pgetrf.a c.distribution_of-in-Pgetrf.ensures (omega arith) c.bytes-in-Pgetrf.ensures h.0

pub pgetrf_steps-requires-clause-small : goal.pgetrf_steps-requires-clause-small
pgetrf_steps-requires-clause-small c =
    let e = command_at-from_OnLine c.args.script.now c.args.place _ (c.requires.there ∙ ap (λ x. Some (Some x)) c.in-Pgetrf.is) in
    let h = pgetrf_kept c.args.script.now (suc c.args.place) _ _ _ _ _ _ c.requires.rules e in
    h.1

pub pgetrf_steps-requires-clause-small_columns : goal.pgetrf_steps-requires-clause-small_columns
pgetrf_steps-requires-clause-small_columns c =
    let e = command_at-from_OnLine c.args.script.now c.args.place _ (c.requires.there ∙ ap (λ x. Some (Some x)) c.in-Pgetrf.is) in
    let h = pgetrf_kept c.args.script.now (suc c.args.place) _ _ _ _ _ _ c.requires.rules e in
    h.2

pub pgetrs_steps-requires-clause-in_range : goal.pgetrs_steps-requires-clause-in_range
pgetrs_steps-requires-clause-in_range c =
    let e = command_at-from_OnLine c.args.script.now c.args.place _ (c.requires.there ∙ ap (λ x. Some (Some x)) c.in-Pgetrs.is) in
    let h = pgetrs_kept c.args.script.now (suc c.args.place) _ _ _ _ _ _ _ _ _ _ c.requires.rules e in
    as_distribution c.distribution_of-in-Pgetrs.result (commands_of c.args.script.now) (c.args.place + 1) (suc c.args.place) c.bytes-in-Pgetrs-2.result.now c.in-Pgetrs.a c.distribution_of-in-Pgetrs.ensures (omega arith) c.bytes-in-Pgetrs-2.ensures h.0

pub pgetrs_steps-requires-clause-other_in_range : goal.pgetrs_steps-requires-clause-other_in_range
pgetrs_steps-requires-clause-other_in_range c =
    let e = command_at-from_OnLine c.args.script.now c.args.place _ (c.requires.there ∙ ap (λ x. Some (Some x)) c.in-Pgetrs.is) in
    let h = pgetrs_kept c.args.script.now (suc c.args.place) _ _ _ _ _ _ _ _ _ _ c.requires.rules e in
    as_distribution c.distribution_of-in-Pgetrs-2.result (commands_of c.args.script.now) (c.args.place + 1) (suc c.args.place) c.bytes-in-Pgetrs-3.result.now c.in-Pgetrs.b c.distribution_of-in-Pgetrs-2.ensures (omega arith) c.bytes-in-Pgetrs-3.ensures h.1

pub pgetrs_steps-requires-clause-small_columns : goal.pgetrs_steps-requires-clause-small_columns
pgetrs_steps-requires-clause-small_columns c =
    let e = command_at-from_OnLine c.args.script.now c.args.place _ (c.requires.there ∙ ap (λ x. Some (Some x)) c.in-Pgetrs.is) in
    let h = pgetrs_kept c.args.script.now (suc c.args.place) _ _ _ _ _ _ _ _ _ _ c.requires.rules e in
    h.2

pub pgemr2d_steps-requires-clause-in_range : goal.pgemr2d_steps-requires-clause-in_range
pgemr2d_steps-requires-clause-in_range c =
    let e = command_at-from_OnLine c.args.script.now c.args.place _ (c.requires.there ∙ ap (λ x. Some (Some x)) c.in-Pgemr2d.is) in
    let h = pgemr2d_kept c.args.script.now (suc c.args.place) _ _ _ _ _ _ _ _ _ c.requires.rules e in
    as_distribution c.distribution_of-in-Pgemr2d.result (commands_of c.args.script.now) (c.args.place + 1) (suc c.args.place) c.bytes-in-Pgemr2d.result.now c.in-Pgemr2d.a c.distribution_of-in-Pgemr2d.ensures (omega arith) c.bytes-in-Pgemr2d.ensures h.0

pub pgemr2d_steps-requires-clause-other_in_range : goal.pgemr2d_steps-requires-clause-other_in_range
pgemr2d_steps-requires-clause-other_in_range c =
    let e = command_at-from_OnLine c.args.script.now c.args.place _ (c.requires.there ∙ ap (λ x. Some (Some x)) c.in-Pgemr2d.is) in
    let h = pgemr2d_kept c.args.script.now (suc c.args.place) _ _ _ _ _ _ _ _ _ c.requires.rules e in
    as_distribution c.distribution_of-in-Pgemr2d-2.result (commands_of c.args.script.now) (c.args.place + 1) (suc c.args.place) c.bytes-in-Pgemr2d-2.result.now c.in-Pgemr2d.b c.distribution_of-in-Pgemr2d-2.ensures (omega arith) c.bytes-in-Pgemr2d-2.ensures h.1

pub pgemr2d_steps-requires-clause-rows : goal.pgemr2d_steps-requires-clause-rows
pgemr2d_steps-requires-clause-rows c =
    let e = command_at-from_OnLine c.args.script.now c.args.place _ (c.requires.there ∙ ap (λ x. Some (Some x)) c.in-Pgemr2d.is) in
    let h = pgemr2d_kept c.args.script.now (suc c.args.place) _ _ _ _ _ _ _ _ _ c.requires.rules e in
    h.2

pub pgemr2d_steps-requires-clause-few_rows : goal.pgemr2d_steps-requires-clause-few_rows
pgemr2d_steps-requires-clause-few_rows c =
    let e = command_at-from_OnLine c.args.script.now c.args.place _ (c.requires.there ∙ ap (λ x. Some (Some x)) c.in-Pgemr2d.is) in
    let h = pgemr2d_kept c.args.script.now (suc c.args.place) _ _ _ _ _ _ _ _ _ c.requires.rules e in
    h.3

pub pgemr2d_steps-requires-clause-columns : goal.pgemr2d_steps-requires-clause-columns
pgemr2d_steps-requires-clause-columns c =
    let e = command_at-from_OnLine c.args.script.now c.args.place _ (c.requires.there ∙ ap (λ x. Some (Some x)) c.in-Pgemr2d.is) in
    let h = pgemr2d_kept c.args.script.now (suc c.args.place) _ _ _ _ _ _ _ _ _ c.requires.rules e in
    h.4

pub pgemr2d_steps-requires-clause-few_columns : goal.pgemr2d_steps-requires-clause-few_columns
pgemr2d_steps-requires-clause-few_columns c =
    let e = command_at-from_OnLine c.args.script.now c.args.place _ (c.requires.there ∙ ap (λ x. Some (Some x)) c.in-Pgemr2d.is) in
    let h = pgemr2d_kept c.args.script.now (suc c.args.place) _ _ _ _ _ _ _ _ _ c.requires.rules e in
    h.5

pub ptran_steps-requires-clause-in_range : goal.ptran_steps-requires-clause-in_range
ptran_steps-requires-clause-in_range c =
    let e = command_at-from_OnLine c.args.script.now c.args.place _ (c.requires.there ∙ ap (λ x. Some (Some x)) c.in-Ptran.is) in
    let h = ptran_kept c.args.script.now (suc c.args.place) _ _ _ _ _ _ _ _ _ _ c.requires.rules e in
    as_distribution c.distribution_of-in-Ptran.result (commands_of c.args.script.now) (c.args.place + 1) (suc c.args.place) c.bytes-in-Ptran.result.now c.in-Ptran.a c.distribution_of-in-Ptran.ensures (omega arith) c.bytes-in-Ptran.ensures h.0

pub ptran_steps-requires-clause-other_in_range : goal.ptran_steps-requires-clause-other_in_range
ptran_steps-requires-clause-other_in_range c =
    let e = command_at-from_OnLine c.args.script.now c.args.place _ (c.requires.there ∙ ap (λ x. Some (Some x)) c.in-Ptran.is) in
    let h = ptran_kept c.args.script.now (suc c.args.place) _ _ _ _ _ _ _ _ _ _ c.requires.rules e in
    as_distribution c.distribution_of-in-Ptran-2.result (commands_of c.args.script.now) (c.args.place + 1) (suc c.args.place) c.bytes-in-Ptran-2.result.now c.in-Ptran.c c.distribution_of-in-Ptran-2.ensures (omega arith) c.bytes-in-Ptran-2.ensures h.1

pub ptran_steps-requires-clause-few_rows : goal.ptran_steps-requires-clause-few_rows
ptran_steps-requires-clause-few_rows c =
    let e = command_at-from_OnLine c.args.script.now c.args.place _ (c.requires.there ∙ ap (λ x. Some (Some x)) c.in-Ptran.is) in
    let h = ptran_kept c.args.script.now (suc c.args.place) _ _ _ _ _ _ _ _ _ _ c.requires.rules e in
    h.2

pub ptran_steps-requires-clause-few_columns : goal.ptran_steps-requires-clause-few_columns
ptran_steps-requires-clause-few_columns c =
    let e = command_at-from_OnLine c.args.script.now c.args.place _ (c.requires.there ∙ ap (λ x. Some (Some x)) c.in-Ptran.is) in
    let h = ptran_kept c.args.script.now (suc c.args.place) _ _ _ _ _ _ _ _ _ _ c.requires.rules e in
    h.3

pub pgetri_steps-requires-clause-in_range : goal.pgetri_steps-requires-clause-in_range
pgetri_steps-requires-clause-in_range c =
    let e = command_at-from_OnLine c.args.script.now c.args.place _ (c.requires.there ∙ ap (λ x. Some (Some x)) c.in-Pgetri.is) in
    let h = pgetri_kept c.args.script.now (suc c.args.place) _ _ _ _ _ _ _ _ c.requires.rules e in
    as_distribution c.distribution_of-in-Pgetri.result (commands_of c.args.script.now) (c.args.place + 1) (suc c.args.place) c.bytes-in-Pgetri.result.now c.in-Pgetri.a c.distribution_of-in-Pgetri.ensures (omega arith) c.bytes-in-Pgetri.ensures h.0

pub pgetri_steps-requires-clause-other_in_range : goal.pgetri_steps-requires-clause-other_in_range
pgetri_steps-requires-clause-other_in_range c =
    let e = command_at-from_OnLine c.args.script.now c.args.place _ (c.requires.there ∙ ap (λ x. Some (Some x)) c.in-Pgetri.is) in
    let h = pgetri_kept c.args.script.now (suc c.args.place) _ _ _ _ _ _ _ _ c.requires.rules e in
    as_distribution c.distribution_of-in-Pgetri-2.result (commands_of c.args.script.now) (c.args.place + 1) (suc c.args.place) c.bytes-in-Pgetri-2.result.now c.in-Pgetri.b c.distribution_of-in-Pgetri-2.ensures (omega arith) c.bytes-in-Pgetri-2.ensures h.1

pub pgetri_steps-requires-clause-small_columns : goal.pgetri_steps-requires-clause-small_columns
pgetri_steps-requires-clause-small_columns c =
    let e = command_at-from_OnLine c.args.script.now c.args.place _ (c.requires.there ∙ ap (λ x. Some (Some x)) c.in-Pgetri.is) in
    let h = pgetri_kept c.args.script.now (suc c.args.place) _ _ _ _ _ _ _ _ c.requires.rules e in
    h.2

pub pverify_steps-requires-clause-in_range : goal.pverify_steps-requires-clause-in_range
pverify_steps-requires-clause-in_range c =
    let e = command_at-from_OnLine c.args.script.now c.args.place _ (c.requires.there ∙ ap (λ x. Some (Some x)) c.in-Pverify.is) in
    let h = pverify_kept c.args.script.now (suc c.args.place) _ c.requires.rules e in
    as_distribution c.distribution_of-in-Pverify.result (commands_of c.args.script.now) (c.args.place + 1) (suc c.args.place) c.bytes-in-Pverify.result.now c.in-Pverify.name c.distribution_of-in-Pverify.ensures (omega arith) c.bytes-in-Pverify.ensures h
