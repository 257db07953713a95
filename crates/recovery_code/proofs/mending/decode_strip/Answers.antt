use Rattle.std.proofs.Common.{◌∙◌, ap, arith, length, not, false}
use Rattle.std.specs.Prelude.{slice_index_or}
use Rattle.recovery_laws.proofs.Decoded.{length-helpers}
use Rattle.recovery_laws.proofs.Totals.{helper-data}
use Rattle.recovery_code.proofs.mending.decode_strip.Goals as goal

pub gain_helpers-requires-clause-columns : goal.gain_helpers-requires-clause-columns
gain_helpers-requires-clause-columns g c =
    let n = c.requires.columns in
    ap length (c.deref.ensures.value ∙ c.in_ok-helping.ensures) ∙ (length-helpers c.args.place.layout.grid.q c.args.lost.now (omega (arith, n)) ∙ n)

pub gain_helpers-requires-clause-not_itself : goal.gain_helpers-requires-clause-not_itself
gain_helpers-requires-clause-not_itself g c =
    let n = c.requires.columns in
    ap (λ v. slice_index_or v c.args.which false) (c.deref.ensures.value ∙ c.in_ok-helping.ensures) ∙ (helper-data c.args.place.layout.grid.q c.args.which c.args.lost.now (omega (arith, n)) c.requires.which_in ∙ ap not c.requires.which_lost)
