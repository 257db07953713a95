use Rattle.std.proofs.Common.{◌≡◌, ◌+◌, ◌*◌, ◌%◌, ap, ◌∙◌}
use Rattle.field_core.proofs.Modular.{residues}
use Rattle.rank_memory.proofs.kernels.gain.Goals as goal

pub returns-then-reached : goal.returns-then-reached
returns-then-reached g c =
    rw c.if-reached.true
    (c.add.ensures ∙ ap (λ t. (c.args.word + t) % g.K.Field.MODULUS) c.mul.ensures
    ∙ (let e : (c.args.word + (c.args.a * c.args.other) % g.K.Field.MODULUS) % g.K.Field.MODULUS ≡ (c.args.word + c.args.a * c.args.other) % g.K.Field.MODULUS = simp residues in e))
