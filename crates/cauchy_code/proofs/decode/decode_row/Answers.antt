use Rattle.std.proofs.Common.{◌≡◌, ◌≢◌, ◌<◌, false, take, sym, ap, ◌∙◌, subst, arith}
use Rattle.std.specs.List.{AllByRecursion}
use Rattle.std.proofs.lemmas.List.{get_or-take}
use Rattle.field_core.specs.Residue.{inverse}
use Rattle.cauchy_code.specs.Solving.{lost_but}
use Rattle.cauchy_code.proofs.Law.{lost_but-bounds}
use Rattle.cauchy_code.proofs.Decodes.{room, decodes_as}
use Rattle.cauchy_code.proofs.Inverses.{small_inverse}
use Rattle.cauchy_code.proofs.OnlyOne.{length-decoding, only_one}
use Rattle.cauchy_code.proofs.decode.decode_row.Goals as goal

pub solve-requires-clause-room : goal.solve-requires-clause-room
solve-requires-clause-room g c =
    let columns : c.deref.result.now ≡ lost_but c.args.which 0 (take c.args.q c.args.lost.now) = c.deref.ensures.value ∙ c.in_ok-columns.ensures ∙ ap (lost_but c.args.which 0) c.split_at.ensures.front in
    rw (columns, c.split_at.ensures.back)
    (room c.args.q c.args.f c.args.which c.args.lost.now c.requires.symbols c.requires.few_lost c.requires.data_column
    (get_or-take c.args.q c.args.lost.now c.args.which false c.requires.data_column ∙ c.requires.which_lost))

pub solve-requires-clause-columns : goal.solve-requires-clause-columns
solve-requires-clause-columns g c =
    let columns : c.deref.result.now ≡ lost_but c.args.which 0 c.split_at.result.0.now = c.deref.ensures.value ∙ c.in_ok-columns.ensures in
    subst (λ ys. AllByRecursion (λ y. (y < c.args.q) × (y ≢ c.args.which)) ys) (sym columns)
    (lost_but-bounds c.args.which c.args.q 0 c.split_at.result.0.now (omega (arith, c.split_at.ensures.front_len)))

pub returns : goal.returns
returns g c =
    let here = decodes_as g.K.Field.MODULUS (inverse g.K.Field.MODULUS) c.args.q c.args.f c.args.which c.args.lost.now c.split_at.result.0.now c.split_at.result.1.now c.deref.result.now
    c.in_ok-code.code.items c.deref-2.result.now c.deref-3.result.now c.in_ok-items.items.items c.extend_from_slice.new.self.items
    (omega (arith, g.met.K.Field.at_least)) c.requires.symbols c.requires.data_column c.requires.which_lost c.split_at.ensures.front c.split_at.ensures.back
    (c.deref.ensures.value ∙ c.in_ok-columns.ensures) c.in_ok-code.ensures c.deref-2.ensures.value c.deref-3.ensures.value c.in_ok-items.ensures c.in_ok-extend_from_slice.ensures.items in
    record {
      symbols = length-decoding g.K.Field.MODULUS (inverse g.K.Field.MODULUS) c.args.q c.args.f c.args.which c.args.lost.now c.extend_from_slice.new.self.items c.requires.symbols here;
      decodes = here;
      only = λ other d. only_one g.K.Field.MODULUS (inverse g.K.Field.MODULUS) (small_inverse g.K.Field.MODULUS g.met.K.Field.at_least g.met.K.Field.is_field) c.args.q c.args.f c.args.which c.args.lost.now other c.extend_from_slice.new.self.items
          (omega (arith, g.met.K.Field.at_least)) (omega arith) c.requires.symbols d here;
    }
