use Rattle.std.proofs.Common.{refl, sym}
use Rattle.serial_machine.proofs.Whole.{IsWithin-whole, shapes_multiply, rows-scaled, cols-scaled, words-scaled, product-is, some_modulus}
use Rattle.serial_machine.proofs.product.multiply.Goals as goal

pub scale-requires-clause-dst_part : goal.scale-requires-clause-dst_part
scale-requires-clause-dst_part g c = IsWithin-whole _ _ _ c.all_of-all.ensures refl refl

pub mul_add-requires-clause-dst_part : goal.mul_add-requires-clause-dst_part
mul_add-requires-clause-dst_part g c = IsWithin-whole _ _ _ c.all_of-all.ensures (sym (rows-scaled _ _ _ _ _ c.scale.ensures)) (sym (cols-scaled _ _ _ _ _ c.scale.ensures))

pub mul_add-requires-clause-left_part : goal.mul_add-requires-clause-left_part
mul_add-requires-clause-left_part g c = IsWithin-whole _ _ _ c.all_of-left.ensures refl refl

pub mul_add-requires-clause-right_part : goal.mul_add-requires-clause-right_part
mul_add-requires-clause-right_part g c = IsWithin-whole _ _ _ c.all_of-right.ensures refl refl

pub mul_add-requires-clause-shapes : goal.mul_add-requires-clause-shapes
mul_add-requires-clause-shapes g c =
    shapes_multiply _ _ _ _ _ _ c.all_of-all.ensures c.all_of-left.ensures c.all_of-right.ensures c.requires.rows c.requires.columns c.requires.inner

pub mul_add-requires-clause-dst_words : goal.mul_add-requires-clause-dst_words
mul_add-requires-clause-dst_words g c = words-scaled _ _ _ _ _ (some_modulus _ g.met.K.Field.at_least) c.requires.c_words c.scale.ensures

pub returns : goal.returns
returns g c = product-is _ _ _ _ _ _ _ _ _ _ _ c.all_of-all.ensures c.all_of-left.ensures c.all_of-right.ensures c.scale.ensures c.mul_add.ensures
