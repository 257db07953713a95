use Rattle.rank_machine.specs.Effect.{area}
use Rattle.rank_memory.proofs.Areas.{within_at, multiplies_at, product_at}
use Rattle.rank_memory.proofs.words.multiply_words.Goals as goal

pub mul_add-requires-clause-dst_part : goal.mul_add-requires-clause-dst_part
mul_add-requires-clause-dst_part g c = within_at _ _ c.args.dst.now c.area_of-at.ensures c.requires.dst_in

pub mul_add-requires-clause-left_part : goal.mul_add-requires-clause-left_part
mul_add-requires-clause-left_part g c = within_at _ _ c.args.left.now c.area_of.ensures c.requires.left_in

pub mul_add-requires-clause-right_part : goal.mul_add-requires-clause-right_part
mul_add-requires-clause-right_part g c = within_at _ _ c.args.right.now c.area_of-2.ensures c.requires.right_in

pub mul_add-requires-clause-shapes : goal.mul_add-requires-clause-shapes
mul_add-requires-clause-shapes g c =
    multiplies_at _ (area c.args.to c.args.dst.now) _ (area c.args.lp c.args.left.now) _ (area c.args.rp c.args.right.now) c.area_of-at.ensures c.area_of.ensures c.area_of-2.ensures c.requires.shape

pub mul_add-requires-clause-factor : goal.mul_add-requires-clause-factor
mul_add-requires-clause-factor g c = c.requires.factor

pub mul_add-requires-clause-dst_words : goal.mul_add-requires-clause-dst_words
mul_add-requires-clause-dst_words g c = c.requires.dst_words

pub mul_add-requires-clause-left_words : goal.mul_add-requires-clause-left_words
mul_add-requires-clause-left_words g c = c.requires.left_words

pub mul_add-requires-clause-right_words : goal.mul_add-requires-clause-right_words
mul_add-requires-clause-right_words g c = c.requires.right_words

pub returns : goal.returns
returns g c =
    product_at g.K.Field.MODULUS c.mul_add.new.dst c.args.dst.now _ _ c.args.a c.args.left.now _ _ c.args.right.now _ _ c.area_of-at.ensures c.area_of.ensures c.area_of-2.ensures c.mul_add.ensures
