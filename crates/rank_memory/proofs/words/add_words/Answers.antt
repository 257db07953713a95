use Rattle.rank_machine.specs.Effect.{slot_of}
use Rattle.script_lines.specs.Lines.{setting_on}
use Rattle.rank_memory.proofs.Areas.{within_at, shape_at, upper_placed, lower_placed, added_whole, added_upper, added_lower}
use Rattle.rank_memory.proofs.words.add_words.Goals as goal

pub add_scaled-requires-clause-dst_part : goal.add_scaled-requires-clause-dst_part
add_scaled-requires-clause-dst_part g c = within_at _ _ c.args.dst.now c.area_of-at.ensures c.requires.dst_in

pub add_scaled-requires-clause-src_part : goal.add_scaled-requires-clause-src_part
add_scaled-requires-clause-src_part g c = within_at _ _ c.args.src.now c.area_of-sp.ensures c.requires.src_in

pub add_scaled-requires-clause-shape : goal.add_scaled-requires-clause-shape
add_scaled-requires-clause-shape g c = shape_at _ _ _ _ c.area_of-at.ensures c.area_of-sp.ensures c.requires.shape

pub add_scaled-requires-clause-factor : goal.add_scaled-requires-clause-factor
add_scaled-requires-clause-factor g c = c.requires.factor

pub add_scaled-requires-clause-dst_words : goal.add_scaled-requires-clause-dst_words
add_scaled-requires-clause-dst_words g c = c.requires.dst_words

pub add_scaled-requires-clause-src_words : goal.add_scaled-requires-clause-src_words
add_scaled-requires-clause-src_words g c = c.requires.src_words

pub add_in_triangle-requires-clause-sound : goal.add_in_triangle-requires-clause-sound
add_in_triangle-requires-clause-sound g c = c.requires.sound

pub add_in_triangle-requires-clause-placed : goal.add_in_triangle-requires-clause-placed
add_in_triangle-requires-clause-placed g c =
    upper_placed (setting_on 0 c.args.table.now) c.args.rank c.slot.result (slot_of c.args.to) c.args.cut c.in-Upper.block c.slot.ensures c.in-Upper.is c.requires.placed

pub add_in_triangle-requires-clause-dst_part : goal.add_in_triangle-requires-clause-dst_part
add_in_triangle-requires-clause-dst_part g c = within_at _ _ c.args.dst.now c.area_of-at.ensures c.requires.dst_in

pub add_in_triangle-requires-clause-src_part : goal.add_in_triangle-requires-clause-src_part
add_in_triangle-requires-clause-src_part g c = within_at _ _ c.args.src.now c.area_of-sp.ensures c.requires.src_in

pub add_in_triangle-requires-clause-shape : goal.add_in_triangle-requires-clause-shape
add_in_triangle-requires-clause-shape g c = shape_at _ _ _ _ c.area_of-at.ensures c.area_of-sp.ensures c.requires.shape

pub add_in_triangle-requires-clause-factor : goal.add_in_triangle-requires-clause-factor
add_in_triangle-requires-clause-factor g c = c.requires.factor

pub add_in_triangle-requires-clause-dst_words : goal.add_in_triangle-requires-clause-dst_words
add_in_triangle-requires-clause-dst_words g c = c.requires.dst_words

pub add_in_triangle-requires-clause-src_words : goal.add_in_triangle-requires-clause-src_words
add_in_triangle-requires-clause-src_words g c = c.requires.src_words

pub add_in_triangle-requires-in-Lower-clause-sound : goal.add_in_triangle-requires-in-Lower-clause-sound
add_in_triangle-requires-in-Lower-clause-sound g c = c.requires.sound

pub add_in_triangle-requires-in-Lower-clause-placed : goal.add_in_triangle-requires-in-Lower-clause-placed
add_in_triangle-requires-in-Lower-clause-placed g c =
    lower_placed (setting_on 0 c.args.table.now) c.args.rank c.slot-in-Lower.result (slot_of c.args.to) c.args.cut c.in-Lower.block c.slot-in-Lower.ensures c.in-Lower.is c.requires.placed

pub add_in_triangle-requires-in-Lower-clause-dst_part : goal.add_in_triangle-requires-in-Lower-clause-dst_part
add_in_triangle-requires-in-Lower-clause-dst_part g c = within_at _ _ c.args.dst.now c.area_of-at.ensures c.requires.dst_in

pub add_in_triangle-requires-in-Lower-clause-src_part : goal.add_in_triangle-requires-in-Lower-clause-src_part
add_in_triangle-requires-in-Lower-clause-src_part g c = within_at _ _ c.args.src.now c.area_of-sp.ensures c.requires.src_in

pub add_in_triangle-requires-in-Lower-clause-shape : goal.add_in_triangle-requires-in-Lower-clause-shape
add_in_triangle-requires-in-Lower-clause-shape g c = shape_at _ _ _ _ c.area_of-at.ensures c.area_of-sp.ensures c.requires.shape

pub add_in_triangle-requires-in-Lower-clause-factor : goal.add_in_triangle-requires-in-Lower-clause-factor
add_in_triangle-requires-in-Lower-clause-factor g c = c.requires.factor

pub add_in_triangle-requires-in-Lower-clause-dst_words : goal.add_in_triangle-requires-in-Lower-clause-dst_words
add_in_triangle-requires-in-Lower-clause-dst_words g c = c.requires.dst_words

pub add_in_triangle-requires-in-Lower-clause-src_words : goal.add_in_triangle-requires-in-Lower-clause-src_words
add_in_triangle-requires-in-Lower-clause-src_words g c = c.requires.src_words

pub returns-in-Whole : goal.returns-in-Whole
returns-in-Whole g c =
    added_whole g.K.Field.MODULUS (setting_on 0 c.args.table.now) c.args.rank (slot_of c.args.to) c.args.cut c.add_scaled.new.dst c.args.dst.now _ _ c.args.a c.args.src.now _ _ c.area_of-at.ensures c.area_of-sp.ensures c.in-Whole.is c.add_scaled.ensures

pub returns-in-Upper : goal.returns-in-Upper
returns-in-Upper g c =
    added_upper g.K.Field.MODULUS (setting_on 0 c.args.table.now) c.args.rank c.slot.result (slot_of c.args.to) c.args.cut c.in-Upper.block c.add_in_triangle.new.dst c.args.dst.now _ _ c.args.a c.args.src.now _ _ c.area_of-at.ensures c.area_of-sp.ensures c.slot.ensures
    c.in-Upper.is c.add_in_triangle.ensures

pub returns-in-Lower : goal.returns-in-Lower
returns-in-Lower g c =
    added_lower g.K.Field.MODULUS (setting_on 0 c.args.table.now) c.args.rank c.slot-in-Lower.result (slot_of c.args.to) c.args.cut c.in-Lower.block c.add_in_triangle-in-Lower.new.dst c.args.dst.now _ _ c.args.a c.args.src.now _ _ c.area_of-at.ensures c.area_of-sp.ensures c.slot-in-Lower.ensures
    c.in-Lower.is c.add_in_triangle-in-Lower.ensures
