use Rattle.std.proofs.Common.{◌∙◌, ap, sym}
use Rattle.rank_machine.specs.declared.slot.Tile.TheVariants.{Words}
use Rattle.rank_machine.specs.declared.kernel.Kernel.TheVariants as k
use Rattle.script_lines.specs.Lines.{setting_on}
use Rattle.rank_slots.specs.Cells.{tiles_in}
use Rattle.rank_slots.proofs.CellWords.{on_ok}
use Rattle.rank_memory.proofs.Changes.{fit_of, made_of, copy_fit_to, copy_made_to, part_of_words, scale_fit, scale_made, add_fit, add_made, product_fit, product_made, lower_fit, lower_made, upper_fit, upper_made, elim_fit, elim_made}
use Rattle.rank_memory.proofs.changed.change_words.Goals as goal

pub copy_from-requires-clause-pair : goal.copy_from-requires-clause-pair
copy_from-requires-clause-pair g c =
    (copy_fit_to g.K.Field.MODULUS (setting_on g.K.Field.MODULUS c.args.table.now) c.args.rank (tiles_in c.args.cells.now) c.args.dst.now c.in-Copy.to c.in-Copy.from (part_of_words c.args.kernel.now c.in-Copy.to c.in-Copy.from c.in-Copy.is c.requires.words) (fit_of g.K.Field.MODULUS (setting_on g.K.Field.MODULUS c.args.table.now) c.args.rank (tiles_in c.args.cells.now) (Words c.args.dst.now) c.args.kernel.now (k.Copy c.in-Copy.to c.in-Copy.from) c.in-Copy.is c.requires.fit)).0

pub copy_from-requires-clause-shape : goal.copy_from-requires-clause-shape
copy_from-requires-clause-shape g c =
    (copy_fit_to g.K.Field.MODULUS (setting_on g.K.Field.MODULUS c.args.table.now) c.args.rank (tiles_in c.args.cells.now) c.args.dst.now c.in-Copy.to c.in-Copy.from (part_of_words c.args.kernel.now c.in-Copy.to c.in-Copy.from c.in-Copy.is c.requires.words) (fit_of g.K.Field.MODULUS (setting_on g.K.Field.MODULUS c.args.table.now) c.args.rank (tiles_in c.args.cells.now) (Words c.args.dst.now) c.args.kernel.now (k.Copy c.in-Copy.to c.in-Copy.from) c.in-Copy.is c.requires.fit)).1

pub returns-in-Copy : goal.returns-in-Copy
returns-in-Copy g c =
    ap Words c.copy_from.ensures
    ∙ sym (copy_made_to (setting_on g.K.Field.MODULUS c.args.table.now) c.args.rank (tiles_in c.args.cells.now) c.args.dst.now c.in-Copy.to c.in-Copy.from (part_of_words c.args.kernel.now c.in-Copy.to c.in-Copy.from c.in-Copy.is c.requires.words) (fit_of g.K.Field.MODULUS (setting_on g.K.Field.MODULUS c.args.table.now) c.args.rank (tiles_in c.args.cells.now) (Words c.args.dst.now) c.args.kernel.now (k.Copy c.in-Copy.to c.in-Copy.from) c.in-Copy.is c.requires.fit).apart (copy_fit_to g.K.Field.MODULUS (setting_on g.K.Field.MODULUS c.args.table.now) c.args.rank (tiles_in c.args.cells.now) c.args.dst.now c.in-Copy.to c.in-Copy.from (part_of_words c.args.kernel.now c.in-Copy.to c.in-Copy.from c.in-Copy.is c.requires.words) (fit_of g.K.Field.MODULUS (setting_on g.K.Field.MODULUS c.args.table.now) c.args.rank (tiles_in c.args.cells.now) (Words c.args.dst.now) c.args.kernel.now (k.Copy c.in-Copy.to c.in-Copy.from) c.in-Copy.is c.requires.fit)).0.from_held)
    ∙ made_of (setting_on g.K.Field.MODULUS c.args.table.now) c.args.rank (tiles_in c.args.cells.now) (Words c.args.dst.now) c.args.kernel.now (k.Copy c.in-Copy.to c.in-Copy.from) c.in-Copy.is

pub scale_words-requires-clause-dst_in : goal.scale_words-requires-clause-dst_in
scale_words-requires-clause-dst_in g c =
    (scale_fit g.K.Field.MODULUS (setting_on g.K.Field.MODULUS c.args.table.now) c.args.rank (tiles_in c.args.cells.now) c.args.dst.now c.in-Scale.to c.in-Scale.a (fit_of g.K.Field.MODULUS (setting_on g.K.Field.MODULUS c.args.table.now) c.args.rank (tiles_in c.args.cells.now) (Words c.args.dst.now) c.args.kernel.now (k.Scale c.in-Scale.to c.in-Scale.a) c.in-Scale.is c.requires.fit)).inside

pub scale_words-requires-clause-factor : goal.scale_words-requires-clause-factor
scale_words-requires-clause-factor g c =
    (scale_fit g.K.Field.MODULUS (setting_on g.K.Field.MODULUS c.args.table.now) c.args.rank (tiles_in c.args.cells.now) c.args.dst.now c.in-Scale.to c.in-Scale.a (fit_of g.K.Field.MODULUS (setting_on g.K.Field.MODULUS c.args.table.now) c.args.rank (tiles_in c.args.cells.now) (Words c.args.dst.now) c.args.kernel.now (k.Scale c.in-Scale.to c.in-Scale.a) c.in-Scale.is c.requires.fit)).factor

pub scale_words-requires-clause-dst_words : goal.scale_words-requires-clause-dst_words
scale_words-requires-clause-dst_words g c =
    c.requires.dst_words.words

pub returns-in-Scale : goal.returns-in-Scale
returns-in-Scale g c =
    ap Words c.scale_words.ensures ∙ sym (scale_made (setting_on g.K.Field.MODULUS c.args.table.now) c.args.rank (tiles_in c.args.cells.now) c.args.dst.now c.in-Scale.to c.in-Scale.a)
    ∙ made_of (setting_on g.K.Field.MODULUS c.args.table.now) c.args.rank (tiles_in c.args.cells.now) (Words c.args.dst.now) c.args.kernel.now (k.Scale c.in-Scale.to c.in-Scale.a) c.in-Scale.is

pub add_from-requires-clause-fit : goal.add_from-requires-clause-fit
add_from-requires-clause-fit g c =
    let f = add_fit g.K.Field.MODULUS (setting_on g.K.Field.MODULUS c.args.table.now) c.args.rank (tiles_in c.args.cells.now) c.args.dst.now c.in-Add.to c.in-Add.a c.in-Add.from c.in-Add.cut (fit_of g.K.Field.MODULUS (setting_on g.K.Field.MODULUS c.args.table.now) c.args.rank (tiles_in c.args.cells.now) (Words c.args.dst.now) c.args.kernel.now (k.Add c.in-Add.to c.in-Add.a c.in-Add.from c.in-Add.cut) c.in-Add.is c.requires.fit) in
    record { pair = f.pair; shape = f.shape; placed = f.placed; factor = f.factor }

pub returns-in-Add : goal.returns-in-Add
returns-in-Add g c =
    ap Words c.add_from.ensures ∙ sym (add_made (setting_on g.K.Field.MODULUS c.args.table.now) c.args.rank (tiles_in c.args.cells.now) c.args.dst.now c.in-Add.to c.in-Add.a c.in-Add.from c.in-Add.cut (fit_of g.K.Field.MODULUS (setting_on g.K.Field.MODULUS c.args.table.now) c.args.rank (tiles_in c.args.cells.now) (Words c.args.dst.now) c.args.kernel.now (k.Add c.in-Add.to c.in-Add.a c.in-Add.from c.in-Add.cut) c.in-Add.is c.requires.fit).apart)
    ∙ made_of (setting_on g.K.Field.MODULUS c.args.table.now) c.args.rank (tiles_in c.args.cells.now) (Words c.args.dst.now) c.args.kernel.now (k.Add c.in-Add.to c.in-Add.a c.in-Add.from c.in-Add.cut) c.in-Add.is

pub multiply_from-requires-clause-fit : goal.multiply_from-requires-clause-fit
multiply_from-requires-clause-fit g c =
    product_fit g.K.Field.MODULUS (setting_on g.K.Field.MODULUS c.args.table.now) c.args.rank (tiles_in c.args.cells.now) c.args.dst.now c.in-MulAdd.to c.in-MulAdd.a c.in-MulAdd.left c.in-MulAdd.right (fit_of g.K.Field.MODULUS (setting_on g.K.Field.MODULUS c.args.table.now) c.args.rank (tiles_in c.args.cells.now) (Words c.args.dst.now) c.args.kernel.now (k.MulAdd c.in-MulAdd.to c.in-MulAdd.a c.in-MulAdd.left c.in-MulAdd.right) c.in-MulAdd.is c.requires.fit)

pub returns-in-MulAdd : goal.returns-in-MulAdd
returns-in-MulAdd g c =
    ap Words c.multiply_from.ensures ∙ sym (product_made (setting_on g.K.Field.MODULUS c.args.table.now) c.args.rank (tiles_in c.args.cells.now) c.args.dst.now c.in-MulAdd.to c.in-MulAdd.a c.in-MulAdd.left c.in-MulAdd.right (fit_of g.K.Field.MODULUS (setting_on g.K.Field.MODULUS c.args.table.now) c.args.rank (tiles_in c.args.cells.now) (Words c.args.dst.now) c.args.kernel.now (k.MulAdd c.in-MulAdd.to c.in-MulAdd.a c.in-MulAdd.left c.in-MulAdd.right) c.in-MulAdd.is c.requires.fit).apart)
    ∙ made_of (setting_on g.K.Field.MODULUS c.args.table.now) c.args.rank (tiles_in c.args.cells.now) (Words c.args.dst.now) c.args.kernel.now (k.MulAdd c.in-MulAdd.to c.in-MulAdd.a c.in-MulAdd.left c.in-MulAdd.right) c.in-MulAdd.is

pub solve_lower_from-requires-clause-fit : goal.solve_lower_from-requires-clause-fit
solve_lower_from-requires-clause-fit g c =
    lower_fit g.K.Field.MODULUS (setting_on g.K.Field.MODULUS c.args.table.now) c.args.rank (tiles_in c.args.cells.now) c.args.dst.now c.in-Lower.to c.in-Lower.block c.in-Lower.unit (fit_of g.K.Field.MODULUS (setting_on g.K.Field.MODULUS c.args.table.now) c.args.rank (tiles_in c.args.cells.now) (Words c.args.dst.now) c.args.kernel.now (k.Lower c.in-Lower.to c.in-Lower.block c.in-Lower.unit) c.in-Lower.is c.requires.fit)

pub returns-in-Lower : goal.returns-in-Lower
returns-in-Lower g c =
    ap Words c.solve_lower_from.ensures ∙ sym (lower_made (setting_on g.K.Field.MODULUS c.args.table.now) c.args.rank (tiles_in c.args.cells.now) c.args.dst.now c.in-Lower.to c.in-Lower.block c.in-Lower.unit (fit_of g.K.Field.MODULUS (setting_on g.K.Field.MODULUS c.args.table.now) c.args.rank (tiles_in c.args.cells.now) (Words c.args.dst.now) c.args.kernel.now (k.Lower c.in-Lower.to c.in-Lower.block c.in-Lower.unit) c.in-Lower.is c.requires.fit).apart)
    ∙ made_of (setting_on g.K.Field.MODULUS c.args.table.now) c.args.rank (tiles_in c.args.cells.now) (Words c.args.dst.now) c.args.kernel.now (k.Lower c.in-Lower.to c.in-Lower.block c.in-Lower.unit) c.in-Lower.is

pub solve_upper_from-requires-clause-fit : goal.solve_upper_from-requires-clause-fit
solve_upper_from-requires-clause-fit g c =
    upper_fit g.K.Field.MODULUS (setting_on g.K.Field.MODULUS c.args.table.now) c.args.rank (tiles_in c.args.cells.now) c.args.dst.now c.in-Upper.to c.in-Upper.block c.in-Upper.unit (fit_of g.K.Field.MODULUS (setting_on g.K.Field.MODULUS c.args.table.now) c.args.rank (tiles_in c.args.cells.now) (Words c.args.dst.now) c.args.kernel.now (k.Upper c.in-Upper.to c.in-Upper.block c.in-Upper.unit) c.in-Upper.is c.requires.fit)

pub returns-in-Upper : goal.returns-in-Upper
returns-in-Upper g c =
    ap Words c.solve_upper_from.ensures ∙ sym (upper_made (setting_on g.K.Field.MODULUS c.args.table.now) c.args.rank (tiles_in c.args.cells.now) c.args.dst.now c.in-Upper.to c.in-Upper.block c.in-Upper.unit (fit_of g.K.Field.MODULUS (setting_on g.K.Field.MODULUS c.args.table.now) c.args.rank (tiles_in c.args.cells.now) (Words c.args.dst.now) c.args.kernel.now (k.Upper c.in-Upper.to c.in-Upper.block c.in-Upper.unit) c.in-Upper.is c.requires.fit).apart)
    ∙ made_of (setting_on g.K.Field.MODULUS c.args.table.now) c.args.rank (tiles_in c.args.cells.now) (Words c.args.dst.now) c.args.kernel.now (k.Upper c.in-Upper.to c.in-Upper.block c.in-Upper.unit) c.in-Upper.is

pub eliminate_from-requires-clause-fit : goal.eliminate_from-requires-clause-fit
eliminate_from-requires-clause-fit g c =
    let f = elim_fit g.K.Field.MODULUS (setting_on g.K.Field.MODULUS c.args.table.now) c.args.rank (tiles_in c.args.cells.now) c.args.dst.now c.in-Elim.to c.in-Elim.j c.in-Elim.above c.in-Elim.row (fit_of g.K.Field.MODULUS (setting_on g.K.Field.MODULUS c.args.table.now) c.args.rank (tiles_in c.args.cells.now) (Words c.args.dst.now) c.args.kernel.now (k.Elim c.in-Elim.to c.in-Elim.j c.in-Elim.above c.in-Elim.row) c.in-Elim.is c.requires.fit) in
    record { row_held = f.row_held; row_inside = f.row_inside; shape = f.shape; pivot = f.pivot; placed = f.placed }

pub returns-in-Elim : goal.returns-in-Elim
returns-in-Elim g c =
    on_ok c.eliminate_from.result _ _
    (λ e. ap Words e ∙ sym (elim_made (setting_on g.K.Field.MODULUS c.args.table.now) c.args.rank (tiles_in c.args.cells.now) c.args.dst.now c.in-Elim.to c.in-Elim.j c.in-Elim.above c.in-Elim.row (fit_of g.K.Field.MODULUS (setting_on g.K.Field.MODULUS c.args.table.now) c.args.rank (tiles_in c.args.cells.now) (Words c.args.dst.now) c.args.kernel.now (k.Elim c.in-Elim.to c.in-Elim.j c.in-Elim.above c.in-Elim.row) c.in-Elim.is c.requires.fit).apart)
    ∙ made_of (setting_on g.K.Field.MODULUS c.args.table.now) c.args.rank (tiles_in c.args.cells.now) (Words c.args.dst.now) c.args.kernel.now (k.Elim c.in-Elim.to c.in-Elim.j c.in-Elim.above c.in-Elim.row) c.in-Elim.is)
    c.eliminate_from.ensures

pub add_from-requires-clause-sound : goal.add_from-requires-clause-sound
add_from-requires-clause-sound g c = c.requires.sound

pub add_from-requires-clause-residues : goal.add_from-requires-clause-residues
add_from-requires-clause-residues g c = c.requires.residues

pub add_from-requires-clause-dst_words : goal.add_from-requires-clause-dst_words
add_from-requires-clause-dst_words g c = c.requires.dst_words

pub multiply_from-requires-clause-residues : goal.multiply_from-requires-clause-residues
multiply_from-requires-clause-residues g c = c.requires.residues

pub multiply_from-requires-clause-dst_words : goal.multiply_from-requires-clause-dst_words
multiply_from-requires-clause-dst_words g c = c.requires.dst_words

pub solve_lower_from-requires-clause-residues : goal.solve_lower_from-requires-clause-residues
solve_lower_from-requires-clause-residues g c = c.requires.residues

pub solve_lower_from-requires-clause-dst_words : goal.solve_lower_from-requires-clause-dst_words
solve_lower_from-requires-clause-dst_words g c = c.requires.dst_words

pub solve_upper_from-requires-clause-residues : goal.solve_upper_from-requires-clause-residues
solve_upper_from-requires-clause-residues g c = c.requires.residues

pub solve_upper_from-requires-clause-dst_words : goal.solve_upper_from-requires-clause-dst_words
solve_upper_from-requires-clause-dst_words g c = c.requires.dst_words

pub eliminate_from-requires-clause-sound : goal.eliminate_from-requires-clause-sound
eliminate_from-requires-clause-sound g c = c.requires.sound

pub eliminate_from-requires-clause-residues : goal.eliminate_from-requires-clause-residues
eliminate_from-requires-clause-residues g c = c.requires.residues

pub eliminate_from-requires-clause-dst_words : goal.eliminate_from-requires-clause-dst_words
eliminate_from-requires-clause-dst_words g c = c.requires.dst_words
