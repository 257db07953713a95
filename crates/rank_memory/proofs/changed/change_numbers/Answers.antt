use Rattle.std.proofs.Common.{◌≡◌, ◌∙◌, sym, subst}
use Rattle.std.specs.Prelude.{IfOk}
use Rattle.rank_machine.specs.declared.slot.Tile.{Tile}
use Rattle.rank_machine.specs.declared.kernel.Kernel.TheVariants as k
use Rattle.script_lines.specs.Lines.{setting_on}
use Rattle.rank_slots.specs.Cells.{tiles_in}
use Rattle.rank_memory.proofs.Changes.{fit_of, made_of, least_fit, least_made, push_fit, push_made}
use Rattle.rank_memory.proofs.changed.change_numbers.Goals as goal

pub least_from-requires : goal.least_from-requires
least_from-requires g c =
    least_fit g.K.Field.MODULUS (setting_on g.K.Field.MODULUS c.args.table.now) c.args.rank (tiles_in c.args.cells.now) c.args.tile c.in-Least._to c.in-Least.from (fit_of g.K.Field.MODULUS (setting_on g.K.Field.MODULUS c.args.table.now) c.args.rank (tiles_in c.args.cells.now) c.args.tile c.args.kernel.now (k.Least c.in-Least._to c.in-Least.from) c.in-Least.is c.requires.fit)

pub returns-in-Least : goal.returns-in-Least
returns-in-Least g c =
    subst (λ (v : Tile). IfOk c.least_from.result (λ (t : Tile). t ≡ v))
    (sym (least_made (setting_on g.K.Field.MODULUS c.args.table.now) c.args.rank (tiles_in c.args.cells.now) c.args.tile c.in-Least._to c.in-Least.from (fit_of g.K.Field.MODULUS (setting_on g.K.Field.MODULUS c.args.table.now) c.args.rank (tiles_in c.args.cells.now) c.args.tile c.args.kernel.now (k.Least c.in-Least._to c.in-Least.from) c.in-Least.is c.requires.fit).apart) ∙ made_of (setting_on g.K.Field.MODULUS c.args.table.now) c.args.rank (tiles_in c.args.cells.now) c.args.tile c.args.kernel.now (k.Least c.in-Least._to c.in-Least.from) c.in-Least.is)
    c.least_from.ensures

pub push_from-requires : goal.push_from-requires
push_from-requires g c =
    push_fit g.K.Field.MODULUS (setting_on g.K.Field.MODULUS c.args.table.now) c.args.rank (tiles_in c.args.cells.now) c.args.tile c.in-Push._to c.in-Push.from c.in-Push.above (fit_of g.K.Field.MODULUS (setting_on g.K.Field.MODULUS c.args.table.now) c.args.rank (tiles_in c.args.cells.now) c.args.tile c.args.kernel.now (k.Push c.in-Push._to c.in-Push.from c.in-Push.above) c.in-Push.is c.requires.fit)

pub returns-in-Push : goal.returns-in-Push
returns-in-Push g c =
    subst (λ (v : Tile). IfOk c.push_from.result (λ (t : Tile). t ≡ v))
    (sym (push_made (setting_on g.K.Field.MODULUS c.args.table.now) c.args.rank (tiles_in c.args.cells.now) c.args.tile c.in-Push._to c.in-Push.from c.in-Push.above (fit_of g.K.Field.MODULUS (setting_on g.K.Field.MODULUS c.args.table.now) c.args.rank (tiles_in c.args.cells.now) c.args.tile c.args.kernel.now (k.Push c.in-Push._to c.in-Push.from c.in-Push.above) c.in-Push.is c.requires.fit).apart) ∙ made_of (setting_on g.K.Field.MODULUS c.args.table.now) c.args.rank (tiles_in c.args.cells.now) c.args.tile c.args.kernel.now (k.Push c.in-Push._to c.in-Push.from c.in-Push.above) c.in-Push.is)
    c.push_from.ensures
