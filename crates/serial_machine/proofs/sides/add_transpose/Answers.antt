use Rattle.std.proofs.Common.{refl, ◌∙◌, arith}
use Rattle.run_data.proofs.Fills.{fill_starts, fill_goes_on, fill_ends_column, fill_ends, fill_reads_next}
use Rattle.serial_machine.proofs.Whole.{IsWithin-whole, whole_filled}
use Rattle.serial_machine.proofs.Turned.{adds_word}
use Rattle.serial_machine.proofs.sides.add_transpose.Goals as goal

pub loop-j-init : goal.loop-j-init
loop-j-init g c = fill_starts _ _ _ c.rows-shaped.ensures.shaped

pub mul-requires-in-loop-i-clause-right : goal.mul-requires-in-loop-i-clause-right
mul-requires-in-loop-i-clause-right g c =
    rw (fill_reads_next _ _ _ _ _ _ _ c.loop-i.invariant c.get-word.ensures (IsWithin-whole _ _ _ c.all_of-all.ensures refl refl) (omega arith) (omega arith)) (c.requires.c_words.below c.loop-i.i c.loop-j.j)

pub loop-i-preserved : goal.loop-i-preserved
loop-i-preserved g c =
    fill_goes_on _ _ _ _ _ _ _ _ c.loop-i.invariant c.set.ensures (omega arith) (omega arith) (omega arith) (omega arith)
    (let word = fill_reads_next _ _ _ _ _ _ _ c.loop-i.invariant c.get-word.ensures (IsWithin-whole _ _ _ c.all_of-all.ensures refl refl) (omega arith) (omega arith) in
    adds_word _ _ _ _ _ _ _ _ (rw c.get-other.ensures at c.mul.ensures) (rw word at c.mul-in-loop-i.ensures) c.add.ensures)

pub loop-j-preserved : goal.loop-j-preserved
loop-j-preserved g c = c.loop-i.invariant ∙ fill_ends_column _ _ _ _ _ (omega arith)

pub returns : goal.returns
returns g c = whole_filled _ _ _ _ c.all_of-all.ensures (c.loop-j.invariant ∙ fill_ends _ _ _ _ _ (omega arith))
