use Rattle.std.proofs.Common.{◌<◌, length, ap, ◌∙◌, rules}
use Rattle.serial_machine.specs.Values.{place_in}
use Rattle.serial_machine.proofs.Entries.{value_left}
use Rattle.serial_machine.proofs.values.Values.take.Goals as goal

pub returns-then-at-len-clause-after : goal.returns-then-at-len-clause-after
returns-then-at-len-clause-after c =
    let lt : c.place_of-at.result < length c.args.self.now.entries.items = search rules in
    value_left _ _ _ _ _ _ (c.place_of-at.ensures ∙ ap (λ es. place_in es c.args.name.now) c.deref.ensures.value) lt c.index_mut.ensures.value c.take.ensures.after
