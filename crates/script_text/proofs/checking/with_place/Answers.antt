use Rattle.std.proofs.Common.{get_or, ap, ◌∙◌}
use Rattle.script_text.proofs.Places.{counted-some, counted-none}
use Rattle.script_text.proofs.checking.with_place.Goals as goal

pub returns-in-Some-clause-counted : goal.returns-in-Some-clause-counted
returns-in-Some-clause-counted c =
    counted-some c.args.script.now c.args.place _ c.in-Some.command c.with_command.result c.requires.within
    (c.index-as_slice-place.is ∙ ap (λ ls. get_or ls c.args.place c.index-as_slice-place.result) c.as_slice.ensures) c.in-Some.is c.with_command.ensures.counted

pub returns-in-None-clause-counted : goal.returns-in-None-clause-counted
returns-in-None-clause-counted c =
    counted-none c.args.script.now c.args.place _ c.args.counts c.requires.within
    (c.index-as_slice-place.is ∙ ap (λ ls. get_or ls c.args.place c.index-as_slice-place.result) c.as_slice.ensures) c.in-None.is c.requires.counts
