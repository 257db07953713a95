use Rattle.std.proofs.Common.{Some, ap, suc, ◌∙◌, arith}
use Rattle.script_bounds.proofs.Limits.{limits_of_grid, command_at-from_OnLine}
use Rattle.script_bounds.proofs.Sizes.{ranks-few}
use Rattle.script_bounds.proofs.recovery.ranks_made.Goals as goal

pub overflow_mul-result : goal.overflow_mul-result
overflow_mul-result c =
    let e = command_at-from_OnLine c.args.script.now c.args.place _ (c.requires.there ∙ ap (λ x. Some (Some x)) c.in-Grid.is) in
    let h = limits_of_grid c.args.script.now (suc c.args.place) _ _ _ _ c.requires.rules e in
    let few = ranks-few c.from.result c.from-in-Grid.result c.from-in-Grid-2.result (omega (arith, h.rows, c.from.ensures)) (omega (arith, h.columns, c.from-in-Grid.ensures)) (omega (arith, h.code_columns, c.from-in-Grid-2.ensures)) in
    omega (arith, few)

pub returns-in-Grid-clause-few : goal.returns-in-Grid-clause-few
returns-in-Grid-clause-few c =
    let e = command_at-from_OnLine c.args.script.now c.args.place _ (c.requires.there ∙ ap (λ x. Some (Some x)) c.in-Grid.is) in
    let h = limits_of_grid c.args.script.now (suc c.args.place) _ _ _ _ c.requires.rules e in
    ranks-few c.from.result c.from-in-Grid.result c.from-in-Grid-2.result (omega (arith, h.rows, c.from.ensures)) (omega (arith, h.columns, c.from-in-Grid.ensures)) (omega (arith, h.code_columns, c.from-in-Grid-2.ensures))
