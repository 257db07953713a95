use Rattle.std.proofs.Common.{◌+◌, ◌<◌, ◌≤◌, add-one, sym, ap, subst, ◌∙◌, arith}
use Rattle.run_data.specs.Script.{commands_of, command_at}
use Rattle.dist_matrix.specs.Site.{SiteView}
use Rattle.pblas.specs.Groups.{IsProduct}
use Rattle.pblas.proofs.Loop.{topology-told, product-told, groups-told, starts, grid-told, few-lines, at-group_here, all-groups}
use Rattle.pblas.proofs.products.pgemm.Goals as goal

pub overflow_add-done : goal.overflow_add-done
overflow_add-done g c = omega (arith, few-lines c.args.script.now c.args.world.now.files c.args.done c.args.world.now c.args.out.now c.requires.rules c.requires.sound c.requires.before c.requires.line)

pub product_on-product-requires-clause-line : goal.product_on-product-requires-clause-line
product_on-product-requires-clause-line g c = subst (λ k. IsProduct (command_at (commands_of c.args.script.now) k)) (sym (add-one c.args.done)) c.requires.line

pub product_on-product-requires-clause-topology : goal.product_on-product-requires-clause-topology
product_on-product-requires-clause-topology g c =
    topology-told c.args.script.now c.args.world.now.files c.args.done (c.args.done + 1) c.args.site.now c.args.topology (add-one c.args.done) (ap (λ (v : SiteView). v.script) c.requires.site_is ∙ c.requires.before.script_is) c.requires.topology

pub groups-group-end-requires-clause-block_size : goal.groups-group-end-requires-clause-block_size
groups-group-end-requires-clause-block_size g c =
    let told = product-told c.args.script.now c.args.world.now.files c.args.done (c.args.done + 1) c.args.site.now c.product_on-product.result (add-one c.args.done) (ap (λ (v : SiteView). v.script) c.requires.site_is ∙ c.requires.before.script_is) c.product_on-product.ensures in
    let grid = grid-told c.args.script.now c.args.world.now.files c.args.done c.args.world.now c.args.out.now c.requires.rules c.requires.sound c.requires.before c.requires.line c.product_on-product.result (told c.requires.line) in
    omega (arith, grid.c.some_block_columns)

pub groups-group-end-requires-clause-process_columns : goal.groups-group-end-requires-clause-process_columns
groups-group-end-requires-clause-process_columns g c =
    let told = product-told c.args.script.now c.args.world.now.files c.args.done (c.args.done + 1) c.args.site.now c.product_on-product.result (add-one c.args.done) (ap (λ (v : SiteView). v.script) c.requires.site_is ∙ c.requires.before.script_is) c.product_on-product.ensures in
    let grid = grid-told c.args.script.now c.args.world.now.files c.args.done c.args.world.now c.args.out.now c.requires.rules c.requires.sound c.requires.before c.requires.line c.product_on-product.result (told c.requires.line) in
    omega (arith, grid.grid.some_columns)

pub loop-group-init : goal.loop-group-init
loop-group-init g c = starts c.args.script.now c.args.world.now.files c.args.done c.args.world.now c.args.out.now c.requires.rules c.requires.sound c.requires.before c.requires.line c.args.site.now c.requires.site_is

pub multiply_next-requires-clause-before : goal.multiply_next-requires-clause-before
multiply_next-requires-clause-before g c =
    let script = c.args.script.now in
    let files = c.args.world.now.files in
    let told = product-told script files c.args.done (c.args.done + 1) c.args.site.now c.product_on-product.result (add-one c.args.done) (ap (λ (v : SiteView). v.script) c.requires.site_is ∙ c.requires.before.script_is) c.product_on-product.ensures in
    let count = groups-told script files c.args.done c.product_on-product.result c.groups-group-end.result c.requires.line.alpha c.requires.line.beta (told c.requires.line) c.groups-group-end.ensures.value in
    (at-group_here script files c.args.done c.loop-group.group c.loop-group.world c.loop-group.site c.args.out.now c.loop-group.invariant (subst (λ n. c.loop-group.group < n) count c.loop-group-test.true)).0

pub multiply_next-requires-clause-inside : goal.multiply_next-requires-clause-inside
multiply_next-requires-clause-inside g c =
    let script = c.args.script.now in
    let files = c.args.world.now.files in
    let told = product-told script files c.args.done (c.args.done + 1) c.args.site.now c.product_on-product.result (add-one c.args.done) (ap (λ (v : SiteView). v.script) c.requires.site_is ∙ c.requires.before.script_is) c.product_on-product.ensures in
    let count = groups-told script files c.args.done c.product_on-product.result c.groups-group-end.result c.requires.line.alpha c.requires.line.beta (told c.requires.line) c.groups-group-end.ensures.value in
    (at-group_here script files c.args.done c.loop-group.group c.loop-group.world c.loop-group.site c.args.out.now c.loop-group.invariant (subst (λ n. c.loop-group.group < n) count c.loop-group-test.true)).1

pub multiply_next-requires-clause-product : goal.multiply_next-requires-clause-product
multiply_next-requires-clause-product g c =
    product-told c.args.script.now c.loop-group.world.files c.args.done (c.args.done + 1) c.args.site.now c.product_on-product.result (add-one c.args.done) (ap (λ (v : SiteView). v.script) c.requires.site_is ∙ c.requires.before.script_is) c.product_on-product.ensures

pub returns-clause-ran : goal.returns-clause-ran
returns-clause-ran g c =
    let script = c.args.script.now in
    let files = c.args.world.now.files in
    let told = product-told script files c.args.done (c.args.done + 1) c.args.site.now c.product_on-product.result (add-one c.args.done) (ap (λ (v : SiteView). v.script) c.requires.site_is ∙ c.requires.before.script_is) c.product_on-product.ensures in
    let count = groups-told script files c.args.done c.product_on-product.result c.groups-group-end.result c.requires.line.alpha c.requires.line.beta (told c.requires.line) c.groups-group-end.ensures.value in
    all-groups script files c.args.done c.loop-group.group c.loop-group.world c.loop-group.site c.args.out.now c.loop-group.invariant (subst (λ n. n ≤ c.loop-group.group) count c.loop-group-test.false)
