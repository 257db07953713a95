use Rattle.std.proofs.Common.{◌≡◌, is_some, ap, ◌∙◌}
use Rattle.rank_machine.specs.Effect.{is_live_list}
use Rattle.script_lines.specs.Lines.{setting_on}
use Rattle.dist_matrix.specs.Site.{setting_in, list_shape, list_under}
use Rattle.dist_matrix.specs.SiteFields.{view_of}
use Rattle.dist_matrix.proofs.SiteLaws.{some-if, list_under-on}
use Rattle.dist_matrix.proofs.site.Site.list.Goals as goal

pub returns : goal.returns
returns c =
    let v = c.args.self.now in
    let line = c.args.line in
    let value : c.list_in.result ≡ list_under (setting_in v) v.mark line =
    c.list_in.ensures ∙ ap (λ t. list_under (setting_on 0 t) c.self.inside.mark line) c.deref.ensures.value
    ∙ list_under-on (view_of c.self.inside) c.self.inside.table.items c.self.invariant.table_is c.self.inside.mark line
    ∙ ap (λ w. list_under (setting_in w) w.mark line) c.self.view_is in
    record {
      value = value;
      none_elsewhere = ap is_some value ∙ some-if (is_live_list (setting_in v) v.mark line) (list_shape (setting_in v) line);
    }
