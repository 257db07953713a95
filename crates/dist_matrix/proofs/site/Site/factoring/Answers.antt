use Rattle.std.proofs.Common.{◌≡◌, is_some, ap, ◌∙◌}
use Rattle.rank_machine.specs.Setting.{factored}
use Rattle.script_lines.specs.Lines.{setting_on}
use Rattle.dist_matrix.specs.Site.{setting_in, factoring_under}
use Rattle.dist_matrix.specs.SiteFields.{view_of}
use Rattle.dist_matrix.proofs.SiteLaws.{factoring_under-on, factoring-some}
use Rattle.dist_matrix.proofs.site.Site.factoring.Goals as goal

pub returns : goal.returns
returns c =
    let v = c.args.self.now in
    let value : c.factoring_in.result ≡ factoring_under (setting_in v) v.mark =
    c.factoring_in.ensures ∙ ap (λ t. factoring_under (setting_on 0 t) c.self.inside.mark) c.deref.ensures.value
    ∙ factoring_under-on (view_of c.self.inside) c.self.inside.table.items c.self.invariant.table_is c.self.inside.mark
    ∙ ap (λ w. factoring_under (setting_in w) w.mark) c.self.view_is in
    record {
      value = value;
      none_elsewhere = ap is_some value ∙ factoring-some v.mark.ended (factored (setting_in v) v.mark.line) v.mark.line;
    }
