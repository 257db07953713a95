use Rattle.std.proofs.Common.{◌≡◌, ap, ◌∙◌}
use Rattle.rank_machine.specs.Setting.{layout}
use Rattle.script_lines.specs.Lines.{setting_on}
use Rattle.script_lines.proofs.TableLaws.{layout_on}
use Rattle.dist_matrix.specs.Site.{setting_in}
use Rattle.dist_matrix.specs.SiteFields.{view_of}
use Rattle.dist_matrix.proofs.site.Site.layout.Goals as goal

pub returns : goal.returns
returns c =
    let line = c.args.line in
    let value : c.layout_at.result ≡ layout (setting_in c.args.self.now) line =
    c.layout_at.ensures.value ∙ ap (λ t. layout (setting_on 0 t) line) c.deref.ensures.value
    ∙ layout_on (setting_in (view_of c.self.inside)) c.self.inside.table.items 0 c.self.invariant.table_is line
    ∙ ap (λ w. layout (setting_in w) line) c.self.view_is in
    record { value = value; laid_out = c.layout_at.ensures.sound }
