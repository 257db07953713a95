use Rattle.std.proofs.Common.{◌≡◌, Option, is_some, ap, subst, sym, ◌∙◌}
use Rattle.std.specs.Prelude.{IfSome}
use Rattle.array_desc.specs.declared.Desc.{Desc}
use Rattle.rank_machine.specs.Setting.{layout, is_matrix, grid_numbered}
use Rattle.script_lines.specs.Layouts.{IsLayout}
use Rattle.script_lines.specs.Lines.{setting_on}
use Rattle.dist_matrix.specs.Site.{setting_in, shape_of}
use Rattle.dist_matrix.specs.SiteFields.{view_of}
use Rattle.dist_matrix.proofs.SiteLaws.{some-if, if-some, shape_of-on, layout-sound, is_matrix-line, on_grid-shape}
use Rattle.dist_matrix.proofs.site.Site.shape.Goals as goal

pub returns : goal.returns
returns c =
    let v = c.args.self.now in
    let line = c.args.line in
    let value : c.shape_in.result ≡ shape_of (setting_in v) line =
    c.shape_in.ensures ∙ ap (λ t. shape_of (setting_on 0 t) line) c.deref.ensures.value
    ∙ shape_of-on (view_of c.self.inside) c.self.inside.table.items c.self.invariant.table_is line
    ∙ ap (λ w. shape_of (setting_in w) line) c.self.view_is in
    let sound : IsLayout (layout (setting_in v) line) =
    subst (λ w. IsLayout (layout (setting_in w) line)) c.self.view_is
    (layout-sound (view_of c.self.inside) c.self.inside.table.items c.self.invariant.table_is c.self.invariant.sound line) in
    let d : Desc = (layout (setting_in v) line).desc in
    record {
      value = value;
      none_elsewhere = ap is_some value ∙ some-if (is_matrix (setting_in v) line) d ∙ is_matrix-line v line;
      laid_out = subst (λ o. IfSome o (λ _. IsLayout (layout (setting_in v) line))) (sym value)
          (if-some (is_matrix (setting_in v) line) d (λ _. IsLayout (layout (setting_in v) line)) sound);
      on_grid = subst (λ (o : Option Desc). IfSome o (λ x. (layout (setting_in v) line).grid ≡ grid_numbered (setting_in v) x.ctxt)) (sym value) (on_grid-shape v line);
    }
