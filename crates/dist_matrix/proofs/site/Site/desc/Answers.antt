use Rattle.std.proofs.Common.{◌≡◌, ◌&&◌, not, Bool, Some, is_some, ap, subst, sym, ◌∙◌}
use Rattle.std.specs.Prelude.{IfSome}
use Rattle.array_desc.specs.declared.Desc.{Desc}
use Rattle.rank_machine.specs.Setting.{layout, is_matrix, grid_numbered}
use Rattle.rank_machine.specs.Effect.{has_ended, is_dropped}
use Rattle.script_lines.specs.Layouts.{IsLayout}
use Rattle.script_lines.specs.Lines.{setting_on}
use Rattle.dist_matrix.specs.Site.{setting_in, shape_of, desc_under}
use Rattle.dist_matrix.specs.SiteFields.{view_of}
use Rattle.dist_matrix.proofs.SiteLaws.{some-if, if-some, if-is, if-fewer, desc_under-on, layout-sound, on_grid-shape}
use Rattle.dist_matrix.proofs.site.Site.desc.Goals as goal

pub returns : goal.returns
returns c =
    let v = c.args.self.now in
    let line = c.args.line in
    let value : c.desc_in.result ≡ desc_under (setting_in v) v.mark line =
    c.desc_in.ensures ∙ ap (λ t. desc_under (setting_on 0 t) c.self.inside.mark line) c.deref.ensures.value
    ∙ desc_under-on (view_of c.self.inside) c.self.inside.table.items c.self.invariant.table_is c.self.inside.mark line
    ∙ ap (λ w. desc_under (setting_in w) w.mark line) c.self.view_is in
    let sound : IsLayout (layout (setting_in v) line) =
    subst (λ w. IsLayout (layout (setting_in w) line)) c.self.view_is
    (layout-sound (view_of c.self.inside) c.self.inside.table.items c.self.invariant.table_is c.self.invariant.sound line) in
    let d : Desc = (layout (setting_in v) line).desc in
    let made : Bool = is_matrix (setting_in v) line in
    let ended : Bool = has_ended v.mark line in
    let kept : Bool = not (is_dropped (setting_in v) v.mark line) in
    let on_grid : Desc → Type 0 = λ x. (layout (setting_in v) line).grid ≡ grid_numbered (setting_in v) x.ctxt in
    let has_shape : Desc → Type 0 = λ x. shape_of (setting_in v) line ≡ Some x in
    record {
      value = value;
      none_elsewhere = ap is_some value ∙ some-if ((made && ended) && kept) d;
      shape = subst (λ o. IfSome o has_shape) (sym value) (if-fewer made ended kept d has_shape (if-is made d));
      laid_out = subst (λ o. IfSome o (λ _. IsLayout (layout (setting_in v) line))) (sym value)
          (if-some ((made && ended) && kept) d (λ _. IsLayout (layout (setting_in v) line)) sound);
      on_grid = subst (λ o. IfSome o on_grid) (sym value) (if-fewer made ended kept d on_grid (on_grid-shape v line));
    }
