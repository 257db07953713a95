-- A setting that a run on ranks asks for is sensible.
use Rattle.std.proofs.Common.{◌≡◌, ℕ, ◌<◌, true, false, Option, Some, None, is_some, refl, sym, subst, arith}
use Rattle.std.specs.Prelude.{unwrap_or}
use Rattle.run_data.specs.Matrix.{AreWords}
use Rattle.rank_machine.specs.declared.mark.Mark.{Mark}
use Rattle.rank_machine.specs.declared.layout.Layout.{Layout}
use Rattle.rank_machine.specs.Setting.{Setting, job, no_layout, factored}
use Rattle.rank_machine.specs.Effect.{is_live_matrix}
use Rattle.script_lines.specs.Layouts.{IsLayout}
use Rattle.script_lines.specs.Sound.{IsSound}
use Rattle.recovery_laws.specs.Healed.{IsSensible}

no_layout-is : IsLayout no_layout
no_layout-is = record {
  grid = record { some_rows = omega arith; rows = omega arith; some_columns = omega arith; columns = omega arith; code_columns = omega arith; ranks = omega arith };
  desc = record {
    dense = refl;
    some_rows = omega arith;
    rows = omega arith;
    some_columns = omega arith;
    columns = omega arith;
    some_block_rows = omega arith;
    block_rows = omega arith;
    some_block_columns = omega arith;
    block_columns = omega arith;
    row_source = omega arith;
    column_source = omega arith;
    local_rows = refl;
  };
}

by_maker : (made : Option Layout) → (is_some made ≡ true → IsLayout (unwrap_or made no_layout)) → IsLayout (unwrap_or made no_layout)
by_maker None h = no_layout-is
by_maker (Some d) h = h refl

pub sensible-from_sound : (p : ℕ) (s : Setting) → IsSound p s → 0 < p → factored s 0 ≡ 0
    → ((mark : Mark) → mark.ended ≡ false → 0 < factored s mark.line → is_live_matrix s mark (factored s mark.line) ≡ true) → IsSensible s
sensible-from_sound p s sound pos no_list live =
    record {
      some_residue = subst (λ n. 0 < n) (sym sound.modulus) pos;
      files = λ line is. subst (λ n. AreWords n (s.files line)) (sym sound.modulus) (sound.files line is);
      no_list = no_list;
      grids = λ line. (by_maker (job s line).makes (λ is. sound.layouts line is)).grid;
      descs = λ line. (by_maker (job s line).makes (λ is. sound.layouts line is)).desc;
      factors_live = live;
    }
