-- A setting that a run on ranks may have is as that of a script is.
use Rattle.std.proofs.Common.{◌≡◌, ◌+◌, ◌*◌, ◌<◌, ◌≤◌, is_some, ℕ, true, false, Option, Some, None, refl, arith}
use Rattle.std.specs.Prelude.{unwrap_or}
use Rattle.std.proofs.Math.Nat.{mul-le-mul_left}
use Rattle.blacs_grid.specs.Places.{width}
use Rattle.rank_machine.specs.declared.layout.Layout.{Layout}
use Rattle.rank_machine.specs.Setting.{Setting, job, no_layout, is_matrix}
use Rattle.script_lines.specs.Layouts.{IsLayout}
use Rattle.script_lines.specs.Sound.{IsSound}
use Rattle.run_laws.specs.LastCommit.{IsScripted}

product : (p q f : ℕ) → 1 ≤ p → 1 ≤ q → 0 < p * (q + f)
product p q f a b =
    let wide : 1 ≤ q + f = omega arith in
    let all : p * 1 ≤ p * (q + f) = mul-le-mul_left p wide in
    omega (arith, all)

some_ranks_on : (made : Option Layout) → (is_some made ≡ true → IsLayout (unwrap_or made no_layout)) → 0 < (unwrap_or made no_layout).grid.p * width (unwrap_or made no_layout).grid
some_ranks_on None laid_out = omega arith
some_ranks_on (Some d) laid_out = let h = laid_out refl in product d.grid.p d.grid.q d.grid.f h.grid.some_rows h.grid.some_columns

pub IsScripted-sound : (p : ℕ) (s : Setting) → IsSound p s → is_matrix s 0 ≡ false → IsScripted s
IsScripted-sound p s sound no_line = record { no_line = no_line; some_ranks = λ line. some_ranks_on (job s line).makes (sound.layouts line) }
