-- The commands that are left, and what the names mean by those before.
use Rattle.std.proofs.Common.{◌≡◌, ℕ, ◌<◌, ◌≤◌, Bool, List, [], ◌∷◌, Option, Some, None, refl, ap, ◌∙◌, arith}
use Rattle.std.specs.Prelude.{if◌then◌else◌}
use Rattle.std.proofs.lemmas.Bool.{lt-ltb, le-ltb, ne_eqb}
use Rattle.run_data.specs.Script.{Numbered, command_at, maker_after, maker_from, maker}
use Rattle.script_recovery.proofs.GridsAt.{LinesRise}

pub record IsLeft (ns rest : List Numbered) (bound : ℕ) (known : List ℕ → Option ℕ) : Type 0 where
  pub makers : (line : ℕ) (name : List ℕ) → bound < line → maker ns line name ≡ maker_from rest line name (known name)
  pub commands : (line : ℕ) → bound < line → command_at ns line ≡ command_at rest line

pub all_left : (ns : List Numbered) → IsLeft ns ns 0 (λ name. None)
all_left ns = record { makers = λ line name lt. refl; commands = λ line lt. refl }

pub next_left : (ns more : List Numbered) (n : Numbered) (bound : ℕ) (known : List ℕ → Option ℕ) → LinesRise bound (n ∷ more) → IsLeft ns (n ∷ more) bound known
    → IsLeft ns more n.line (λ name. maker_after n name (known name))
next_left ns more n bound known rise left = record {
  makers = λ line name lt.
      left.makers line name (omega (arith, rise.0))
      ∙ ap (λ (b : Bool). maker_from more line name (if b then maker_after n name (known name) else known name)) (lt-ltb n.line line lt);
  commands = λ line lt.
      left.commands line (omega (arith, rise.0))
      ∙ ap (λ (b : Bool). if b then Some n.command else command_at more line) (ne_eqb n.line line (λ e. omega arith));
}

maker_from-past : (more : List Numbered) (line bound : ℕ) (name : List ℕ) (before : Option ℕ) → line ≤ bound → LinesRise bound more → maker_from more line name before ≡ before
maker_from-past [] line bound name before le rise = refl
maker_from-past (m ∷ ms) line bound name before le rise =
    ap (λ (b : Bool). maker_from ms line name (if b then maker_after m name before else before)) (le-ltb m.line line (omega (arith, rise.0)))
    ∙ maker_from-past ms line m.line name before (omega (arith, rise.0)) rise.1

pub maker-here : (ns more : List Numbered) (n : Numbered) (bound : ℕ) (known : List ℕ → Option ℕ) (name : List ℕ) → LinesRise bound (n ∷ more) → IsLeft ns (n ∷ more) bound known → maker ns n.line name ≡ known name
maker-here ns more n bound known name rise left =
    left.makers n.line name rise.0
    ∙ ap (λ (b : Bool). maker_from more n.line name (if b then maker_after n name (known name) else known name)) (le-ltb n.line n.line (omega arith))
    ∙ maker_from-past more n.line n.line name (known name) (omega arith) rise.1
