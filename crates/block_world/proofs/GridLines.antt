-- The grid of a line at which a loop over a script's lines stands.
use Rattle.std.proofs.Common.{◌≡◌, ◌+◌, ◌*◌, ◌≤◌, ◌<◌, ℕ, suc, List, ◌∷◌, length, drop, get_or, Option, Some, sym, ap, subst, ◌∙◌, arith}
use Rattle.std.proofs.Math.Seq.{drop-cons}
use Rattle.run_data.specs.declared.command.Command.{Command}
use Rattle.run_data.specs.declared.command.Command.TheVariants.{Grid}
use Rattle.run_data.specs.Script.{commands_from}
use Rattle.blacs_grid.specs.Limits.{IsGrid}
use Rattle.rank_machine.specs.Scripts.{grids_from}
use Rattle.script_lines.specs.Layouts.{AreGrids}

module _ (lines : List (Option Command)) (i ranks : ℕ) (name : List ℕ) (p q f : ℕ) (line : Option Command) (command : Command) (within : i < length lines) (read : line ≡ get_or lines i line) (is : line ≡ Some command) (made : command ≡ Grid name p q f) (sound : AreGrids (grids_from ranks (commands_from (suc i) (drop i lines)))) where
  here : drop i lines ≡ Some (Grid name p q f) ∷ drop (suc i) lines
  here = drop-cons lines i line within ∙ ap (λ x. x ∷ drop (suc i) lines) (sym read ∙ is ∙ ap Some made)

  grid : IsGrid (record { p = p; q = q; f = f; first = ranks })
  grid = (subst (λ l. AreGrids (grids_from ranks (commands_from (suc i) l))) here sound).0

  pub few_columns : q + f ≤ 64
  few_columns = let g = grid in omega (arith, g.columns, g.code_columns)

  pub few_ranks : ranks + p * (q + f) ≤ 64
  few_ranks = let g = grid in omega (arith, g.ranks)
