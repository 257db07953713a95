use Rattle.std.proofs.Common.{ℕ, List, get_or, Option, Some, None, ◌∙◌}
use Rattle.run_data.specs.declared.command.Command.{Command}
use Rattle.run_data.specs.declared.command.Command.TheVariants as command
use Rattle.script_words.specs.Commands.{word_at, matrix_of}
use Rattle.script_words.proofs.Numbering.{made_of}
use Rattle.script_words.proofs.commands.matrix_of.Goals as goal

abbrev made : (name grid file ns : List ℕ) → Option Command
made name grid file ns = Some (command.Matrix name grid (get_or ns 0 0) (get_or ns 1 0) (get_or ns 2 0) (get_or ns 3 0) (get_or ns 4 0) (get_or ns 5 0) file)

pub returns-in_default : goal.returns-in_default
unfolding matrix_of
returns-in_default c = made_of _ (made (word_at c.args.words.now 1) (word_at c.args.words.now 2) (word_at c.args.words.now 9)) None c.in_default.ensures

pub returns : goal.returns
unfolding matrix_of
returns c =
    (λ i. made (c.in_ok-name.ensures.first i) (c.in_ok-name.ensures.second i) (c.in_ok-name.ensures.third i) c.in-Some.numbers)
    ∙ made_of _ (made (word_at c.args.words.now 1) (word_at c.args.words.now 2) (word_at c.args.words.now 9)) (Some c.in-Some.numbers) c.in-Some.ensures
