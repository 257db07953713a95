use Rattle.std.proofs.Common.{ℕ, List, get_or, Option, Some, None, ◌∙◌}
use Rattle.run_data.specs.declared.command.Command.{Command}
use Rattle.run_data.specs.declared.command.Command.TheVariants as command
use Rattle.script_words.specs.Commands.{word_at, flip_of}
use Rattle.script_words.proofs.Numbering.{made_of}
use Rattle.script_words.proofs.commands.flip_of.Goals as goal

abbrev made : (name ns : List ℕ) → Option Command
made name ns = Some (command.Flip name (get_or ns 0 0) (get_or ns 1 0) (get_or ns 2 0))

pub returns-in_default : goal.returns-in_default
unfolding flip_of
returns-in_default c = made_of _ (made (word_at c.args.words.now 1)) None c.in_default.ensures

pub returns : goal.returns
unfolding flip_of
returns c =
    (λ i. made (c.in_ok-name.ensures i) c.in-Some.numbers)
    ∙ made_of _ (made (word_at c.args.words.now 1)) (Some c.in-Some.numbers) c.in-Some.ensures
