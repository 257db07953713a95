use Rattle.std.proofs.Common.{ℕ, List, get_or, Option, Some, None, ◌∙◌}
use Rattle.run_data.specs.declared.command.Command.{Command}
use Rattle.run_data.specs.declared.command.Command.TheVariants as command
use Rattle.script_words.specs.Commands.{word_at, pgetri_of}
use Rattle.script_words.proofs.Numbering.{made_of}
use Rattle.script_words.proofs.routine_lines.pgetri_of.Goals as goal

abbrev made : (a v b ns : List ℕ) → Option Command
made a v b ns = Some (command.Pgetri (get_or ns 0 0) a (get_or ns 1 0) (get_or ns 2 0) v b (get_or ns 3 0) (get_or ns 4 0))

pub returns-in_default : goal.returns-in_default
unfolding pgetri_of
returns-in_default c = made_of _ (made (word_at c.args.words.now 2) (word_at c.args.words.now 5) (word_at c.args.words.now 6)) None c.in_default.ensures

pub returns : goal.returns
unfolding pgetri_of
returns c =
    (λ i. made (c.in_ok-a.ensures.first i) (c.in_ok-a.ensures.second i) (c.in_ok-a.ensures.third i) c.in-Some.numbers)
    ∙ made_of _ (made (word_at c.args.words.now 2) (word_at c.args.words.now 5) (word_at c.args.words.now 6)) (Some c.in-Some.numbers) c.in-Some.ensures
