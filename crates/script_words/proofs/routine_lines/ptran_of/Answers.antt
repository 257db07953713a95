use Rattle.std.proofs.Common.{ℕ, List, get_or, Option, Some, None, ◌∙◌}
use Rattle.run_data.specs.declared.command.Command.{Command}
use Rattle.run_data.specs.declared.command.Command.TheVariants as command
use Rattle.script_words.specs.Commands.{word_at, ptran_of}
use Rattle.script_words.proofs.Numbering.{made_of}
use Rattle.script_words.proofs.routine_lines.ptran_of.Goals as goal

abbrev made : (a d ns : List ℕ) → Option Command
made a d ns = Some (command.Ptran (get_or ns 0 0) (get_or ns 1 0) (get_or ns 2 0) a (get_or ns 3 0) (get_or ns 4 0) (get_or ns 5 0) d (get_or ns 6 0) (get_or ns 7 0))

pub returns-in_default : goal.returns-in_default
unfolding ptran_of
returns-in_default c = made_of _ (made (word_at c.args.words.now 4) (word_at c.args.words.now 8)) None c.in_default.ensures

pub returns : goal.returns
unfolding ptran_of
returns c =
    (λ i. made (c.in_ok-a.ensures.first i) (c.in_ok-a.ensures.second i) c.in-Some.numbers)
    ∙ made_of _ (made (word_at c.args.words.now 4) (word_at c.args.words.now 8)) (Some c.in-Some.numbers) c.in-Some.ensures
