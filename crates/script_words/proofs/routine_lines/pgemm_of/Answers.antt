use Rattle.std.proofs.Common.{ℕ, List, get_or, Option, Some, None, ◌∙◌}
use Rattle.run_data.specs.declared.command.Command.{Command}
use Rattle.run_data.specs.declared.command.Command.TheVariants as command
use Rattle.script_words.specs.Commands.{word_at, pgemm_of}
use Rattle.script_words.proofs.Numbering.{made_of}
use Rattle.script_words.proofs.routine_lines.pgemm_of.Goals as goal

abbrev made : (transa transb a b c ns : List ℕ) → Option Command
made transa transb a b c ns = Some (command.Pgemm transa transb (get_or ns 0 0) (get_or ns 1 0) (get_or ns 2 0) (get_or ns 3 0) a (get_or ns 4 0) (get_or ns 5 0) b (get_or ns 6 0) (get_or ns 7 0) (get_or ns 8 0) c (get_or ns 9 0) (get_or ns 10 0))

pub returns-in_default : goal.returns-in_default
unfolding pgemm_of
returns-in_default c = made_of _ (made (word_at c.args.words.now 1) (word_at c.args.words.now 2) (word_at c.args.words.now 7) (word_at c.args.words.now 10) (word_at c.args.words.now 14)) None c.in_default.ensures

pub returns : goal.returns
unfolding pgemm_of
returns c =
    (λ i. made (c.in_ok-transa.ensures.first i) (c.in_ok-transa.ensures.second i) (c.in_ok-a.ensures.first i) (c.in_ok-a.ensures.second i) (c.in_ok-a.ensures.third i) c.in-Some.numbers)
    ∙ made_of _ (made (word_at c.args.words.now 1) (word_at c.args.words.now 2) (word_at c.args.words.now 7) (word_at c.args.words.now 10) (word_at c.args.words.now 14)) (Some c.in-Some.numbers) c.in-Some.ensures
