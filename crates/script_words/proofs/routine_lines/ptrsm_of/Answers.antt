use Rattle.std.proofs.Common.{ℕ, List, get_or, Option, Some, None, ◌∙◌}
use Rattle.run_data.specs.declared.command.Command.{Command}
use Rattle.run_data.specs.declared.command.Command.TheVariants as command
use Rattle.script_words.specs.Commands.{word_at, ptrsm_of}
use Rattle.script_words.proofs.Numbering.{made_of}
use Rattle.script_words.proofs.routine_lines.ptrsm_of.Goals as goal

abbrev made : (side uplo transa diag a b ns : List ℕ) → Option Command
made side uplo transa diag a b ns = Some (command.Ptrsm side uplo transa diag (get_or ns 0 0) (get_or ns 1 0) (get_or ns 2 0) a (get_or ns 3 0) (get_or ns 4 0) b (get_or ns 5 0) (get_or ns 6 0))

pub returns-in_default : goal.returns-in_default
unfolding ptrsm_of
returns-in_default c = made_of _ (made (word_at c.args.words.now 1) (word_at c.args.words.now 2) (word_at c.args.words.now 3) (word_at c.args.words.now 4) (word_at c.args.words.now 8) (word_at c.args.words.now 11)) None c.in_default.ensures

pub returns : goal.returns
unfolding ptrsm_of
returns c =
    (λ i. made (c.in_ok-side.ensures.first i) (c.in_ok-side.ensures.second i) (c.in_ok-side.ensures.third i) (c.in_ok-diag.ensures.first i) (c.in_ok-diag.ensures.second i) (c.in_ok-diag.ensures.third i) c.in-Some.numbers)
    ∙ made_of _ (made (word_at c.args.words.now 1) (word_at c.args.words.now 2) (word_at c.args.words.now 3) (word_at c.args.words.now 4) (word_at c.args.words.now 8) (word_at c.args.words.now 11)) (Some c.in-Some.numbers) c.in-Some.ensures
