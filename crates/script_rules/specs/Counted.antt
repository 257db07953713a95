-- What the lines of a script so far count.
use Rattle.std.specs.Prelude.{◌≡◌, ◌≤◌, ◌-◌, List, Option, take, ℕ}
use Rattle.run_data.specs.declared.command.Command.{Command}
use Rattle.run_data.specs.Script.{Numbered, commands_of, modulus_of}
use Rattle.blacs_grid.specs.Limits.{rank_limit}
use Rattle.script_rules.specs.declared.counts.Counts.{Counts}
use Rattle.script_words.specs.Limits.{matrix_limit, printed_limit, orders_limit}
use Rattle.script_rules.specs.Rules.{ranks_of, matrix_lines, dropped_matrices, list_lines, dropped_lists, printed_words, link_lines, spares_lines, field_lines, ordered_numbers}

-- the commands of the lines before a line
abbrev pub commands_before : List (Option Command) → ℕ → List Numbered
commands_before script line = commands_of (take (line - 1) script)

-- the counts of the commands of so many lines
pub record AreCounts (counts : Counts) (lines : ℕ) (cs : List Numbered) : Type 0 where
  pub ranks : counts.ranks ≡ ranks_of cs
  pub matrices : counts.matrices ≡ matrix_lines cs
  pub dropped : counts.dropped ≡ dropped_matrices cs
  pub lists : counts.lists ≡ list_lines cs
  pub dropped_lists : counts.dropped_lists ≡ dropped_lists cs
  pub printed : counts.printed ≡ printed_words cs
  pub links : counts.links ≡ link_lines cs
  pub spares : counts.spares ≡ spares_lines cs
  pub fields : counts.fields ≡ field_lines cs
  pub modulus : counts.modulus ≡ modulus_of cs
  pub ordered : counts.ordered ≡ ordered_numbers cs
  pub few_ranks : counts.ranks ≤ rank_limit
  pub few_matrices : counts.matrices ≤ matrix_limit
  pub few_dropped : counts.dropped ≤ lines
  pub few_lists : counts.lists ≤ lines
  pub few_dropped_lists : counts.dropped_lists ≤ lines
  pub few_links : counts.links ≤ 1
  pub few_spares : counts.spares ≤ 1
  pub few_fields : counts.fields ≤ 1
  pub few_ordered : counts.ordered ≤ orders_limit
  pub few_printed : counts.printed ≤ printed_limit
