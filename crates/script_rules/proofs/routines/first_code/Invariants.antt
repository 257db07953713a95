use Rattle.std.proofs.Common.{◌≡◌, drop}
use Rattle.script_words.specs.Tables.{first_code}
use Rattle.script_rules.proofs.routines.first_code.Given as goal

abbrev pub invariant-loop-code : goal.invariant-loop-code
invariant-loop-code l = first_code (drop l.code-index l.rules) ≡ first_code l.rules
