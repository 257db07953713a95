use Rattle.std.proofs.Common.{length}
use Rattle.script_words.proofs.Files.{IsReading}
use Rattle.script_words.proofs.matrix_file.parse_matrix.Given as goal

abbrev pub invariant-loop-rest : goal.invariant-loop-rest
invariant-loop-rest l = IsReading l.modulus l.file l.m l.n l.bytes l.matrix l.rows l.line l.rest

abbrev pub decreases-loop-rest : goal.decreases-loop-rest
decreases-loop-rest l = length l.rest
