use Rattle.std.proofs.Common.{◌+◌, ◌-◌, length}
use Rattle.std.specs.Io.KnownBytes.{Consumes}
use Rattle.io_edge.specs.Limits.{file_limit}
use Rattle.io_edge.proofs.host_shelf.read_whole.Given as goal

-- what was read so far and what is left are the bytes of the source
abbrev pub invariant-turns : goal.invariant-turns
invariant-turns g l = Consumes (g.S.Read.remaining l.fn.source) (g.S.Read.remaining l.source) l.bytes.items

-- each turn takes a byte, and one byte past the limit ends the loop
abbrev pub decreases-turns : goal.decreases-turns
decreases-turns g l = file_limit + 1 - length l.bytes.items
