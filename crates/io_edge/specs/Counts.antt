-- The counts of a shelf's faults.
use Rattle.std.specs.Prelude.{ℕ, Result, Ok, Err, Vec}
use Rattle.std.specs.declared.alloc.Global.{Global}
use Rattle.io_edge.specs.declared.shelf.ShelfFault.{ShelfFault}
use Rattle.io_edge.specs.declared.shelf.ShelfFault.TheVariants.{Failed, TooLong, NoMemory}
use Rattle.io_edge.specs.declared.counts.Counts.{Counts}
use Rattle.io_edge.specs.Causes.{counted}

-- the counts after an answer: a fault raises its own, and nothing else raises one
abbrev pub counts_after : Result (Vec ℕ Global) ShelfFault → Counts → Counts
counts_after (Ok v) counts = counts
counts_after (Err Failed) counts = record counts { faults = counted counts.faults }
counts_after (Err TooLong) counts = record counts { longs = counted counts.longs }
counts_after (Err NoMemory) counts = counts
