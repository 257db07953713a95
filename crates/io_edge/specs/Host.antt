-- What a clause reads of the machine's shelf and sinks: their counts of faults.
use Rattle.std.specs.Prelude.{ℕ}
use Rattle.io_edge.specs.declared.counts.Counts.{Counts}
use Rattle.io_edge.specs.declared.host_shelf.HostShelf.{HostShelf}
use Rattle.io_edge.specs.declared.host_sink.HostSink.{HostSink}

-- the counts of a shelf
abbrev pub counts_of : {R : Type 0} → HostShelf R → Counts
counts_of s = s.counts

-- the count of a sink, over a runtime with its types of files and folders
abbrev pub faults_of : {R File Folder : Type 0} → HostSink R File Folder → ℕ
faults_of s = s.faults
