-- Matrices by line, as pairs.
use Rattle.std.specs.Prelude.{ℕ, List, map}
use Rattle.run_data.specs.Matrix.{Matrix}
use Rattle.run_data.specs.declared.files.Entry.{Entry}

abbrev pub pairs_of : List Entry → List (ℕ × Matrix)
pairs_of entries = map (λ e. (e.line, e.matrix)) entries
