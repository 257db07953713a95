-- What a shelf in memory shows: what it tells, and its counts.
use Rattle.std.specs.Prelude.{ℕ, List, [], ◌∷◌, ◌++◌, Option, Some, None, String, Vec}
use Rattle.std.specs.Option.{option_map}
use Rattle.std.specs.Str.{bytes_eq}
use Rattle.std.specs.Map.{update}
use Rattle.std.specs.BTreeMap.{BTreeMap, get_by_text}
use Rattle.std.specs.declared.alloc.Global.{Global}
use Rattle.io_edge.specs.declared.counts.Counts.{Counts}
use Rattle.io_edge.specs.declared.mem_shelf.MemShelf.{MemShelf}
use Rattle.io_edge.specs.Shelf.{Held}

-- the bytes of each name that a map from names to bytes has
abbrev pub files_of : BTreeMap (String Global) (Vec ℕ Global) → List ℕ → Option (List ℕ)
files_of files name = option_map (λ v. v.items) (get_by_text files name)

-- what a shelf in memory tells, and its counts
pub record ShelfState : Type 0 where
  pub held : Held
  pub counts : Counts

-- the files of a shelf by their names, its calls and plan, and its counts
abbrev pub state_of : MemShelf → ShelfState
state_of s = record {
  held = record { files = files_of s.files; calls = s.calls; planned = s.plan.items };
  counts = s.counts;
}

-- no file, no call, no plan and no fault
abbrev pub empty : ShelfState
empty = record {
  held = record { files = λ name. None; calls = 0; planned = [] };
  counts = record { faults = 0; longs = 0 };
}

-- the same shelf with these bytes under this name
abbrev pub with_file : ShelfState → List ℕ → List ℕ → ShelfState
with_file s name bytes = record s { held = record s.held { files = update bytes_eq s.held.files name (Some bytes) } }

-- the same shelf with one more read planned to fail
abbrev pub with_planned : ShelfState → ℕ → ShelfState
with_planned s call = record s { held = record s.held { planned = s.held.planned ++ call ∷ [] } }
