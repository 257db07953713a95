use Rattle.std.proofs.Common.{◌≡◌, ℕ, List, ap, rules}
use Rattle.std.specs.Prelude.{Option}
use Rattle.std.specs.String.{string_bytes}
use Rattle.io_edge.specs.MemShelf.{ShelfState, state_of}
use Rattle.io_edge.proofs.Files.{files_of-updates}
use Rattle.io_edge.proofs.mem_shelf.MemShelf.add.Goals as goal

pub returns-clause-ok : goal.returns-clause-ok
returns-clause-ok c =
    let name : string_bytes c.in_ok-name.name ≡ c.args.name.now = c.in_ok-name.ensures.ok in
    let bytes : c.in_ok-bytes.bytes.items ≡ c.args.bytes.now = search rules in
    let updated = files_of-updates c.args.self.now.files c.insert.new.self _ c.in_ok-bytes.bytes c.in_ok-insert.ensures.updates in
    let s : ShelfState = state_of c.args.self.now in
    ap (λ (files : List ℕ → Option (List ℕ)). record s { held = record s.held { files = files } }) (rw (name, bytes) at updated)
