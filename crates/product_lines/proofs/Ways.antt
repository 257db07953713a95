-- The way of the messages of a product: a topology that holds for a line has a path, and a path of its own.
use Rattle.std.proofs.Common.{◌≡◌, ℕ, Bool, true, false, nat_lt, List, [], ◌∷◌, refl}
use Rattle.std.specs.Prelude.{if◌then◌else◌}
use Rattle.run_data.specs.declared.command.Command.{Command}
use Rattle.run_data.specs.declared.command.Command.TheVariants as c
use Rattle.run_data.specs.Script.{Numbered}
use Rattle.rank_machine.specs.Setting.{Path, forwards, backwards, members}
use Rattle.rank_machine.specs.Scripts.{is_letter, path_after, path_from}
use Rattle.round_laws.specs.Paths.{path_of}
use Rattle.product_lines.specs.Lines.{topology_of}

-- the path of a topology, which has that path again
abbrev IsWay : Path → Type 0
IsWay path = path ≡ path_of (topology_of path)

choice : (b : Bool) (one other : Path) → IsWay one → IsWay other → IsWay (if b then one else other)
choice true one other w v = w
choice false one other w v = v

way_after : (command : Command) (before : Path) → IsWay before → IsWay (path_after command before)
way_after (c.Topology kind) before w = choice (is_letter kind 68) backwards (if is_letter kind 84 then members else forwards) refl (choice (is_letter kind 84) members forwards refl refl)
way_after command before w = w

pub way-from : (ns : List Numbered) (line : ℕ) (before : Path) → IsWay before → IsWay (path_from before ns line)
way-from [] line before w = w
way-from (n ∷ ns) line before w =
    way-from ns line (if nat_lt n.line line then path_after n.command before else before)
    (choice (nat_lt n.line line) (path_after n.command before) before (way_after n.command before w) w)
