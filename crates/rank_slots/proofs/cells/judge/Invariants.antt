use Rattle.std.proofs.Common.{◌≡◌, ◌++◌, map, take, drop}
use Rattle.rank_machine.specs.Effect.{is_live}
use Rattle.script_lines.specs.Lines.{setting_on}
use Rattle.script_lines.specs.Live.{AreLive}
use Rattle.rank_slots.specs.Cells.{judged}
use Rattle.rank_slots.proofs.cells.judge.Given as goal

-- the cells up to here are judged, and the groups are live ones
abbrev pub invariant-loop-cell : goal.invariant-loop-cell
invariant-loop-cell l =
    record {
      known : AreLive (setting_on 0 l.table) l.mark l.rank l.groups;
      judged : l.items ≡ map (judged (is_live (setting_on 0 l.table) l.mark l.rank)) (take l.cell-index l.fn.items) ++ drop l.cell-index l.fn.items;
    }
