-- Which groups of the slots of one kind and one line are live under a mark.
use Rattle.std.specs.Prelude.{◌≡◌, ℕ, ◌&&◌, ◌==◌, Bool, false, nat_lt, nat_le}
use Rattle.blacs_grid.specs.Places.{is_member, is_data_rank, is_code_rank}
use Rattle.rank_machine.specs.declared.mark.Mark.{Mark}
use Rattle.rank_machine.specs.declared.slot.SlotKind.{SlotKind}
use Rattle.rank_machine.specs.declared.slot.SlotKind.TheVariants.{Data, Code, Low, Open, Pivots, Work}
use Rattle.rank_machine.specs.Setting.{Setting, layout, factored, group_count}
use Rattle.rank_machine.specs.Effect.{is_live_matrix, is_live_list, factoring, is_live}
use Rattle.script_lines.specs.declared.live.Groups.{Groups}

-- whether some slots of a kind and a line may be live on a rank
abbrev pub is_live_line : Setting → Mark → ℕ → ℕ → SlotKind → Bool
is_live_line s mark rank id Data = is_data_rank (layout s id).grid rank && is_live_matrix s mark id
is_live_line s mark rank id Code = is_code_rank (layout s id).grid rank && is_live_matrix s mark id
is_live_line s mark rank id Low = is_code_rank (layout s id).grid rank && (nat_lt 0 id && (factoring s mark == id))
is_live_line s mark rank id Open = is_code_rank (layout s id).grid rank && ((nat_lt 0 id && (factoring s mark == id)) && mark.opened)
is_live_line s mark rank id Pivots = is_member (layout s (factored s id)).grid rank && is_live_list s mark id
is_live_line s mark rank id Work = false

-- the first group that is live where some are
abbrev pub first_live : Mark → SlotKind → ℕ
first_live mark Data = 0
first_live mark Code = 0
first_live mark Low = mark.merged
first_live mark Open = 0
first_live mark Pivots = 0
first_live mark Work = 0

-- the group after the last that is live where some are
abbrev pub end_of_live : Setting → ℕ → SlotKind → ℕ
end_of_live s id Data = group_count (layout s id)
end_of_live s id Code = group_count (layout s id)
end_of_live s id Low = group_count (layout s id)
end_of_live s id Open = 1
end_of_live s id Pivots = 1
end_of_live s id Work = 0

-- these groups of slots of their kind and their line are live on a rank, and no others
abbrev pub AreLive : Setting → Mark → ℕ → Groups → Type 0
AreLive s mark rank groups =
    (group : ℕ) → is_live s mark rank (record { kind = groups.kind; id = groups.id; group = group }) ≡ (nat_le groups.from group && nat_lt group groups.to)
