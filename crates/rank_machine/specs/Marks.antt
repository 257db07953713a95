-- Which marks follow which.
use Rattle.std.specs.Prelude.{◌+◌, ◌&&◌, ◌||◌, ◌==◌, if◌then◌else◌, ℕ, Bool, true, false, not, nat_lt}
use Rattle.rank_machine.specs.declared.mark.Mark.{Mark}
use Rattle.rank_machine.specs.declared.layout.Layout.{Layout}
use Rattle.rank_machine.specs.Setting.{Setting, layout, factored, group_count, panels}
use Rattle.rank_machine.specs.State.{opened}
use Rattle.rank_machine.specs.Effect.{current}

abbrev pub same_bool : Bool → Bool → Bool
same_bool a b = if a then b else not b

abbrev pub has_numbers : Mark → ℕ → Bool → ℕ → Bool
has_numbers mark closed opened merged = ((mark.closed == closed) && same_bool mark.opened opened) && (mark.merged == merged)

-- inside a factorization: the same numbers, or a panel opens, or the open panel closes, or a group is merged
abbrev pub panel_opens : Layout → Mark → Mark → Bool
panel_opens d last next = (not last.opened && nat_lt last.closed (panels d)) && has_numbers next last.closed true last.merged

abbrev pub panel_closes : Mark → Mark → Bool
panel_closes last next = last.opened && has_numbers next (last.closed + 1) false last.merged

abbrev pub group_merges : Layout → Mark → Mark → Bool
group_merges d last next = ((not last.opened && (last.closed == panels d)) && nat_lt last.merged (group_count d)) && has_numbers next last.closed false (last.merged + 1)

abbrev pub factoring_goes_on : Layout → Mark → Mark → Bool
factoring_goes_on d last next = (has_numbers next last.closed last.opened last.merged || panel_opens d last next) || (panel_closes last next || group_merges d last next)

-- the last mark's numbers as its line's, which are 0 at the first commit of a line
abbrev pub numbers_in : Mark → ℕ → Mark
numbers_in last line = if (last.line == line) && not last.ended then last else record { line = line; ended = false; closed = 0; opened = false; merged = 0 }

abbrev pub follows : Setting → Mark → Mark → Bool
follows s last next =
    (nat_lt 0 next.line && (next.line == current s last))
    && (if next.ended || (factored s next.line == 0) then has_numbers next 0 false 0
    else factoring_goes_on (layout s (factored s next.line)) (numbers_in last next.line) next)
