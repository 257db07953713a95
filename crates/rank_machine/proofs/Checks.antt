-- What else is computed of worked journals: words held after each record, and printed words.
use Rattle.std.proofs.Common.{◌%◌, ◌&&◌, ◌==◌, ◌∷◌, ℕ, Bool, true, List, []}
use Rattle.std.specs.Prelude.{nat_le, nat_lt}
use Rattle.run_data.specs.Matrix.{Matrix, cols, entry}
use Rattle.array_desc.specs.Maps.{local}
use Rattle.rank_machine.specs.declared.slot.Slot.{Slot}
use Rattle.rank_machine.specs.declared.record.Rec.{Rec}
use Rattle.rank_machine.specs.Setting.{Setting, all_below, ranks, layout}
use Rattle.rank_machine.specs.State.{Took, State}
use Rattle.rank_machine.specs.Effect.{words_of, is_words, after}
use Rattle.rank_machine.specs.Held.{words_in, most_words}
use Rattle.rank_machine.specs.Printed.{tile_of}

-- after each record, each rank holds in these slots no more words than it may
abbrev pub held_from : Setting → List Slot → State → List Rec → Bool
held_from s slots st [] = true
held_from s slots st (x ∷ xs) =
    let now = after s st x in
    all_below (ranks s) (λ rank. nat_le (words_in now rank slots) (most_words s now rank)) && held_from s slots now xs

abbrev pub printed_test : Setting → List Took → ℕ → ℕ → Matrix → Bool
printed_test s taken line what m =
    let d = layout s what in
    ((m.rows == d.desc.m) && (cols m == d.desc.n))
    && all_below m.rows (λ i. all_below (cols m) (λ j.
    let t = tile_of taken line what d i j in
    let row = local i d.desc.mb d.grid.p in
    let column = j % d.desc.nb in
    is_words t && ((nat_lt row (words_of t).rows && nat_lt column (cols (words_of t))) && (entry m i j == entry (words_of t) row column))))
