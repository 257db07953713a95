-- Spoiled commits: no journal that begins so is legal. Above each stands what it breaks.
use Rattle.std.proofs.Common.{◌≡◌, ◌++◌, ◌∷◌, true, false, List, length, refl, lit<, lit≤, ap, arith}
use Rattle.std.proofs.lemmas.Bool.{eq-eqb}
use Rattle.field_core.specs.Sums.{sum_to}
use Rattle.run_data.specs.Matrix.{entry, tabulate}
use Rattle.run_data.specs.Parts.{patched}
use Rattle.rank_machine.specs.declared.slot.Piece.TheVariants as piece
use Rattle.rank_machine.specs.declared.kernel.Cut.TheVariants as cut
use Rattle.rank_machine.specs.declared.kernel.Kernel.TheVariants as k
use Rattle.rank_machine.specs.declared.record.Rec.{Rec}
use Rattle.rank_machine.specs.declared.record.Rec.TheVariants as r
use Rattle.rank_machine.specs.Effect.{numbers_of}
use Rattle.rank_machine.specs.Legal.{IsLegal}
use Rattle.field_core.proofs.Computing.{quick_inverse, inverse_walk}
use Rattle.local_blas.specs.Kernels.{substituted, solution}
use Rattle.rank_machine.proofs.Terms.{co, d, legal_past, lo, mark, o, rect, w}
use Rattle.rank_machine.proofs.Parts.{opened_to, subtracted}
use Rattle.rank_machine.proofs.Decoded.{decoded_coded, decoded_received, decoded_restored, files_decoded, script_decoded, setting_decoded}
use Rattle.rank_machine.proofs.Redistributed.{files_redistributed, redistributed_fed, script_redistributed, setting_redistributed}
use Rattle.rank_machine.proofs.Factored.{factored_closing, factored_exchanged, factored_opened, files_factored, panel_found, script_factored, setting_factored}

-- a word of Code is not the weighted sum
abbrev pub spoiled_wrong_code_word : List Rec → List Rec
spoiled_wrong_code_word rest =
    r.Kernel 2 (k.Add (piece.Whole (co 2 0)) 1 (piece.Whole (w 0 0)) cut.Whole) ∷
    r.Recv 2 1 (piece.Whole (w 0 0)) ∷
    r.Kernel 2 (k.Add (piece.Whole (co 2 0)) 1 (piece.Whole (w 0 0)) cut.Whole) ∷
    r.Commit (mark 2 true 0 false 0) false ∷
    rest

not_wrong_code_word : (rest : List Rec) → IsLegal setting_decoded (decoded_received ++ spoiled_wrong_code_word rest) → ⊥
unfolding entry tabulate patched sum_to substituted solution quick_inverse inverse_walk
not_wrong_code_word rest h =
    let q = legal_past script_decoded files_decoded decoded_received (spoiled_wrong_code_word rest) h in
    let e : 12 ≡ 32778 = (q.1.1.1.0.law.matrices 2 refl).code 0 0 0 0 0 (record { row_in = lit< tt; group_in = lit< tt; i_in = lit< tt; j_in = lit< tt }) (lit< tt) in
    absurd (omega (arith, e))

-- a panel is closed that was not opened
abbrev pub spoiled_mark_jumps : List Rec → List Rec
spoiled_mark_jumps rest =
    r.Commit (mark 3 false 1 false 0) false ∷
    rest

not_mark_jumps : (rest : List Rec) → IsLegal setting_factored (factored_opened ++ spoiled_mark_jumps rest) → ⊥
unfolding entry tabulate patched sum_to substituted solution quick_inverse inverse_walk
not_mark_jumps rest h =
    let q = legal_past script_factored files_factored factored_opened (spoiled_mark_jumps rest) h in
    let e : false ≡ true = q.0.next in cc

-- a commit while a message is on its way
abbrev pub spoiled_message_left : List Rec → List Rec
spoiled_message_left rest =
    r.Send 0 1 (piece.Whole (d 2 0)) ∷
    r.Commit (mark 2 true 0 false 0) false ∷
    rest

not_message_left : (rest : List Rec) → IsLegal setting_decoded (decoded_coded ++ spoiled_message_left rest) → ⊥
unfolding entry tabulate patched sum_to substituted solution quick_inverse inverse_walk
not_message_left rest h =
    let q = legal_past script_decoded files_decoded decoded_coded (spoiled_message_left rest) h in
    let e : false ≡ true = q.1.0.empty in cc

-- a healed commit with another mark
abbrev pub spoiled_other_mark : List Rec → List Rec
spoiled_other_mark rest =
    r.Commit (mark 3 true 0 false 0) true ∷
    rest

not_other_mark : (rest : List Rec) → IsLegal setting_decoded (decoded_restored ++ spoiled_other_mark rest) → ⊥
unfolding entry tabulate patched sum_to substituted solution quick_inverse inverse_walk
not_other_mark rest h =
    let q = legal_past script_decoded files_decoded decoded_restored (spoiled_other_mark rest) h in
    let e : 3 ≡ 2 = ap (λ m. m.line) q.0.next in
    absurd (omega (arith, e))

-- a plain commit although a rank was lost
abbrev pub spoiled_plain_after_loss : List Rec → List Rec
spoiled_plain_after_loss rest =
    r.Commit (mark 2 true 0 false 0) false ∷
    rest

not_plain_after_loss : (rest : List Rec) → IsLegal setting_decoded (decoded_restored ++ spoiled_plain_after_loss rest) → ⊥
unfolding entry tabulate patched sum_to substituted solution quick_inverse inverse_walk
not_plain_after_loss rest h =
    let q = legal_past script_decoded files_decoded decoded_restored (spoiled_plain_after_loss rest) h in
    let e : true ≡ false = q.0.loss in cc

-- the multipliers of a closed panel stay in Code
abbrev pub spoiled_low_left_out : List Rec → List Rec
spoiled_low_left_out rest =
    r.Kernel 2 (k.Add (piece.Whole (co 2 0)) 1 (piece.Whole (o 2 0)) cut.Whole) ∷
    r.Kernel 5 (k.Copy (piece.Part (lo 2 0) (rect 0 1 0 1)) (piece.Whole (w 2 0))) ∷
    subtracted 5 4 2 (co 2 0) ++
    opened_to 5 2 0 0 ++
    r.Commit (mark 3 false 1 false 0) false ∷
    rest

not_low_left_out : (rest : List Rec) → IsLegal setting_factored (factored_closing ++ spoiled_low_left_out rest) → ⊥
unfolding entry tabulate patched sum_to substituted solution quick_inverse inverse_walk
not_low_left_out rest h =
    let q = legal_past script_factored files_factored factored_closing (spoiled_low_left_out rest) h in
    let e : false ≡ true = eq-eqb _ _ ((q.1.1.1.1.1.1.1.0.law.matrices 2 refl).low 0 0 0 1 0 (record { row_in = lit< tt; group_in = lit< tt; i_in = lit< tt; j_in = lit< tt }) (lit< tt) refl) in cc

-- one rank of the grid has another pivot list
abbrev pub spoiled_list_differs : List Rec → List Rec
spoiled_list_differs rest =
    r.Send 0 3 (piece.Part (d 2 0) (rect 0 1 0 1)) ∷
    factored_exchanged ++
    r.Commit (mark 3 false 0 true 0) false ∷
    rest

not_list_differs : (rest : List Rec) → IsLegal setting_factored (panel_found 1 ++ spoiled_list_differs rest) → ⊥
unfolding entry tabulate patched sum_to substituted solution quick_inverse inverse_walk
not_list_differs rest h =
    let q = legal_past script_factored files_factored (panel_found 1) (spoiled_list_differs rest) h in
    let e : 0 ≡ 1 = ap (λ t. length (numbers_of t)) ((q.1.1.1.1.1.1.1.1.1.1.1.1.1.1.1.1.1.1.1.1.1.1.1.1.0.law.lists 3 refl).same 3 (lit< tt)) in
    absurd (omega (arith, e))

-- the padding of a strip is not zero
abbrev pub spoiled_broken_padding : List Rec → List Rec
spoiled_broken_padding rest =
    r.Send 0 1 (piece.Whole (d 3 0)) ∷
    r.Recv 1 0 (piece.Whole (d 3 0)) ∷
    r.Commit (mark 3 true 0 false 0) false ∷
    rest

not_broken_padding : (rest : List Rec) → IsLegal setting_redistributed (redistributed_fed ++ spoiled_broken_padding rest) → ⊥
unfolding entry tabulate patched sum_to substituted solution quick_inverse inverse_walk
not_broken_padding rest h =
    let q = legal_past script_redistributed files_redistributed redistributed_fed (spoiled_broken_padding rest) h in
    let e : 33 ≡ 0 = (q.1.1.0.law.matrices 3 refl).padding 0 0 1 0 0 (record { row_in = lit< tt; group_in = lit< tt; i_in = lit< tt; j_in = lit< tt }) (lit< tt) (lit≤ tt) in
    absurd (omega (arith, e))
