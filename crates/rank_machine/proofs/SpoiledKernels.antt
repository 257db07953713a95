-- Spoiled steps: no journal that begins so is legal. Above each stands what it breaks.
use Rattle.std.proofs.Common.{◌≡◌, ◌++◌, ◌∷◌, true, false, List, refl, ⊎_elim, []}
use Rattle.field_core.specs.Sums.{sum_to}
use Rattle.run_data.specs.Matrix.{entry, tabulate}
use Rattle.run_data.specs.Parts.{patched}
use Rattle.rank_machine.specs.declared.slot.Piece.TheVariants as piece
use Rattle.rank_machine.specs.declared.kernel.Cut.TheVariants as cut
use Rattle.rank_machine.specs.declared.kernel.Kernel.TheVariants as k
use Rattle.rank_machine.specs.declared.record.Rec.{Rec}
use Rattle.rank_machine.specs.declared.record.Rec.TheVariants as r
use Rattle.rank_machine.specs.Legal.{IsLegal}
use Rattle.field_core.proofs.Computing.{quick_inverse, inverse_walk}
use Rattle.local_blas.specs.Kernels.{substituted, solution}
use Rattle.rank_machine.proofs.Terms.{as_quick, co, d, legal_past, mark, none_lost, rect, w}
use Rattle.rank_machine.proofs.Parts.{saved}
use Rattle.rank_machine.proofs.Decoded.{decoded_healed, decoded_received, files_decoded, script_decoded, setting_decoded}
use Rattle.rank_machine.proofs.Redistributed.{files_redistributed, redistributed_begun, redistributed_saved, redistributed_sent, script_redistributed, setting_redistributed}
use Rattle.rank_machine.proofs.Multiplied.{files_multiplied, multiplied_done, script_multiplied, setting_multiplied}
use Rattle.rank_machine.proofs.Smallest.{files_smallest, script_smallest, setting_smallest}

-- a kernel changes a slot that is neither fresh nor saved
abbrev pub spoiled_unsaved_slot : List Rec → List Rec
spoiled_unsaved_slot rest =
    r.Kernel 0 (k.Scale (piece.Whole (d 2 0)) 1) ∷
    rest

not_unsaved_slot : (rest : List Rec) → IsLegal setting_decoded (decoded_healed ++ spoiled_unsaved_slot rest) → ⊥
unfolding entry tabulate patched sum_to substituted solution quick_inverse inverse_walk
not_unsaved_slot rest h =
    let q = legal_past script_decoded files_decoded decoded_healed (spoiled_unsaved_slot rest) h in
    let e : false ≡ true = q.0.writable in cc

-- a slot that was not saved receives a part
abbrev pub spoiled_skipped_save : List Rec → List Rec
spoiled_skipped_save rest =
    saved (9 ∷ 10 ∷ []) (d 4 0) ++
    redistributed_sent ++
    r.Recv 8 6 (piece.Part (d 4 0) (rect 0 2 0 1)) ∷
    rest

not_skipped_save : (rest : List Rec) → IsLegal setting_redistributed (redistributed_begun ++ spoiled_skipped_save rest) → ⊥
unfolding entry tabulate patched sum_to substituted solution quick_inverse inverse_walk
not_skipped_save rest h =
    let q = legal_past script_redistributed files_redistributed redistributed_begun (spoiled_skipped_save rest) h in
    let e : false ≡ true = q.1.1.1.1.1.1.0.fitting in cc

-- the host takes a strip in a product
abbrev pub spoiled_data_taken : List Rec → List Rec
spoiled_data_taken rest =
    r.Take 0 (d 4 0) ∷
    rest

not_data_taken : (rest : List Rec) → IsLegal setting_multiplied (multiplied_done ++ spoiled_data_taken rest) → ⊥
unfolding entry tabulate patched sum_to substituted solution quick_inverse inverse_walk
not_data_taken rest h =
    let q = legal_past script_multiplied files_multiplied multiplied_done (spoiled_data_taken rest) h in
    let e : false ≡ true = q.0.allowed in cc

-- a feed after its line has ended
abbrev pub journal_fed_late : List Rec → List Rec
journal_fed_late rest =
    r.Feed 0 (d 2 0) ∷
    r.Commit (mark 2 true 0 false 0) false ∷
    r.Feed 0 (d 2 0) ∷
    rest

not_fed_late : (rest : List Rec) → IsLegal setting_smallest (journal_fed_late rest) → ⊥
unfolding entry tabulate patched sum_to substituted solution quick_inverse inverse_walk
not_fed_late rest h =
    let q = as_quick script_smallest files_smallest (journal_fed_late rest) h in
    let e : false ≡ true = q.1.1.0.now in cc

-- a feed of a group that the matrix does not have
abbrev pub journal_fed_group : List Rec → List Rec
journal_fed_group rest =
    r.Feed 0 (d 2 1) ∷
    rest

not_fed_group : (rest : List Rec) → IsLegal setting_smallest (journal_fed_group rest) → ⊥
unfolding entry tabulate patched sum_to substituted solution quick_inverse inverse_walk
not_fed_group rest h =
    let q = as_quick script_smallest files_smallest (journal_fed_group rest) h in
    let e : false ≡ true = q.0.group in cc

-- a second message on a link of capacity 1
abbrev pub spoiled_second_message : List Rec → List Rec
spoiled_second_message rest =
    r.Send 0 8 (piece.Part (d 3 0) (rect 0 1 0 2)) ∷
    r.Send 0 8 (piece.Whole (d 3 0)) ∷
    rest

not_second_message : (rest : List Rec) → IsLegal setting_redistributed (redistributed_saved ++ spoiled_second_message rest) → ⊥
unfolding entry tabulate patched sum_to substituted solution quick_inverse inverse_walk
not_second_message rest h =
    let q = legal_past script_redistributed files_redistributed redistributed_saved (spoiled_second_message rest) h in
    let e : false ≡ true = q.1.0.room in cc

-- a message is received into a part of another shape
abbrev pub spoiled_wrong_shape : List Rec → List Rec
spoiled_wrong_shape rest =
    redistributed_sent ++
    r.Recv 8 6 (piece.Part (d 4 0) (rect 0 1 0 1)) ∷
    rest

not_wrong_shape : (rest : List Rec) → IsLegal setting_redistributed (redistributed_saved ++ spoiled_wrong_shape rest) → ⊥
unfolding entry tabulate patched sum_to substituted solution quick_inverse inverse_walk
not_wrong_shape rest h =
    let q = legal_past script_redistributed files_redistributed redistributed_saved (spoiled_wrong_shape rest) h in
    let e : false ≡ true = q.1.1.1.1.0.fitting in cc

-- a factor that is neither 1, a scalar of the line nor a weight
abbrev pub spoiled_wrong_factor : List Rec → List Rec
spoiled_wrong_factor rest =
    r.Kernel 2 (k.Add (piece.Whole (co 2 0)) 5 (piece.Whole (w 0 0)) cut.Whole) ∷
    rest

not_wrong_factor : (rest : List Rec) → IsLegal setting_decoded (decoded_received ++ spoiled_wrong_factor rest) → ⊥
unfolding entry tabulate patched sum_to substituted solution quick_inverse inverse_walk
not_wrong_factor rest h =
    let q = legal_past script_decoded files_decoded decoded_received (spoiled_wrong_factor rest) h in
    ⊎_elim (λ (e : false ≡ true). cc) (λ d. none_lost (false ∷ false ∷ false ∷ []) d.which refl d.is_lost) q.0.factor
