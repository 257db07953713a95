-- Spoiled commits of a factorization, and a spoiled recovery: no journal that begins so is legal. Above each stands what it breaks.
use Rattle.std.proofs.Common.{◌≡◌, ◌++◌, ◌∷◌, ◌*◌, ◌%◌, ◌<◌, ◌≤◌, ℕ, zero, suc, true, false, Bool, Some, List, length, slice_index_or, refl, sym, subst, lit<, lit≤, arith, ⊎_elim, []}
use Rattle.std.proofs.lemmas.List.Elements.{All-from_recursion}
use Rattle.field_core.specs.FieldLaws.{IsField-from_IsPrime}
use Rattle.field_core.specs.Primes.{prime_65537}
use Rattle.field_core.specs.Sums.{sum_to}
use Rattle.field_core.proofs.Computing.{quick_inverse, inverse_walk, quick_inverse_is}
use Rattle.cauchy_code.specs.Cauchy.{IsDecoding}
use Rattle.cauchy_code.proofs.Decodes.{decoding-from_columns}
use Rattle.cauchy_code.proofs.Inverses.{small_inverse}
use Rattle.cauchy_code.proofs.OnlyOne.{only_one}
use Rattle.run_data.specs.Matrix.{Matrix, entry, tabulate}
use Rattle.run_data.specs.Parts.{patched}
use Rattle.run_data.specs.declared.command.Command.TheVariants as c
use Rattle.run_data.specs.Script.{commands_of, Numbered}
use Rattle.rank_machine.specs.declared.slot.Piece.TheVariants as piece
use Rattle.rank_machine.specs.declared.kernel.Cut.TheVariants as cut
use Rattle.rank_machine.specs.declared.kernel.Kernel.TheVariants as k
use Rattle.rank_machine.specs.declared.record.Rec.{Rec}
use Rattle.rank_machine.specs.declared.record.Rec.TheVariants as r
use Rattle.rank_machine.specs.Setting.{Setting}
use Rattle.rank_machine.specs.Legal.{IsLegal}
use Rattle.local_blas.specs.Kernels.{substituted, solution}
use Rattle.rank_machine.proofs.Terms.{as_quick, by_line, d, legal_past, lo, mark, no_matrix, none_lost, o, setting_with, v, w}
use Rattle.rank_machine.proofs.Parts.{coded_by_one, run_on, saved}
use Rattle.rank_machine.proofs.Decoded.{decoded_restarted, files_decoded, script_decoded, setting_decoded}

-- a number of the pivot list is past the last row of the matrix
abbrev pub script_pivot_past_rows : List Numbered
script_pivot_past_rows = commands_of (
    Some (c.Grid (103 ∷ []) 1 1 0) ∷
    Some (c.Matrix (65 ∷ []) (103 ∷ []) 1 1 1 1 0 0 (97 ∷ [])) ∷
    Some (c.Pgetrf 1 1 (65 ∷ []) 1 1 (86 ∷ [])) ∷ [])

abbrev pub files_pivot_past_rows : ℕ → Matrix
files_pivot_past_rows = λ line. by_line 2 line (record { rows = 1; columns = ((0 ∷ []) ∷ []) }) (no_matrix)

abbrev pub setting_pivot_past_rows : Setting
setting_pivot_past_rows = setting_with script_pivot_past_rows files_pivot_past_rows

-- a matrix is fed, and its first row with a pivot looked for
abbrev pub pivots_begun : List Rec
pivots_begun =
    r.Feed 0 (d 2 0) ∷
    r.Commit (mark 2 true 0 false 0) false ∷
    r.Kernel 0 (k.Zero (v 3 0) 0 0) ∷
    r.Commit (mark 3 false 0 false 0) false ∷
    r.Save 0 (v 3 0) ∷
    r.Kernel 0 (k.First (w 0 0) (piece.Whole (d 2 0)) 0 0) ∷
    []

abbrev pub spoiled_pivot_past_rows : List Rec → List Rec
spoiled_pivot_past_rows rest =
    r.Kernel 0 (k.Push (v 3 0) (piece.Whole (w 0 0)) 1) ∷
    r.Commit (mark 3 false 0 true 0) false ∷
    rest

not_pivot_past_rows : (rest : List Rec) → IsLegal setting_pivot_past_rows (pivots_begun ++ spoiled_pivot_past_rows rest) → ⊥
unfolding entry tabulate patched sum_to substituted solution quick_inverse inverse_walk
not_pivot_past_rows rest h =
    let q = legal_past script_pivot_past_rows files_pivot_past_rows pivots_begun (spoiled_pivot_past_rows rest) h in
    let e : 2 ≤ 1 = (q.1.0.law.lists 3 refl).at_most 0 (lit< tt) in
    absurd (omega (arith, e))

-- a number of the pivot list is above its own row: column 2 is said to have its pivot in row 1
abbrev pub script_pivot_above : List Numbered
script_pivot_above = commands_of (
    Some (c.Grid (103 ∷ []) 1 1 0) ∷
    Some (c.Matrix (65 ∷ []) (103 ∷ []) 2 2 2 2 0 0 (97 ∷ [])) ∷
    Some (c.Pgetrf 2 2 (65 ∷ []) 1 1 (86 ∷ [])) ∷ [])

abbrev pub files_pivot_above : ℕ → Matrix
files_pivot_above = λ line. by_line 2 line (record { rows = 2; columns = ((1 ∷ 0 ∷ []) ∷ (0 ∷ 1 ∷ []) ∷ []) }) (no_matrix)

abbrev pub setting_pivot_above : Setting
setting_pivot_above = setting_with script_pivot_above files_pivot_above

abbrev pub spoiled_pivot_above : List Rec → List Rec
spoiled_pivot_above rest =
    r.Kernel 0 (k.Push (v 3 0) (piece.Whole (w 0 0)) 0) ∷
    r.Kernel 0 (k.Push (v 3 0) (piece.Whole (w 0 0)) 1) ∷
    r.Commit (mark 3 false 0 true 0) false ∷
    rest

not_pivot_above : (rest : List Rec) → IsLegal setting_pivot_above (pivots_begun ++ spoiled_pivot_above rest) → ⊥
unfolding entry tabulate patched sum_to substituted solution quick_inverse inverse_walk
not_pivot_above rest h =
    let q = legal_past script_pivot_above files_pivot_above pivots_begun (spoiled_pivot_above rest) h in
    let e : 2 ≤ 1 = (q.1.1.0.law.lists 3 refl).at_least 1 (lit< tt) in
    absurd (omega (arith, e))

-- the open panel's term stays in Code: the sum holds, Open does not
abbrev pub script_open_left_out : List Numbered
script_open_left_out = commands_of (
    Some (c.Grid (103 ∷ []) 1 1 1) ∷
    Some (c.Matrix (65 ∷ []) (103 ∷ []) 1 1 1 1 0 0 (97 ∷ [])) ∷
    Some (c.Pgetrf 1 1 (65 ∷ []) 1 1 (86 ∷ [])) ∷ [])

abbrev pub files_open_left_out : ℕ → Matrix
files_open_left_out = λ line. by_line 2 line (record { rows = 1; columns = ((5 ∷ []) ∷ []) }) (no_matrix)

abbrev pub setting_open_left_out : Setting
setting_open_left_out = setting_with script_open_left_out files_open_left_out

abbrev pub journal_open_left_out : List Rec → List Rec
journal_open_left_out rest =
    r.Feed 0 (d 2 0) ∷
    coded_by_one 0 2 0 1 1 ++
    r.Commit (mark 2 true 0 false 0) false ∷
    run_on (0 ∷ 1 ∷ []) (k.Zero (v 3 0) 0 0) ++
    r.Kernel 1 (k.Zero (lo 2 0) 1 1) ∷
    r.Commit (mark 3 false 0 false 0) false ∷
    saved (0 ∷ 1 ∷ []) (v 3 0) ++
    r.Kernel 0 (k.First (w 0 0) (piece.Whole (d 2 0)) 0 0) ∷
    r.Kernel 0 (k.Push (v 3 0) (piece.Whole (w 0 0)) 0) ∷
    r.Send 0 1 (piece.Whole (v 3 0)) ∷
    r.Recv 1 0 (piece.Whole (v 3 0)) ∷
    r.Kernel 1 (k.Zero (o 2 0) 1 1) ∷
    r.Commit (mark 3 false 0 true 0) false ∷
    rest

not_open_left_out : (rest : List Rec) → IsLegal setting_open_left_out (journal_open_left_out rest) → ⊥
unfolding entry tabulate patched sum_to substituted solution quick_inverse inverse_walk
not_open_left_out rest h =
    let q = as_quick script_open_left_out files_open_left_out (journal_open_left_out rest) h in
    let e : 0 ≡ 5 = (q.1.1.1.1.1.1.1.1.1.1.1.1.1.1.1.1.1.0.law.matrices 2 refl).panel 0 0 0 0 0 (record { row_in = lit< tt; group_in = lit< tt; i_in = lit< tt; j_in = lit< tt }) (lit< tt) refl in absurd (omega (arith, e))

-- while a rank counts as lost, a factor that is no entry of the list that decodes its column
abbrev pub spoiled_wrong_coefficient : List Rec → List Rec
spoiled_wrong_coefficient rest =
    r.Kernel 0 (k.Add (piece.Whole (d 2 0)) 3 (piece.Whole (w 0 0)) cut.Whole) ∷
    rest

-- the distances of places have quick inverses
quick_law : (a : ℕ) → 0 < a → a < 32 → (a * quick_inverse 65537 a) % 65537 ≡ 1 % 65537
quick_law = subst (λ inverses. (a : ℕ) → 0 < a → a < 32 → (a * inverses a) % 65537 ≡ 1 % 65537) (sym (quick_inverse_is 65537 prime_65537)) (small_inverse 65537 (lit≤ tt) (IsField-from_IsPrime 65537 prime_65537))

-- one of three columns is lost, the first
abbrev first_of_three : List Bool
first_of_three = true ∷ false ∷ false ∷ []

lost_is_first : (which : ℕ) → slice_index_or first_of_three which false ≡ true → which ≡ 0
lost_is_first zero h = refl
lost_is_first (suc which) h = absurd (none_lost (false ∷ false ∷ []) which refl h)

-- the list that decodes it
abbrev decoding_list : List ℕ
decoding_list = 0 ∷ 65535 ∷ 2 ∷ []

decodes_first : IsDecoding 65537 (quick_inverse 65537) 2 first_of_three 0 decoding_list
unfolding quick_inverse inverse_walk
decodes_first = decoding-from_columns 65537 (quick_inverse 65537) 2 0 first_of_three (0 ∷ 65535 ∷ []) (2 ∷ []) refl refl (All-from_recursion (λ k. k < 65537) decoding_list (omega arith, (omega arith, (omega arith, tt)))) (refl, tt) (refl, (refl, tt))

-- 3 is no entry of it
not_listed : (i : ℕ) → i < 3 → slice_index_or decoding_list i 3 ≡ 3 → ⊥
not_listed zero l e = absurd (omega (arith, e))
not_listed (suc zero) l e = absurd (omega (arith, e))
not_listed (suc (suc zero)) l e = absurd (omega (arith, e))
not_listed (suc (suc (suc i))) l e = absurd (omega (arith, l))

-- so no list that decodes a lost column of these has the entry 3
not_coefficient : (which : ℕ) (ks : List ℕ) → slice_index_or first_of_three which false ≡ true → IsDecoding 65537 (quick_inverse 65537) 2 first_of_three which ks
    → (i : ℕ) → i < length ks → slice_index_or ks i 3 ≡ 3 → ⊥
not_coefficient which ks lost decodes =
    let first : IsDecoding 65537 (quick_inverse 65537) 2 first_of_three 0 ks = subst (λ n. IsDecoding 65537 (quick_inverse 65537) 2 first_of_three n ks) (lost_is_first which lost) decodes in
    let same : ks ≡ decoding_list = only_one 65537 (quick_inverse 65537) quick_law 2 1 0 first_of_three ks decoding_list (lit< tt) (lit≤ tt) refl first decodes_first in
    subst (λ (ls : List ℕ). (i : ℕ) → i < length ls → slice_index_or ls i 3 ≡ 3 → ⊥) (sym same) not_listed

not_wrong_coefficient : (rest : List Rec) → IsLegal setting_decoded (decoded_restarted ++ spoiled_wrong_coefficient rest) → ⊥
unfolding entry tabulate patched sum_to substituted solution quick_inverse inverse_walk
not_wrong_coefficient rest h =
    let q = legal_past script_decoded files_decoded decoded_restarted (spoiled_wrong_coefficient rest) h in
    ⊎_elim (λ (e : false ≡ true). cc) (λ t. not_coefficient t.which t.list t.is_lost t.decodes t.entry.0 t.entry.1 t.entry.2) q.0.factor
