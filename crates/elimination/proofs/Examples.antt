-- The definitions evaluated on worked matrices. The words modulo 65537 are those that were worked out by hand for the same commands.
use Rattle.std.proofs.Common.{◌≡◌, ℕ, List, [], ◌∷◌, map, slice_index_or, min, true, false, refl}
use Rattle.std.specs.List.{range_with_len}
use Rattle.field_core.specs.Sums.{sum_to}
use Rattle.field_core.proofs.Computing.{quick_inverse, inverse_walk}
use Rattle.run_data.specs.Matrix.{Matrix, entry, tabulate}
use Rattle.run_data.specs.Parts.{patched}
use Rattle.local_blas.specs.Kernels.{substituted, solution}
use Rattle.serial_model.specs.Elimination.{pivot_from, divide, subtract, with_pivot, eliminate_column, eliminate_columns, elimination, untouched, least_zero, pivot_row, came_from}
use Rattle.serial_model.specs.Solves.{product_of, triangle_solved, factors_solved, window_copied}
use Rattle.elimination.specs.Panels.{eliminate_panels, with_panel, panel_words, reduced}

-- the words of a list of rows
abbrev words_of : List (List ℕ) → ℕ → ℕ → ℕ
words_of rows i k = slice_index_or (slice_index_or rows i []) k 0

-- the words of m rows and n columns, row by row
abbrev rows_of : ℕ → ℕ → (ℕ → ℕ → ℕ) → List (List ℕ)
rows_of m n f = map (λ i. map (λ k. f i k) (range_with_len 0 n)) (range_with_len 0 m)

-- what an elimination gives, with its words row by row
record Shown : Type 0 where
  rows : List (List ℕ)
  pivots : List ℕ
  info : ℕ

-- the elimination of m rows and n columns
abbrev shown : ℕ → ℕ → ℕ → List (List ℕ) → Shown
shown p m n a = let e = elimination p (quick_inverse p) m n (words_of a) in record { rows = rows_of m n e.words; pivots = e.pivots; info = e.info }

-- the same by t panels of nb columns
abbrev shown_by_panels : ℕ → ℕ → ℕ → ℕ → ℕ → List (List ℕ) → Shown
shown_by_panels p m n nb t a = let e = eliminate_panels p (quick_inverse p) m (min m n) nb t (untouched (words_of a)) in record { rows = rows_of m n e.words; pivots = e.pivots; info = e.info }

two_rows : shown 65537 2 2 ((2 ∷ 1 ∷ []) ∷ (1 ∷ 1 ∷ []) ∷ []) ≡ record { rows = (2 ∷ 1 ∷ []) ∷ (32769 ∷ 32769 ∷ []) ∷ []; pivots = 1 ∷ 2 ∷ []; info = 0 }
unfolding elimination eliminate_columns eliminate_column with_pivot pivot_from divide subtract quick_inverse inverse_walk
two_rows = refl

exchange_first : shown 65537 2 2 ((0 ∷ 1 ∷ []) ∷ (2 ∷ 3 ∷ []) ∷ []) ≡ record { rows = (2 ∷ 3 ∷ []) ∷ (0 ∷ 1 ∷ []) ∷ []; pivots = 2 ∷ 2 ∷ []; info = 0 }
unfolding elimination eliminate_columns eliminate_column with_pivot pivot_from divide subtract quick_inverse inverse_walk
exchange_first = refl

singular : shown 65537 2 2 ((1 ∷ 2 ∷ []) ∷ (2 ∷ 4 ∷ []) ∷ []) ≡ record { rows = (1 ∷ 2 ∷ []) ∷ (2 ∷ 0 ∷ []) ∷ []; pivots = 1 ∷ 2 ∷ []; info = 2 }
unfolding elimination eliminate_columns eliminate_column with_pivot pivot_from divide subtract quick_inverse inverse_walk
singular = refl

zeros : shown 65537 3 3 ((0 ∷ 0 ∷ 0 ∷ []) ∷ (0 ∷ 0 ∷ 0 ∷ []) ∷ (0 ∷ 0 ∷ 0 ∷ []) ∷ []) ≡ record { rows = (0 ∷ 0 ∷ 0 ∷ []) ∷ (0 ∷ 0 ∷ 0 ∷ []) ∷ (0 ∷ 0 ∷ 0 ∷ []) ∷ []; pivots = 1 ∷ 2 ∷ 3 ∷ []; info = 1 }
unfolding elimination eliminate_columns eliminate_column with_pivot pivot_from divide subtract quick_inverse inverse_walk
zeros = refl

three_by_five : shown 65537 3 5 ((1 ∷ 2 ∷ 3 ∷ 4 ∷ 5 ∷ []) ∷ (2 ∷ 4 ∷ 7 ∷ 8 ∷ 9 ∷ []) ∷ (1 ∷ 3 ∷ 3 ∷ 5 ∷ 6 ∷ []) ∷ []) ≡ record { rows = (1 ∷ 2 ∷ 3 ∷ 4 ∷ 5 ∷ []) ∷ (1 ∷ 1 ∷ 0 ∷ 1 ∷ 1 ∷ []) ∷ (2 ∷ 0 ∷ 1 ∷ 0 ∷ 65536 ∷ []) ∷ []; pivots = 1 ∷ 3 ∷ 3 ∷ []; info = 0 }
unfolding elimination eliminate_columns eliminate_column with_pivot pivot_from divide subtract quick_inverse inverse_walk
three_by_five = refl

five_by_three : shown 65537 5 3 ((1 ∷ 2 ∷ 1 ∷ []) ∷ (2 ∷ 4 ∷ 3 ∷ []) ∷ (3 ∷ 7 ∷ 3 ∷ []) ∷ (4 ∷ 8 ∷ 5 ∷ []) ∷ (5 ∷ 9 ∷ 6 ∷ []) ∷ []) ≡ record { rows = (1 ∷ 2 ∷ 1 ∷ []) ∷ (3 ∷ 1 ∷ 0 ∷ []) ∷ (2 ∷ 0 ∷ 1 ∷ []) ∷ (4 ∷ 0 ∷ 1 ∷ []) ∷ (5 ∷ 65536 ∷ 1 ∷ []) ∷ []; pivots = 1 ∷ 3 ∷ 3 ∷ []; info = 0 }
unfolding elimination eliminate_columns eliminate_column with_pivot pivot_from divide subtract quick_inverse inverse_walk
five_by_three = refl

no_second_pivot : shown 65537 3 3 ((1 ∷ 2 ∷ 3 ∷ []) ∷ (1 ∷ 2 ∷ 4 ∷ []) ∷ (2 ∷ 4 ∷ 9 ∷ []) ∷ []) ≡ record { rows = (1 ∷ 2 ∷ 3 ∷ []) ∷ (1 ∷ 0 ∷ 1 ∷ []) ∷ (2 ∷ 0 ∷ 3 ∷ []) ∷ []; pivots = 1 ∷ 2 ∷ 3 ∷ []; info = 2 }
unfolding elimination eliminate_columns eliminate_column with_pivot pivot_from divide subtract quick_inverse inverse_walk
no_second_pivot = refl

-- by panels of two columns: the last one narrow, and two whole ones with two exchanges

three_by_five_by_panels : shown_by_panels 7 3 5 2 2 ((1 ∷ 2 ∷ 3 ∷ 4 ∷ 5 ∷ []) ∷ (2 ∷ 4 ∷ 0 ∷ 1 ∷ 2 ∷ []) ∷ (1 ∷ 3 ∷ 3 ∷ 5 ∷ 6 ∷ []) ∷ []) ≡ record { rows = (1 ∷ 2 ∷ 3 ∷ 4 ∷ 5 ∷ []) ∷ (1 ∷ 1 ∷ 0 ∷ 1 ∷ 1 ∷ []) ∷ (2 ∷ 0 ∷ 1 ∷ 0 ∷ 6 ∷ []) ∷ []; pivots = 1 ∷ 3 ∷ 3 ∷ []; info = 0 }
unfolding elimination eliminate_columns eliminate_column with_pivot pivot_from divide subtract quick_inverse inverse_walk eliminate_panels with_panel panel_words came_from pivot_row reduced sum_to substituted solution
three_by_five_by_panels = refl

four_by_four : shown 13 4 4 ((1 ∷ 1 ∷ 1 ∷ 1 ∷ []) ∷ (2 ∷ 2 ∷ 3 ∷ 5 ∷ []) ∷ (3 ∷ 7 ∷ 1 ∷ 2 ∷ []) ∷ (4 ∷ 9 ∷ 4 ∷ 4 ∷ []) ∷ []) ≡ record { rows = (1 ∷ 1 ∷ 1 ∷ 1 ∷ []) ∷ (3 ∷ 4 ∷ 11 ∷ 12 ∷ []) ∷ (2 ∷ 0 ∷ 1 ∷ 3 ∷ []) ∷ (4 ∷ 11 ∷ 9 ∷ 10 ∷ []) ∷ []; pivots = 1 ∷ 3 ∷ 3 ∷ 4 ∷ []; info = 0 }
unfolding elimination eliminate_columns eliminate_column with_pivot pivot_from divide subtract quick_inverse inverse_walk
four_by_four = refl

four_by_four_by_panels : shown_by_panels 13 4 4 2 2 ((1 ∷ 1 ∷ 1 ∷ 1 ∷ []) ∷ (2 ∷ 2 ∷ 3 ∷ 5 ∷ []) ∷ (3 ∷ 7 ∷ 1 ∷ 2 ∷ []) ∷ (4 ∷ 9 ∷ 4 ∷ 4 ∷ []) ∷ []) ≡ record { rows = (1 ∷ 1 ∷ 1 ∷ 1 ∷ []) ∷ (3 ∷ 4 ∷ 11 ∷ 12 ∷ []) ∷ (2 ∷ 0 ∷ 1 ∷ 3 ∷ []) ∷ (4 ∷ 11 ∷ 9 ∷ 10 ∷ []) ∷ []; pivots = 1 ∷ 3 ∷ 3 ∷ 4 ∷ []; info = 0 }
unfolding elimination eliminate_columns eliminate_column with_pivot pivot_from divide subtract quick_inverse inverse_walk eliminate_panels with_panel panel_words came_from pivot_row reduced sum_to substituted solution
four_by_four_by_panels = refl

-- rows 2 0 and 1 1
lower : Matrix
lower = record { rows = 2; columns = (2 ∷ 1 ∷ []) ∷ (0 ∷ 1 ∷ []) ∷ [] }

-- what elimination leaves of rows 2 1 and 1 1
factors : Matrix
factors = record { rows = 2; columns = (2 ∷ 32769 ∷ []) ∷ (1 ∷ 32769 ∷ []) ∷ [] }

-- rows 1 0 and 4 0
no_triangle : Matrix
no_triangle = record { rows = 2; columns = (1 ∷ 4 ∷ []) ∷ (0 ∷ 0 ∷ []) ∷ [] }

right_side : Matrix
right_side = record { rows = 2; columns = (3 ∷ 5 ∷ []) ∷ [] }

solved_lower : triangle_solved 65537 (quick_inverse 65537) true false 1 lower right_side ≡ record { matrix = record { rows = 2; columns = (32770 ∷ 32772 ∷ []) ∷ [] }; info = 0 }
unfolding entry tabulate sum_to substituted solution least_zero came_from pivot_row quick_inverse inverse_walk lower right_side
solved_lower = refl

solved_unit : triangle_solved 65537 (quick_inverse 65537) true true 1 lower right_side ≡ record { matrix = record { rows = 2; columns = (3 ∷ 2 ∷ []) ∷ [] }; info = 0 }
unfolding entry tabulate sum_to substituted solution least_zero came_from pivot_row quick_inverse inverse_walk lower right_side
solved_unit = refl

not_solved : triangle_solved 65537 (quick_inverse 65537) true false 1 no_triangle right_side ≡ record { matrix = right_side; info = 2 }
unfolding entry tabulate sum_to substituted solution least_zero came_from pivot_row quick_inverse inverse_walk no_triangle right_side
not_solved = refl

solved_by_factors : factors_solved 65537 (quick_inverse 65537) factors (1 ∷ 2 ∷ []) (record { rows = 2; columns = (5 ∷ 3 ∷ []) ∷ [] }) ≡ record { matrix = record { rows = 2; columns = (2 ∷ 1 ∷ []) ∷ [] }; info = 0 }
unfolding entry tabulate sum_to substituted solution least_zero came_from pivot_row quick_inverse inverse_walk factors
solved_by_factors = refl

product : product_of 65537 1 (record { rows = 2; columns = (1 ∷ 3 ∷ []) ∷ (2 ∷ 4 ∷ []) ∷ [] }) (record { rows = 2; columns = (5 ∷ 7 ∷ []) ∷ (6 ∷ 8 ∷ []) ∷ [] }) 0 lower ≡ record { rows = 2; columns = (19 ∷ 43 ∷ []) ∷ (22 ∷ 50 ∷ []) ∷ [] }
unfolding entry tabulate sum_to lower
product = refl

wrapped_product : product_of 65537 65536 (record { rows = 1; columns = (65536 ∷ []) ∷ [] }) (record { rows = 1; columns = (65536 ∷ []) ∷ [] }) 65536 (record { rows = 1; columns = (1 ∷ []) ∷ [] }) ≡ record { rows = 1; columns = (65535 ∷ []) ∷ [] }
unfolding entry tabulate sum_to
wrapped_product = refl

copied : window_copied 3 3 (record { rows = 3; columns = (11 ∷ 21 ∷ 31 ∷ []) ∷ (12 ∷ 22 ∷ 32 ∷ []) ∷ (13 ∷ 23 ∷ 33 ∷ []) ∷ (14 ∷ 24 ∷ 34 ∷ []) ∷ [] }) 1 2 (record { rows = 3; columns = (0 ∷ 0 ∷ 0 ∷ []) ∷ (0 ∷ 0 ∷ 0 ∷ []) ∷ (0 ∷ 0 ∷ 0 ∷ []) ∷ (0 ∷ 0 ∷ 0 ∷ []) ∷ [] }) 1 1 ≡ record { rows = 3; columns = (12 ∷ 22 ∷ 32 ∷ []) ∷ (13 ∷ 23 ∷ 33 ∷ []) ∷ (14 ∷ 24 ∷ 34 ∷ []) ∷ (0 ∷ 0 ∷ 0 ∷ []) ∷ [] }
unfolding entry tabulate patched
copied = refl
