-- The definitions evaluated on worked matrices, with the words modulo 65537 that were worked out by hand for the same commands.
use Rattle.std.proofs.Common.{◌≡◌, [], ◌∷◌, true, false, refl}
use Rattle.field_core.specs.Sums.{sum_to}
use Rattle.field_core.proofs.Computing.{quick_inverse, inverse_walk}
use Rattle.run_data.specs.Matrix.{Matrix, entry, tabulate, zero_matrix}
use Rattle.local_blas.specs.Kernels.{substituted, solution}
use Rattle.serial_model.specs.Elimination.{pivot_from, divide, subtract, with_pivot, eliminate_column, eliminate_columns, elimination, elimination_of, eliminated_matrix, least_zero, pivot_row, came_from}
use Rattle.serial_model.specs.Solves.{Solved, product_of}
use Rattle.serial_model.specs.Transposes.{inverted, came_back_from, side_solved, trans_solved, transpose_added}
use Rattle.factor_laws.specs.Triangles.{triangle_word, lower_factor, upper_factor}

-- the inverse of a matrix, by its factors
abbrev inverse_of : Matrix → Solved
inverse_of a = inverted 65537 (quick_inverse 65537) (eliminated_matrix 65537 (quick_inverse 65537) a) (elimination_of 65537 (quick_inverse 65537) a).pivots (zero_matrix a.rows a.rows)

two_rows : Matrix
two_rows = record { rows = 2; columns = (2 ∷ 1 ∷ []) ∷ (1 ∷ 1 ∷ []) ∷ [] }

exchanged_rows : Matrix
exchanged_rows = record { rows = 2; columns = (0 ∷ 2 ∷ []) ∷ (1 ∷ 3 ∷ []) ∷ [] }

singular_rows : Matrix
singular_rows = record { rows = 2; columns = (1 ∷ 2 ∷ []) ∷ (2 ∷ 4 ∷ []) ∷ [] }

inverse_two : inverse_of two_rows ≡ record { matrix = record { rows = 2; columns = (1 ∷ 65536 ∷ []) ∷ (65536 ∷ 2 ∷ []) ∷ [] }; info = 0 }
unfolding elimination eliminate_columns eliminate_column with_pivot pivot_from divide subtract quick_inverse inverse_walk entry tabulate sum_to substituted solution least_zero came_from pivot_row two_rows
inverse_two = refl

inverse_exchanged : inverse_of exchanged_rows ≡ record { matrix = record { rows = 2; columns = (32767 ∷ 1 ∷ []) ∷ (32769 ∷ 0 ∷ []) ∷ [] }; info = 0 }
unfolding elimination eliminate_columns eliminate_column with_pivot pivot_from divide subtract quick_inverse inverse_walk entry tabulate sum_to substituted solution least_zero came_from pivot_row exchanged_rows
inverse_exchanged = refl

no_inverse : inverse_of singular_rows ≡ record { matrix = record { rows = 2; columns = (0 ∷ 0 ∷ []) ∷ (0 ∷ 0 ∷ []) ∷ [] }; info = 2 }
unfolding elimination eliminate_columns eliminate_column with_pivot pivot_from divide subtract quick_inverse inverse_walk entry tabulate sum_to substituted solution least_zero came_from pivot_row singular_rows
no_inverse = refl

transposed_sum : transpose_added 65537 2 (record { rows = 2; columns = (1 ∷ 4 ∷ []) ∷ (2 ∷ 5 ∷ []) ∷ (3 ∷ 6 ∷ []) ∷ [] }) 1 (record { rows = 3; columns = (1 ∷ 1 ∷ 1 ∷ []) ∷ (1 ∷ 1 ∷ 1 ∷ []) ∷ [] }) ≡ record { rows = 3; columns = (3 ∷ 5 ∷ 7 ∷ []) ∷ (9 ∷ 11 ∷ 13 ∷ []) ∷ [] }
unfolding entry tabulate
transposed_sum = refl

-- the transpose of the unit lower triangle of rows 1 0 and 2 1
left_transposed : side_solved 65537 (quick_inverse 65537) true true true true 1 (record { rows = 2; columns = (1 ∷ 2 ∷ []) ∷ (0 ∷ 1 ∷ []) ∷ [] }) (record { rows = 2; columns = (5 ∷ 2 ∷ []) ∷ [] }) ≡ record { matrix = record { rows = 2; columns = (1 ∷ 2 ∷ []) ∷ [] }; info = 0 }
unfolding quick_inverse inverse_walk entry tabulate sum_to substituted solution least_zero
left_transposed = refl

-- the upper triangle of rows 2 1 and 0 1 from the right
right_plain : side_solved 65537 (quick_inverse 65537) false false false false 1 (record { rows = 2; columns = (2 ∷ 0 ∷ []) ∷ (1 ∷ 1 ∷ []) ∷ [] }) (record { rows = 1; columns = (4 ∷ []) ∷ (5 ∷ []) ∷ [] }) ≡ record { matrix = record { rows = 1; columns = (2 ∷ []) ∷ (3 ∷ []) ∷ [] }; info = 0 }
unfolding quick_inverse inverse_walk entry tabulate sum_to substituted solution least_zero
right_plain = refl

-- from the right with a zero on the diagonal: B stays
right_singular : side_solved 65537 (quick_inverse 65537) false true false false 1 (record { rows = 2; columns = (2 ∷ 0 ∷ []) ∷ (1 ∷ 0 ∷ []) ∷ [] }) (record { rows = 1; columns = (4 ∷ []) ∷ (5 ∷ []) ∷ [] }) ≡ record { matrix = record { rows = 1; columns = (4 ∷ []) ∷ (5 ∷ []) ∷ [] }; info = 2 }
unfolding quick_inverse inverse_walk entry tabulate sum_to substituted solution least_zero
right_singular = refl

-- with the transpose of the factors of rows 0 1 and 2 3
factors_transposed : trans_solved 65537 (quick_inverse 65537) true (record { rows = 2; columns = (2 ∷ 0 ∷ []) ∷ (3 ∷ 1 ∷ []) ∷ [] }) (2 ∷ 2 ∷ []) (record { rows = 2; columns = (4 ∷ 11 ∷ []) ∷ [] }) ≡ record { matrix = record { rows = 2; columns = (5 ∷ 2 ∷ []) ∷ [] }; info = 0 }
unfolding quick_inverse inverse_walk entry tabulate sum_to substituted solution least_zero came_back_from pivot_row
factors_transposed = refl

-- three rows and five columns; and three rows of which the second column has no pivot
wide_rows : Matrix
wide_rows = record { rows = 3; columns = (1 ∷ 2 ∷ 1 ∷ []) ∷ (2 ∷ 4 ∷ 3 ∷ []) ∷ (3 ∷ 7 ∷ 3 ∷ []) ∷ (4 ∷ 8 ∷ 5 ∷ []) ∷ (5 ∷ 9 ∷ 6 ∷ []) ∷ [] }

no_second : Matrix
no_second = record { rows = 3; columns = (1 ∷ 1 ∷ 2 ∷ []) ∷ (2 ∷ 2 ∷ 4 ∷ []) ∷ (3 ∷ 4 ∷ 9 ∷ []) ∷ [] }

-- the product of the factors
abbrev factors_multiplied : Matrix → Matrix
factors_multiplied a =
    let f = eliminated_matrix 65537 (quick_inverse 65537) a in
    product_of 65537 1 (lower_factor f) (upper_factor f) 0 a

wide_multiplied : factors_multiplied wide_rows ≡ record { rows = 3; columns = (1 ∷ 1 ∷ 2 ∷ []) ∷ (2 ∷ 3 ∷ 4 ∷ []) ∷ (3 ∷ 3 ∷ 7 ∷ []) ∷ (4 ∷ 5 ∷ 8 ∷ []) ∷ (5 ∷ 6 ∷ 9 ∷ []) ∷ [] }
unfolding elimination eliminate_columns eliminate_column with_pivot pivot_from divide subtract quick_inverse inverse_walk entry tabulate sum_to triangle_word wide_rows
wide_multiplied = refl

no_second_multiplied : factors_multiplied no_second ≡ no_second
unfolding elimination eliminate_columns eliminate_column with_pivot pivot_from divide subtract quick_inverse inverse_walk entry tabulate sum_to triangle_word no_second
no_second_multiplied = refl
