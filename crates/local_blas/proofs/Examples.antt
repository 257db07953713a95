-- The kernels' definitions, evaluated at numerals.
use Rattle.std.proofs.Common.{◌≡◌, ◌∷◌, [], false, nat_le, refl}
use Rattle.field_core.specs.Sums.{sum_to}
use Rattle.field_core.proofs.Computing.{quick_inverse, inverse_walk}
use Rattle.run_data.specs.Matrix.{Matrix, entry, tabulate}
use Rattle.run_data.specs.Parts.{patched, whole_part}
use Rattle.local_blas.specs.Kernels.{with_product, substituted, solution, with_solved_lower, with_solved_upper, with_eliminated, with_rows_swapped}

-- rows 1 2 and 3 4
left : Matrix
left = record { rows = 2; columns = (1 ∷ 3 ∷ []) ∷ (2 ∷ 4 ∷ []) ∷ [] }

-- rows 2 0 and 1 1
lower : Matrix
lower = record { rows = 2; columns = (2 ∷ 1 ∷ []) ∷ (0 ∷ 1 ∷ []) ∷ [] }

-- rows 3 and 5
column : Matrix
column = record { rows = 2; columns = (3 ∷ 5 ∷ []) ∷ [] }

product : with_product 65537 column (whole_part column) 65536 left (whole_part left) column (whole_part column) ≡ record { rows = 2; columns = (65527 ∷ 65513 ∷ []) ∷ [] }
unfolding entry tabulate patched sum_to left column
product = refl

solved_lower : with_solved_lower 65537 (quick_inverse 65537) column (whole_part column) lower (whole_part lower) false ≡ record { rows = 2; columns = (32770 ∷ 32772 ∷ []) ∷ [] }
unfolding entry tabulate patched sum_to substituted solution quick_inverse inverse_walk lower column
solved_lower = refl

solved_upper : with_solved_upper 65537 (quick_inverse 65537) column (whole_part column) left (whole_part left) false ≡ record { rows = 2; columns = (32769 ∷ 49154 ∷ []) ∷ [] }
unfolding entry tabulate patched sum_to substituted solution quick_inverse inverse_walk left column
solved_upper = refl

eliminated : with_eliminated 65537 (quick_inverse 65537) left (nat_le 1) 0 lower (record { r0 = 0; r1 = 1; c0 = 0; c1 = 2 }) ≡ record { rows = 2; columns = (1 ∷ 32770 ∷ []) ∷ (2 ∷ 4 ∷ []) ∷ [] }
unfolding entry tabulate quick_inverse inverse_walk lower left
eliminated = refl

exchanged : with_rows_swapped left 0 1 ≡ record { rows = 2; columns = (3 ∷ 1 ∷ []) ∷ (4 ∷ 2 ∷ []) ∷ [] }
unfolding entry tabulate left
exchanged = refl
