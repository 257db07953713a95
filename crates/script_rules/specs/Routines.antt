-- The argument rules of the routines. The code of an argument is the negative of its number in the routine's argument list, where a matrix
-- stands for its array and its descriptor; the code of a descriptor entry is the negative of 100 times the descriptor's number and the entry's.
-- Scalars are below the modulus p of the script.
use Rattle.std.specs.Prelude.{ℕ, ◌+◌, ◌-◌, ◌==◌, if◌then◌else◌, Bool, ◌&&◌, ◌||◌, nat_le, nat_lt, List, [], ◌∷◌, ◌++◌, codes, ℤ, negsuc}
use Rattle.std.specs.Str.{bytes_eq}
use Rattle.script_rules.specs.declared.distributions.Distribution.{Distribution}

-- the code of an argument, or of an entry of a descriptor
abbrev pub argument : ℕ → ℤ
argument number = negsuc (number - 1)

-- a word is an option of one letter, in either case
abbrev pub is_option : List ℕ → List ℕ → List ℕ → Bool
is_option upper lower word = bytes_eq word upper || bytes_eq word lower

-- PGEMM: TRANSA 1, TRANSB 2, M 3, N 4, K 5, ALPHA 6, A 7, IA 8, JA 9, DESCA 10, B 11, IB 12, JB 13, DESCB 14, BETA 15, C 16, IC 17, JC 18,
-- DESCC 19. First those of the factors, then those of the sum; `apart`: C is neither A nor B.
abbrev pub factor_rules : ℕ → List ℕ → List ℕ → ℕ → ℕ → ℕ → ℕ → ℕ → ℕ → ℕ → ℕ → Distribution → Distribution → List (ℤ × Bool)
factor_rules p transa transb m n k alpha ia ja ib jb a b =
    (argument 1, is_option (codes "N") (codes "n") transa)
    ∷ (argument 2, is_option (codes "N") (codes "n") transb)
    ∷ (argument 3, m == a.m)
    ∷ (argument 4, n == b.n)
    ∷ (argument 5, k == a.n)
    ∷ (argument 6, nat_lt alpha p)
    ∷ (argument 8, ia == 1)
    ∷ (argument 9, ja == 1)
    ∷ (argument 12, ib == 1)
    ∷ (argument 13, jb == 1)
    ∷ (argument 1402, b.grid == a.grid)
    ∷ (argument 1403, b.m == k)
    ∷ (argument 1405, b.mb == a.nb) ∷ []

abbrev pub sum_rules : ℕ → ℕ → ℕ → ℕ → Bool → ℕ → ℕ → Distribution → Distribution → Distribution → List (ℤ × Bool)
sum_rules p m n beta apart ic jc a b c =
    (argument 15, nat_lt beta p)
    ∷ (argument 16, apart)
    ∷ (argument 17, ic == 1)
    ∷ (argument 18, jc == 1)
    ∷ (argument 1902, c.grid == a.grid)
    ∷ (argument 1903, c.m == m)
    ∷ (argument 1904, c.n == n)
    ∷ (argument 1905, c.mb == a.mb)
    ∷ (argument 1906, c.nb == b.nb)
    ∷ (argument 1907, c.rsrc == a.rsrc)
    ∷ (argument 1908, c.csrc == b.csrc) ∷ []

abbrev pub pgemm_rules : ℕ → List ℕ → List ℕ → ℕ → ℕ → ℕ → ℕ → ℕ → ℕ → ℕ → ℕ → ℕ → Bool → ℕ → ℕ → Distribution → Distribution → Distribution → List (ℤ × Bool)
pgemm_rules p transa transb m n k alpha ia ja ib jb beta apart ic jc a b c =
    factor_rules p transa transb m n k alpha ia ja ib jb a b ++ sum_rules p m n beta apart ic jc a b c

-- PTRSM: SIDE 1, UPLO 2, TRANSA 3, DIAG 4, M 5, N 6, ALPHA 7, A 8, IA 9, JA 10, DESCA 11, B 12, IB 13, JB 14, DESCB 15. First those of the options, then
-- those of the side from which A stands; `apart`: B is not A.
abbrev pub option_rules : List ℕ → List ℕ → List ℕ → List ℕ → List (ℤ × Bool)
option_rules side uplo transa diag =
    (argument 1, is_option (codes "L") (codes "l") side || is_option (codes "R") (codes "r") side)
    ∷ (argument 2, is_option (codes "L") (codes "l") uplo || is_option (codes "U") (codes "u") uplo)
    ∷ (argument 3, is_option (codes "N") (codes "n") transa || is_option (codes "T") (codes "t") transa)
    ∷ (argument 4, is_option (codes "N") (codes "n") diag || is_option (codes "U") (codes "u") diag) ∷ []

abbrev pub left_rules : ℕ → ℕ → ℕ → ℕ → ℕ → ℕ → Bool → ℕ → ℕ → Distribution → Distribution → List (ℤ × Bool)
left_rules p m n alpha ia ja apart ib jb a b =
    (argument 5, m == a.m)
    ∷ (argument 6, n == b.n)
    ∷ (argument 7, nat_lt alpha p)
    ∷ (argument 9, ia == 1)
    ∷ (argument 10, ja == 1)
    ∷ (argument 1104, a.n == m)
    ∷ (argument 1106, a.nb == a.mb)
    ∷ (argument 12, apart)
    ∷ (argument 13, ib == 1)
    ∷ (argument 14, jb == 1)
    ∷ (argument 1502, b.grid == a.grid)
    ∷ (argument 1503, b.m == m)
    ∷ (argument 1505, b.mb == a.mb)
    ∷ (argument 1507, b.rsrc == a.rsrc) ∷ []

abbrev pub right_rules : ℕ → ℕ → ℕ → ℕ → ℕ → ℕ → Bool → ℕ → ℕ → Distribution → Distribution → List (ℤ × Bool)
right_rules p m n alpha ia ja apart ib jb a b =
    (argument 5, m == b.m)
    ∷ (argument 6, n == a.m)
    ∷ (argument 7, nat_lt alpha p)
    ∷ (argument 9, ia == 1)
    ∷ (argument 10, ja == 1)
    ∷ (argument 1104, a.n == n)
    ∷ (argument 1106, a.nb == a.mb)
    ∷ (argument 12, apart)
    ∷ (argument 13, ib == 1)
    ∷ (argument 14, jb == 1)
    ∷ (argument 1502, b.grid == a.grid)
    ∷ (argument 1504, b.n == n)
    ∷ (argument 1506, b.nb == a.nb) ∷ []

abbrev pub ptrsm_rules : ℕ → List ℕ → List ℕ → List ℕ → List ℕ → ℕ → ℕ → ℕ → ℕ → ℕ → Bool → ℕ → ℕ → Distribution → Distribution → List (ℤ × Bool)
ptrsm_rules p side uplo transa diag m n alpha ia ja apart ib jb a b =
    option_rules side uplo transa diag
    ++ (if is_option (codes "L") (codes "l") side then left_rules p m n alpha ia ja apart ib jb a b else right_rules p m n alpha ia ja apart ib jb a b)

-- PGETRF: M 1, N 2, A 3, IA 4, JA 5, DESCA 6
abbrev pub pgetrf_rules : ℕ → ℕ → ℕ → ℕ → Distribution → List (ℤ × Bool)
pgetrf_rules m n ia ja a =
    (argument 1, m == a.m)
    ∷ (argument 2, n == a.n)
    ∷ (argument 4, ia == 1)
    ∷ (argument 5, ja == 1)
    ∷ (argument 606, a.nb == a.mb) ∷ []

-- PGETRS: TRANS 1, N 2, NRHS 3, A 4, IA 5, JA 6, DESCA 7, IPIV 8, B 9, IB 10, JB 11, DESCB 12; `v` is the matrix whose factorization made
-- the pivot list; `apart`: B is not A
abbrev pub pgetrs_rules : List ℕ → ℕ → ℕ → ℕ → ℕ → Bool → ℕ → ℕ → Distribution → Distribution → Distribution → List (ℤ × Bool)
pgetrs_rules trans n nrhs ia ja apart ib jb a v b =
    (argument 1, is_option (codes "N") (codes "n") trans || is_option (codes "T") (codes "t") trans)
    ∷ (argument 2, n == a.m)
    ∷ (argument 3, nrhs == b.n)
    ∷ (argument 5, ia == 1)
    ∷ (argument 6, ja == 1)
    ∷ (argument 704, a.n == n)
    ∷ (argument 706, a.nb == a.mb)
    ∷ (argument 8, (v.m == n) && (v.n == n) && (v.grid == a.grid))
    ∷ (argument 9, apart)
    ∷ (argument 10, ib == 1)
    ∷ (argument 11, jb == 1)
    ∷ (argument 1202, b.grid == a.grid)
    ∷ (argument 1203, b.m == n)
    ∷ (argument 1205, b.mb == a.mb)
    ∷ (argument 1207, b.rsrc == a.rsrc) ∷ []

-- a window of `count` from index `first`, counted from 1, lies within `size`
abbrev pub is_within : ℕ → ℕ → ℕ → Bool
is_within first count size = nat_le 1 first && nat_le (first + count) (size + 1)

-- PGEMR2D: M 1, N 2, A 3, IA 4, JA 5, DESCA 6, B 7, IB 8, JB 9, DESCB 10, CTXT 11; `apart`: B is not A
abbrev pub pgemr2d_rules : ℕ → ℕ → ℕ → ℕ → Bool → ℕ → ℕ → List ℕ → Distribution → Distribution → List (ℤ × Bool)
pgemr2d_rules m n ia ja apart ib jb ctxt a b =
    (argument 1, nat_le 1 m)
    ∷ (argument 2, nat_le 1 n)
    ∷ (argument 4, is_within ia m a.m)
    ∷ (argument 5, is_within ja n a.n)
    ∷ (argument 7, apart)
    ∷ (argument 8, is_within ib m b.m)
    ∷ (argument 9, is_within jb n b.n)
    ∷ (argument 11, bytes_eq ctxt (codes "all")) ∷ []

-- PTRAN: M 1, N 2, ALPHA 3, A 4, IA 5, JA 6, DESCA 7, BETA 8, C 9, IC 10, JC 11, DESCC 12; `apart`: C is not A
abbrev pub ptran_rules : ℕ → ℕ → ℕ → ℕ → ℕ → ℕ → ℕ → Bool → ℕ → ℕ → Distribution → Distribution → List (ℤ × Bool)
ptran_rules p m n alpha ia ja beta apart ic jc a c =
    (argument 1, m == c.m)
    ∷ (argument 2, n == c.n)
    ∷ (argument 3, nat_lt alpha p)
    ∷ (argument 5, ia == 1)
    ∷ (argument 6, ja == 1)
    ∷ (argument 703, a.m == n)
    ∷ (argument 704, a.n == m)
    ∷ (argument 8, nat_lt beta p)
    ∷ (argument 9, apart)
    ∷ (argument 10, ic == 1)
    ∷ (argument 11, jc == 1)
    ∷ (argument 1202, c.grid == a.grid) ∷ []

-- PGETRI: N 1, A 2, IA 3, JA 4, DESCA 5, IPIV 6, B 7, IB 8, JB 9, DESCB 10; `v` is the matrix whose factorization made the pivot list; `apart`: B is not A
abbrev pub pgetri_rules : ℕ → ℕ → ℕ → Bool → ℕ → ℕ → Distribution → Distribution → Distribution → List (ℤ × Bool)
pgetri_rules n ia ja apart ib jb a v b =
    (argument 1, n == a.m)
    ∷ (argument 3, ia == 1)
    ∷ (argument 4, ja == 1)
    ∷ (argument 504, a.n == n)
    ∷ (argument 506, a.nb == a.mb)
    ∷ (argument 6, (v.m == n) && (v.n == n) && (v.grid == a.grid))
    ∷ (argument 7, apart)
    ∷ (argument 8, ib == 1)
    ∷ (argument 9, jb == 1)
    ∷ (argument 1002, b.grid == a.grid)
    ∷ (argument 1003, b.m == n)
    ∷ (argument 1004, b.n == n)
    ∷ (argument 1005, b.mb == a.mb)
    ∷ (argument 1007, b.rsrc == a.rsrc) ∷ []
