-- The array descriptor of a dense matrix (ScaLAPACK Users' Guide, section 4.3.3; TOOLS routine DESCINIT).
use Rattle.std.specs.Prelude.{◌≡◌, ℕ, ◌<◌, ◌≤◌, Bool, ◌&&◌, not, nat_lt, nat_le, Option, List, [], ◌∷◌, find, option_map}
use Rattle.array_desc.specs.declared.Desc.{Desc}
use Rattle.array_desc.specs.Limits.{size_limit, block_limit}
use Rattle.array_desc.specs.Maps.{most_rows}

-- whether n is from 1 to the limit
abbrev pub is_between_one_and : ℕ → ℕ → Bool
is_between_one_and limit n = nat_le 1 n && nat_le n limit

-- the entries that a caller gives, by their numbers in the descriptor, each with whether it is in its range
abbrev pub checked_entries : ℕ → ℕ → ℕ → ℕ → ℕ → ℕ → ℕ → ℕ → List (ℕ × Bool)
checked_entries p q m n mb nb rsrc csrc =
    (3, is_between_one_and size_limit m) ∷ (4, is_between_one_and size_limit n)
    ∷ (5, is_between_one_and block_limit mb) ∷ (6, is_between_one_and block_limit nb)
    ∷ (7, nat_lt rsrc p) ∷ (8, nat_lt csrc q) ∷ []

-- the number of the first entry out of its range, if there is one
abbrev pub first_bad_entry : ℕ → ℕ → ℕ → ℕ → ℕ → ℕ → ℕ → ℕ → Option ℕ
first_bad_entry p q m n mb nb rsrc csrc =
    option_map (λ entry. entry.0) (find (λ entry. not entry.1) (checked_entries p q m n mb nb rsrc csrc))

-- the descriptor with these entries: its type is 1 (dense), and LLD_ is the greatest number of local rows on a process row
abbrev pub desc_of : ℕ → ℕ → ℕ → ℕ → ℕ → ℕ → ℕ → ℕ → ℕ → Desc
desc_of ctxt p q m n mb nb rsrc csrc =
    record { dtype = 1; ctxt = ctxt; m = m; n = n; mb = mb; nb = nb; rsrc = rsrc; csrc = csrc; lld = most_rows m mb p rsrc }

-- a descriptor on a grid of p process rows and q process columns, every entry in its range
pub record IsDesc (p q : ℕ) (d : Desc) : Type 0 where
  pub dense : d.dtype ≡ 1
  pub some_rows : 1 ≤ d.m
  pub rows : d.m ≤ size_limit
  pub some_columns : 1 ≤ d.n
  pub columns : d.n ≤ size_limit
  pub some_block_rows : 1 ≤ d.mb
  pub block_rows : d.mb ≤ block_limit
  pub some_block_columns : 1 ≤ d.nb
  pub block_columns : d.nb ≤ block_limit
  pub row_source : d.rsrc < p
  pub column_source : d.csrc < q
  pub local_rows : d.lld ≡ most_rows d.m d.mb p d.rsrc
