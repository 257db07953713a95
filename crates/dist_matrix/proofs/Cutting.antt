-- What a loop that cuts a strip has made.
use Rattle.std.proofs.Common.{◌≡◌, ℕ, ◌+◌, ◌-◌, ◌*◌, ◌<◌, min, nat_lt, if◌then◌else◌, ◌∙◌, ap, arith}
use Rattle.std.proofs.lemmas.Bool.Decides.{nat_tests}
use Rattle.run_data.specs.Matrix.{Matrix, cols, entry, tabulate, zero_matrix}
use Rattle.run_data.specs.Parts.{patched, with_part}
use Rattle.run_data.proofs.Matrices.{rows-tabulate, cols-tabulate, entry-tabulate, tabulate-same}
use Rattle.run_data.proofs.Fills.{all_of}
use Rattle.array_desc.specs.Maps.{global}
use Rattle.blacs_grid.specs.Places.{row_of, col_of}
use Rattle.rank_machine.specs.declared.layout.Layout.{Layout}
use Rattle.rank_machine.specs.Setting.{strip_rows, strip_of, block_at}

padded-word : (rows nb n first columns : ℕ) (f g : ℕ → ℕ → ℕ) (i j : ℕ) → columns ≡ min (n - first) nb → i < rows → j < nb → g i j ≡ 0
    → patched (all_of rows columns) (λ i j. f i (first + j)) g i j ≡ (if nat_lt (first + j) n then f i (first + j) else 0)
unfolding patched
padded-word rows nb n first columns f g i j width row column none = grind (arith, nat_tests)

-- a matrix of zeros with the words of the first columns written
padded_is : (rows nb n first columns : ℕ) (f : ℕ → ℕ → ℕ) → columns ≡ min (n - first) nb
    → with_part (zero_matrix rows nb) (all_of rows columns) (λ i j. f i (first + j)) ≡ tabulate rows nb (λ i j. if nat_lt (first + j) n then f i (first + j) else 0)
padded_is rows nb n first columns f width =
    let a : Matrix = zero_matrix rows nb in
    let g : ℕ → ℕ → ℕ = patched (all_of rows columns) (λ i j. f i (first + j)) (entry a) in
    ap (λ k. tabulate k (cols a) g) (rows-tabulate rows nb (λ i j. 0)) ∙ ap (λ k. tabulate rows k g) (cols-tabulate rows nb (λ i j. 0))
    ∙ tabulate-same rows nb g (λ i j. if nat_lt (first + j) n then f i (first + j) else 0)
    (λ i j row column. padded-word rows nb n first columns f (entry a) i j width row column (entry-tabulate rows nb (λ i j. 0) i j row column))

-- the strip is that
pub strip_is : (d : Layout) (m : Matrix) (rank group rows row first columns : ℕ) → row ≡ row_of d.grid rank → rows ≡ strip_rows d (row_of d.grid rank)
    → first ≡ block_at d group (col_of d.grid rank) * d.desc.nb → columns ≡ min (d.desc.n - first) d.desc.nb
    → with_part (zero_matrix rows d.desc.nb) (all_of rows columns) (λ i j. entry m (global i d.desc.mb row d.desc.rsrc d.grid.p) (first + j)) ≡ strip_of d m rank group
strip_is d m rank group rows row first columns row_is rows_are first_is width =
    let word : ℕ → ℕ → ℕ → ℕ → ℕ = λ row first i j. if nat_lt (first + j) d.desc.n then entry m (global i d.desc.mb row d.desc.rsrc d.grid.p) (first + j) else 0 in
    padded_is rows d.desc.nb d.desc.n first columns (λ i j. entry m (global i d.desc.mb row d.desc.rsrc d.grid.p) j) width
    ∙ ap (λ k. tabulate k d.desc.nb (word row first)) rows_are
    ∙ ap (λ r. tabulate (strip_rows d (row_of d.grid rank)) d.desc.nb (word r first)) row_is
    ∙ ap (λ c. tabulate (strip_rows d (row_of d.grid rank)) d.desc.nb (word (row_of d.grid rank) c)) first_is
