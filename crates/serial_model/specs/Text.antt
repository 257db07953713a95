-- The texts of printed values: lines with single spaces between words.
use Rattle.std.specs.Prelude.{ℕ, List, [], ◌∷◌, ◌++◌, length, map, codes, decimal}
use Rattle.std.specs.List.{flat_map, range_with_len}
use Rattle.run_data.specs.Matrix.{Matrix, cols, entry}
use Rattle.run_data.specs.Text.{line_of}

-- row i, counted from 0, as a line of its words
abbrev pub row_text : Matrix → ℕ → List ℕ
row_text m i = line_of (map (λ j. decimal (entry m i j)) (range_with_len 0 (cols m)))

-- a printed matrix: its name and shape, and its rows
abbrev pub matrix_text : List ℕ → Matrix → List ℕ
matrix_text name m = line_of (name ∷ decimal m.rows ∷ decimal (cols m) ∷ []) ++ flat_map (row_text m) (range_with_len 0 m.rows)

-- a printed pivot list: its name and length, and its numbers on one line
abbrev pub pivots_text : List ℕ → List ℕ → List ℕ
pivots_text name v = line_of (name ∷ decimal (length v) ∷ []) ++ line_of (map decimal v)

-- what a command says of the matrix that it changed
abbrev pub info_text : List ℕ → List ℕ → ℕ → List ℕ
info_text command name info = line_of (command ∷ name ∷ codes "info" ∷ decimal info ∷ [])

-- how many wrong words of a matrix were found
abbrev pub wrong_text : List ℕ → ℕ → List ℕ
wrong_text name count = line_of (codes "pverify" ∷ name ∷ codes "wrong" ∷ decimal count ∷ [])
