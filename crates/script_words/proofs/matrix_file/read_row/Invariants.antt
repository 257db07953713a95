use Rattle.std.proofs.Common.{◌≡◌, drop}
use Rattle.std.specs.List.{list_all}
use Rattle.script_words.specs.Lines.{words_of}
use Rattle.script_words.specs.MatrixFile.{is_residue_word}
use Rattle.script_words.proofs.Filling.{row_done}
use Rattle.script_words.proofs.matrix_file.read_row.Given as goal

abbrev pub invariant-loop-j : goal.invariant-loop-j
invariant-loop-j l =
    (l.matrix ≡ row_done l.modulus l.initial.matrix l.i (words_of l.text) l.j)
    × (list_all (is_residue_word l.modulus) (drop l.j (words_of l.text)) ≡ list_all (is_residue_word l.modulus) (words_of l.text))
    × (drop l.j (words_of l.text) ≡ words_of l.rest)
