-- The rows of a matrix file, one after the other.
use Rattle.std.proofs.Common.{◌≡◌, ℕ, ◌<◌, true, false, cond, List, [], ◌∷◌, length, drop, sym, ap, ◌∙◌, arith}
use Rattle.script_words.specs.Lines.{until, from_on, is_line_feed, has_items, line_words, word_lines}
use Rattle.std.specs.List.{filter}
use Rattle.std.specs.Prelude.{map}
use Rattle.script_words.specs.MatrixFile.{rows_of}
use Rattle.script_words.proofs.Cuts.{lines_of-cut}

cut_rows : (text line after next : List ℕ) → 0 < length text → line ≡ until is_line_feed text → after ≡ from_on is_line_feed text → next ≡ drop 1 after →
    rows_of text ≡ cond (has_items (line_words line)) (line_words line ∷ rows_of next) (rows_of next)
unfolding rows_of word_lines
cut_rows [] line after next lt l a n = absurd (omega arith)
cut_rows (b ∷ bs) line after next lt l a n =
    ap (λ ls. filter has_items (map line_words ls)) (lines_of-cut b bs)
    ∙ ap (λ (p : List ℕ × List ℕ). cond (has_items (line_words p.0)) (line_words p.0 ∷ rows_of p.1) (rows_of p.1)) (sym (λ i. (l i, (n ∙ ap (drop 1) a) i)))

-- a line with words is the next row
pub rows_of-cut : (text line after next : List ℕ) (words : List (List ℕ)) → 0 < length text → line ≡ until is_line_feed text → after ≡ from_on is_line_feed text → next ≡ drop 1 after →
    words ≡ line_words line → has_items words ≡ true → rows_of text ≡ words ∷ rows_of next
rows_of-cut text line after next words lt l a n w h =
    cut_rows text line after next lt l a n ∙ ap (λ ws. cond (has_items ws) (ws ∷ rows_of next) (rows_of next)) (sym w) ∙ ap (λ t. cond t (words ∷ rows_of next) (rows_of next)) h

-- a line without words is no row
pub rows_of-none : (text line after next : List ℕ) (words : List (List ℕ)) → 0 < length text → line ≡ until is_line_feed text → after ≡ from_on is_line_feed text → next ≡ drop 1 after →
    words ≡ line_words line → has_items words ≡ false → rows_of text ≡ rows_of next
rows_of-none text line after next words lt l a n w h =
    cut_rows text line after next lt l a n ∙ ap (λ ws. cond (has_items ws) (ws ∷ rows_of next) (rows_of next)) (sym w) ∙ ap (λ t. cond t (words ∷ rows_of next) (rows_of next)) h
