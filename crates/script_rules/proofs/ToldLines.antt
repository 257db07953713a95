-- What lines tell as a script, one line after another, as a loop adds it up.
use Rattle.std.proofs.Common.{◌≡◌, ℕ, ◌+◌, ◌*◌, ◌<◌, ◌≤◌, true, cond, List, [], ◌∷◌, length, get_or, drop, sym, ap, ◌∙◌, arith}
use Rattle.std.specs.Prelude.{codes}
use Rattle.std.specs.List.{sum_by}
use Rattle.std.specs.Str.{bytes_eq}
use Rattle.std.proofs.lemmas.List.{length-drop}
use Rattle.std.proofs.lemmas.List.Sums.{sum_by-cons}
use Rattle.script_rules.specs.declared.told.Told.{Told}
use Rattle.script_words.specs.Numbers.{number_of}
use Rattle.script_words.specs.Lines.{until, from_on, is_line_feed, line_words, word_lines}
use Rattle.script_rules.specs.Told.{shape_ranks, ranks_told, told_by}
use Rattle.script_words.proofs.Cuts.{word_lines-cut, word_lines-end}

-- a `grid` line of five words
pub ranks_told-grid : (first name p q f : List ℕ) → bytes_eq first (codes "grid") ≡ true → ranks_told (first ∷ name ∷ p ∷ q ∷ f ∷ []) ≡ shape_ranks (number_of p) (number_of q) (number_of f)
ranks_told-grid first name p q f t = ap (λ b. cond b (shape_ranks (number_of p) (number_of q) (number_of f)) 0) t

-- the same by the places of its words
pub ranks_told-five : (words : List (List ℕ)) (first p q f : List ℕ) → 5 ≤ length words → length words < 6 → first ≡ get_or words 0 first → p ≡ get_or words 2 p → q ≡ get_or words 3 q → f ≡ get_or words 4 f →
    bytes_eq first (codes "grid") ≡ true → ranks_told words ≡ shape_ranks (number_of p) (number_of q) (number_of f)
ranks_told-five [] first p q f le lt e0 e2 e3 e4 t = absurd (omega arith)
ranks_told-five (x0 ∷ []) first p q f le lt e0 e2 e3 e4 t = absurd (omega arith)
ranks_told-five (x0 ∷ x1 ∷ []) first p q f le lt e0 e2 e3 e4 t = absurd (omega arith)
ranks_told-five (x0 ∷ x1 ∷ x2 ∷ []) first p q f le lt e0 e2 e3 e4 t = absurd (omega arith)
ranks_told-five (x0 ∷ x1 ∷ x2 ∷ x3 ∷ []) first p q f le lt e0 e2 e3 e4 t = absurd (omega arith)
ranks_told-five (x0 ∷ x1 ∷ x2 ∷ x3 ∷ x4 ∷ []) first p q f le lt e0 e2 e3 e4 t =
    ranks_told-grid x0 x1 x2 x3 x4 (ap (λ x. bytes_eq x (codes "grid")) (sym e0) ∙ t) ∙ ap (λ x. shape_ranks (number_of x) (number_of x3) (number_of x4)) (sym e2)
    ∙ ap (λ x. shape_ranks (number_of p) (number_of x) (number_of x4)) (sym e3) ∙ ap (λ x. shape_ranks (number_of p) (number_of q) (number_of x)) (sym e4)
ranks_told-five (x0 ∷ x1 ∷ x2 ∷ x3 ∷ x4 ∷ x5 ∷ more) first p q f le lt e0 e2 e3 e4 t = absurd (omega arith)

-- ---- telling line by line, as a loop does

-- what the lines so far tell, beside the text that is left of a text of so many bytes
pub record AreTold (bytes rest : List ℕ) (all : Told) : Type 0 where
  pub ranks : all.ranks + sum_by ranks_told (word_lines rest) ≡ sum_by ranks_told (word_lines bytes)
  pub few : all.ranks + 320 * length rest ≤ 320 * length bytes

pub told_more : (bytes rest line after next : List ℕ) (words : List (List ℕ)) (all all' : Told) → 0 < length rest → line ≡ until is_line_feed rest → after ≡ from_on is_line_feed rest → next ≡ drop 1 after →
    length line + length after ≡ length rest → words ≡ line_words line → all'.ranks ≡ all.ranks + ranks_told words → ranks_told words ≤ 320 →
    AreTold bytes rest all → AreTold bytes next all'
told_more bytes rest line after next words all all' lt l a n parts s r few h =
    let cutting : word_lines rest ≡ words ∷ word_lines next = word_lines-cut rest line after next lt l a n ∙ ap (λ x. x ∷ word_lines next) (sym s) in
    let size : length next + 1 ≤ length rest = omega (arith, ap length n ∙ length-drop 1 after, parts, lt) in
    record {
      ranks = omega (arith, r, ap (sum_by ranks_told) cutting ∙ sum_by-cons ranks_told words (word_lines next), h.ranks);
      few = omega (arith, r, few, size, h.few);
    }

pub told_start : (bytes : List ℕ) (all : Told) → all.ranks ≡ 0 → AreTold bytes bytes all
told_start bytes all r = record {
  ranks = omega (arith, r);
  few = omega (arith, r);
}

pub told_end : (bytes rest : List ℕ) (all : Told) → length rest ≡ 0 → AreTold bytes rest all → all ≡ told_by (word_lines bytes)
told_end bytes rest all z h =
    let none : word_lines rest ≡ [] = word_lines-end rest z in
    let ranks : all.ranks ≡ sum_by ranks_told (word_lines bytes) = omega (arith, ap (sum_by ranks_told) none, h.ranks) in
    λ i. record { ranks = ranks i }
