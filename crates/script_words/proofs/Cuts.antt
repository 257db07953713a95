-- Where a list is cut at a byte.
use Rattle.std.proofs.Common.{◌≡◌, ℕ, zero, suc, ◌<◌, Bool, true, false, cond, List, [], ◌∷◌, ◌++◌, length, take, drop, get_or, refl, sym, ap, ◌∙◌, arith, eqb, append_assoc, map}
use Rattle.std.specs.Prelude.{not, filter}
use Rattle.std.specs.List.{onto_first, slice_split}
use Rattle.std.proofs.lemmas.Bool.Decides.{nat_tests}
use Rattle.std.proofs.lemmas.Grind.{common_steps}
use Rattle.script_words.specs.Lines.{until, from_on, is_line_feed, is_blank, is_non_blank, has_items, lines_of, words_of, line_words, word_lines}

-- no byte before this index stops
abbrev pub PassesTo : (ℕ → Bool) → List ℕ → ℕ → Type 0
PassesTo stops bs n = (k : ℕ) → k < n → stops (get_or bs k 0) ≡ false

passes_rest : (stops : ℕ → Bool) (b : ℕ) (bs : List ℕ) (n : ℕ) → PassesTo stops (b ∷ bs) (suc n) → PassesTo stops bs n
passes_rest stops b bs n h k lt = h (suc k) (omega arith)

-- a list that passes to an index and stops there
pub until_at : (stops : ℕ → Bool) (bs : List ℕ) (n : ℕ) → n < length bs → PassesTo stops bs n → stops (get_or bs n 0) ≡ true → (until stops bs ≡ take n bs) × (from_on stops bs ≡ drop n bs)
until_at stops [] n lt h e = absurd (omega arith)
until_at stops (b ∷ bs) zero lt h e = (rw e refl, rw e refl)
until_at stops (b ∷ bs) (suc n) lt h e =
    let r = until_at stops bs n (omega arith) (passes_rest stops b bs n h) e in
    let p : stops b ≡ false = h 0 (omega arith) in
    (rw p (ap (λ xs. b ∷ xs) r.0), rw p r.1)

-- a list that passes to its end
pub until_end : (stops : ℕ → Bool) (bs : List ℕ) → PassesTo stops bs (length bs) → (until stops bs ≡ bs) × (from_on stops bs ≡ [])
until_end stops [] h = (refl, refl)
until_end stops (b ∷ bs) h =
    let r = until_end stops bs (passes_rest stops b bs (length bs) h) in
    let p : stops b ≡ false = h 0 (omega arith) in
    (rw p (ap (λ xs. b ∷ xs) r.0), rw p r.1)

pub take_whole : (bs : List ℕ) (n : ℕ) → n ≡ length bs → take n bs ≡ bs
take_whole bs n e = grind (arith, common_steps)

pub drop_whole : {X : Type 0} (bs : List X) (n : ℕ) → n ≡ length bs → drop n bs ≡ []
drop_whole bs n e = grind (arith, common_steps)

line_step : (t : Bool) (b : ℕ) (bs : List ℕ) → onto_first b (lines_of bs) ≡ (b ∷ until is_line_feed bs) ∷ lines_of (drop 1 (from_on is_line_feed bs)) →
    cond t ([] ∷ lines_of bs) (onto_first b (lines_of bs)) ≡ cond t [] (b ∷ until is_line_feed bs) ∷ lines_of (drop 1 (cond t (b ∷ bs) (from_on is_line_feed bs)))
line_step true b bs e = refl
line_step false b bs e = e

-- the first line, and the lines after it
pub lines_of-cut : (b : ℕ) (bs : List ℕ) → lines_of (b ∷ bs) ≡ until is_line_feed (b ∷ bs) ∷ lines_of (drop 1 (from_on is_line_feed (b ∷ bs)))
lines_of-cut b [] = line_step (is_line_feed b) b [] refl
lines_of-cut b (c ∷ cs) = line_step (is_line_feed b) b (c ∷ cs) (ap (onto_first b) (lines_of-cut c cs))

-- the parts round the stops, but for the first
abbrev parts_after : (ℕ → Bool) → List ℕ → List (List ℕ)
parts_after stops [] = []
parts_after stops (b ∷ bs) = cond (stops b) (slice_split stops bs) (parts_after stops bs)

slice_split-until : (stops : ℕ → Bool) (bs : List ℕ) → slice_split stops bs ≡ until stops bs ∷ parts_after stops bs
slice_split-until stops [] = refl
slice_split-until stops (b ∷ bs) = by_test (stops b) (slice_split-until stops bs)
  where
    by_test : (t : Bool) → slice_split stops bs ≡ until stops bs ∷ parts_after stops bs →
        cond t ([] ∷ slice_split stops bs) (onto_first b (slice_split stops bs)) ≡ cond t [] (b ∷ until stops bs) ∷ cond t (slice_split stops bs) (parts_after stops bs)
    by_test true e = refl
    by_test false e = ap (onto_first b) e

-- a text that begins with a blank has the words of the rest
words_of-blank : (b : ℕ) (bs : List ℕ) → is_blank b ≡ true → words_of (b ∷ bs) ≡ words_of bs
words_of-blank b bs e = ap (λ t. filter has_items (cond t ([] ∷ slice_split is_blank bs) (onto_first b (slice_split is_blank bs)))) e

filter-parts_after : (bs : List ℕ) → filter has_items (parts_after is_blank bs) ≡ words_of (from_on is_blank bs)
filter-parts_after [] = refl
filter-parts_after (b ∷ bs) = by_test (is_blank b) refl (filter-parts_after bs)
  where
    by_test : (t : Bool) → is_blank b ≡ t → filter has_items (parts_after is_blank bs) ≡ words_of (from_on is_blank bs) →
        filter has_items (cond t (slice_split is_blank bs) (parts_after is_blank bs)) ≡ words_of (cond t (b ∷ bs) (from_on is_blank bs))
    by_test true t e = sym (words_of-blank b bs t)
    by_test false t e = e

-- blanks in front don't count
pub words_of-skip : (bs : List ℕ) → words_of (from_on is_non_blank bs) ≡ words_of bs
words_of-skip [] = refl
words_of-skip (b ∷ bs) = by_test (is_blank b) refl (words_of-skip bs)
  where
    by_test : (t : Bool) → is_blank b ≡ t → words_of (from_on is_non_blank bs) ≡ words_of bs → words_of (cond (not t) (b ∷ bs) (from_on is_non_blank bs)) ≡ words_of (b ∷ bs)
    by_test true t e = e ∙ sym (words_of-blank b bs t)
    by_test false t e = refl

-- the first word, and the words after it
pub words_of-cut : (b : ℕ) (bs : List ℕ) → is_blank b ≡ false → words_of (b ∷ bs) ≡ until is_blank (b ∷ bs) ∷ words_of (from_on is_blank (b ∷ bs))
words_of-cut b bs e =
    let whole : words_of (b ∷ bs) ≡ filter has_items (until is_blank (b ∷ bs) ∷ parts_after is_blank (b ∷ bs)) = ap (filter has_items) (slice_split-until is_blank (b ∷ bs)) in
    let first : until is_blank (b ∷ bs) ≡ b ∷ until is_blank bs = ap (λ t. cond t [] (b ∷ until is_blank bs)) e in
    whole ∙ ap (λ u. filter has_items (u ∷ parts_after is_blank (b ∷ bs))) first
    ∙ (λ i. sym first i ∷ filter-parts_after (b ∷ bs) i)

not_true : (t : Bool) → not t ≡ true → t ≡ false
not_true true e = absurd cc
not_true false e = refl

-- a text of blanks has no words
pub words_of-blanks : (text rest : List ℕ) → rest ≡ from_on is_non_blank text → length rest ≡ 0 → words_of text ≡ []
words_of-blanks text [] r e = sym (words_of-skip text) ∙ ap words_of (sym r)
words_of-blanks text (b ∷ bs) r e = absurd (omega arith)

-- the first word of a text after the blanks in front of it, and the words after it
pub words_of-first : (text rest word after : List ℕ) → rest ≡ from_on is_non_blank text → 0 < length rest → is_non_blank (get_or rest 0 0) ≡ true → word ≡ until is_blank rest → after ≡ from_on is_blank rest →
    words_of text ≡ word ∷ words_of after
words_of-first text [] word after r lt n w a = absurd (omega arith)
words_of-first text (b ∷ bs) word after r lt n w a =
    sym (words_of-skip text) ∙ ap words_of (sym r) ∙ words_of-cut b bs (not_true (is_blank b) n) ∙ (λ i. sym w i ∷ words_of (sym a i))

-- a loop's step: one more word
pub words_more : (words items rest : List (List ℕ)) (text word after next : List ℕ) → items ≡ words ++ word ∷ [] → 0 < length text → is_non_blank (get_or text 0 0) ≡ true →
    word ≡ until is_blank text → after ≡ from_on is_blank text → next ≡ from_on is_non_blank after → words ++ words_of text ≡ rest → items ++ words_of next ≡ rest
words_more words items rest [] word after next i lt n w a x e = absurd (omega arith)
words_more words items rest (b ∷ bs) word after next i lt n w a x e =
    let first = words_of-cut b bs (not_true (is_blank b) n) in
    let k : words_of next ≡ words_of (from_on is_blank (b ∷ bs)) = ap words_of x ∙ words_of-skip after ∙ ap words_of a in
    ap (λ xs. xs ++ words_of next) i ∙ append_assoc words (word ∷ []) (words_of next)
    ∙ ap (λ (p : List ℕ × List (List ℕ)). words ++ p.0 ∷ p.1) (λ t. (w t, k t)) ∙ sym (ap (λ xs. words ++ xs) first) ∙ e

-- what begins with ink has a word in front
pub until_long : (text : List ℕ) → 0 < length text → is_non_blank (get_or text 0 0) ≡ true → 0 < length (until is_blank text)
until_long [] lt n = absurd (omega arith)
until_long (b ∷ bs) lt n = rw (not_true (is_blank b) n) (omega arith)

-- a list has items exactly where its length is not 0
pub has_items-test : {X : Type 0} (xs : List X) (n : ℕ) (t : Bool) → n ≡ length xs → t ≡ eqb n 0 → has_items xs ≡ not t
has_items-test [] n t l e = sym (ap not (e ∙ ap (λ k. eqb k 0) l))
has_items-test (x ∷ xs) n t l e = sym (ap not (e ∙ ap (λ k. eqb k 0) l ∙ longer (length xs)))
  where
    longer : (n : ℕ) → eqb (suc n) 0 ≡ false
    longer n = grind (arith, nat_tests)

-- the first line as words, and the lines after it
pub word_lines-cut : (text line after next : List ℕ) → 0 < length text → line ≡ until is_line_feed text → after ≡ from_on is_line_feed text → next ≡ drop 1 after →
    word_lines text ≡ line_words line ∷ word_lines next
unfolding word_lines
word_lines-cut [] line after next lt l a n = absurd (omega arith)
word_lines-cut (b ∷ bs) line after next lt l a n =
    ap (map line_words) (lines_of-cut b bs)
    ∙ ap (λ (p : List ℕ × List ℕ). line_words p.0 ∷ map line_words (lines_of p.1)) (sym (λ i. (l i, (n ∙ ap (drop 1) a) i)))

pub word_lines-end : (text : List ℕ) → length text ≡ 0 → word_lines text ≡ []
unfolding word_lines
word_lines-end [] e = refl
word_lines-end (b ∷ bs) e = absurd (omega arith)
