-- Lines of words and texts of lines, one more at a time.
use Rattle.std.proofs.Common.{◌≡◌, ℕ, zero, suc, ◌+◌, ◌<◌, false, eqb, cond, List, [], ◌∷◌, ◌++◌, length, get_or, take, map, refl, zero-add, sym, ap, ◌∙◌, append_assoc, arith}
use Rattle.std.specs.Prelude.{decimal}
use Rattle.std.specs.List.{join_with_byte, flat_map, range_with_len}
use Rattle.std.proofs.lemmas.Bool.Decides.{nat_tests}
use Rattle.std.proofs.lemmas.Grind.{common_steps}
use Rattle.std.proofs.lemmas.List.{take_more, flat_map_more, map-append}
use Rattle.std.proofs.lemmas.List.FromFn.{length-range_with_len, get_or-range_with_len, length-map-range_with_len, map-range_with_len_more}
use Rattle.run_data.specs.Matrix.{Matrix, entry}
use Rattle.serial_model.specs.Text.{row_text}

take_whole : (bs : List ℕ) (n : ℕ) → n ≡ length bs → take n bs ≡ bs
take_whole bs n e = grind (arith, common_steps)

-- the space before word j of a line
abbrev pub gap : ℕ → List ℕ
gap j = cond (eqb j 0) [] (32 ∷ [])

gap-later : (j : ℕ) → gap (suc j) ≡ 32 ∷ []
gap-later j = ap (λ t. cond t [] (32 ∷ [])) (differs j)
  where
    differs : (n : ℕ) → eqb (suc n) 0 ≡ false
    differs n = grind (arith, nat_tests)

join-push : (ws : List (List ℕ)) (w : List ℕ) → 0 < length ws → join_with_byte 32 (ws ++ w ∷ []) ≡ join_with_byte 32 ws ++ (32 ∷ w)
join-push [] w lt = absurd (omega arith)
join-push (x ∷ []) w lt = refl
join-push (x ∷ y ∷ ws) w lt =
    ap (λ r. x ++ (32 ∷ r)) (join-push (y ∷ ws) w (omega arith)) ∙ sym (append_assoc x (32 ∷ join_with_byte 32 (y ∷ ws)) (32 ∷ w))

-- a line with one word more
joined_more : (ws : List (List ℕ)) (w : List ℕ) (j : ℕ) → length ws ≡ j → join_with_byte 32 (ws ++ w ∷ []) ≡ (join_with_byte 32 ws ++ gap j) ++ w
joined_more [] w zero len = refl
joined_more [] w (suc j) len = absurd (omega arith)
joined_more (x ∷ ws) w zero len = absurd (omega arith)
joined_more (x ∷ ws) w (suc j) len = join-push (x ∷ ws) w (omega arith) ∙ ap (λ g. join_with_byte 32 (x ∷ ws) ++ (g ++ w)) (sym (gap-later j)) ∙ sym (append_assoc (join_with_byte 32 (x ∷ ws)) (gap (suc j)) w)

-- a loop's step: what is written after the word and the space before it
line_more : (start now spaced next : List ℕ) (ws more : List (List ℕ)) (w : List ℕ) (j : ℕ) → length ws ≡ j → more ≡ ws ++ w ∷ [] →
    now ≡ start ++ join_with_byte 32 ws → spaced ≡ now ++ gap j → next ≡ spaced ++ w → next ≡ start ++ join_with_byte 32 more
line_more start now spaced next ws more w j len m e s n =
    n ∙ ap (λ x. x ++ w) (s ∙ ap (λ x. x ++ gap j) e)
    ∙ ap (λ x. x ++ w) (append_assoc start (join_with_byte 32 ws) (gap j)) ∙ append_assoc start (join_with_byte 32 ws ++ gap j) w
    ∙ ap (λ x. start ++ x) (sym (joined_more ws w j len)) ∙ ap (λ x. start ++ join_with_byte 32 x) (sym m)

-- the same for the numbers of a list
pub list_more : (v start now spaced next : List ℕ) (count j x : ℕ) → count ≡ length v → j < count → x ≡ get_or v j 0 →
    now ≡ start ++ join_with_byte 32 (map decimal (take j v)) → spaced ≡ now ++ gap j → next ≡ spaced ++ decimal x → next ≡ start ++ join_with_byte 32 (map decimal (take (j + 1) v))
list_more v start now spaced next count j x len lt is e s n =
    let within : j < length v = omega arith in
    let size : length (map decimal (take j v)) ≡ j = grind (arith, common_steps) in
    let more : map decimal (take (j + 1) v) ≡ map decimal (take j v) ++ decimal x ∷ [] =
    ap (map decimal) (take_more v j 0 within) ∙ map-append decimal (take j v) (get_or v j 0 ∷ []) ∙ ap (λ k. map decimal (take j v) ++ decimal k ∷ []) (sym is) in
    line_more start now spaced next (map decimal (take j v)) _ (decimal x) j size more e s n

-- the same for the words of a row
pub row_more : (m : Matrix) (i : ℕ) (start now spaced next : List ℕ) (j x : ℕ) → x ≡ entry m i j →
    now ≡ start ++ join_with_byte 32 (map (λ k. decimal (entry m i k)) (range_with_len 0 j)) → spaced ≡ now ++ gap j → next ≡ spaced ++ decimal x →
    next ≡ start ++ join_with_byte 32 (map (λ k. decimal (entry m i k)) (range_with_len 0 (j + 1)))
row_more m i start now spaced next j x is e s n =
    let f : ℕ → List ℕ = λ k. decimal (entry m i k) in
    let more : map f (range_with_len 0 (j + 1)) ≡ map f (range_with_len 0 j) ++ decimal x ∷ [] =
    map-range_with_len_more f 0 j j (zero-add j) ∙ ap (λ k. map f (range_with_len 0 j) ++ decimal k ∷ []) (sym is) in
    line_more start now spaced next (map f (range_with_len 0 j)) _ (decimal x) j (length-map-range_with_len f 0 j) more e s n

-- a loop's step over the rows of a matrix
pub rows_more : (m : Matrix) (start now next : List ℕ) (i : ℕ) → i < m.rows → now ≡ start ++ flat_map (row_text m) (take i (range_with_len 0 m.rows)) → next ≡ now ++ row_text m i →
    next ≡ start ++ flat_map (row_text m) (take (i + 1) (range_with_len 0 m.rows))
rows_more m start now next i lt e n =
    let all = range_with_len 0 m.rows in
    let within : i < length all = rw length-range_with_len lt in
    n ∙ ap (λ x. x ++ row_text m i) e ∙ flat_map_more (row_text m) start (take i all) i
    ∙ ap (λ (xs : List ℕ). start ++ flat_map (row_text m) xs) (ap (λ k. take i all ++ k ∷ []) (sym (get_or-range_with_len 0 m.rows i 0 lt ∙ zero-add i)) ∙ sym (take_more all i 0 within))

-- all rows
pub rows_all : (m : Matrix) (head start now : List ℕ) (i : ℕ) → i ≡ m.rows → now ≡ start ++ flat_map (row_text m) (take i (range_with_len 0 m.rows)) → start ≡ head →
    now ≡ head ++ flat_map (row_text m) (range_with_len 0 m.rows)
rows_all m head start now i all e h =
    e ∙ ap (λ xs. start ++ flat_map (row_text m) xs) (take_whole (range_with_len 0 m.rows) i (all ∙ sym (length-range_with_len 0 m.rows))) ∙ ap (λ x. x ++ flat_map (row_text m) (range_with_len 0 m.rows)) h
