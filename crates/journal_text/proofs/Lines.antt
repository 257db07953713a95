-- The loop over the records of a journal: the lines so far, and those of the records that are left.
use Rattle.std.proofs.Common.{◌≡◌, ℕ, suc, ◌+◌, ◌<◌, ◌≤◌, Bool, true, false, List, ◌++◌, length, get_or, drop, if◌then◌else◌, refl, sym, subst, ◌∙◌, ap, append_assoc, add-one, arith}
use Rattle.std.proofs.Math.Seq.{drop-cons}
use Rattle.run_data.specs.Text.{line_of}
use Rattle.rank_machine.specs.declared.record.Rec.{Rec}
use Rattle.rank_machine.specs.Losses.{is_numbered}
use Rattle.rank_machine.specs.JournalText.{numbered_words, number_after, records_text}

-- the lines from one record on are that record's and the others
records_text-more : (xs : List Rec) (i n : ℕ) (d : Rec) → i < length xs → records_text n (drop i xs) ≡ line_of (numbered_words n (get_or xs i d)) ++ records_text (number_after n (get_or xs i d)) (drop (i + 1) xs)
records_text-more xs i n d h = rw (add-one, drop-cons xs i d h) refl

number_after-few : (n i : ℕ) (x : Rec) → n ≤ i → number_after n x ≤ i + 1
number_after-few n i x h = chosen (is_numbered x)
  where
    chosen : (b : Bool) → (if b then suc n else n) ≤ i + 1
    chosen true = omega arith
    chosen false = omega arith

-- one line more
pub goes_on : (xs : List Rec) (i : ℕ) (d : Rec) (n m : ℕ) (out new : List ℕ) → i < length xs → n ≤ i → out ++ records_text n (drop i xs) ≡ records_text 0 xs → m ≡ number_after n (get_or xs i d) → new ≡ out ++ line_of (numbered_words n (get_or xs i d)) →
    (m ≤ i + 1) × (new ++ records_text m (drop (i + 1) xs) ≡ records_text 0 xs)
goes_on xs i d n m out new h few so_far after line =
    let x : Rec = get_or xs i d in
    let rest : List ℕ = records_text (number_after n x) (drop (i + 1) xs) in (
      subst (λ k. k ≤ i + 1) (sym after) (number_after-few n i x few),
      ap (λ k. new ++ records_text k (drop (i + 1) xs)) after ∙ ap (λ t. t ++ rest) line ∙ append_assoc out (line_of (numbered_words n x)) rest ∙ ap (λ t. out ++ t) (sym (records_text-more xs i n d h)) ∙ so_far,
    )
