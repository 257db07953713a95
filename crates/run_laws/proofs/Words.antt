-- How many words ranks hold after records, and in each state that records lead through.
use Rattle.std.proofs.Common.{◌≡◌, ◌≤◌, ◌+◌, ◌*◌, ◌==◌, ◌&&◌, ◌||◌, ℕ, zero, suc, Bool, true, false, nat_lt, Option, Some, None, List, [], ◌∷◌, ◌++◌, take, refl, ⊎_elim, arith}
use Rattle.std.specs.Prelude.{if◌then◌else◌, min, max}
use Rattle.std.proofs.lemmas.Bool.{cases_Bool}
use Rattle.blacs_grid.specs.Places.{row_of, is_data_rank}
use Rattle.rank_machine.specs.declared.slot.Slot.{Slot}
use Rattle.rank_machine.specs.declared.slot.Tile.{Tile}
use Rattle.rank_machine.specs.declared.record.Loss.{Loss}
use Rattle.rank_machine.specs.declared.record.Rec.{Rec}
use Rattle.rank_machine.specs.declared.record.Rec.TheVariants as r
use Rattle.rank_machine.specs.Setting.{Setting, Job, grid_of_rank, layout, is_matrix, factored, group_count, strip_rows}
use Rattle.rank_machine.specs.State.{State, or_else}
use Rattle.rank_machine.specs.Effect.{after, replay, state_after, current, is_live_matrix, is_live_list}
use Rattle.rank_machine.specs.Held.{size_of, words_in, is_on, cells_of, tile_of_jobs, pivots_of_jobs, most_words, AreHeld}
use Rattle.rank_machine.specs.Losses.{falls}
use Rattle.run_laws.specs.Traces.{AllHold, HoldFrom, AlwaysHold}

-- ---- what a rank may hold depends on the last mark alone
cells-mark : (s : Setting) (a b : State) (rank : ℕ) (js : List Job) → a.mark ≡ b.mark → cells_of s a rank js ≡ cells_of s b rank js
cells-mark s a b rank [] e = refl
cells-mark s a b rank (j ∷ js) e =
    λ i. (if (is_live_matrix s (e i) j.line || (is_matrix s j.line && (j.line == current s (e i)))) && is_on (layout s j.line) rank then (strip_rows (layout s j.line) (row_of (layout s j.line).grid rank) * (layout s j.line).desc.nb) * group_count (layout s j.line) else 0)
    + cells-mark s a b rank js e i

tiles-mark : (s : Setting) (a b : State) (js : List Job) → a.mark ≡ b.mark → tile_of_jobs s a js ≡ tile_of_jobs s b js
tiles-mark s a b [] e = refl
tiles-mark s a b (j ∷ js) e =
    λ i. max (if is_live_matrix s (e i) j.line || (is_matrix s j.line && (j.line == current s (e i))) then (layout s j.line).desc.lld * (layout s j.line).desc.nb else 0) (tiles-mark s a b js e i)

lists-mark : (s : Setting) (a b : State) (rank : ℕ) (js : List Job) → a.mark ≡ b.mark → pivots_of_jobs s a rank js ≡ pivots_of_jobs s b rank js
lists-mark s a b rank [] e = refl
lists-mark s a b rank (j ∷ js) e =
    λ i. (if (is_live_list s (e i) j.line || (nat_lt 0 (factored s j.line) && (j.line == current s (e i)))) && is_on (layout s j.factors) rank then min (layout s j.factors).desc.m (layout s j.factors).desc.n else 0) + lists-mark s a b rank js e i

pub most_words-mark : (s : Setting) (a b : State) (rank : ℕ) → a.mark ≡ b.mark → most_words s a rank ≡ most_words s b rank
most_words-mark s a b rank e =
    let cells = cells-mark s a b rank s.jobs e in
    let tiles = tiles-mark s a b s.jobs e in
    let lists = lists-mark s a b rank s.jobs e in
    λ i. ((if is_data_rank (grid_of_rank s rank) rank then cells i else 2 * cells i) + 8 * tiles i) + 2 * lists i

-- ---- a state in which no slot of a rank has more words than in another one, under the same mark
module _ (a b : State) (rank : ℕ) where
  abbrev pub NoMoreIn : Type 0
  NoMoreIn = (slot : Slot) → size_of (b.tiles rank slot) + size_of (b.saved rank slot) ≤ size_of (a.tiles rank slot) + size_of (a.saved rank slot)

  pub words-no_more : NoMoreIn → (slots : List Slot) → words_in b rank slots ≤ words_in a rank slots
  words-no_more h [] = omega arith
  words-no_more h (x ∷ xs) = omega (arith, h x, words-no_more h xs)

  pub hold-no_more : (s : Setting) → b.mark ≡ a.mark → NoMoreIn → AreHeld s a rank → AreHeld s b rank
  hold-no_more s mark h held slots distinct = omega (arith, words-no_more h slots, held slots distinct, most_words-mark s b a rank mark)

-- ---- the records that losses bring with them
size-or_else : (x y : Option Tile) → size_of (or_else x y) ≤ size_of y + size_of x
size-or_else None y = omega arith
size-or_else (Some t) y = omega arith

size-old : (fresh : Bool) (t : Option Tile) → size_of (if fresh then None else t) ≤ size_of t
size-old true t = omega arith
size-old false t = omega arith

size-restored : (live fresh : Bool) (t u : Option Tile) → size_of (if live then or_else u (if fresh then None else t) else t) + 0 ≤ size_of t + size_of u
size-restored true fresh t u = omega (arith, size-or_else u (if fresh then None else t), size-old fresh t)
size-restored false fresh t u = omega arith

size-left : (lost : Bool) (t u : Option Tile) → size_of (if lost then None else t) + size_of (if lost then None else u) ≤ size_of t + size_of u
size-left true t u = omega arith
size-left false t u = omega arith

-- A restore puts back what was saved, or leaves what was there, and nothing is saved then.
pub hold-restore : (s : Setting) (st : State) → AllHold s st → AllHold s (after s st r.Restore)
hold-restore s st h rank lt = hold-no_more st (after s st r.Restore) rank s refl (λ slot. size-restored (st.live rank) (st.fresh rank slot) (st.tiles rank slot) (st.saved rank slot)) (h rank lt)

-- A spawn changes nothing that ranks hold.
pub hold-spawn : (s : Setting) (st : State) (new : ℕ) → AllHold s st → AllHold s (after s st (r.Spawn new))
hold-spawn s st new h rank lt = hold-no_more st (after s st (r.Spawn new)) rank s refl (λ slot. omega arith) (h rank lt)

-- A lost rank holds nothing, and the others what they held.
pub hold-lose : (s : Setting) (st : State) (lost : ℕ) → AllHold s st → AllHold s (after s st (r.Lose lost))
hold-lose s st lost h rank lt = hold-no_more st (after s st (r.Lose lost)) rank s refl (λ slot. size-left (rank == lost) (st.tiles rank slot) (st.saved rank slot)) (h rank lt)

-- ---- in each state that records lead through
-- where some records lead
pub HoldFrom-now : (s : Setting) (st : State) (xs : List Rec) → HoldFrom s st xs → AllHold s st
HoldFrom-now s st [] h = h
HoldFrom-now s st (x ∷ xs) h = h.0

pub HoldFrom-end : (s : Setting) (st : State) (xs : List Rec) → HoldFrom s st xs → AllHold s (replay s st xs)
HoldFrom-end s st [] h = h
HoldFrom-end s st (x ∷ xs) h = HoldFrom-end s (after s st x) xs h.1

-- records after records
pub HoldFrom-append : (s : Setting) (st : State) (xs ys : List Rec) → HoldFrom s st xs → HoldFrom s (replay s st xs) ys → HoldFrom s st (xs ++ ys)
HoldFrom-append s st [] ys h k = k
HoldFrom-append s st (x ∷ xs) ys h k = (h.0, HoldFrom-append s (after s st x) xs ys h.1 k)

-- it says the same of each number of first records
pub HoldFrom-first : (s : Setting) (st : State) (xs : List Rec) → ((n : ℕ) → AllHold s (replay s st (take n xs))) → HoldFrom s st xs
HoldFrom-first s st [] h = h 0
HoldFrom-first s st (x ∷ xs) h = (h 0, HoldFrom-first s (after s st x) xs (λ n. h (suc n)))

pub first-HoldFrom : (s : Setting) (st : State) (xs : List Rec) → HoldFrom s st xs → (n : ℕ) → AllHold s (replay s st (take n xs))
first-HoldFrom s st xs h zero = HoldFrom-now s st xs h
first-HoldFrom s st [] h (suc n) = h
first-HoldFrom s st (x ∷ xs) h (suc n) = first-HoldFrom s (after s st x) xs h.1 n

-- losses
pub HoldFrom-falls : (s : Setting) (st : State) (ls : List Loss) (n : ℕ) → AllHold s st → HoldFrom s st (falls ls n)
HoldFrom-falls s st [] n h = h
HoldFrom-falls s st (l ∷ ls) n h =
    ⊎_elim
    (λ (e : (l.at == n) ≡ true). rw e (h, HoldFrom-falls s (after s st (r.Lose l.rank)) ls n (hold-lose s st l.rank h)))
    (λ (e : (l.at == n) ≡ false). rw e (HoldFrom-falls s st ls n h))
    (cases_Bool (l.at == n))

-- ---- a journal
pub AlwaysHold-end : (s : Setting) (journal : List Rec) → AlwaysHold s journal → AllHold s (state_after s journal)
AlwaysHold-end s journal h = HoldFrom-end s _ journal h

-- A journal stays one in each of whose states every rank holds at most what it may, where that is so in each state that more records lead through.
pub AlwaysHold-append : (s : Setting) (journal xs : List Rec) → AlwaysHold s journal → HoldFrom s (state_after s journal) xs → AlwaysHold s (journal ++ xs)
AlwaysHold-append s journal xs h k = HoldFrom-append s _ journal xs h k

-- or where it is so after one more.
pub AlwaysHold-push : (s : Setting) (journal : List Rec) (x : Rec) → AlwaysHold s journal → AllHold s (after s (state_after s journal) x) → AlwaysHold s (journal ++ x ∷ [])
AlwaysHold-push s journal x h k = HoldFrom-append s _ journal (x ∷ []) h (AlwaysHold-end s journal h, k)
