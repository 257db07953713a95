-- The memories, the links and the flags after losses.
use Rattle.std.proofs.Common.{◌≡◌, ◌≢◌, ◌+◌, ◌<◌, ◌≤◌, ◌==◌, ◌||◌, ◌++◌, ℕ, zero, suc, Bool, true, false, Option, Some, None, List, [], ◌∷◌, length, take, drop, map, get_or, slice_get, add-one, drop-cons, refl, sym, ap, ◌∙◌, inl, inr, arith}
use Rattle.std.specs.Prelude.{if◌then◌else◌}
use Rattle.std.proofs.lemmas.Bool.{eq-eqb, ne_eqb}
use Rattle.std.proofs.lemmas.Bool.Decides.{eqb_tells}
use Rattle.std.proofs.lemmas.List.{drop_all, length-map}
use Rattle.rank_link.specs.Traffic.{Traffic, with_messages}
use Rattle.rank_run.specs.Rounds.{on_rank}
use Rattle.rank_machine.specs.declared.slot.Tile.{Tile}
use Rattle.rank_machine.specs.declared.record.Loss.{Loss}
use Rattle.rank_slots.specs.Rank.{Rank}
use Rattle.rank_slots.specs.Lost.{lost_rank}
use Rattle.block_world.specs.Ranks.{cut_to, cut_off, flagged, mems_after, links_after, flags_after, some_flag, lowered}
use Rattle.rank_machine.specs.Setting.{Setting, some_below}
use Rattle.rank_machine.specs.State.{State}
use Rattle.rank_machine.specs.Legal.{some_lost}
use Rattle.block_world.specs.Replay.{flag_at, AreFlags}

-- ---- flags
abbrev pub flag_there : Option Bool → Bool
flag_there None = false
flag_there (Some b) = b

pub flag_at-get : (bs : List Bool) (a : ℕ) → flag_at bs a ≡ flag_there (slice_get bs a)
flag_at-get [] a = refl
flag_at-get (b ∷ bs) zero = refl
flag_at-get (b ∷ bs) (suc a) = flag_at-get bs a

pub some_flag-rest : (bs : List Bool) (i : ℕ) → i < length bs → some_flag (drop i bs) ≡ (get_or bs i false || some_flag (drop (i + 1) bs))
some_flag-rest bs i lt = ap some_flag (rest_is bs i lt)
  where
    rest_is : (xs : List Bool) (i : ℕ) → i < length xs → drop i xs ≡ get_or xs i false ∷ drop (i + 1) xs
    rest_is xs i lt = rw add-one (drop-cons xs i false lt)

pub some_flag-end : (bs : List Bool) (i : ℕ) → length bs ≤ i → some_flag (drop i bs) ≡ false
some_flag-end bs i le = ap some_flag (drop_all i bs le)

or_assoc : (a b c : Bool) → ((a || b) || c) ≡ (a || (b || c))
or_assoc true b c = refl
or_assoc false b c = refl

or_false : (b : Bool) → (b || false) ≡ b
or_false true = refl
or_false false = refl

-- one flag more is looked at
pub flag_more : (a b new : Bool) (bs : List Bool) (i : ℕ) → i < length bs → new ≡ (a || get_or bs i false) → (a || some_flag (drop i bs)) ≡ b → (new || some_flag (drop (i + 1) bs)) ≡ b
flag_more a b new bs i lt e h =
    ap (λ (x : Bool). x || some_flag (drop (i + 1) bs)) e
    ∙ or_assoc a (get_or bs i false) (some_flag (drop (i + 1) bs))
    ∙ ap (λ (x : Bool). a || x) (sym (some_flag-rest bs i lt))
    ∙ h

pub flag_all : (a b : Bool) (bs : List Bool) (i : ℕ) → length bs ≤ i → (a || some_flag (drop i bs)) ≡ b → a ≡ b
flag_all a b bs i le h = sym (or_false a) ∙ ap (λ (x : Bool). a || x) (sym (some_flag-end bs i le)) ∙ h

pub flag_at-lowered : (bs : List Bool) (a : ℕ) → flag_at (map lowered bs) a ≡ false
flag_at-lowered [] a = refl
flag_at-lowered (b ∷ bs) zero = refl
flag_at-lowered (b ∷ bs) (suc a) = flag_at-lowered bs a

flag-same : (bs : List Bool) (rank : ℕ) → rank < length bs → flag_at (flagged bs rank) rank ≡ true
flag-same [] rank lt = absurd (omega arith)
flag-same (b ∷ bs) zero lt = refl
flag-same (b ∷ bs) (suc rank) lt = flag-same bs rank (omega arith)

flag-other : (bs : List Bool) (rank a : ℕ) → a ≢ rank → flag_at (flagged bs rank) a ≡ flag_at bs a
flag-other [] rank a ne = refl
flag-other (b ∷ bs) zero zero ne = absurd (ne refl)
flag-other (b ∷ bs) zero (suc a) ne = refl
flag-other (b ∷ bs) (suc rank) zero ne = refl
flag-other (b ∷ bs) (suc rank) (suc a) ne = flag-other bs rank a (λ e. ne (ap suc e))

pub flag_at-flagged : (bs : List Bool) (rank a : ℕ) → rank < length bs → flag_at (flagged bs rank) a ≡ (if a == rank then true else flag_at bs a)
flag_at-flagged bs rank a lt =
    elim (eqb_tells a rank) [
      | inl p ↦ ap (flag_at (flagged bs rank)) p.1 ∙ flag-same bs rank lt ∙ sym (ap (λ (b : Bool). if b then true else flag_at bs a) p.0)
      | inr p ↦ flag-other bs rank a p.1 ∙ sym (ap (λ (b : Bool). if b then true else flag_at bs a) p.0)
    ]

-- ---- a loop that changes each element
module _ {X : Type 0} where
  -- the next one is as it was
  pub next_is : (f : X → X) (xs : List X) (i : ℕ) (d : X) → i < length xs → get_or (map f (take i xs) ++ drop i xs) i d ≡ get_or xs i d
  next_is f [] i d lt = absurd (omega arith)
  next_is f (x ∷ xs) zero d lt = refl
  next_is f (x ∷ xs) (suc i) d lt = next_is f xs i d (omega arith)

-- ---- messages from and to a rank go
pub cut_to-sides : (rank k : ℕ) (l : Traffic Tile) → (cut_to rank k l).ranks ≡ l.ranks
cut_to-sides rank zero l = refl
cut_to-sides rank (suc k) l = cut_to-sides rank k l

pub cut_off-sides : (rank : ℕ) (l : Traffic Tile) → (cut_off rank l).ranks ≡ l.ranks
cut_off-sides rank l = cut_to-sides rank l.ranks l

pub cut_to-capacity : (rank k : ℕ) (l : Traffic Tile) → (cut_to rank k l).capacity ≡ l.capacity
cut_to-capacity rank zero l = refl
cut_to-capacity rank (suc k) l = cut_to-capacity rank k l

pub cut_more : (rank k : ℕ) (l : Traffic Tile) → with_messages (with_messages (cut_to rank k l) rank k []) k rank [] ≡ cut_to rank (k + 1) l
cut_more rank k l = rw add-one refl

-- ---- the losses of a number, one after another
abbrev pub no_loss : Loss
no_loss = record { at = 0; rank = 0 }

loss_rest : (ls : List Loss) (i : ℕ) → i < length ls → drop i ls ≡ get_or ls i no_loss ∷ drop (i + 1) ls
loss_rest ls i lt = rw add-one (drop-cons ls i no_loss lt)

-- a function that goes over the losses and changes what it has at those of a number
module _ {X : Type 0} (go : List Loss → X → X) (change : ℕ → X → X) (n : ℕ) (step : (l : Loss) (ls : List Loss) (x : X) → go (l ∷ ls) x ≡ go ls (if l.at == n then change l.rank x else x)) where
  go_here : (ls : List Loss) (i : ℕ) (x : X) → i < length ls → (get_or ls i no_loss).at ≡ n → go (drop i ls) x ≡ go (drop (i + 1) ls) (change (get_or ls i no_loss).rank x)
  go_here ls i x lt e =
      ap (λ (l : List Loss). go l x) (loss_rest ls i lt) ∙ step (get_or ls i no_loss) (drop (i + 1) ls) x
      ∙ ap (λ (b : Bool). go (drop (i + 1) ls) (if b then change (get_or ls i no_loss).rank x else x)) (eq-eqb (get_or ls i no_loss).at n e)

  go_past : (ls : List Loss) (i : ℕ) (x : X) → i < length ls → (get_or ls i no_loss).at ≢ n → go (drop i ls) x ≡ go (drop (i + 1) ls) x
  go_past ls i x lt ne =
      ap (λ (l : List Loss). go l x) (loss_rest ls i lt) ∙ step (get_or ls i no_loss) (drop (i + 1) ls) x
      ∙ ap (λ (b : Bool). go (drop (i + 1) ls) (if b then change (get_or ls i no_loss).rank x else x)) (ne_eqb (get_or ls i no_loss).at n ne)

module _ (ls : List Loss) (n i : ℕ) (lt : i < length ls) where
  pub mems_here : (ms : List Rank) → (get_or ls i no_loss).at ≡ n → mems_after (drop i ls) n ms ≡ mems_after (drop (i + 1) ls) n (on_rank ms (get_or ls i no_loss).rank lost_rank)
  mems_here ms e = go_here (λ l x. mems_after l n x) (λ rank x. on_rank x rank lost_rank) n (λ _ _ _. refl) ls i ms lt e

  pub mems_past : (ms : List Rank) → (get_or ls i no_loss).at ≢ n → mems_after (drop i ls) n ms ≡ mems_after (drop (i + 1) ls) n ms
  mems_past ms ne = go_past (λ l x. mems_after l n x) (λ rank x. on_rank x rank lost_rank) n (λ _ _ _. refl) ls i ms lt ne

  pub links_here : (links : Traffic Tile) → (get_or ls i no_loss).at ≡ n → links_after (drop i ls) n links ≡ links_after (drop (i + 1) ls) n (cut_off (get_or ls i no_loss).rank links)
  links_here links e = go_here (λ l x. links_after l n x) (λ rank x. cut_off rank x) n (λ _ _ _. refl) ls i links lt e

  pub links_past : (links : Traffic Tile) → (get_or ls i no_loss).at ≢ n → links_after (drop i ls) n links ≡ links_after (drop (i + 1) ls) n links
  links_past links ne = go_past (λ l x. links_after l n x) (λ rank x. cut_off rank x) n (λ _ _ _. refl) ls i links lt ne

  pub flags_here : (bs : List Bool) → (get_or ls i no_loss).at ≡ n → flags_after (drop i ls) n bs ≡ flags_after (drop (i + 1) ls) n (flagged bs (get_or ls i no_loss).rank)
  flags_here bs e = go_here (λ l x. flags_after l n x) (λ rank x. flagged x rank) n (λ _ _ _. refl) ls i bs lt e

  pub flags_past : (bs : List Bool) → (get_or ls i no_loss).at ≢ n → flags_after (drop i ls) n bs ≡ flags_after (drop (i + 1) ls) n bs
  flags_past bs ne = go_past (λ l x. flags_after l n x) (λ rank x. flagged x rank) n (λ _ _ _. refl) ls i bs lt ne

pub all_past : (ls : List Loss) (i : ℕ) → length ls ≤ i → drop i ls ≡ []
all_past ls i le = drop_all i ls le

-- ---- whether some rank counts as lost
some_shift : (n : ℕ) (f : ℕ → Bool) → some_below (suc n) f ≡ (f 0 || some_below n (λ k. f (suc k)))
some_shift zero f = sym (or_false (f 0))
some_shift (suc n) f = ap (λ (b : Bool). b || f (suc n)) (some_shift n f) ∙ or_assoc (f 0) (some_below n (λ k. f (suc k))) (f (suc n))

pub some_flag-below : (bs : List Bool) (f : ℕ → Bool) → ((rank : ℕ) → flag_at bs rank ≡ f rank) → some_flag bs ≡ some_below (length bs) f
some_flag-below [] f h = refl
some_flag-below (b ∷ bs) f h = (λ i. h 0 i || some_flag-below bs (λ k. f (suc k)) (λ k. h (suc k)) i) ∙ sym (some_shift (length bs) f)

pub hurt_is : (s : Setting) (st : State) (bs : List Bool) → AreFlags s st bs → some_flag bs ≡ some_lost s st
hurt_is s st bs h = some_flag-below bs st.lost h.same ∙ ap (λ (n : ℕ). some_below n st.lost) h.count

pub flags_lowered : (s : Setting) (st st' : State) (bs : List Bool) → ((rank : ℕ) → st'.lost rank ≡ false) → AreFlags s st bs → AreFlags s st' (map lowered bs)
flags_lowered s st st' bs none h = record { count = length-map bs lowered ∙ h.count; same = λ rank. flag_at-lowered bs rank ∙ sym (none rank) }

-- a rank by its number
pub rank_there : (ms : List Rank) (rank : ℕ) → rank < length ms → (m : Rank) × (slice_get ms rank ≡ Some m)
rank_there [] rank lt = absurd (omega arith)
rank_there (m ∷ ms) zero lt = (m, refl)
rank_there (m ∷ ms) (suc rank) lt = rank_there ms rank (omega arith)
