-- Losses that are close to one another lie in a burst.
use Rattle.std.proofs.Common.{◌≡◌, ◌+◌, ◌<◌, ◌≤◌, ◌==◌, ◌||◌, ℕ, Bool, true, false, List, [], ◌∷◌, ◌++◌, refl, sym, ap, ◌∙◌, ⊎_elim, arith}
use Rattle.std.proofs.lemmas.List.{append-nil, append_assoc}
use Rattle.std.proofs.lemmas.Bool.{or_right, cases_lt}
use Rattle.rank_machine.specs.declared.record.Loss.{Loss}
use Rattle.loss_bursts.specs.Bursts.{in_time, AreClose, is_hit, IsBurst}
use Rattle.loss_bursts.proofs.Scanned.{IsSome, last_at, last_push, close_push}

abbrev pub AreHitBy : List Loss → List Loss → Type 0
AreHitBy part burst = (rank : ℕ) → is_hit part rank ≡ true → is_hit burst rank ≡ true

-- ---- to the right
last_near : (recovery : ℕ) (part : List Loss) (l : Loss) → IsSome part → AreClose recovery (part ++ l ∷ []) → l.at ≤ last_at part + recovery
last_near recovery [] l some h = absurd some
last_near recovery (a ∷ []) l some h = h.0
last_near recovery (a ∷ b ∷ ls) l some h = last_near recovery (b ∷ ls) l tt h.1

some_push : (part : List Loss) (l : Loss) → IsSome (part ++ l ∷ [])
some_push [] l = tt
some_push (a ∷ ls) l = tt

hit_more : (part : List Loss) (l : Loss) → AreHitBy part (part ++ l ∷ [])
hit_more [] l rank e = absurd cc
hit_more (a ∷ ls) l rank e = one (rank == a.rank) (is_hit ls rank) (is_hit (ls ++ l ∷ []) rank) (hit_more ls l rank) e
  where
    one : (a b c : Bool) → (b ≡ true → c ≡ true) → (a || b) ≡ true → (a || c) ≡ true
    one true b c h e = refl
    one false b c h e = h e

record IsRight (recovery : ℕ) (part later : List Loss) : Type 0 where
  wide : List Loss
  left : List Loss
  whole : part ++ later ≡ wide ++ left
  some : IsSome wide
  close : AreClose recovery wide
  last : (rest : List Loss) (l : Loss) → left ≡ l ∷ rest → AreClose recovery (wide ++ l ∷ []) → ⊥
  hits : AreHitBy part wide

abbrev head_at : List Loss → ℕ
head_at [] = 0
head_at (l ∷ ls) = l.at

pub no_nil : (l : Loss) (ls : List Loss) → [] ≡ l ∷ ls → ⊥
no_nil l ls e = absurd cc

pub same_head : (a b : Loss) (ahead bs : List Loss) → a ∷ ahead ≡ b ∷ bs → a.at ≡ b.at
same_head a b ahead bs e = ap head_at e

to_right : (recovery : ℕ) (part later : List Loss) → IsSome part → AreClose recovery part → IsRight recovery part later
to_right recovery part [] some close = record { wide = part; left = []; whole = refl; some = some; close = close; last = λ rest l e _. no_nil l rest e; hits = λ rank e. e }
to_right recovery part (m ∷ ms) some close =
    ⊎_elim
    (λ (far : last_at part + recovery < m.at). record {
      wide = part;
      left = m ∷ ms;
      whole = refl;
      some = some;
      close = close;
      last = λ rest l e h. absurd (omega (arith, far, last_near recovery part l some h, same_head m l ms rest e));
      hits = λ rank e. e;
    })
    (λ (near : m.at ≤ last_at part + recovery).
    let more : IsRight recovery (part ++ m ∷ []) ms = to_right recovery (part ++ m ∷ []) ms (some_push part m) (close_push recovery part m close (λ _. near)) in
    record {
      wide = more.wide;
      left = more.left;
      whole = sym (append_assoc part (m ∷ []) ms) ∙ more.whole;
      some = more.some;
      close = more.close;
      last = more.last;
      hits = λ rank e. more.hits rank (hit_more part m rank e);
    })
    (cases_lt (last_at part + recovery) m.at)

-- ---- to the left
abbrev back : List Loss → List Loss
back [] = []
back (l ∷ ls) = back ls ++ l ∷ []

abbrev push_back : List Loss → List Loss → List Loss
push_back acc [] = acc
push_back acc (l ∷ ls) = push_back (l ∷ acc) ls

back_push : (acc ls : List Loss) → back acc ++ ls ≡ back (push_back acc ls)
back_push acc [] = append-nil (back acc)
back_push acc (l ∷ ls) = sym (append_assoc (back acc) (l ∷ []) ls) ∙ back_push (l ∷ acc) ls

tail_close : (recovery : ℕ) (a l : Loss) (part : List Loss) → IsSome part → AreClose recovery ((a ∷ part) ++ l ∷ []) → AreClose recovery (part ++ l ∷ [])
tail_close recovery a l [] some h = absurd some
tail_close recovery a l (b ∷ ls) some h = h.1

pub push_not_nil : (ls : List Loss) (l : Loss) → [] ≡ ls ++ l ∷ [] → ⊥
push_not_nil [] l e = no_nil l [] e
push_not_nil (a ∷ ls) l e = no_nil a (ls ++ l ∷ []) e

module _ (recovery : ℕ) (ls : List Loss) where
  to_left : (turned part later : List Loss) → in_time ls ≡ back turned ++ (part ++ later) → IsSome part → AreClose recovery part
      → ((rest : List Loss) (l : Loss) → later ≡ l ∷ rest → AreClose recovery (part ++ l ∷ []) → ⊥) → (burst : List Loss) × IsBurst recovery ls burst × AreHitBy part burst
  to_left turned [] later whole some close last = absurd some
  to_left [] (b ∷ bs) later whole some close last =
      (b ∷ bs, record { before = []; later = later; part = whole; some = λ e. no_nil b bs (sym e); close = close; first = λ rest l e _. push_not_nil rest l e; last = last }, λ rank e. e)
  to_left (a ∷ ahead) (b ∷ bs) later whole some close last =
      ⊎_elim
      (λ (far : a.at + recovery < b.at).
      (b ∷ bs, record { before = back ahead ++ a ∷ []; later = later; part = whole; some = λ e. no_nil b bs (sym e); close = close; first = λ rest l e h. absurd (omega (arith, far, h.0, sym (last_push (back ahead) a) ∙ (ap last_at e ∙ last_push rest l))); last = last }, λ rank e. e))
      (λ (near : b.at ≤ a.at + recovery).
      let more : (burst : List Loss) × IsBurst recovery ls burst × AreHitBy (a ∷ b ∷ bs) burst =
      to_left ahead (a ∷ b ∷ bs) later (whole ∙ append_assoc (back ahead) (a ∷ []) ((b ∷ bs) ++ later)) tt (near, close) (λ rest l e h. last rest l e (tail_close recovery a l (b ∷ bs) tt h)) in
      (more.0, more.1, λ rank e. more.2 rank (or_right (rank == a.rank) (is_hit (b ∷ bs) rank) e)))
      (cases_lt (a.at + recovery) b.at)

  -- a part of the sorted losses whose neighbours are close lies in a burst
  pub in-burst : (before part later : List Loss) → in_time ls ≡ before ++ (part ++ later) → IsSome part → AreClose recovery part → (burst : List Loss) × IsBurst recovery ls burst × AreHitBy part burst
  in-burst before part later whole some close =
      let right : IsRight recovery part later = to_right recovery part later some close in
      let turned : before ≡ back (push_back [] before) = back_push [] before in
      let more : (burst : List Loss) × IsBurst recovery ls burst × AreHitBy right.wide burst =
      to_left (push_back [] before) right.wide right.left (whole ∙ (ap (λ xs. before ++ xs) right.whole ∙ ap (λ xs. xs ++ (right.wide ++ right.left)) turned)) right.some right.close right.last in
      (more.0, more.1, λ rank e. more.2 rank (right.hits rank e))
