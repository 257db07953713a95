-- Records that an attempt made, and others after them.
use Rattle.std.proofs.Common.{◌≡◌, ◌+◌, ◌≤◌, ◌<◌, ℕ, true, false, Option, Some, None, List, [], ◌∷◌, ◌++◌, refl, sym, ap, subst, ◌∙◌, arith, All}
use Rattle.std.proofs.lemmas.List.{append-nil, append_assoc, length-append}
use Rattle.std.proofs.lemmas.List.Elements.{All-nil, All-cons, All-head, All-tail, All-append, All-weaker}
use Rattle.std.proofs.lemmas.Bool.{lt-ltb, true≢false}
use Rattle.rank_machine.specs.declared.record.Rec.{Rec}
use Rattle.rank_machine.specs.Setting.{Setting, ranks}
use Rattle.rank_machine.specs.State.{State}
use Rattle.rank_machine.specs.Effect.{after, replay, state_after}
use Rattle.rank_machine.specs.Losses.{is_numbered, LacksSpareOf}
use Rattle.rank_machine.proofs.Runs.{state_after-push}
use Rattle.run_laws.specs.Due.{numbered}
use Rattle.run_laws.specs.LastCommit.{is_commit, is_inner, rest_after}
use Rattle.run_laws.specs.Cuts.{IsWithin, MayGoOn, GoOnFrom}
use Rattle.run_laws.specs.Traces.{AllHold, AlwaysHold}
use Rattle.run_laws.proofs.Journals.{state-append}
use Rattle.run_laws.proofs.Inner.{IsSameRun, inner-run, inner-numbered, none_commits, rest-inner}
use Rattle.run_laws.proofs.Going.{go_append}
use Rattle.run_laws.proofs.Words.{AlwaysHold-push, AlwaysHold-end}
use Rattle.phase_words.specs.Resting.{IsMeasured}
use Rattle.recovery_words.specs.Roomy.{IsRoomy}
use Rattle.block_world.specs.World.{WorldView, setting_in, state_of, noted}
use Rattle.block_world.specs.Did.{IsStopped}
use Rattle.world_heal.specs.Ways.{IsUnderWay, rest_of}
use Rattle.world_heal.specs.Costs.{HoldsWords}
use Rattle.world_heal.specs.Mended.{IsMending, HasMended, IsHitMending}
use Rattle.world_heal.specs.Attempts.{HasTried, IsStoppedWithin}
use Rattle.world_heal.proofs.Ways.{numbered-way, state_noted}
use Rattle.world_heal.proofs.Steps.{Healed, within_by}

-- ---- words
-- each rank holds at most the words that it may on the way to one world, and from there to another under the same last commit
pub holds-then : (a b c : WorldView) → setting_in b ≡ setting_in a → rest_of b ≡ rest_of a → HoldsWords a b → HoldsWords b c → HoldsWords a c
holds-then a b c same rest h k measured before =
    let there : IsMeasured (setting_in b) (rest_of b) = subst (λ s. IsMeasured s (rest_of b)) (sym same) (subst (λ st. IsMeasured (setting_in a) st) (sym rest) measured) in
    subst (λ s. AlwaysHold s c.journal) same (k there (subst (λ s. AlwaysHold s b.journal) (sym same) (h measured before)))

-- after one record more
pub holds-noted : (w w' : WorldView) (x : Rec) → (AllHold (setting_in w) (state_of w) → AllHold (setting_in w) (after (setting_in w) (state_of w) x)) → w' ≡ noted w x → HoldsWords w w'
holds-noted w w' x hold e measured before =
    subst (λ (v : WorldView). AlwaysHold (setting_in w) v.journal) (sym e) (AlwaysHold-push (setting_in w) w.journal x before (hold (AlwaysHold-end (setting_in w) w.journal before)))

-- ---- none, one, and others after them
abbrev pub tried-none : (w : WorldView) → HasTried 0 w w
tried-none w = record {
  script = refl;
  files = refl;
  added = [];
  journal = sym (append-nil w.journal);
  numbered = All-nil (λ (x : Rec). is_numbered x ≡ true);
  plain = All-nil (λ (x : Rec). is_commit x ≡ false);
  few = omega arith;
  goes = tt;
  holds = λ measured before. before;
}

abbrev pub tried-one : (w w' : WorldView) (x : Rec) → is_numbered x ≡ true → is_commit x ≡ false → MayGoOn (setting_in w) w.journal →
    (AllHold (setting_in w) (state_of w) → AllHold (setting_in w) (after (setting_in w) (state_of w) x)) → w' ≡ noted w x → HasTried 1 w w'
tried-one w w' x counts plain go hold e = record {
  script = ap (λ (v : WorldView). v.script) e;
  files = ap (λ (v : WorldView). v.files) e;
  added = x ∷ [];
  journal = ap (λ (v : WorldView). v.journal) e;
  numbered = All-cons (λ (y : Rec). is_numbered y ≡ true) x [] counts (All-nil (λ (y : Rec). is_numbered y ≡ true));
  plain = All-cons (λ (y : Rec). is_commit y ≡ false) x [] plain (All-nil (λ (y : Rec). is_commit y ≡ false));
  few = omega arith;
  goes = ((λ _. go), tt);
  holds = holds-noted w w' x hold e;
}

pub setting-tried : (most : ℕ) (old new : WorldView) → HasTried most old new → setting_in new ≡ setting_in old
setting-tried most old new h = λ i. setting_in (record new { script = h.script i; files = h.files i })

-- the last commit stays the last one
pub rest-tried : (most : ℕ) (old new : WorldView) → HasTried most old new → rest_of new ≡ rest_of old
rest-tried most old new h = (λ i. rest_after (setting-tried most old new h i) (h.journal i)) ∙ rest-inner (setting_in old) old.journal h.added h.plain

abbrev pub tried-then : (m n : ℕ) (a b c : WorldView) → HasTried m a b → HasTried n b c → HasTried (m + n) a c
tried-then m n a b c h k = record {
  script = k.script ∙ h.script;
  files = k.files ∙ h.files;
  added = h.added ++ k.added;
  journal = k.journal ∙ (ap (λ xs. xs ++ k.added) h.journal ∙ append_assoc a.journal h.added k.added);
  numbered = All-append (λ (x : Rec). is_numbered x ≡ true) h.added k.added h.numbered k.numbered;
  plain = All-append (λ (x : Rec). is_commit x ≡ false) h.added k.added h.plain k.plain;
  few = omega (arith, length-append h.added k.added, h.few, k.few);
  goes = go_append (setting_in a) a.journal h.added k.added h.goes (subst (λ s. GoOnFrom s (a.journal ++ h.added) k.added) (setting-tried m a b h) (subst (λ j. GoOnFrom (setting_in b) j k.added) h.journal k.goes));
  holds = holds-then a b c (setting-tried m a b h) (rest-tried m a b h) h.holds k.holds;
}

-- it may be told of more
abbrev pub tried-more : (m n : ℕ) (a b : WorldView) → HasTried m a b → m ≤ n → HasTried n a b
tried-more m n a b h le = record {
  script = h.script;
  files = h.files;
  added = h.added;
  journal = h.journal;
  numbered = h.numbered;
  plain = h.plain;
  few = omega (arith, h.few, le);
  goes = h.goes;
  holds = h.holds;
}

-- ---- what is so after them
pub state-tried : (most : ℕ) (old new : WorldView) → (h : HasTried most old new) → state_of new ≡ replay (setting_in old) (state_of old) h.added
state-tried most old new h = (λ i. state_after (setting-tried most old new h i) (h.journal i)) ∙ state-append (setting_in old) old.journal h.added

-- ---- a loss is due then
pub stopped-here : (most : ℕ) (old mid new : WorldView) → HasTried most old mid → IsStopped mid new → IsStoppedWithin most old new
stopped-here most old mid new h stop = subst (λ w. IsStoppedWithin most old w) (sym stop.kept) (record { tried = h; due = stop.due })

pub stopped-then : (m n : ℕ) (a b c : WorldView) → HasTried m a b → IsStoppedWithin n b c → IsStoppedWithin (m + n) a c
stopped-then m n a b c h k = record { tried = tried-then m n a b c h k.tried; due = k.due }

pub stopped-more : (m n : ℕ) (a b : WorldView) → IsStoppedWithin m a b → m ≤ n → IsStoppedWithin n a b
stopped-more m n a b h le = record { tried = tried-more m n a b h.tried le; due = h.due }

-- ---- from where a run may go on
-- a state from which it may
pub record CanGoOn (s : Setting) (st : State) : Type 0 where
  pub within : IsWithin s st
  pub spared : (rank : ℕ) → LacksSpareOf s.spares s st rank → ⊥

pub can-from : (s : Setting) (journal : List Rec) → MayGoOn s journal → CanGoOn s (state_after s journal)
can-from s journal h = record { within = h.within; spared = h.spared }

pub may-from : (s : Setting) (journal : List Rec) → CanGoOn s (state_after s journal) → MayGoOn s journal
may-from s journal h = record { within = h.within; spared = h.spared }

-- one record more
pub can-noted : (w w' : WorldView) (x : Rec) → w' ≡ noted w x → CanGoOn (setting_in w) (after (setting_in w) (state_of w) x) → CanGoOn (setting_in w') (state_of w')
can-noted w w' x e h = subst (λ s. CanGoOn s (state_of w')) (sym (ap (λ (v : WorldView). setting_in v) e)) (subst (λ st. CanGoOn (setting_in w) st) (sym (state_noted w w' x e)) h)

-- ---- rounds, from where every rank is live
pub record IsSteady (s : Setting) (st : State) : Type 0 where
  pub within : IsWithin s st
  pub live : (rank : ℕ) → rank < ranks s → st.live rank ≡ true

-- no live rank asks for a spare
none_lacks : (spares : Option ℕ) (s : Setting) (st : State) (rank : ℕ) → IsSteady s st → LacksSpareOf spares s st rank → ⊥
none_lacks None s st rank h lacks = lacks
none_lacks (Some n) s st rank h lacks = true≢false (sym (h.live rank lacks.0) ∙ lacks.1)

pub can-steady : (s : Setting) (st : State) → IsSteady s st → CanGoOn s st
can-steady s st h = record { within = h.within; spared = λ rank lacks. none_lacks s.spares s st rank h lacks }

steady_same : (s : Setting) (st now : State) → IsSameRun st now → IsSteady s st → IsSteady s now
steady_same s st now same h = record {
  within = within_by s st now same.lost same.mark h.within;
  live = λ rank lt. ap (λ (f : _). f rank) same.live ∙ h.live rank lt;
}

go_steady : (s : Setting) (before xs : List Rec) → IsSteady s (state_after s before) → All (λ x. is_inner x ≡ true) xs → GoOnFrom s before xs
go_steady s before [] h all = tt
go_steady s before (x ∷ xs) h all =
    let inner : is_inner x ≡ true = All-head (λ (x : Rec). is_inner x ≡ true) x xs all in
    let st : State = state_after s before in
    let same : IsSameRun st (after s st x) = inner-run s st (x ∷ []) (All-cons (λ (x : Rec). is_inner x ≡ true) x [] inner (All-nil (λ (x : Rec). is_inner x ≡ true))) in
    let next : IsSteady s (state_after s (before ++ x ∷ [])) = subst (IsSteady s) (sym (state_after-push s before x)) (steady_same s st (after s st x) same h) in
    ((λ _. may-from s before (can-steady s st h)), go_steady s (before ++ x ∷ []) xs next (All-tail (λ (x : Rec). is_inner x ≡ true) x xs all))

tried_way : (most : ℕ) (old new : WorldView) → IsUnderWay old new → numbered new.journal ≤ numbered old.journal + most → IsSteady (setting_in old) (state_of old) → HoldsWords old new → HasTried most old new
tried_way most old new u few h holds = record {
  script = u.script;
  files = u.files;
  added = u.added;
  journal = u.journal;
  numbered = All-weaker (λ (x : Rec). is_inner x ≡ true) (λ (x : Rec). is_numbered x ≡ true) (λ x e. inner-numbered x e) u.added u.inner;
  plain = none_commits u.added u.inner;
  few = omega (arith, numbered-way old new u, few);
  goes = go_steady (setting_in old) old.journal u.added h u.inner;
  holds = holds;
}

pub steady-mending : (w : WorldView) → IsMending w → IsSteady (setting_in w) (state_of w)
steady-mending w h = record { within = h.within; live = λ rank lt. h.healing.live rank ∙ lt-ltb rank (ranks (setting_in w)) lt }

pub tried-mended : (most : ℕ) (P : Healed) (old new : WorldView) → IsMending old → IsRoomy (setting_in old) (rest_of old) (state_of old) → HasMended most P old new → HasTried most old new
tried-mended most P old new h roomy k = tried_way most old new k.under_way k.few (steady-mending old h) (k.holds roomy)

pub stopped-hit : (most : ℕ) (old new : WorldView) → IsMending old → IsRoomy (setting_in old) (rest_of old) (state_of old) → IsHitMending most old new → IsStoppedWithin most old new
stopped-hit most old new h roomy k = record { tried = tried_way most old new k.hit.under_way k.hit.few (steady-mending old h) (k.holds roomy); due = k.hit.due }
