-- A world after records of a phase.
use Rattle.std.proofs.Common.{◌≡◌, ◌+◌, ◌==◌, ◌&&◌, ℕ, true, false, List, [], ◌∷◌, ◌++◌, length, map, refl, sym, ap, subst, ◌∙◌, ⊎_elim, arith, All}
use Rattle.std.specs.Prelude.{drop}
use Rattle.std.proofs.lemmas.List.{append-nil, append_assoc}
use Rattle.std.proofs.lemmas.List.Elements.{All-nil, All-cons, All-append}
use Rattle.std.proofs.lemmas.Bool.{cases_Bool, eq-eqb}
use Rattle.rank_run.specs.declared.round.Event.{Event}
use Rattle.rank_run.specs.declared.round.Event.TheVariants.{Local, Move}
use Rattle.rank_run.specs.Action.{Action, Works, Sends, Receives}
use Rattle.rank_machine.specs.declared.slot.Tile.{Tile}
use Rattle.rank_machine.specs.declared.slot.Piece.{Piece}
use Rattle.rank_machine.specs.declared.kernel.Kernel.{Kernel}
use Rattle.rank_machine.specs.declared.record.Rec.{Rec}
use Rattle.rank_machine.specs.declared.record.Rec.TheVariants as r
use Rattle.rank_machine.specs.Setting.{Setting}
use Rattle.rank_machine.specs.State.{State, at_link, opened}
use Rattle.rank_machine.specs.Effect.{after, piece_in, replay, state_after}
use Rattle.rank_machine.proofs.Runs.{state_after-push}
use Rattle.rank_slots.specs.Rank.{Rank}
use Rattle.rank_slots.specs.Stands.{rec_of, records_of}
use Rattle.run_laws.specs.Due.{numbered}
use Rattle.run_laws.specs.LastCommit.{is_inner, rest_after, rest_from}
use Rattle.run_laws.proofs.Journals.{numbered-append, state-append}
use Rattle.run_laws.proofs.Inner.{numbered-inner, none_commits, rest-inner, IsSameRun, inner-run}
use Rattle.block_world.specs.World.{WorldView, setting_in, state_of, noted, noted_all}
use Rattle.world_heal.specs.Ways.{rest_of, IsUnderWay}

pub journal_all : (w : WorldView) (rs : List Rec) → (noted_all w rs).journal ≡ w.journal ++ rs
journal_all w [] = sym (append-nil w.journal)
journal_all w (x ∷ rs) = journal_all (noted w x) rs ∙ append_assoc w.journal (x ∷ []) rs

pub script_all : (w : WorldView) (rs : List Rec) → (noted_all w rs).script ≡ w.script
script_all w [] = refl
script_all w (x ∷ rs) = script_all (noted w x) rs

pub files_all : (w : WorldView) (rs : List Rec) → (noted_all w rs).files ≡ w.files
files_all w [] = refl
files_all w (x ∷ rs) = files_all (noted w x) rs

step_inner : (t : Action Kernel Piece) → is_inner (rec_of t) ≡ true
step_inner (Works rank x) = refl
step_inner (Sends from to x) = refl
step_inner (Receives to from x) = refl

pub steps_inner : (ts : List (Action Kernel Piece)) → All (λ x. is_inner x ≡ true) (map rec_of ts)
steps_inner [] = All-nil (λ (x : Rec). is_inner x ≡ true)
steps_inner (t ∷ ts) = All-cons (λ (x : Rec). is_inner x ≡ true) (rec_of t) (map rec_of ts) (step_inner t) (steps_inner ts)

abbrev pub under_way-all : (w w' : WorldView) (ts : List (Action Kernel Piece)) → w' ≡ noted_all w (map rec_of ts) → IsUnderWay w w'
under_way-all w w' ts e = record {
  script = ap (λ (v : WorldView). v.script) e ∙ script_all w (map rec_of ts);
  files = ap (λ (v : WorldView). v.files) e ∙ files_all w (map rec_of ts);
  added = map rec_of ts;
  journal = ap (λ (v : WorldView). v.journal) e ∙ journal_all w (map rec_of ts);
  inner = steps_inner ts;
}

-- as many numbered records as there are added ones
pub numbered-way : (w w' : WorldView) → (u : IsUnderWay w w') → numbered w'.journal ≡ numbered w.journal + length u.added
numbered-way w w' u = ap numbered u.journal ∙ (numbered-append w.journal u.added ∙ ap (λ n. numbered w.journal + n) (numbered-inner u.added u.inner))

pub under_way-same : (w : WorldView) → IsUnderWay w w
under_way-same w = record { script = refl; files = refl; added = []; journal = sym (append-nil w.journal); inner = All-nil (λ (x : Rec). is_inner x ≡ true) }

pub under_way-then : (a b c : WorldView) → IsUnderWay a b → IsUnderWay b c → IsUnderWay a c
under_way-then a b c h k = record {
  script = k.script ∙ h.script;
  files = k.files ∙ h.files;
  added = h.added ++ k.added;
  journal = k.journal ∙ (ap (λ xs. xs ++ k.added) h.journal ∙ append_assoc a.journal h.added k.added);
  inner = All-append (λ (x : Rec). is_inner x ≡ true) h.added k.added h.inner k.inner;
}

-- one record more
abbrev pub under_way-one : (w w' : WorldView) (x : Rec) → is_inner x ≡ true → w' ≡ noted w x → IsUnderWay w w'
under_way-one w w' x inner e = record {
  script = ap (λ (v : WorldView). v.script) e;
  files = ap (λ (v : WorldView). v.files) e;
  added = x ∷ [];
  journal = ap (λ (v : WorldView). v.journal) e;
  inner = All-cons (λ (y : Rec). is_inner y ≡ true) x [] inner (All-nil (λ (y : Rec). is_inner y ≡ true));
}

pub state_noted : (w w' : WorldView) (x : Rec) → w' ≡ noted w x → state_of w' ≡ after (setting_in w) (state_of w) x
state_noted w w' x e = ap (λ (v : WorldView). state_of v) e ∙ state_after-push (setting_in w) w.journal x

pub setting-way : (w w' : WorldView) → IsUnderWay w w' → setting_in w' ≡ setting_in w
setting-way w w' u = λ i. setting_in (record w' { script = u.script i; files = u.files i })

-- the state after them
pub state_way : (w w' : WorldView) → (u : IsUnderWay w w') → state_of w' ≡ replay (setting_in w) (state_of w) u.added
state_way w w' u = (λ i. state_after (setting-way w w' u i) (u.journal i)) ∙ state-append (setting_in w) w.journal u.added

pub run_way : (w w' : WorldView) → IsUnderWay w w' → IsSameRun (state_of w) (state_of w')
run_way w w' u = subst (λ st. IsSameRun (state_of w) st) (sym (state_way w w' u)) (inner-run (setting_in w) (state_of w) u.added u.inner)

-- the last commit stays the last one
pub rest_way : (w w' : WorldView) → IsUnderWay w w' → rest_of w' ≡ rest_of w
rest_way w w' u = (λ i. rest_after (setting-way w w' u i) (u.journal i)) ∙ rest-inner (setting_in w) w.journal u.added (none_commits u.added u.inner)

-- ---- after a round taken whole nothing is on its way
at_itself : {X : Type 0} (old : ℕ → ℕ → X) (a b : ℕ) (x : X) → at_link old a b x a b ≡ x
at_itself old a b x = rw (eq-eqb a a refl, eq-eqb b b refl) refl

one_link : (s : Setting) (st : State) (e : Event Rank Kernel Piece Tile) → ((from to : ℕ) → st.links from to ≡ []) → (from to : ℕ) → (replay s st (records_of (e ∷ []))).links from to ≡ []
one_link s st (Local rank k) h from to = h from to
one_link s st (Move a b x y) h from to =
    ⊎_elim
    (λ (e : ((from == a) && (to == b)) ≡ true). rw e (ap (λ ts. drop 1 ts) (at_itself st.links a b (st.links a b ++ piece_in (st.tiles a) x ∷ []) ∙ ap (λ ts. ts ++ piece_in (st.tiles a) x ∷ []) (h a b))))
    (λ (e : ((from == a) && (to == b)) ≡ false). rw e (h from to))
    (cases_Bool ((from == a) && (to == b)))

pub round_links : (s : Setting) (st : State) (es : List (Event Rank Kernel Piece Tile)) → ((from to : ℕ) → st.links from to ≡ []) → (from to : ℕ) → (replay s st (records_of es)).links from to ≡ []
round_links s st [] h = h
round_links s st (Local rank k ∷ es) h = round_links s (replay s st (records_of (Local rank k ∷ []))) es (one_link s st (Local rank k) h)
round_links s st (Move a b x y ∷ es) h = round_links s (replay s st (records_of (Move a b x y ∷ []))) es (one_link s st (Move a b x y) h)

pub round_taken : (s : Setting) (st : State) (es : List (Event Rank Kernel Piece Tile)) → (replay s st (records_of es)).taken ≡ st.taken
round_taken s st [] = refl
round_taken s st (Local rank k ∷ es) = round_taken s (replay s st (records_of (Local rank k ∷ []))) es
round_taken s st (Move a b x y ∷ es) = round_taken s (replay s st (records_of (Move a b x y ∷ []))) es

-- ---- only a commit changes the mark
mark_from : (s : Setting) (rest now : State) (xs : List Rec) → now.mark ≡ rest.mark → (replay s now xs).mark ≡ (rest_from s rest now xs).mark
mark_from s rest now [] e = e
mark_from s rest now (r.Commit m healed ∷ xs) e = mark_from s (after s now (r.Commit m healed)) (after s now (r.Commit m healed)) xs refl
mark_from s rest now (r.Feed a b ∷ xs) e = mark_from s rest (after s now (r.Feed a b)) xs e
mark_from s rest now (r.Kernel a b ∷ xs) e = mark_from s rest (after s now (r.Kernel a b)) xs e
mark_from s rest now (r.Send a b c ∷ xs) e = mark_from s rest (after s now (r.Send a b c)) xs e
mark_from s rest now (r.Recv a b c ∷ xs) e = mark_from s rest (after s now (r.Recv a b c)) xs e
mark_from s rest now (r.Save a b ∷ xs) e = mark_from s rest (after s now (r.Save a b)) xs e
mark_from s rest now (r.Take a b ∷ xs) e = mark_from s rest (after s now (r.Take a b)) xs e
mark_from s rest now (r.Restore ∷ xs) e = mark_from s rest (after s now r.Restore) xs e
mark_from s rest now (r.Spawn a ∷ xs) e = mark_from s rest (after s now (r.Spawn a)) xs e
mark_from s rest now (r.Lose a ∷ xs) e = mark_from s rest (after s now (r.Lose a)) xs e

-- the last mark is that of the state that the last commit left
pub mark-rest : (w : WorldView) → (state_of w).mark ≡ (rest_of w).mark
mark-rest w = mark_from (setting_in w) (opened (setting_in w)) (opened (setting_in w)) w.journal refl
