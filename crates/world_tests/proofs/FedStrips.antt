-- The setting of the script of four ranks, and rounds there by a computed test.
use Rattle.std.proofs.Common.{◌≡◌, ◌≢◌, ◌<◌, ◌==◌, ◌&&◌, arith, ◌∷◌, ℕ, Bool, true, false, not, nat_lt, List, [], Option, None, is_some, refl, sym, ap, subst, ◌∙◌, ⊎_elim, inl, inr, All, map}
use Rattle.std.specs.Prelude.{unwrap_or, if◌then◌else◌}
use Rattle.std.proofs.lemmas.List.Elements.{All-nil, All-cons}
use Rattle.std.proofs.lemmas.Bool.{cases_Bool, true≢false, eqb-true, and_parts, ltb-true}
use Rattle.std.proofs.lemmas.Bool.Decides.{eqb_tells}
use Rattle.std.proofs.lemmas.Cmp.{nat_cmp_total}
use Rattle.std.specs.FinMap as finmap
use Rattle.field_core.specs.Residue.{inverse}
use Rattle.field_core.specs.Primes.{prime_65537}
use Rattle.field_core.proofs.Computing.{quick_inverse, quick_inverse_is}
use Rattle.run_data.specs.Matrix.{Matrix, cols, entry, AreWords, tabulate, zero_matrix}
use Rattle.run_data.proofs.PartLaws.{AreWords-tabulate}
use Rattle.run_data.specs.declared.command.Command.{Command}
use Rattle.run_data.specs.Script.{commands_of}
use Rattle.rank_run.specs.declared.round.Event.{Event}
use Rattle.rank_run.specs.declared.round.Event.TheVariants.{Local, Move}
use Rattle.rank_run.specs.Parts.{IsWithin}
use Rattle.rank_run.specs.Action.{Action}
use Rattle.rank_run.specs.declared.run.Ran.{Ran}
use Rattle.rank_run.specs.declared.run.Ran.TheVariants as ran
use Rattle.rank_machine.specs.declared.slot.Slot.{Slot}
use Rattle.rank_machine.specs.declared.slot.Tile.{Tile}
use Rattle.rank_machine.specs.declared.slot.Piece.{Piece}
use Rattle.rank_machine.specs.declared.kernel.Kernel.{Kernel}
use Rattle.rank_machine.specs.declared.record.Rec.{Rec}
use Rattle.rank_machine.specs.declared.record.Rec.TheVariants as r
use Rattle.rank_machine.specs.declared.layout.Layout.{Layout}
use Rattle.rank_machine.specs.Setting.{Setting, Job, no_job, ranks, job, layout, is_matrix}
use Rattle.rank_machine.specs.Scripts.{Matrices, file_of, setting_of, grids_from}
use Rattle.rank_machine.specs.State.{State}
use Rattle.rank_machine.specs.Effect.{state_after, replay}
use Rattle.rank_machine.specs.Legal.{IsLegalRec, IsLegalFrom}
use Rattle.rank_machine.specs.Tests.{rec_test, legal_from}
use Rattle.rank_machine.proofs.Agree.{IsLegalRec-from_test, IsLegalFrom-from_test}
use Rattle.rank_slots.specs.Rank.{Rank}
use Rattle.rank_slots.specs.Stands.{rec_of, records_of}
use Rattle.rank_slots.proofs.Factors.{scalars_at}
use Rattle.script_lines.specs.Layouts.{AreGrids, IsLayout, makes_matrix, layout_in}
use Rattle.script_lines.specs.Sound.{IsSound}
use Rattle.dist_matrix.specs.Strips.{HasShape}
use Rattle.block_world.specs.declared.world.Did.{Did}
use Rattle.block_world.specs.declared.world.Did.TheVariants as did
use Rattle.block_world.specs.Did.{IsDid}
use Rattle.block_world.specs.World.{WorldView, setting_in, state_of, is_due, noted, noted_all}
use Rattle.block_world.specs.Rounds.{EndsAs, IsRoundOf}
use Rattle.run_laws.specs.Due.{ends_in, is_due_in}
use Rattle.world_tests.specs.Play.{IsOnlyMatrix}
use Rattle.world_tests.specs.FedStrips.{Events, lines, matrix, files, grid, where_it_lies, setting, setting_by, fed, data_slot, MayLook}

setting_is : setting_of lines files ≡ setting
unfolding lines
setting_is = refl

one_grid : AreGrids (grid ∷ [])
one_grid = (record { some_rows = omega arith; rows = omega arith; some_columns = omega arith; columns = omega arith; code_columns = omega arith; ranks = omega arith }, tt)

laid_out : IsLayout where_it_lies
laid_out = record {
  grid = record { some_rows = omega arith; rows = omega arith; some_columns = omega arith; columns = omega arith; code_columns = omega arith; ranks = omega arith };
  desc = record {
    dense = refl;
    some_rows = omega arith;
    rows = omega arith;
    some_columns = omega arith;
    columns = omega arith;
    some_block_rows = omega arith;
    block_rows = omega arith;
    some_block_columns = omega arith;
    block_columns = omega arith;
    row_source = omega arith;
    column_source = omega arith;
    local_rows = refl;
  };
}

shape : HasShape where_it_lies matrix
unfolding tabulate matrix
shape = record { rows = refl; columns = refl }

-- the matrix of line 2 is the only one
makes_none : (a b : Job) (x : Bool) → x ≡ false → b.makes ≡ None → is_some (if x then a else b).makes ≡ false
makes_none a b true e f = absurd (true≢false e)
makes_none a b false e f = ap is_some f

at_matrix : (A : ℕ → Type 0) → A 2 → (line : ℕ) → is_matrix setting line ≡ true → A line
at_matrix A two line h =
    ⊎_elim
    (λ (e : (2 == line) ≡ true). subst A (eqb-true 2 line e) two)
    (λ (e : (2 == line) ≡ false). absurd (true≢false (sym h ∙ makes_none (job setting 2) (no_job line) (2 == line) e refl)))
    (cases_Bool (2 == line))

found : file_of files 2 ≡ matrix
unfolding files
found = ap (λ (o : Option Matrix). unwrap_or o (zero_matrix 0 0)) (finmap.get-insert nat_cmp_total finmap.empty 2 matrix 2)

word_or : (b : Bool) (x y : ℕ) → x < 65537 → y < 65537 → (if b then x else y) < 65537
word_or true x y e f = e
word_or false x y e f = f

words : AreWords 65537 matrix
unfolding matrix
words =
    let zeros : AreWords 65537 (zero_matrix 2 1) = AreWords-tabulate 65537 2 1 (λ i j. 0) (omega arith) (λ i j _ _. omega arith) in
    AreWords-tabulate 65537 (zero_matrix 2 1).rows (cols (zero_matrix 2 1)) (λ i j. if (i == 1) && (j == 0) then 7 else entry (zero_matrix 2 1) i j) (omega arith)
    (λ i j _ _. word_or ((i == 1) && (j == 0)) 7 (entry (zero_matrix 2 1) i j) (omega arith) (zeros.below i j))

is_sound : IsSound 65537 setting
is_sound =
    let residue : ℕ → Type 0 = λ x. x < 65537 in
    let no_scalars : Job → Type 0 = λ j. All residue j.scalars in
    record {
      modulus = refl;
      large = omega arith;
      grids = one_grid;
      layouts = at_matrix (λ line. IsLayout (layout setting line)) laid_out;
      files = at_matrix (λ line. AreWords 65537 (file_of files line)) (subst (AreWords 65537) (sym found) words);
      scalars = λ line. scalars_at 65537 setting.jobs line (All-cons no_scalars (job setting 2) [] (All-nil residue) (All-nil no_scalars));
      some_messages = omega arith;
      messages = omega arith;
      of_ranks = All-nil (λ l. l.rank < ranks setting);
    }

is_only : IsOnlyMatrix setting where_it_lies matrix
is_only = record {
  laid_out = laid_out;
  shape = shape;
  layouts = at_matrix (λ line. layout setting line ≡ where_it_lies) refl;
  files = at_matrix (λ line. file_of files line ≡ matrix) found;
}

-- ---- for a world of this script
pub setting-of : (script : List (Option Command)) (by_line : Matrices) → script ≡ lines → by_line ≡ files → setting_of script by_line ≡ setting
setting-of script by_line e f = (λ i. setting_of (e i) (f i)) ∙ setting_is

pub sound-of : (s : Setting) → s ≡ setting → IsSound 65537 s
sound-of s e = subst (IsSound 65537) (sym e) is_sound

pub only-of : (s : Setting) (d : Layout) (m : Matrix) → s ≡ setting → d ≡ where_it_lies → m ≡ matrix → IsOnlyMatrix s d m
only-of s d m e f g = subst (λ (t : Setting). IsOnlyMatrix t d m) (sym e) (subst (λ (l : Layout). IsOnlyMatrix setting l m) (sym f) (subst (λ (x : Matrix). IsOnlyMatrix setting where_it_lies x) (sym g) is_only))

-- where no losses are written, each call makes its record
and_false : (b : Bool) → (b && false) ≡ false
and_false true = refl
and_false false = refl

pub not_due : (w : WorldView) → (setting_in w).losses ≡ [] → is_due w ≡ false
not_due w e = ap (λ ls. is_due_in ls w.journal) e ∙ and_false (not (ends_in false w.journal))

pub made : (d : Did) (w w' : WorldView) (x : Rec) → (setting_in w).losses ≡ [] → IsDid d w w' x → w' ≡ noted w x
made did.Done w w' x e h = h.noted
made did.Hit w w' x e h = absurd (true≢false (sym h.due ∙ not_due w e))

pub setting-noted_all : (w : WorldView) (rs : List Rec) → setting_in (noted_all w rs) ≡ setting_in w
setting-noted_all w [] = refl
setting-noted_all w (x ∷ rs) = setting-noted_all (noted w x) rs

-- ---- rounds there
abbrev is_within : Event Rank Kernel Piece Tile → Bool
is_within (Local a k) = nat_lt a 4
is_within (Move a b x y) = not (a == b) && (nat_lt a 4 && nat_lt b 4)

abbrev are_within : Events → Bool
are_within [] = true
are_within (e ∷ es) = is_within e && are_within es

different : (a b : ℕ) → not (a == b) ≡ true → a ≢ b
different a b e p = elim (eqb_tells a b) [ inl q ↦ absurd (true≢false (sym e ∙ ap not q.0)) | inr q ↦ q.1 p ]

one_within : (e : Event Rank Kernel Piece Tile) → is_within e ≡ true → IsWithin 4 e
one_within (Local a k) h = ltb-true a 4 h
one_within (Move a b x y) h =
    let z = and_parts (not (a == b)) (nat_lt a 4 && nat_lt b 4) h in
    let u = and_parts (nat_lt a 4) (nat_lt b 4) z.1 in
    (different a b z.0, ltb-true a 4 u.0, ltb-true b 4 u.1)

all_within : (es : Events) → are_within es ≡ true → All (IsWithin 4) es
all_within [] h = All-nil (IsWithin 4)
all_within (e ∷ es) h = let z = and_parts (is_within e) (are_within es) h in All-cons (IsWithin 4) e es (one_within e z.0) (all_within es z.1)

-- the test of a round and of a look after it, with inverses that compute
abbrev pub looks : Events → ℕ → Slot → Bool
looks es rank slot =
    let s = setting_by (quick_inverse 65537) in
    let st = state_after s fed in
    are_within es && (legal_from s [] st (records_of es) && rec_test s [] (replay s st (records_of es)) (r.Take rank slot))

pub may_look : (es : (ℕ → ℕ) → Events) (rank : ℕ) (slot : Slot) → looks (es (quick_inverse 65537)) rank slot ≡ true → MayLook (inverse 65537) (es (inverse 65537)) rank slot
may_look es rank slot h =
    let quick = quick_inverse 65537 in
    let s = setting_by quick in
    let st = state_after s fed in
    let round = es quick in
    let a = and_parts (are_within round) (legal_from s [] st (records_of round) && rec_test s [] (replay s st (records_of round)) (r.Take rank slot)) h in
    let b = and_parts (legal_from s [] st (records_of round)) (rec_test s [] (replay s st (records_of round)) (r.Take rank slot)) a.1 in
    subst (λ invert. MayLook invert (es invert) rank slot) (quick_inverse_is 65537 prime_65537)
    (record {
      within = all_within round a.0;
      legal = IsLegalFrom-from_test s [] st (records_of round) tt b.0;
      look = IsLegalRec-from_test s [] (replay s st (records_of round)) (r.Take rank slot) tt b.1;
    })

-- the same of any list of events that is this one
pub may_look-of : (es : Events) (round : Events) (rank : ℕ) (slot : Slot) → round ≡ es → looks es rank slot ≡ true → MayLook (inverse 65537) round rank slot
may_look-of es round rank slot e h = subst (λ x. MayLook (inverse 65537) x rank slot) (sym e) (may_look (λ _. es) rank slot h)

-- ---- in a world of this setting
pub legal_in : (w : WorldView) (j : List Rec) (x : Rec) → setting_in w ≡ setting → w.journal ≡ j → IsLegalRec setting (state_after setting j) x → IsLegalRec (setting_in w) (state_of w) x
legal_in w j x e f h = subst (λ (t : Setting). IsLegalRec t (state_after t w.journal) x) (sym e) (subst (λ (k : List Rec). IsLegalRec setting (state_after setting k) x) (sym f) h)

pub first_feed : IsLegalRec setting (state_after setting []) (r.Feed 0 data_slot)
first_feed = IsLegalRec-from_test setting [] (state_after setting []) (r.Feed 0 data_slot) tt refl

pub second_feed : IsLegalRec setting (state_after setting (r.Feed 0 data_slot ∷ [])) (r.Feed 2 data_slot)
second_feed = IsLegalRec-from_test setting [] (state_after setting (r.Feed 0 data_slot ∷ [])) (r.Feed 2 data_slot) tt refl

-- what a run and a look ask
pub record CanLookAfter (s : Setting) (j : List Rec) (es : Events) (rank : ℕ) (slot : Slot) : Type 0 where
  pub links : (from to : ℕ) → (state_after s j).links from to ≡ []
  pub within : All (IsWithin (ranks s)) es
  pub legal : IsLegalFrom s (state_after s j) (records_of es)
  pub look : IsLegalRec s (replay s (state_after s j) (records_of es)) (r.Take rank slot)

pub can_look : (w : WorldView) (es : Events) (rank : ℕ) (slot : Slot) → setting_in w ≡ setting → w.journal ≡ fed → MayLook (inverse 65537) es rank slot → CanLookAfter (setting_in w) w.journal es rank slot
can_look w es rank slot e f may =
    subst (λ (t : Setting). CanLookAfter t w.journal es rank slot) (sym e)
    (subst (λ (k : List Rec). CanLookAfter setting k es rank slot) (sym f) (record { links = λ from to. refl; within = may.within; legal = may.legal; look = may.look }))

-- after a whole round the state is that of its events in list order
pub look_after : (w w' : WorldView) (es : Events) (order order' : List ℕ) (ended : Ran) (x : Rec) → ended ≡ ran.Whole
    → (noted : List (Action Kernel Piece)) × IsRoundOf w w' es order order' ended noted
    → IsLegalRec (setting_in w) (replay (setting_in w) (state_of w) (records_of es)) x → IsLegalRec (setting_in w') (state_of w') x
look_after w w' es order order' ended x whole z h =
    let e : setting_in w' ≡ setting_in w = ap setting_in z.1.records ∙ setting-noted_all w (map rec_of z.0) in
    let end : EndsAs ran.Whole w w' es z.0 = subst (λ (d : Ran). EndsAs d w w' es z.0) whole z.1.end in
    subst (λ (t : Setting). IsLegalRec t (state_of w') x) (sym e) (subst (λ (u : State). IsLegalRec (setting_in w) u x) (sym end.1) h)

-- ---- a site of this script
grids_there : AreGrids (grids_from 0 (commands_of lines))
unfolding lines
grids_there = one_grid

pub grids-within : (script : List (Option Command)) → script ≡ lines → AreGrids (grids_from 0 (commands_of script))
grids-within script e = subst (λ s. AreGrids (grids_from 0 (commands_of s))) (sym e) grids_there

laid_there : (line : ℕ) → makes_matrix lines line ≡ true → IsLayout (layout_in lines line)
unfolding lines
laid_there line h = at_matrix (λ l. IsLayout (layout setting l)) laid_out line h

pub laid-out : (script : List (Option Command)) → script ≡ lines → (line : ℕ) → makes_matrix script line ≡ true → IsLayout (layout_in script line)
laid-out script e = subst (λ s. (line : ℕ) → makes_matrix s line ≡ true → IsLayout (layout_in s line)) (sym e) laid_there
