-- Reads one after another: what they answer, and how they leave a shelf.
use Rattle.std.proofs.Common.{◌≡◌, ℕ, zero, suc, List, [], ◌∷◌, ◌++◌, Option, Some, None, Result, Ok, Err, refl, sym, ap, subst, ◌∙◌, append_assoc}
use Rattle.std.specs.Prelude.{MatchOption, ⊤, Vec, IfErr}
use Rattle.std.specs.Option.{option_map}
use Rattle.std.specs.declared.alloc.Global.{Global}
use Rattle.io_edge.specs.declared.shelf.ShelfFault.{ShelfFault}
use Rattle.io_edge.specs.declared.shelf.ShelfFault.TheVariants as shelf
use Rattle.io_edge.specs.Shelf.{Held, read_answer, ReadTold, ReadCause}
use Rattle.scalapack_top.specs.declared.status.Status.{Status}
use Rattle.scalapack_top.specs.declared.status.Status.TheVariants as status
use Rattle.scalapack_top.specs.Readings.{Readings, after_read, after_reads, readings_of, AreOf}
use Rattle.scalapack_top.specs.Input.{◌>>=◌, of_read}
use Rattle.scalapack_top.specs.Reads.{unless_ended, AreMade}
use Rattle.scalapack_top.specs.Causes.{Comes, FailsAs, IsCaused, IsFailure, IsOfText, IsStep}
use Rattle.scalapack_top.specs.Read.{settled}

-- ---- readings
-- one read, and then others
abbrev pub then_reads : (List ℕ → Result (List ℕ) ShelfFault) → Readings → ℕ → List ℕ → Result (List ℕ) ShelfFault
then_reads now rest zero = now
then_reads now rest (suc k) = rest k

-- the reads that a shelf has before it; any others, where it doesn't tell its files
abbrev pub rest_of : Option Held → Readings
rest_of None = λ k name. Err shelf.Failed
rest_of (Some held) = readings_of held

pub told_rest : (t : Option Held) → AreOf t (rest_of t)
told_rest None = tt
told_rest (Some held) = refl

-- what a read answers for each name, where this is its answer for one
abbrev pub answer_now : Option Held → Result (List ℕ) ShelfFault → List ℕ → Result (List ℕ) ShelfFault
answer_now None answer = λ name. answer
answer_now (Some held) answer = read_answer held

pub answer_now-is : (t : Option Held) (name : List ℕ) (answer : Result (List ℕ) ShelfFault) → MatchOption t ⊤ (λ held. read_answer held name ≡ answer) → answer_now t answer name ≡ answer
answer_now-is None name answer e = refl
answer_now-is (Some held) name answer e = e

pub readings_of-then : (held : Held) → ◌≡◌ {A = Readings} (then_reads (read_answer held) (readings_of (after_read held))) (readings_of held)
readings_of-then held = λ i k. at k i
  where
    at : (k : ℕ) → then_reads (read_answer held) (readings_of (after_read held)) k ≡ readings_of held k
    at zero = refl
    at (suc k) = refl

-- ---- shelves
pub after_reads-append : (xs ys : List (List ℕ)) (held : Held) → after_reads (xs ++ ys) held ≡ after_reads ys (after_reads xs held)
after_reads-append [] ys held = refl
after_reads-append (x ∷ xs) ys held = after_reads-append xs ys (after_read held)

pub shelf_stays : (t : Option Held) → t ≡ option_map (after_reads []) t
shelf_stays None = refl
shelf_stays (Some held) = refl

pub shelf_then : (t t1 t2 : Option Held) (xs ys : List (List ℕ)) → t1 ≡ option_map (after_reads xs) t → t2 ≡ option_map (after_reads ys) t1 → t2 ≡ option_map (after_reads (xs ++ ys)) t
shelf_then None t1 t2 xs ys a b = b ∙ ap (option_map (after_reads ys)) a
shelf_then (Some held) t1 t2 xs ys a b = b ∙ ap (option_map (after_reads ys)) a ∙ ap (λ (x : Held). Some x) (sym (after_reads-append xs ys held))

-- readings that a shelf tells, after some reads
pub are_of-rest : (t now : Option Held) (before : Readings → Readings) (past : List (List ℕ)) → now ≡ option_map (after_reads past) t
    → MatchOption t ⊤ (λ first. before (readings_of (after_reads past first)) ≡ readings_of first) → AreOf t (before (rest_of now))
are_of-rest None now before past e told = tt
are_of-rest (Some first) now before past e told = ap (λ o. before (rest_of o)) e ∙ told

-- the same after one more read
pub told_then : (t now : Option Held) (before : Readings → Readings) (past : List (List ℕ)) (name : List ℕ) (answer : Result (List ℕ) ShelfFault) → now ≡ option_map (after_reads past) t
    → MatchOption t ⊤ (λ first. before (readings_of (after_reads past first)) ≡ readings_of first)
    → MatchOption t ⊤ (λ first. before (then_reads (answer_now now answer) (readings_of (after_reads (past ++ name ∷ []) first))) ≡ readings_of first)
told_then None now before past name answer e told = tt
told_then (Some first) now before past name answer e told =
    ap (λ o. before (then_reads (answer_now o answer) (readings_of (after_reads (past ++ name ∷ []) first)))) e
    ∙ ap (λ h. before (then_reads (read_answer (after_reads past first)) (readings_of h))) (after_reads-append past (name ∷ []) first)
    ∙ ap before (readings_of-then (after_reads past first))
    ∙ told

-- ---- names
-- where a file ends the work, it is the last that is read
pub made_at : {A : Type 0} (e : Status) (r : Result A Status) (past : List (List ℕ)) (name : List ℕ) (more : A → List (List ℕ)) → FailsAs e r → AreMade e (past ++ name ∷ unless_ended r more) (past ++ name ∷ [])
made_at status.NoMemory r past name more h = (unless_ended r more, sym (append_assoc past (name ∷ []) (unless_ended r more)))
made_at status.Done r past name more h = absurd h
made_at (status.Beyond grid row) r past name more h = absurd h
made_at (status.NoSpare rank) r past name more h = absurd h
made_at status.WriteFault r past name more h = absurd h
made_at status.Usage r past name more h = ap (λ x. past ++ name ∷ unless_ended x more) h
made_at (status.ReadFault file) r past name more h = ap (λ x. past ++ name ∷ unless_ended x more) h
made_at (status.Refused file line code) r past name more h = ap (λ x. past ++ name ∷ unless_ended x more) h

-- ---- failures
pub fails_on : {A B : Type 0} (e : Status) (r : Result A Status) (f : A → Result B Status) → FailsAs e r → FailsAs e (r >>= f)
fails_on status.NoMemory r f h = tt
fails_on status.Done r f h = absurd h
fails_on (status.Beyond grid row) r f h = absurd h
fails_on (status.NoSpare rank) r f h = absurd h
fails_on status.WriteFault r f h = absurd h
fails_on status.Usage r f h = ap (λ x. x >>= f) h
fails_on (status.ReadFault file) r f h = ap (λ x. x >>= f) h
fails_on (status.Refused file line code) r f h = ap (λ x. x >>= f) h

err_before : {A B : Type 0} (e : Status) (r : Result A Status) (g : A → B) → (r >>= λ a. Ok (g a)) ≡ Err e → r ≡ Err e
err_before e (Ok a) g h = absurd cc
err_before e (Err s) g h = cc

pub fails_before : {A B : Type 0} (e : Status) (r : Result A Status) (g : A → B) → FailsAs e (r >>= λ a. Ok (g a)) → FailsAs e r
fails_before status.NoMemory r g h = tt
fails_before status.Done r g h = absurd h
fails_before (status.Beyond grid row) r g h = absurd h
fails_before (status.NoSpare rank) r g h = absurd h
fails_before status.WriteFault r g h = absurd h
fails_before status.Usage r g h = err_before _ r g h
fails_before (status.ReadFault file) r g h = err_before _ r g h
fails_before (status.Refused file line code) r g h = err_before _ r g h

text_failure : {X : Type 0} (r : Result X Status) → IfErr r IsOfText → IfErr r IsFailure
text_failure (Ok x) h = tt
text_failure (Err status.NoMemory) h = tt
text_failure (Err (status.Refused file line code)) h = tt
text_failure (Err status.Done) h = absurd h
text_failure (Err (status.Beyond grid row)) h = absurd h
text_failure (Err (status.NoSpare rank)) h = absurd h
text_failure (Err status.Usage) h = absurd h
text_failure (Err status.WriteFault) h = absurd h
text_failure (Err (status.ReadFault file)) h = absurd h

text_caused : {X : Type 0} (f f' l l' : ℕ) (r : Result X Status) → IfErr r IsOfText → IfErr r (IsCaused f f' l l')
text_caused f f' l l' (Ok x) h = tt
text_caused f f' l l' (Err status.NoMemory) h = tt
text_caused f f' l l' (Err (status.Refused file line code)) h = λ e. absurd (h e)
text_caused f f' l l' (Err status.Done) h = absurd h
text_caused f f' l l' (Err (status.Beyond grid row)) h = absurd h
text_caused f f' l l' (Err (status.NoSpare rank)) h = absurd h
text_caused f f' l l' (Err status.Usage) h = absurd h
text_caused f f' l l' (Err status.WriteFault) h = absurd h
text_caused f f' l l' (Err (status.ReadFault file)) h = absurd h

-- ---- one read of a shelf
abbrev answered : Option Held → List ℕ → Result (Vec ℕ Global) ShelfFault → Result (List ℕ) ShelfFault
answered None name (Ok v) = Ok v.items
answered None name (Err e) = Err e
answered (Some held) name r = read_answer held name

module _ (file : ℕ) (name : List ℕ) where
  told_answer : (t : Option Held) (r : Result (Vec ℕ Global) ShelfFault) → MatchOption t ⊤ (λ held. read_answer held name ≡ answered t name r)
  told_answer None r = tt
  told_answer (Some held) r = refl

  comes : (t t' : Option Held) (r : Result (Vec ℕ Global) ShelfFault) → ReadTold name t t' r → Comes (λ (v : Vec ℕ Global). v.items) (settled file r) (of_read file (answered t name r))
  comes None None (Ok v) h = refl
  comes None None (Err shelf.Failed) h = refl
  comes None None (Err shelf.TooLong) h = refl
  comes None None (Err shelf.NoMemory) h = tt
  comes (Some held) (Some now) (Ok v) h = ap (of_read file) h.answers
  comes (Some held) (Some now) (Err shelf.Failed) h = ap (of_read file) h.answers
  comes (Some held) (Some now) (Err shelf.TooLong) h = ap (of_read file) h.answers
  comes (Some held) (Some now) (Err shelf.NoMemory) h = tt
  comes None (Some now) r h = absurd h
  comes (Some held) None r h = absurd h

  leaves : (t t' : Option Held) (r : Result (Vec ℕ Global) ShelfFault) → ReadTold name t t' r → t' ≡ option_map after_read t
  leaves None None r h = refl
  leaves (Some held) (Some now) r h = λ i. Some (record { files = h.files_are i; calls = h.calls_is i; planned = h.planned_is i })
  leaves None (Some now) r h = absurd h
  leaves (Some held) None r h = absurd h

  failure : (r : Result (Vec ℕ Global) ShelfFault) → IfErr (settled file r) IsFailure
  failure (Ok v) = tt
  failure (Err shelf.Failed) = tt
  failure (Err shelf.TooLong) = tt
  failure (Err shelf.NoMemory) = tt

  caused : (f f' l l' : ℕ) (r : Result (Vec ℕ Global) ShelfFault) → ReadCause f f' l l' r → IfErr (settled file r) (IsCaused f f' l l')
  caused f f' l l' (Ok v) h = tt
  caused f f' l l' (Err shelf.Failed) h = h.failed refl
  caused f f' l l' (Err shelf.TooLong) h = λ e. h.too_long refl
  caused f f' l l' (Err shelf.NoMemory) h = tt

  pub read_step : (t t' : Option Held) (f f' l l' : ℕ) (r : Result (Vec ℕ Global) ShelfFault) → ReadTold name t t' r → ReadCause f f' l l' r → IsStep (λ (v : Vec ℕ Global). v.items) name (of_read file) t t' f f' l l' (settled file r)
  read_step t t' f f' l l' r told cause = record {
    answer = answered t name r;
    is_told = told_answer t r;
    comes = comes t t' r told;
    leaves = leaves t t' r told;
    failure = failure r;
    faults_stay = cause.faults_never_fall;
    longs_stay = cause.longs_never_fall;
    caused = caused f f' l l' r cause;
  }

  -- ---- what is made of the bytes of a file
  module _ {X Y : Type 0} (view : X → Y) (next : List ℕ → Result Y Status) (t t' : Option Held) (f f' l l' : ℕ) where
    pub step_text : (v : Vec ℕ Global) (r : Result X Status) → IsStep (λ (v : Vec ℕ Global). v.items) name (of_read file) t t' f f' l l' (Ok v) → Comes view r (next v.items) → IfErr r IsOfText
        → IsStep view name (λ answer. of_read file answer >>= next) t t' f f' l l' r
    step_text v r step came text = record {
      answer = step.answer;
      is_told = step.is_told;
      comes = subst (Comes view r) (sym (ap (λ x. x >>= next) step.comes)) came;
      leaves = step.leaves;
      failure = text_failure r text;
      faults_stay = step.faults_stay;
      longs_stay = step.longs_stay;
      caused = text_caused f f' l l' r text;
    }

    pub step_unread : (e : Status) → IsStep (λ (v : Vec ℕ Global). v.items) name (of_read file) t t' f f' l l' (Err e) → IsStep view name (λ answer. of_read file answer >>= next) t t' f f' l l' (Err e)
    step_unread e step = record {
      answer = step.answer;
      is_told = step.is_told;
      comes = fails_on e (of_read file step.answer) next step.comes;
      leaves = step.leaves;
      failure = step.failure;
      faults_stay = step.faults_stay;
      longs_stay = step.longs_stay;
      caused = step.caused;
    }
