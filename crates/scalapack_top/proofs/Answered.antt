-- What the work answers, for the words.
use Rattle.std.proofs.Common.{◌≡◌, ℕ, List, [], ◌++◌, Option, Some, None, Ok, sym, ap, subst, ◌∙◌, inl, inr, append-nil}
use Rattle.std.specs.Prelude.{Bool, true, false, ◌⊎◌, ◌≢◌, ◌≤◌}
use Rattle.std.specs.Option.{option_map}
use Rattle.io_edge.specs.Shelf.{Held}
use Rattle.script_run.specs.declared.running.Ran.{Ran}
use Rattle.scalapack_top.specs.declared.status.Status.{Status}
use Rattle.scalapack_top.specs.declared.status.Status.TheVariants as status
use Rattle.scalapack_top.specs.declared.words.Machine.{Machine}
use Rattle.scalapack_top.specs.declared.words.Places.{Places}
use Rattle.scalapack_top.specs.Words.{word_at, places_of, machine_of, script_name}
use Rattle.scalapack_top.specs.Readings.{Readings}
use Rattle.scalapack_top.specs.Input.{◌>>=◌, Input, of_words, input_from, input_of}
use Rattle.scalapack_top.specs.Reads.{names_read, names_for, names_of, AreMade, WasRead, HasRead}
use Rattle.scalapack_top.specs.Writes.{Output, written}
use Rattle.scalapack_top.specs.Causes.{FailsAs, IsFailure, IsCaused}
use Rattle.scalapack_top.specs.Headline.{IsEnd, IsAnswer, IsAnswered, HasCause}
use Rattle.scalapack_top.specs.Work.{EndsBy, output_of, output_ran, IsWorkOf, IsRanBy, HasFailed, HasReadFor}
use Rattle.scalapack_top.specs.Status.{answer_of}
use Rattle.scalapack_top.specs.declared.call.Work.{Work}
use Rattle.world_heal.specs.declared.healing.Drove.{Drove}
use Rattle.world_heal.specs.declared.healing.Drove.TheVariants as d
use Rattle.scalapack_top.proofs.OneRead.{rest_of, told_rest, shelf_stays}

-- ---- which names were read
-- where memory ran out, or a put failed, they may be fewer than those that are due
first_made : (s : Status) (due made : List (List ℕ)) → AreMade s due made → (rest : List (List ℕ)) × (due ≡ made ++ rest)
first_made status.NoMemory due made h = h
first_made status.WriteFault due made h = h
first_made status.Done due made h = ([], h ∙ sym (append-nil made))
first_made (status.Beyond grid row) due made h = ([], h ∙ sym (append-nil made))
first_made (status.NoSpare rank) due made h = ([], h ∙ sym (append-nil made))
first_made status.Usage due made h = ([], h ∙ sym (append-nil made))
first_made (status.ReadFault file) due made h = ([], h ∙ sym (append-nil made))
first_made (status.Refused file line code) due made h = ([], h ∙ sym (append-nil made))

pub without_memory : (s : Status) (due : List (List ℕ)) (t t' : Option Held) → WasRead s due t t' → WasRead status.NoMemory due t t'
without_memory s due t t' r = record { made = r.made; are = first_made s due r.made r.are; after = r.after }

pub read_written : (words : List (List ℕ)) (t t' : Option Held) (s : Status) (ok : Bool) → HasRead words t t' s → HasRead words t t' (written s ok)
read_written words t t' s true h = h
read_written words t t' s false (readings, told, r) = (readings, told, record { made = r.made; are = first_made s _ r.made r.are; after = r.after })

-- ---- for words that name no script
no_name : (words : List (List ℕ)) → None ≡ places_of words → script_name words ≡ None
no_name words e = ap (option_map (λ (q : Places). word_at words q.script)) (sym e)

pub nothing_read : (words : List (List ℕ)) (t : Option Held) (answer : Status) → None ≡ places_of words → answer ≡ status.Usage → HasRead words t t answer
nothing_read words t answer e a = subst (HasRead words t t) (sym a) (rest_of t, told_rest t, record { made = []; are = ap (λ o. names_for (machine_of words) o (rest_of t)) (no_name words e); after = shelf_stays t })

pub wrong_usage : (words : List (List ℕ)) (m : Machine) (t : Option Held) (answer : Status) (output : Output) → None ≡ places_of words → answer ≡ status.Usage → IsEnd status.Usage output → IsAnswered m words t answer output
wrong_usage words m t answer output e a o = (rest_of t, told_rest t, subst (λ x. IsAnswer m words (rest_of t) x output) (sym a) (no_name words e, o))

-- ---- for words that name a script
module _ (words : List (List ℕ)) (p : Places) (name : List ℕ) (e : places_of words ≡ Some p) (n : name ≡ word_at words p.script) where
  named : script_name words ≡ Some name
  named = ap (option_map (λ (q : Places). word_at words q.script)) e ∙ ap (λ (x : List ℕ). Some x) (sym n)

  input_of-named : (r : Readings) → input_of words r ≡ input_from (machine_of words) name r
  input_of-named r = ap (λ o. of_words o >>= λ x. input_from (machine_of words) x r) named

  names_of-named : (r : Readings) → names_of words r ≡ names_read (machine_of words) name r
  names_of-named r = ap (λ o. names_for (machine_of words) o r) named

  some_name : script_name words ≢ None
  some_name k = let q : ◌≡◌ {A = Option (List ℕ)} (Some name) None = sym named ∙ k in absurd cc

  pub untouched : {S : Type 0} (old new : S) → script_name words ≡ None → new ≡ old
  untouched old new k = absurd (some_name k)

  -- how a run ended is answered so
  by_ending : (readings : Readings) (input : Input) → input_from (machine_of words) name readings ≡ Ok input → (x : Drove) (output : Output) → EndsBy (machine_of words) input x output → IsAnswer (machine_of words) words readings (answer_of x) output
  by_ending readings input due d.Done output h = (some_name, (input, input_of-named readings ∙ due, h))
  by_ending readings input due (d.Beyond grid row) output h = (some_name, (input, input_of-named readings ∙ due, h))
  by_ending readings input due (d.NoSpare rank) output h = (some_name, (input, input_of-named readings ∙ due, h))

  pub ran : (t : Option Held) (m : Machine) (r : Ran) (w : Work) → m ≡ machine_of words → IsWorkOf r w → IsRanBy m name t r → IsAnswered (machine_of words) words t w.answer (output_of w)
  ran t m r w same (inl (a, o)) (readings, told, (input, k, h)) =
      let due = subst (λ m. input_from m name readings ≡ Ok input) same k in
      let ends = subst (λ m. EndsBy m input r.ending (output_ran r)) same h in
      (readings, told, subst (λ x. IsAnswer (machine_of words) words readings x (output_of w)) (sym a) (subst (λ x. IsAnswer (machine_of words) words readings (answer_of r.ending) x) (sym o) (by_ending readings input due r.ending (output_ran r) ends)))
  ran t m r w same (inr (a, o)) (readings, told, k) = (readings, told, subst (λ x. IsAnswer (machine_of words) words readings x (output_of w)) (sym a) (some_name, o))

  by_status : (r : Readings) (s : Status) (output : Output) → IsFailure s → FailsAs s (input_from (machine_of words) name r) → IsEnd s output → IsAnswer (machine_of words) words r s output
  by_status r status.NoMemory output f k o = (some_name, o)
  by_status r (status.Refused file line code) output f k o = (some_name, input_of-named r ∙ k, o)
  by_status r (status.ReadFault file) output f k o = (some_name, input_of-named r ∙ k, o)
  by_status r status.Done output f k o = absurd f
  by_status r (status.Beyond grid row) output f k o = absurd f
  by_status r (status.NoSpare rank) output f k o = absurd f
  by_status r status.Usage output f k o = absurd f
  by_status r status.WriteFault output f k o = absurd f

  pub ended : (t : Option Held) (m : Machine) (s answer : Status) (output : Output) → m ≡ machine_of words → IsFailure s → HasFailed m name t s → (answer ≡ s) ⊎ (answer ≡ status.NoMemory) → IsEnd answer output
      → IsAnswered (machine_of words) words t answer output
  ended t m s answer output same f (readings, told, k) (inl a) o =
      let fails = subst (λ m. FailsAs s (input_from m name readings)) same k in
      (readings, told, subst (λ x. IsEnd x output → IsAnswer (machine_of words) words readings x output) (sym a) (by_status readings s output f fails) o)
  ended t m s answer output same f (readings, told, k) (inr a) o = (readings, told, subst (λ x. IsEnd x output → IsAnswer (machine_of words) words readings x output) (sym a) (λ z. (some_name, z)) o)

  pub read : (t t' : Option Held) (m : Machine) (s : Status) → m ≡ machine_of words → HasReadFor m name t t' s → HasRead words t t' s
  read t t' m s same (readings, told, k) = (readings, told, subst (λ due. WasRead s due t t') (ap (λ m. names_read m name readings) same ∙ sym (names_of-named readings)) k)

  -- the same where there may have been no memory for the text of the answer
  pub read_ended : (t t' : Option Held) (m : Machine) (s answer : Status) → m ≡ machine_of words → HasReadFor m name t t' s → (answer ≡ s) ⊎ (answer ≡ status.NoMemory) → HasRead words t t' answer
  read_ended t t' m s answer same h (inl a) = subst (HasRead words t t') (sym a) (read t t' m s same h)
  read_ended t t' m s answer same (readings, told, k) (inr a) = subst (HasRead words t t') (sym a) (read t t' m status.NoMemory same (readings, told, without_memory s (names_read m name readings) t t' k))

  -- the same of a run, for which all was read
  read_all : (x : Drove) (due : List (List ℕ)) (t t' : Option Held) → WasRead status.Done due t t' → WasRead (answer_of x) due t t'
  read_all d.Done due t t' k = k
  read_all (d.Beyond grid row) due t t' k = record { made = k.made; are = k.are; after = k.after }
  read_all (d.NoSpare rank) due t t' k = record { made = k.made; are = k.are; after = k.after }

  pub read_ran : (t t' : Option Held) (m : Machine) (r : Ran) (w : Work) → m ≡ machine_of words → IsWorkOf r w → HasReadFor m name t t' status.Done → HasRead words t t' w.answer
  read_ran t t' m r w same (inl (a, o)) (readings, told, k) =
      subst (HasRead words t t') (sym a) (read t t' m (answer_of r.ending) same (readings, told, read_all r.ending (names_read m name readings) t t' k))
  read_ran t t' m r w same (inr (a, o)) (readings, told, k) = subst (HasRead words t t') (sym a) (read t t' m status.NoMemory same (readings, told, without_memory status.Done (names_read m name readings) t t' k))

-- a run has no cause outside
none_caused : (f f' l l' : ℕ) (x : Drove) → IsCaused f f' l l' (answer_of x)
none_caused f f' l l' d.Done = tt
none_caused f f' l l' (d.Beyond grid row) = tt
none_caused f f' l l' (d.NoSpare rank) = tt

pub cause_ran : (f f' l l' : ℕ) (r : Ran) (w : Work) → f ≤ f' → l ≤ l' → IsWorkOf r w → HasCause f f' l l' w.answer
cause_ran f f' l l' r w a b (inl (e, o)) = record { faults_stay = a; longs_stay = b; caused = subst (IsCaused f f' l l') (sym e) (none_caused f f' l l' r.ending) }
cause_ran f f' l l' r w a b (inr (e, o)) = record { faults_stay = a; longs_stay = b; caused = subst (IsCaused f f' l l') (sym e) tt }

-- the cause of an answer, where it is the failure of the work or want of memory
pub cause : (f f' l l' : ℕ) (s answer : Status) → f ≤ f' → l ≤ l' → IsCaused f f' l l' s → (answer ≡ s) ⊎ (answer ≡ status.NoMemory) → HasCause f f' l l' answer
cause f f' l l' s answer a b k (inl e) = record { faults_stay = a; longs_stay = b; caused = subst (IsCaused f f' l l') (sym e) k }
cause f f' l l' s answer a b k (inr e) = record { faults_stay = a; longs_stay = b; caused = subst (IsCaused f f' l l') (sym e) tt }
