-- The steps of the reading, one after the other.
use Rattle.std.proofs.Common.{◌≡◌, ℕ, ◌≤◌, List, [], ◌∷◌, Option, Some, None, Result, Ok, Err, sym, ap, subst, ◌∙◌, arith}
use Rattle.std.specs.Option.{option_map}
use Rattle.io_edge.specs.declared.shelf.ShelfFault.{ShelfFault}
use Rattle.io_edge.specs.Shelf.{Held, read_answer}
use Rattle.run_data.specs.declared.command.Command.{Command}
use Rattle.run_data.specs.Script.{commands_of, modulus_of}
use Rattle.rank_machine.specs.Scripts.{Matrices}
use Rattle.scalapack_top.specs.declared.status.Status.{Status}
use Rattle.scalapack_top.specs.declared.status.Status.TheVariants as status
use Rattle.scalapack_top.specs.declared.words.Machine.{Machine}
use Rattle.scalapack_top.specs.declared.input.Prepared.{Prepared}
use Rattle.scalapack_top.specs.Readings.{Readings, later, after_read, readings_of, AreOf}
use Rattle.scalapack_top.specs.Input.{◌>>=◌, Input, script_from, input_from}
use Rattle.scalapack_top.specs.Reads.{unless_ended, names_from, names_read, AreMade, WasRead}
use Rattle.scalapack_top.specs.Causes.{FailsAs, IsCaused, IsStep}
use Rattle.scalapack_top.specs.Read.{files_read, files_names, input_read, IsPart}
use Rattle.scalapack_top.proofs.OneRead.{then_reads, rest_of, told_rest, answer_now, answer_now-is, readings_of-then, shelf_then, made_at, fails_on}

-- ---- failures
pub later_caused : (f0 f1 f2 l0 l1 l2 : ℕ) (e : Status) → f0 ≤ f1 → l0 ≤ l1 → IsCaused f1 f2 l1 l2 e → IsCaused f0 f2 l0 l2 e
later_caused f0 f1 f2 l0 l1 l2 status.NoMemory a b h = tt
later_caused f0 f1 f2 l0 l1 l2 status.Done a b h = tt
later_caused f0 f1 f2 l0 l1 l2 (status.Beyond grid row) a b h = tt
later_caused f0 f1 f2 l0 l1 l2 (status.NoSpare rank) a b h = tt
later_caused f0 f1 f2 l0 l1 l2 status.Usage a b h = tt
later_caused f0 f1 f2 l0 l1 l2 status.WriteFault a b h = tt
later_caused f0 f1 f2 l0 l1 l2 (status.ReadFault file) a b h = omega (arith, h)
later_caused f0 f1 f2 l0 l1 l2 (status.Refused file line code) a b h = λ e. let r = h e in omega (arith, r)

-- ---- the input: the script, and then its files
abbrev pub rest_due : List (Option Command) → Readings → Result Input Status
rest_due script readings = files_read script readings >>= λ files. Ok (record { script = script; files = files })

-- the readings of the script's read and of those after it
told_both : (t t1 : Option Held) (name : List ℕ) (answer : Result (List ℕ) ShelfFault) (rest : Readings) → t1 ≡ option_map after_read t → AreOf t1 rest → AreOf t (then_reads (answer_now t answer) rest)
told_both None t1 name answer rest e told = tt
told_both (Some held) t1 name answer rest e told =
    let there : rest ≡ readings_of (after_read held) = subst (λ t. AreOf t rest) e told in
    ap (λ r. then_reads (read_answer held) r) there ∙ readings_of-then held

module _ (m : Machine) (name : List ℕ) (t t1 : Option Held) (f f1 l l1 : ℕ) where
  -- the script was not read
  module _ (e : Status) (one : IsStep (λ (s : List (Option Command)). s) name (script_from m) t t1 f f1 l l1 (Err e)) where
    abbrev one_reading : Readings
    one_reading = then_reads (answer_now t one.answer) (rest_of t1)

    script_fails : FailsAs e (script_from m (one_reading 0 name))
    script_fails = subst (λ a. FailsAs e (script_from m a)) (sym (answer_now-is t name one.answer one.is_told)) one.comes

    pub input_fails : IsPart {X = Prepared} input_read (input_from m name) (names_read m name) t t1 f f1 l l1 (Err e)
    unfolding input_from names_read
    input_fails = record {
      readings = one_reading;
      are_told = told_both t t1 name one.answer (rest_of t1) one.leaves (told_rest t1);
      comes = fails_on e (script_from m (one_reading 0 name)) (λ s. rest_due s (later one_reading)) script_fails;
      read = record {
        made = name ∷ [];
        are = made_at e (script_from m (one_reading 0 name)) [] name (λ s. names_from (modulus_of (commands_of s)) (commands_of s) (later one_reading)) script_fails;
        after = one.leaves;
      };
      failure = one.failure;
      faults_stay = one.faults_stay;
      longs_stay = one.longs_stay;
      caused = one.caused;
    }

  module _ (script : List (Option Command)) (one : IsStep (λ (s : List (Option Command)). s) name (script_from m) t t1 f f1 l l1 (Ok script)) (t' : Option Held) (f' l' : ℕ) where
    -- the whole, by what the reads of the files answer
    abbrev all_readings : Readings → Readings
    all_readings rest = then_reads (answer_now t one.answer) rest

    script_is : (rest : Readings) → script_from m (all_readings rest 0 name) ≡ Ok script
    script_is rest = ap (script_from m) (answer_now-is t name one.answer one.is_told) ∙ one.comes

    input_is : (rest : Readings) → input_from m name (all_readings rest) ≡ rest_due script rest
    unfolding input_from
    input_is rest = ap (λ r. r >>= λ s. rest_due s rest) (script_is rest)

    names_are : (rest : Readings) → names_read m name (all_readings rest) ≡ name ∷ files_names script rest
    unfolding names_read
    names_are rest = ap (λ r. name ∷ unless_ended r (λ s. files_names s rest)) (script_is rest)

    made_both : (s : Status) (due made : List (List ℕ)) → AreMade s due made → AreMade s (name ∷ due) (name ∷ made)
    made_both status.NoMemory due made h = (h.0, ap (λ ns. name ∷ ns) h.1)
    made_both status.WriteFault due made h = (h.0, ap (λ ns. name ∷ ns) h.1)
    made_both status.Done due made h = ap (λ ns. name ∷ ns) h
    made_both (status.Beyond grid row) due made h = ap (λ ns. name ∷ ns) h
    made_both (status.NoSpare rank) due made h = ap (λ ns. name ∷ ns) h
    made_both status.Usage due made h = ap (λ ns. name ∷ ns) h
    made_both (status.ReadFault file) due made h = ap (λ ns. name ∷ ns) h
    made_both (status.Refused file line code) due made h = ap (λ ns. name ∷ ns) h

    read_both : (s : Status) (rest : Readings) → WasRead s (files_names script rest) t1 t' → WasRead s (names_read m name (all_readings rest)) t t'
    read_both s rest two = record {
      made = name ∷ two.made;
      are = subst (λ due. AreMade s due (name ∷ two.made)) (sym (names_are rest)) (made_both s (files_names script rest) two.made two.are);
      after = shelf_then t t1 t' (name ∷ []) two.made one.leaves two.after;
    }

    -- a file was not read
    pub input_then_fails : (e : Status) → IsPart (λ (x : Matrices). x) (files_read script) (files_names script) t1 t' f1 f' l1 l' (Err e) → IsPart {X = Prepared} input_read (input_from m name) (names_read m name) t t' f f' l l' (Err e)
    input_then_fails e two = record {
      readings = all_readings two.readings;
      are_told = told_both t t1 name one.answer two.readings one.leaves two.are_told;
      comes = subst (FailsAs e) (sym (input_is two.readings)) (fails_on e (files_read script two.readings) (λ files. Ok (record { script = script; files = files })) two.comes);
      read = read_both e two.readings two.read;
      failure = two.failure;
      faults_stay = let a = one.faults_stay in let b = two.faults_stay in omega (arith, a, b);
      longs_stay = let a = one.longs_stay in let b = two.longs_stay in omega (arith, a, b);
      caused = later_caused f f1 f' l l1 l' e one.faults_stay one.longs_stay two.caused;
    }

    -- all was read
    pub input_ok : (files : Matrices) → IsPart (λ (x : Matrices). x) (files_read script) (files_names script) t1 t' f1 f' l1 l' (Ok files)
        → IsPart {X = Prepared} input_read (input_from m name) (names_read m name) t t' f f' l l' (Ok (record { script = script; files = files }))
    input_ok files two = record {
      readings = all_readings two.readings;
      are_told = told_both t t1 name one.answer two.readings one.leaves two.are_told;
      comes = input_is two.readings ∙ ap (λ r. r >>= λ files. Ok (record { script = script; files = files })) two.comes;
      read = read_both status.Done two.readings two.read;
      failure = tt;
      faults_stay = let a = one.faults_stay in let b = two.faults_stay in omega (arith, a, b);
      longs_stay = let a = one.longs_stay in let b = two.longs_stay in omega (arith, a, b);
      caused = tt;
    }
