-- The files of a script, one line after another.
use Rattle.std.proofs.Common.{◌≡◌, ℕ, suc, ◌+◌, ◌-◌, ◌<◌, ◌≤◌, List, [], ◌∷◌, length, get_or, take, drop, Option, Some, None, Result, Ok, Err, refl, sym, ap, subst, ◌∙◌, arith, rules, inl, inr, drop-cons, add-one, ◌++◌, append_assoc, append-nil}
use Rattle.std.specs.Prelude.{MatchOption, ⊤, unwrap_or, pos}
use Rattle.std.specs.Option.{option_map}
use Rattle.std.specs.FinMap as map
use Rattle.std.specs.Str.{is_utf8, IsUtf8}
use Rattle.std.proofs.lemmas.Str.{IsUtf8-from_is_utf8}
use Rattle.std.proofs.lemmas.Bool.{cases_lt}
use Rattle.std.proofs.lemmas.Grind.{common_steps}
use Rattle.std.proofs.lemmas.Option.{slice_get_read}
use Rattle.io_edge.specs.Shelf.{Held}
use Rattle.run_data.specs.Matrix.{Matrix, zero_matrix}
use Rattle.run_data.specs.Script.{Numbered, commands_from, commands_of, command_at, modulus_of}
use Rattle.run_data.specs.declared.command.Command.{Command}
use Rattle.run_data.specs.declared.command.Command.TheVariants as c
use Rattle.run_data.proofs.Lines.{command_at-before, command_at_found, command_at_past}
use Rattle.rank_machine.specs.Scripts.{Matrices, file_of}
use Rattle.script_words.specs.declared.kinds.Kind.TheVariants.{NewName, GridName, FileName}
use Rattle.script_words.specs.Tables.{first_code}
use Rattle.script_rules.specs.Rules.{word_rules}
use Rattle.script_rules.specs.declared.told.Told.{Told}
use Rattle.script_bounds.specs.Accepted.{broken_by, names_code, IsAccepted}
use Rattle.script_rules.specs.Told.{told_of_script}
use Rattle.script_words.proofs.Tables.{or_none, first_none}
use Rattle.scalapack_top.specs.declared.status.Status.{Status}
use Rattle.scalapack_top.specs.Readings.{Readings, after_reads, readings_of}
use Rattle.scalapack_top.specs.Input.{◌>>=◌, matrix_from, file_then, files_from}
use Rattle.scalapack_top.specs.Reads.{unless_ended, name_then, names_from, AreMade}
use Rattle.scalapack_top.specs.Causes.{FailsAs, IsStep}
use Rattle.scalapack_top.specs.Read.{file_due, IsLine, files_read, files_names, IsPart, IsPut, IsAdded, NamesText}
use Rattle.serial_laws.specs.Files.{HasSizedFile, FileFits, HasFiles}
use Rattle.scalapack_top.proofs.OneRead.{then_reads, rest_of, answer_now, answer_now-is, shelf_stays, shelf_then, are_of-rest, told_then, made_at, fails_on, fails_before}
use Rattle.scalapack_top.proofs.Steps.{later_caused}

-- ---- the FILE of an accepted matrix line is text
file_is_text : (cs : List Numbered) (line : ℕ) (name grid file : List ℕ) → names_code cs line ((NewName, name) ∷ (GridName, grid) ∷ (FileName, file) ∷ []) ≡ None → IsUtf8 file
file_is_text cs line name grid file e =
    let one = or_none (first_code (word_rules cs line NewName name)) _ e in
    let two = or_none (first_code (word_rules cs line GridName grid)) _ one.1 in
    let three = or_none (first_code (word_rules cs line FileName file)) None two.1 in
    IsUtf8-from_is_utf8 file (first_none (pos 4) (is_utf8 file) [] three.0).0

unbroken_text : (told : Told) (script : List (Option Command)) (command : Command) → broken_by told script command ≡ None → NamesText command
unfolding broken_by
unbroken_text told script (c.Matrix name grid m n mb nb rsrc csrc file) e =
    let names = or_none (names_code (commands_of script) (suc (length script)) ((NewName, name) ∷ (GridName, grid) ∷ (FileName, file) ∷ [])) _ e in
    file_is_text (commands_of script) (suc (length script)) name grid file names.0
unbroken_text told script command e = tt

pub names_text : (script : List (Option Command)) → IsAccepted script → (i : ℕ) (command : Command) → i < length script → Some command ≡ get_or script i (Some command) → NamesText command
names_text script a i command lt e = unbroken_text (told_of_script (commands_of script)) (take i script) command (a.lines.kept i command (slice_get_read script (length script) i (Some command) refl lt e))

-- ---- files by line
put_here : (files : Matrices) (line : ℕ) (a : Matrix) → map.get (map.insert files line a) line ≡ Some a
put_here files line a = grind (map.gets, rules)

put_elsewhere : (files : Matrices) (line : ℕ) (a : Matrix) (k : ℕ) → k < line → map.get (map.insert files line a) k ≡ map.get files k
put_elsewhere files line a k lt = grind (arith, map.gets, rules)

-- the files of earlier lines stay
kept : (p : ℕ) (command : Command) (line k : ℕ) (old new : Matrices) → IsAdded p line command old new → k < line → map.get new k ≡ map.get old k
kept p (c.Matrix name grid m n mb nb rsrc csrc file) line k old new put lt = ap (λ x. map.get x k) put.put ∙ put_elsewhere old line put.matrix k lt
kept p command line k old new e lt = ap (λ x. map.get x k) e

fits_kept : (p : ℕ) (o : Option Command) (old new : Matrices) (k : ℕ) → map.get new k ≡ map.get old k → FileFits p o old k → FileFits p o new k
fits_kept p (Some (c.Matrix name grid m n mb nb rsrc csrc file)) old new k e h =
    let same : file_of new k ≡ file_of old k = ap (λ (x : Option Matrix). unwrap_or x (zero_matrix 0 0)) e in
    file_fits m n old new k e same h
  where
    file_fits : (m n : ℕ) (old new : Matrices) (k : ℕ) → map.get new k ≡ map.get old k → file_of new k ≡ file_of old k → HasSizedFile p m n old k → HasSizedFile p m n new k
    file_fits m n old new k e same h = record {
      there = e ∙ h.there ∙ ap (λ (x : Matrix). Some x) (sym same);
      residues = rw same h.residues;
    }
fits_kept p o old new k e h = tt

-- the file of a line, after it was added
added_fits : (p : ℕ) (command : Command) (line : ℕ) (old new : Matrices) → IsAdded p line command old new → FileFits p (Some command) new line
added_fits p (c.Matrix name grid m n mb nb rsrc csrc file) line old new put = put_fits m n line old new put
  where
    put_fits : (m n line : ℕ) (old new : Matrices) → IsPut p m n line old new → HasSizedFile p m n new line
    put_fits m n line old new put =
        let there : map.get new line ≡ Some put.matrix = ap (λ x. map.get x line) put.put ∙ put_here old line put.matrix in
        let is : file_of new line ≡ put.matrix = ap (λ (x : Option Matrix). unwrap_or x (zero_matrix 0 0)) there in
        record { there = there ∙ ap (λ (x : Matrix). Some x) (sym is); residues = rw is put.residues }
added_fits p command line old new put = tt

-- ---- one line, and then the rest
bind_map : {A B C : Type 0} (r : Result A Status) (g : A → B) (k : B → Result C Status) → (r >>= λ a. k (g a)) ≡ ((r >>= λ a. Ok (g a)) >>= k)
bind_map (Ok a) g k = refl
bind_map (Err e) g k = refl

names_on : {A B : Type 0} (r : Result A Status) (g : A → B) (b : B) (ns : List (List ℕ)) → (r >>= λ a. Ok (g a)) ≡ Ok b → unless_ended r (λ a. ns) ≡ ns
names_on (Ok a) g b ns e = refl
names_on (Err s) g b ns e = absurd cc

-- the counts of a shelf don't fall at a line
line_stays : {X : Type 0} (p : ℕ) (command : Command) (line : ℕ) (old new : Matrices) (t t' : Option Held) (f f' l l' : ℕ) (r : Result X Status) → IsLine p line command old new t t' f f' l l' r → (f ≤ f') × (l ≤ l')
line_stays p (c.Matrix name grid m n mb nb rsrc csrc file) line old new t t' f f' l l' r step = (step.faults_stay, step.longs_stay)
line_stays p command line old new t t' f f' l l' r step = (step.faults_stay, step.longs_stay)

-- ---- the lines read so far
-- What the reads so far have answered and the reads to come make up the readings of the whole: what the whole comes to by them is
-- what the lines that are left come to by the reads to come, beside the files so far; and so it is for the names that are read.
pub record GoesOn (script : List (Option Command)) (i : ℕ) (told now : Option Held) (files : Matrices) : Type 0 where
  pub before : Readings → Readings
  pub past : List (List ℕ)
  pub shelf : now ≡ option_map (after_reads past) told
  pub told_before : MatchOption told ⊤ (λ first. before (readings_of (after_reads past first)) ≡ readings_of first)
  pub going : (rest : Readings) → files_read script (before rest) ≡ files_from (modulus_of (commands_of script)) (commands_from (suc i) (drop i script)) rest files
  pub names : (rest : Readings) → files_names script (before rest) ≡ past ++ names_from (modulus_of (commands_of script)) (commands_from (suc i) (drop i script)) rest

module _ (script : List (Option Command)) (i : ℕ) (t now : Option Held) (files : Matrices) (g : GoesOn script i t now files) where
  abbrev field : ℕ
  field = modulus_of (commands_of script)

  -- the line has no words
  no_words : drop i script ≡ None ∷ drop (suc i) script → GoesOn script (suc i) t now files
  no_words next = record {
    before = g.before;
    past = g.past;
    shelf = g.shelf;
    told_before = g.told_before;
    going = λ rest. g.going rest ∙ ap (λ ls. files_from field (commands_from (suc i) ls) rest files) next;
    names = λ rest. g.names rest ∙ ap (λ ls. g.past ++ names_from field (commands_from (suc i) ls) rest) next;
  }

  abbrev rest_due : Readings → Matrices → Result Matrices Status
  rest_due rest more = files_from field (commands_from (suc (suc i)) (drop (suc i) script)) rest more

  abbrev rest_names : Readings → List (List ℕ)
  rest_names rest = names_from field (commands_from (suc (suc i)) (drop (suc i) script)) rest

  -- the line has a command
  module _ (command : Command) (next : drop i script ≡ Some command ∷ drop (suc i) script) where
    going_line : (rest : Readings) → files_read script (g.before rest) ≡ file_then field (suc i) command rest files rest_due
    going_line rest = g.going rest ∙ ap (λ ls. files_from field (commands_from (suc i) ls) rest files) next

    names_line : (rest : Readings) → files_names script (g.before rest) ≡ g.past ++ name_then field (suc i) command rest rest_names
    names_line rest = g.names rest ∙ ap (λ ls. g.past ++ names_from field (commands_from (suc i) ls) rest) next

  -- the command is a matrix line, whose file was read or not
  module _ (name grid : List ℕ) (m n mb nb rsrc csrc : ℕ) (file : List ℕ) (next : drop i script ≡ Some (c.Matrix name grid m n mb nb rsrc csrc file) ∷ drop (suc i) script) (more : Matrices) (now' : Option Held) (f1 f' l1 l' : ℕ) {X : Type 0} where
    module _ (r : Result X Status) (step : IsStep (λ (x : X). more) file (file_due field (suc i) m n files) now now' f1 f' l1 l' r) where
      abbrev with_file : Readings → Readings
      with_file rest = then_reads (answer_now now step.answer) rest

      answer_is : (rest : Readings) → with_file rest 0 file ≡ step.answer
      answer_is rest = answer_now-is now file step.answer step.is_told

      shelf_after : now' ≡ option_map (after_reads (g.past ++ file ∷ [])) t
      shelf_after = shelf_then t now now' g.past (file ∷ []) g.shelf step.leaves

      told_after : MatchOption t ⊤ (λ first. g.before (with_file (readings_of (after_reads (g.past ++ file ∷ []) first))) ≡ readings_of first)
      told_after = told_then t now g.before g.past file step.answer g.shelf g.told_before

      going_file : (rest : Readings) → files_read script (g.before (with_file rest)) ≡ (matrix_from field (suc i) m n step.answer >>= λ a. rest_due rest (map.insert files (suc i) a))
      going_file rest = going_line (c.Matrix name grid m n mb nb rsrc csrc file) next (with_file rest) ∙ ap (λ x. matrix_from field (suc i) m n x >>= λ a. rest_due rest (map.insert files (suc i) a)) (answer_is rest)

      names_file : (rest : Readings) → files_names script (g.before (with_file rest)) ≡ g.past ++ file ∷ unless_ended (matrix_from field (suc i) m n step.answer) (λ a. rest_names rest)
      names_file rest = names_line (c.Matrix name grid m n mb nb rsrc csrc file) next (with_file rest) ∙ ap (λ x. g.past ++ file ∷ unless_ended (matrix_from field (suc i) m n x) (λ a. rest_names rest)) (answer_is rest)

    matrix_read : (x : X) → IsStep (λ (x : X). more) file (file_due field (suc i) m n files) now now' f1 f' l1 l' (Ok x) → GoesOn script (suc i) t now' more
    matrix_read x step = record {
      before = λ rest. g.before (with_file (Ok x) step rest);
      past = g.past ++ file ∷ [];
      shelf = shelf_after (Ok x) step;
      told_before = told_after (Ok x) step;
      going = λ rest. going_file (Ok x) step rest ∙ bind_map (matrix_from field (suc i) m n step.answer) (λ a. map.insert files (suc i) a) (rest_due rest) ∙ ap (λ r. r >>= rest_due rest) step.comes;
      names = λ rest. names_file (Ok x) step rest ∙ ap (λ ns. g.past ++ file ∷ ns) (names_on (matrix_from field (suc i) m n step.answer) (λ a. map.insert files (suc i) a) more (rest_names rest) step.comes)
          ∙ sym (append_assoc g.past (file ∷ []) (rest_names rest));
    }

    matrix_fails : (e : Status) (f l : ℕ) → f ≤ f1 → l ≤ l1 → IsStep (λ (x : X). more) file (file_due field (suc i) m n files) now now' f1 f' l1 l' (Err e) → IsPart (λ (m : Matrices). m) (files_read script) (files_names script) t now' f f' l l' (Err e)
    matrix_fails e f l fs ls step = record {
      readings = g.before (with_file (Err e) step (rest_of now'));
      are_told = are_of-rest t now' (λ rest. g.before (with_file (Err e) step rest)) (g.past ++ file ∷ []) (shelf_after (Err e) step) (told_after (Err e) step);
      comes = subst (FailsAs e) (sym (going_file (Err e) step (rest_of now'))) (fails_on e (matrix_from field (suc i) m n step.answer) (λ a. rest_due (rest_of now') (map.insert files (suc i) a)) fails);
      read = record {
        made = g.past ++ file ∷ [];
        are = subst (λ due. AreMade e due (g.past ++ file ∷ [])) (sym (names_file (Err e) step (rest_of now'))) (made_at e (matrix_from field (suc i) m n step.answer) g.past file (λ a. rest_names (rest_of now')) fails);
        after = shelf_after (Err e) step;
      };
      failure = step.failure;
      faults_stay = let a = step.faults_stay in omega (arith, a, fs);
      longs_stay = let a = step.longs_stay in omega (arith, a, ls);
      caused = later_caused f f1 f' l l1 l' e fs ls step.caused;
    }
      where
        fails : FailsAs e (matrix_from field (suc i) m n step.answer)
        fails = fails_before e (matrix_from field (suc i) m n step.answer) (λ a. map.insert files (suc i) a) step.comes

  -- the line of any command was read
  line_read : {X : Type 0} (x : X) (command : Command) → drop i script ≡ Some command ∷ drop (suc i) script → (more : Matrices) (now' : Option Held) (f1 f' l1 l' : ℕ)
      → IsLine field (suc i) command files more now now' f1 f' l1 l' (Ok x) → IsAdded field (suc i) command files more → GoesOn script (suc i) t now' more
  line_read x (c.Matrix name grid m n mb nb rsrc csrc file) next more now' f1 f' l1 l' step added = matrix_read name grid m n mb nb rsrc csrc file next more now' f1 f' l1 l' x step
  line_read x command next more now' f1 f' l1 l' step added = subst (λ t'. GoesOn script (suc i) t t' more) (sym step.leaves) (record {
    before = g.before;
    past = g.past;
    shelf = g.shelf;
    told_before = g.told_before;
    going = λ rest. going_line command next rest ∙ ap (λ m. rest_due rest m) (sym added);
    names = λ rest. names_line command next rest;
  })

  -- the line of any command was not read
  line_fails : (X : Type 0) (e : Status) (command : Command) → drop i script ≡ Some command ∷ drop (suc i) script → (more : Matrices) (now' : Option Held) (f f1 f' l l1 l' : ℕ) → f ≤ f1 → l ≤ l1
      → IsLine {X = X} field (suc i) command files more now now' f1 f' l1 l' (Err e) → IsPart (λ (m : Matrices). m) (files_read script) (files_names script) t now' f f' l l' (Err e)
  line_fails X e (c.Matrix name grid m n mb nb rsrc csrc file) next more now' f f1 f' l l1 l' fs ls step = matrix_fails name grid m n mb nb rsrc csrc file next more now' f1 f' l1 l' e f l fs ls step
  line_fails X e command next more now' f f1 f' l l1 l' fs ls step = absurd step.ok

-- the files of the first i lines were read
pub record AreRead (script : List (Option Command)) (i : ℕ) (told now : Option Held) (f f' l l' : ℕ) (files : Matrices) : Type 0 where
  pub going : GoesOn script i told now files
  pub fits : (line : ℕ) → line < suc i → FileFits (modulus_of (commands_of script)) (command_at (commands_of script) line) files line
  pub faults_stay : f ≤ f'
  pub longs_stay : l ≤ l'

pub none_read : (script : List (Option Command)) (t : Option Held) (f l : ℕ) (files : Matrices) → files ≡ map.empty → AreRead script 0 t t f f l l files
none_read script t f l files e = record { going = start; fits = λ line lt. rw (command_at-before 1 script line lt) tt; faults_stay = omega arith; longs_stay = omega arith }
  where
    told : (t : Option Held) → MatchOption t ⊤ (λ first. readings_of (after_reads [] first) ≡ readings_of first)
    told None = tt
    told (Some held) = refl

    start : GoesOn script 0 t t files
    start = record {
      before = λ rest. rest;
      past = [];
      shelf = shelf_stays t;
      told_before = told t;
      going = λ rest. ap (λ m. files_from (modulus_of (commands_of script)) (commands_of script) rest m) (sym e);
      names = λ rest. refl;
    }

module _ (script : List (Option Command)) (i : ℕ) (t now : Option Held) (f f1 l l1 : ℕ) (files : Matrices) (before : AreRead script i t now f f1 l l1 files) (lt : i < length script) where
  -- a line without words
  pub skipped : None ≡ get_or script i None → AreRead script (i + 1) t now f f1 l l1 files
  skipped e = subst (λ j. AreRead script j t now f f1 l l1 files) (sym (add-one i)) (record { going = no_words script i t now files before.going next; fits = fit; faults_stay = before.faults_stay; longs_stay = before.longs_stay })
    where
      next : drop i script ≡ None ∷ drop (suc i) script
      next = drop-cons script i None lt ∙ ap (λ o. o ∷ drop (suc i) script) (sym e)

      fit : (line : ℕ) → line < suc (suc i) → FileFits (modulus_of (commands_of script)) (command_at (commands_of script) line) files line
      fit line b = elim (cases_lt line (suc i)) [
        | inl low ↦ before.fits line low
        | inr ge ↦
            let same : line ≡ suc i = omega arith in
            let k : i ≡ line - 1 = omega arith in
            let short : line - 1 < length script = omega arith in
            let none : command_at (commands_of script) line ≡ None = command_at_found script line None (omega arith) short (e ∙ ap (λ j. get_or script j None) k) in
            subst (λ o. FileFits (modulus_of (commands_of script)) o files line) (sym none) tt
      ]

  module _ (command : Command) (at : Some command ≡ get_or script i (Some command)) (line : ℕ) (is : line ≡ i + 1) (p : ℕ) (field : p ≡ modulus_of (commands_of script)) where
    next_line : line ≡ suc i
    next_line = is ∙ add-one i

    next_command : drop i script ≡ Some command ∷ drop (suc i) script
    next_command = drop-cons script i (Some command) lt ∙ ap (λ o. o ∷ drop (suc i) script) (sym at)

    command_here : command_at (commands_of script) line ≡ Some command
    command_here =
        let k : i ≡ line - 1 = omega (arith, next_line) in
        let short : line - 1 < length script = omega (arith, next_line) in
        command_at_found script line (Some command) (omega (arith, next_line)) short (at ∙ ap (λ j. get_or script j (Some command)) k)

    -- a command's line
    pub read_more : {X : Type 0} (x : X) (more : Matrices) (now' : Option Held) (f' l' : ℕ) → IsLine p line command files more now now' f1 f' l1 l' (Ok x) → IsAdded p line command files more → AreRead script (i + 1) t now' f f' l l' more
    read_more {X} x more now' f' l' step added = subst (λ j. AreRead script j t now' f f' l l' more) (sym (add-one i)) (record {
      going = line_read script i t now files before.going x command next_command more now' f1 f' l1 l' (subst (λ k. IsLine (modulus_of (commands_of script)) k command files more now now' f1 f' l1 l' (Ok x)) next_line (subst (λ q. IsLine q line command files more now now' f1 f' l1 l' (Ok x)) field step)) (subst (λ k. IsAdded (modulus_of (commands_of script)) k command files more) next_line (subst (λ q. IsAdded q line command files more) field added));
      fits = fit;
      faults_stay = let a = before.faults_stay in let b = (line_stays {X = X} p command line files more now now' f1 f' l1 l' (Ok x) step).0 in omega (arith, a, b);
      longs_stay = let a = before.longs_stay in let b = (line_stays {X = X} p command line files more now now' f1 f' l1 l' (Ok x) step).1 in omega (arith, a, b);
    })
      where
        fit : (k : ℕ) → k < suc (suc i) → FileFits (modulus_of (commands_of script)) (command_at (commands_of script) k) more k
        fit k b = elim (cases_lt k (suc i)) [
          | inl low ↦ fits_kept (modulus_of (commands_of script)) (command_at (commands_of script) k) files more k (kept p command line k files more added (omega (arith, next_line))) (before.fits k low)
          | inr ge ↦
              let same : line ≡ k = omega (arith, next_line) in
              subst (λ n. FileFits (modulus_of (commands_of script)) (command_at (commands_of script) n) more n) same (subst (λ o. FileFits (modulus_of (commands_of script)) o more line) (sym command_here) (subst (λ q. FileFits q (Some command) more line) field (added_fits p command line files more added)))
        ]

    -- a file was not read
    pub read_fails : (X : Type 0) (more : Matrices) (now' : Option Held) (f' l' : ℕ) (e : Status) → IsLine {X = X} p line command files more now now' f1 f' l1 l' (Err e) → IsPart (λ (m : Matrices). m) (files_read script) (files_names script) t now' f f' l l' (Err e)
    read_fails X more now' f' l' e step =
        line_fails script i t now files before.going X e command next_command more now' f f1 f' l l1 l' before.faults_stay before.longs_stay (subst (λ k. IsLine {X = X} (modulus_of (commands_of script)) k command files more now now' f1 f' l1 l' (Err e)) next_line (subst (λ q. IsLine {X = X} q line command files more now now' f1 f' l1 l' (Err e)) field step))

-- all lines were read
drop_all : (xs : List (Option Command)) (i : ℕ) → length xs ≤ i → drop i xs ≡ []
drop_all xs i le = grind (arith, common_steps)

module _ (script : List (Option Command)) (i : ℕ) (t now : Option Held) (f f' l l' : ℕ) (files : Matrices) (all : AreRead script i t now f f' l l' files) (le : length script ≤ i) where
  pub all_read : IsPart (λ (m : Matrices). m) (files_read script) (files_names script) t now f f' l l' (Ok files)
  all_read = record {
    readings = all.going.before (rest_of now);
    are_told = are_of-rest t now all.going.before all.going.past all.going.shelf all.going.told_before;
    comes = all.going.going (rest_of now) ∙ ap (λ ls. files_from (modulus_of (commands_of script)) (commands_from (suc i) ls) (rest_of now) files) none;
    read = record {
      made = all.going.past;
      are = all.going.names (rest_of now) ∙ ap (λ ls. all.going.past ++ names_from (modulus_of (commands_of script)) (commands_from (suc i) ls) (rest_of now)) none ∙ append-nil all.going.past;
      after = all.going.shelf;
    };
    failure = tt;
    faults_stay = all.faults_stay;
    longs_stay = all.longs_stay;
    caused = tt;
  }
    where
      none : drop i script ≡ []
      none = drop_all script i le

  pub all_there : HasFiles script files
  all_there = fit
    where
      fit : (line : ℕ) → FileFits (modulus_of (commands_of script)) (command_at (commands_of script) line) files line
      fit line = elim (cases_lt line (suc i)) [
        | inl low ↦ all.fits line low
        | inr ge ↦
            let past : length script ≤ line - 1 = omega arith in
            subst (λ o. FileFits (modulus_of (commands_of script)) o files line) (sym (command_at_past script line (omega arith) past)) tt
      ]

-- the lines are those of the script
pub part_of : (lines script : List (Option Command)) (t t' : Option Held) (f f' l l' : ℕ) (r : Result Matrices Status) → lines ≡ script → IsPart (λ (m : Matrices). m) (files_read lines) (files_names lines) t t' f f' l l' r → IsPart (λ (m : Matrices). m) (files_read script) (files_names script) t t' f f' l l' r
part_of lines script t t' f f' l l' r e h = subst (λ s. IsPart (λ (m : Matrices). m) (files_read s) (files_names s) t t' f f' l l' r) e h
