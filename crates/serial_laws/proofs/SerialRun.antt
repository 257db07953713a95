-- An accepted script with its files can be run serially: the rules of its lines give what each command asks.
use Rattle.std.proofs.Common.{◌≡◌, ℕ, ◌+◌, ◌-◌, ◌<◌, ◌≤◌, Bool, true, false, List, Option, Some, None, refl, sym, subst, ◌∙◌, arith}
use Rattle.std.specs.Prelude.{◌&&◌, ◌==◌, not, nat_le}
use Rattle.std.specs.Str.{bytes_eq}
use Rattle.std.proofs.lemmas.Bool.{false≢true, not-true, eqb-true, leb-true, ltb-true, and_parts}
use Rattle.run_data.specs.declared.command.Command.{Command}
use Rattle.run_data.specs.declared.command.Command.TheVariants as c
use Rattle.run_data.specs.Script.{Numbered, commands_of, command_at, maker, modulus_of}
use Rattle.rank_machine.specs.Scripts.{Matrices}
use Rattle.serial_model.specs.Serial.{is_left}
use Rattle.serial_machine.specs.Ready.{CanRun}
use Rattle.script_rules.specs.declared.distributions.Distribution.{Distribution}
use Rattle.script_rules.specs.Routines.{is_within}
use Rattle.script_rules.specs.Rules.{command_on, maker_command, is_matrix_line, is_list_line, distribution_on, distribution_made, distribution_of, factored_made, factored}
use Rattle.script_bounds.specs.Accepted.{KeepsRules, IsAccepted}
use Rattle.script_bounds.proofs.Limits.{HasSizes}
use Rattle.script_bounds.proofs.Operands.{pgemm_operands, ptrsm_operands, pgetrf_operands, pgetrs_operands, pgetrs_list, pgemr2d_operands, ptran_operands, pgetri_operands, verified_sizes, pivots_kept}
use Rattle.serial_laws.specs.Files.{FileFits, HasFiles}
use Rattle.script_run.proofs.Named.{matrix-named, list-named, print-matrix, print-named}
use Rattle.serial_laws.proofs.SerialReady.{rows_made, columns_made, AsksProduct, AsksTriangle, AsksFactor, AsksSolve, AsksInverse, AsksTranspose, AsksCopy, AsksPrint, AsksPivots, Asks, ready_all}

-- ---- the matrix that a name means has the rows and the columns of its line
record IsShape (command : Option Command) (a : Distribution) : Type 0 where
  made : is_matrix_line command ≡ true
  rows : a.m ≡ rows_made command
  columns : a.n ≡ columns_made command

no_rows : {X : Type 0} → 1 ≤ 0 → X
no_rows h = absurd (omega (arith, h))

shape_on : (grid : Option ℕ) (command : Option Command) (m n mb nb rsrc csrc : ℕ) → 1 ≤ (distribution_on grid command m n mb nb rsrc csrc).m
    → ((distribution_on grid command m n mb nb rsrc csrc).m ≡ m) × ((distribution_on grid command m n mb nb rsrc csrc).n ≡ n)
shape_on (Some grid) (Some (c.Grid name p q f)) m n mb nb rsrc csrc some = (refl, refl)
shape_on None command m n mb nb rsrc csrc some = no_rows some
shape_on (Some grid) None m n mb nb rsrc csrc some = no_rows some
shape_on (Some grid) (Some command) m n mb nb rsrc csrc some = no_rows some

shape_made : (ns : List Numbered) (at : Option ℕ) (command : Option Command) → 1 ≤ (distribution_made ns at command).m → IsShape command (distribution_made ns at command)
shape_made ns (Some at) (Some (c.Matrix name grid m n mb nb rsrc csrc file)) some =
    let shape = shape_on (maker ns at grid) (maker_command ns at grid) m n mb nb rsrc csrc some in
    record { made = refl; rows = shape.0; columns = shape.1 }
shape_made ns None command some = no_rows some
shape_made ns (Some at) None some = no_rows some
shape_made ns (Some at) (Some command) some = no_rows some

shape_of : (ns : List Numbered) (line : ℕ) (name : List ℕ) → HasSizes (distribution_of ns line name) → IsShape (maker_command ns line name) (distribution_of ns line name)
shape_of ns line name sizes = shape_made ns (maker ns line name) (maker_command ns line name) sizes.some_rows

-- ---- tests
-- a window within a size ends there
within : (first count size : ℕ) → is_within first count size ≡ true → (0 < first) × (first - 1 + count ≤ size)
within first count size h =
    let parts = and_parts (nat_le 1 first) (nat_le (first + count) (size + 1)) h in
    let from : 1 ≤ first = leb-true 1 first parts.0 in
    let to : first + count ≤ size + 1 = leb-true (first + count) (size + 1) parts.1 in
    (omega (arith, from), omega (arith, from, to))

-- ---- what each command asks
module _ (script : List (Option Command)) (keeps : KeepsRules script) where
  product : (line : ℕ) (transa transb : List ℕ) (m n k alpha : ℕ) (a : List ℕ) (ia ja : ℕ) (b : List ℕ) (ib jb beta : ℕ) (x : List ℕ) (ic jc : ℕ)
      → command_at (commands_of script) line ≡ Some (c.Pgemm transa transb m n k alpha a ia ja b ib jb beta x ic jc) → AsksProduct (commands_of script) line alpha a b beta x
  product line transa transb m n k alpha a ia ja b ib jb beta x ic jc e =
      let ns : List Numbered = commands_of script in
      let kept = pgemm_operands script line transa transb m n k alpha a ia ja b ib jb beta x ic jc keeps e in
      let first = shape_of ns line a kept.first in
      let second = shape_of ns line b kept.second in
      let third = shape_of ns line x kept.third in
      let rules = kept.rules in
      let m_is = eqb-true m (distribution_of ns line a).m rules.1.1.0 in
      let n_is = eqb-true n (distribution_of ns line b).n rules.1.1.1.0 in
      let k_is = eqb-true k (distribution_of ns line a).n rules.1.1.1.1.0 in
      let inner_is = eqb-true (distribution_of ns line b).m k rules.1.1.1.1.1.1.1.1.1.1.1.0 in
      let apart = and_parts (not (bytes_eq x a)) (not (bytes_eq x b)) rules.1.1.1.1.1.1.1.1.1.1.1.1.1.1.0 in
      let rows_are = eqb-true (distribution_of ns line x).m m rules.1.1.1.1.1.1.1.1.1.1.1.1.1.1.1.1.1.1.0 in
      let columns_are = eqb-true (distribution_of ns line x).n n rules.1.1.1.1.1.1.1.1.1.1.1.1.1.1.1.1.1.1.1.0 in
      record {
        left = first.made;
        right = second.made;
        changed = third.made;
        not_left = not-true (bytes_eq x a) apart.0;
        not_right = not-true (bytes_eq x b) apart.1;
        alpha_below = ltb-true alpha (modulus_of ns) rules.1.1.1.1.1.0;
        beta_below = ltb-true beta (modulus_of ns) rules.1.1.1.1.1.1.1.1.1.1.1.1.1.0;
        rows = sym first.rows ∙ sym m_is ∙ sym rows_are ∙ third.rows;
        columns = sym second.columns ∙ sym n_is ∙ sym columns_are ∙ third.columns;
        inner = sym first.columns ∙ sym k_is ∙ sym inner_is ∙ second.rows;
      }

  transpose : (line m n alpha : ℕ) (a : List ℕ) (ia ja beta : ℕ) (x : List ℕ) (ic jc : ℕ) → command_at (commands_of script) line ≡ Some (c.Ptran m n alpha a ia ja beta x ic jc)
      → AsksTranspose (commands_of script) line alpha a beta x
  transpose line m n alpha a ia ja beta x ic jc e =
      let ns : List Numbered = commands_of script in
      let kept = ptran_operands script line m n alpha a ia ja beta x ic jc keeps e in
      let first = shape_of ns line a kept.first in
      let second = shape_of ns line x kept.second in
      let rules = kept.rules in
      let m_is = eqb-true m (distribution_of ns line x).m rules.0 in
      let n_is = eqb-true n (distribution_of ns line x).n rules.1.0 in
      record {
        source = first.made;
        changed = second.made;
        other = not-true (bytes_eq x a) rules.1.1.1.1.1.1.1.1.0;
        alpha_below = ltb-true alpha (modulus_of ns) rules.1.1.0;
        beta_below = ltb-true beta (modulus_of ns) rules.1.1.1.1.1.1.1.0;
        rows = sym first.rows ∙ eqb-true (distribution_of ns line a).m n rules.1.1.1.1.1.0 ∙ n_is ∙ second.columns;
        columns = sym first.columns ∙ eqb-true (distribution_of ns line a).n m rules.1.1.1.1.1.1.0 ∙ m_is ∙ second.rows;
      }

  triangle : (line : ℕ) (side uplo transa diag : List ℕ) (m n alpha : ℕ) (a : List ℕ) (ia ja : ℕ) (b : List ℕ) (ib jb : ℕ)
      → command_at (commands_of script) line ≡ Some (c.Ptrsm side uplo transa diag m n alpha a ia ja b ib jb) → AsksTriangle (commands_of script) line (is_left side) alpha a b
  triangle line side uplo transa diag m n alpha a ia ja b ib jb e = by_side (is_left side) refl
    where
      by_side : (left : Bool) → is_left side ≡ left → AsksTriangle (commands_of script) line (is_left side) alpha a b
      by_side true l =
          let ns : List Numbered = commands_of script in
          let kept = ptrsm_operands script line side uplo transa diag m n alpha a ia ja b ib jb keeps e in
          let first = shape_of ns line a kept.first in
          let second = shape_of ns line b kept.second in
          let rules = kept.left l in
          let m_is = eqb-true m (distribution_of ns line a).m rules.0 in
          subst (λ left. AsksTriangle ns line left alpha a b) (sym l) (record {
            system = record {
              matrix = first.made;
              right_side = second.made;
              other = not-true (bytes_eq b a) rules.1.1.1.1.1.1.1.0;
              square = sym first.columns ∙ eqb-true (distribution_of ns line a).n m rules.1.1.1.1.1.0 ∙ m_is ∙ first.rows;
            };
            size = sym second.rows ∙ eqb-true (distribution_of ns line b).m m rules.1.1.1.1.1.1.1.1.1.1.1.0 ∙ m_is ∙ first.rows;
            alpha_below = ltb-true alpha (modulus_of ns) rules.1.1.0;
            named = matrix-named script line b keeps second.made;
          })
      by_side false l =
          let ns : List Numbered = commands_of script in
          let kept = ptrsm_operands script line side uplo transa diag m n alpha a ia ja b ib jb keeps e in
          let first = shape_of ns line a kept.first in
          let second = shape_of ns line b kept.second in
          let rules = kept.right l in
          let n_is = eqb-true n (distribution_of ns line a).m rules.1.0 in
          subst (λ left. AsksTriangle ns line left alpha a b) (sym l) (record {
            system = record {
              matrix = first.made;
              right_side = second.made;
              other = not-true (bytes_eq b a) rules.1.1.1.1.1.1.1.0;
              square = sym first.columns ∙ eqb-true (distribution_of ns line a).n n rules.1.1.1.1.1.0 ∙ n_is ∙ first.rows;
            };
            size = sym second.columns ∙ eqb-true (distribution_of ns line b).n n rules.1.1.1.1.1.1.1.1.1.1.1.0 ∙ n_is ∙ first.rows;
            alpha_below = ltb-true alpha (modulus_of ns) rules.1.1.0;
            named = matrix-named script line b keeps second.made;
          })

  factor : (line m n : ℕ) (a : List ℕ) (ia ja : ℕ) (v : List ℕ) → command_at (commands_of script) line ≡ Some (c.Pgetrf m n a ia ja v) → AsksFactor (commands_of script) line m n a
  factor line m n a ia ja v e =
      let ns : List Numbered = commands_of script in
      let kept = pgetrf_operands script line m n a ia ja v keeps e in
      let first = shape_of ns line a kept.first in
      let rules = kept.rules in
      let few = kept.rows in
      record {
        matrix = first.made;
        rows = eqb-true m (distribution_of ns line a).m rules.0 ∙ first.rows;
        columns = eqb-true n (distribution_of ns line a).n rules.1.0 ∙ first.columns;
        few = omega (arith, few);
        named = matrix-named script line a keeps first.made;
      }

  -- the list that a name means has the rows and the columns of the matrix that was factored
  list_shape : (line : ℕ) (v : List ℕ) → is_list_line (maker_command (commands_of script) line v) ≡ true
      → (rows_made (maker_command (commands_of script) line v) ≡ (factored (commands_of script) line v).m) × (columns_made (maker_command (commands_of script) line v) ≡ (factored (commands_of script) line v).n)
  list_shape line v h = by_maker (maker (commands_of script) line v) h
    where
      by_command : (at : ℕ) (o : Option Command) → command_at (commands_of script) at ≡ o → is_list_line o ≡ true
          → (rows_made o ≡ (factored_made (commands_of script) (Some at) o).m) × (columns_made o ≡ (factored_made (commands_of script) (Some at) o).n)
      by_command at (Some (c.Pgetrf m n a ia ja w)) e h =
          let kept = pgetrf_operands script at m n a ia ja w keeps e in
          let rules = kept.rules in
          (eqb-true m (distribution_of (commands_of script) at a).m rules.0, eqb-true n (distribution_of (commands_of script) at a).n rules.1.0)
      by_command at None e h = absurd (false≢true h)
      by_command at (Some command) e h = absurd (false≢true h)

      by_maker : (o : Option ℕ) → is_list_line (command_on (commands_of script) o) ≡ true
          → (rows_made (command_on (commands_of script) o) ≡ (factored_made (commands_of script) o (command_on (commands_of script) o)).m)
          × (columns_made (command_on (commands_of script) o) ≡ (factored_made (commands_of script) o (command_on (commands_of script) o)).n)
      by_maker None h = absurd (false≢true h)
      by_maker (Some at) h = by_command at (command_at (commands_of script) at) refl h

  solve : (line : ℕ) (trans : List ℕ) (n nrhs : ℕ) (a : List ℕ) (ia ja : ℕ) (v b : List ℕ) (ib jb : ℕ) → command_at (commands_of script) line ≡ Some (c.Pgetrs trans n nrhs a ia ja v b ib jb)
      → AsksSolve (commands_of script) line a v b
  solve line trans n nrhs a ia ja v b ib jb e =
      let ns : List Numbered = commands_of script in
      let kept = pgetrs_operands script line trans n nrhs a ia ja v b ib jb keeps e in
      let first = shape_of ns line a kept.first in
      let second = shape_of ns line b kept.second in
      let rules = kept.rules in
      let is_list = pgetrs_list script line trans n nrhs a ia ja v b ib jb keeps e in
      let listed = list_shape line v is_list in
      let n_is = eqb-true n (distribution_of ns line a).m rules.1.0 in
      let square_is = eqb-true (distribution_of ns line a).n n rules.1.1.1.1.1.0 in
      let both = and_parts (((factored ns line v).m == n) && ((factored ns line v).n == n)) ((factored ns line v).grid == (distribution_of ns line a).grid) rules.1.1.1.1.1.1.1.0 in
      let sizes = and_parts ((factored ns line v).m == n) ((factored ns line v).n == n) both.0 in
      let rows_are = eqb-true (distribution_of ns line b).m n rules.1.1.1.1.1.1.1.1.1.1.1.1.0 in
      record {
        system = record {
          matrix = first.made;
          right_side = second.made;
          other = not-true (bytes_eq b a) rules.1.1.1.1.1.1.1.1.0;
          square = sym first.columns ∙ square_is ∙ n_is ∙ first.rows;
        };
        size = sym second.rows ∙ rows_are ∙ n_is ∙ first.rows;
        list = is_list;
        list_rows = listed.0 ∙ eqb-true (factored ns line v).m n sizes.0 ∙ n_is ∙ first.rows;
        list_columns = listed.1 ∙ eqb-true (factored ns line v).n n sizes.1 ∙ n_is ∙ first.rows;
        named = matrix-named script line b keeps second.made;
      }

  inverse : (line n : ℕ) (a : List ℕ) (ia ja : ℕ) (v b : List ℕ) (ib jb : ℕ) → command_at (commands_of script) line ≡ Some (c.Pgetri n a ia ja v b ib jb) → AsksInverse (commands_of script) line a v b
  inverse line n a ia ja v b ib jb e =
      let ns : List Numbered = commands_of script in
      let both_kept = pgetri_operands script line n a ia ja v b ib jb keeps e in
      let kept = both_kept.0 in
      let first = shape_of ns line a kept.first in
      let second = shape_of ns line b kept.second in
      let rules = kept.rules in
      let listed = list_shape line v both_kept.1 in
      let n_is = eqb-true n (distribution_of ns line a).m rules.0 in
      let both = and_parts (((factored ns line v).m == n) && ((factored ns line v).n == n)) ((factored ns line v).grid == (distribution_of ns line a).grid) rules.1.1.1.1.1.0 in
      let sizes = and_parts ((factored ns line v).m == n) ((factored ns line v).n == n) both.0 in
      record {
        solve = record {
          system = record {
            matrix = first.made;
            right_side = second.made;
            other = not-true (bytes_eq b a) rules.1.1.1.1.1.1.0;
            square = sym first.columns ∙ eqb-true (distribution_of ns line a).n n rules.1.1.1.0 ∙ n_is ∙ first.rows;
          };
          size = sym second.rows ∙ eqb-true (distribution_of ns line b).m n rules.1.1.1.1.1.1.1.1.1.1.0 ∙ n_is ∙ first.rows;
          list = both_kept.1;
          list_rows = listed.0 ∙ eqb-true (factored ns line v).m n sizes.0 ∙ n_is ∙ first.rows;
          list_columns = listed.1 ∙ eqb-true (factored ns line v).n n sizes.1 ∙ n_is ∙ first.rows;
          named = matrix-named script line b keeps second.made;
        };
        columns = sym second.columns ∙ eqb-true (distribution_of ns line b).n n rules.1.1.1.1.1.1.1.1.1.1.1.0 ∙ n_is ∙ first.rows;
      }

  copy : (line m n : ℕ) (a : List ℕ) (ia ja : ℕ) (b : List ℕ) (ib jb : ℕ) (ctxt : List ℕ) → command_at (commands_of script) line ≡ Some (c.Pgemr2d m n a ia ja b ib jb ctxt)
      → AsksCopy (commands_of script) line m n a ia ja b ib jb
  copy line m n a ia ja b ib jb ctxt e =
      let ns : List Numbered = commands_of script in
      let kept = pgemr2d_operands script line m n a ia ja b ib jb ctxt keeps e in
      let first = shape_of ns line a kept.first in
      let second = shape_of ns line b kept.second in
      let rules = kept.rules in
      let rows_in_a = within ia m (distribution_of ns line a).m rules.1.1.0 in
      let columns_in_a = within ja n (distribution_of ns line a).n rules.1.1.1.0 in
      let rows_in_b = within ib m (distribution_of ns line b).m rules.1.1.1.1.1.0 in
      let columns_in_b = within jb n (distribution_of ns line b).n rules.1.1.1.1.1.1.0 in
      record {
        source = first.made;
        changed = second.made;
        other = not-true (bytes_eq b a) rules.1.1.1.1.0;
        from_row = rows_in_a.0;
        from_column = columns_in_a.0;
        to_row = rows_in_b.0;
        to_column = columns_in_b.0;
        rows_in_a = subst (λ (k : ℕ). ia - 1 + m ≤ k) first.rows rows_in_a.1;
        columns_in_a = subst (λ (k : ℕ). ja - 1 + n ≤ k) first.columns columns_in_a.1;
        rows_in_b = subst (λ (k : ℕ). ib - 1 + m ≤ k) second.rows rows_in_b.1;
        columns_in_b = subst (λ (k : ℕ). jb - 1 + n ≤ k) second.columns columns_in_b.1;
      }

  print : (line : ℕ) (name : List ℕ) → command_at (commands_of script) line ≡ Some (c.Print name) → AsksPrint (commands_of script) line name
  print line name e = record { matrix = print-matrix script line name keeps e; named = print-named script line name keeps e }

  verify : (line : ℕ) (name : List ℕ) → command_at (commands_of script) line ≡ Some (c.Pverify name) → AsksPrint (commands_of script) line name
  verify line name e =
      let ns : List Numbered = commands_of script in
      let shape = shape_of ns line name (verified_sizes script line name keeps e) in
      record { matrix = shape.made; named = matrix-named script line name keeps shape.made }

  pivots : (line : ℕ) (name : List ℕ) → command_at (commands_of script) line ≡ Some (c.Pivots name) → AsksPivots (commands_of script) line name
  pivots line name e = (let list = pivots_kept script line name keeps e in record { list = list; named = list-named script line name keeps list })

module _ (script : List (Option Command)) (files : Matrices) (accepted : IsAccepted script) (has : HasFiles script files) where
  asked : (line : ℕ) (command : Command) → command_at (commands_of script) line ≡ Some command → Asks (commands_of script) files line command
  asked line (c.Matrix name grid m n mb nb rsrc csrc file) e = subst (λ o. FileFits (modulus_of (commands_of script)) o files line) e (has line)
  asked line (c.Pgemm transa transb m n k alpha a ia ja b ib jb beta x ic jc) e = product script accepted.lines line transa transb m n k alpha a ia ja b ib jb beta x ic jc e
  asked line (c.Ptrsm side uplo transa diag m n alpha a ia ja b ib jb) e = triangle script accepted.lines line side uplo transa diag m n alpha a ia ja b ib jb e
  asked line (c.Pgetrf m n a ia ja v) e = factor script accepted.lines line m n a ia ja v e
  asked line (c.Pgetrs trans n nrhs a ia ja v b ib jb) e = solve script accepted.lines line trans n nrhs a ia ja v b ib jb e
  asked line (c.Pgemr2d m n a ia ja b ib jb ctxt) e = copy script accepted.lines line m n a ia ja b ib jb ctxt e
  asked line (c.Print name) e = print script accepted.lines line name e
  asked line (c.Pivots name) e = pivots script accepted.lines line name e
  asked line (c.Grid name p q f) e = tt
  asked line (c.Discard name) e = tt
  asked line (c.Topology kind) e = tt
  asked line (c.Links n) e = tt
  asked line (c.Order numbers) e = tt
  asked line (c.Lose at rank) e = tt
  asked line (c.Spares n) e = tt
  asked line (c.Field n) e = tt
  asked line (c.Ptran m n alpha a ia ja beta x ic jc) e = transpose script accepted.lines line m n alpha a ia ja beta x ic jc e
  asked line (c.Pgetri n a ia ja v b ib jb) e = inverse script accepted.lines line n a ia ja v b ib jb e
  asked line (c.Flip name i j x) e = tt
  asked line (c.Pverify name) e = verify script accepted.lines line name e

  pub can_run : CanRun script files
  can_run = record { ready = ready_all script files asked }
