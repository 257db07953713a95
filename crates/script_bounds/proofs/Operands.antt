-- What the lines of the routines say of their matrices, in a script that keeps the rules: each is in range, and the argument rules are kept.
use Rattle.std.proofs.Common.{◌≡◌, ℕ, suc, ◌+◌, ◌≤◌, Bool, true, false, leb, List, [], ◌++◌, length, take, Option, Some, None, refl, sym, ap, subst, ◌∙◌, arith}
use Rattle.std.specs.Prelude.{◌&&◌, not, slice_get, if◌then◌else◌, codes, ℤ}
use Rattle.std.specs.Str.{bytes_eq}
use Rattle.std.proofs.lemmas.Bool.{eqb-true, leb-true}
use Rattle.std.proofs.lemmas.Option.{slice_get_within}
use Rattle.run_data.specs.declared.command.Command.{Command}
use Rattle.run_data.specs.declared.command.Command.TheVariants.{Pgemm, Ptrsm, Pgetrf, Pgetrs, Pgemr2d, Ptran, Pgetri, Print, Pivots, Pverify}
use Rattle.run_data.specs.Script.{commands_of, command_at, modulus_of}
use Rattle.script_words.specs.declared.kinds.Kind.TheVariants.{MatrixName, ListName}
use Rattle.script_rules.specs.declared.distributions.Distribution.{Distribution}
use Rattle.script_rules.specs.Routines.{is_option, pgemm_rules, option_rules, left_rules, right_rules, ptrsm_rules, pgetrf_rules, pgetrs_rules, pgemr2d_rules, ptran_rules, pgetri_rules}
use Rattle.script_words.specs.Tables.{first_code}
use Rattle.script_rules.specs.Rules.{maker_command, is_matrix_line, is_list_line, distribution_of, factored, live_lists, word_rules, list_rules, routine_rules, own_rules}
use Rattle.script_bounds.specs.Accepted.{KeepsRules}
use Rattle.script_words.proofs.Tables.{first_code-append, or_none, AllKept, all_kept}
use Rattle.script_bounds.proofs.Limits.{kept_on, and_parts, OnLine-from_command_at, HasSizes, sizes_of_name}
use Rattle.script_rules.specs.Told.{told_of_script}
use Rattle.script_bounds.proofs.Fields.{modulus-take}
use Rattle.script_rules.proofs.Before.{maker_command-take, distribution_of-take, factored-take}

-- the place of a line lies in the script
place_le : (script : List (Option Command)) (place : ℕ) (c : Command) → slice_get script place ≡ Some (Some c) → place ≤ length script
place_le script place c e = omega (arith, slice_get_within script place (Some c) e)

-- a word that stands for a matrix
sizes_at : (script : List (Option Command)) (place : ℕ) (name : List ℕ) → KeepsRules script → place ≤ length script → first_code (word_rules (commands_of (take place script)) (suc place) MatrixName name) ≡ None →
    HasSizes (distribution_of (commands_of script) (suc place) name)
sizes_at script place name h le e =
    let there : is_matrix_line (maker_command (commands_of (take place script)) (suc place) name) ≡ true = (all_kept (word_rules (commands_of (take place script)) (suc place) MatrixName name) e).0 in
    sizes_of_name script (suc place) name h (ap is_matrix_line (sym (maker_command-take script place name le)) ∙ there)

-- it means a matrix
matrix_at : (script : List (Option Command)) (place : ℕ) (name : List ℕ) → place ≤ length script → first_code (word_rules (commands_of (take place script)) (suc place) MatrixName name) ≡ None →
    is_matrix_line (maker_command (commands_of script) (suc place) name) ≡ true
matrix_at script place name le e =
    ap is_matrix_line (sym (maker_command-take script place name le)) ∙ (all_kept (word_rules (commands_of (take place script)) (suc place) MatrixName name) e).0

-- a word that stands for a pivot list
list_at : (script : List (Option Command)) (place : ℕ) (name : List ℕ) → place ≤ length script → first_code (word_rules (commands_of (take place script)) (suc place) ListName name) ≡ None →
    is_list_line (maker_command (commands_of script) (suc place) name) ≡ true
list_at script place name le e =
    ap is_list_line (sym (maker_command-take script place name le)) ∙ (all_kept (word_rules (commands_of (take place script)) (suc place) ListName name) e).0

-- ---- pgemm

pub record PgemmOperands (p : ℕ) (a b x : Distribution) (transa transb : List ℕ) (m n k alpha ia ja ib jb beta : ℕ) (apart : Bool) (ic jc : ℕ) : Type 0 where
  pub first : HasSizes a
  pub second : HasSizes b
  pub third : HasSizes x
  pub rules : AllKept (pgemm_rules p transa transb m n k alpha ia ja ib jb beta apart ic jc a b x)
  pub rows : m ≤ 1024
  pub columns : n ≤ 1024
  pub inner : k ≤ 1024

pgemm_at : (script : List (Option Command)) (place : ℕ) (transa transb : List ℕ) (m n k alpha : ℕ) (a : List ℕ) (ia ja : ℕ) (b : List ℕ) (ib jb beta : ℕ) (x : List ℕ) (ic jc : ℕ) → KeepsRules script →
    slice_get script place ≡ Some (Some (Pgemm transa transb m n k alpha a ia ja b ib jb beta x ic jc)) →
    PgemmOperands (modulus_of (commands_of script)) (distribution_of (commands_of script) (suc place) a) (distribution_of (commands_of script) (suc place) b) (distribution_of (commands_of script) (suc place) x)
    transa transb m n k alpha ia ja ib jb beta (not (bytes_eq x a) && not (bytes_eq x b)) ic jc
pgemm_at script place transa transb m n k alpha a ia ja b ib jb beta x ic jc h e =
    let c = Pgemm transa transb m n k alpha a ia ja b ib jb beta x ic jc in
    let le = place_le script place c e in
    let front = commands_of (take place script) in
    let cs = commands_of script in
    let line = suc place in
    let kept = kept_on script place c h e in
    let apart = not (bytes_eq x a) && not (bytes_eq x b) in
    let after_a = or_none (first_code (word_rules front line MatrixName a)) _ kept.names in
    let after_b = or_none (first_code (word_rules front line MatrixName b)) _ after_a.1 in
    let after_x = or_none (first_code (word_rules front line MatrixName x)) None after_b.1 in
    let first = sizes_at script place a h le after_a.0 in
    let second = sizes_at script place b h le after_b.0 in
    let there = matrix_at script place a le after_a.0 in
    let by_p = subst (λ p. first_code (pgemm_rules p transa transb m n k alpha ia ja ib jb beta apart ic jc (distribution_of front line a) (distribution_of front line b) (distribution_of front line x)) ≡ None) (modulus-take script place a h le there) kept.own in
    let by_a = subst (λ l. first_code (pgemm_rules (modulus_of cs) transa transb m n k alpha ia ja ib jb beta apart ic jc l (distribution_of front line b) (distribution_of front line x)) ≡ None) (distribution_of-take script place a le) by_p in
    let by_b = subst (λ l. first_code (pgemm_rules (modulus_of cs) transa transb m n k alpha ia ja ib jb beta apart ic jc (distribution_of cs line a) l (distribution_of front line x)) ≡ None) (distribution_of-take script place b le) by_a in
    let by_x = subst (λ l. first_code (pgemm_rules (modulus_of cs) transa transb m n k alpha ia ja ib jb beta apart ic jc (distribution_of cs line a) (distribution_of cs line b) l) ≡ None) (distribution_of-take script place x le) by_b in
    let rules = all_kept (pgemm_rules (modulus_of cs) transa transb m n k alpha ia ja ib jb beta apart ic jc (distribution_of cs line a) (distribution_of cs line b) (distribution_of cs line x)) by_x in
    record {
      first = first;
      second = second;
      third = sizes_at script place x h le after_x.0;
      rules = rules;
      rows = omega (arith, eqb-true m (distribution_of cs line a).m rules.1.1.0, first.rows);
      columns = omega (arith, eqb-true n (distribution_of cs line b).n rules.1.1.1.0, second.in_range.size);
      inner = omega (arith, eqb-true k (distribution_of cs line a).n rules.1.1.1.1.0, first.in_range.size);
    }

-- the matrices and the numbers of a `pgemm` line
pub pgemm_operands : (script : List (Option Command)) (line : ℕ) (transa transb : List ℕ) (m n k alpha : ℕ) (a : List ℕ) (ia ja : ℕ) (b : List ℕ) (ib jb beta : ℕ) (x : List ℕ) (ic jc : ℕ) → KeepsRules script → command_at (commands_of script) line ≡ Some (Pgemm transa transb m n k alpha a ia ja b ib jb beta x ic jc) →
    PgemmOperands (modulus_of (commands_of script)) (distribution_of (commands_of script) line a) (distribution_of (commands_of script) line b) (distribution_of (commands_of script) line x) transa transb m n k alpha ia ja ib jb beta (not (bytes_eq x a) && not (bytes_eq x b)) ic jc
pgemm_operands script line transa transb m n k alpha a ia ja b ib jb beta x ic jc h e =
    let on = OnLine-from_command_at script line (Pgemm transa transb m n k alpha a ia ja b ib jb beta x ic jc) e in
    subst (λ l. PgemmOperands (modulus_of (commands_of script)) (distribution_of (commands_of script) l a) (distribution_of (commands_of script) l b) (distribution_of (commands_of script) l x) transa transb m n k alpha ia ja ib jb beta (not (bytes_eq x a) && not (bytes_eq x b)) ic jc) (sym on.number) (pgemm_at script on.place transa transb m n k alpha a ia ja b ib jb beta x ic jc h on.said)

-- ---- ptrsm

pub record PtrsmOperands (p : ℕ) (a b : Distribution) (side uplo transa diag : List ℕ) (m n alpha ia ja : ℕ) (apart : Bool) (ib jb : ℕ) : Type 0 where
  pub first : HasSizes a
  pub second : HasSizes b
  pub options : AllKept (option_rules side uplo transa diag)
  pub left : is_option (codes "L") (codes "l") side ≡ true → AllKept (left_rules p m n alpha ia ja apart ib jb a b)
  pub right : is_option (codes "L") (codes "l") side ≡ false → AllKept (right_rules p m n alpha ia ja apart ib jb a b)
  pub rows : m ≤ 1024
  pub columns : n ≤ 1024

-- two lists of rules that are kept together
both_kept : (front back : List (ℤ × Bool)) → first_code (front ++ back) ≡ None → (first_code front ≡ None) × (first_code back ≡ None)
both_kept front back e = or_none (first_code front) (first_code back) (sym (first_code-append front back) ∙ e)

-- the rules of one routine, before those of routines that a command is not
alone_kept : (rules : List (ℤ × Bool)) → first_code (rules ++ [] ++ [] ++ [] ++ [] ++ []) ≡ None → first_code rules ≡ None
alone_kept rules e =
    let four = both_kept (rules ++ [] ++ [] ++ [] ++ []) [] e in
    let three = both_kept (rules ++ [] ++ [] ++ []) [] four.0 in
    let two = both_kept (rules ++ [] ++ []) [] three.0 in
    let one = both_kept (rules ++ []) [] two.0 in
    (both_kept rules [] one.0).0

-- the rules of the side from which a triangle stands
side_kept : (p m n alpha ia ja : ℕ) (apart : Bool) (ib jb : ℕ) (a b : Distribution) (options : List (ℤ × Bool)) (left : Bool) →
    first_code (options ++ (if left then left_rules p m n alpha ia ja apart ib jb a b else right_rules p m n alpha ia ja apart ib jb a b)) ≡ None →
    (first_code options ≡ None) × (left ≡ true → AllKept (left_rules p m n alpha ia ja apart ib jb a b)) × (left ≡ false → AllKept (right_rules p m n alpha ia ja apart ib jb a b))
side_kept p m n alpha ia ja apart ib jb a b options true e =
    let both = both_kept options (left_rules p m n alpha ia ja apart ib jb a b) e in
    (both.0, λ t. all_kept (left_rules p m n alpha ia ja apart ib jb a b) both.1, λ t. absurd cc)
side_kept p m n alpha ia ja apart ib jb a b options false e =
    let both = both_kept options (right_rules p m n alpha ia ja apart ib jb a b) e in
    (both.0, λ t. absurd cc, λ t. all_kept (right_rules p m n alpha ia ja apart ib jb a b) both.1)

-- the sizes of a right-hand side are those of matrices
side_sizes : (p m n alpha ia ja : ℕ) (apart : Bool) (ib jb : ℕ) (a b : Distribution) (left : Bool) → HasSizes a → HasSizes b →
    (left ≡ true → AllKept (left_rules p m n alpha ia ja apart ib jb a b)) → (left ≡ false → AllKept (right_rules p m n alpha ia ja apart ib jb a b)) → (m ≤ 1024) × (n ≤ 1024)
side_sizes p m n alpha ia ja apart ib jb a b true first second l r =
    let kept = l refl in
    (omega (arith, eqb-true m a.m kept.0, first.rows), omega (arith, eqb-true n b.n kept.1.0, second.in_range.size))
side_sizes p m n alpha ia ja apart ib jb a b false first second l r =
    let kept = r refl in
    (omega (arith, eqb-true m b.m kept.0, second.rows), omega (arith, eqb-true n a.m kept.1.0, first.rows))

ptrsm_at : (script : List (Option Command)) (place : ℕ) (side uplo transa diag : List ℕ) (m n alpha : ℕ) (a : List ℕ) (ia ja : ℕ) (b : List ℕ) (ib jb : ℕ) → KeepsRules script →
    slice_get script place ≡ Some (Some (Ptrsm side uplo transa diag m n alpha a ia ja b ib jb)) →
    PtrsmOperands (modulus_of (commands_of script)) (distribution_of (commands_of script) (suc place) a) (distribution_of (commands_of script) (suc place) b) side uplo transa diag m n alpha ia ja (not (bytes_eq b a)) ib jb
ptrsm_at script place side uplo transa diag m n alpha a ia ja b ib jb h e =
    let c = Ptrsm side uplo transa diag m n alpha a ia ja b ib jb in
    let le = place_le script place c e in
    let front = commands_of (take place script) in
    let cs = commands_of script in
    let line = suc place in
    let p = modulus_of cs in
    let kept = kept_on script place c h e in
    let apart = not (bytes_eq b a) in
    let after_a = or_none (first_code (word_rules front line MatrixName a)) _ kept.names in
    let after_b = or_none (first_code (word_rules front line MatrixName b)) None after_a.1 in
    let first = sizes_at script place a h le after_a.0 in
    let second = sizes_at script place b h le after_b.0 in
    let routine = both_kept (routine_rules (modulus_of front) front line c) (own_rules (told_of_script cs) front line c) kept.own in
    let own = alone_kept (ptrsm_rules (modulus_of front) side uplo transa diag m n alpha ia ja apart ib jb (distribution_of front line a) (distribution_of front line b)) routine.0 in
    let there = matrix_at script place a le after_a.0 in
    let by_p = subst (λ q. first_code (ptrsm_rules q side uplo transa diag m n alpha ia ja apart ib jb (distribution_of front line a) (distribution_of front line b)) ≡ None) (modulus-take script place a h le there) own in
    let by_a = subst (λ l. first_code (ptrsm_rules p side uplo transa diag m n alpha ia ja apart ib jb l (distribution_of front line b)) ≡ None) (distribution_of-take script place a le) by_p in
    let by_b = subst (λ l. first_code (ptrsm_rules p side uplo transa diag m n alpha ia ja apart ib jb (distribution_of cs line a) l) ≡ None) (distribution_of-take script place b le) by_a in
    let left = is_option (codes "L") (codes "l") side in
    let parts = side_kept p m n alpha ia ja apart ib jb (distribution_of cs line a) (distribution_of cs line b) (option_rules side uplo transa diag) left by_b in
    let sizes = side_sizes p m n alpha ia ja apart ib jb (distribution_of cs line a) (distribution_of cs line b) left first second parts.1 parts.2 in
    record {
      first = first;
      second = second;
      options = all_kept (option_rules side uplo transa diag) parts.0;
      left = parts.1;
      right = parts.2;
      rows = sizes.0;
      columns = sizes.1;
    }

-- the same of a `ptrsm` line
pub ptrsm_operands : (script : List (Option Command)) (line : ℕ) (side uplo transa diag : List ℕ) (m n alpha : ℕ) (a : List ℕ) (ia ja : ℕ) (b : List ℕ) (ib jb : ℕ) → KeepsRules script → command_at (commands_of script) line ≡ Some (Ptrsm side uplo transa diag m n alpha a ia ja b ib jb) →
    PtrsmOperands (modulus_of (commands_of script)) (distribution_of (commands_of script) line a) (distribution_of (commands_of script) line b) side uplo transa diag m n alpha ia ja (not (bytes_eq b a)) ib jb
ptrsm_operands script line side uplo transa diag m n alpha a ia ja b ib jb h e =
    let on = OnLine-from_command_at script line (Ptrsm side uplo transa diag m n alpha a ia ja b ib jb) e in
    subst (λ l. PtrsmOperands (modulus_of (commands_of script)) (distribution_of (commands_of script) l a) (distribution_of (commands_of script) l b) side uplo transa diag m n alpha ia ja (not (bytes_eq b a)) ib jb) (sym on.number) (ptrsm_at script on.place side uplo transa diag m n alpha a ia ja b ib jb h on.said)

-- ---- pgetrf

pub record PgetrfOperands (a : Distribution) (m n ia ja : ℕ) : Type 0 where
  pub first : HasSizes a
  pub rules : AllKept (pgetrf_rules m n ia ja a)
  pub rows : m ≤ 1024
  pub columns : n ≤ 1024

pgetrf_at : (script : List (Option Command)) (place m n : ℕ) (a : List ℕ) (ia ja : ℕ) (v : List ℕ) → KeepsRules script → slice_get script place ≡ Some (Some (Pgetrf m n a ia ja v)) →
    PgetrfOperands (distribution_of (commands_of script) (suc place) a) m n ia ja
pgetrf_at script place m n a ia ja v h e =
    let c = Pgetrf m n a ia ja v in
    let le = place_le script place c e in
    let front = commands_of (take place script) in
    let cs = commands_of script in
    let line = suc place in
    let kept = kept_on script place c h e in
    let after_a = or_none (first_code (word_rules front line MatrixName a)) _ kept.names in
    let first = sizes_at script place a h le after_a.0 in
    let by_a = subst (λ l. first_code (pgetrf_rules m n ia ja l ++ list_rules (live_lists front)) ≡ None) (distribution_of-take script place a le) kept.own in
    let both = or_none (first_code (pgetrf_rules m n ia ja (distribution_of cs line a))) _ (sym (first_code-append (pgetrf_rules m n ia ja (distribution_of cs line a)) (list_rules (live_lists front))) ∙ by_a) in
    let rules = all_kept (pgetrf_rules m n ia ja (distribution_of cs line a)) both.0 in
    record {
      first = first;
      rules = rules;
      rows = omega (arith, eqb-true m (distribution_of cs line a).m rules.0, first.rows);
      columns = omega (arith, eqb-true n (distribution_of cs line a).n rules.1.0, first.in_range.size);
    }

-- the same of a `pgetrf` line
pub pgetrf_operands : (script : List (Option Command)) (line : ℕ) (m n : ℕ) (a : List ℕ) (ia ja : ℕ) (v : List ℕ) → KeepsRules script → command_at (commands_of script) line ≡ Some (Pgetrf m n a ia ja v) →
    PgetrfOperands (distribution_of (commands_of script) line a) m n ia ja
pgetrf_operands script line m n a ia ja v h e =
    let on = OnLine-from_command_at script line (Pgetrf m n a ia ja v) e in
    subst (λ l. PgetrfOperands (distribution_of (commands_of script) l a) m n ia ja) (sym on.number) (pgetrf_at script on.place m n a ia ja v h on.said)

-- ---- pgetrs

pub record PgetrsOperands (a v b : Distribution) (trans : List ℕ) (n nrhs ia ja : ℕ) (apart : Bool) (ib jb : ℕ) : Type 0 where
  pub first : HasSizes a
  pub second : HasSizes b
  pub rules : AllKept (pgetrs_rules trans n nrhs ia ja apart ib jb a v b)
  pub rows : n ≤ 1024
  pub columns : nrhs ≤ 1024

pgetrs_at : (script : List (Option Command)) (place : ℕ) (trans : List ℕ) (n nrhs : ℕ) (a : List ℕ) (ia ja : ℕ) (v b : List ℕ) (ib jb : ℕ) → KeepsRules script →
    slice_get script place ≡ Some (Some (Pgetrs trans n nrhs a ia ja v b ib jb)) →
    PgetrsOperands (distribution_of (commands_of script) (suc place) a) (factored (commands_of script) (suc place) v) (distribution_of (commands_of script) (suc place) b) trans n nrhs ia ja (not (bytes_eq b a)) ib jb
pgetrs_at script place trans n nrhs a ia ja v b ib jb h e =
    let c = Pgetrs trans n nrhs a ia ja v b ib jb in
    let le = place_le script place c e in
    let front = commands_of (take place script) in
    let cs = commands_of script in
    let line = suc place in
    let kept = kept_on script place c h e in
    let apart = not (bytes_eq b a) in
    let after_a = or_none (first_code (word_rules front line MatrixName a)) _ kept.names in
    let after_v = or_none (first_code (word_rules front line ListName v)) _ after_a.1 in
    let after_b = or_none (first_code (word_rules front line MatrixName b)) None after_v.1 in
    let first = sizes_at script place a h le after_a.0 in
    let second = sizes_at script place b h le after_b.0 in
    let by_a = subst (λ l. first_code (pgetrs_rules trans n nrhs ia ja apart ib jb l (factored front line v) (distribution_of front line b)) ≡ None) (distribution_of-take script place a le) kept.own in
    let by_v = subst (λ l. first_code (pgetrs_rules trans n nrhs ia ja apart ib jb (distribution_of cs line a) l (distribution_of front line b)) ≡ None) (factored-take script place v le) by_a in
    let by_b = subst (λ l. first_code (pgetrs_rules trans n nrhs ia ja apart ib jb (distribution_of cs line a) (factored cs line v) l) ≡ None) (distribution_of-take script place b le) by_v in
    let rules = all_kept (pgetrs_rules trans n nrhs ia ja apart ib jb (distribution_of cs line a) (factored cs line v) (distribution_of cs line b)) by_b in
    record {
      first = first;
      second = second;
      rules = rules;
      rows = omega (arith, eqb-true n (distribution_of cs line a).m rules.1.0, first.rows);
      columns = omega (arith, eqb-true nrhs (distribution_of cs line b).n rules.1.1.0, second.in_range.size);
    }

pgetrs_list_at : (script : List (Option Command)) (place : ℕ) (trans : List ℕ) (n nrhs : ℕ) (a : List ℕ) (ia ja : ℕ) (v b : List ℕ) (ib jb : ℕ) → KeepsRules script →
    slice_get script place ≡ Some (Some (Pgetrs trans n nrhs a ia ja v b ib jb)) → is_list_line (maker_command (commands_of script) (suc place) v) ≡ true
pgetrs_list_at script place trans n nrhs a ia ja v b ib jb h e =
    let c = Pgetrs trans n nrhs a ia ja v b ib jb in
    let front = commands_of (take place script) in
    let after_a = or_none (first_code (word_rules front (suc place) MatrixName a)) _ (kept_on script place c h e).names in
    let after_v = or_none (first_code (word_rules front (suc place) ListName v)) _ after_a.1 in
    list_at script place v (place_le script place c e) after_v.0

-- the same of a `pgetrs` line
pub pgetrs_operands : (script : List (Option Command)) (line : ℕ) (trans : List ℕ) (n nrhs : ℕ) (a : List ℕ) (ia ja : ℕ) (v b : List ℕ) (ib jb : ℕ) → KeepsRules script → command_at (commands_of script) line ≡ Some (Pgetrs trans n nrhs a ia ja v b ib jb) →
    PgetrsOperands (distribution_of (commands_of script) line a) (factored (commands_of script) line v) (distribution_of (commands_of script) line b) trans n nrhs ia ja (not (bytes_eq b a)) ib jb
pgetrs_operands script line trans n nrhs a ia ja v b ib jb h e =
    let on = OnLine-from_command_at script line (Pgetrs trans n nrhs a ia ja v b ib jb) e in
    subst (λ l. PgetrsOperands (distribution_of (commands_of script) l a) (factored (commands_of script) l v) (distribution_of (commands_of script) l b) trans n nrhs ia ja (not (bytes_eq b a)) ib jb) (sym on.number) (pgetrs_at script on.place trans n nrhs a ia ja v b ib jb h on.said)

-- its list is a pivot list
pub pgetrs_list : (script : List (Option Command)) (line : ℕ) (trans : List ℕ) (n nrhs : ℕ) (a : List ℕ) (ia ja : ℕ) (v b : List ℕ) (ib jb : ℕ) → KeepsRules script → command_at (commands_of script) line ≡ Some (Pgetrs trans n nrhs a ia ja v b ib jb) →
    is_list_line (maker_command (commands_of script) line v) ≡ true
pgetrs_list script line trans n nrhs a ia ja v b ib jb h e =
    let on = OnLine-from_command_at script line (Pgetrs trans n nrhs a ia ja v b ib jb) e in
    subst (λ l. is_list_line (maker_command (commands_of script) l v) ≡ true) (sym on.number) (pgetrs_list_at script on.place trans n nrhs a ia ja v b ib jb h on.said)

-- ---- pgemr2d

pub record Pgemr2dOperands (a b : Distribution) (m n ia ja : ℕ) (apart : Bool) (ib jb : ℕ) (ctxt : List ℕ) : Type 0 where
  pub first : HasSizes a
  pub second : HasSizes b
  pub rules : AllKept (pgemr2d_rules m n ia ja apart ib jb ctxt a b)
  pub some_rows : 1 ≤ m
  pub rows : m ≤ 1024
  pub some_columns : 1 ≤ n
  pub columns : n ≤ 1024

pgemr2d_at : (script : List (Option Command)) (place m n : ℕ) (a : List ℕ) (ia ja : ℕ) (b : List ℕ) (ib jb : ℕ) (ctxt : List ℕ) → KeepsRules script →
    slice_get script place ≡ Some (Some (Pgemr2d m n a ia ja b ib jb ctxt)) →
    Pgemr2dOperands (distribution_of (commands_of script) (suc place) a) (distribution_of (commands_of script) (suc place) b) m n ia ja (not (bytes_eq b a)) ib jb ctxt
pgemr2d_at script place m n a ia ja b ib jb ctxt h e =
    let c = Pgemr2d m n a ia ja b ib jb ctxt in
    let le = place_le script place c e in
    let front = commands_of (take place script) in
    let cs = commands_of script in
    let line = suc place in
    let kept = kept_on script place c h e in
    let apart = not (bytes_eq b a) in
    let after_a = or_none (first_code (word_rules front line MatrixName a)) _ kept.names in
    let after_b = or_none (first_code (word_rules front line MatrixName b)) None after_a.1 in
    let first = sizes_at script place a h le after_a.0 in
    let second = sizes_at script place b h le after_b.0 in
    let by_a = subst (λ l. first_code (pgemr2d_rules m n ia ja apart ib jb ctxt l (distribution_of front line b)) ≡ None) (distribution_of-take script place a le) kept.own in
    let by_b = subst (λ l. first_code (pgemr2d_rules m n ia ja apart ib jb ctxt (distribution_of cs line a) l) ≡ None) (distribution_of-take script place b le) by_a in
    let rules = all_kept (pgemr2d_rules m n ia ja apart ib jb ctxt (distribution_of cs line a) (distribution_of cs line b)) by_b in
    let rows = and_parts (leb 1 ia) (leb (ia + m) ((distribution_of cs line a).m + 1)) rules.1.1.0 in
    let columns = and_parts (leb 1 ja) (leb (ja + n) ((distribution_of cs line a).n + 1)) rules.1.1.1.0 in
    record {
      first = first;
      second = second;
      rules = rules;
      some_rows = leb-true 1 m rules.0;
      rows = omega (arith, leb-true 1 ia rows.0, leb-true (ia + m) ((distribution_of cs line a).m + 1) rows.1, first.rows);
      some_columns = leb-true 1 n rules.1.0;
      columns = omega (arith, leb-true 1 ja columns.0, leb-true (ja + n) ((distribution_of cs line a).n + 1) columns.1, first.in_range.size);
    }

-- the same of a `pgemr2d` line
pub pgemr2d_operands : (script : List (Option Command)) (line : ℕ) (m n : ℕ) (a : List ℕ) (ia ja : ℕ) (b : List ℕ) (ib jb : ℕ) (ctxt : List ℕ) → KeepsRules script → command_at (commands_of script) line ≡ Some (Pgemr2d m n a ia ja b ib jb ctxt) →
    Pgemr2dOperands (distribution_of (commands_of script) line a) (distribution_of (commands_of script) line b) m n ia ja (not (bytes_eq b a)) ib jb ctxt
pgemr2d_operands script line m n a ia ja b ib jb ctxt h e =
    let on = OnLine-from_command_at script line (Pgemr2d m n a ia ja b ib jb ctxt) e in
    subst (λ l. Pgemr2dOperands (distribution_of (commands_of script) l a) (distribution_of (commands_of script) l b) m n ia ja (not (bytes_eq b a)) ib jb ctxt) (sym on.number) (pgemr2d_at script on.place m n a ia ja b ib jb ctxt h on.said)

-- ---- ptran

pub record PtranOperands (p : ℕ) (a x : Distribution) (m n alpha ia ja beta : ℕ) (apart : Bool) (ic jc : ℕ) : Type 0 where
  pub first : HasSizes a
  pub second : HasSizes x
  pub rules : AllKept (ptran_rules p m n alpha ia ja beta apart ic jc a x)
  pub rows : m ≤ 1024
  pub columns : n ≤ 1024

ptran_at : (script : List (Option Command)) (place m n alpha : ℕ) (a : List ℕ) (ia ja beta : ℕ) (x : List ℕ) (ic jc : ℕ) → KeepsRules script → slice_get script place ≡ Some (Some (Ptran m n alpha a ia ja beta x ic jc)) →
    PtranOperands (modulus_of (commands_of script)) (distribution_of (commands_of script) (suc place) a) (distribution_of (commands_of script) (suc place) x) m n alpha ia ja beta (not (bytes_eq x a)) ic jc
ptran_at script place m n alpha a ia ja beta x ic jc h e =
    let c = Ptran m n alpha a ia ja beta x ic jc in
    let le = place_le script place c e in
    let front = commands_of (take place script) in
    let cs = commands_of script in
    let line = suc place in
    let p = modulus_of cs in
    let kept = kept_on script place c h e in
    let apart = not (bytes_eq x a) in
    let after_a = or_none (first_code (word_rules front line MatrixName a)) _ kept.names in
    let after_x = or_none (first_code (word_rules front line MatrixName x)) None after_a.1 in
    let first = sizes_at script place a h le after_a.0 in
    let second = sizes_at script place x h le after_x.0 in
    let there = matrix_at script place a le after_a.0 in
    let by_p = subst (λ q. first_code (ptran_rules q m n alpha ia ja beta apart ic jc (distribution_of front line a) (distribution_of front line x)) ≡ None) (modulus-take script place a h le there) kept.own in
    let by_a = subst (λ l. first_code (ptran_rules p m n alpha ia ja beta apart ic jc l (distribution_of front line x)) ≡ None) (distribution_of-take script place a le) by_p in
    let by_x = subst (λ l. first_code (ptran_rules p m n alpha ia ja beta apart ic jc (distribution_of cs line a) l) ≡ None) (distribution_of-take script place x le) by_a in
    let rules = all_kept (ptran_rules p m n alpha ia ja beta apart ic jc (distribution_of cs line a) (distribution_of cs line x)) by_x in
    record {
      first = first;
      second = second;
      rules = rules;
      rows = omega (arith, eqb-true m (distribution_of cs line x).m rules.0, second.rows);
      columns = omega (arith, eqb-true n (distribution_of cs line x).n rules.1.0, second.in_range.size);
    }

-- the matrices and the numbers of a `ptran` line
pub ptran_operands : (script : List (Option Command)) (line m n alpha : ℕ) (a : List ℕ) (ia ja beta : ℕ) (x : List ℕ) (ic jc : ℕ) → KeepsRules script → command_at (commands_of script) line ≡ Some (Ptran m n alpha a ia ja beta x ic jc) →
    PtranOperands (modulus_of (commands_of script)) (distribution_of (commands_of script) line a) (distribution_of (commands_of script) line x) m n alpha ia ja beta (not (bytes_eq x a)) ic jc
ptran_operands script line m n alpha a ia ja beta x ic jc h e =
    let on = OnLine-from_command_at script line (Ptran m n alpha a ia ja beta x ic jc) e in
    subst (λ l. PtranOperands (modulus_of (commands_of script)) (distribution_of (commands_of script) l a) (distribution_of (commands_of script) l x) m n alpha ia ja beta (not (bytes_eq x a)) ic jc) (sym on.number) (ptran_at script on.place m n alpha a ia ja beta x ic jc h on.said)

-- ---- pgetri

pub record PgetriOperands (a v b : Distribution) (n ia ja : ℕ) (apart : Bool) (ib jb : ℕ) : Type 0 where
  pub first : HasSizes a
  pub second : HasSizes b
  pub rules : AllKept (pgetri_rules n ia ja apart ib jb a v b)
  pub rows : n ≤ 1024

pgetri_at : (script : List (Option Command)) (place n : ℕ) (a : List ℕ) (ia ja : ℕ) (v b : List ℕ) (ib jb : ℕ) → KeepsRules script → slice_get script place ≡ Some (Some (Pgetri n a ia ja v b ib jb)) →
    PgetriOperands (distribution_of (commands_of script) (suc place) a) (factored (commands_of script) (suc place) v) (distribution_of (commands_of script) (suc place) b) n ia ja (not (bytes_eq b a)) ib jb
    × (is_list_line (maker_command (commands_of script) (suc place) v) ≡ true)
pgetri_at script place n a ia ja v b ib jb h e =
    let c = Pgetri n a ia ja v b ib jb in
    let le = place_le script place c e in
    let front = commands_of (take place script) in
    let cs = commands_of script in
    let line = suc place in
    let kept = kept_on script place c h e in
    let apart = not (bytes_eq b a) in
    let after_a = or_none (first_code (word_rules front line MatrixName a)) _ kept.names in
    let after_v = or_none (first_code (word_rules front line ListName v)) _ after_a.1 in
    let after_b = or_none (first_code (word_rules front line MatrixName b)) None after_v.1 in
    let first = sizes_at script place a h le after_a.0 in
    let second = sizes_at script place b h le after_b.0 in
    let by_a = subst (λ l. first_code (pgetri_rules n ia ja apart ib jb l (factored front line v) (distribution_of front line b)) ≡ None) (distribution_of-take script place a le) kept.own in
    let by_v = subst (λ l. first_code (pgetri_rules n ia ja apart ib jb (distribution_of cs line a) l (distribution_of front line b)) ≡ None) (factored-take script place v le) by_a in
    let by_b = subst (λ l. first_code (pgetri_rules n ia ja apart ib jb (distribution_of cs line a) (factored cs line v) l) ≡ None) (distribution_of-take script place b le) by_v in
    let rules = all_kept (pgetri_rules n ia ja apart ib jb (distribution_of cs line a) (factored cs line v) (distribution_of cs line b)) by_b in
    let operands : PgetriOperands (distribution_of cs line a) (factored cs line v) (distribution_of cs line b) n ia ja apart ib jb = record {
      first = first;
      second = second;
      rules = rules;
      rows = omega (arith, eqb-true n (distribution_of cs line a).m rules.0, first.rows);
    } in
    (operands, list_at script place v le after_v.0)

-- the matrices and the numbers of a `pgetri` line, whose list is a pivot list
pub pgetri_operands : (script : List (Option Command)) (line n : ℕ) (a : List ℕ) (ia ja : ℕ) (v b : List ℕ) (ib jb : ℕ) → KeepsRules script → command_at (commands_of script) line ≡ Some (Pgetri n a ia ja v b ib jb) →
    PgetriOperands (distribution_of (commands_of script) line a) (factored (commands_of script) line v) (distribution_of (commands_of script) line b) n ia ja (not (bytes_eq b a)) ib jb
    × (is_list_line (maker_command (commands_of script) line v) ≡ true)
pgetri_operands script line n a ia ja v b ib jb h e =
    let on = OnLine-from_command_at script line (Pgetri n a ia ja v b ib jb) e in
    subst (λ l. PgetriOperands (distribution_of (commands_of script) l a) (factored (commands_of script) l v) (distribution_of (commands_of script) l b) n ia ja (not (bytes_eq b a)) ib jb
    × (is_list_line (maker_command (commands_of script) l v) ≡ true)) (sym on.number) (pgetri_at script on.place n a ia ja v b ib jb h on.said)

-- ---- pverify

verified_at : (script : List (Option Command)) (place : ℕ) (name : List ℕ) → KeepsRules script → slice_get script place ≡ Some (Some (Pverify name)) → HasSizes (distribution_of (commands_of script) (suc place) name)
verified_at script place name h e =
    let front = commands_of (take place script) in
    let named = or_none (first_code (word_rules front (suc place) MatrixName name)) None (kept_on script place (Pverify name) h e).names in
    sizes_at script place name h (place_le script place (Pverify name) e) named.0

-- the matrix of a `pverify` line is in range
pub verified_sizes : (script : List (Option Command)) (line : ℕ) (name : List ℕ) → KeepsRules script → command_at (commands_of script) line ≡ Some (Pverify name) →
    HasSizes (distribution_of (commands_of script) line name)
verified_sizes script line name h e =
    let on = OnLine-from_command_at script line (Pverify name) e in
    subst (λ l. HasSizes (distribution_of (commands_of script) l name)) (sym on.number) (verified_at script on.place name h on.said)

-- ---- lists

pivots_at : (script : List (Option Command)) (place : ℕ) (name : List ℕ) → KeepsRules script → slice_get script place ≡ Some (Some (Pivots name)) → is_list_line (maker_command (commands_of script) (suc place) name) ≡ true
pivots_at script place name h e =
    let front = commands_of (take place script) in
    let named = or_none (first_code (word_rules front (suc place) ListName name)) None (kept_on script place (Pivots name) h e).names in
    list_at script place name (place_le script place (Pivots name) e) named.0

printed_at : (script : List (Option Command)) (place : ℕ) (name : List ℕ) → KeepsRules script → slice_get script place ≡ Some (Some (Print name)) → HasSizes (distribution_of (commands_of script) (suc place) name)
printed_at script place name h e =
    let front = commands_of (take place script) in
    let named = or_none (first_code (word_rules front (suc place) MatrixName name)) None (kept_on script place (Print name) h e).names in
    sizes_at script place name h (place_le script place (Print name) e) named.0

-- the name of a `pivots` line is that of a pivot list
pub pivots_kept : (script : List (Option Command)) (line : ℕ) (name : List ℕ) → KeepsRules script → command_at (commands_of script) line ≡ Some (Pivots name) →
    is_list_line (maker_command (commands_of script) line name) ≡ true
pivots_kept script line name h e =
    let on = OnLine-from_command_at script line (Pivots name) e in
    subst (λ l. is_list_line (maker_command (commands_of script) l name) ≡ true) (sym on.number) (pivots_at script on.place name h on.said)

-- the matrix of a `print` line is in range
pub printed_sizes : (script : List (Option Command)) (line : ℕ) (name : List ℕ) → KeepsRules script → command_at (commands_of script) line ≡ Some (Print name) →
    HasSizes (distribution_of (commands_of script) line name)
printed_sizes script line name h e =
    let on = OnLine-from_command_at script line (Print name) e in
    subst (λ l. HasSizes (distribution_of (commands_of script) l name)) (sym on.number) (printed_at script on.place name h on.said)
