-- What the lines of a script that keeps the rules need for their numbers of records.
use Rattle.std.proofs.Common.{◌≡◌, ℕ, ◌≤◌, List, Option, Some, None, sym, ap, subst, ◌∙◌}
use Rattle.run_data.specs.declared.command.Command.{Command}
use Rattle.run_data.specs.declared.command.Command.TheVariants as c
use Rattle.run_data.specs.Script.{Numbered, commands_of, command_at, maker, name_made}
use Rattle.script_rules.specs.declared.distributions.Distribution.{Distribution}
use Rattle.script_bounds.specs.Accepted.{KeepsRules}
use Rattle.script_rules.specs.Rules.{maker_command, distribution_on, distribution_of, ranks_of}
use Rattle.script_bounds.specs.Steps.{IsInRange}
use Rattle.std.proofs.lemmas.Option.{same_Some}
use Rattle.script_bounds.proofs.Limits.{limits_of_maker, matrix_kept, line_in_range, grid_name_kept, matrix_name_kept, list_name_kept, ranks_few}
use Rattle.script_bounds.proofs.Operands.{pgemm_operands, ptrsm_operands, pgetrf_operands, pgetrs_operands, pgemr2d_operands, ptran_operands, pgetri_operands, verified_sizes}

-- a distribution that is the one of a name as seen from a line
pub as_distribution : (a : Distribution) (cs : List Numbered) (line line' : ℕ) (name name' : List ℕ) → a ≡ distribution_of cs line name → line ≡ line' → name ≡ name' → IsInRange (distribution_of cs line' name') → IsInRange a
as_distribution a cs line line' name name' e l n h = subst IsInRange (sym (e ∙ ap (λ k. distribution_of cs k name) l ∙ ap (distribution_of cs line') n)) h

pub as_matrix_distribution : (a : Distribution) (cs : List Numbered) (line line' : ℕ) (grid grid' : List ℕ) (m n mb nb rsrc csrc : ℕ) → a ≡ distribution_on (maker cs line grid) (maker_command cs line grid) m n mb nb rsrc csrc →
    line ≡ line' → grid ≡ grid' → IsInRange (distribution_on (maker cs line' grid') (maker_command cs line' grid') m n mb nb rsrc csrc) → IsInRange a
as_matrix_distribution a cs line line' grid grid' m n mb nb rsrc csrc e l g h =
    subst IsInRange (sym (e ∙ ap (λ k. distribution_on (maker cs k grid) (maker_command cs k grid) m n mb nb rsrc csrc) l ∙ ap (λ x. distribution_on (maker cs line' x) (maker_command cs line' x) m n mb nb rsrc csrc) g)) h

pub record IsLimited (p q f : ℕ) : Type 0 where
  pub some_rows : 1 ≤ p
  pub rows : p ≤ 16
  pub some_columns : 1 ≤ q
  pub columns : q ≤ 16
  pub code_columns : f ≤ 4

pub limited_of_maker : (script : List (Option Command)) (line : ℕ) (grid name : List ℕ) (p q f : ℕ) → KeepsRules script → maker_command (commands_of script) line grid ≡ Some (c.Grid name p q f) → IsLimited p q f
limited_of_maker script line grid name p q f h e =
    let l = limits_of_maker script line grid name p q f h e in
    record { some_rows = l.some_rows; rows = l.rows; some_columns = l.some_columns; columns = l.columns; code_columns = l.code_columns }

pub matrix_sizes : (script : List (Option Command)) (line : ℕ) (name grid : List ℕ) (m n mb nb rsrc csrc : ℕ) (file : List ℕ) → KeepsRules script →
    command_at (commands_of script) line ≡ Some (c.Matrix name grid m n mb nb rsrc csrc file) → (n ≤ 1024) × (1 ≤ nb)
matrix_sizes script line name grid m n mb nb rsrc csrc file h e =
    let kept = (matrix_kept script line name grid m n mb nb rsrc csrc file h e).in_range 0 in
    (kept.columns, kept.some_block_columns)

pub matrix_distribution_kept : (script : List (Option Command)) (line : ℕ) (name grid : List ℕ) (m n mb nb rsrc csrc : ℕ) (file : List ℕ) → KeepsRules script →
    command_at (commands_of script) line ≡ Some (c.Matrix name grid m n mb nb rsrc csrc file) → IsInRange (distribution_on (maker (commands_of script) line grid) (maker_command (commands_of script) line grid) m n mb nb rsrc csrc)
matrix_distribution_kept script line name grid m n mb nb rsrc csrc file h e = line_in_range script line name grid m n mb nb rsrc csrc file h e

pub pgemm_kept : (script : List (Option Command)) (line : ℕ) (transa transb : List ℕ) (m n k alpha : ℕ) (a : List ℕ) (ia ja : ℕ) (b : List ℕ) (ib jb beta : ℕ) (x : List ℕ) (ic jc : ℕ) → KeepsRules script →
    command_at (commands_of script) line ≡ Some (c.Pgemm transa transb m n k alpha a ia ja b ib jb beta x ic jc) →
    IsInRange (distribution_of (commands_of script) line a) × IsInRange (distribution_of (commands_of script) line x) × (k ≤ 1024)
pgemm_kept script line transa transb m n k alpha a ia ja b ib jb beta x ic jc h e =
    let o = pgemm_operands script line transa transb m n k alpha a ia ja b ib jb beta x ic jc h e in
    (o.first.in_range, o.third.in_range, o.inner)

pub ptrsm_kept : (script : List (Option Command)) (line : ℕ) (side uplo transa diag : List ℕ) (m n alpha : ℕ) (a : List ℕ) (ia ja : ℕ) (b : List ℕ) (ib jb : ℕ) → KeepsRules script →
    command_at (commands_of script) line ≡ Some (c.Ptrsm side uplo transa diag m n alpha a ia ja b ib jb) →
    IsInRange (distribution_of (commands_of script) line a) × IsInRange (distribution_of (commands_of script) line b) × (m ≤ 1024) × (n ≤ 1024)
ptrsm_kept script line side uplo transa diag m n alpha a ia ja b ib jb h e =
    let o = ptrsm_operands script line side uplo transa diag m n alpha a ia ja b ib jb h e in
    (o.first.in_range, o.second.in_range, o.rows, o.columns)

pub pgetrf_kept : (script : List (Option Command)) (line : ℕ) (m n : ℕ) (a : List ℕ) (ia ja : ℕ) (v : List ℕ) → KeepsRules script →
    command_at (commands_of script) line ≡ Some (c.Pgetrf m n a ia ja v) → IsInRange (distribution_of (commands_of script) line a) × (m ≤ 1024) × (n ≤ 1024)
pgetrf_kept script line m n a ia ja v h e =
    let o = pgetrf_operands script line m n a ia ja v h e in
    (o.first.in_range, o.rows, o.columns)

pub pgetrs_kept : (script : List (Option Command)) (line : ℕ) (trans : List ℕ) (n nrhs : ℕ) (a : List ℕ) (ia ja : ℕ) (v b : List ℕ) (ib jb : ℕ) → KeepsRules script →
    command_at (commands_of script) line ≡ Some (c.Pgetrs trans n nrhs a ia ja v b ib jb) →
    IsInRange (distribution_of (commands_of script) line a) × IsInRange (distribution_of (commands_of script) line b) × (n ≤ 1024)
pgetrs_kept script line trans n nrhs a ia ja v b ib jb h e =
    let o = pgetrs_operands script line trans n nrhs a ia ja v b ib jb h e in
    (o.first.in_range, o.second.in_range, o.rows)

pub pgemr2d_kept : (script : List (Option Command)) (line : ℕ) (m n : ℕ) (a : List ℕ) (ia ja : ℕ) (b : List ℕ) (ib jb : ℕ) (ctxt : List ℕ) → KeepsRules script →
    command_at (commands_of script) line ≡ Some (c.Pgemr2d m n a ia ja b ib jb ctxt) →
    IsInRange (distribution_of (commands_of script) line a) × IsInRange (distribution_of (commands_of script) line b) × (1 ≤ m) × (m ≤ 1024) × (1 ≤ n) × (n ≤ 1024)
pgemr2d_kept script line m n a ia ja b ib jb ctxt h e =
    let o = pgemr2d_operands script line m n a ia ja b ib jb ctxt h e in
    (o.first.in_range, o.second.in_range, o.some_rows, o.rows, o.some_columns, o.columns)

pub ptran_kept : (script : List (Option Command)) (line m n alpha : ℕ) (a : List ℕ) (ia ja beta : ℕ) (x : List ℕ) (ic jc : ℕ) → KeepsRules script →
    command_at (commands_of script) line ≡ Some (c.Ptran m n alpha a ia ja beta x ic jc) →
    IsInRange (distribution_of (commands_of script) line a) × IsInRange (distribution_of (commands_of script) line x) × (m ≤ 1024) × (n ≤ 1024)
ptran_kept script line m n alpha a ia ja beta x ic jc h e =
    let o = ptran_operands script line m n alpha a ia ja beta x ic jc h e in
    (o.first.in_range, o.second.in_range, o.rows, o.columns)

pub pgetri_kept : (script : List (Option Command)) (line n : ℕ) (a : List ℕ) (ia ja : ℕ) (v b : List ℕ) (ib jb : ℕ) → KeepsRules script →
    command_at (commands_of script) line ≡ Some (c.Pgetri n a ia ja v b ib jb) →
    IsInRange (distribution_of (commands_of script) line a) × IsInRange (distribution_of (commands_of script) line b) × (n ≤ 1024)
pgetri_kept script line n a ia ja v b ib jb h e =
    let o = (pgetri_operands script line n a ia ja v b ib jb h e).0 in
    (o.first.in_range, o.second.in_range, o.rows)

pub pverify_kept : (script : List (Option Command)) (line : ℕ) (name : List ℕ) → KeepsRules script → command_at (commands_of script) line ≡ Some (c.Pverify name) →
    IsInRange (distribution_of (commands_of script) line name)
pverify_kept script line name h e = (verified_sizes script line name h e).in_range

-- a name that a line makes means nothing as seen from that line
pub made_name_free : (script : List (Option Command)) (line : ℕ) (d : Command) (name : List ℕ) → KeepsRules script → command_at (commands_of script) line ≡ Some d →
    name_made d ≡ Some name → maker (commands_of script) line name ≡ None
made_name_free script line (c.Grid made p q f) name h e m = let same : made ≡ name = same_Some made name m in subst (λ x. maker (commands_of script) line x ≡ None) same (grid_name_kept script line made p q f h e).free
made_name_free script line (c.Matrix made grid k n mb nb rsrc csrc file) name h e m =
    let same : made ≡ name = same_Some made name m in
    subst (λ x. maker (commands_of script) line x ≡ None) same (matrix_name_kept script line made grid k n mb nb rsrc csrc file h e).free
made_name_free script line (c.Pgetrf k n a ia ja v) name h e m = let same : v ≡ name = same_Some v name m in subst (λ x. maker (commands_of script) line x ≡ None) same (list_name_kept script line k n a ia ja v h e).free
made_name_free script line d name h e m = absurd cc

pub ranks_limited : (script : List (Option Command)) → KeepsRules script → ranks_of (commands_of script) ≤ 64
ranks_limited script h = ranks_few script h
