-- What a script that keeps the rules gives a `pgemm` line: its job, its three matrices, and that they lie in blocks that fit.
use Rattle.std.proofs.Common.{◌≡◌, ◌≢◌, ℕ, ◌<◌, ◌&&◌, not, Bool, false, List, [], ◌∷◌, Option, Some, None, is_some, refl, sym, ap, subst, ◌∙◌, arith}
use Rattle.std.specs.Prelude.{All, slice_index_or}
use Rattle.std.proofs.lemmas.List.Elements.{All-nil, All-cons}
use Rattle.std.specs.Str.{bytes_eq}
use Rattle.std.proofs.lemmas.Bool.{true≢false, not-true, and_parts, eqb-true, ltb-true}
use Rattle.std.proofs.lemmas.Option.{same_Some}
use Rattle.std.proofs.lemmas.Slice.Eq.{bytes_eq-Decides}
use Rattle.run_data.specs.declared.command.Command.{Command}
use Rattle.run_data.specs.declared.command.Command.TheVariants as c
use Rattle.run_data.specs.Script.{Numbered, commands_of, command_at, maker, name_made, grids_before, modulus_of}
use Rattle.rank_machine.specs.Setting.{Job, no_job, no_grid, job, layout}
use Rattle.rank_machine.specs.Scripts.{Matrices, grids_from, path_from, setting_of}
use Rattle.rank_machine.specs.Setting.{forwards}
use Rattle.script_rules.specs.declared.distributions.Distribution.{Distribution}
use Rattle.script_rules.specs.Routines.{pgemm_rules}
use Rattle.script_rules.specs.Rules.{command_on, distribution_made, distribution_of}
use Rattle.script_words.proofs.Tables.{AllKept}
use Rattle.script_bounds.specs.Accepted.{KeepsRules}
use Rattle.script_bounds.proofs.Limits.{MeansMatrix, HasSizes}
use Rattle.script_bounds.proofs.Operands.{PgemmOperands, pgemm_operands}
use Rattle.whole_run.specs.Between.{Names}
use Rattle.line_phases.proofs.NextJob.{job-is, line-job}
use Rattle.product_lines.specs.Lines.{IsProductJob, LieAligned, IsProductLine, line_of_a, line_of_b, line_of_c}
use Rattle.product_lines.proofs.Jobs.{dropped-same}
use Rattle.product_lines.proofs.Matrices.{LiesAs, matrix-meant}

-- ---- a name that means a matrix in range means one that a line made
pub means-from_sizes : (cs : List Numbered) (line : ℕ) (name : List ℕ) → HasSizes (distribution_of cs line name) → MeansMatrix cs line name
means-from_sizes cs line name sizes = by_maker (maker cs line name) refl sizes
  where
    none : HasSizes (record { grid = 0; p = 0; q = 0; f = 0; m = 0; n = 0; mb = 0; nb = 0; rsrc = 0; csrc = 0 }) → ⊥
    none h = let some = h.some_rows in omega (arith, some)

    by_command : (at : ℕ) (o : Option Command) → maker cs line name ≡ Some at → command_at cs at ≡ o → HasSizes (distribution_made cs (Some at) o) → MeansMatrix cs line name
    by_command at (Some (c.Matrix made grid m n mb nb rsrc csrc file)) means e h =
        record { at = at; maker_is = means; made = made; grid = grid; m = m; n = n; mb = mb; nb = nb; rsrc = rsrc; csrc = csrc; file = file; matrix = e }
    by_command at None means e h = absurd (none h)
    by_command at (Some command) means e h = absurd (none h)

    by_maker : (o : Option ℕ) → maker cs line name ≡ o → HasSizes (distribution_made cs o (command_on cs o)) → MeansMatrix cs line name
    by_maker None means h = absurd (none h)
    by_maker (Some at) means h = by_command at (command_at cs at) means refl h

-- ---- what the rules of the line say of its matrices
record FitRules (p m n k alpha beta : ℕ) (apart_a apart_b : Bool) (a b x : Distribution) : Type 0 where
  rows_said : m ≡ a.m
  columns_said : n ≡ b.n
  inner_said : k ≡ a.n
  alpha_below : alpha < p
  beta_below : beta < p
  grid_b : b.grid ≡ a.grid
  inner : b.m ≡ k
  inner_blocks : b.mb ≡ a.nb
  not_a : apart_a ≡ false
  not_b : apart_b ≡ false
  grid_x : x.grid ≡ a.grid
  rows : x.m ≡ m
  columns : x.n ≡ n
  row_blocks : x.mb ≡ a.mb
  column_blocks : x.nb ≡ b.nb
  row_source : x.rsrc ≡ a.rsrc
  column_source : x.csrc ≡ b.csrc

fit_rules : (p : ℕ) (transa transb : List ℕ) (m n k alpha ia ja ib jb beta : ℕ) (apart_a apart_b : Bool) (ic jc : ℕ) (a b x : Distribution)
    → AllKept (pgemm_rules p transa transb m n k alpha ia ja ib jb beta (not apart_a && not apart_b) ic jc a b x) → FitRules p m n k alpha beta apart_a apart_b a b x
fit_rules p transa transb m n k alpha ia ja ib jb beta apart_a apart_b ic jc a b x rules =
    let apart = and_parts (not apart_a) (not apart_b) rules.1.1.1.1.1.1.1.1.1.1.1.1.1.1.0 in
    record {
      rows_said = eqb-true m a.m rules.1.1.0;
      columns_said = eqb-true n b.n rules.1.1.1.0;
      inner_said = eqb-true k a.n rules.1.1.1.1.0;
      alpha_below = ltb-true alpha p rules.1.1.1.1.1.0;
      beta_below = ltb-true beta p rules.1.1.1.1.1.1.1.1.1.1.1.1.1.0;
      grid_b = eqb-true b.grid a.grid rules.1.1.1.1.1.1.1.1.1.1.0;
      inner = eqb-true b.m k rules.1.1.1.1.1.1.1.1.1.1.1.0;
      inner_blocks = eqb-true b.mb a.nb rules.1.1.1.1.1.1.1.1.1.1.1.1.0;
      not_a = not-true apart_a apart.0;
      not_b = not-true apart_b apart.1;
      grid_x = eqb-true x.grid a.grid rules.1.1.1.1.1.1.1.1.1.1.1.1.1.1.1.1.1.0;
      rows = eqb-true x.m m rules.1.1.1.1.1.1.1.1.1.1.1.1.1.1.1.1.1.1.0;
      columns = eqb-true x.n n rules.1.1.1.1.1.1.1.1.1.1.1.1.1.1.1.1.1.1.1.0;
      row_blocks = eqb-true x.mb a.mb rules.1.1.1.1.1.1.1.1.1.1.1.1.1.1.1.1.1.1.1.1.0;
      column_blocks = eqb-true x.nb b.nb rules.1.1.1.1.1.1.1.1.1.1.1.1.1.1.1.1.1.1.1.1.1.0;
      row_source = eqb-true x.rsrc a.rsrc rules.1.1.1.1.1.1.1.1.1.1.1.1.1.1.1.1.1.1.1.1.1.1.0;
      column_source = eqb-true x.csrc b.csrc rules.1.1.1.1.1.1.1.1.1.1.1.1.1.1.1.1.1.1.1.1.1.1.1.0;
    }

-- so their layouts fit
aligned_by : (script : List (Option Command)) (files : Matrices) (p m n k alpha beta : ℕ) (apart_a apart_b : Bool) (line_a line_b line_c : ℕ) (a b x : Distribution) → FitRules p m n k alpha beta apart_a apart_b a b x
    → LiesAs script files line_a a → LiesAs script files line_b b → LiesAs script files line_c x
    → LieAligned (layout (setting_of script files) line_a) (layout (setting_of script files) line_b) (layout (setting_of script files) line_c) m n k
aligned_by script files p m n k alpha beta apart_a apart_b line_a line_b line_c a b x fit at_a at_b at_c =
    let grid_of = λ (number : ℕ). slice_index_or (grids_from 0 (commands_of script)) (grids_before (commands_of script) number) no_grid in
    record {
      grid_a = at_a.grid ∙ (ap grid_of (sym fit.grid_x) ∙ sym at_c.grid);
      grid_b = at_b.grid ∙ (ap grid_of (fit.grid_b ∙ sym fit.grid_x) ∙ sym at_c.grid);
      rows = at_a.rows ∙ (sym fit.rows_said ∙ (sym fit.rows ∙ sym at_c.rows));
      row_blocks = at_a.row_blocks ∙ (sym fit.row_blocks ∙ sym at_c.row_blocks);
      row_source = at_a.row_source ∙ (sym fit.row_source ∙ sym at_c.row_source);
      inner = at_a.columns ∙ (sym fit.inner_said ∙ (sym fit.inner ∙ sym at_b.rows));
      inner_blocks = at_a.column_blocks ∙ (sym fit.inner_blocks ∙ sym at_b.row_blocks);
      columns = at_b.columns ∙ (sym fit.columns_said ∙ (sym fit.columns ∙ sym at_c.columns));
      column_blocks = at_b.column_blocks ∙ (sym fit.column_blocks ∙ sym at_c.column_blocks);
      column_source = at_b.column_source ∙ (sym fit.column_source ∙ sym at_c.column_source);
      rows_said = sym fit.rows ∙ sym at_c.rows;
      columns_said = sym fit.columns ∙ sym at_c.columns;
      inner_said = fit.inner_said ∙ sym at_a.columns;
    }

-- a line makes one name
one_name : (cs : List Numbered) (at other : ℕ) (name other_name : List ℕ) → Names cs at name → Names cs other other_name → at ≡ other → name ≡ other_name
one_name cs at other name other_name named other_named same =
    let command : named.0 ≡ other_named.0 = same_Some named.0 other_named.0 (sym named.1 ∙ (ap (command_at cs) same ∙ other_named.1)) in
    same_Some name other_name (sym named.2 ∙ (ap name_made command ∙ other_named.2))

apart_by : (cs : List Numbered) (at other : ℕ) (name other_name : List ℕ) → Names cs at name → Names cs other other_name → bytes_eq name other_name ≡ false → at ≢ other
apart_by cs at other name other_name named other_named differ same =
    true≢false (sym ((bytes_eq-Decides name other_name).1 (one_name cs at other name other_name named other_named same)) ∙ differ)

-- ---- the line
pub product-line : (script : List (Option Command)) (files : Matrices) (line : ℕ) (transa transb : List ℕ) (m n k alpha : ℕ) (a : List ℕ) (ia ja : ℕ) (b : List ℕ) (ib jb beta : ℕ) (x : List ℕ) (ic jc : ℕ) → KeepsRules script
    → command_at (commands_of script) line ≡ Some (c.Pgemm transa transb m n k alpha a ia ja b ib jb beta x ic jc) → IsProductLine script files line m n k alpha a b beta x
product-line script files line transa transb m n k alpha a ia ja b ib jb beta x ic jc kept e =
    let cs = commands_of script in
    let command : Command = c.Pgemm transa transb m n k alpha a ia ja b ib jb beta x ic jc in
    let operands : PgemmOperands (modulus_of cs) (distribution_of cs line a) (distribution_of cs line b) (distribution_of cs line x) transa transb m n k alpha ia ja ib jb beta (not (bytes_eq x a) && not (bytes_eq x b)) ic jc =
    pgemm_operands script line transa transb m n k alpha a ia ja b ib jb beta x ic jc kept e in
    let fit : FitRules (modulus_of cs) m n k alpha beta (bytes_eq x a) (bytes_eq x b) (distribution_of cs line a) (distribution_of cs line b) (distribution_of cs line x) =
    fit_rules (modulus_of cs) transa transb m n k alpha ia ja ib jb beta (bytes_eq x a) (bytes_eq x b) ic jc (distribution_of cs line a) (distribution_of cs line b) (distribution_of cs line x) operands.rules in
    let no_drop : (dropped : List ℕ) → command ≡ c.Discard dropped → ⊥ = λ dropped is. no_drop_line dropped is in
    let first = matrix-meant script files line 7 command a kept e refl no_drop (means-from_sizes cs line a operands.first) in
    let second = matrix-meant script files line 10 command b kept e refl no_drop (means-from_sizes cs line b operands.second) in
    let third = matrix-meant script files line 14 command x kept e refl no_drop (means-from_sizes cs line x operands.third) in
    let own : job (setting_of script files) line ≡ record (no_job line) { scalars = alpha ∷ beta ∷ []; path = path_from forwards cs line } = job-is script files line command e in
    let drops_none : (job (setting_of script files) line).drops ≡ 0 = ap (λ (j : Job). j.drops) own in
    record {
      own = record {
        makes_records = line-job script files line command e refl;
        scalars = ap (λ (j : Job). j.scalars) own;
        path = ap (λ (j : Job). j.path) own;
        no_matrix = ap (λ (j : Job). is_some j.makes) own;
        plain = ap (λ (j : Job). j.factors) own;
        drops_none = drops_none;
        dropped_same = dropped-same script files line drops_none;
        alpha_below = fit.alpha_below;
        beta_below = fit.beta_below;
      };
      first = first.0;
      second = second.0;
      sum = third.0;
      aligned = aligned_by script files (modulus_of cs) m n k alpha beta (bytes_eq x a) (bytes_eq x b) (line_of_a script line) (line_of_b script line) (line_of_c script line) (distribution_of cs line a) (distribution_of cs line b) (distribution_of cs line x)
          fit first.1 second.1 third.1;
      apart_a = apart_by cs (line_of_c script line) (line_of_a script line) x a third.0.named first.0.named fit.not_a;
      apart_b = apart_by cs (line_of_c script line) (line_of_b script line) x b third.0.named second.0.named fit.not_b;
    }
  where
    no_drop_line : (dropped : List ℕ) → c.Pgemm transa transb m n k alpha a ia ja b ib jb beta x ic jc ≡ c.Discard dropped → ⊥
    no_drop_line dropped is = cc

-- the factors of the line are words of the field
pub scalars-below : (script : List (Option Command)) (files : Matrices) (line alpha beta : ℕ) → IsProductJob script files line alpha beta → All (λ a. a < modulus_of (commands_of script)) (job (setting_of script files) line).scalars
scalars-below script files line alpha beta own =
    let p = modulus_of (commands_of script) in
    subst (λ (scalars : List ℕ). All (λ a. a < p) scalars) (sym own.scalars)
    (All-cons (λ a. a < p) alpha (beta ∷ []) own.alpha_below (All-cons (λ a. a < p) beta [] own.beta_below (All-nil (λ a. a < p))))
