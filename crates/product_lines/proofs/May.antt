-- Before a `pgemm` line, and between its groups: the phase of a group may be driven.
use Rattle.std.proofs.Common.{◌≡◌, ◌<◌, ◌==◌, ◌&&◌, ◌||◌, nat_lt, ℕ, suc, Bool, true, false, List, [], ◌∷◌, Option, Some, refl, sym, ap, subst, ◌∙◌, ⊎_elim, arith, IsTrue}
use Rattle.std.specs.Prelude.{if◌then◌else◌}
use Rattle.std.proofs.lemmas.Bool.{cases_Bool, and_from, or_left, or_right, lt-ltb, eq-eqb, le-leb, leb-true}
use Rattle.run_data.specs.declared.command.Command.{Command}
use Rattle.run_data.specs.declared.command.Command.TheVariants as c
use Rattle.run_data.specs.Script.{commands_of, command_at, modulus_of}
use Rattle.array_desc.specs.Descriptors.{IsDesc}
use Rattle.array_desc.proofs.GroupLaws.{group_of_column-lt}
use Rattle.blacs_grid.specs.declared.Grid.{Grid}
use Rattle.blacs_grid.specs.Places.{rank_at}
use Rattle.blacs_grid.proofs.PlaceLaws.{is_data_rank-rank_at}
use Rattle.rank_machine.specs.declared.mark.Mark.{Mark}
use Rattle.rank_machine.specs.declared.layout.Layout.{Layout}
use Rattle.rank_machine.specs.Setting.{Setting, layout, factored, forwards, group_count}
use Rattle.rank_machine.specs.Scripts.{Matrices, file_of, setting_of}
use Rattle.rank_machine.specs.State.{State}
use Rattle.rank_machine.specs.Effect.{has_ended, current, is_live_matrix}
use Rattle.rank_machine.specs.Legal.{is_among}
use Rattle.rank_machine.specs.Marks.{follows, has_numbers, factoring_goes_on, numbers_in}
use Rattle.serial_model.specs.Serial.{Values}
use Rattle.script_lines.specs.Layouts.{IsLayout}
use Rattle.script_lines.specs.Sound.{IsSound}
use Rattle.script_bounds.specs.Accepted.{KeepsRules}
use Rattle.run_laws.proofs.Scripts.{script_rising}
use Rattle.round_laws.specs.Paths.{path_of}
use Rattle.block_world.specs.World.{WorldView, setting_in, state_of}
use Rattle.loss_recovery.proofs.Scripted.{IsScripted-sound}
use Rattle.line_laws.proofs.NextLine.{current-next}
use Rattle.whole_run.specs.Until.{values_at}
use Rattle.whole_run.specs.Between.{StandsForMatrix, HasRun}
use Rattle.whole_run.proofs.Ending.{setting_is}
use Rattle.line_phases.proofs.NextJob.{no-line_zero}
use Rattle.line_phases.proofs.BeforeLine.{IsBefore, is-before, line-current}
use Rattle.product_laws.specs.Held.{HoldsSome}
use Rattle.product_laws.specs.Multiplying.{MayMultiplyMatrices, product_task}
use Rattle.product_lines.specs.Lines.{IsMatrixOf, IsProductLine, line_of_a, line_of_b, line_of_c, topology_of, line_product, product_mark}
use Rattle.product_lines.proofs.Ways.{way-from}
use Rattle.product_lines.proofs.ProductLine.{product-line}

-- ---- marks
-- a mark of the current line comes next, where it factors nothing
follows_plain : (s : Setting) (last : Mark) (line : ℕ) (ended : Bool) → 0 < line → current s last ≡ line → factored s line ≡ 0 → IsTrue (follows s last (product_mark line ended))
follows_plain s last line ended some is plain =
    let here : (line == current s last) ≡ true = eq-eqb line (current s last) (sym is) in
    let numbers : (ended || (factored s line == 0)) ≡ true = or_right ended (factored s line == 0) (eq-eqb (factored s line) 0 plain) in
    and_from (nat_lt 0 line && (line == current s last))
    (if ended || (factored s line == 0) then has_numbers (product_mark line ended) 0 false 0 else factoring_goes_on (layout s (factored s line)) (numbers_in last line) (product_mark line ended))
    (and_from (nat_lt 0 line) (line == current s last) (lt-ltb 0 line some) here)
    (ap (λ (b : Bool). if b then has_numbers (product_mark line ended) 0 false 0 else factoring_goes_on (layout s (factored s line)) (numbers_in last line) (product_mark line ended)) numbers)

-- inside a line, the lines before it have ended
ended_inside : (line at : ℕ) → has_ended (product_mark line false) at ≡ nat_lt at line
ended_inside line at =
    ⊎_elim
    (λ (e : (at == line) ≡ true). ap (λ (b : Bool). nat_lt at line || (b && false)) e ∙ plain (nat_lt at line))
    (λ (e : (at == line) ≡ false). ap (λ (b : Bool). nat_lt at line || (b && false)) e ∙ plain (nat_lt at line))
    (cases_Bool (at == line))
  where
    plain : (b : Bool) → (b || false) ≡ b
    plain true = refl
    plain false = refl

-- ---- what is held
pub holds-some : (s : Setting) (st : State) (at : ℕ) (name : List ℕ) (values : Values) → StandsForMatrix s st at name values → HoldsSome st (layout s at) at
holds-some s st at name values stands =
    let d : Layout = layout s at in
    record {
      matrix = stands.matrix;
      shape = stands.shape;
      groups = λ group group_in row col row_in col_in. stands.held (rank_at d.grid row col) group (record { data_rank = is_data_rank-rank_at d.grid row col row_in col_in; group_in = group_in });
    }

-- there is a first group
pub some-group : (d : Layout) → IsLayout d → 0 < group_count d
some-group d laid_out =
    let column = group_of_column-lt 0 d.desc.n d.desc.nb d.grid.q (omega (arith, laid_out.desc.some_block_columns)) (omega (arith, laid_out.grid.some_columns)) (omega (arith, laid_out.desc.some_columns)) in
    omega (arith, column)

-- ---- the factors
among_first : (alpha beta : ℕ) → is_among (alpha ∷ beta ∷ []) alpha ≡ true
among_first alpha beta = or_left (alpha == alpha) ((beta == alpha) || false) (eq-eqb alpha alpha refl)

among_second : (alpha beta : ℕ) → is_among (alpha ∷ beta ∷ []) beta ≡ true
among_second alpha beta = or_right (alpha == beta) ((beta == beta) || false) (or_left (beta == beta) false (eq-eqb beta beta refl))

-- ---- the phase of a group
module _ (script : List (Option Command)) (files : Matrices) (line m n k alpha : ℕ) (a b : List ℕ) (beta : ℕ) (x : List ℕ)
    (sound : IsSound (modulus_of (commands_of script)) (setting_of script files)) (product : IsProductLine script files line m n k alpha a b beta x) where
  -- from a state that holds the three matrices, where they are live and the line is the current one
  pub group-may : (st : State) (ended : Bool) (group : ℕ) → current (setting_of script files) st.mark ≡ line
      → is_live_matrix (setting_of script files) st.mark (line_of_a script line) ≡ true → is_live_matrix (setting_of script files) st.mark (line_of_b script line) ≡ true
      → is_live_matrix (setting_of script files) st.mark (line_of_c script line) ≡ true
      → HoldsSome st (layout (setting_of script files) (line_of_a script line)) (line_of_a script line) → HoldsSome st (layout (setting_of script files) (line_of_b script line)) (line_of_b script line)
      → HoldsSome st (layout (setting_of script files) (line_of_c script line)) (line_of_c script line) → group < group_count (layout (setting_of script files) (line_of_c script line))
      → MayMultiplyMatrices (setting_of script files) st (product_task (line_product script (setting_of script files) line alpha beta group) (product_mark line ended))
  group-may st ended group is live_a live_b live_c holds_a holds_b holds_c group_in =
      let s : Setting = setting_of script files in
      let la = line_of_a script line in
      let lb = line_of_b script line in
      let lc = line_of_c script line in
      let lies_a : layout s la ≡ record { grid = (layout s lc).grid; desc = (layout s la).desc } = ap (λ (g : Grid). record { grid = g; desc = (layout s la).desc }) product.aligned.grid_a in
      let lies_b : layout s lb ≡ record { grid = (layout s lc).grid; desc = (layout s lb).desc } = ap (λ (g : Grid). record { grid = g; desc = (layout s lb).desc }) product.aligned.grid_b in
      record {
        follows_last = follows_plain s st.mark line ended (omega (arith, product.first.before)) is product.own.plain;
        no_matrix = product.own.no_matrix;
        plain = product.own.plain;
        alpha = ap (λ (scalars : List ℕ). is_among scalars alpha) product.own.scalars ∙ among_first alpha beta;
        beta = ap (λ (scalars : List ℕ). is_among scalars beta) product.own.scalars ∙ among_second alpha beta;
        path = subst (λ path. path ≡ path_of (topology_of path)) (sym product.own.path) (way-from (commands_of script) line forwards refl);
        some_words = omega (arith, sound.large);
        some_messages = omega (arith, sound.some_messages);
        on_grid = record {
          grid = product.sum.laid_out.grid;
          a = subst (λ (g : Grid). IsDesc g.p g.q (layout s la).desc) product.aligned.grid_a product.first.laid_out.desc;
          b = subst (λ (g : Grid). IsDesc g.p g.q (layout s lb).desc) product.aligned.grid_b product.second.laid_out.desc;
          c = product.sum.laid_out.desc;
        };
        aligned = record {
          rows = product.aligned.rows;
          row_blocks = product.aligned.row_blocks;
          row_source = product.aligned.row_source;
          inner = product.aligned.inner;
          inner_blocks = product.aligned.inner_blocks;
          columns = product.aligned.columns;
          column_blocks = product.aligned.column_blocks;
          column_source = product.aligned.column_source;
        };
        of = product.sum.of_run;
        lies_a = lies_a;
        lies_b = lies_b;
        lies_c = refl;
        live_a = live_a;
        live_b = live_b;
        live_c = live_c;
        stays_c = product.sum.stays (product_mark line ended) refl;
        plain_c = product.sum.plain;
        apart_a = product.apart_a;
        apart_b = product.apart_b;
        group_in = group_in;
        holds_a = subst (λ (d : Layout). HoldsSome st d la) lies_a holds_a;
        holds_b = subst (λ (d : Layout). HoldsSome st d lb) lies_b holds_b;
        holds_c = holds_c;
        scripted = IsScripted-sound (modulus_of (commands_of script)) s sound (no-line_zero script files);
        rising = script_rising script files;
      }

  -- between two groups: under a mark of the line, which has not ended
  pub next_group-may : (st : State) (ended : Bool) (group : ℕ) → st.mark ≡ product_mark line false
      → HoldsSome st (layout (setting_of script files) (line_of_a script line)) (line_of_a script line) → HoldsSome st (layout (setting_of script files) (line_of_b script line)) (line_of_b script line)
      → HoldsSome st (layout (setting_of script files) (line_of_c script line)) (line_of_c script line) → group < group_count (layout (setting_of script files) (line_of_c script line))
      → MayMultiplyMatrices (setting_of script files) st (product_task (line_product script (setting_of script files) line alpha beta group) (product_mark line ended))
  next_group-may st ended group mark holds_a holds_b holds_c group_in =
      let s : Setting = setting_of script files in
      let on : st.mark.line ≡ line = ap (λ (m : Mark). m.line) mark in
      let now : current s st.mark ≡ line =
      ap (current s) mark ∙ current-next s.jobs 0 (product_mark line false) line (script_rising script files) product.own.makes_records (λ at own. ended_inside line at) in
      group-may st ended group now (product.first.stays st.mark on) (product.second.stays st.mark on) (product.sum.stays st.mark on) holds_a holds_b holds_c group_in

-- ---- before the line
module _ (script : List (Option Command)) (files : Matrices) (line m n k alpha : ℕ) (a b : List ℕ) (beta : ℕ) (x : List ℕ)
    (sound : IsSound (modulus_of (commands_of script)) (setting_of script files)) (product : IsProductLine script files (suc line) m n k alpha a b beta x) (st : State) (at_line : IsBefore script files line st) where
  -- each of its matrices is live, and stands for what its name means
  live_before : (name : List ℕ) (at : ℕ) → IsMatrixOf script files (suc line) name at → is_live_matrix (setting_of script files) st.mark at ≡ true
  live_before name at matrix =
      matrix.live st.mark (at_line.done at matrix.makes_records ∙ le-leb at line (omega (arith, matrix.before)))
      (λ other job over. let le = leb-true other line (sym (at_line.done other job) ∙ over) in omega (arith, le))

  pub stands-before : (name : List ℕ) (at : ℕ) → IsMatrixOf script files (suc line) name at → StandsForMatrix (setting_of script files) st at name (values_at (file_of files) (commands_of script) line)
  stands-before name at matrix = at_line.stands.matrices at name (live_before name at matrix) matrix.named

  holds_before : (name : List ℕ) (at : ℕ) → IsMatrixOf script files (suc line) name at → HoldsSome st (layout (setting_of script files) at) at
  holds_before name at matrix = holds-some (setting_of script files) st at name (values_at (file_of files) (commands_of script) line) (stands-before name at matrix)

  pub before-may : (ended : Bool) (group : ℕ) → group < group_count (layout (setting_of script files) (line_of_c script (suc line)))
      → MayMultiplyMatrices (setting_of script files) st (product_task (line_product script (setting_of script files) (suc line) alpha beta group) (product_mark (suc line) ended))
  before-may ended group group_in =
      let la = line_of_a script (suc line) in
      let lb = line_of_b script (suc line) in
      let lc = line_of_c script (suc line) in
      group-may script files (suc line) m n k alpha a b beta x sound product st ended group (line-current script files line st at_line product.own.makes_records)
      (live_before a la product.first) (live_before b lb product.second) (live_before x lc product.sum) (holds_before a la product.first) (holds_before b lb product.second) (holds_before x lc product.sum) group_in

-- where a `pgemm` line comes next, the phase of a group of its product may be driven
pub product-may : (script : List (Option Command)) (files : Matrices) (line : ℕ) (w : WorldView) (out : List ℕ) (transa transb : List ℕ) (m n k alpha : ℕ) (a : List ℕ) (ia ja : ℕ) (b : List ℕ) (ib jb beta : ℕ) (x : List ℕ) (ic jc : ℕ)
    → HasRun script files line w out → KeepsRules script → IsSound (modulus_of (commands_of script)) (setting_of script files)
    → command_at (commands_of script) (suc line) ≡ Some (c.Pgemm transa transb m n k alpha a ia ja b ib jb beta x ic jc) → (ended : Bool) (group : ℕ) → group < group_count (layout (setting_in w) (line_of_c script (suc line)))
    → MayMultiplyMatrices (setting_in w) (state_of w) (product_task (line_product script (setting_in w) (suc line) alpha beta group) (product_mark (suc line) ended))
product-may script files line w out transa transb m n k alpha a ia ja b ib jb beta x ic jc h kept sound e ended group group_in =
    let same : setting_in w ≡ setting_of script files = setting_is w script files h.script_is h.files_are in
    let product : IsProductLine script files (suc line) m n k alpha a b beta x = product-line script files (suc line) transa transb m n k alpha a ia ja b ib jb beta x ic jc kept e in
    subst (λ (s : Setting). MayMultiplyMatrices s (state_of w) (product_task (line_product script s (suc line) alpha beta group) (product_mark (suc line) ended))) (sym same)
    (before-may script files line m n k alpha a b beta x sound product (state_of w) (is-before script files line w out h) ended group
    (subst (λ (s : Setting). group < group_count (layout s (line_of_c script (suc line)))) same group_in))
