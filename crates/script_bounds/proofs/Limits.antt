-- What holds of the lines of a script that keeps the rules.
use Rattle.std.proofs.Common.{◌≡◌, ℕ, zero, suc, ◌+◌, ◌-◌, ◌*◌, ◌==◌, ◌<◌, ◌≤◌, Bool, true, false, cond, leb, List, [], ◌∷◌, ◌++◌, length, get_or, take, Option, Some, None, refl, sym, ap, subst, ◌∙◌, arith}
use Rattle.std.specs.Prelude.{if◌then◌else◌, is_none, slice_get, ◌&&◌, ◌||◌}
use Rattle.std.specs.Str.{IsUtf8}
use Rattle.std.proofs.lemmas.Bool.{ltb-true, leb-true, false≢true}
use Rattle.std.proofs.lemmas.Option.{same_Some, slice_get_within, slice_get-get_or}
use Rattle.std.proofs.lemmas.Grind.{common_steps}
use Rattle.std.proofs.Math.Seq.{take-suc}
use Rattle.script_words.specs.Names.{is_name as is_new_name}
use Rattle.std.proofs.lemmas.Str.{IsUtf8-from_is_utf8}
use Rattle.array_desc.specs.Descriptors.{is_between_one_and, desc_of, IsDesc}
use Rattle.blacs_grid.specs.Limits.{process_limit, code_column_limit, rank_limit, IsGrid}
use Rattle.run_data.specs.declared.command.Command.{Command}
use Rattle.run_data.specs.declared.command.Command.TheVariants.{Grid, Matrix, Print, Discard, Pgetrf, Links, Lose}
use Rattle.run_data.specs.Script.{Numbered, commands_of, command_at, maker, is_grid_line, grids_before, operand_number, meant, name_in, operand}
use Rattle.run_data.proofs.Lines.{said, command_at-before, command_at-commands_from}
use Rattle.script_words.specs.declared.kinds.Kind.TheVariants.{NewName, GridName, MatrixName, ThingName, FileName}
use Rattle.script_rules.specs.declared.distributions.Distribution.{Distribution}
use Rattle.script_rules.specs.Rules.{live_matrices, matrix_lines, command_on, maker_command, is_matrix_line, is_list_line, process_rows, process_columns, distribution_on, distribution_made, distribution_of, ranks_of, ranks_made, word_rules, grid_rules, matrix_rules, link_lines, links_rules, lose_rules, rules}
use Rattle.script_words.specs.Tables.{first_code}
use Rattle.script_words.specs.Limits.{capacity_limit}
use Rattle.script_rules.specs.Told.{told_of_script}
use Rattle.script_bounds.specs.Steps.{IsInRange}
use Rattle.script_rules.specs.Runs.{can_run, first_unrunnable}
use Rattle.script_bounds.specs.Accepted.{named_words, count_rules, names_code, broken_by, KeepsRules}
use Rattle.script_rules.proofs.Counting.{total-append, commands_of-none, commands_of-some}
use Rattle.script_words.proofs.Tables.{or_none, all_kept}
use Rattle.script_rules.proofs.Before.{length-take_le, maker-take, maker_command-take}

-- ---- the command on a line

said_some : (o : Option (Option Command)) (c : Command) → said o ≡ Some c → o ≡ Some (Some c)
said_some None c e = absurd cc
said_some (Some x) c e = ap (λ y. Some y) e

-- a command on a line of a script that keeps the rules
pub record OnLine (script : List (Option Command)) (line : ℕ) (c : Command) : Type 0 where
  pub place : ℕ
  pub number : line ≡ suc place
  pub inside : place < length script
  pub said : slice_get script place ≡ Some (Some c)

pub OnLine-from_command_at : (script : List (Option Command)) (line : ℕ) (c : Command) → command_at (commands_of script) line ≡ Some c → OnLine script line c
OnLine-from_command_at script zero c e = absurd (none_some (sym (command_at-before 1 script 0 (omega arith)) ∙ e))
  where
    none_some : None ≡ Some c → ⊥
    none_some e = cc
OnLine-from_command_at script (suc place) c e =
    let k : suc place - 1 ≡ place = omega arith in
    let there = said_some (slice_get script place) c (sym (command_at-commands_from 1 script (suc place) (omega arith) ∙ ap (λ n. said (slice_get script n)) k) ∙ e) in
    record { place = place; number = refl; inside = slice_get_within script place (Some c) there; said = there }

pub command_at-from_OnLine : (script : List (Option Command)) (place : ℕ) (c : Command) → slice_get script place ≡ Some (Some c) → command_at (commands_of script) (suc place) ≡ Some c
command_at-from_OnLine script place c e =
    let k : suc place - 1 ≡ place = omega arith in
    command_at-commands_from 1 script (suc place) (omega arith) ∙ ap (λ n. said (slice_get script n)) k ∙ ap said e

-- what a command that breaks no rule keeps
pub record Kept (script : List (Option Command)) (place : ℕ) (c : Command) : Type 0 where
  pub count : first_code (count_rules c) ≡ None
  pub names : names_code (commands_of (take place script)) (suc place) (named_words c) ≡ None
  pub own : first_code (rules (told_of_script (commands_of script)) (commands_of (take place script)) (suc place) c) ≡ None

pub kept_on : (script : List (Option Command)) (place : ℕ) (c : Command) → KeepsRules script → slice_get script place ≡ Some (Some c) → Kept script place c
unfolding broken_by
kept_on script place c h e =
    let told = told_of_script (commands_of script) in
    let front = take place script in
    let size : length front ≡ place = length-take_le script place (omega (arith, slice_get_within script place (Some c) e)) in
    let one = or_none (first_code (count_rules c)) _ (h.kept place c e) in
    let two = or_none (names_code (commands_of front) (suc (length front)) (named_words c)) _ one.1 in
    record {
      count = one.0;
      names = subst (λ n. names_code (commands_of front) (suc n) (named_words c) ≡ None) size two.0;
      own = subst (λ n. first_code (rules told (commands_of front) (suc n) c) ≡ None) size two.1;
    }

-- ---- grids

pub and_parts : (a b : Bool) → (a && b) ≡ true → (a ≡ true) × (b ≡ true)
and_parts true b e = (refl, e)
and_parts false b e = absurd cc

-- the limits of a grid
pub record HasLimits (p q f : ℕ) : Type 0 where
  pub some_rows : 1 ≤ p
  pub rows : p ≤ process_limit
  pub some_columns : 1 ≤ q
  pub columns : q ≤ process_limit
  pub code_columns : f ≤ code_column_limit

between : (limit n : ℕ) → is_between_one_and limit n ≡ true → (1 ≤ n) × (n ≤ limit)
between limit n e = let t = and_parts (leb 1 n) (leb n limit) e in (leb-true 1 n t.0, leb-true n limit t.1)

grid_limits : (ranks p q f : ℕ) → first_code (grid_rules ranks p q f) ≡ None → HasLimits p q f × (ranks + p * (q + f) ≤ rank_limit)
grid_limits ranks p q f e =
    let kept = all_kept (grid_rules ranks p q f) e in
    let shape = and_parts (is_between_one_and process_limit p && is_between_one_and process_limit q) (leb f code_column_limit) kept.0 in
    let sides = and_parts (is_between_one_and process_limit p) (is_between_one_and process_limit q) shape.0 in
    let rows = between process_limit p sides.0 in
    let columns = between process_limit q sides.1 in
    (record { some_rows = rows.0; rows = rows.1; some_columns = columns.0; columns = columns.1; code_columns = leb-true f code_column_limit shape.1 }, leb-true (ranks + p * (q + f)) rank_limit kept.1.0)

pub limits_of_grid : (script : List (Option Command)) (line : ℕ) (name : List ℕ) (p q f : ℕ) → KeepsRules script → command_at (commands_of script) line ≡ Some (Grid name p q f) → HasLimits p q f
limits_of_grid script line name p q f h e =
    let on = OnLine-from_command_at script line (Grid name p q f) e in
    (grid_limits (ranks_of (commands_of (take on.place script))) p q f (kept_on script on.place (Grid name p q f) h on.said).own).0

-- a link holds 1 to 64 messages
pub links_kept : (script : List (Option Command)) (line n : ℕ) → KeepsRules script → command_at (commands_of script) line ≡ Some (Links n) → (1 ≤ n) × (n ≤ capacity_limit)
links_kept script line n h e =
    let on = OnLine-from_command_at script line (Links n) e in
    between capacity_limit n (all_kept (links_rules (link_lines (commands_of (take on.place script))) n) (kept_on script on.place (Links n) h on.said).own).0

-- a rank that is lost is one of the script's grids
pub lose_kept : (script : List (Option Command)) (line at rank : ℕ) → KeepsRules script → command_at (commands_of script) line ≡ Some (Lose at rank) → rank < ranks_of (commands_of script)
lose_kept script line at rank h e =
    let on = OnLine-from_command_at script line (Lose at rank) e in
    ltb-true rank (ranks_of (commands_of script)) (all_kept (lose_rules (ranks_of (commands_of script)) rank) (kept_on script on.place (Lose at rank) h on.said).own).0

-- the command that a name means stands on a line
made_on : (cs : List Numbered) (line : ℕ) (name : List ℕ) (c : Command) → maker_command cs line name ≡ Some c → (at : ℕ) × (command_at cs at ≡ Some c)
made_on cs line name c e = by_maker (maker cs line name) e
  where
    by_maker : (o : Option ℕ) → command_on cs o ≡ Some c → (at : ℕ) × (command_at cs at ≡ Some c)
    by_maker None e = absurd cc
    by_maker (Some at) e = (at, e)

pub limits_of_maker : (script : List (Option Command)) (line : ℕ) (grid name : List ℕ) (p q f : ℕ) → KeepsRules script → maker_command (commands_of script) line grid ≡ Some (Grid name p q f) → HasLimits p q f
limits_of_maker script line grid name p q f h e =
    let on = made_on (commands_of script) line grid (Grid name p q f) e in
    limits_of_grid script on.0 name p q f h on.1

-- a grid of a script is within the limits; its ranks begin with the ranks of the grids before
pub IsGrid-from_KeepsRules : (script : List (Option Command)) (line : ℕ) (name : List ℕ) (p q f : ℕ) → KeepsRules script → command_at (commands_of script) line ≡ Some (Grid name p q f) →
    IsGrid (record { p = p; q = q; f = f; first = ranks_of (commands_of (take (line - 1) script)) })
IsGrid-from_KeepsRules script line name p q f h e =
    let on = OnLine-from_command_at script line (Grid name p q f) e in
    let ranks = ranks_of (commands_of (take on.place script)) in
    let both = grid_limits ranks p q f (kept_on script on.place (Grid name p q f) h on.said).own in
    let here : on.place ≡ line - 1 = omega (arith, on.number) in
    record {
      some_rows = both.0.some_rows;
      rows = both.0.rows;
      some_columns = both.0.some_columns;
      columns = both.0.columns;
      code_columns = both.0.code_columns;
      ranks = subst (λ k. ranks_of (commands_of (take k script)) + p * (q + f) ≤ rank_limit) here both.1;
    }

-- ---- matrices

-- what a name means on a line is a grid
pub record MeansGrid (cs : List Numbered) (line : ℕ) (name : List ℕ) : Type 0 where
  pub at : ℕ
  pub maker_is : maker cs line name ≡ Some at
  pub made : List ℕ
  pub p : ℕ
  pub q : ℕ
  pub f : ℕ
  pub grid : command_at cs at ≡ Some (Grid made p q f)

MeansGrid-from_test : (cs : List Numbered) (line : ℕ) (name : List ℕ) → is_grid_line (maker_command cs line name) ≡ true → MeansGrid cs line name
MeansGrid-from_test cs line name t = by_maker (maker cs line name) refl t
  where
    by_command : (at : ℕ) (o : Option Command) → maker cs line name ≡ Some at → command_at cs at ≡ o → is_grid_line o ≡ true → MeansGrid cs line name
    by_command at (Some (Grid made p q f)) m e t = record { at = at; maker_is = m; made = made; p = p; q = q; f = f; grid = e }
    by_command at o m e t = absurd cc

    by_maker : (o : Option ℕ) → maker cs line name ≡ o → is_grid_line (command_on cs o) ≡ true → MeansGrid cs line name
    by_maker None e t = absurd cc
    by_maker (Some at) e t = by_command at (command_at cs at) e refl t

-- what a name means on a line is a matrix
pub record MeansMatrix (cs : List Numbered) (line : ℕ) (name : List ℕ) : Type 0 where
  pub at : ℕ
  pub maker_is : maker cs line name ≡ Some at
  pub made : List ℕ
  pub grid : List ℕ
  pub m : ℕ
  pub n : ℕ
  pub mb : ℕ
  pub nb : ℕ
  pub rsrc : ℕ
  pub csrc : ℕ
  pub file : List ℕ
  pub matrix : command_at cs at ≡ Some (Matrix made grid m n mb nb rsrc csrc file)

MeansMatrix-from_test : (cs : List Numbered) (line : ℕ) (name : List ℕ) → is_matrix_line (maker_command cs line name) ≡ true → MeansMatrix cs line name
MeansMatrix-from_test cs line name t = by_maker (maker cs line name) refl t
  where
    by_command : (at : ℕ) (o : Option Command) → maker cs line name ≡ Some at → command_at cs at ≡ o → is_matrix_line o ≡ true → MeansMatrix cs line name
    by_command at (Some (Matrix made grid m n mb nb rsrc csrc file)) w e t =
        record { at = at; maker_is = w; made = made; grid = grid; m = m; n = n; mb = mb; nb = nb; rsrc = rsrc; csrc = csrc; file = file; matrix = e }
    by_command at o w e t = absurd cc

    by_maker : (o : Option ℕ) → maker cs line name ≡ o → is_matrix_line (command_on cs o) ≡ true → MeansMatrix cs line name
    by_maker None e t = absurd cc
    by_maker (Some at) e t = by_command at (command_at cs at) e refl t

-- a `matrix` line of a script that keeps the rules
pub record MatrixKept (cs : List Numbered) (line : ℕ) (grid : List ℕ) (m n mb nb rsrc csrc : ℕ) (file : List ℕ) : Type 0 where
  pub on : MeansGrid cs line grid
  pub limits : HasLimits on.p on.q on.f
  pub in_range : (ctxt : ℕ) → IsDesc on.p on.q (desc_of ctxt on.p on.q m n mb nb rsrc csrc)
  pub operand_is : operand cs line 2 ≡ Some (grids_before cs on.at)
  pub text : IsUtf8 file

entries_in_range : (p q live lines m n mb nb rsrc csrc : ℕ) → first_code (matrix_rules live lines p q m n mb nb rsrc csrc) ≡ None → (ctxt : ℕ) → IsDesc p q (desc_of ctxt p q m n mb nb rsrc csrc)
entries_in_range p q live lines m n mb nb rsrc csrc e ctxt =
    let kept = all_kept (matrix_rules live lines p q m n mb nb rsrc csrc) e in
    let rows = between 1024 m kept.0 in
    let columns = between 1024 n kept.1.0 in
    let block_rows = between 128 mb kept.1.1.0 in
    let block_columns = between 128 nb kept.1.1.1.0 in
    record {
      dense = refl;
      some_rows = rows.0;
      rows = rows.1;
      some_columns = columns.0;
      columns = columns.1;
      some_block_rows = block_rows.0;
      block_rows = block_rows.1;
      some_block_columns = block_columns.0;
      block_columns = block_columns.1;
      row_source = ltb-true rsrc p kept.1.1.1.1.0;
      column_source = ltb-true csrc q kept.1.1.1.1.1.0;
      local_rows = refl;
    }

operand_of : (cs : List Numbered) (line word : ℕ) (c : Command) (name : List ℕ) (at : ℕ) → command_at cs line ≡ Some c → name_in (Some c) word ≡ Some name → maker cs line name ≡ Some at → operand cs line word ≡ operand_number cs (Some at)
operand_of cs line word c name at e w m = ap (λ o. meant cs line (name_in o word)) e ∙ ap (meant cs line) w ∙ ap (operand_number cs) m

pub matrix_kept : (script : List (Option Command)) (line : ℕ) (name grid : List ℕ) (m n mb nb rsrc csrc : ℕ) (file : List ℕ) → KeepsRules script →
    command_at (commands_of script) line ≡ Some (Matrix name grid m n mb nb rsrc csrc file) → MatrixKept (commands_of script) line grid m n mb nb rsrc csrc file
matrix_kept script line name grid m n mb nb rsrc csrc file h e =
    let c = Matrix name grid m n mb nb rsrc csrc file in
    let cs = commands_of script in
    let on = OnLine-from_command_at script line c e in
    let front = commands_of (take on.place script) in
    let le : on.place ≤ length script = omega (arith, on.inside) in
    let kept = kept_on script on.place c h on.said in
    let after_name = or_none (first_code (word_rules front (suc on.place) NewName name)) _ kept.names in
    let after_grid = or_none (first_code (word_rules front (suc on.place) GridName grid)) _ after_name.1 in
    let after_file = or_none (first_code (word_rules front (suc on.place) FileName file)) None after_grid.1 in
    let there : is_grid_line (maker_command front (suc on.place) grid) ≡ true = (all_kept (word_rules front (suc on.place) GridName grid) after_grid.0).0 in
    let same = maker_command-take script on.place grid le in
    let means = MeansGrid-from_test cs (suc on.place) grid (ap is_grid_line (sym same) ∙ there) in
    let is : maker_command front (suc on.place) grid ≡ Some (Grid means.made means.p means.q means.f) = same ∙ ap (command_on cs) means.maker_is ∙ means.grid in
    let own = subst (λ o. first_code (matrix_rules (live_matrices front) (matrix_lines front) (process_rows o) (process_columns o) m n mb nb rsrc csrc) ≡ None) is kept.own in
    let number : Some (if is_grid_line (command_at cs means.at) then grids_before cs means.at else means.at) ≡ Some (grids_before cs means.at) =
    ap (λ o. Some (if is_grid_line o then grids_before cs means.at else means.at)) means.grid in
    let at_place : command_at cs (suc on.place) ≡ Some c = command_at-from_OnLine script on.place c on.said in
    let whole : MatrixKept cs (suc on.place) grid m n mb nb rsrc csrc file = record {
      on = means;
      limits = limits_of_grid script means.at means.made means.p means.q means.f h means.grid;
      in_range = entries_in_range means.p means.q (live_matrices front) (matrix_lines front) m n mb nb rsrc csrc own;
      operand_is = operand_of cs (suc on.place) 2 c grid means.at at_place refl means.maker_is ∙ number;
      text = IsUtf8-from_is_utf8 file (all_kept (word_rules front (suc on.place) FileName file) after_file.0).0;
    } in
    subst (λ l. MatrixKept cs l grid m n mb nb rsrc csrc file) (sym on.number) whole

-- ---- lines that name a matrix

-- a `print` or `drop` line of a script that keeps the rules
pub record NameKept (cs : List Numbered) (line : ℕ) (name : List ℕ) : Type 0 where
  pub means : MeansMatrix cs line name
  pub operand_is : operand cs line 1 ≡ Some means.at

name_kept : (script : List (Option Command)) (place : ℕ) (c : Command) (name : List ℕ) → place ≤ length script → command_at (commands_of script) (suc place) ≡ Some c → name_in (Some c) 1 ≡ Some name →
    is_matrix_line (maker_command (commands_of script) (suc place) name) ≡ true → NameKept (commands_of script) (suc place) name
name_kept script place c name le e w t =
    let cs = commands_of script in
    let means = MeansMatrix-from_test cs (suc place) name t in
    let number : Some (if is_grid_line (command_at cs means.at) then grids_before cs means.at else means.at) ≡ Some means.at =
    ap (λ o. Some (if is_grid_line o then grids_before cs means.at else means.at)) means.matrix in
    record { means = means; operand_is = operand_of cs (suc place) 1 c name means.at e w means.maker_is ∙ number }

pub print_kept : (script : List (Option Command)) (line : ℕ) (name : List ℕ) → KeepsRules script → command_at (commands_of script) line ≡ Some (Print name) → NameKept (commands_of script) line name
print_kept script line name h e =
    let on = OnLine-from_command_at script line (Print name) e in
    let front = commands_of (take on.place script) in
    let le : on.place ≤ length script = omega (arith, on.inside) in
    let kept = kept_on script on.place (Print name) h on.said in
    let named = or_none (first_code (word_rules front (suc on.place) MatrixName name)) None kept.names in
    let there : is_matrix_line (maker_command front (suc on.place) name) ≡ true = (all_kept (word_rules front (suc on.place) MatrixName name) named.0).0 in
    subst (λ l. NameKept (commands_of script) l name) (sym on.number)
    (name_kept script on.place (Print name) name le (command_at-from_OnLine script on.place (Print name) on.said) refl (ap is_matrix_line (sym (maker_command-take script on.place name le)) ∙ there))

-- ---- the commands that the ranks can run

runs_by : (n : Numbered) (c : Command) (rest : Option Command) (later : Option ℕ) → (later ≡ None → rest ≡ Some c → can_run c ≡ true) →
    (runs : Bool) → can_run n.command ≡ runs → cond runs later (Some n.line) ≡ None → (here : Bool) → cond here (Some n.command) rest ≡ Some c → can_run c ≡ true
runs_by n c rest later more true r f true e = ap can_run (sym (same_Some n.command c e)) ∙ r
runs_by n c rest later more true r f false e = more f e
runs_by n c rest later more false r f here e = absurd cc

run_from : (ns : List Numbered) (line : ℕ) (c : Command) → first_unrunnable ns ≡ None → command_at ns line ≡ Some c → can_run c ≡ true
run_from [] line c f e = absurd cc
run_from (n ∷ ns) line c f e = runs_by n c (command_at ns line) (first_unrunnable ns) (run_from ns line c) (can_run n.command) refl f (n.line == line) e

-- each command of a script that the ranks can run is one that they can run
pub run_kept : (script : List (Option Command)) (line : ℕ) (c : Command) → first_unrunnable (commands_of script) ≡ None → command_at (commands_of script) line ≡ Some c → can_run c ≡ true
run_kept script line c f e = run_from (commands_of script) line c f e

-- what a drop names is a matrix or a pivot list
pub thing_kept : (script : List (Option Command)) (line : ℕ) (name : List ℕ) → KeepsRules script → command_at (commands_of script) line ≡ Some (Discard name) →
    (is_matrix_line (maker_command (commands_of script) line name) || is_list_line (maker_command (commands_of script) line name)) ≡ true
thing_kept script line name h e =
    let on = OnLine-from_command_at script line (Discard name) e in
    let cs = commands_of script in
    let front = commands_of (take on.place script) in
    let le : on.place ≤ length script = omega (arith, on.inside) in
    let kept = kept_on script on.place (Discard name) h on.said in
    let named = or_none (first_code (word_rules front (suc on.place) ThingName name)) None kept.names in
    let there : (is_matrix_line (maker_command front (suc on.place) name) || is_list_line (maker_command front (suc on.place) name)) ≡ true = (all_kept (word_rules front (suc on.place) ThingName name) named.0).0 in
    subst (λ l. (is_matrix_line (maker_command cs l name) || is_list_line (maker_command cs l name)) ≡ true) (sym on.number)
    (ap (λ o. is_matrix_line o || is_list_line o) (sym (maker_command-take script on.place name le)) ∙ there)

-- so it means something
pub discard_kept : (script : List (Option Command)) (line : ℕ) (name : List ℕ) → KeepsRules script → command_at (commands_of script) line ≡ Some (Discard name) → (at : ℕ) × (maker (commands_of script) line name ≡ Some at)
discard_kept script line name h e = by_maker (maker (commands_of script) line name) refl (thing_kept script line name h e)
  where
    by_maker : (o : Option ℕ) → maker (commands_of script) line name ≡ o → (is_matrix_line (command_on (commands_of script) o) || is_list_line (command_on (commands_of script) o)) ≡ true → (at : ℕ) × (maker (commands_of script) line name ≡ Some at)
    by_maker None m t = absurd cc
    by_maker (Some at) m t = (at, m)

-- ---- new names

-- a name that a line makes is a name, and means nothing as seen from that line
pub record NameIsNew (cs : List Numbered) (line : ℕ) (name : List ℕ) : Type 0 where
  pub form : is_new_name name ≡ true
  pub free : maker cs line name ≡ None

none_of : (o : Option ℕ) → is_none o ≡ true → o ≡ None
none_of None t = refl
none_of (Some x) t = absurd (false≢true t)

new_kept : (script : List (Option Command)) (place : ℕ) (name : List ℕ) → place ≤ length script → first_code (word_rules (commands_of (take place script)) (suc place) NewName name) ≡ None →
    NameIsNew (commands_of script) (suc place) name
new_kept script place name le e =
    let front = commands_of (take place script) in
    let kept = all_kept (word_rules front (suc place) NewName name) e in
    record { form = kept.0; free = sym (maker-take script place name le) ∙ none_of (maker front (suc place) name) kept.1.0 }

pub grid_name_kept : (script : List (Option Command)) (line : ℕ) (name : List ℕ) (p q f : ℕ) → KeepsRules script → command_at (commands_of script) line ≡ Some (Grid name p q f) → NameIsNew (commands_of script) line name
grid_name_kept script line name p q f h e =
    let on = OnLine-from_command_at script line (Grid name p q f) e in
    let le : on.place ≤ length script = omega (arith, on.inside) in
    let kept = kept_on script on.place (Grid name p q f) h on.said in
    let named = or_none (first_code (word_rules (commands_of (take on.place script)) (suc on.place) NewName name)) None kept.names in
    subst (λ l. NameIsNew (commands_of script) l name) (sym on.number) (new_kept script on.place name le named.0)

pub matrix_name_kept : (script : List (Option Command)) (line : ℕ) (name grid : List ℕ) (m n mb nb rsrc csrc : ℕ) (file : List ℕ) → KeepsRules script →
    command_at (commands_of script) line ≡ Some (Matrix name grid m n mb nb rsrc csrc file) → NameIsNew (commands_of script) line name
matrix_name_kept script line name grid m n mb nb rsrc csrc file h e =
    let c = Matrix name grid m n mb nb rsrc csrc file in
    let on = OnLine-from_command_at script line c e in
    let le : on.place ≤ length script = omega (arith, on.inside) in
    let kept = kept_on script on.place c h on.said in
    let named = or_none (first_code (word_rules (commands_of (take on.place script)) (suc on.place) NewName name)) _ kept.names in
    subst (λ l. NameIsNew (commands_of script) l name) (sym on.number) (new_kept script on.place name le named.0)

pub list_name_kept : (script : List (Option Command)) (line m n : ℕ) (a : List ℕ) (ia ja : ℕ) (v : List ℕ) → KeepsRules script → command_at (commands_of script) line ≡ Some (Pgetrf m n a ia ja v) → NameIsNew (commands_of script) line v
list_name_kept script line m n a ia ja v h e =
    let c = Pgetrf m n a ia ja v in
    let on = OnLine-from_command_at script line c e in
    let le : on.place ≤ length script = omega (arith, on.inside) in
    let front = commands_of (take on.place script) in
    let kept = kept_on script on.place c h on.said in
    let after_a = or_none (first_code (word_rules front (suc on.place) MatrixName a)) _ kept.names in
    let named = or_none (first_code (word_rules front (suc on.place) NewName v)) None after_a.1 in
    subst (λ l. NameIsNew (commands_of script) l v) (sym on.number) (new_kept script on.place v le named.0)

-- ---- the matrices that names mean

-- a matrix in range
pub record HasSizes (a : Distribution) : Type 0 where
  pub in_range : IsInRange a
  pub some_rows : 1 ≤ a.m
  pub rows : a.m ≤ 1024
  pub some_columns : 1 ≤ a.n
  pub block_rows : a.mb ≤ 128
  pub row_source : a.rsrc < a.p
  pub column_source : a.csrc < a.q

sizes_of : (p q f grid m n mb nb rsrc csrc : ℕ) → HasLimits p q f → IsDesc p q (desc_of 0 p q m n mb nb rsrc csrc) →
    HasSizes (record { grid = grid; p = p; q = q; f = f; m = m; n = n; mb = mb; nb = nb; rsrc = rsrc; csrc = csrc })
sizes_of p q f grid m n mb nb rsrc csrc limits d = record {
  in_range = record {
    rows = limits.rows;
    some_columns = limits.some_columns;
    columns = limits.columns;
    code_columns = limits.code_columns;
    size = d.columns;
    some_block_rows = d.some_block_rows;
    some_block_columns = d.some_block_columns;
    block_columns = d.block_columns;
  };
  some_rows = d.some_rows;
  rows = d.rows;
  some_columns = d.some_columns;
  block_rows = d.block_rows;
  row_source = d.row_source;
  column_source = d.column_source;
}

-- the matrix that a `matrix` line makes
pub sizes_of_line : (script : List (Option Command)) (line : ℕ) (name grid : List ℕ) (m n mb nb rsrc csrc : ℕ) (file : List ℕ) → KeepsRules script →
    command_at (commands_of script) line ≡ Some (Matrix name grid m n mb nb rsrc csrc file) →
    HasSizes (distribution_on (maker (commands_of script) line grid) (maker_command (commands_of script) line grid) m n mb nb rsrc csrc)
sizes_of_line script line name grid m n mb nb rsrc csrc file h e =
    let cs = commands_of script in
    let kept = matrix_kept script line name grid m n mb nb rsrc csrc file h e in
    let on = kept.on in
    let is : distribution_on (maker cs line grid) (maker_command cs line grid) m n mb nb rsrc csrc ≡ record { grid = on.at; p = on.p; q = on.q; f = on.f; m = m; n = n; mb = mb; nb = nb; rsrc = rsrc; csrc = csrc } =
    ap (λ o. distribution_on o (command_on cs o) m n mb nb rsrc csrc) on.maker_is ∙ ap (λ o. distribution_on (Some on.at) o m n mb nb rsrc csrc) on.grid in
    subst HasSizes (sym is) (sizes_of on.p on.q on.f on.at m n mb nb rsrc csrc kept.limits (kept.in_range 0))

-- the matrix that a name means
pub sizes_of_name : (script : List (Option Command)) (line : ℕ) (name : List ℕ) → KeepsRules script → is_matrix_line (maker_command (commands_of script) line name) ≡ true → HasSizes (distribution_of (commands_of script) line name)
sizes_of_name script line name h t =
    let cs = commands_of script in
    let means = MeansMatrix-from_test cs line name t in
    let is : distribution_of cs line name ≡ distribution_on (maker cs means.at means.grid) (maker_command cs means.at means.grid) means.m means.n means.mb means.nb means.rsrc means.csrc =
    ap (λ o. distribution_made cs o (command_on cs o)) means.maker_is ∙ ap (distribution_made cs (Some means.at)) means.matrix in
    subst HasSizes (sym is) (sizes_of_line script means.at means.made means.grid means.m means.n means.mb means.nb means.rsrc means.csrc means.file h means.matrix)

-- what the steps of a line need of a matrix
pub distribution_in_range : (script : List (Option Command)) (line : ℕ) (name : List ℕ) → KeepsRules script → is_matrix_line (maker_command (commands_of script) line name) ≡ true → IsInRange (distribution_of (commands_of script) line name)
distribution_in_range script line name h t = (sizes_of_name script line name h t).in_range

pub line_in_range : (script : List (Option Command)) (line : ℕ) (name grid : List ℕ) (m n mb nb rsrc csrc : ℕ) (file : List ℕ) → KeepsRules script →
    command_at (commands_of script) line ≡ Some (Matrix name grid m n mb nb rsrc csrc file) →
    IsInRange (distribution_on (maker (commands_of script) line grid) (maker_command (commands_of script) line grid) m n mb nb rsrc csrc)
line_in_range script line name grid m n mb nb rsrc csrc file h e = (sizes_of_line script line name grid m n mb nb rsrc csrc file h e).in_range

-- ---- all ranks

ranks_more : (script : List (Option Command)) (place : ℕ) (o : Option Command) → KeepsRules script → place < length script → slice_get script place ≡ Some o →
    ranks_of (commands_of (take place script)) ≤ rank_limit → ranks_of (commands_of (take place script ++ o ∷ [])) ≤ rank_limit
ranks_more script place None h lt e le = subst (λ ns. ranks_of ns ≤ rank_limit) (sym (commands_of-none (take place script))) le
ranks_more script place (Some c) h lt e le =
    let front = commands_of (take place script) in
    let size : length (take place script) ≡ place = length-take_le script place (omega arith) in
    let more = total-append (λ before n. ranks_made n.command) front (record { line = suc place; command = c }) in
    let few : ranks_of front + ranks_made c ≤ rank_limit = by_command c (kept_on script place c h e).own in
    subst (λ ns. ranks_of ns ≤ rank_limit) (sym (commands_of-some (take place script) (suc place) c (omega (arith, size)))) (omega (arith, more, few))
  where
    by_command : (c : Command) → first_code (rules (told_of_script (commands_of script)) (commands_of (take place script)) (suc place) c) ≡ None → ranks_of (commands_of (take place script)) + ranks_made c ≤ rank_limit
    by_command (Grid name p q f) own = (grid_limits (ranks_of (commands_of (take place script))) p q f own).1
    by_command c own = omega (arith, le)

ranks_to : (script : List (Option Command)) → KeepsRules script → (place : ℕ) → place ≤ length script → ranks_of (commands_of (take place script)) ≤ rank_limit
ranks_to script h zero le = omega arith
ranks_to script h (suc place) le =
    let lt : place < length script = omega arith in
    let there = slice_get-get_or script place None lt in
    subst (λ s. ranks_of (commands_of s) ≤ rank_limit) (sym (take-suc script place None lt)) (ranks_more script place (get_or script place None) h lt there (ranks_to script h place (omega arith)))

-- the ranks of all grids are few
pub ranks_few : (script : List (Option Command)) → KeepsRules script → ranks_of (commands_of script) ≤ rank_limit
ranks_few script h = subst (λ s. ranks_of (commands_of s) ≤ rank_limit) (take_whole-of script (length script) refl) (ranks_to script h (length script) (omega arith))
  where
    take_whole-of : {X : Type 0} (xs : List X) (n : ℕ) → n ≡ length xs → take n xs ≡ xs
    take_whole-of xs n e = grind (arith, common_steps)
