-- The records of a group's phase are within those that the bound of the script counts for its `pgemm` line.
use Rattle.std.proofs.Common.{◌≡◌, ◌≤◌, ◌+◌, ◌-◌, ◌*◌, ◌==◌, ℕ, true, false, List, [], ◌∷◌, Option, Some, refl, sym, ap, subst, ◌∙◌, ⊎_elim, arith}
use Rattle.std.specs.Prelude.{if◌then◌else◌}
use Rattle.std.proofs.lemmas.Bool.{cases_Bool, eqb-true}
use Rattle.std.proofs.lemmas.Option.{same_Some}
use Rattle.std.proofs.Math.Nat.{mul-le-mul_left}
use Rattle.run_data.specs.declared.command.Command.{Command}
use Rattle.run_data.specs.declared.command.Command.TheVariants as c
use Rattle.run_data.specs.Script.{Numbered, commands_of, command_at}
use Rattle.array_desc.specs.Maps.{ceil_div, groups}
use Rattle.rank_machine.specs.Setting.{layout, group_count}
use Rattle.rank_machine.specs.Scripts.{Matrices, setting_of}
use Rattle.script_rules.specs.Rules.{distribution_of}
use Rattle.script_bounds.specs.Accepted.{KeepsRules}
use Rattle.script_bounds.specs.Steps.{sweep, groups_in}
use Rattle.script_bounds.specs.Bounds.{steps_in, records_in, greatest, phase_steps}
use Rattle.script_bounds.proofs.Operands.{pgemm_operands}
use Rattle.product_laws.specs.Multiplying.{product_records}
use Rattle.product_lines.specs.Lines.{IsProductLine, line_of_a, line_of_c, line_product}
use Rattle.product_lines.proofs.Matrices.{LiesAs, matrix-meant}
use Rattle.product_lines.proofs.ProductLine.{means-from_sizes}

-- ---- numbers
-- on p by w ranks, b block columns: two records for each rank, and for each block column at most five more
few_at : (p w b : ℕ) → p * w + (p * w + b * ((2 * (p * (w - 1)) + 2 * (w * (p - 1))) + p * w)) + 1 ≤ 1 + p * w * (2 + 6 * b)
few_at p w b =
    let along : p * (w - 1) ≤ p * w = mul-le-mul_left p (omega arith) in
    let down : w * (p - 1) ≤ w * p = mul-le-mul_left w (omega arith) in
    let block : (2 * (p * (w - 1)) + 2 * (w * (p - 1))) + p * w ≤ 6 * (p * w) = omega (arith, along, down) in
    let blocks : b * ((2 * (p * (w - 1)) + 2 * (w * (p - 1))) + p * w) ≤ b * (6 * (p * w)) = mul-le-mul_left b block in
    omega (arith, blocks)

-- what one of some commands has is at most the greatest
pub greatest-at : (f : Numbered → ℕ) (ns : List Numbered) (line : ℕ) (x : Command) → command_at ns line ≡ Some x → f (record { line = line; command = x }) ≤ greatest f ns
greatest-at f [] line x e = absurd cc
greatest-at f (n ∷ ns) line x e =
    ⊎_elim
    (λ (here : (n.line == line) ≡ true).
    let is : n.command ≡ x = same_Some n.command x (ap (λ b. if b then Some n.command else command_at ns line) (sym here) ∙ e) in
    let same : n ≡ record { line = line; command = x } = λ i. record { line = eqb-true n.line line here i; command = is i } in
    omega (arith, ap f same))
    (λ (other : (n.line == line) ≡ false). omega (arith, greatest-at f ns line x (ap (λ b. if b then Some n.command else command_at ns line) (sym other) ∙ e)))
    (cases_Bool (n.line == line))

-- ---- the phase of a group
module _ (script : List (Option Command)) (files : Matrices) (line : ℕ) (transa transb : List ℕ) (m n k alpha : ℕ) (a : List ℕ) (ia ja : ℕ) (b : List ℕ) (ib jb beta : ℕ) (x : List ℕ) (ic jc : ℕ) (kept : KeepsRules script)
    (there : command_at (commands_of script) line ≡ Some (c.Pgemm transa transb m n k alpha a ia ja b ib jb beta x ic jc)) (product : IsProductLine script files line m n k alpha a b beta x) (group : ℕ) where
  abbrev command : Command
  command = c.Pgemm transa transb m n k alpha a ia ja b ib jb beta x ic jc

  no_drop : (dropped : List ℕ) → command ≡ c.Discard dropped → ⊥
  no_drop dropped is = cc

  -- A and C lie as the bound reads them
  first_lies : LiesAs script files (line_of_a script line) (distribution_of (commands_of script) line a)
  first_lies =
      let sizes = (pgemm_operands script line transa transb m n k alpha a ia ja b ib jb beta x ic jc kept there).first in
      (matrix-meant script files line 7 command a kept there refl no_drop (means-from_sizes (commands_of script) line a sizes)).1

  sum_lies : LiesAs script files (line_of_c script line) (distribution_of (commands_of script) line x)
  sum_lies =
      let sizes = (pgemm_operands script line transa transb m n k alpha a ia ja b ib jb beta x ic jc kept there).third in
      (matrix-meant script files line 14 command x kept there refl no_drop (means-from_sizes (commands_of script) line x sizes)).1

  -- so the bound's sweep of a group is one over the ranks of C's grid, for each block column of A
  abbrev rows : ℕ
  rows = (layout (setting_of script files) (line_of_c script line)).grid.p

  abbrev columns : ℕ
  columns = (layout (setting_of script files) (line_of_c script line)).grid.q + (layout (setting_of script files) (line_of_c script line)).grid.f

  abbrev blocks : ℕ
  blocks = ceil_div (layout (setting_of script files) (line_of_a script line)).desc.n (layout (setting_of script files) (line_of_a script line)).desc.nb

  abbrev counted : ℕ
  counted = sweep (distribution_of (commands_of script) line x) (ceil_div k (distribution_of (commands_of script) line a).nb)

  swept : 1 + rows * columns * (2 + 6 * blocks) ≡ counted
  swept = λ i. 1 + sum_lies.process_rows i * (sum_lies.process_columns i + sum_lies.code_columns i) * (2 + 6 * ceil_div (sym product.aligned.inner_said i) (first_lies.column_blocks i))

  few : product_records (line_product script (setting_of script files) line alpha beta group) ≤ counted
  few = omega (arith, few_at rows columns blocks, swept)

  -- one phase makes no more records than the bound counts for a phase of the line
  pub product-few_in_phase : product_records (line_product script (setting_of script files) line alpha beta group)
      ≤ (steps_in (commands_of script) line (c.Pgemm transa transb m n k alpha a ia ja b ib jb beta x ic jc)).phase
  product-few_in_phase = few

  -- all of them together make no more than it counts for the line
  pub product-few_in_line : group_count (layout (setting_of script files) (line_of_c script line)) * product_records (line_product script (setting_of script files) line alpha beta group)
      ≤ records_in (commands_of script) line (c.Pgemm transa transb m n k alpha a ia ja b ib jb beta x ic jc)
  product-few_in_line =
      let all : group_count (layout (setting_of script files) (line_of_c script line)) ≡ groups_in (distribution_of (commands_of script) line x) =
      λ i. groups (sum_lies.columns i) (sum_lies.column_blocks i) (sum_lies.process_columns i) in
      subst (λ g. g * product_records (line_product script (setting_of script files) line alpha beta group) ≤ groups_in (distribution_of (commands_of script) line x) * counted) (sym all)
      (mul-le-mul_left (groups_in (distribution_of (commands_of script) line x)) few)

  -- nor than the longest phase of the script
  pub product-few : product_records (line_product script (setting_of script files) line alpha beta group) ≤ phase_steps (commands_of script)
  unfolding phase_steps
  product-few =
      let cs = commands_of script in
      let most : counted ≤ phase_steps cs = greatest-at (λ n. (steps_in cs n.line n.command).phase) cs line command there in
      omega (arith, few, most)
