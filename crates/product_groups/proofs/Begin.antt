-- Before the first group of a product: where the run has come to the end of the lines before.
use Rattle.std.proofs.Common.{◌≡◌, ◌*◌, ◌∙◌, ℕ, suc, true, List, Option, sym, subst, arith, None, refl, ap, Some, ◌<◌}
use Rattle.std.proofs.lemmas.Bool.{false≢true}
use Rattle.std.proofs.lemmas.Slice.Eq.{bytes_eq-Decides}
use Rattle.run_data.specs.Matrix.{Matrix}
use Rattle.run_data.specs.declared.command.Command.{Command}
use Rattle.run_data.specs.Script.{commands_of, command_at, name_made, maker, is_name}
use Rattle.rank_machine.specs.declared.layout.Layout.{Layout}
use Rattle.rank_machine.specs.Setting.{layout}
use Rattle.rank_machine.specs.Scripts.{Matrices, file_of}
use Rattle.rank_machine.specs.Effect.{is_live_matrix}
use Rattle.script_laws.proofs.Makers.{makes_name, maker-made}
use Rattle.serial_model.specs.Serial.{whole, matrix_in}
use Rattle.block_world.specs.World.{WorldView, setting_in, state_of}
use Rattle.line_laws.proofs.NextLine.{current-next, end-follows}
use Rattle.product_rounds.specs.declared.rounds.GroupProduct.{GroupProduct}
use Rattle.product_laws.specs.Multiplying.{layout_a, layout_b, layout_c, product_records, HaveShapes}
use Rattle.whole_run.specs.Until.{values_at}
use Rattle.whole_run.specs.Between.{Names, HasRun}
use Rattle.whole_run.specs.Inside.{IsPartly, part_mark}
use Rattle.whole_run.proofs.Partly.{partly-begins}
use Rattle.whole_run.proofs.Parts.{part-follows, part-matrix, part-list}
use Rattle.line_phases.proofs.NextJob.{below_next}
use Rattle.product_groups.specs.Groups.{MayMultiplyLine, IsOperand, HasGroups}
use Rattle.product_groups.proofs.Holding.{HoldsOperand, operand-held}

-- ---- what a name means was made under that name
pub names-meant : (script : List (Option Command)) (line at : ℕ) (name : List ℕ) → maker (commands_of script) line name ≡ Some at → at < line → Names (commands_of script) at name
names-meant script line at name means before = found (command_at (commands_of script) at) refl (maker-made script line name at means before)
  where
    made : (x : Command) (o : Option (List ℕ)) → command_at (commands_of script) at ≡ Some x → name_made x ≡ o → is_name o name ≡ true → Names (commands_of script) at name
    made x None there makes test = absurd (false≢true test)
    made x (Some other) there makes test = (x, there, makes ∙ ap (λ (n : List ℕ). Some n) ((bytes_eq-Decides other name).0 test))

    found : (o : Option Command) → command_at (commands_of script) at ≡ o → makes_name o name ≡ true → Names (commands_of script) at name
    found None there test = absurd (false≢true test)
    found (Some x) there test = made x (name_made x) there refl test

module _ (script : List (Option Command)) (files : Matrices) (done : ℕ) (x : GroupProduct) (w : WorldView) (out : List ℕ) (h : HasRun script files done w out) (asks : MayMultiplyLine (setting_in w) x (suc done)) where
  held : (line : ℕ) (name : List ℕ) (m : Matrix) (d : Layout) → is_live_matrix (setting_in w) (part_mark (suc done)) line ≡ true → layout (setting_in w) line ≡ d → IsOperand script files done line name m → HoldsOperand (state_of w) d line m
  held line name m d live lies is =
      operand-held (setting_in w) (state_of w) line name (values_at (file_of files) (commands_of script) done) m d
      (h.stands.matrices line name (sym (part-matrix script files done w out h line) ∙ live) is.named) is.means lies

  -- the name of a live matrix means one, which is what it means in the serial run
  pub operand-value : (line : ℕ) (name : List ℕ) → is_live_matrix (setting_in w) (part_mark (suc done)) line ≡ true → Names (commands_of script) line name
      → IsOperand script files done line name (matrix_in (values_at (file_of files) (commands_of script) done name))
  operand-value line name live named =
      let z = h.stands.matrices line name (sym (part-matrix script files done w out h line) ∙ live) named in
      record { named = named; means = z.means ∙ ap (λ o. Some (whole (matrix_in o))) (sym z.means) }

  module _ (a b c : Matrix) (na nb nc : List ℕ) (is_a : IsOperand script files done x.line_a na a) (is_b : IsOperand script files done x.line_b nb b) (is_c : IsOperand script files done x.line_c nc c) where
    -- the matrices that the three names mean have the shapes of the three layouts
    pub groups-shapes : HaveShapes x a b c
    groups-shapes = record {
      a = (held x.line_a na a (layout_a x) asks.live_a asks.lies_a is_a).shape;
      b = (held x.line_b nb b (layout_b x) asks.live_b asks.lies_b is_b).shape;
      c = (held x.line_c nc c (layout_c x) asks.live_c asks.lies_c is_c).shape;
    }

    -- and no group of C has been made
    pub groups-begin : HasGroups script files done x a b c 0 w out
    groups-begin = record {
      partly = (let none : 0 ≡ 0 * product_records x = omega arith in subst (λ k. IsPartly script files done k w out) none (partly-begins script files done w out h));
      part = part-follows script files done w out h asks.there asks.plain;
      ends = end-follows (setting_in w) (state_of w).mark (suc done) (omega arith)
          (current-next (setting_in w).jobs 0 (state_of w).mark (suc done) asks.rising asks.there (λ at job. h.done at job ∙ below_next at done));
      matrices_same = λ at. sym (part-matrix script files done w out h at);
      lists_same = λ at. sym (part-list script files done w out h asks.plain at);
      holds_a = (held x.line_a na a (layout_a x) asks.live_a asks.lies_a is_a).groups;
      holds_b = (held x.line_b nb b (layout_b x) asks.live_b asks.lies_b is_b).groups;
      made = λ g before. absurd (let no : ⊥ = omega (arith, before) in no);
      rest = λ g le inside. (held x.line_c nc c (layout_c x) asks.live_c asks.lies_c is_c).groups g inside;
      others = λ at name other live named. h.stands.matrices at name live named;
      lists = λ at name live named. h.stands.lists at name live named;
    }
