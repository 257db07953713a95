-- Where so many groups of a product have been made, the phase of the next one may be driven.
use Rattle.std.proofs.Common.{◌≡◌, ◌≢◌, ◌<◌, ◌&&◌, ◌∙◌, not, ℕ, suc, true, List, Option, refl, sym, ap, subst, IsTrue}
use Rattle.std.proofs.lemmas.Bool.{and_parts, true≢false}
use Rattle.run_data.specs.Matrix.{Matrix}
use Rattle.run_data.specs.declared.command.Command.{Command}
use Rattle.rank_machine.specs.declared.mark.Mark.{Mark}
use Rattle.rank_machine.specs.Setting.{Setting, job, is_matrix, factored, group_count}
use Rattle.rank_machine.specs.Scripts.{Matrices, setting_of}
use Rattle.rank_machine.specs.State.{end_mark}
use Rattle.rank_machine.specs.Effect.{has_ended, is_dropped, is_live_matrix}
use Rattle.rank_machine.specs.Legal.{is_among}
use Rattle.rank_machine.specs.Marks.{follows}
use Rattle.script_lines.specs.Layouts.{IsLayout}
use Rattle.serial_model.specs.Solves.{product_of}
use Rattle.block_world.specs.World.{WorldView, setting_in, state_of}
use Rattle.product_rounds.specs.declared.rounds.GroupProduct.{GroupProduct}
use Rattle.product_rounds.specs.Rounds.{IsOnGrid}
use Rattle.product_rounds.specs.Standing.{AreAligned}
use Rattle.product_laws.specs.Multiplying.{layout_c, product_task, MayMultiplyMatrices, HaveShapes}
use Rattle.whole_run.specs.Inside.{part_mark}
use Rattle.whole_run.proofs.Ending.{setting_is}
use Rattle.whole_run.proofs.Parts.{end-matrix}
use Rattle.product_groups.specs.Groups.{at_group, MayMultiplyLine, HasGroups}
use Rattle.product_groups.proofs.Mixing.{HoldsSome-mixed}

-- ---- nothing that a product asks of its grid and its descriptors depends on the group
-- the grid and the descriptors are within the limits
pub on_grid-at : (x : GroupProduct) (g h : ℕ) → IsOnGrid (at_group x g) → IsOnGrid (at_group x h)
on_grid-at x g h is = record { grid = is.grid; a = is.a; b = is.b; c = is.c }

-- nor do the blocks in which the matrices lie
pub aligned-at : (x : GroupProduct) (g h : ℕ) → AreAligned (at_group x g) → AreAligned (at_group x h)
aligned-at x g h is = record {
  rows = is.rows;
  row_blocks = is.row_blocks;
  row_source = is.row_source;
  inner = is.inner;
  inner_blocks = is.inner_blocks;
  columns = is.columns;
  column_blocks = is.column_blocks;
  column_source = is.column_source;
}

-- C's layout is one
pub layout-c : (s : Setting) (x : GroupProduct) (line : ℕ) → MayMultiplyLine s x line → IsLayout (layout_c x)
layout-c s x line asks = record { grid = asks.on_grid.grid; desc = asks.on_grid.c }

-- A live matrix is none that the line makes.
pub other-line : (s : Setting) (x : GroupProduct) (line at : ℕ) (mark : Mark) → MayMultiplyLine s x line → is_live_matrix s mark at ≡ true → at ≢ line
other-line s x line at mark asks live same =
    true≢false (sym (and_parts (is_matrix s at) (has_ended mark at) (and_parts (is_matrix s at && has_ended mark at) (not (is_dropped s mark at)) live).0).0 ∙ (ap (is_matrix s) same ∙ asks.no_matrix))

-- C is live under the mark of the line's end too
pub stays-c : (s : Setting) (x : GroupProduct) (line : ℕ) → MayMultiplyLine s x line → is_live_matrix s (end_mark line) x.line_c ≡ true
stays-c s x line asks = end-matrix s line asks.rising asks.drops_none x.line_c (other-line s x line x.line_c (part_mark line) asks asks.live_c) ∙ asks.live_c

-- ---- the settings of a script's worlds are the same, so what a line asks of one it asks of all
pub asks-in : (script : List (Option Command)) (files : Matrices) (x : GroupProduct) (line : ℕ) (w : WorldView) → w.script ≡ script → w.files ≡ files → MayMultiplyLine (setting_of script files) x line → MayMultiplyLine (setting_in w) x line
asks-in script files x line w scripts matrices asks = subst (λ s. MayMultiplyLine s x line) (sym (setting_is w script files scripts matrices)) asks

-- and between two groups
pub asks-between : (script : List (Option Command)) (files : Matrices) (done : ℕ) (x : GroupProduct) (a b c : Matrix) (group : ℕ) (w : WorldView) (out : List ℕ) → HasGroups script files done x a b c group w out
    → MayMultiplyLine (setting_of script files) x (suc done) → MayMultiplyLine (setting_in w) x (suc done)
asks-between script files done x a b c group w out h = asks-in script files x (suc done) w h.partly.inside.script_is h.partly.inside.files_are

-- ---- the phase of the next group
module _ (script : List (Option Command)) (files : Matrices) (done : ℕ) (x : GroupProduct) (a b c : Matrix) (group : ℕ) (w : WorldView) (out : List ℕ) (h : HasGroups script files done x a b c group w out)
    (lt : group < group_count (layout_c x)) (asks : MayMultiplyLine (setting_in w) x (suc done)) (shapes : HaveShapes x a b c) where
  may_under : (mark : Mark) → mark.line ≡ suc done → IsTrue (follows (setting_in w) (state_of w).mark mark) → is_live_matrix (setting_in w) mark x.line_c ≡ true
      → MayMultiplyMatrices (setting_in w) (state_of w) (product_task (at_group x group) mark)
  may_under mark on next stays =
      let s : Setting = setting_in w in
      record {
        follows_last = next;
        no_matrix = ap (λ l. is_matrix s l) on ∙ asks.no_matrix;
        plain = ap (λ l. factored s l) on ∙ asks.plain;
        alpha = ap (λ l. is_among (job s l).scalars x.alpha) on ∙ asks.alpha;
        beta = ap (λ l. is_among (job s l).scalars x.beta) on ∙ asks.beta;
        path = ap (λ l. (job s l).path) on ∙ asks.path;
        some_words = asks.some_words;
        some_messages = asks.some_messages;
        on_grid = on_grid-at x 0 group asks.on_grid;
        aligned = aligned-at x 0 group asks.aligned;
        of = asks.of;
        lies_a = asks.lies_a;
        lies_b = asks.lies_b;
        lies_c = asks.lies_c;
        live_a = h.matrices_same x.line_a ∙ asks.live_a;
        live_b = h.matrices_same x.line_b ∙ asks.live_b;
        live_c = h.matrices_same x.line_c ∙ asks.live_c;
        stays_c = stays;
        plain_c = asks.plain_c;
        apart_a = asks.apart_a;
        apart_b = asks.apart_b;
        group_in = lt;
        holds_a = record { matrix = a; shape = shapes.a; groups = h.holds_a };
        holds_b = record { matrix = b; shape = shapes.b; groups = h.holds_b };
        holds_c = HoldsSome-mixed (state_of w) (layout_c x) x.line_c (product_of s.modulus x.alpha a b x.beta c) c group (layout-c s x (suc done) asks) h.made h.rest;
        scripted = asks.scripted;
        rising = asks.rising;
      }

  -- as a part of the line
  pub groups-may : MayMultiplyMatrices (setting_in w) (state_of w) (product_task (at_group x group) (part_mark (suc done)))
  groups-may = may_under (part_mark (suc done)) refl h.part asks.live_c

  -- and as its end
  pub groups-may_end : MayMultiplyMatrices (setting_in w) (state_of w) (product_task (at_group x group) (end_mark (suc done)))
  groups-may_end = may_under (end_mark (suc done)) refl h.ends (stays-c (setting_in w) x (suc done) asks)
