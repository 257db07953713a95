-- Before the first group of a product line.
use Rattle.std.proofs.Common.{◌≡◌, ◌<◌, ℕ, suc, false, List, Option, refl, sym, subst}
use Rattle.run_data.specs.declared.command.Command.{Command}
use Rattle.run_data.specs.Script.{commands_of, command_at, modulus_of}
use Rattle.rank_machine.specs.Setting.{Setting, layout, group_count}
use Rattle.rank_machine.specs.Scripts.{Matrices, setting_of}
use Rattle.script_lines.specs.Sound.{IsSound}
use Rattle.script_bounds.specs.Accepted.{KeepsRules}
use Rattle.block_world.specs.World.{WorldView, setting_in, state_of}
use Rattle.whole_run.specs.Between.{HasRun}
use Rattle.whole_run.specs.Inside.{part_mark}
use Rattle.whole_run.proofs.Ending.{setting_is}
use Rattle.whole_run.proofs.Measured.{before-measured}
use Rattle.product_rounds.specs.declared.rounds.GroupProduct.{GroupProduct}
use Rattle.product_rounds.specs.Rounds.{IsOnGrid}
use Rattle.product_laws.specs.Multiplying.{MayMultiplyMatrices, product_task}
use Rattle.product_lines.specs.Lines.{IsProductLine, line_of_a, line_of_b, line_of_c, line_product}
use Rattle.product_lines.proofs.ProductLine.{product-line}
use Rattle.product_lines.proofs.May.{product-may, some-group}
use Rattle.product_groups.specs.Groups.{at_group, MayMultiplyLine, IsOperand}
use Rattle.product_groups.proofs.May.{asks-in}
use Rattle.product_groups.proofs.Begin.{operand-value, groups-begin, groups-shapes}
use Rattle.pblas.specs.Groups.{IsProduct, value_before, groups_of, product_at, IsAtGroup}

module _ (script : List (Option Command)) (files : Matrices) (done : ℕ) (w : WorldView) (out : List ℕ) (kept : KeepsRules script) (sound : IsSound (modulus_of (commands_of script)) (setting_of script files))
    (h : HasRun script files done w out) (words : IsProduct (command_at (commands_of script) (suc done))) where
  abbrev line : IsProductLine script files (suc done) words.m words.n words.k words.alpha words.a words.b words.beta words.x
  line = product-line script files (suc done) words.transa words.transb words.m words.n words.k words.alpha words.a words.ia words.ja words.b words.ib words.jb words.beta words.x words.ic words.jc kept words.there

  -- there is a first group
  pub some-groups : 0 < groups_of script files done
  some-groups = some-group (layout (setting_of script files) (line_of_c script (suc done))) line.sum.laid_out

  same : setting_in w ≡ setting_of script files
  same = setting_is w script files h.script_is h.files_are

  abbrev x : GroupProduct
  x = product_at script files done words.alpha words.beta

  may : MayMultiplyMatrices (setting_of script files) (state_of w) (product_task x (part_mark (suc done)))
  may =
      subst (λ (s : Setting). MayMultiplyMatrices s (state_of w) (product_task (line_product script s (suc done) words.alpha words.beta 0) (part_mark (suc done)))) same
      (product-may script files done w out words.transa words.transb words.m words.n words.k words.alpha words.a words.ia words.ja words.b words.ib words.jb words.beta words.x words.ic words.jc h kept sound words.there false 0
      (subst (λ (s : Setting). 0 < group_count (layout s (line_of_c script (suc done)))) (sym same) some-groups))

  asks : MayMultiplyLine (setting_of script files) x (suc done)
  asks = record {
    there = line.own.makes_records;
    no_matrix = line.own.no_matrix;
    plain = line.own.plain;
    drops_none = line.own.drops_none;
    alpha = may.alpha;
    beta = may.beta;
    path = may.path;
    some_words = may.some_words;
    some_messages = may.some_messages;
    on_grid = may.on_grid;
    aligned = may.aligned;
    of = may.of;
    lies_a = may.lies_a;
    lies_b = may.lies_b;
    lies_c = may.lies_c;
    live_a = line.first.stays (part_mark (suc done)) refl;
    live_b = line.second.stays (part_mark (suc done)) refl;
    live_c = line.sum.stays (part_mark (suc done)) refl;
    plain_c = may.plain_c;
    apart_a = may.apart_a;
    apart_b = may.apart_b;
    scripted = may.scripted;
    rising = may.rising;
  }

  -- the product lies on a grid within the limits
  pub begins-on : IsOnGrid (at_group x 0)
  begins-on = asks.on_grid

  abbrev asks_now : MayMultiplyLine (setting_in w) x (suc done)
  asks_now = asks-in script files x (suc done) w h.script_is h.files_are asks

  first : IsOperand script files done (line_of_a script (suc done)) words.a (value_before script files done words.a)
  first = operand-value script files done x w out h asks_now (line_of_a script (suc done)) words.a asks_now.live_a line.first.named

  second : IsOperand script files done (line_of_b script (suc done)) words.b (value_before script files done words.b)
  second = operand-value script files done x w out h asks_now (line_of_b script (suc done)) words.b asks_now.live_b line.second.named

  sum : IsOperand script files done (line_of_c script (suc done)) words.x (value_before script files done words.x)
  sum = operand-value script files done x w out h asks_now (line_of_c script (suc done)) words.x asks_now.live_c line.sum.named

  -- and none has been multiplied yet
  pub begins : IsAtGroup script files done 0 w out
  begins = record {
    words = words;
    asks = asks;
    first = first;
    second = second;
    sum = sum;
    shapes = groups-shapes script files done x w out h asks_now (value_before script files done words.a) (value_before script files done words.b) (value_before script files done words.x) words.a words.b words.x first second sum;
    groups = groups-begin script files done x w out h asks_now (value_before script files done words.a) (value_before script files done words.b) (value_before script files done words.x) words.a words.b words.x first second sum;
    measured = before-measured script files (modulus_of (commands_of script)) done w out kept sound h;
  }
