-- What the phase of a group of a product asks before it begins.
use Rattle.std.specs.Prelude.{◌+◌, ◌≤◌, ◌<◌, ◌^◌, length, IsTrue}
use Rattle.std.proofs.Common.{arith}
use Rattle.rank_machine.specs.Setting.{Setting}
use Rattle.rank_machine.specs.State.{State}
use Rattle.rank_machine.specs.Legal.{IsLegalFrom}
use Rattle.rank_machine.specs.Marks.{follows}
use Rattle.phases.specs.Plans.{CanStart, IgnoresSpawns, saves}
use Rattle.phases.specs.Words.{AddThrough, HasRoom}
use Rattle.product_laws.specs.Multiplying.{ProductTask, product_plan}
use Rattle.product_laws.proofs.Saving.{saves_count, saves_few, saves_legal}
use Rattle.product_laws.proofs.Words.{product_room, saves_add}

pub product_ignores_spawns : (t : ProductTask) → IgnoresSpawns (product_plan t)
product_ignores_spawns t = record {
  may = λ s base n h. record {
    follows_last = h.follows_last;
    no_matrix = h.no_matrix;
    plain = h.plain;
    alpha = h.alpha;
    beta = h.beta;
    path = h.path;
    some_words = h.some_words;
    some_messages = h.some_messages;
    on_grid = h.on_grid;
    aligned = h.aligned;
    of = h.of;
    lies_a = h.lies_a;
    lies_b = h.lies_b;
    lies_c = h.lies_c;
    live_a = h.live_a;
    live_b = h.live_b;
    live_c = h.live_c;
    stays_c = h.stays_c;
    plain_c = h.plain_c;
    apart_a = h.apart_a;
    apart_b = h.apart_b;
    group_in = h.group_in;
    holds_a = record { matrix = h.holds_a.matrix; shape = h.holds_a.shape; groups = h.holds_a.groups };
    holds_b = record { matrix = h.holds_b.matrix; shape = h.holds_b.shape; groups = h.holds_b.groups };
    holds_c = record { matrix = h.holds_c.matrix; shape = h.holds_c.shape; groups = h.holds_c.groups };
    scripted = h.scripted;
    rising = h.rising;
  };
  effect = λ s base now takes n h. record { takes_none = h.takes_none; product = h.product; rest = h.rest };
}

pub product_can_save : (t : ProductTask) (s : Setting) (base : State) → CanStart (product_plan t) s base → IsLegalFrom s base (saves (product_plan t).listed)
product_can_save t s base h = saves_legal s base t h.may h.rest

pub product_few_saved : (t : ProductTask) (s : Setting) (base : State) → CanStart (product_plan t) s base → length (product_plan t).listed < 2 ^ 32
product_few_saved t s base h = saves_few t.x h.may.on_grid

pub product_follows : (t : ProductTask) (s : Setting) (base : State) → CanStart (product_plan t) s base → IsTrue (follows s base.mark (product_plan t).mark)
product_follows t s base h = h.may.follows_last

pub product_some_next : (t : ProductTask) (s : Setting) (base : State) → CanStart (product_plan t) s base → 0 < (product_plan t).most_nexts
product_some_next t s base h = omega arith

pub product_enough : (t : ProductTask) (s : Setting) (base : State) → CanStart (product_plan t) s base → length (product_plan t).listed + 1 ≤ (product_plan t).most_records
product_enough t s base h = let count = saves_count t.x in omega (arith, count)

pub product_saves_fit : (t : ProductTask) (s : Setting) (base : State) → CanStart (product_plan t) s base → AddThrough (product_plan t).most_words s base base (saves (product_plan t).listed)
product_saves_fit t s base h = saves_add s base t h.may h.rest

pub product_has_room : (t : ProductTask) (s : Setting) (base : State) → CanStart (product_plan t) s base → HasRoom (product_plan t).most_words s base
product_has_room t s base h = product_room s base t h.may
