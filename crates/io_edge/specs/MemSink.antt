-- What a sink in memory shows, and what a put does to it.
use Rattle.std.specs.Prelude.{ℕ, ◌-◌, min, if◌then◌else◌, ◌==◌, unwrap_or, List, [], ◌∷◌, ◌++◌, length, map, take, find, Option}
use Rattle.std.specs.Option.{option_map}
use Rattle.io_edge.specs.declared.plan.PlannedPut.{PlannedPut}
use Rattle.io_edge.specs.Causes.{counted}
use Rattle.io_edge.specs.Sink.{Kept, put_fails}

-- a sink in memory: its bytes, how many more fit, the number of its puts so far, the puts that are to fail with what they keep, and the count of failed puts
pub record SinkState : Type 0 where
  pub bytes : List ℕ
  pub left : ℕ
  pub calls : ℕ
  pub plan : List PlannedPut
  pub faults : ℕ

-- what it tells as a sink
abbrev pub kept_of : SinkState → Kept
kept_of s = record { bytes = s.bytes; calls = s.calls; planned = map (λ p. p.call) s.plan; left = s.left }

-- nothing in it, with this room
abbrev pub empty : ℕ → SinkState
empty room = record { bytes = []; left = room; calls = 0; plan = []; faults = 0 }

-- the same sink with one more put planned to fail
abbrev pub with_planned : SinkState → ℕ → ℕ → SinkState
with_planned s call keep = record s { plan = s.plan ++ record { call = call; keep = keep } ∷ [] }

-- how many bytes the put of this number keeps, where it is planned to fail: of two plans for it the first counts
abbrev pub planned_keep : List PlannedPut → ℕ → Option ℕ
planned_keep plan call = option_map (λ p. p.keep) (find (λ p. p.call == call) plan)

-- how many bytes are kept of a put: those that fit, and of a planned put no more than it keeps
abbrev pub count_kept : Option ℕ → ℕ → ℕ → ℕ
count_kept keep left len = min (unwrap_or keep len) (min left len)

-- the sink after a put of these bytes
abbrev pub after_put : SinkState → List ℕ → SinkState
after_put s bytes = record {
  bytes = s.bytes ++ take (count_kept (planned_keep s.plan s.calls) s.left (length bytes)) bytes;
  left = s.left - count_kept (planned_keep s.plan s.calls) s.left (length bytes);
  calls = counted s.calls;
  plan = s.plan;
  faults = if put_fails (kept_of s) bytes then counted s.faults else s.faults;
}
