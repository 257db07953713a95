use Rattle.std.proofs.Common.{◌≡◌, length, refl, ap, ◌∙◌}
use Rattle.std.specs.Prelude.{◌||◌, nat_lt, is_some}
use Rattle.io_edge.specs.MemSink.{SinkState, planned_keep, count_kept}
use Rattle.io_edge.proofs.Puts.{is_some-planned_keep, after_put-made}
use Rattle.io_edge.proofs.mem_sink.MemSink.keep.Goals as goal

pub returns-clause-fails : goal.returns-clause-fails
returns-clause-fails c =
    let s = c.self.inside in
    let keep : c.keep_of-keep.result ≡ planned_keep s.plan.items s.calls = rw c.deref.ensures.value at c.keep_of-keep.ensures in
    rw (← c.self.view_is)
    (c.is_refused-fails.ensures ∙ ap (λ b. b || nat_lt s.left (length c.args.bytes.now)) (ap is_some keep ∙ is_some-planned_keep s.plan.items s.calls))

pub returns-clause-state : goal.returns-clause-state
returns-clause-state c =
    let s = c.self.inside in
    let old : SinkState = record { bytes = s.bytes.items; left = s.left; calls = s.calls; plan = s.plan.items; faults = s.faults } in
    let keep : c.keep_of-keep.result ≡ planned_keep s.plan.items s.calls = rw c.deref.ensures.value at c.keep_of-keep.ensures in
    rw (← c.self.view_is)
    (after_put-made old _ c.args.bytes.now c.kept_len-count.result c.is_refused-fails.result
    (c.kept_len-count.ensures ∙ ap (λ k. count_kept k s.left (length c.args.bytes.now)) keep) (rw (← c.self.view_is) at (returns-clause-fails c))
    c.append.ensures.items refl c.saturating_add-self-inside.ensures refl c.count_put-self-inside.ensures.value)
