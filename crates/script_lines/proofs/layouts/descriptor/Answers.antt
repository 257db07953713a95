use Rattle.std.proofs.Common.{sym}
use Rattle.std.proofs.lemmas.Bool.{true≢false}
use Rattle.script_lines.proofs.JobAt.{none_bad}
use Rattle.script_lines.proofs.layouts.descriptor.Goals as goal

pub unreachable-requires : goal.unreachable-requires
unreachable-requires c =
    let a = c.args in
    true≢false (sym (c.in-Err.ensures.accepted.1 (none_bad a.number a.grid.p a.grid.q a.m a.n a.mb a.nb a.rsrc a.csrc c.requires.desc)))
