use Rattle.scalapack_top.proofs.call.run_named.Goals as goal

pub returns-in-Ok-run-clause-ran : goal.returns-in-Ok-run-clause-ran
returns-in-Ok-run-clause-ran g c =
    let r = c.in-Ok.ensures.read in
    (r.readings, r.are_told, (record { script = c.in-Ok.prepared.script; files = c.in-Ok.prepared.files }, r.comes, c.in-Ok-run.ensures))

pub returns-in-Ok-run-clause-read : goal.returns-in-Ok-run-clause-read
returns-in-Ok-run-clause-read g c = let r = c.in-Ok.ensures.read in (r.readings, r.are_told, r.read)
