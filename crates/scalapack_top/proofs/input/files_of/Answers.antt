use Rattle.std.proofs.Common.{◌≡◌, ◌<◌, get_or, sym, ap, subst, refl, arith, ◌∙◌}
use Rattle.run_data.specs.Script.{commands_of, modulus_of}
use Rattle.script_bounds.specs.Accepted.{IsAccepted}
use Rattle.script_laws.proofs.FieldLines.{accepted-large}
use Rattle.serial_laws.specs.Files.{HasFiles}
use Rattle.scalapack_top.proofs.Files.{names_text, none_read, skipped, read_more, read_fails, all_read, all_there, part_of}
use Rattle.scalapack_top.proofs.input.files_of.Goals as goal
use Rattle.scalapack_top.proofs.input.files_of.Goals.{in-Some+in-Ok, in_default}

pub loop-i-init : goal.loop-i-init
loop-i-init g c = none_read c.as_slice-lines.result.now _ _ _ c.new-files.result c.new-files.ensures

pub add_file-requires-clause-modulus : goal.add_file-requires-clause-modulus
add_file-requires-clause-modulus g c =
    let large : 32 < c.modulus-modulus.result = subst (λ p. 32 < p) (sym c.modulus-modulus.ensures) (accepted-large c.args.script.now c.requires.lines) in
    omega (arith, large)

pub add_file-requires-clause-name : goal.add_file-requires-clause-name
add_file-requires-clause-name g c =
    names_text c.as_slice-lines.result.now (subst IsAccepted (sym c.as_slice-lines.ensures) c.requires) c.loop-i.i c.in-Some.command c.loop-i-test.true
    (subst (λ o. o ≡ get_or c.as_slice-lines.result.now c.loop-i.i o) c.in-Some.is c.index-lines-i.is)

pub loop-i-preserved : goal.loop-i-preserved
loop-i-preserved g c =
    elim c.match-lines-i.branch [
      | in-Some+in-Ok w ↦
          rw (w.shelf-is, w.files-is) (read_more c.as_slice-lines.result.now c.loop-i.i _ _ _ _ _ _ c.loop-i.files c.loop-i.invariant c.loop-i-test.true w.in-Some.command
          (subst (λ o. o ≡ get_or c.as_slice-lines.result.now c.loop-i.i o) w.in-Some.is c.index-lines-i.is) _ refl _ (c.modulus-modulus.ensures ∙ sym (ap (λ s. modulus_of (commands_of s)) c.as_slice-lines.ensures)) w.in-Ok.field-0 w.add_file.new.files _ _ _ w.in-Ok.ensures.read w.in-Ok.ensures.added)
      | in_default w ↦
          rw (w.shelf-is, w.files-is) (skipped c.as_slice-lines.result.now c.loop-i.i _ _ _ _ _ _ c.loop-i.files c.loop-i.invariant c.loop-i-test.true
          (subst (λ o. o ≡ get_or c.as_slice-lines.result.now c.loop-i.i o) w.in_default.is c.index-lines-i.is))
    ]

pub returns-in-Err-clause-read : goal.returns-in-Err-clause-read
returns-in-Err-clause-read g c =
    part_of _ c.args.script.now _ _ _ _ _ _ _ c.as_slice-lines.ensures (read_fails c.as_slice-lines.result.now c.loop-i.i _ _ _ _ _ _ c.loop-i.files c.loop-i.invariant c.loop-i-test.true c.in-Some.command
    (subst (λ o. o ≡ get_or c.as_slice-lines.result.now c.loop-i.i o) c.in-Some.is c.index-lines-i.is) _ refl _ (c.modulus-modulus.ensures ∙ sym (ap (λ s. modulus_of (commands_of s)) c.as_slice-lines.ensures)) _ c.add_file.new.files _ _ _ c.in-Err.e c.in-Err.ensures.read)

pub returns-clause-read : goal.returns-clause-read
returns-clause-read g c =
    part_of _ c.args.script.now _ _ _ _ _ _ _ c.as_slice-lines.ensures (all_read c.as_slice-lines.result.now c.loop-i.i _ _ _ _ _ _ c.loop-i.files c.loop-i.invariant c.loop-i-test.false)

pub returns-clause-files : goal.returns-clause-files
returns-clause-files g c =
    subst (λ s. HasFiles s c.loop-i.files) c.as_slice-lines.ensures
    (all_there c.as_slice-lines.result.now c.loop-i.i _ _ _ _ _ _ c.loop-i.files c.loop-i.invariant c.loop-i-test.false)
