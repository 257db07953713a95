use Rattle.std.proofs.Common.{◌≡◌, None, sym}
use Rattle.scalapack_top.specs.Words.{texts, places_of}
use Rattle.scalapack_top.proofs.Answered.{wrong_usage, nothing_read, ran, read_ran, cause_ran, ended, cause, read_ended, untouched}
use Rattle.scalapack_top.proofs.call.answer_words.Goals as goal

pub returns-in-Ok-clause-answer : goal.returns-in-Ok-clause-answer
returns-in-Ok-clause-answer g c = ran (texts c.args.words.now) c.in-Some.places c.text_at.result.now (sym c.in-Some.ensures.places) c.text_at.ensures _ c.in-Some.places.machine c.in-Ok.ran c.finished.result c.in-Some.ensures.machine c.finished.ensures c.in-Ok.ensures.ran

pub returns-in-Ok-clause-cause : goal.returns-in-Ok-clause-cause
returns-in-Ok-clause-cause g c = cause_ran _ _ _ _ c.in-Ok.ran c.finished.result c.in-Ok.ensures.faults c.in-Ok.ensures.longs c.finished.ensures

pub returns-in-Err-clause-answer : goal.returns-in-Err-clause-answer
returns-in-Err-clause-answer g c =
    ended (texts c.args.words.now) c.in-Some.places c.text_at.result.now (sym c.in-Some.ensures.places) c.text_at.ensures _ c.in-Some.places.machine c.in-Err.e c.ended.result.answer _ c.in-Some.ensures.machine c.in-Err.ensures.failure c.in-Err.ensures.failed c.ended.ensures.answer c.ended.ensures.output

pub returns-in-Err-clause-cause : goal.returns-in-Err-clause-cause
returns-in-Err-clause-cause g c = cause _ _ _ _ c.in-Err.e c.ended.result.answer c.in-Err.ensures.faults c.in-Err.ensures.longs c.in-Err.ensures.caused c.ended.ensures.answer

pub returns-in-Ok-clause-read : goal.returns-in-Ok-clause-read
returns-in-Ok-clause-read g c = read_ran (texts c.args.words.now) c.in-Some.places c.text_at.result.now (sym c.in-Some.ensures.places) c.text_at.ensures _ _ c.in-Some.places.machine c.in-Ok.ran c.finished.result c.in-Some.ensures.machine c.finished.ensures c.in-Ok.ensures.read

pub returns-in-Err-clause-read : goal.returns-in-Err-clause-read
returns-in-Err-clause-read g c = read_ended (texts c.args.words.now) c.in-Some.places c.text_at.result.now (sym c.in-Some.ensures.places) c.text_at.ensures _ _ c.in-Some.places.machine c.in-Err.e c.ended.result.answer c.in-Some.ensures.machine c.in-Err.ensures.read c.ended.ensures.answer

pub returns-in-Ok-clause-untouched : goal.returns-in-Ok-clause-untouched
returns-in-Ok-clause-untouched g c = untouched (texts c.args.words.now) c.in-Some.places c.text_at.result.now (sym c.in-Some.ensures.places) c.text_at.ensures _ _

pub returns-in-Err-clause-untouched : goal.returns-in-Err-clause-untouched
returns-in-Err-clause-untouched g c = untouched (texts c.args.words.now) c.in-Some.places c.text_at.result.now (sym c.in-Some.ensures.places) c.text_at.ensures _ _

pub returns-in_default-clause-answer : goal.returns-in_default-clause-answer
returns-in_default-clause-answer g c =
    let e : None ≡ places_of (texts c.args.words.now) = first_of (assumption (c.in_default.ensures.places), grind (c.in_default.ensures.places, c.in_default.is, c.places_of.ensures.places)) in
    wrong_usage (texts c.args.words.now) _ _ c.usage.result.answer _ e c.usage.ensures.answer c.usage.ensures.output

pub returns-in_default-clause-read : goal.returns-in_default-clause-read
returns-in_default-clause-read g c =
    let e : None ≡ places_of (texts c.args.words.now) = first_of (assumption (c.in_default.ensures.places), grind (c.in_default.ensures.places, c.in_default.is, c.places_of.ensures.places)) in
    nothing_read (texts c.args.words.now) _ c.usage.result.answer e c.usage.ensures.answer
