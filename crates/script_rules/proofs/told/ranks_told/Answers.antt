use Rattle.std.proofs.Common.{◌≡◌, true, sym, ap, ◌∙◌}
use Rattle.std.specs.Prelude.{codes}
use Rattle.std.specs.Str.{bytes_eq}
use Rattle.script_words.specs.Numbers.{number_of}
use Rattle.script_rules.specs.Told.{shape_ranks}
use Rattle.script_rules.proofs.ToldLines.{ranks_told-five}
use Rattle.script_rules.proofs.told.ranks_told.Goals as goal

pub returns-clause-value : goal.returns-clause-value
returns-clause-value c =
    let test : bytes_eq c.word-item.result (codes "grid") ≡ true = sym (c.is_word.ensures ∙ ap (λ b. bytes_eq b (codes "grid")) c.bytes.ensures) ∙ c.if-not-is_word.false in
    let p = c.number_of.ensures ∙ ap number_of c.bytes-2.ensures in
    let q = c.number_of-2.ensures ∙ ap number_of c.bytes-3.ensures in
    let f = c.number_of-3.ensures ∙ ap number_of c.bytes-4.ensures in
    c.shape_ranks.ensures.value ∙ ap (λ o. shape_ranks o c.number_of-2.result c.number_of-3.result) p ∙ ap (λ o. shape_ranks (number_of c.p-item.result) o c.number_of-3.result) q
    ∙ ap (λ o. shape_ranks (number_of c.p-item.result) (number_of c.q-item.result) o) f
    ∙ sym (ranks_told-five c.args.words.now c.word-item.result c.p-item.result c.q-item.result c.f-item.result c.in-len5.len_at_least c.in-len5.len_below c.word-item.is c.p-item.is c.q-item.is c.f-item.is test)
