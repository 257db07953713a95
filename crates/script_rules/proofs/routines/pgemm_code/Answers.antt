use Rattle.script_rules.specs.Routines.{factor_rules, sum_rules}
use Rattle.script_words.proofs.Tables.{first_code-first, first_code-second}
use Rattle.script_rules.proofs.routines.pgemm_code.Goals as goal

pub returns-in-Some : goal.returns-in-Some
returns-in-Some c =
    let x = c.args in
    first_code-first (factor_rules x.p x.transa.now x.transb.now x.m x.n x.k x.alpha x.ia x.ja x.ib x.jb x.a x.b) (sum_rules x.p x.m x.n x.beta x.apart x.ic x.jc x.a x.b x.c)
    c.factor_code-code.result _ c.factor_code-code.ensures c.in-Some.is

pub returns-in-None : goal.returns-in-None
returns-in-None c =
    let x = c.args in
    first_code-second (factor_rules x.p x.transa.now x.transb.now x.m x.n x.k x.alpha x.ia x.ja x.ib x.jb x.a x.b) (sum_rules x.p x.m x.n x.beta x.apart x.ic x.jc x.a x.b x.c)
    c.factor_code-code.result c.sum_code.result c.factor_code-code.ensures c.in-None.is c.sum_code.ensures
