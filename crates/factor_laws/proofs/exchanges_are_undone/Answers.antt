use Rattle.std.proofs.Common.{ap}
use Rattle.factor_laws.proofs.Exchanges.{there_and_back, back_and_there}
use Rattle.factor_laws.proofs.exchanges_are_undone.Goals as goal

pub returns : goal.returns
returns c = record {
  there = λ v first n x i. ap x (there_and_back v first n i);
  back = λ v first n x i. ap x (back_and_there v first n i);
}
