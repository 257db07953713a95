use Rattle.factor_laws.proofs.Triangles.{inverts}
use Rattle.factor_laws.proofs.words_have_inverses.Goals as goal

pub returns : goal.returns
returns c = inverts
