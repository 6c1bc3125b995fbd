use Rattle.theory.proofs.Hidings.{hiding}
use Rattle.theory.proofs.promises.hiding_stands.Goals as goal

pub returns : goal.returns
returns c = hiding
