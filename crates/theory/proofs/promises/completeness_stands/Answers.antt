use Rattle.theory.proofs.Hidings.{completeness}
use Rattle.theory.proofs.promises.completeness_stands.Goals as goal

pub returns : goal.returns
returns c = completeness
