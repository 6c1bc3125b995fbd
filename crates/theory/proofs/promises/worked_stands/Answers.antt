use Rattle.theory.proofs.Examples.{witness}
use Rattle.theory.proofs.Workings.{worked}
use Rattle.theory.proofs.promises.worked_stands.Goals as goal

pub returns : goal.returns
returns c = record { example = worked; met = witness }
