use Rattle.theory.proofs.Soundly.{soundness}
use Rattle.theory.proofs.promises.soundness_stands.Goals as goal

pub returns : goal.returns
returns c = soundness
