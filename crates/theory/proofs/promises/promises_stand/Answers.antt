use Rattle.theory.proofs.Soundly.{soundness}
use Rattle.theory.proofs.Hidings.{completeness, hiding}
use Rattle.theory.proofs.promises.promises_stand.Goals as goal

pub returns : goal.returns
returns c = record { sound = soundness; complete = completeness; hides = hiding }
