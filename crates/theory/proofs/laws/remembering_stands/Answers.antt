use Rattle.theory.proofs.Remembered.{remembers}
use Rattle.theory.proofs.laws.remembering_stands.Goals as goal

pub returns : goal.returns
returns c = remembers
