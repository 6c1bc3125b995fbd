use Rattle.theory.proofs.Tolds.{told_law}
use Rattle.theory.proofs.laws.told_stands.Goals as goal

pub returns : goal.returns
returns c = told_law
