use Rattle.theory.proofs.Judges.{rules_law}
use Rattle.theory.proofs.laws.rules_stand.Goals as goal

pub returns : goal.returns
returns c = rules_law
