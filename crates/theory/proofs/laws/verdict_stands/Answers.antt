use Rattle.theory.proofs.Verdicts.{verdict_law}
use Rattle.theory.proofs.laws.verdict_stands.Goals as goal

pub returns : goal.returns
returns c = verdict_law
