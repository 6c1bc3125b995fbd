use Rattle.theory.proofs.Wires.{figure_law}
use Rattle.theory.proofs.laws.figures_stand.Goals as goal

pub returns : goal.returns
returns c = figure_law
