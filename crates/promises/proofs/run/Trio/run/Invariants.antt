use Rattle.promises.proofs.Runs.{Runs}
use Rattle.promises.proofs.run.Trio.run.Given as goal

abbrev pub invariant-loop-gate : goal.invariant-loop-gate
invariant-loop-gate g l = Runs g.K.ElementKind.kind l.lock l.initial.self l.gate-iterator l.self l.count l.made l.products1 l.products2 l.products3
