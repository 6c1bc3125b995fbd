use Rattle.verifier.proofs.RunLemmas.{Both}
use Rattle.verifier.proofs.rerun.Rerun.run.Given as goal

abbrev pub invariant-loop-gate : goal.invariant-loop-gate
invariant-loop-gate g l = Both g.K.ElementKind.kind l.lock l.initial.self l.initial.next l.gate-iterator l.self l.next l.wrong
