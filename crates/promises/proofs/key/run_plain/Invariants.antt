use Rattle.std.proofs.Common.{◌≡◌, ◌+◌, length}
use Rattle.locks.specs.Encoding.{GatesFor}
use Rattle.theory.specs.Algebra.{ops_of}
use Rattle.theory.specs.Runs.{plain}
use Rattle.promises.proofs.key.run_plain.Given as goal

abbrev pub invariant-loop-gate : goal.invariant-loop-gate
invariant-loop-gate g l =
    let K = g.K.ElementKind.kind in
    GatesFor K (length l.wires.rows) l.gate-iterator
    × (length l.wires.rows + length l.gate-iterator ≡ l.wires.most)
    × (l.lock.inputs + length l.lock.gates ≡ l.wires.most)
    × (plain (ops_of K) l.gate-iterator l.wires.rows ≡ plain (ops_of K) l.lock.gates l.key)
