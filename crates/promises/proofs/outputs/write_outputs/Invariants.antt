use Rattle.std.proofs.Common.{length}
use Rattle.std.specs.List.{AllByRecursion}
use Rattle.std.specs.Iterator.Adapters.{enumerate_source, enumerate_count}
use Rattle.locks.specs.Encoding.{OutputFor}
use Rattle.theory.specs.Algebra.{ops_of}
use Rattle.theory.specs.Runs.{at_outputs}
use Rattle.promises.proofs.Fills.{Fills}
use Rattle.promises.proofs.outputs.write_outputs.Given as goal

abbrev pub invariant-loop-j : goal.invariant-loop-j
invariant-loop-j g l =
    let K = g.K.ElementKind.kind in
    let left = enumerate_source l.j-iterator in
    AllByRecursion (OutputFor K (length l.wires.rows)) left
    × Fills K l.count (enumerate_count l.j-iterator) l.out (at_outputs (ops_of K) left l.wires.rows) (at_outputs (ops_of K) l.lock.outputs l.wires.rows)
