use Rattle.std.proofs.Common.{◌≡◌, ◌+◌, ◌≤◌, length}
use Rattle.std.specs.List.{AllByRecursion}
use Rattle.std.specs.Iterator.Adapters.{enumerate_source, enumerate_count}
use Rattle.locks.specs.Encoding.{OutputFor}
use Rattle.theory.specs.Algebra.{ops_of}
use Rattle.theory.specs.Runs.{at_outputs, targets}
use Rattle.theory.specs.Tests.{unlike}
use Rattle.branches.proofs.Firsts.{from}
use Rattle.promises.proofs.key.first_missed.Given as goal

abbrev pub invariant-loop-j : goal.invariant-loop-j
invariant-loop-j g l =
    let O = ops_of g.K.ElementKind.kind in
    let left = enumerate_source l.j-iterator in
    let j = enumerate_count l.j-iterator in
    let rows = l.wires.rows in
    (j + length left ≤ 1024)
    × AllByRecursion (OutputFor g.K.ElementKind.kind (length rows)) left
    × (from j (unlike (at_outputs O left rows) (targets O left)) ≡ unlike (at_outputs O l.lock.outputs rows) (targets O l.lock.outputs))
