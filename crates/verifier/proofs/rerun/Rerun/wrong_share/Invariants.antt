use Rattle.std.proofs.Common.{◌≡◌, ◌+◌, ◌≤◌, length}
use Rattle.std.specs.List.{AllByRecursion}
use Rattle.std.specs.Iterator.Adapters.{enumerate_source, enumerate_count, zip_first, zip_second}
use Rattle.locks.specs.Encoding.{OutputFor}
use Rattle.theory.specs.Algebra.{ops_of}
use Rattle.theory.specs.Runs.{at_outputs}
use Rattle.theory.specs.Tests.{unlike}
use Rattle.branches.proofs.Firsts.{from}
use Rattle.verifier.proofs.rerun.Rerun.wrong_share.Given as goal

abbrev pub invariant-loop-j : goal.invariant-loop-j
invariant-loop-j g l =
    let ops = ops_of g.K.ElementKind.kind in
    let ws = l.self.view.wires in
    let us = zip_first (enumerate_source l.j-iterator) in
    let ys = zip_second (enumerate_source l.j-iterator) in
    let j = enumerate_count l.j-iterator in
    (j + length us ≤ 1024)
    × (length ys ≡ length us)
    × AllByRecursion (OutputFor g.K.ElementKind.kind (length ws)) us
    × (from j (unlike (at_outputs ops us ws) ys) ≡ unlike (at_outputs ops l.lock.outputs ws) l.shares)
