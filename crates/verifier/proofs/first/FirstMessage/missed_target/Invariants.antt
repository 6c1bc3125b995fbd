use Rattle.std.proofs.Common.{◌≡◌, ◌+◌, ◌≤◌, length}
use Rattle.std.specs.List.{AllByRecursion}
use Rattle.std.specs.Iterator.Adapters.{enumerate_source, enumerate_count, zip_first, zip_second}
use Rattle.locks.specs.Encoding.{OutputFor}
use Rattle.theory.specs.Algebra.{ops_of}
use Rattle.theory.specs.Runs.{sum, sum_of, targets}
use Rattle.theory.specs.Tests.{unlike}
use Rattle.branches.proofs.Firsts.{from}
use Rattle.verifier.specs.Shown.{outs_of}
use Rattle.verifier.proofs.first.FirstMessage.missed_target.Given as goal

abbrev pub invariant-loop-j : goal.invariant-loop-j
invariant-loop-j g l =
    let ops = ops_of g.K.ElementKind.kind in
    let j = enumerate_count l.j-iterator in
    let us = zip_second (enumerate_source l.j-iterator) in
    let three = zip_first (enumerate_source l.j-iterator) in
    let zs = zip_second three in
    let xs = zip_first (zip_first three) in
    let ys = zip_second (zip_first three) in
    (j + length us ≤ 1024)
    × (length xs ≡ length us) × (length ys ≡ length us) × (length zs ≡ length us)
    × AllByRecursion (OutputFor g.K.ElementKind.kind (l.lock.inputs + length l.lock.gates)) us
    × (from j (unlike (sum ops (sum ops xs ys) zs) (targets ops us)) ≡ unlike (sum_of ops (outs_of l.self)) (targets ops l.lock.outputs))
