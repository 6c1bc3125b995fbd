use Rattle.std.proofs.Common.{◌≡◌, length}
use Rattle.std.specs.Iterator.Adapters.{enumerate_source, enumerate_count, zip_first, zip_second}
use Rattle.theory.specs.Algebra.{ops_of}
use Rattle.theory.specs.Runs.{less}
use Rattle.promises.proofs.Fills.{Fills}
use Rattle.promises.proofs.shares.third_shares.Given as goal

abbrev pub invariant-loop-i : goal.invariant-loop-i
invariant-loop-i g l =
    let K = g.K.ElementKind.kind in
    let O = ops_of K in
    let pairs = enumerate_source l.i-iterator in
    let wholes = zip_first (zip_first pairs) in
    let firsts = zip_second (zip_first pairs) in
    let seconds = zip_second pairs in
    (length firsts ≡ length wholes) × (length seconds ≡ length wholes)
    × Fills K l.count (enumerate_count l.i-iterator) l.out (less O (less O wholes firsts) seconds) (less O (less O l.key l.share1) l.share2)
