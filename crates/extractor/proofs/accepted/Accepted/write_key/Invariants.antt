use Rattle.std.specs.Iterator.Adapters.{enumerate_source, enumerate_count, zip_first, zip_second}
use Rattle.extractor.specs.Accepted.{key_in}
use Rattle.extractor.proofs.KeyLemmas.{Left}
use Rattle.extractor.proofs.accepted.Accepted.write_key.Given as goal

abbrev pub invariant-loop-i : goal.invariant-loop-i
invariant-loop-i g l =
    let kind = g.K.ElementKind.kind in
    let three = enumerate_source l.i-iterator in
    Left kind l.n (enumerate_count l.i-iterator) l.key (zip_first (zip_first three)) (zip_second (zip_first three)) (zip_second three) (key_in kind l.self)
