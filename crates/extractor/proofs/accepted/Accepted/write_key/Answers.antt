use Rattle.std.proofs.Common.{rules, ap, ◌∙◌}
use Rattle.std.specs.Iterator.Adapters.{enumerate_source, enumerate_count, zip_first, zip_second}
use Rattle.extractor.specs.Accepted.{key_in}
use Rattle.extractor.proofs.KeyLemmas.{key_next, key_all}
use Rattle.extractor.proofs.accepted.Accepted.write_key.Goals as goal

pub loop-i-preserved : goal.loop-i-preserved
loop-i-preserved g c =
    let kind = g.K.ElementKind.kind in
    let row = g.K.ElementKind.row in
    let at = c.in-Some.ensures.steps in
    key_next kind c.len-n.result _ c.in-Some.i _ c.loop-i.key c.put_element.new.bytes _ _ _ _ _ _ (key_in kind c.args.self.now) (row c.in-Some.a) (row c.in-Some.b) (row c.in-Some.c) _
    at.0.0.0 at.0.0.1 at.0.1 at.1 at.2 (c.sum-in-loop-i.ensures ∙ ap (λ s. kind.add s (row c.in-Some.c)) c.sum.ensures) c.put_element.ensures.put c.loop-i.invariant

pub returns : goal.returns
returns g c =
    let three = enumerate_source c.loop-i.i-iterator in
    key_all g.K.ElementKind.kind c.len-n.result (enumerate_count c.loop-i.i-iterator) c.loop-i.key (zip_first (zip_first three)) (zip_second (zip_first three)) (zip_second three) _
    c.loop-i.invariant (search rules) (search rules)
