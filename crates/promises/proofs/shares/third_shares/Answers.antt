use Rattle.std.proofs.Common.{◌≡◌, ℕ, ap, ◌∙◌, length, set, arith}
use Rattle.std.specs.Iterator.Adapters.{enumerate_source, enumerate_count, zip_first, zip_second}
use Rattle.theory.specs.Groups.{group}
use Rattle.promises.proofs.Fills.{thirds_start, fill_next, fill_end, fill_lawful, thirds_none, thirds_more}
use Rattle.promises.proofs.shares.third_shares.Goals as goal

pub loop-i-init : goal.loop-i-init
loop-i-init g c =
    let it = c.into_iter-i-iterator.result in
    let e = c.into_iter-i-iterator.ensures.into_iter_gives in
    let pairs : zip_first (enumerate_source c.into_iter-i-iterator.result) ≡ c.zip.result = (λ t. zip_first (enumerate_source (e t))) ∙ (λ t. zip_first (c.enumerate-i-items.ensures.source t)) ∙ c.zip-shares.ensures.first in
    let third : zip_second (enumerate_source c.into_iter-i-iterator.result) ≡ c.args.share2.now = (λ t. zip_second (enumerate_source (e t))) ∙ (λ t. zip_second (c.enumerate-i-items.ensures.source t)) ∙ c.zip-shares.ensures.second ∙ c.elements-3.ensures in
    thirds_start g.K.ElementKind.kind c.len-count.result _ c.args.out.now c.args.key.now c.args.share1.now c.args.share2.now _ _ _
    ((λ t. zip_first (pairs t)) ∙ c.zip.ensures.first ∙ c.elements.ensures) ((λ t. zip_second (pairs t)) ∙ c.zip.ensures.second ∙ c.elements-2.ensures) third c.requires.counted.0 c.requires.counted.1
    ((λ t. enumerate_count (e t)) ∙ c.enumerate-i-items.ensures.count) c.len-count.ensures.count c.requires.sized

pub loop-i-preserved : goal.loop-i-preserved
loop-i-preserved g c =
    let K = g.K.ElementKind.kind in
    let s = c.in-Some.ensures.steps in
    let inv = c.loop-i.invariant in
    let pair = s.0.0 in
    let same : length (zip_second (zip_first (enumerate_source c.next.new.self))) ≡ length (zip_first (zip_first (enumerate_source c.next.new.self))) = omega (arith, inv.0, ap length pair.0, ap length pair.1) in
    let too : length (zip_second (enumerate_source c.next.new.self)) ≡ length (zip_first (zip_first (enumerate_source c.next.new.self))) = omega (arith, inv.1, ap length pair.0, ap length s.0.1) in
    let row = g.K.ElementKind.row c.sum-share.result in
    let is = c.sum-share.ensures ∙ (λ t. K.add ((c.sum.ensures ∙ (λ u. K.add (g.K.ElementKind.row c.in-Some.whole) (c.negative.ensures u))) t) (c.negative-in-loop-i.ensures t)) in
    let split = thirds_more K _ _ _ _ _ _ _ _ _ row pair.0 pair.1 s.0.1 is in
    (same, too, fill_next K _ (enumerate_count c.loop-i.i-iterator) c.loop-i.out row _ _ _ split inv.2 _ _ s.2 (c.put_element.ensures.put ∙ ap (λ (j : ℕ). set (group K c.len-count.result c.loop-i.out) j row) s.1) c.put_element.auto.bytes (g.met.K.ElementKind.lawful c.sum-share.result))

pub returns : goal.returns
returns g c =
    let K = g.K.ElementKind.kind in
    let inv = c.loop-i.invariant in
    let none = thirds_none K _ _ _ inv.0 inv.1 c.in-None.ensures.steps.0 in
    record { bytes = fill_end K _ _ c.loop-i.out _ _ none inv.2; lawful = fill_lawful K _ _ c.loop-i.out _ _ none inv.2 }
