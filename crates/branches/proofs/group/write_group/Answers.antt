use Rattle.std.proofs.Common.{◌≡◌, ℕ, ◌<◌, ◌≢◌, ◌∙◌, arith}
use Rattle.theory.specs.Algebra.{ops_of}
use Rattle.theory.specs.Groups.{group}
use Rattle.theory.specs.Runs.{read}
use Rattle.branches.proofs.GroupLemmas.{one_more, element_put, element_kept}
use Rattle.branches.proofs.group.write_group.Goals as goal

pub loop-i-preserved : goal.loop-i-preserved
loop-i-preserved g c =
    let kind = g.K.ElementKind.kind in
    let i = c.loop-i.i in
    let n = c.args.n in
    let row = g.K.ElementKind.row c.element.result in
    let bs = c.loop-i.bytes in
    let new = c.put_element.new.bytes in
    let P : ℕ → Type 0 = λ k. (x : g.row.K.Denot) × g.F.Fn.post c.args.element (k, tt) x × (read (ops_of g.K.ElementKind.kind) (group g.K.ElementKind.kind c.args.n c.put_element.new.bytes) k ≡ g.K.ElementKind.row x) in
    let before : (k : ℕ) → k < c.loop-i.i → P k = λ k lt.
    let h = c.loop-i.invariant k lt in
    let other : k ≢ c.loop-i.i = λ e. omega (arith, e) in
    (h.0, h.1, element_kept kind n i row bs new c.put_element.ensures.put k other ∙ h.2) in
    one_more P i before (c.element.result, c.element.ensures, element_put kind n i row bs new c.put_element.ensures.put c.loop-i-test.true)

pub returns : goal.returns
returns g c = λ k lt. c.loop-i.invariant k (omega arith)
