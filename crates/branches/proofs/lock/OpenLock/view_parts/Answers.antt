use Rattle.std.proofs.Common.{ℕ, drop, ap, ◌∙◌}
use Rattle.locks.specs.Circuit.{mus}
use Rattle.locks.proofs.Steps.{to_end}
use Rattle.theory.specs.Groups.{group}
use Rattle.theory.specs.Messages.{view_of}
use Rattle.branches.proofs.lock.OpenLock.view_parts.Goals as goal

pub returns-clause-shares : goal.returns-clause-shares
unfolding view_of
returns-clause-shares g c = ap (group g.K.ElementKind.kind c.args.self.now.inputs) (to_end c.args.bytes.now 32)

pub returns-clause-masks : goal.returns-clause-masks
unfolding view_of
returns-clause-masks g c =
    let bs = c.args.bytes.now in
    ap (group g.K.ElementKind.kind (mus c.args.self.now.gates)) (to_end bs c.masks_at-masks.result ∙ ap (λ (j : ℕ). drop j bs) c.masks_at-masks.ensures.place)

pub returns-clause-products : goal.returns-clause-products
unfolding view_of
returns-clause-products g c =
    let bs = c.args.bytes.now in
    ap (group g.K.ElementKind.kind (mus c.args.self.now.gates)) (to_end bs c.products_at-products.result ∙ ap (λ (j : ℕ). drop j bs) c.products_at-products.ensures.place)
