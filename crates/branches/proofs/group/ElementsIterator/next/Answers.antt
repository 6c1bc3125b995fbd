use Rattle.std.proofs.Common.{◌≡◌, ℕ, suc, ◌-◌, sym, ap, ◌∙◌, arith}
use Rattle.theory.specs.Groups.{group}
use Rattle.branches.proofs.HoldingLemmas.{first_lawful, others_left, element_step, none_left}
use Rattle.branches.proofs.WalkSteps.{shorter}
use Rattle.branches.proofs.group.ElementsIterator.next.Goals as goal

pub returns-then-self-eq0-clause-steps : goal.returns-then-self-eq0-clause-steps
returns-then-self-eq0-clause-steps g c =
    let kind = g.K.ElementKind.kind in
    let e = sym c.self.view_is ∙ ap (λ (k : ℕ). group kind k c.self.inside.rest.now) c.if-self-eq0.true ∙ none_left kind c.self.inside.rest.now in
    (e, e)

pub lawful_row-requires : goal.lawful_row-requires
lawful_row-requires g c =
    let left : c.self.inside.left ≡ suc (c.self.inside.left - 1) = omega arith in
    first_lawful g.K.ElementKind.kind c.self.inside.left (c.self.inside.left - 1) c.self.inside.rest.now c.WIDTH-width.result left (c.WIDTH-width.ensures ∙ g.met.K.ElementKind.width_is) c.self.invariant

pub invariant_of-self : goal.invariant_of-self
invariant_of-self g c =
    let left : c.self.inside.left ≡ suc (c.self.inside.left - 1) = omega arith in
    others_left g.K.ElementKind.kind c.self.inside.left (c.self.inside.left - 1) c.self.inside.rest.now c.WIDTH-width.result left (c.WIDTH-width.ensures ∙ g.met.K.ElementKind.width_is) c.self.invariant

pub returns : goal.returns
returns g c =
    let left : c.self.inside.left ≡ suc (c.self.inside.left - 1) = omega arith in
    let step = sym c.self.view_is
    ∙ element_step g.K.ElementKind.kind c.self.inside.left (c.self.inside.left - 1) c.self.inside.rest.now c.WIDTH-width.result left (c.WIDTH-width.ensures ∙ g.met.K.ElementKind.width_is) c.self.invariant
    (g.K.ElementKind.row c.lawful_row.result) c.lawful_row.ensures in
    record { steps = step; goes = record { on = λ _. (tt, tt, shorter _ _ _ step); keeps = tt; rests = λ _. tt } }
