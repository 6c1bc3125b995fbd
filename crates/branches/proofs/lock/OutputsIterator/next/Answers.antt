use Rattle.std.proofs.Common.{◌≡◌, ℕ, suc, ◌-◌, sym, ap, ◌∙◌, arith}
use Rattle.locks.specs.Model.{output_of, standing}
use Rattle.branches.specs.Walks.{outputs_at}
use Rattle.branches.proofs.Walked.{outputs_none}
use Rattle.branches.proofs.WalkSteps.{output_next, outputs_walk_on, outputs_step, shorter}
use Rattle.branches.proofs.lock.OutputsIterator.next.Goals as goal

pub returns-then-self-eq0-clause-steps : goal.returns-then-self-eq0-clause-steps
returns-then-self-eq0-clause-steps g c =
    let kind = g.K.ElementKind.kind in
    let s = standing c.self.inside.reader in
    let e = sym c.self.view_is ∙ ap (λ (k : ℕ). outputs_at kind k s) c.if-self-eq0.true ∙ outputs_none kind s in
    (e, e)

pub next_output-requires : goal.next_output-requires
next_output-requires g c =
    let left : c.self.inside.left ≡ suc (c.self.inside.left - 1) = omega arith in
    output_next g.K.ElementKind.kind c.self.inside.left (c.self.inside.left - 1) (standing c.self.inside.reader) left c.self.invariant

pub invariant_of-self : goal.invariant_of-self
invariant_of-self g c =
    let left : c.self.inside.left ≡ suc (c.self.inside.left - 1) = omega arith in
    outputs_walk_on g.K.ElementKind.kind c.self.inside.left (c.self.inside.left - 1) (standing c.self.inside.reader) left c.self.invariant
    (output_of c.next_output.result) c.next_output.ensures.output (standing c.next_output.new.reader) c.next_output.ensures.stands

pub returns : goal.returns
returns g c =
    let left : c.self.inside.left ≡ suc (c.self.inside.left - 1) = omega arith in
    let step = sym c.self.view_is
    ∙ outputs_step g.K.ElementKind.kind c.self.inside.left (c.self.inside.left - 1) (standing c.self.inside.reader) left c.self.invariant
    (output_of c.next_output.result) c.next_output.ensures.output (standing c.next_output.new.reader) c.next_output.ensures.stands in
    record { steps = step; goes = record { on = λ _. (tt, tt, shorter _ _ _ step); keeps = tt; rests = λ _. tt } }
