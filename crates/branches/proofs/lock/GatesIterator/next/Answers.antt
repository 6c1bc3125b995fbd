use Rattle.std.proofs.Common.{◌≡◌, ℕ, suc, ◌-◌, sym, ap, ◌∙◌, arith}
use Rattle.locks.specs.Model.{gate_of, standing}
use Rattle.branches.specs.Walks.{gates_at}
use Rattle.branches.proofs.Walked.{gates_none}
use Rattle.branches.proofs.WalkSteps.{gate_next, gates_walk_on, gates_step, shorter}
use Rattle.branches.proofs.lock.GatesIterator.next.Goals as goal

pub returns-then-self-eq0-clause-steps : goal.returns-then-self-eq0-clause-steps
returns-then-self-eq0-clause-steps g c =
    let kind = g.K.ElementKind.kind in
    let s = standing c.self.inside.reader in
    let e = sym c.self.view_is ∙ ap (λ (k : ℕ). gates_at kind k s) c.if-self-eq0.true ∙ gates_none kind s in
    (e, e)

pub next_gate-requires : goal.next_gate-requires
next_gate-requires g c =
    let left : c.self.inside.left ≡ suc (c.self.inside.left - 1) = omega arith in
    gate_next g.K.ElementKind.kind c.self.inside.left (c.self.inside.left - 1) (standing c.self.inside.reader) left c.self.invariant

pub invariant_of-self : goal.invariant_of-self
invariant_of-self g c =
    let left : c.self.inside.left ≡ suc (c.self.inside.left - 1) = omega arith in
    gates_walk_on g.K.ElementKind.kind c.self.inside.left (c.self.inside.left - 1) (standing c.self.inside.reader) left c.self.invariant
    (gate_of c.next_gate.result) c.next_gate.ensures.gate (standing c.next_gate.new.reader) c.next_gate.ensures.stands

pub returns : goal.returns
returns g c =
    let left : c.self.inside.left ≡ suc (c.self.inside.left - 1) = omega arith in
    let step = sym c.self.view_is
    ∙ gates_step g.K.ElementKind.kind c.self.inside.left (c.self.inside.left - 1) (standing c.self.inside.reader) left c.self.invariant
    (gate_of c.next_gate.result) c.next_gate.ensures.gate (standing c.next_gate.new.reader) c.next_gate.ensures.stands in
    record { steps = step; goes = record { on = λ _. (tt, tt, shorter _ _ _ step); keeps = tt; rests = λ _. tt } }
