use Rattle.std.proofs.Common.{◌≡◌, ℕ, ◌+◌, Err, Result, sym, ap, ◌∙◌, arith}
use Rattle.std.proofs.lemmas.Result.{err_from_is_err_and}
use Rattle.faults.specs.declared.Fault.{Fault}
use Rattle.locks.specs.Reading.{gate_tested}
use Rattle.locks.specs.Model.{standing, reached}
use Rattle.locks.proofs.Loops.{gates_next, gates_refused, gates_end}
use Rattle.locks.proofs.reader.Reader.gates.Goals as goal

pub returns-in_err-products-clause-told : goal.returns-in_err-products-clause-told
returns-in_err-products-clause-told g c =
    let p = err_from_is_err_and c.from_residual.result c.from_residual.ensures.1 in
    let s = standing c.loop-j.self in
    let e : gate_tested g.K.ElementKind.kind c.args.inputs (c.args.inputs + c.loop-j.j) c.loop-j.products c.loop-j.self.at c.loop-j.self.rest.now ≡ Err c.in_err-products.field-0.0 =
    sym c.next_gate.ensures.outcome ∙ c.in_err-products.was in
    ap (λ (r : Result ℕ Fault). reached r (standing c.next_gate.new.self)) (p.1 ∙ ap Err p.2)
    ∙ gates_refused g.K.ElementKind.kind c.args.inputs c.args.count c.loop-j.j c.loop-j.products s c.loop-j-test.true c.in_err-products.field-0.0 e
    ∙ c.loop-j.invariant.0

pub loop-j-preserved : goal.loop-j-preserved
loop-j-preserved g c =
    let s = standing c.loop-j.self in
    let n = gates_next g.K.ElementKind.kind c.args.inputs c.args.count c.loop-j.j c.loop-j.products s c.loop-j-test.true c.in_ok-products.products (standing c.next_gate.new.self)
    (sym c.next_gate.ensures.outcome ∙ c.in_ok-products.was) c.next_gate.ensures.stands in
    (n.0 ∙ c.loop-j.invariant.0, omega (arith, n.1, c.loop-j.invariant.1))

pub returns-clause-told : goal.returns-clause-told
returns-clause-told g c =
    gates_end g.K.ElementKind.kind c.args.inputs c.args.count c.loop-j.j (c.args.inputs + c.loop-j.j) c.loop-j.products (standing c.loop-j.self) (omega arith)
    ∙ c.loop-j.invariant.0
