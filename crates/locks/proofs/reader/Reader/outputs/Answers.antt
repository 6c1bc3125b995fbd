use Rattle.std.proofs.Common.{◌≡◌, Err, Result, sym, ap, ◌∙◌, arith}
use Rattle.std.proofs.lemmas.Result.{err_from_is_err_and}
use Rattle.faults.specs.declared.Fault.{Fault}
use Rattle.locks.specs.Reading.{output_tested}
use Rattle.locks.specs.Model.{standing, reached}
use Rattle.locks.proofs.Loops.{outputs_next, outputs_refused, outputs_end}
use Rattle.locks.proofs.reader.Reader.outputs.Goals as goal

pub returns-in_err-next_output : goal.returns-in_err-next_output
returns-in_err-next_output g c =
    let p = err_from_is_err_and c.from_residual.result c.from_residual.ensures.1 in
    let e : output_tested g.K.ElementKind.kind c.args.wires c.loop.self.at c.loop.self.rest.now ≡ Err c.in_err-next_output.field-0.0 =
    sym c.next_output.ensures.outcome ∙ c.in_err-next_output.was in
    ap (λ (r : Result (Unit {0}) Fault). reached r (standing c.next_output.new.self)) (p.1 ∙ ap Err p.2)
    ∙ outputs_refused g.K.ElementKind.kind c.args.wires c.args.count c.loop.counter (standing c.loop.self) c.loop-test.true c.in_err-next_output.field-0.0 e
    ∙ c.loop.invariant

pub loop-preserved : goal.loop-preserved
loop-preserved g c =
    outputs_next g.K.ElementKind.kind c.args.wires c.args.count c.loop.counter (standing c.loop.self) c.loop-test.true (standing c.next_output.new.self) tt
    (sym c.next_output.ensures.outcome ∙ c.in_ok-next_output.was) c.next_output.ensures.stands
    ∙ c.loop.invariant

pub returns : goal.returns
returns g c =
    outputs_end g.K.ElementKind.kind c.args.wires c.args.count c.loop.counter (standing c.loop.self) (omega arith)
    ∙ c.loop.invariant
