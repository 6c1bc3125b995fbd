use Rattle.std.proofs.Common.{◌≡◌, Some, None, get_or, sym, ◌∙◌, arith, rules}
use Rattle.exports.specs.State.{state_numbered, states_in, records_of}
use Rattle.exports.proofs.Tables.{read_next, read_none, read_end}
use Rattle.exports.proofs.state.read_records.Goals as goal

pub returns-in_err-ok : goal.returns-in_err-ok
returns-in_err-ok c =
    let none : state_numbered (get_or c.args.numbers.now c.loop-number.number-index 0) ≡ None = search rules in
    let left : records_of c.from_residual.result ≡ None = search rules in
    left ∙ sym (read_none c.args.numbers.now c.loop-number.records.items c.loop-number.number-index (states_in c.args.numbers.now) c.loop-number-test.true none c.loop-number.invariant.1)

pub loop-number-preserved : goal.loop-number-preserved
loop-number-preserved c =
    let some : state_numbered (get_or c.args.numbers.now c.loop-number.number-index 0) ≡ Some c.in_ok-ok.field-0 = search rules in
    let next =
    read_next c.args.numbers.now c.loop-number.records.items c.loop-number.number-index c.in_ok-ok.field-0 (states_in c.args.numbers.now) c.loop-number-test.true some c.loop-number.invariant.1 in
    (omega (arith, c.push.ensures.len, c.loop-number.invariant.0), search rules)

pub returns : goal.returns
returns c = sym (read_end c.args.numbers.now c.loop-number.records.items c.loop-number.number-index (states_in c.args.numbers.now) c.loop-number-test.false c.loop-number.invariant.1)
