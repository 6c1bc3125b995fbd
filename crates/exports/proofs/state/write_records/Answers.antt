use Rattle.theory.specs.declared.RoundState.TheVariants.{Promised}
use Rattle.exports.proofs.Tables.{write_next}
use Rattle.exports.proofs.state.write_records.Goals as goal

pub loop-i-preserved : goal.loop-i-preserved
loop-i-preserved c = write_next c.args.records.now c.args.numbers.now c.loop-i.numbers c.loop-i.i Promised c.number.result c.loop-i-test.true c.requires c.number.ensures c.loop-i.invariant
