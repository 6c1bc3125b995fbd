use Rattle.std.proofs.Common.{◌≡◌, length, drop}
use Rattle.exports.specs.State.{states_in}
use Rattle.exports.proofs.Tables.{joined}
use Rattle.exports.proofs.state.read_records.Given as goal

abbrev pub invariant-loop-number : goal.invariant-loop-number
invariant-loop-number l = (length l.records.items ≡ l.number-index) × (states_in l.numbers ≡ joined l.records.items (states_in (drop l.number-index l.numbers)))
