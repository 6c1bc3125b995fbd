use Rattle.std.proofs.Common.{◌≡◌, ◌++◌, map, take, drop}
use Rattle.theory.specs.Records.{record_number}
use Rattle.exports.proofs.state.write_records.Given as goal

abbrev pub invariant-loop-i : goal.invariant-loop-i
invariant-loop-i l = l.numbers ≡ map record_number (take l.i l.records) ++ drop l.i l.initial.numbers
