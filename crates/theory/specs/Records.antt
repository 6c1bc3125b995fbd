-- Round records by number.
use Rattle.std.specs.Prelude.{ℕ, cond, Ok, Err, Result, ◌==◌}
use Rattle.theory.specs.declared.RoundState.{RoundState}
use Rattle.theory.specs.declared.UnknownRecord.{UnknownRecord}

abbrev pub record_numbered : ℕ → Result RoundState UnknownRecord
record_numbered n =
    cond (n == 0) (Ok RoundState.Promised) (cond (n == 1) (Ok RoundState.Answered) (cond (n == 2) (Ok RoundState.Dropped) (Err (record {}))))

abbrev pub record_number : RoundState → ℕ
record_number RoundState.Promised = 0
record_number RoundState.Answered = 1
record_number RoundState.Dropped = 2
