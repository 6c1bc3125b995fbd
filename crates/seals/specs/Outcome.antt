-- What sealing answers, and what it leaves in the buffer.
use Rattle.std.specs.Prelude.{ℕ, cond, ◌&&◌, List, length, Ok, Err, Result, ◌==◌, nat_le, nat_lt}
use Rattle.faults.specs.declared.Fault.{Fault}
use Rattle.faults.specs.declared.Reason.{Reason}
use Rattle.faults.specs.Numbers.{fault}
use Rattle.seals.specs.Sealing.{Sealing}

-- a message over the longest first (place 0), then a buffer of another length (place 1)
abbrev pub admitted : ℕ → ℕ → ℕ → ℕ → Result (Unit {0}) Fault
admitted longest size message out =
    cond (nat_lt longest message) (Err (fault Reason.WrongSize 0)) (cond (out == size) (Ok tt) (Err (fault Reason.WrongSize 1)))

-- for a message and a buffer of these lengths
abbrev pub seal_answer : Sealing → ℕ → ℕ → Result (Unit {0}) Fault
seal_answer s message out = admitted s.longest s.size message out

-- for this message and buffer: the seal, or the buffer as it was
abbrev pub seal_left : Sealing → List ℕ → List ℕ → List ℕ
seal_left s message out = cond (nat_le (length message) s.longest && length out == s.size) (s.seal message) out
