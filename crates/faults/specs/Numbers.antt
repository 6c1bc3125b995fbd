-- The number of each reason: the one place where it stands.
use Rattle.std.specs.Prelude.{◌≡◌, ℕ, Some, None}
use Rattle.faults.specs.declared.Branch.{Branch}
use Rattle.faults.specs.declared.Reason.{Reason}
use Rattle.faults.specs.declared.Fault.{Fault}

abbrev pub number_of : Reason → ℕ
number_of Reason.Truncated = 1
number_of Reason.WrongMark = 2
number_of Reason.OutsideLimits = 3
number_of Reason.WireTooHigh = 4
number_of Reason.UnlawfulConstant = 5
number_of Reason.TrailingBytes = 6
number_of Reason.WrongSize = 7
number_of Reason.WrongPick = 8
number_of Reason.UnknownRound = 9
number_of Reason.SpentRound = 10
number_of Reason.KeeperFull = 11
number_of Reason.UnlawfulKey = 12
number_of Reason.KeyDoesNotFit = 13
number_of Reason.UnlawfulTape = 14
number_of Reason.MalformedFirstMessage = 15
number_of Reason.MalformedAnswer = 16
number_of Reason.MissedTarget = 17
number_of Reason.WrongSeal = 18
number_of Reason.WrongOutputShare = 19
number_of Reason.WrongProduct = 20

-- a refusal that speaks of branch b, and one that speaks of none
abbrev pub fault_in : Branch → Reason → ℕ → Fault
fault_in b r p = record { reason = r; branch = Some b; place = p }

abbrev pub fault : Reason → ℕ → Fault
fault r p = record { reason = r; branch = None; place = p }

-- a number tells its reason
abbrev pub NumbersDiffer : Type 0
NumbersDiffer = (r s : Reason) → number_of r ≡ number_of s → r ≡ s
