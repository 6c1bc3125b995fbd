-- What C is told of an outcome.
use Rattle.std.specs.Prelude.{ℕ, None, Ok, Err, Result}
use Rattle.faults.specs.declared.Fault.{Fault}
use Rattle.faults.specs.Branches.{told_branch}
use Rattle.faults.specs.Numbers.{number_of}
use Rattle.theory.specs.declared.PickFault.{PickFault}
use Rattle.theory.specs.Extraction.{beside}
use Rattle.exports.specs.declared.told.Refusal.{Refusal}
use Rattle.exports.specs.declared.told.ToldFault.{ToldFault}

-- an outcome of the engine; its fault speaks of no pick
abbrev pub told_by : {A : Type 0} → Result A Fault → Result A Refusal
told_by (Ok a) = Ok a
told_by (Err f) = Err (Refusal.Refused (beside None f))

-- an outcome whose fault tells its pick
abbrev pub told_beside : {A : Type 0} → Result A PickFault → Result A Refusal
told_beside (Ok a) = Ok a
told_beside (Err f) = Err (Refusal.Refused f)

-- the status: done, refused, no such kind, no such sealer, no keeper's state
abbrev pub status_by : Refusal → ℕ
status_by (Refusal.Refused f) = 1
status_by Refusal.NoKind = 2
status_by Refusal.NoSealer = 3
status_by Refusal.BadKeeper = 4

abbrev pub status_of : {A : Type 0} → Result A Refusal → ℕ
status_of (Ok a) = 0
status_of (Err r) = status_by r

abbrev pub no_fault : ToldFault
no_fault = record { place = 0; number = 0; branch = 0; pick = 0 }

abbrev pub fault_told : PickFault → ToldFault
fault_told f = record { place = f.fault.place; number = number_of f.fault.reason; branch = told_branch f.fault.branch; pick = told_branch f.pick }

-- why the engine refused, and all zero where it did not
abbrev pub refusal_told : Refusal → ToldFault
refusal_told (Refusal.Refused f) = fault_told f
refusal_told Refusal.NoKind = no_fault
refusal_told Refusal.NoSealer = no_fault
refusal_told Refusal.BadKeeper = no_fault

abbrev pub fault_of : {A : Type 0} → Result A Refusal → ToldFault
fault_of (Ok a) = no_fault
fault_of (Err r) = refusal_told r

-- what a call leaves: new where it was done, else what stood there
abbrev pub left_by : {A B : Type 0} → Result A Refusal → (A → B) → B → B
left_by (Ok a) new old = new a
left_by (Err r) new old = old
