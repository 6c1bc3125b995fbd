-- The three branches that a run is split into: their order, their numbers, and the pick that names one.
use Rattle.std.specs.Prelude.{ℕ, zero, suc, Some, None, Option, Result, ok_or}
use Rattle.faults.specs.declared.Fault.{Fault}
use Rattle.faults.specs.declared.Reason.{Reason}
use Rattle.faults.specs.Numbers.{fault}
use Rattle.faults.specs.declared.Branch.{Branch}
use Rattle.faults.specs.declared.Branch.TheVariants.{One as one, Two as two, Three as three}

-- the branch after
abbrev pub next : Branch → Branch
next one = two
next two = three
next three = one

-- how many branches stand before one
abbrev pub behind : Branch → ℕ
behind one = 0
behind two = 1
behind three = 2

abbrev pub pick_byte : Branch → ℕ
pick_byte one = 1
pick_byte two = 2
pick_byte three = 3

abbrev pub branch_of : ℕ → Option Branch
branch_of zero = None
branch_of (suc zero) = Some one
branch_of (suc (suc zero)) = Some two
branch_of (suc (suc (suc zero))) = Some three
branch_of (suc (suc (suc (suc n)))) = None

-- a branch as it is told outside, 0 for none
abbrev pub told_branch : Option Branch → ℕ
told_branch None = 0
told_branch (Some b) = pick_byte b

-- the pick, as a branch
abbrev pub picked : ℕ → Result Branch Fault
picked e = ok_or (branch_of e) (fault Reason.WrongPick e)
