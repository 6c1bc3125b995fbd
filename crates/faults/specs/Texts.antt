-- A refusal as text.
use Rattle.std.specs.Prelude.{ℕ, List, ◌++◌, codes, decimal}
use Rattle.faults.specs.declared.Fault.{Fault}
use Rattle.faults.specs.Branches.{told_branch}
use Rattle.faults.specs.Numbers.{number_of}

abbrev pub told_text : (number branch place : ℕ) → List ℕ
told_text number branch place =
    codes "refused " ++ (decimal number ++ (codes " " ++ (decimal branch ++ (codes " " ++ decimal place))))

-- the fault's number, branch and place
abbrev pub refused_text : Fault → List ℕ
refused_text f = told_text (number_of f.reason) (told_branch f.branch) f.place
