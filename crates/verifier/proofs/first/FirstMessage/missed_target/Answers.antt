use Rattle.std.proofs.Common.{rules}
use Rattle.faults.specs.declared.Branch.TheVariants.{One as one, Two as two, Three as three}
use Rattle.verifier.proofs.first.FirstMessage.missed_target.Goals as goal

pub loop-j-init : goal.loop-j-init
loop-j-init g c =
    let a = c.requires one in
    let b = c.requires two in
    let d = c.requires three in
    search rules
