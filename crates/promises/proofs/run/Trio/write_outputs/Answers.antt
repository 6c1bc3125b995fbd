use Rattle.std.proofs.Common.{rules}
use Rattle.faults.specs.declared.Branch.TheVariants.{One as one, Two as two, Three as three}
use Rattle.promises.proofs.run.Trio.write_outputs.Goals as goal

pub write_outputs-requires-clause-ends : goal.write_outputs-requires-clause-ends
write_outputs-requires-clause-ends g c =
    let a = c.requires.ends one in
    let b = c.requires.ends two in
    let d = c.requires.ends three in
    search rules

pub write_outputs-requires-2-clause-ends : goal.write_outputs-requires-2-clause-ends
write_outputs-requires-2-clause-ends g c =
    let a = c.requires.ends one in
    let b = c.requires.ends two in
    let d = c.requires.ends three in
    search rules

pub write_outputs-requires-3-clause-ends : goal.write_outputs-requires-3-clause-ends
write_outputs-requires-3-clause-ends g c =
    let a = c.requires.ends one in
    let b = c.requires.ends two in
    let d = c.requires.ends three in
    search rules
