use Rattle.branches.proofs.HoldingLemmas.{front_holds, front_same}
use Rattle.branches.proofs.group.Group.lawful.Goals as goal

pub invariant_of-result : goal.invariant_of-result
invariant_of-result g c = front_holds g.K.ElementKind.kind c.args.n c.args.bytes.now c.group_length.result c.group_length.ensures c.requires.within c.requires.lawful

pub returns : goal.returns
returns g c = front_same g.K.ElementKind.kind c.args.n c.args.bytes.now c.group_length.result c.group_length.ensures
