use Rattle.std.proofs.Common.{sym}
use Rattle.theory.specs.Groups.{group}
use Rattle.branches.proofs.Firsts.{all_lawful}
use Rattle.branches.proofs.group.Group.read.Goals as goal

pub lawful-requires-clause-lawful : goal.lawful-requires-clause-lawful
lawful-requires-clause-lawful g c = all_lawful g.K.ElementKind.kind (group g.K.ElementKind.kind c.args.n c.args.bytes.now) (sym c.in-None.ensures)
