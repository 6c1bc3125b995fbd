use Rattle.std.proofs.Common.{length, sym, ap, ◌∙◌}
use Rattle.theory.proofs.Groups.{counted}
use Rattle.branches.proofs.group.Group.len.Goals as goal

pub returns-clause-count : goal.returns-clause-count
returns-clause-count g c = sym (counted g.K.ElementKind.kind c.self.inside.count c.self.inside.bytes.now) ∙ ap length c.self.view_is
