use Rattle.std.proofs.Common.{length, sym, ap, ◌∙◌}
use Rattle.kinds.specs.Groups.{group_length}
use Rattle.theory.specs.Groups.{group_bytes}
use Rattle.theory.proofs.Groups.{counted, written_read}
use Rattle.branches.proofs.group.Group.bytes.Goals as goal

pub returns : goal.returns
returns g c =
    let kind = g.K.ElementKind.kind in
    let n = c.self.inside.count in
    let bs = c.self.inside.bytes.now in
    record {
      bytes = sym (written_read kind n bs c.self.invariant.sized) ∙ ap (group_bytes kind) c.self.view_is;
      sized = c.self.invariant.sized ∙ ap (group_length kind) (sym (counted kind n bs) ∙ ap length c.self.view_is);
    }
