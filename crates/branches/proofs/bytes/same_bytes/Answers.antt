use Rattle.std.proofs.Common.{ℕ, not, is_some, Option, ap, ◌∙◌}
use Rattle.branches.proofs.Firsts.{differ_same, not_some}
use Rattle.branches.proofs.bytes.same_bytes.Goals as goal

pub returns : goal.returns
returns c =
    not_some _ c.is_none.result _ c.is_none.ensures
    (ap (λ (o : Option ℕ). not (is_some o)) c.first_difference.ensures ∙ differ_same c.args.left.now c.args.right.now)
