use Rattle.std.proofs.Common.{rules}
use Rattle.theory.specs.Groups.{element_at}
use Rattle.branches.proofs.groups.element_at.Goals as goal

pub overflow_mul-result : goal.overflow_mul-result
unfolding element_at
overflow_mul-result g c = search rules

pub returns : goal.returns
unfolding element_at
returns g c = search rules
