use Rattle.std.proofs.Common.{◌≡◌, drop}
use Rattle.theory.specs.Groups.{group}
use Rattle.theory.specs.Tests.{unlawful}
use Rattle.branches.proofs.Firsts.{from}
use Rattle.branches.proofs.groups.first_unlawful.Given as goal

abbrev pub invariant-loop-i : goal.invariant-loop-i
invariant-loop-i g l =
    let kind = g.K.ElementKind.kind in
    from l.i (unlawful kind (drop l.i (group kind l.n l.bytes))) ≡ unlawful kind (group kind l.n l.bytes)
