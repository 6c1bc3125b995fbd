use Rattle.std.proofs.Common.{◌≡◌, take}
use Rattle.theory.specs.Groups.{group}
use Rattle.branches.specs.Wires.{wires_in}
use Rattle.branches.proofs.groups.wires_from_group.Given as goal

abbrev pub invariant-loop-i : goal.invariant-loop-i
invariant-loop-i g l =
    let kind = g.K.ElementKind.kind in
    wires_in kind l.i l.work ≡ take l.i (group kind l.n l.bytes)
