use Rattle.std.proofs.Common.{◌≡◌, Some, arith}
use Rattle.theory.specs.Groups.{group}
use Rattle.theory.specs.Tests.{unlawful}
use Rattle.branches.proofs.Firsts.{unlawful_in_group}
use Rattle.branches.proofs.HoldingLemmas.{told_wrong}
use Rattle.branches.proofs.group.Group.read_at.Goals as goal

pub element_at-requires : goal.element_at-requires
element_at-requires g c =
    let wrong : unlawful g.K.ElementKind.kind (group g.K.ElementKind.kind c.args.n c.args.bytes.now) ≡ Some c.in-Err.i = told_wrong _ _ _ c.in-Err.ensures in
    omega (arith, unlawful_in_group g.K.ElementKind.kind c.args.n c.args.bytes.now c.in-Err.i wrong, c.requires.near)

pub overflow_add-place : goal.overflow_add-place
overflow_add-place g c =
    let wrong : unlawful g.K.ElementKind.kind (group g.K.ElementKind.kind c.args.n c.args.bytes.now) ≡ Some c.in-Err.i = told_wrong _ _ _ c.in-Err.ensures in
    record { fits = omega (arith, unlawful_in_group g.K.ElementKind.kind c.args.n c.args.bytes.now c.in-Err.i wrong, c.element_at.ensures, c.requires.near) }
