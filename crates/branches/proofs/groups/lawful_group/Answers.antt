use Rattle.std.proofs.Common.{sym, arith}
use Rattle.branches.proofs.Firsts.{unlawful_in_group}
use Rattle.branches.proofs.groups.lawful_group.Goals as goal

pub element_at-requires : goal.element_at-requires
element_at-requires g c = omega (arith, unlawful_in_group g.K.ElementKind.kind c.args.n c.args.bytes.now c.in-Some.i (sym c.in-Some.ensures), c.requires.near)

pub overflow_add-place : goal.overflow_add-place
overflow_add-place g c = record { fits = omega (arith, unlawful_in_group g.K.ElementKind.kind c.args.n c.args.bytes.now c.in-Some.i (sym c.in-Some.ensures), c.element_at.ensures, c.requires.near) }
