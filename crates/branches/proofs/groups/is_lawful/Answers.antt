use Rattle.std.proofs.Common.{ℕ, sym, ap, ◌∙◌, arith}
use Rattle.branches.specs.Rows.{row_at}
use Rattle.branches.proofs.GroupLemmas.{element_below, element_read, some_lawful}
use Rattle.branches.proofs.groups.is_lawful.Goals as goal

pub element_at-requires : goal.element_at-requires
element_at-requires g c = omega (arith, element_below g.K.ElementKind.kind c.args.n c.args.i c.requires.below, c.requires.within)

pub read_row-requires : goal.read_row-requires
read_row-requires g c = omega (arith, c.element_at.ensures, element_below g.K.ElementKind.kind c.args.n c.args.i c.requires.below, c.requires.within)

pub returns : goal.returns
returns g c =
    let kind = g.K.ElementKind.kind in
    c.is_some.ensures
    ∙ some_lawful kind g.K.ElementKind.row g.met.K.ElementKind.lawful c.read_row.result _ c.read_row.ensures
    ∙ ap (λ (at : ℕ). kind.lawful (row_at kind.width at c.args.bytes.now)) c.element_at.ensures
    ∙ sym (ap kind.lawful (element_read kind c.args.n c.args.i c.args.bytes.now c.requires.below))
