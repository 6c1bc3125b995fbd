use Rattle.std.proofs.Common.{ℕ, sym, ap, ◌∙◌, subst, arith}
use Rattle.kinds.specs.Kind.{Lawful}
use Rattle.branches.specs.Rows.{row_at}
use Rattle.branches.proofs.GroupLemmas.{element_below, element_lawful, element_read}
use Rattle.branches.proofs.groups.element.Goals as goal

pub element_at-requires : goal.element_at-requires
element_at-requires g c = omega (arith, element_below g.K.ElementKind.kind c.args.n c.args.i c.requires.below, c.requires.within)

pub row_of-requires : goal.row_of-requires
row_of-requires g c =
    let kind = g.K.ElementKind.kind in
    record {
      within = omega (arith, c.element_at.ensures, element_below g.K.ElementKind.kind c.args.n c.args.i c.requires.below, c.requires.within);
      lawful = subst (λ (at : ℕ). Lawful kind (row_at kind.width at c.args.bytes.now)) (sym c.element_at.ensures) (element_lawful kind c.args.n c.args.i c.args.bytes.now c.requires.below c.requires.lawful);
    }

pub returns : goal.returns
returns g c =
    let kind = g.K.ElementKind.kind in
    c.row_of.ensures ∙ ap (λ (at : ℕ). row_at kind.width at c.args.bytes.now) c.element_at.ensures
    ∙ sym (element_read kind c.args.n c.args.i c.args.bytes.now c.requires.below)
