use Rattle.std.proofs.Common.{◌≡◌, ℕ, ◌*◌, sym, ap, ◌∙◌, subst, arith}
use Rattle.kinds.specs.Kind.{Lawful}
use Rattle.branches.specs.Rows.{row_at}
use Rattle.branches.proofs.RowLemmas.{row_below, wire_lawful, wires_read}
use Rattle.branches.proofs.wires.wire.Goals as goal

pub row_of-requires : goal.row_of-requires
row_of-requires g c =
    let kind = g.K.ElementKind.kind in
    let e : c.args.a * c.WIDTH.result ≡ c.args.a * g.K.ElementKind.kind.width = ap (λ (w : ℕ). c.args.a * w) (c.WIDTH.ensures ∙ g.met.K.ElementKind.width_is) in
    record {
      within = omega (arith, e, row_below c.args.a c.args.own g.K.ElementKind.kind.width c.requires.below, c.requires.within);
      lawful = subst (λ (at : ℕ). Lawful kind (row_at kind.width at c.args.work.now)) (sym e) (wire_lawful kind c.args.own c.args.work.now c.args.a c.requires.below c.requires.lawful);
    }

pub returns : goal.returns
returns g c =
    let kind = g.K.ElementKind.kind in
    let e : c.args.a * c.WIDTH.result ≡ c.args.a * g.K.ElementKind.kind.width = ap (λ (w : ℕ). c.args.a * w) (c.WIDTH.ensures ∙ g.met.K.ElementKind.width_is) in
    c.row_of.ensures ∙ ap (λ (at : ℕ). row_at kind.width at c.args.work.now) e
    ∙ sym (wires_read kind c.args.own c.args.work.now c.args.a kind.zero c.requires.below)
