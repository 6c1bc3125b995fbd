use Rattle.std.proofs.Common.{ℕ, suc, ◌*◌, ◌≤◌, length, ap, ◌∙◌, suc-mul, arith}
use Rattle.branches.specs.Rows.{put_row}
use Rattle.branches.specs.Wires.{wires_in}
use Rattle.branches.proofs.RowLemmas.{wires_put}
use Rattle.branches.proofs.wires.add_wire.Goals as goal

pub returns : goal.returns
returns g c =
    let kind = g.K.ElementKind.kind in
    let row = g.K.ElementKind.row c.args.x in
    let own = c.args.own in
    let fits : c.args.own * g.K.ElementKind.kind.width ≤ length c.args.work.now = omega (arith, c.requires, suc-mul c.args.own g.K.ElementKind.kind.width) in
    ap (wires_in kind (suc own)) (c.write_row.ensures ∙ ap (λ (w : ℕ). put_row kind.width (own * w) row c.args.work.now) (c.WIDTH.ensures ∙ g.met.K.ElementKind.width_is))
    ∙ wires_put kind own c.args.work.now row fits (g.met.K.ElementKind.laws.sized row (g.met.K.ElementKind.lawful c.args.x))
