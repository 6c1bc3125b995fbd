use Rattle.std.proofs.Common.{suc, ◌*◌, ◌≤◌, mul-le-mul_right, arith}
use Rattle.branches.proofs.RowLemmas.{wires_none}
use Rattle.branches.proofs.GroupLemmas.{wires_next, wires_all}
use Rattle.branches.proofs.groups.wires_from_group.Goals as goal

pub loop-i-init : goal.loop-i-init
loop-i-init g c = wires_none g.K.ElementKind.kind c.args.work.now

pub add_wire-requires : goal.add_wire-requires
add_wire-requires g c =
    let m : suc c.loop-i.i * g.K.ElementKind.kind.width ≤ c.args.n * g.K.ElementKind.kind.width = mul-le-mul_right g.K.ElementKind.kind.width c.loop-i-test.true in
    omega (arith, m, c.requires.room, c.loop-i.auto.work)

pub loop-i-preserved : goal.loop-i-preserved
loop-i-preserved g c =
    wires_next g.K.ElementKind.kind c.args.n c.loop-i.i c.args.bytes.now c.loop-i.work c.add_wire.new.work (g.K.ElementKind.row c.element-x.result)
    c.loop-i-test.true c.loop-i.invariant c.element-x.ensures c.add_wire.ensures

pub returns : goal.returns
returns g c = wires_all g.K.ElementKind.kind c.args.n c.loop-i.i c.args.bytes.now c.loop-i.work (omega arith) c.loop-i.invariant
