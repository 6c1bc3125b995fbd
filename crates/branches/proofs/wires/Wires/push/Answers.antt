use Rattle.std.proofs.Common.{◌+◌, ◌<◌, ◌∷◌, [], ◌++◌, length, refl, ap, ◌∙◌, arith}
use Rattle.branches.specs.Filled.{Filled}
use Rattle.branches.proofs.RowLemmas.{wires_length}
use Rattle.branches.proofs.FilledLemmas.{room_for, grown, fills_more}
use Rattle.branches.proofs.wires.Wires.push.Goals as goal

pub add_wire-requires : goal.add_wire-requires
add_wire-requires g c =
    let below : c.self.inside.count < c.self.inside.most =
    omega (
      arith,
      c.requires,
      wires_length g.K.ElementKind.kind c.self.inside.count c.self.inside.work.now,
      ap (λ (w : Filled). length w.rows) c.self.view_is,
      ap (λ (w : Filled). w.most) c.self.view_is,
    ) in
    room_for g.K.ElementKind.kind c.self.inside.count c.self.inside.most c.self.inside.work.now below c.self.invariant

pub invariant_of-self : goal.invariant_of-self
invariant_of-self g c =
    let below : c.self.inside.count < c.self.inside.most =
    omega (
      arith,
      c.requires,
      wires_length g.K.ElementKind.kind c.self.inside.count c.self.inside.work.now,
      ap (λ (w : Filled). length w.rows) c.self.view_is,
      ap (λ (w : Filled). w.most) c.self.view_is,
    ) in
    fills_more g.K.ElementKind.kind c.self.inside.count (c.self.inside.count + 1) c.self.inside.work.now c.add_wire.new.work (g.K.ElementKind.row c.args.x)
    refl c.add_wire.ensures c.self.inside.most below c.self.invariant c.add_wire.auto.work (g.met.K.ElementKind.lawful c.args.x)

pub returns-clause-rows : goal.returns-clause-rows
returns-clause-rows g c =
    let x = g.K.ElementKind.row c.args.x in
    grown g.K.ElementKind.kind c.self.inside.count (c.self.inside.count + 1) c.self.inside.work.now c.add_wire.new.work x refl c.add_wire.ensures
    ∙ ap (λ (w : Filled). w.rows ++ (x ∷ [])) c.self.view_is
