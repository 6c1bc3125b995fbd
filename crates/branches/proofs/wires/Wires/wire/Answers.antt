use Rattle.std.proofs.Common.{length, ap, arith}
use Rattle.branches.specs.Filled.{Filled}
use Rattle.branches.proofs.RowLemmas.{wires_length}
use Rattle.branches.proofs.wires.Wires.wire.Goals as goal

pub wire-requires-clause-below : goal.wire-requires-clause-below
wire-requires-clause-below g c =
    omega (
      arith,
      c.requires,
      wires_length g.K.ElementKind.kind c.self.inside.count c.self.inside.work.now,
      ap (λ (w : Filled). length w.rows) c.self.view_is,
    )
