use Rattle.std.proofs.Common.{length, sym, ap, ◌∙◌, arith}
use Rattle.branches.specs.Filled.{Filled}
use Rattle.branches.proofs.RowLemmas.{wires_length}
use Rattle.branches.proofs.wires.Wires.len.Goals as goal

pub returns-clause-count : goal.returns-clause-count
returns-clause-count g c = sym (wires_length g.K.ElementKind.kind c.self.inside.count c.self.inside.work.now) ∙ ap (λ (w : Filled). length w.rows) c.self.view_is

pub returns-clause-few : goal.returns-clause-few
returns-clause-few g c =
    omega (
      arith,
      wires_length g.K.ElementKind.kind c.self.inside.count c.self.inside.work.now,
      ap (λ (w : Filled). length w.rows) c.self.view_is,
      ap (λ (w : Filled). w.most) c.self.view_is,
      c.self.invariant.few,
    )
