use Rattle.std.proofs.Common.{◌≡◌, ◌-◌}
use Rattle.faults.specs.Outcomes.{map_ok}
use Rattle.locks.specs.Reading.{outputs_from}
use Rattle.locks.specs.Model.{all_read}
use Rattle.locks.proofs.reader.Reader.outputs.Given as goal

abbrev pub invariant-loop : goal.invariant-loop
invariant-loop g l =
    let kind = g.K.ElementKind.kind in
    map_ok all_read (outputs_from kind (l.count - l.counter) l.wires l.self.at l.self.rest.now)
    ≡ map_ok all_read (outputs_from kind l.count l.wires l.initial.self.at l.initial.self.rest.now)
