use Rattle.std.proofs.Common.{◌≡◌, ◌+◌, ◌-◌, ◌≤◌}
use Rattle.faults.specs.Outcomes.{map_ok}
use Rattle.locks.specs.Reading.{gates_from}
use Rattle.locks.specs.Model.{tally}
use Rattle.locks.proofs.reader.Reader.gates.Given as goal

abbrev pub invariant-loop-j : goal.invariant-loop-j
invariant-loop-j g l =
    let kind = g.K.ElementKind.kind in
    (map_ok (tally l.products) (gates_from kind l.inputs (l.count - l.j) (l.inputs + l.j) l.products l.self.at l.self.rest.now)
    ≡ map_ok (tally 0) (gates_from kind l.inputs l.count l.inputs 0 l.initial.self.at l.initial.self.rest.now))
    × (l.products ≤ l.j)
