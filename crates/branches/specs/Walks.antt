-- A lock that was read, walked again: its circuit, from the counts and the bytes of its records.
use Rattle.std.specs.Prelude.{◌≡◌, ℕ, ◌+◌, ◌-◌, ◌*◌, ◌≤◌, true, List, [], length, drop, is_ok, Ok, Err, Result}
use Rattle.std.specs.List.{AllByRecursion}
use Rattle.faults.specs.declared.Fault.{Fault}
use Rattle.kinds.specs.Kind.{Kind}
use Rattle.locks.specs.declared.lock.Lock.{Lock}
use Rattle.locks.specs.Circuit.{Gate, Output, Circuit}
use Rattle.locks.specs.Reading.{Records, gates_in, outputs_in, output_size}
use Rattle.locks.specs.Model.{Standing, start_of, behind_header}
use Rattle.locks.specs.Locks.{summary, summary_of, record_bytes}
use Rattle.locks.specs.Encoding.{GatesFor, OutputFor, WellFormed}

abbrev pub items_of : {A : Type 0} → Result (Records A) Fault → List A
items_of (Ok r) = r.items
items_of (Err f) = []

-- n gates, and n outputs, from where a reader stands
unfoldable pub gates_at : Kind → (n : ℕ) → Standing → List (Gate (List ℕ))
gates_at K n s = items_of (gates_in K n s.at s.rest)

unfoldable pub outputs_at : Kind → (n : ℕ) → Standing → List (Output (List ℕ))
outputs_at K n s = items_of (outputs_in K n s.at s.rest)

-- they are there, and the gates write the wires from `own` on
pub record GatesStand (K : Kind) (n own : ℕ) (s : Standing) : Type 0 where
  pub walked : is_ok (gates_in K n s.at s.rest) ≡ true
  pub for : GatesFor K own (gates_at K n s)

pub record OutputsStand (K : Kind) (n wires : ℕ) (s : Standing) : Type 0 where
  pub walked : is_ok (outputs_in K n s.at s.rest) ≡ true
  pub for : AllByRecursion (OutputFor K wires) (outputs_at K n s)

-- in front of the gates; in front of the outputs, which are found from the end since all have one size
abbrev pub gates_place : Lock → Standing
gates_place l = behind_header (record_bytes l)

abbrev pub outputs_place : Kind → Lock → Standing
outputs_place K l = start_of (drop (length (record_bytes l) - l.outputs * output_size K) (record_bytes l))

abbrev pub circuit_of : Kind → Lock → Circuit (List ℕ)
circuit_of K l = record { inputs = l.inputs; gates = gates_at K l.gates (gates_place l); outputs = outputs_at K l.outputs (outputs_place K l) }

-- what is known of a lock that was read
pub record Stands (K : Kind) (l : Lock) : Type 0 where
  pub gates_stand : GatesStand K l.gates l.inputs (gates_place l)
  pub outputs_stand : OutputsStand K l.outputs (l.inputs + l.gates) (outputs_place K l)
  pub outputs_long : l.outputs * output_size K ≤ length (record_bytes l)
  pub well_formed : WellFormed K (circuit_of K l)
  pub summed : summary (circuit_of K l) ≡ summary_of l
