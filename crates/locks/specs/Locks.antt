-- What reading a lock gives.
use Rattle.std.specs.Prelude.{◌≡◌, ℕ, List, length, drop, Ok, Err, Result}
use Rattle.faults.specs.declared.Fault.{Fault}
use Rattle.kinds.specs.Kind.{Kind}
use Rattle.locks.specs.declared.lock.Lock.{Lock}
use Rattle.locks.specs.Circuit.{Gate, Output, Circuit, mus}
use Rattle.locks.specs.Reading.{Records, gates_in, outputs_in}
use Rattle.locks.specs.Model.{Standing, behind_header}

-- the counts of a circuit: inputs, gates, outputs, products
pub record Summary : Type 0 where
  pub inputs : ℕ
  pub gates : ℕ
  pub outputs : ℕ
  pub products : ℕ

abbrev pub summary : Circuit (List ℕ) → Summary
summary l = record { inputs = l.inputs; gates = length l.gates; outputs = length l.outputs; products = mus l.gates }

abbrev pub summary_of : Lock → Summary
summary_of l = record { inputs = l.inputs; gates = l.gates; outputs = l.outputs; products = l.products }

-- walking a lock's records again gives the circuit's gates, then its outputs, and ends with the bytes
abbrev pub Walks : Kind → Standing → Circuit (List ℕ) → Type 0
Walks K s l =
    (G : Records (Gate (List ℕ))) × (U : Records (Output (List ℕ)))
    × (gates_in K (length l.gates) s.at s.rest ≡ Ok G) × (G.items ≡ l.gates)
    × (outputs_in K (length l.outputs) G.end G.rest ≡ Ok U) × (U.items ≡ l.outputs)
    × (length U.rest ≡ 0)

-- the bytes of a lock's records
abbrev pub record_bytes : Lock → List ℕ
record_bytes l = l.records.now

-- a lock that was read has the bytes behind its header, and walking them gives the circuit
abbrev pub Walkable : Kind → List ℕ → Result (List ℕ) Fault → Result (Circuit (List ℕ)) Fault → Type 0
Walkable K bs (Ok xs) (Ok l) = (xs ≡ drop 15 bs) × Walks K (behind_header xs) l
Walkable K bs (Ok xs) (Err f) = ⊥
Walkable K bs (Err e) (Ok l) = ⊥
Walkable K bs (Err e) (Err f) = Unit {0}
