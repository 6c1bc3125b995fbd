-- Three branches on their way through the gates.
use Rattle.std.specs.Prelude.{◌≡◌, ℕ, ◌+◌, ◌<◌, List, [], ◌∷◌, ◌++◌, length}
use Rattle.faults.specs.declared.Branch.{Branch}
use Rattle.faults.specs.declared.Branch.TheVariants.{One as one, Two as two, Three as three}
use Rattle.kinds.specs.Kind.{Kind}
use Rattle.locks.specs.Circuit.{Gate, Circuit, mus}
use Rattle.locks.specs.Encoding.{GateFor}
use Rattle.theory.specs.Algebra.{ops_of}
use Rattle.theory.specs.Runs.{View, next, rest, right, local, honest}

-- a branch's wires so far, with room for `most`, and the masks that are left
pub record Running : Type 0 where
  pub wires : List (List ℕ)
  pub most : ℕ
  pub masks : List (List ℕ)

-- in front of a circuit's gates
abbrev pub started : Circuit (List ℕ) → (shares masks : List (List ℕ)) → Running
started l shares masks = record { wires = shares; most = l.inputs + length l.gates; masks = masks }

pub record Trio : Type 0 where
  pub first : Running
  pub second : Running
  pub third : Running

abbrev pub of_branch : Trio → Branch → Running
of_branch t one = t.first
of_branch t two = t.second
of_branch t three = t.third

abbrev pub wires_on : Trio → Branch → List (List ℕ)
wires_on t i = (of_branch t i).wires

abbrev pub masks_on : Trio → Branch → List (List ℕ)
masks_on t i = (of_branch t i).masks

-- the product of a gate in a branch
abbrev pub due_on : Kind → Gate (List ℕ) → Trio → Branch → List ℕ
due_on K g t i = right (ops_of K) g (wires_on t i) (masks_on t i) (wires_on t (next i)) (masks_on t (next i))

-- one gate on, where p is its product
abbrev pub gate_on : Kind → Branch → Gate (List ℕ) → (p : List ℕ) → Running → Running
gate_on K i g p r = record { wires = r.wires ++ (local (ops_of K) i r.wires p g ∷ []); most = r.most; masks = rest g r.masks }

abbrev pub stepped : Kind → Gate (List ℕ) → Trio → Trio
stepped K g t = record {
  first = gate_on K one g (due_on K g t one) t.first;
  second = gate_on K two g (due_on K g t two) t.second;
  third = gate_on K three g (due_on K g t three) t.third;
}

-- the next gate is one for each branch
pub record Takes (K : Kind) (g : Gate (List ℕ)) (r : Running) : Type 0 where
  pub fit : GateFor K (length r.wires) g
  pub room : length r.wires < r.most

-- in front of the gates, and behind them
pub record Starts (l : Circuit (List ℕ)) (r : Running) : Type 0 where
  pub wired : length r.wires ≡ l.inputs
  pub room : r.most ≡ l.inputs + length l.gates
  pub masked : length r.masks ≡ mus l.gates

abbrev pub Ends : Circuit (List ℕ) → Running → Type 0
Ends l r = length r.wires ≡ l.inputs + length l.gates

-- a branch's view without its blind, with the products that the three branches make together
abbrev pub honest_view : Kind → List (Gate (List ℕ)) → Trio → Branch → View (List ℕ)
honest_view K gs t i = record { wires = wires_on t i; masks = masks_on t i; products = honest (ops_of K) gs (wires_on t) (masks_on t) i }
