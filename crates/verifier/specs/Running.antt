-- A branch on its way through the gates.
use Rattle.std.specs.Prelude.{◌≡◌, ℕ, ◌+◌, ◌<◌, List, length}
use Rattle.faults.specs.declared.Branch.{Branch}
use Rattle.kinds.specs.Kind.{Kind}
use Rattle.locks.specs.Circuit.{Gate, Circuit}
use Rattle.locks.specs.Encoding.{GateFor}
use Rattle.theory.specs.Algebra.{ops_of}
use Rattle.theory.specs.Runs.{View, step}

-- with room for `most` wires, and what is left of its view
pub record Running : Type 0 where
  pub branch : Branch
  pub most : ℕ
  pub view : View (List ℕ)

-- one gate on
abbrev pub stepped : Kind → Gate (List ℕ) → Running → Running
stepped K g r = record { branch = r.branch; most = r.most; view = step (ops_of K) r.branch g r.view }

-- the next gate is one for it
pub record Takes (K : Kind) (g : Gate (List ℕ)) (r : Running) : Type 0 where
  pub fit : GateFor K (length r.view.wires) g
  pub room : length r.view.wires < r.most

-- in front of the gates, and behind them
pub record Starts (l : Circuit (List ℕ)) (r : Running) : Type 0 where
  pub wired : length r.view.wires ≡ l.inputs
  pub room : r.most ≡ l.inputs + length l.gates

abbrev pub Ends : Circuit (List ℕ) → Running → Type 0
Ends l r = length r.view.wires ≡ l.inputs + length l.gates
