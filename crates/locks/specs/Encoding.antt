-- A circuit as bytes, which circuits are well-formed, and what reading has to do with them.
use Rattle.std.specs.Prelude.{◌≡◌, ℕ, suc, ◌+◌, ◌<◌, ◌≤◌, List, [], ◌∷◌, ◌++◌, length, Ok}
use Rattle.std.specs.List.{flat_map, AllByRecursion}
use Rattle.kinds.specs.Kind.{Kind, Laws, Lawful, Bytes}
use Rattle.kinds.specs.Numbers.{four_bytes}
use Rattle.locks.specs.Circuit.{Gate, ac, mc, ad, mu, Output, Circuit, mus}
use Rattle.locks.specs.Limits.{most_inputs, most_gates, most_outputs, longest_view}
use Rattle.locks.specs.Lengths.{view_length}
use Rattle.locks.specs.Reading.{lock_of}

abbrev pub gate_bytes : Gate (List ℕ) → List ℕ
gate_bytes (ac a c) = 65 ∷ 67 ∷ four_bytes a ++ c
gate_bytes (mc a c) = 77 ∷ 67 ∷ four_bytes a ++ c
gate_bytes (ad a b) = 65 ∷ 68 ∷ four_bytes a ++ four_bytes b
gate_bytes (mu a b) = 77 ∷ 85 ∷ four_bytes a ++ four_bytes b

abbrev pub output_bytes : Output (List ℕ) → List ℕ
output_bytes u = 79 ∷ 85 ∷ four_bytes u.wire ++ u.target

abbrev pub encoded : Kind → Circuit (List ℕ) → List ℕ
encoded K l =
    76 ∷ 75 ∷ K.number ∷ four_bytes l.inputs ++ (four_bytes (length l.gates) ++ (four_bytes (length l.outputs)
    ++ (flat_map gate_bytes l.gates ++ flat_map output_bytes l.outputs)))

module _ (K : Kind) where
  -- a gate that writes wire `own` reads wires below it, and its constant is lawful
  abbrev pub GateFor : (own : ℕ) → Gate (List ℕ) → Type 0
  GateFor own (ac a c) = (a < own) × Lawful K c
  GateFor own (mc a c) = (a < own) × Lawful K c
  GateFor own (ad a b) = (a < own) × (b < own)
  GateFor own (mu a b) = (a < own) × (b < own)

  abbrev pub GatesFor : (own : ℕ) → List (Gate (List ℕ)) → Type 0
  GatesFor own [] = Unit {0}
  GatesFor own (g ∷ gs) = GateFor own g × GatesFor (suc own) gs

  -- an output reads any wire, and its target is lawful
  abbrev pub OutputFor : (wires : ℕ) → Output (List ℕ) → Type 0
  OutputFor wires u = (u.wire < wires) × Lawful K u.target

  pub record WellFormed (l : Circuit (List ℕ)) : Type 0 where
    pub some_inputs : 1 ≤ l.inputs
    pub few_inputs : l.inputs ≤ most_inputs
    pub few_gates : length l.gates ≤ most_gates
    pub some_outputs : 1 ≤ length l.outputs
    pub few_outputs : length l.outputs ≤ most_outputs
    pub gates_for : GatesFor l.inputs l.gates
    pub outputs_for : AllByRecursion (OutputFor (l.inputs + length l.gates)) l.outputs
    pub short_view : view_length K l.inputs (mus l.gates) ≤ longest_view

  -- bytes are read as a circuit exactly when they are the encoding of it, and it is well-formed
  pub record Reads (bs : List ℕ) : Type 0 where
    pub well_formed : (l : Circuit (List ℕ)) → lock_of K bs ≡ Ok l → WellFormed l
    pub as_encoded : (l : Circuit (List ℕ)) → lock_of K bs ≡ Ok l → encoded K l ≡ bs
    pub accepts : (l : Circuit (List ℕ)) → WellFormed l → encoded K l ≡ bs → lock_of K bs ≡ Ok l

-- of every kind that keeps the laws, and all bytes; a kind's number is a byte
abbrev pub ReadingLaw : Type 0
ReadingLaw = (K : Kind) → Laws K → (bs : List ℕ) → Bytes bs → Reads K bs
