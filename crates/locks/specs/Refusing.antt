-- Why bytes are refused, told by the encoding and not by the reader: all that stands before the broken rule is well-formed.
use Rattle.std.specs.Prelude.{◌≡◌, ℕ, ◌+◌, ◌<◌, ◌≤◌, false, ◌⊎◌, List, [], ◌∷◌, ◌++◌, length, take, Err, ◌≢◌}
use Rattle.std.specs.List.{flat_map, AllByRecursion}
use Rattle.faults.specs.declared.Reason.{Reason}
use Rattle.faults.specs.declared.Fault.{Fault}
use Rattle.faults.specs.Numbers.{fault}
use Rattle.kinds.specs.Kind.{Kind, Laws, Bytes}
use Rattle.kinds.specs.Numbers.{four_bytes}
use Rattle.locks.specs.declared.records.Counts.{Counts}
use Rattle.locks.specs.Circuit.{Gate, ac, mc, ad, mu, Output, Circuit, mus}
use Rattle.locks.specs.Limits.{most_inputs, most_gates, most_outputs, longest_view}
use Rattle.locks.specs.Lengths.{view_length}
use Rattle.locks.specs.Reading.{GateMark, lock_of}
use Rattle.locks.specs.Encoding.{gate_bytes, output_bytes, encoded, GateFor, GatesFor, OutputFor, WellFormed}

-- the letters of a gate's mark, and the size of its record
abbrev pub first_letter : GateMark → ℕ
first_letter GateMark.AddConstant = 65
first_letter GateMark.MultiplyConstant = 77
first_letter GateMark.Add = 65
first_letter GateMark.Multiply = 77

abbrev pub second_letter : GateMark → ℕ
second_letter GateMark.AddConstant = 67
second_letter GateMark.MultiplyConstant = 67
second_letter GateMark.Add = 68
second_letter GateMark.Multiply = 85

abbrev pub letters : GateMark → List ℕ
letters m = first_letter m ∷ second_letter m ∷ []

abbrev pub record_size : Kind → GateMark → ℕ
record_size K GateMark.AddConstant = 6 + K.width
record_size K GateMark.MultiplyConstant = 6 + K.width
record_size K GateMark.Add = 10
record_size K GateMark.Multiply = 10

-- a record at the front of bytes
abbrev pub InFront : (bytes xs : List ℕ) → Type 0
InFront bytes xs = (ys : List ℕ) × (bytes ++ ys ≡ xs)

module _ (K : Kind) where
  -- why the fields of a gate that writes wire `own`, and whose record stands at the offset `at`, are refused
  abbrev pub RowBroken : (own at a : ℕ) (c : List ℕ) → Fault → Type 0
  RowBroken own at a c f =
      ((own ≤ a) × (f ≡ fault Reason.WireTooHigh (at + 2)))
      ⊎ ((a < own) × (K.lawful c ≡ false) × (f ≡ fault Reason.UnlawfulConstant (at + 6)))

  abbrev pub WiresBroken : (own at a b : ℕ) → Fault → Type 0
  WiresBroken own at a b f =
      ((own ≤ a) × (f ≡ fault Reason.WireTooHigh (at + 2)))
      ⊎ ((a < own) × (own ≤ b) × (f ≡ fault Reason.WireTooHigh (at + 6)))

  abbrev pub FieldsBroken : (own at : ℕ) → Gate (List ℕ) → Fault → Type 0
  FieldsBroken own at (ac a c) f = RowBroken own at a c f
  FieldsBroken own at (mc a c) f = RowBroken own at a c f
  FieldsBroken own at (ad a b) f = WiresBroken own at a b f
  FieldsBroken own at (mu a b) f = WiresBroken own at a b f

  -- why a gate record at the front of xs is refused, where q products stand before it in a lock with k inputs
  pub data GateBroken (k own q at : ℕ) (xs : List ℕ) : Fault → Type 0 where
    gate_cut : length xs < 2 → GateBroken k own q at xs (fault Reason.Truncated at)
    gate_unmarked : 2 ≤ length xs → ((m : GateMark) → take 2 xs ≢ letters m) → GateBroken k own q at xs (fault Reason.WrongMark at)
    gate_short : (m : GateMark) → take 2 xs ≡ letters m → length xs < record_size K m → GateBroken k own q at xs (fault Reason.Truncated at)
    gate_field : (g : Gate (List ℕ)) (f : Fault) → InFront (gate_bytes g) xs → FieldsBroken own at g f → GateBroken k own q at xs f
    gate_view : (a b : ℕ) → InFront (gate_bytes (mu a b)) xs → GateFor K own (mu a b) → longest_view < view_length K k (q + 1)
        → GateBroken k own q at xs (fault Reason.OutsideLimits at)

  -- why an output record at the front of xs is refused, in a lock with so many wires
  pub data OutputBroken (wires at : ℕ) (xs : List ℕ) : Fault → Type 0 where
    output_cut : length xs < 2 → OutputBroken wires at xs (fault Reason.Truncated at)
    output_unmarked : 2 ≤ length xs → (take 2 xs ≢ 79 ∷ 85 ∷ []) → OutputBroken wires at xs (fault Reason.WrongMark at)
    output_short : take 2 xs ≡ 79 ∷ 85 ∷ [] → length xs < 6 + K.width → OutputBroken wires at xs (fault Reason.Truncated at)
    output_field : (u : Output (List ℕ)) (f : Fault) → InFront (output_bytes u) xs → RowBroken wires at u.wire u.target f → OutputBroken wires at xs f

-- a header that says a kind's number and three counts
abbrev pub header_bytes : ℕ → Counts → List ℕ
header_bytes number n = 76 ∷ 75 ∷ number ∷ four_bytes n.inputs ++ (four_bytes n.gates ++ four_bytes n.outputs)

abbrev pub Inside : (low high n : ℕ) → Type 0
Inside low high n = (low ≤ n) × (n ≤ high)

abbrev pub Outside : (low high n : ℕ) → Type 0
Outside low high n = (n < low) ⊎ (high < n)

module _ (K : Kind) where
  -- why what a header says is refused: the kind's number, then the counts from left to right
  abbrev pub CountsBroken : (number : ℕ) → Counts → Fault → Type 0
  CountsBroken number n f =
      ((number ≢ K.number) × (f ≡ fault Reason.OutsideLimits 2))
      ⊎ ((number ≡ K.number) × (Outside 1 most_inputs n.inputs) × (f ≡ fault Reason.OutsideLimits 3))
      ⊎ ((number ≡ K.number) × (Inside 1 most_inputs n.inputs) × (Outside 0 most_gates n.gates) × (f ≡ fault Reason.OutsideLimits 7))
      ⊎ ((number ≡ K.number) × (Inside 1 most_inputs n.inputs) × (Inside 0 most_gates n.gates) × (Outside 1 most_outputs n.outputs) × (f ≡ fault Reason.OutsideLimits 11))

  pub data HeaderBroken (bs : List ℕ) : Fault → Type 0 where
    header_cut : length bs < 2 → HeaderBroken bs (fault Reason.Truncated 0)
    header_unmarked : 2 ≤ length bs → (take 2 bs ≢ 76 ∷ 75 ∷ []) → HeaderBroken bs (fault Reason.WrongMark 0)
    header_short : take 2 bs ≡ 76 ∷ 75 ∷ [] → length bs < 15 → HeaderBroken bs (fault Reason.Truncated 0)
    header_field : (number : ℕ) (n : Counts) (f : Fault) → InFront (header_bytes number n) bs → CountsBroken number n f → HeaderBroken bs f

  -- a header with counts within their limits
  pub record HeaderRight (n : Counts) : Type 0 where
    pub inputs_right : Inside 1 most_inputs n.inputs
    pub gates_right : n.gates ≤ most_gates
    pub outputs_right : Inside 1 most_outputs n.outputs

  -- why a lock's bytes are refused: in the header; in a gate behind gates that are right; in an output behind gates and outputs that are right;
  -- or behind a whole lock
  pub data Refused (bs : List ℕ) : Fault → Type 0 where
    in_header : (f : Fault) → HeaderBroken bs f → Refused bs f
    in_gate : (f : Fault) (n : Counts) (gs : List (Gate (List ℕ))) (xs : List ℕ) → HeaderRight n → length gs < n.gates → GatesFor K n.inputs gs
        → header_bytes K.number n ++ (flat_map gate_bytes gs ++ xs) ≡ bs
        → GateBroken K n.inputs (n.inputs + length gs) (mus gs) (15 + length (flat_map gate_bytes gs)) xs f → Refused bs f
    in_output : (f : Fault) (n : Counts) (gs : List (Gate (List ℕ))) (us : List (Output (List ℕ))) (xs : List ℕ) → HeaderRight n → length gs ≡ n.gates
        → GatesFor K n.inputs gs → length us < n.outputs → AllByRecursion (OutputFor K (n.inputs + n.gates)) us
        → header_bytes K.number n ++ (flat_map gate_bytes gs ++ (flat_map output_bytes us ++ xs)) ≡ bs
        → OutputBroken K (n.inputs + n.gates) (15 + length (flat_map gate_bytes gs) + length (flat_map output_bytes us)) xs f → Refused bs f
    behind : (l : Circuit (List ℕ)) (x : ℕ) (xs : List ℕ) → WellFormed K l → encoded K l ++ (x ∷ xs) ≡ bs → Refused bs (fault Reason.TrailingBytes (length (encoded K l)))

-- a fault tells the first broken rule, for every kind that keeps the laws and all bytes
abbrev pub RefusalLaw : Type 0
RefusalLaw = (K : Kind) → Laws K → (bs : List ℕ) → Bytes bs → (f : Fault) → lock_of K bs ≡ Err f → Refused K bs f
