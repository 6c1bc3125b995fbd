-- What the bytes of a lock say, record by record, and the fault of the first broken rule.
-- Of each record: two mark bytes, the mark, the body's bytes; then its fields from left to right; then the view's length.
use Rattle.std.specs.Prelude.{ℕ, zero, suc, ◌+◌, Bool, cond, ◌&&◌, List, [], ◌∷◌, length, take, drop, Some, None, Ok, Err, Option, Result, ◌==◌, nat_le, nat_lt, slice_index}
use Rattle.faults.specs.declared.Reason.{Reason}
use Rattle.faults.specs.declared.Fault.{Fault}
use Rattle.faults.specs.Numbers.{fault}
use Rattle.faults.specs.Outcomes.{check, and_then, map_ok}
use Rattle.kinds.specs.Kind.{Kind}
use Rattle.kinds.specs.Numbers.{number_of}
use Rattle.locks.specs.declared.records.Counts.{Counts}
use Rattle.locks.specs.Circuit.{Gate, ac, mc, ad, mu, Output, Circuit}
use Rattle.locks.specs.Limits.{most_inputs, most_gates, most_outputs, longest_view}
use Rattle.locks.specs.Lengths.{view_length}

-- the two letters of a mark
abbrev pub marked : ℕ → ℕ → List ℕ → Bool
marked a b xs = slice_index xs 0 == a && slice_index xs 1 == b

pub data GateMark : Type 0 where
  AddConstant MultiplyConstant Add Multiply : GateMark

-- a gate's mark: AC, MC, AD or MU
abbrev pub gate_mark : List ℕ → Option GateMark
gate_mark xs =
    cond (marked 65 67 xs) (Some GateMark.AddConstant)
    (cond (marked 77 67 xs) (Some GateMark.MultiplyConstant)
    (cond (marked 65 68 xs) (Some GateMark.Add)
    (cond (marked 77 85 xs) (Some GateMark.Multiply) None)))

-- how many bytes a record has
abbrev pub gate_size : Kind → Gate (List ℕ) → ℕ
gate_size K (ac a c) = 6 + K.width
gate_size K (mc a c) = 6 + K.width
gate_size K (ad a b) = 10
gate_size K (mu a b) = 10

abbrev pub output_size : Kind → ℕ
output_size K = 6 + K.width

-- a gate reads only wires below its own
abbrev pub wire_right : (own place a : ℕ) → Result (Unit {0}) Fault
wire_right own place a = check (nat_lt a own) (fault Reason.WireTooHigh place) (Ok tt)

-- In what follows `xs` are the bytes from a record's start on, which is at the offset `at`, and `fs` those behind its mark.
abbrev pub two_wires : (at : ℕ) (fs : List ℕ) → Result (ℕ × ℕ) Fault
two_wires at fs = check (nat_le 8 (length fs)) (fault Reason.Truncated at) (Ok (number_of fs, number_of (drop 4 fs)))

abbrev pub two_wires_right : (at own a b : ℕ) → Result (Unit {0}) Fault
two_wires_right at own a b = and_then (wire_right own (at + 2) a) (λ _. wire_right own (at + 6) b)

module _ (K : Kind) (at : ℕ) where
  abbrev pub wire_and_row : (fs : List ℕ) → Result (ℕ × List ℕ) Fault
  wire_and_row fs =
      check (nat_le (4 + K.width) (length fs)) (fault Reason.Truncated at) (Ok (number_of fs, take K.width (drop 4 fs)))

  abbrev pub gate_body : Option GateMark → (fs : List ℕ) → Result (Gate (List ℕ)) Fault
  gate_body None fs = Err (fault Reason.WrongMark at)
  gate_body (Some GateMark.AddConstant) fs = map_ok (λ p. ac p.0 p.1) (wire_and_row fs)
  gate_body (Some GateMark.MultiplyConstant) fs = map_ok (λ p. mc p.0 p.1) (wire_and_row fs)
  gate_body (Some GateMark.Add) fs = map_ok (λ p. ad p.0 p.1) (two_wires at fs)
  gate_body (Some GateMark.Multiply) fs = map_ok (λ p. mu p.0 p.1) (two_wires at fs)

  -- the gate record, its fields untested
  abbrev pub gate_in : (xs : List ℕ) → Result (Gate (List ℕ)) Fault
  gate_in xs = check (nat_le 2 (length xs)) (fault Reason.Truncated at) (gate_body (gate_mark xs) (drop 2 xs))

  abbrev pub output_body : Bool → (fs : List ℕ) → Result (Output (List ℕ)) Fault
  output_body m fs = check m (fault Reason.WrongMark at) (map_ok (λ p. record { wire = p.0; target = p.1 }) (wire_and_row fs))

  -- the output record, its fields untested
  abbrev pub output_in : (xs : List ℕ) → Result (Output (List ℕ)) Fault
  output_in xs = check (nat_le 2 (length xs)) (fault Reason.Truncated at) (output_body (marked 79 85 xs) (drop 2 xs))

  -- a wire below `own`, then a lawful row
  abbrev pub wire_and_row_right : (own a : ℕ) (c : List ℕ) → Result (Unit {0}) Fault
  wire_and_row_right own a c =
      and_then (wire_right own (at + 2) a) (λ _. check (K.lawful c) (fault Reason.UnlawfulConstant (at + 6)) (Ok tt))

  -- the fields of a gate that writes wire `own`
  abbrev pub gate_right : (own : ℕ) → Gate (List ℕ) → Result (Unit {0}) Fault
  gate_right own (ac a c) = wire_and_row_right own a c
  gate_right own (mc a c) = wire_and_row_right own a c
  gate_right own (ad a b) = two_wires_right at own a b
  gate_right own (mu a b) = two_wires_right at own a b

  -- the fields of an output of a lock with so many wires
  abbrev pub output_right : (wires : ℕ) → Output (List ℕ) → Result (Unit {0}) Fault
  output_right wires u = wire_and_row_right wires u.wire u.target

  -- the number of products with one more gate: the view must stay within its limit
  abbrev pub counted : (k q : ℕ) → Gate (List ℕ) → Result ℕ Fault
  counted k q (ac a c) = Ok q
  counted k q (mc a c) = Ok q
  counted k q (ad a b) = Ok q
  counted k q (mu a b) = check (nat_le (view_length K k (q + 1)) longest_view) (fault Reason.OutsideLimits at) (Ok (q + 1))

-- one gate: read, tested, counted; gives the number of products
abbrev pub gate_tested : Kind → (k own q at : ℕ) (xs : List ℕ) → Result ℕ Fault
gate_tested K k own q at xs = and_then (gate_in K at xs) (λ g. and_then (gate_right K at own g) (λ _. counted K at k q g))

abbrev pub output_tested : Kind → (wires at : ℕ) (xs : List ℕ) → Result (Unit {0}) Fault
output_tested K wires at xs = and_then (output_in K at xs) (λ u. output_right K at wires u)

-- records read one behind the other, with the bytes behind them and their offset
pub record Records (A : Type 0) : Type 0 where
  pub items : List A
  pub rest : List ℕ
  pub end : ℕ

abbrev pub in_front : {A : Type 0} → A → Records A → Records A
in_front x r = record { items = x ∷ r.items; rest = r.rest; end = r.end }

-- n gates of a lock with k inputs; the first writes wire `own`, and q products stand before it
unfoldable pub gates_from : Kind → (k n own q at : ℕ) (xs : List ℕ) → Result (Records (Gate (List ℕ))) Fault
gates_from K k zero own q at xs = Ok (record { items = []; rest = xs; end = at })
gates_from K k (suc n) own q at xs =
    and_then (gate_in K at xs) (λ g.
    and_then (gate_right K at own g) (λ _.
    and_then (counted K at k q g) (λ p.
    map_ok (in_front g) (gates_from K k n (suc own) p (at + gate_size K g) (drop (gate_size K g) xs)))))

-- n outputs of a lock with so many wires
unfoldable pub outputs_from : Kind → (n wires at : ℕ) (xs : List ℕ) → Result (Records (Output (List ℕ))) Fault
outputs_from K zero wires at xs = Ok (record { items = []; rest = xs; end = at })
outputs_from K (suc n) wires at xs =
    and_then (output_in K at xs) (λ u.
    and_then (output_right K at wires u) (λ _.
    map_ok (in_front u) (outputs_from K n wires (at + output_size K) (drop (output_size K) xs))))

-- the same records walked again, untested
unfoldable pub gates_in : Kind → (n at : ℕ) (xs : List ℕ) → Result (Records (Gate (List ℕ))) Fault
gates_in K zero at xs = Ok (record { items = []; rest = xs; end = at })
gates_in K (suc n) at xs =
    and_then (gate_in K at xs) (λ g. map_ok (in_front g) (gates_in K n (at + gate_size K g) (drop (gate_size K g) xs)))

unfoldable pub outputs_in : Kind → (n at : ℕ) (xs : List ℕ) → Result (Records (Output (List ℕ))) Fault
outputs_in K zero at xs = Ok (record { items = []; rest = xs; end = at })
outputs_in K (suc n) at xs =
    and_then (output_in K at xs) (λ u. map_ok (in_front u) (outputs_in K n (at + output_size K) (drop (output_size K) xs)))

-- no bytes are left
abbrev pub ended : List ℕ → ℕ → Result (Unit {0}) Fault
ended xs at = check (length xs == 0) (fault Reason.TrailingBytes at) (Ok tt)

abbrev pub count_within : (low high at n : ℕ) → Result ℕ Fault
count_within low high at n = check (nat_le low n && nat_le n high) (fault Reason.OutsideLimits at) (Ok n)

-- inputs, gates and outputs, each within its limits
abbrev pub counts_of : List ℕ → Result Counts Fault
counts_of bs =
    and_then (count_within 1 most_inputs 3 (number_of (drop 3 bs))) (λ k.
    and_then (count_within 0 most_gates 7 (number_of (drop 7 bs))) (λ g.
    and_then (count_within 1 most_outputs 11 (number_of (drop 11 bs))) (λ m.
    Ok (record { inputs = k; gates = g; outputs = m }))))

-- LK, the kind's number, and three counts
abbrev pub header_of : Kind → List ℕ → Result Counts Fault
header_of K bs =
    check (nat_le 2 (length bs)) (fault Reason.Truncated 0)
    (check (marked 76 75 bs) (fault Reason.WrongMark 0)
    (check (nat_le 15 (length bs)) (fault Reason.Truncated 0)
    (check (slice_index bs 2 == K.number) (fault Reason.OutsideLimits 2) (counts_of bs))))

-- the records behind the header, and nothing behind them
abbrev pub records_of : Kind → Counts → (at : ℕ) (xs : List ℕ) → Result (Circuit (List ℕ)) Fault
records_of K n at xs =
    and_then (gates_from K n.inputs n.gates n.inputs 0 at xs) (λ G.
    and_then (outputs_from K n.outputs (n.inputs + n.gates) G.end G.rest) (λ U.
    and_then (ended U.rest U.end) (λ _.
    Ok (record { inputs = n.inputs; gates = G.items; outputs = U.items }))))

-- the circuit that the bytes of a lock of this kind say
abbrev pub lock_of : Kind → List ℕ → Result (Circuit (List ℕ)) Fault
lock_of K bs = and_then (header_of K bs) (λ n. records_of K n 15 (drop 15 bs))
