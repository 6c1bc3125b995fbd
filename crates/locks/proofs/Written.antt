-- The encoding of a well-formed circuit is read as that circuit.
use Rattle.std.proofs.Common.{◌≡◌, ℕ, suc, ◌+◌, ◌<◌, ◌≤◌, Bool, true, ◌&&◌, eqb, leb, List, [], ◌∷◌, ◌++◌, length, take, drop, Ok, Result, sym, refl, ap, ◌∙◌, subst, append_assoc, append-nil, arith, length-append, take_at, drop_at}
use Rattle.std.specs.List.{flat_map, AllByRecursion}
use Rattle.std.proofs.lemmas.Bool.{eq-eqb, lt-ltb, le-leb, and_from}
use Rattle.faults.specs.declared.Reason.{Reason}
use Rattle.faults.specs.declared.Fault.{Fault}
use Rattle.faults.specs.Numbers.{fault}
use Rattle.faults.specs.Outcomes.{check, and_then, map_ok}
use Rattle.kinds.specs.Kind.{Kind, Lawful}
use Rattle.kinds.specs.Numbers.{number_of, four_bytes}
use Rattle.kinds.specs.ModularLaws.{number_four}
use Rattle.locks.specs.declared.records.Counts.{Counts}
use Rattle.locks.specs.Circuit.{Gate, ac, mc, ad, mu, Output, Circuit, mus}
use Rattle.locks.specs.Limits.{most_inputs, most_gates, most_outputs, longest_view}
use Rattle.locks.specs.Lengths.{view_length}
use Rattle.locks.specs.Reading.{gate_size, output_size, gate_in, output_in, wire_and_row_right, two_wires_right, gate_right, output_right, counted, Records, in_front, gates_from, outputs_from, ended, count_within, header_of, records_of, lock_of}
use Rattle.locks.specs.Encoding.{gate_bytes, output_bytes, encoded, GateFor, GatesFor, OutputFor, WellFormed}
use Rattle.locks.proofs.Fields.{view_grows}

-- a number in the four bytes that were written, whatever lies behind them
number_written : (n : ℕ) (ys : List ℕ) → n < 4294967296 → number_of (four_bytes n ++ ys) ≡ n
number_written n ys h = number_four n h

module _ (K : Kind) (sized : (x : List ℕ) → Lawful K x → length x ≡ K.width) where
  -- enough bytes for a mark, and behind it for a wire and a row
  two_long : (a b : ℕ) (fs : List ℕ) → leb 2 (length (a ∷ b ∷ fs)) ≡ true
  two_long a b fs = le-leb _ _ (omega arith)

  row_long : (a : ℕ) (c ys : List ℕ) → Lawful K c → leb (4 + K.width) (length (four_bytes a ++ c ++ ys)) ≡ true
  row_long a c ys ok = let e = sized c ok in let l = length-append c ys in le-leb _ _ (omega arith)

  wires_long : (a b : ℕ) (ys : List ℕ) → leb 8 (length (four_bytes a ++ four_bytes b ++ ys)) ≡ true
  wires_long a b ys = le-leb _ _ (omega arith)

  row_is : (c ys : List ℕ) → Lawful K c → take K.width (c ++ ys) ≡ c
  row_is c ys ok = take_at c ys K.width (sized c ok)

  gate_written : (g : Gate (List ℕ)) (own : ℕ) → own ≤ 4294967296 → GateFor K own g → (ys : List ℕ) (at : ℕ) → gate_in K at (gate_bytes g ++ ys) ≡ Ok g
  gate_written (ac a c) own most f ys at =
      let t = two_long 65 67 (four_bytes a ++ c ++ ys) in
      let l = row_long a c ys f.1 in
      let is : number_of (four_bytes a ++ c ++ ys) ≡ a = number_written a (c ++ ys) (omega (arith, f.0)) in
      let row = row_is c ys f.1 in
      λ i. check (t i) (fault Reason.Truncated at) (map_ok (λ (p : ℕ × List ℕ). ac p.0 p.1) (check (l i) (fault Reason.Truncated at) (Ok (is i, row i))))
  gate_written (mc a c) own most f ys at =
      let t = two_long 77 67 (four_bytes a ++ c ++ ys) in
      let l = row_long a c ys f.1 in
      let is : number_of (four_bytes a ++ c ++ ys) ≡ a = number_written a (c ++ ys) (omega (arith, f.0)) in
      let row = row_is c ys f.1 in
      λ i. check (t i) (fault Reason.Truncated at) (map_ok (λ (p : ℕ × List ℕ). mc p.0 p.1) (check (l i) (fault Reason.Truncated at) (Ok (is i, row i))))
  gate_written (ad a b) own most f ys at =
      let t = two_long 65 68 (four_bytes a ++ four_bytes b ++ ys) in
      let l = wires_long a b ys in
      let is : number_of (four_bytes a ++ four_bytes b ++ ys) ≡ a = number_written a (four_bytes b ++ ys) (omega (arith, f.0)) in
      let is' : number_of (four_bytes b ++ ys) ≡ b = number_written b ys (omega (arith, f.1)) in
      λ i. check (t i) (fault Reason.Truncated at) (map_ok (λ (p : ℕ × ℕ). ad p.0 p.1) (check (l i) (fault Reason.Truncated at) (Ok (is i, is' i))))
  gate_written (mu a b) own most f ys at =
      let t = two_long 77 85 (four_bytes a ++ four_bytes b ++ ys) in
      let l = wires_long a b ys in
      let is : number_of (four_bytes a ++ four_bytes b ++ ys) ≡ a = number_written a (four_bytes b ++ ys) (omega (arith, f.0)) in
      let is' : number_of (four_bytes b ++ ys) ≡ b = number_written b ys (omega (arith, f.1)) in
      λ i. check (t i) (fault Reason.Truncated at) (map_ok (λ (p : ℕ × ℕ). mu p.0 p.1) (check (l i) (fault Reason.Truncated at) (Ok (is i, is' i))))

  row_right : (own at a : ℕ) (c : List ℕ) → (a < own) × Lawful K c → wire_and_row_right K at own a c ≡ Ok tt
  row_right own at a c f = λ i. and_then (check (lt-ltb a own f.0 i) (fault Reason.WireTooHigh (at + 2)) (Ok tt)) (λ _. check (f.1 i) (fault Reason.UnlawfulConstant (at + 6)) (Ok tt))

  wires_right : (own at a b : ℕ) → (a < own) × (b < own) → two_wires_right at own a b ≡ Ok tt
  wires_right own at a b f = λ i. and_then (check (lt-ltb a own f.0 i) (fault Reason.WireTooHigh (at + 2)) (Ok tt)) (λ _. check (lt-ltb b own f.1 i) (fault Reason.WireTooHigh (at + 6)) (Ok tt))

  gate_fields : (g : Gate (List ℕ)) (own at : ℕ) → GateFor K own g → gate_right K at own g ≡ Ok tt
  gate_fields (ac a c) own at f = row_right own at a c f
  gate_fields (mc a c) own at f = row_right own at a c f
  gate_fields (ad a b) own at f = wires_right own at a b f
  gate_fields (mu a b) own at f = wires_right own at a b f

  pub gate_long : (own : ℕ) (g : Gate (List ℕ)) → GateFor K own g → length (gate_bytes g) ≡ gate_size K g
  gate_long own (ac a c) f = let e = sized c f.1 in omega arith
  gate_long own (mc a c) f = let e = sized c f.1 in omega arith
  gate_long own (ad a b) f = refl
  gate_long own (mu a b) f = refl

  -- counting stays within the limit where the whole does
  counts : (g : Gate (List ℕ)) (gs : List (Gate (List ℕ))) (k q at : ℕ) → view_length K k (q + mus (g ∷ gs)) ≤ longest_view
      → (p : ℕ) × (counted K at k q g ≡ Ok p) × (view_length K k (p + mus gs) ≤ longest_view)
  counts (ac a c) gs k q at h = (q, refl, h)
  counts (mc a c) gs k q at h = (q, refl, h)
  counts (ad a b) gs k q at h = (q, refl, h)
  counts (mu a b) gs k q at h =
      let one : q + 1 ≤ q + suc (mus gs) = omega arith in
      let grows = view_grows K k one in
      let fits : leb (view_length K k (q + 1)) longest_view ≡ true = le-leb _ _ (omega arith) in
      let same : q + suc (mus gs) ≡ q + 1 + mus gs = omega arith in
      (q + 1, (λ i. check (fits i) (fault Reason.OutsideLimits at) (Ok (q + 1))), subst (λ j. view_length K k j ≤ longest_view) same h)

  WrittenGates : List (Gate (List ℕ)) → (k own q at : ℕ) → List ℕ → Type 0
  WrittenGates gs k own q at ys = (e : ℕ) × (gates_from K k (length gs) own q at (flat_map gate_bytes gs ++ ys) ≡ Ok (record { items = gs; rest = ys; end = e }))

  gates_written : (gs : List (Gate (List ℕ))) (k own q at : ℕ) → own + length gs ≤ 4294967296 → GatesFor K own gs → view_length K k (q + mus gs) ≤ longest_view → (ys : List ℕ) → WrittenGates gs k own q at ys
  unfolding gates_from WrittenGates
  gates_written [] k own q at most f w ys = (at, refl)
  gates_written (g ∷ gs) k own q at most f w ys =
      let rest = flat_map gate_bytes gs ++ ys in
      let again = append_assoc (gate_bytes g) (flat_map gate_bytes gs) ys in
      let c = counts g gs k q at w in
      let p = c.0 in
      let size = gate_size K g in
      let more = gates_written gs k (suc own) p (at + size) (omega arith) f.1 c.2 ys in
      let skipped : drop (gate_size K g) (gate_bytes g ++ rest) ≡ rest = drop_at (gate_bytes g) rest (gate_size K g) (gate_long own g f.0) in
      let behind : List ℕ → Gate (List ℕ) → ℕ → Result (Records (Gate (List ℕ))) Fault = λ xs h n.
      map_ok (in_front h) (gates_from K k (length gs) (suc own) n (at + gate_size K h) (drop (gate_size K h) xs)) in
      let tested : List ℕ → Gate (List ℕ) → Result (Records (Gate (List ℕ))) Fault = λ xs h.
      and_then (gate_right K at own h) (λ _. and_then (counted K at k q h) (behind xs h)) in (
        more.0,
        ap (λ xs. and_then (gate_in K at xs) (tested xs)) again
            ∙ ap (λ r. and_then r (tested (gate_bytes g ++ rest))) (gate_written g own (omega arith) f.0 rest at)
            ∙ ap (λ r. and_then r (λ _. and_then (counted K at k q g) (behind (gate_bytes g ++ rest) g))) (gate_fields g own at f.0)
            ∙ ap (λ r. and_then r (behind (gate_bytes g ++ rest) g)) c.1
            ∙ ap (λ z. map_ok (in_front g) (gates_from K k (length gs) (suc own) p (at + gate_size K g) z)) skipped
            ∙ ap (map_ok (in_front g)) more.1,
      )

  output_written : (u : Output (List ℕ)) (wires : ℕ) → wires ≤ 4294967296 → OutputFor K wires u → (ys : List ℕ) (at : ℕ) → output_in K at (output_bytes u ++ ys) ≡ Ok u
  output_written u wires most f ys at =
      let c = u.target in
      let t = two_long 79 85 (four_bytes u.wire ++ c ++ ys) in
      let l = row_long u.wire c ys f.1 in
      let is : number_of (four_bytes u.wire ++ c ++ ys) ≡ u.wire = number_written u.wire (c ++ ys) (omega (arith, f.0)) in
      let row = row_is c ys f.1 in
      λ i. check (t i) (fault Reason.Truncated at) (map_ok (λ (p : ℕ × List ℕ). record { wire = p.0; target = p.1 }) (check (l i) (fault Reason.Truncated at) (Ok (is i, row i))))

  WrittenOutputs : List (Output (List ℕ)) → (wires at : ℕ) → List ℕ → Type 0
  WrittenOutputs us wires at ys = (e : ℕ) × (outputs_from K (length us) wires at (flat_map output_bytes us ++ ys) ≡ Ok (record { items = us; rest = ys; end = e }))

  outputs_written : (us : List (Output (List ℕ))) (wires at : ℕ) → wires ≤ 4294967296 → AllByRecursion (OutputFor K wires) us → (ys : List ℕ) → WrittenOutputs us wires at ys
  unfolding outputs_from WrittenOutputs
  outputs_written [] wires at most f ys = (at, refl)
  outputs_written (u ∷ us) wires at most f ys =
      let rest = flat_map output_bytes us ++ ys in
      let e = sized u.target f.0.1 in
      let again = append_assoc (output_bytes u) (flat_map output_bytes us) ys in
      let more = outputs_written us wires (at + output_size K) most f.1 ys in
      let long : length (output_bytes u) ≡ output_size K = omega arith in
      let skipped : drop (output_size K) (output_bytes u ++ rest) ≡ rest = drop_at (output_bytes u) rest (output_size K) long in
      let behind : List ℕ → Output (List ℕ) → Result (Records (Output (List ℕ))) Fault = λ xs v.
      map_ok (in_front v) (outputs_from K (length us) wires (at + output_size K) (drop (output_size K) xs)) in (
        more.0,
        ap (λ xs. and_then (output_in K at xs) (λ v. and_then (output_right K at wires v) (λ _. behind xs v))) again
            ∙ ap (λ r. and_then r (λ v. and_then (output_right K at wires v) (λ _. behind (output_bytes u ++ rest) v))) (output_written u wires most f.0 rest at)
            ∙ ap (λ r. and_then r (λ _. behind (output_bytes u ++ rest) u)) (row_right wires at u.wire u.target f.0)
            ∙ ap (λ z. map_ok (in_front u) (outputs_from K (length us) wires (at + output_size K) z)) skipped
            ∙ ap (map_ok (in_front u)) more.1,
      )

  records_written : (l : Circuit (List ℕ)) → WellFormed K l → (n : Counts) → n ≡ record { inputs = l.inputs; gates = length l.gates; outputs = length l.outputs }
      → records_of K n 15 (flat_map gate_bytes l.gates ++ flat_map output_bytes l.outputs) ≡ Ok l
  unfolding WrittenGates WrittenOutputs
  records_written l w n e =
      let k = l.inputs in
      let g = length l.gates in
      let m = length l.outputs in
      let us = flat_map output_bytes l.outputs in
      let none : 0 + mus l.gates ≡ mus l.gates = omega arith in
      let few-k = w.few_inputs in
      let few-g = w.few_gates in
      let G = gates_written l.gates k k 0 15 (omega arith) w.gates_for (subst (λ j. view_length K k j ≤ longest_view) (sym none) w.short_view) us in
      let U = outputs_written l.outputs (k + g) G.0 (omega arith) w.outputs_for [] in
      let last : List (Gate (List ℕ)) → Records (Output (List ℕ)) → Result (Circuit (List ℕ)) Fault = λ gs V. and_then (ended V.rest V.end) (λ _. Ok (record { inputs = k; gates = gs; outputs = V.items })) in
      ap (λ j. records_of K j 15 (flat_map gate_bytes l.gates ++ us)) e
      ∙ ap (λ r. and_then r (λ G. and_then (outputs_from K m (k + g) G.end G.rest) (last G.items))) G.1
      ∙ ap (λ xs. and_then (outputs_from K m (k + g) G.0 xs) (last l.gates)) (sym (append-nil us))
      ∙ ap (λ r. and_then r (last l.gates)) U.1

  pub lock_written : (l : Circuit (List ℕ)) → WellFormed K l → lock_of K (encoded K l) ≡ Ok l
  lock_written l w =
      let k = l.inputs in
      let g = length l.gates in
      let m = length l.outputs in
      let few-k = w.few_inputs in
      let few-g = w.few_gates in
      let few-m = w.few_outputs in
      let bs = encoded K l in
      let records = flat_map gate_bytes l.gates ++ flat_map output_bytes l.outputs in
      let ki : number_of (drop 3 bs) ≡ k = number_written k (four_bytes g ++ (four_bytes m ++ records)) (omega arith) in
      let gi : number_of (drop 7 bs) ≡ g = number_written g (four_bytes m ++ records) (omega arith) in
      let mi : number_of (drop 11 bs) ≡ m = number_written m records (omega arith) in
      let l2 : leb 2 (length bs) ≡ true = le-leb _ _ (omega arith) in
      let l15 : leb 15 (length bs) ≡ true = le-leb _ _ (omega arith) in
      let n-is : eqb K.number K.number ≡ true = eq-eqb K.number K.number refl in
      let k-in : (leb 1 k && leb k most_inputs) ≡ true = and_from _ _ (le-leb 1 k w.some_inputs) (le-leb k most_inputs few-k) in
      let g-in : (leb 0 g && leb g most_gates) ≡ true = and_from _ _ (le-leb 0 g (omega arith)) (le-leb g most_gates few-g) in
      let m-in : (leb 1 m && leb m most_outputs) ≡ true = and_from _ _ (le-leb 1 m w.some_outputs) (le-leb m most_outputs few-m) in
      let within : Bool → Bool → Bool → Result Counts Fault = λ p q r.
      and_then (check p (fault Reason.OutsideLimits 3) (Ok k)) (λ a. and_then (check q (fault Reason.OutsideLimits 7) (Ok g)) (λ b.
      and_then (check r (fault Reason.OutsideLimits 11) (Ok m)) (λ c. Ok (record { inputs = a; gates = b; outputs = c })))) in
      let header : header_of K bs ≡ Ok (record { inputs = k; gates = g; outputs = m }) =
      (λ i. check (l2 i) (fault Reason.Truncated 0) (check (l15 i) (fault Reason.Truncated 0) (check (n-is i) (fault Reason.OutsideLimits 2)
      (and_then (count_within 1 most_inputs 3 (ki i)) (λ a. and_then (count_within 0 most_gates 7 (gi i)) (λ b. and_then (count_within 1 most_outputs 11 (mi i)) (λ c.
      Ok (record { inputs = a; gates = b; outputs = c }))))))))
      ∙ (λ i. within (k-in i) (g-in i) (m-in i)) in
      ap (λ r. and_then r (λ n. records_of K n 15 (drop 15 bs))) header ∙ records_written l w _ refl
