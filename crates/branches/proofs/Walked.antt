-- A lock that was read can be walked again, and gives its circuit.
use Rattle.std.proofs.Common.{◌≡◌, ℕ, zero, suc, ◌+◌, ◌-◌, ◌*◌, ◌<◌, ◌≤◌, Bool, true, false, leb, List, [], ◌∷◌, length, get_or, take, drop, is_ok as isOk, IfOk, Ok, Err, Result, sym, refl, ap, ◌∙◌, subst, add-zero, suc-mul, zero-mul, arith, length-drop, get_or-drop, drop-drop}
use Rattle.std.specs.List.{AllByRecursion}
use Rattle.faults.specs.declared.Fault.{Fault}
use Rattle.faults.specs.declared.Reason.{Reason}
use Rattle.faults.specs.Numbers.{fault}
use Rattle.faults.specs.Outcomes.{check, and_then, map_ok}
use Rattle.faults.proofs.Passed.{err_ok, ok_same, then_ok, map_ok_was}
use Rattle.kinds.specs.Kind.{Kind}
use Rattle.kinds.specs.Numbers.{number_of}
use Rattle.locks.specs.declared.lock.Lock.{Lock}
use Rattle.locks.specs.Circuit.{Gate, Output, Circuit}
use Rattle.locks.specs.Reading.{marked, wire_and_row, output_body, gate_in, gate_size, output_in, output_size, Records, in_front, gates_in, outputs_in, lock_of}
use Rattle.locks.specs.Model.{Standing, behind, behind_header}
use Rattle.locks.specs.Locks.{Summary, summary, summary_of, record_bytes, Walks, Walkable}
use Rattle.locks.specs.Encoding.{GateFor, GatesFor, OutputFor, WellFormed, Reads}
use Rattle.locks.proofs.Spelled.{gate_stands, output_stands}
use Rattle.branches.specs.Walks.{items_of, gates_at, outputs_at, GatesStand, OutputsStand, gates_place, outputs_place, circuit_of, Stands}

ok_is : {A : Type 0} (r : Result A Fault) → isOk r ≡ true → (a : A) × (r ≡ Ok a)
ok_is (Ok a) h = (a, refl)
ok_is (Err e) h = let z : ◌≡◌ {A = ℕ} 0 1 = cc in absurd (omega arith)

is_ok : {A : Type 0} (r : Result A Fault) (a : A) → r ≡ Ok a → isOk r ≡ true
is_ok r a e = ap isOk e

module _ (K : Kind) where
  -- one gate more: it is there, and so are the others
  module _ (n : ℕ) (s : Standing) (walked : isOk (gates_in K (suc n) s.at s.rest) ≡ true) where
    split : (G : Records (Gate (List ℕ))) × (gates_in K (suc n) s.at s.rest ≡ Ok G)
    split = ok_is (gates_in K (suc n) s.at s.rest) walked

    parts : (g : Gate (List ℕ)) × (gate_in K s.at s.rest ≡ Ok g)
        × ((R : Records (Gate (List ℕ))) × (gates_in K n (s.at + gate_size K g) (drop (gate_size K g) s.rest) ≡ Ok R))
    unfolding gates_in
    parts =
        let a = then_ok (gate_in K s.at s.rest) _ split.0 split.1 in
        let m = map_ok_was (in_front a.0) (gates_in K n (s.at + gate_size K a.0) (drop (gate_size K a.0) s.rest)) split.0 a.2 in
        (a.0, a.1, (m.0, m.1))

    pub gate_walked : isOk (gate_in K s.at s.rest) ≡ true
    gate_walked = ap isOk parts.1

    module _ (g : Gate (List ℕ)) (is : gate_in K s.at s.rest ≡ Ok g) where
      same : parts.0 ≡ g
      same = ok_same (sym parts.1 ∙ is)

      rest_ok : (R : Records (Gate (List ℕ))) × (gates_in K n (s.at + gate_size K g) (drop (gate_size K g) s.rest) ≡ Ok R)
      rest_ok = subst (λ (x : Gate (List ℕ)). (R : Records (Gate (List ℕ))) × (gates_in K n (s.at + gate_size K x) (drop (gate_size K x) s.rest) ≡ Ok R)) same parts.2

      pub gate_first : gates_at K (suc n) s ≡ g ∷ gates_at K n (behind (gate_size K g) s)
      unfolding gates_at gates_in
      gate_first =
          ap (λ (r : Result (Gate (List ℕ)) Fault). items_of (and_then r (λ x. map_ok (in_front x) (gates_in K n (s.at + gate_size K x) (drop (gate_size K x) s.rest))))) is
          ∙ ap (λ (r : Result (Records (Gate (List ℕ))) Fault). items_of (map_ok (in_front g) r)) rest_ok.1
          ∙ ap (λ (r : Result (Records (Gate (List ℕ))) Fault). g ∷ items_of r) (sym rest_ok.1)

      pub others_walked : isOk (gates_in K n (s.at + gate_size K g) (drop (gate_size K g) s.rest)) ≡ true
      others_walked = ap isOk rest_ok.1

  -- the same, with what is known of the gates
  module _ (n own : ℕ) (s : Standing) (l : GatesStand K (suc n) own s) where
    pub gate_there : isOk (gate_in K s.at s.rest) ≡ true
    gate_there = gate_walked n s l.walked

    module _ (g : Gate (List ℕ)) (is : gate_in K s.at s.rest ≡ Ok g) where
      pub gates_one : gates_at K (suc n) s ≡ g ∷ gates_at K n (behind (gate_size K g) s)
      gates_one = gate_first n s l.walked g is

      both_for : GateFor K own g × GatesFor K (suc own) (gates_at K n (behind (gate_size K g) s))
      both_for = subst (GatesFor K own) gates_one l.for

      pub gate_for : GateFor K own g
      gate_for = both_for.0

      pub gates_left : GatesStand K n (suc own) (behind (gate_size K g) s)
      gates_left = record { walked = others_walked n s l.walked g is; for = both_for.1 }

  pub gates_none : (s : Standing) → gates_at K 0 s ≡ []
  unfolding gates_at gates_in
  gates_none s = refl

  pub outputs_none : (s : Standing) → outputs_at K 0 s ≡ []
  unfolding outputs_at outputs_in
  outputs_none s = refl

  -- one output more: it is there, and so are the others
  module _ (n : ℕ) (s : Standing) (walked : isOk (outputs_in K (suc n) s.at s.rest) ≡ true) where
    out_split : (U : Records (Output (List ℕ))) × (outputs_in K (suc n) s.at s.rest ≡ Ok U)
    out_split = ok_is (outputs_in K (suc n) s.at s.rest) walked

    out_parts : (u : Output (List ℕ)) × (output_in K s.at s.rest ≡ Ok u)
        × ((R : Records (Output (List ℕ))) × (outputs_in K n (s.at + output_size K) (drop (output_size K) s.rest) ≡ Ok R))
    unfolding outputs_in
    out_parts =
        let a = then_ok (output_in K s.at s.rest) _ out_split.0 out_split.1 in
        let m = map_ok_was (in_front a.0) (outputs_in K n (s.at + output_size K) (drop (output_size K) s.rest)) out_split.0 a.2 in
        (a.0, a.1, (m.0, m.1))

    pub output_walked : isOk (output_in K s.at s.rest) ≡ true
    output_walked = ap isOk out_parts.1

    pub other_outputs_walked : isOk (outputs_in K n (s.at + output_size K) (drop (output_size K) s.rest)) ≡ true
    other_outputs_walked = ap isOk out_parts.2.1

    module _ (u : Output (List ℕ)) (is : output_in K s.at s.rest ≡ Ok u) where
      pub output_first : outputs_at K (suc n) s ≡ u ∷ outputs_at K n (behind (output_size K) s)
      unfolding outputs_at outputs_in
      output_first =
          let more = out_parts.2 in
          ap (λ (r : Result (Output (List ℕ)) Fault). items_of (and_then r (λ x. map_ok (in_front x) (outputs_in K n (s.at + output_size K) (drop (output_size K) s.rest))))) is
          ∙ ap (λ (r : Result (Records (Output (List ℕ))) Fault). items_of (map_ok (in_front u) r)) more.1
          ∙ ap (λ (r : Result (Records (Output (List ℕ))) Fault). u ∷ items_of r) (sym more.1)

  -- the same, with what is known of the outputs
  module _ (n wires : ℕ) (s : Standing) (l : OutputsStand K (suc n) wires s) where
    pub output_there : isOk (output_in K s.at s.rest) ≡ true
    output_there = output_walked n s l.walked

    module _ (u : Output (List ℕ)) (is : output_in K s.at s.rest ≡ Ok u) where
      pub outputs_one : outputs_at K (suc n) s ≡ u ∷ outputs_at K n (behind (output_size K) s)
      outputs_one = output_first n s l.walked u is

      out_both : OutputFor K wires u × AllByRecursion (OutputFor K wires) (outputs_at K n (behind (output_size K) s))
      out_both = subst (AllByRecursion (OutputFor K wires)) outputs_one l.for

      pub output_for : OutputFor K wires u
      output_for = out_both.0

      pub outputs_left : OutputsStand K n wires (behind (output_size K) s)
      outputs_left = record { walked = other_outputs_walked n s l.walked; for = out_both.1 }

  -- what gates leave is a rear part of the bytes
  gates_rest : (n at : ℕ) (xs : List ℕ) (G : Records (Gate (List ℕ))) → gates_in K n at xs ≡ Ok G → (d : ℕ) × (d ≤ length xs) × (G.rest ≡ drop d xs)
  unfolding gates_in
  gates_rest zero at xs G h = (0, omega arith, ap (λ (r : Records (Gate (List ℕ))). r.rest) (sym (ok_same h)))
  gates_rest (suc n) at xs G h =
      let a = then_ok (gate_in K at xs) _ G h in
      let g = a.0 in
      let m = map_ok_was (in_front g) (gates_in K n (at + gate_size K g) (drop (gate_size K g) xs)) G a.2 in
      let r = gates_rest n (at + gate_size K g) (drop (gate_size K g) xs) m.0 m.1 in
      let whole : gate_size K a.0 ≤ length xs = (gate_stands K at xs g a.1).whole in
      let fits : r.0 ≤ length xs - gate_size K a.0 = omega (arith, r.1, length-drop (gate_size K a.0) xs) in
      (gate_size K g + r.0, omega (arith, whole, fits), ap (λ (q : Records (Gate (List ℕ))). q.rest) (sym m.2) ∙ r.2 ∙ drop-drop r.0 (gate_size K g) xs)

  -- outputs have one size
  outputs_rest : (n at : ℕ) (xs : List ℕ) (U : Records (Output (List ℕ))) → outputs_in K n at xs ≡ Ok U → (n * output_size K ≤ length xs) × (U.rest ≡ drop (n * output_size K) xs)
  unfolding outputs_in
  outputs_rest zero at xs U h =
      let z : 0 * output_size K ≡ 0 = zero-mul (output_size K) in
      (omega (arith, z), ap (λ (r : Records (Output (List ℕ))). r.rest) (sym (ok_same h)) ∙ ap (λ (j : ℕ). drop j xs) (sym z))
  outputs_rest (suc n) at xs U h =
      let size = output_size K in
      let a = then_ok (output_in K at xs) _ U h in
      let u = a.0 in
      let m = map_ok_was (in_front u) (outputs_in K n (at + size) (drop size xs)) U a.2 in
      let r = outputs_rest n (at + size) (drop size xs) m.0 m.1 in
      let whole : output_size K ≤ length xs = (output_stands K at xs u a.1).whole in
      let e : output_size K + n * output_size K ≡ suc n * output_size K = omega (arith, suc-mul n (output_size K)) in
      let fits : n * output_size K ≤ length xs - output_size K = omega (arith, r.0, length-drop (output_size K) xs) in
      (omega (arith, whole, fits, e), ap (λ (q : Records (Output (List ℕ))). q.rest) (sym m.2) ∙ r.1 ∙ drop-drop (n * size) size xs ∙ ap (λ (j : ℕ). drop j xs) e)

  -- the offset serves the faults only
  check_moved : {A : Type 0} (b : Bool) (e f : Fault) (r q : Result A Fault) (a : A) → (r ≡ Ok a → q ≡ Ok a) → check b e r ≡ Ok a → check b f q ≡ Ok a
  check_moved true e f r q a more h = more h
  check_moved false e f r q a more h = err_ok h

  output_moved : (at there : ℕ) (xs : List ℕ) (u : Output (List ℕ)) → output_in K at xs ≡ Ok u → output_in K there xs ≡ Ok u
  output_moved at there xs u h =
      let here = wire_and_row K at (drop 2 xs) in
      let moved = wire_and_row K there (drop 2 xs) in
      let row : (p : ℕ × List ℕ) → wire_and_row K at (drop 2 xs) ≡ Ok p → wire_and_row K there (drop 2 xs) ≡ Ok p =
      λ p. check_moved (leb (4 + K.width) (length (drop 2 xs))) (fault Reason.Truncated at) (fault Reason.Truncated there) (Ok (number_of (drop 2 xs), take K.width (drop 4 (drop 2 xs)))) (Ok (number_of (drop 2 xs), take K.width (drop 4 (drop 2 xs)))) p (λ e. e) in
      check_moved (leb 2 (length xs)) (fault Reason.Truncated at) (fault Reason.Truncated there) (output_body K at (marked 79 85 xs) (drop 2 xs)) (output_body K there (marked 79 85 xs) (drop 2 xs)) u
      (check_moved (marked 79 85 xs) (fault Reason.WrongMark at) (fault Reason.WrongMark there) (map_ok (λ p. record { wire = p.0; target = p.1 }) here) (map_ok (λ p. record { wire = p.0; target = p.1 }) moved) u (body here moved row)) h
    where
      body : (r q : Result (ℕ × List ℕ) Fault) → ((p : ℕ × List ℕ) → r ≡ Ok p → q ≡ Ok p)
          → map_ok (λ p. record { wire = p.0; target = p.1 }) r ≡ Ok u → map_ok (λ p. record { wire = p.0; target = p.1 }) q ≡ Ok u
      body (Ok p) q more h = ap (map_ok (λ p. record { wire = p.0; target = p.1 })) (more p refl) ∙ h
      body (Err e) q more h = err_ok h

  outputs_moved : (n at there : ℕ) (xs : List ℕ) (U : Records (Output (List ℕ))) → outputs_in K n at xs ≡ Ok U → (V : Records (Output (List ℕ))) × (outputs_in K n there xs ≡ Ok V) × (V.items ≡ U.items)
  unfolding outputs_in
  outputs_moved zero at there xs U h = (_, refl, ap (λ (r : Records (Output (List ℕ))). r.items) (ok_same h))
  outputs_moved (suc n) at there xs U h =
      let size = output_size K in
      let a = then_ok (output_in K at xs) _ U h in
      let u = a.0 in
      let m = map_ok_was (in_front u) (outputs_in K n (at + size) (drop size xs)) U a.2 in
      let r = outputs_moved n (at + size) (there + size) (drop size xs) m.0 m.1 in (
        in_front u r.0,
        ap (λ (q : Result (Output (List ℕ)) Fault). and_then q (λ x. map_ok (in_front x) (outputs_in K n (there + size) (drop size xs)))) (output_moved at there xs u a.1) ∙ ap (map_ok (in_front u)) r.1,
        ap (λ (us : List (Output (List ℕ))). u ∷ us) r.2 ∙ ap (λ (q : Records (Output (List ℕ))). q.items) m.2,
      )

  -- a lock that was read
  module _ (lock : Lock) (l : Circuit (List ℕ)) (sums : summary_of lock ≡ summary l) (walks : Walks K (behind_header (record_bytes lock)) l) where
    xs : List ℕ
    xs = record_bytes lock

    size : ℕ
    size = output_size K

    gates_read : gates_in K lock.gates 15 (record_bytes lock) ≡ Ok walks.0
    gates_read = subst (λ (n : ℕ). gates_in K n 15 (record_bytes lock) ≡ Ok walks.0) (sym (ap (λ (s : Summary). s.gates) sums)) walks.2

    outputs_read : outputs_in K lock.outputs walks.0.end walks.0.rest ≡ Ok walks.1
    outputs_read = subst (λ (n : ℕ). outputs_in K n walks.0.end walks.0.rest ≡ Ok walks.1) (sym (ap (λ (s : Summary). s.outputs) sums)) walks.4

    tail_long : (lock.outputs * output_size K ≤ length walks.0.rest) × (walks.1.rest ≡ drop (lock.outputs * output_size K) walks.0.rest)
    tail_long = outputs_rest lock.outputs walks.0.end walks.0.rest walks.1 outputs_read

    front : (d : ℕ) × (d ≤ length (record_bytes lock)) × (walks.0.rest ≡ drop d (record_bytes lock))
    front = gates_rest lock.gates 15 (record_bytes lock) walks.0 gates_read

    exact : length walks.0.rest ≡ lock.outputs * output_size K
    exact =
        let none : length walks.0.rest - lock.outputs * output_size K ≡ 0 = sym (length-drop (lock.outputs * output_size K) walks.0.rest) ∙ ap length (sym tail_long.1) ∙ walks.6 in
        omega (arith, none, tail_long.0)

    start : front.0 ≡ length (record_bytes lock) - lock.outputs * output_size K
    start =
        let e : length walks.0.rest ≡ length (record_bytes lock) - front.0 = ap length front.2 ∙ length-drop front.0 (record_bytes lock) in
        omega (arith, e, exact, front.1)

    behind_gates : walks.0.rest ≡ (outputs_place K lock).rest
    behind_gates = front.2 ∙ ap (λ (d : ℕ). drop d (record_bytes lock)) start

    pub long : lock.outputs * output_size K ≤ length (record_bytes lock)
    long =
        let e : length walks.0.rest ≡ length (record_bytes lock) - front.0 = ap length front.2 ∙ length-drop front.0 (record_bytes lock) in
        omega (arith, e, exact)

    moved : (V : Records (Output (List ℕ))) × (outputs_in K lock.outputs 0 (outputs_place K lock).rest ≡ Ok V) × (V.items ≡ walks.1.items)
    moved = subst (λ (ys : List ℕ). (V : Records (Output (List ℕ))) × (outputs_in K lock.outputs 0 ys ≡ Ok V) × (V.items ≡ walks.1.items)) behind_gates
        (outputs_moved lock.outputs walks.0.end 0 walks.0.rest walks.1 outputs_read)

    gates_is : gates_at K lock.gates (gates_place lock) ≡ l.gates
    unfolding gates_at
    gates_is = ap items_of gates_read ∙ walks.3

    outputs_is : outputs_at K lock.outputs (outputs_place K lock) ≡ l.outputs
    unfolding outputs_at
    outputs_is = ap items_of moved.1 ∙ moved.2 ∙ walks.5

    pub circuit_is : circuit_of K lock ≡ l
    circuit_is = λ i. record { inputs = ap (λ (s : Summary). s.inputs) sums i; gates = gates_is i; outputs = outputs_is i }

    pub stands : WellFormed K l → Stands K lock
    stands w =
        let well : WellFormed K (circuit_of K lock) = subst (WellFormed K) (sym circuit_is) w in
        let count : length (gates_at K lock.gates (gates_place lock)) ≡ lock.gates = ap length gates_is ∙ sym (ap (λ (s : Summary). s.gates) sums) in
        record {
          gates_stand = record { walked = ap isOk gates_read; for = well.gates_for };
          outputs_stand = record { walked = ap isOk moved.1; for = subst (λ (n : ℕ). AllByRecursion (OutputFor K (lock.inputs + n)) (outputs_at K lock.outputs (outputs_place K lock))) count well.outputs_for };
          outputs_long = long;
          well_formed = well;
          summed = ap summary circuit_is ∙ sym sums;
        }

  -- what reading gives, in these terms
  pub record Opened (bs : List ℕ) (r : Result Lock Fault) : Type 0 where
    pub outcome : map_ok (circuit_of K) r ≡ lock_of K bs
    pub stands_then : IfOk r (λ l. Stands K l)

  ok_summary : (a b : Summary) → ◌≡◌ {A = Result Summary Fault} (Ok a) (Ok b) → a ≡ b
  ok_summary a b h = cc

  pub opened : (bs : List ℕ) (r : Result Lock Fault) → map_ok summary_of r ≡ map_ok summary (lock_of K bs) → Reads K bs → Walkable K bs (map_ok record_bytes r) (lock_of K bs) → Opened bs r
  opened bs r sums reads walk = go r (lock_of K bs) refl sums walk
    where
      go : (r : Result Lock Fault) (t : Result (Circuit (List ℕ)) Fault) → lock_of K bs ≡ t → map_ok summary_of r ≡ map_ok summary t → Walkable K bs (map_ok record_bytes r) t → Opened bs r
      go (Ok lock) (Ok l) e s w =
          let sum = ok_summary (summary_of lock) (summary l) s in
          record { outcome = ap Ok (circuit_is lock l sum w.1) ∙ sym e; stands_then = stands lock l sum w.1 (reads.well_formed l e) }
      go (Ok lock) (Err f) e s w = absurd w
      go (Err f) (Ok l) e s w = absurd w
      go (Err f) (Err d) e s w = record { outcome = err_is f d s ∙ sym e; stands_then = tt }
        where
          err_is : (f d : Fault) → ◌≡◌ {A = Result Summary Fault} (Err f) (Err d) → ◌≡◌ {A = Result (Circuit (List ℕ)) Fault} (Err f) (Err d)
          err_is f d h = cc

-- a turn of a loop over the gates: j of them are behind, and the next one writes wire own
module _ (K : Kind) (count j own : ℕ) (s : Standing) (h : j < count) (l : GatesStand K (count - j) own s) where
  one_more : count - j ≡ suc (count - (j + 1))
  one_more = omega arith

  next_there : GatesStand K (suc (count - (j + 1))) own s
  next_there = subst (λ (n : ℕ). GatesStand K n own s) one_more l

  pub gate_is_there : isOk (gate_in K s.at s.rest) ≡ true
  gate_is_there = gate_there K (count - (j + 1)) own s next_there

  module _ (g : Gate (List ℕ)) (is : gate_in K s.at s.rest ≡ Ok g) where
    pub gates_here : gates_at K (count - j) s ≡ g ∷ gates_at K (count - (j + 1)) (behind (gate_size K g) s)
    gates_here = ap (λ (n : ℕ). gates_at K n s) one_more ∙ gates_one K (count - (j + 1)) own s next_there g is

    pub gate_fits : GateFor K own g
    gate_fits = gate_for K (count - (j + 1)) own s next_there g is

    pub gates_after : GatesStand K (count - (j + 1)) (suc own) (behind (gate_size K g) s)
    gates_after = gates_left K (count - (j + 1)) own s next_there g is

pub gates_done : (K : Kind) (count j : ℕ) (s : Standing) → j ≡ count → gates_at K (count - j) s ≡ []
gates_done K count j s e = let z : count - j ≡ 0 = omega arith in ap (λ (n : ℕ). gates_at K n s) z ∙ gates_none K s

-- a loop over the outputs `all`, j of which are behind
pub record Walking (K : Kind) (wires count j : ℕ) (s : Standing) (all : List (Output (List ℕ))) : Type 0 where
  pub left_stand : OutputsStand K (count - j) wires s
  pub left_are : outputs_at K (count - j) s ≡ drop j all

pub walking_start : (K : Kind) (wires count : ℕ) (s : Standing) → OutputsStand K count wires s → Walking K wires count 0 s (outputs_at K count s)
walking_start K wires count s l =
    let z : count ≡ count - 0 = omega arith in
    record { left_stand = subst (λ (n : ℕ). OutputsStand K n wires s) z l; left_are = ap (λ (n : ℕ). outputs_at K n s) (sym z) }

module _ (K : Kind) (wires count j : ℕ) (s : Standing) (all : List (Output (List ℕ))) (h : j < count) (l : Walking K wires count j s all) where
  one_out : count - j ≡ suc (count - (j + 1))
  one_out = omega arith

  out_there : OutputsStand K (suc (count - (j + 1))) wires s
  out_there = subst (λ (n : ℕ). OutputsStand K n wires s) one_out l.left_stand

  pub output_is_there : isOk (output_in K s.at s.rest) ≡ true
  output_is_there = output_there K (count - (j + 1)) wires s out_there

  module _ (u : Output (List ℕ)) (is : output_in K s.at s.rest ≡ Ok u) where
    pub output_fits : OutputFor K wires u
    output_fits = output_for K (count - (j + 1)) wires s out_there u is

    cut_here : drop j all ≡ u ∷ outputs_at K (count - (j + 1)) (behind (output_size K) s)
    cut_here = sym l.left_are ∙ ap (λ (n : ℕ). outputs_at K n s) one_out ∙ outputs_one K (count - (j + 1)) wires s out_there u is

    -- it is output j
    pub output_here : (d : Output (List ℕ)) → get_or all j d ≡ u
    output_here d =
        ap (λ (n : ℕ). get_or all n d) (sym (add-zero j)) ∙ sym (get_or-drop j all 0 d) ∙ ap (λ (us : List (Output (List ℕ))). get_or us 0 d) cut_here

    pub walking_next : (t : Standing) → t ≡ behind (output_size K) s → Walking K wires count (j + 1) t all
    walking_next t e =
        let past : drop (j + 1) all ≡ outputs_at K (count - (j + 1)) (behind (output_size K) s) = sym (drop-drop 1 j all) ∙ ap (drop 1) cut_here in
        subst (λ (r : Standing). Walking K wires count (j + 1) r all) (sym e)
        (record { left_stand = outputs_left K (count - (j + 1)) wires s out_there u is; left_are = sym past })
