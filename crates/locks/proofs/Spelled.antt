-- What was read is well-formed, and its encoding is what was read.
use Rattle.std.proofs.Common.{◌≡◌, ℕ, zero, suc, ◌+◌, ◌<◌, ◌≤◌, true, leb, List, [], ◌∷◌, ◌++◌, length, get_or, take, drop, Some, None, Ok, Option, sym, refl, ap, ◌∙◌, subst, append_assoc, append-nil, add-zero, arith, length-drop, drop-drop}
use Rattle.std.specs.List.{flat_map, AllByRecursion}
use Rattle.std.proofs.lemmas.List.{nil_from_length}
use Rattle.std.proofs.lemmas.Bool.{eqb-true, ltb-true, leb-true, and_parts}
use Rattle.faults.specs.Outcomes.{and_then, map_ok}
use Rattle.faults.proofs.Passed.{err_ok, ok_same, check_ok, then_ok, map_ok_was}
use Rattle.kinds.specs.Kind.{Kind, Lawful, Bytes}
use Rattle.kinds.specs.Numbers.{number_of, four_bytes}
use Rattle.locks.specs.declared.records.Counts.{Counts}
use Rattle.locks.specs.Circuit.{Gate, ac, mc, ad, mu, Output, Circuit, mus}
use Rattle.locks.specs.Limits.{most_inputs, most_gates, most_outputs, longest_view}
use Rattle.locks.specs.Lengths.{view_length}
use Rattle.locks.specs.Reading.{GateMark, marked, gate_mark, gate_size, output_size, wire_and_row, two_wires, gate_body, gate_in, output_in, wire_right, wire_and_row_right, two_wires_right, gate_right, output_right, counted, Records, in_front, gates_from, outputs_from, gates_in, outputs_in, ended, header_of, records_of, lock_of}
use Rattle.locks.specs.Encoding.{gate_bytes, output_bytes, encoded, GateFor, GatesFor, OutputFor, WellFormed}
use Rattle.locks.specs.Refusing.{first_letter, second_letter}
use Rattle.locks.proofs.Fields.{number_spelled, bytes_drop, cut, mark_spelled, gate_marked, view_starts}

module _ (K : Kind) where
  -- a record of the gate g stands at the front of xs
  pub record GateStands (xs : List ℕ) (g : Gate (List ℕ)) : Type 0 where
    pub whole : gate_size K g ≤ length xs
    pub spelled : Bytes xs → gate_bytes g ++ drop (gate_size K g) xs ≡ xs

  -- a wire and a row behind a mark
  row_spelled : (a b : ℕ) (xs : List ℕ) → marked a b xs ≡ true → 6 + K.width ≤ length xs → Bytes xs
      → a ∷ b ∷ (four_bytes (number_of (drop 2 xs)) ++ take K.width (drop 4 (drop 2 xs))) ++ drop (6 + K.width) xs ≡ xs
  row_spelled a b xs h k bs =
      let fs = drop 2 xs in
      let n = four_bytes (number_of (drop 2 xs)) in
      let back : drop (6 + K.width) xs ≡ drop (4 + K.width) (drop 2 xs) = (let e : 6 + K.width ≡ 2 + (4 + K.width) = omega arith in ap (λ j. drop j xs) e) ∙ sym (drop-drop (4 + K.width) 2 xs) in
      ap {B = List ℕ} (λ t. a ∷ b ∷ t)
      (append_assoc n (take K.width (drop 4 fs)) (drop (6 + K.width) xs)
      ∙ ap (λ t. n ++ (take K.width (drop 4 fs) ++ t)) back
      ∙ ap (λ t. n ++ t) (cut 4 K.width fs)
      ∙ number_spelled fs (bytes_drop 2 xs bs) (simp length-drop (omega arith)))
      ∙ mark_spelled a b xs h (omega arith)

  wires_spelled : (a b : ℕ) (xs : List ℕ) → marked a b xs ≡ true → 10 ≤ length xs → Bytes xs
      → a ∷ b ∷ (four_bytes (number_of (drop 2 xs)) ++ four_bytes (number_of (drop 4 (drop 2 xs)))) ++ drop 10 xs ≡ xs
  wires_spelled a b xs h k bs =
      let fs = drop 2 xs in
      let n = four_bytes (number_of (drop 2 xs)) in
      let m = four_bytes (number_of (drop 4 (drop 2 xs))) in
      let back : drop 10 xs ≡ drop 4 (drop 4 (drop 2 xs)) = sym (drop-drop 4 6 xs) ∙ ap (drop 4) (sym (drop-drop 4 2 xs)) in
      ap {B = List ℕ} (λ t. a ∷ b ∷ t)
      (append_assoc n m (drop 10 xs)
      ∙ ap (λ t. n ++ (m ++ t)) back
      ∙ ap (λ t. n ++ t) (number_spelled (drop 4 fs) (bytes_drop 4 fs (bytes_drop 2 xs bs)) (simp length-drop (omega arith)))
      ∙ number_spelled fs (bytes_drop 2 xs bs) (simp length-drop (omega arith)))
      ∙ mark_spelled a b xs h (omega arith)

  with_row : (make : ℕ → List ℕ → Gate (List ℕ)) (a b : ℕ)
      → ((w : ℕ) (c : List ℕ) → gate_bytes (make w c) ≡ a ∷ b ∷ four_bytes w ++ c) → ((w : ℕ) (c : List ℕ) → gate_size K (make w c) ≡ 6 + K.width)
      → (at : ℕ) (xs : List ℕ) (g : Gate (List ℕ)) → marked a b xs ≡ true → 2 ≤ length xs
      → map_ok (λ p. make p.0 p.1) (wire_and_row K at (drop 2 xs)) ≡ Ok g → GateStands xs g
  with_row make a b bytes size at xs g m two h =
      let p = map_ok_was _ (wire_and_row K at (drop 2 xs)) g h in
      let q = check_ok _ _ _ _ p.1 in
      let is = ok_same q.1 in
      let w = number_of (drop 2 xs) in
      let c = take K.width (drop 4 (drop 2 xs)) in
      let long : 6 + K.width ≤ length xs = omega (arith, leb-true (4 + K.width) (length (drop 2 xs)) q.0, length-drop 2 xs) in
      subst (GateStands xs) (ap (λ (r : ℕ × List ℕ). make r.0 r.1) is ∙ p.2)
      (record {
        whole = omega (arith, size w c, long);
        spelled = λ bs. (λ i. bytes w c i ++ drop (size w c i) xs) ∙ row_spelled a b xs m long bs;
      })

  with_wires : (make : ℕ → ℕ → Gate (List ℕ)) (a b : ℕ)
      → ((v w : ℕ) → gate_bytes (make v w) ≡ a ∷ b ∷ four_bytes v ++ four_bytes w) → ((v w : ℕ) → gate_size K (make v w) ≡ 10)
      → (at : ℕ) (xs : List ℕ) (g : Gate (List ℕ)) → marked a b xs ≡ true → 2 ≤ length xs
      → map_ok (λ p. make p.0 p.1) (two_wires at (drop 2 xs)) ≡ Ok g → GateStands xs g
  with_wires make a b bytes size at xs g m two h =
      let p = map_ok_was _ (two_wires at (drop 2 xs)) g h in
      let q = check_ok _ _ _ _ p.1 in
      let is = ok_same q.1 in
      let v = number_of (drop 2 xs) in
      let w = number_of (drop 4 (drop 2 xs)) in
      let long : 10 ≤ length xs = omega (arith, leb-true 8 (length (drop 2 xs)) q.0, length-drop 2 xs) in
      subst (GateStands xs) (ap (λ (r : ℕ × ℕ). make r.0 r.1) is ∙ p.2)
      (record {
        whole = omega (arith, size v w, long);
        spelled = λ bs. (λ i. bytes v w i ++ drop (size v w i) xs) ∙ wires_spelled a b xs m long bs;
      })

  body_stands : (m : GateMark) (at : ℕ) (xs : List ℕ) (g : Gate (List ℕ)) → marked (first_letter m) (second_letter m) xs ≡ true → 2 ≤ length xs
      → gate_body K at (Some m) (drop 2 xs) ≡ Ok g → GateStands xs g
  body_stands GateMark.AddConstant at xs g m two h = with_row ac 65 67 (λ w c. refl) (λ w c. refl) at xs g m two h
  body_stands GateMark.MultiplyConstant at xs g m two h = with_row mc 77 67 (λ w c. refl) (λ w c. refl) at xs g m two h
  body_stands GateMark.Add at xs g m two h = with_wires ad 65 68 (λ v w. refl) (λ v w. refl) at xs g m two h
  body_stands GateMark.Multiply at xs g m two h = with_wires mu 77 85 (λ v w. refl) (λ v w. refl) at xs g m two h

  pub gate_stands : (at : ℕ) (xs : List ℕ) (g : Gate (List ℕ)) → gate_in K at xs ≡ Ok g → GateStands xs g
  gate_stands at xs g h = let p = check_ok _ _ _ _ h in go (leb-true _ _ p.0) (gate_mark xs) refl p.1
    where
      go : 2 ≤ length xs → (m : Option GateMark) → gate_mark xs ≡ m → gate_body K at m (drop 2 xs) ≡ Ok g → GateStands xs g
      go two None e k = err_ok k
      go two (Some m) e k = body_stands m at xs g (gate_marked xs m e) two k

  pub wire_below : (own place a : ℕ) (u : Unit {0}) → wire_right own place a ≡ Ok u → a < own
  wire_below own place a u h = ltb-true a own (check_ok _ _ _ _ h).0

  pub row_for : (at own a : ℕ) (c : List ℕ) (u : Unit {0}) → wire_and_row_right K at own a c ≡ Ok u → (a < own) × Lawful K c
  row_for at own a c u h = let p = then_ok (wire_right own (at + 2) a) _ u h in (wire_below own (at + 2) a p.0 p.1, (check_ok _ _ _ _ p.2).0)

  wires_for : (at own a b : ℕ) (u : Unit {0}) → two_wires_right at own a b ≡ Ok u → (a < own) × (b < own)
  wires_for at own a b u h = let p = then_ok (wire_right own (at + 2) a) _ u h in (wire_below own (at + 2) a p.0 p.1, wire_below own (at + 6) b u p.2)

  pub right_for : (at own : ℕ) (g : Gate (List ℕ)) (u : Unit {0}) → gate_right K at own g ≡ Ok u → GateFor K own g
  right_for at own (ac a c) u h = row_for at own a c u h
  right_for at own (mc a c) u h = row_for at own a c u h
  right_for at own (ad a b) u h = wires_for at own a b u h
  right_for at own (mu a b) u h = wires_for at own a b u h

  -- n gates stand at the front of xs, the first of which writes wire own; q products stand before them
  pub record GatesStand (k n own q at : ℕ) (xs : List ℕ) (G : Records (Gate (List ℕ))) : Type 0 where
    pub count : length G.items ≡ n
    pub for : GatesFor K own G.items
    pub within : view_length K k q ≤ longest_view → view_length K k (q + mus G.items) ≤ longest_view
    pub spelled : Bytes xs → (flat_map gate_bytes G.items ++ G.rest ≡ xs) × Bytes G.rest
    pub walked : gates_in K n at xs ≡ Ok G

  -- the count with one more gate is the count of the gates before and this one
  pub counted_is : (at k q : ℕ) (g : Gate (List ℕ)) (gs : List (Gate (List ℕ))) (p : ℕ) → counted K at k q g ≡ Ok p
      → (p + mus gs ≡ q + mus (g ∷ gs)) × (view_length K k q ≤ longest_view → view_length K k p ≤ longest_view)
  counted_is at k q (ac a c) gs p h = let e = ok_same h in (ap (λ n. n + mus gs) (sym e), subst (λ n. view_length K k n ≤ longest_view) e)
  counted_is at k q (mc a c) gs p h = let e = ok_same h in (ap (λ n. n + mus gs) (sym e), subst (λ n. view_length K k n ≤ longest_view) e)
  counted_is at k q (ad a b) gs p h = let e = ok_same h in (ap (λ n. n + mus gs) (sym e), subst (λ n. view_length K k n ≤ longest_view) e)
  counted_is at k q (mu a b) gs p h =
      let c = check_ok _ _ _ _ h in
      let e = ok_same c.1 in
      (ap (λ n. n + mus gs) (sym e) ∙ omega arith, λ _. subst (λ n. view_length K k n ≤ longest_view) e (leb-true _ _ c.0))

  pub gates_stand : (k n own q at : ℕ) (xs : List ℕ) (G : Records (Gate (List ℕ))) → gates_from K k n own q at xs ≡ Ok G → GatesStand k n own q at xs G
  unfolding gates_from gates_in
  gates_stand k zero own q at xs G h =
      subst (GatesStand k 0 own q at xs) (ok_same h)
      (record { count = refl; for = tt; within = λ w. subst (λ n. view_length K k n ≤ longest_view) (sym (add-zero q)) w; spelled = λ bs. (refl, bs); walked = refl })
  gates_stand k (suc n) own q at xs G h =
      let a = then_ok (gate_in K at xs) _ G h in
      let g = a.0 in
      let b = then_ok (gate_right K at own g) _ G a.2 in
      let c = then_ok (counted K at k q g) _ G b.2 in
      let p = c.0 in
      let m = map_ok_was (in_front g) (gates_from K k n (suc own) p (at + gate_size K g) (drop (gate_size K g) xs)) G c.2 in
      let R = m.0 in
      let one = gate_stands at xs g a.1 in
      let more = gates_stand k n (suc own) p (at + gate_size K g) (drop (gate_size K g) xs) R m.1 in
      let num = counted_is at k q g R.items p c.1 in
      subst (GatesStand k (suc n) own q at xs) m.2 (record {
        count = ap suc more.count;
        for = (right_for at own g b.0 b.1, more.for);
        within = λ w. subst (λ j. view_length K k j ≤ longest_view) num.0 (more.within (num.1 w));
        spelled = λ bs.
            let s = more.spelled (bytes_drop (gate_size K g) xs bs) in
            (append_assoc (gate_bytes g) (flat_map gate_bytes R.items) R.rest ∙ ap (λ t. gate_bytes g ++ t) s.0 ∙ one.spelled bs, s.1);
        walked =
            ap (λ r. and_then r (λ x. map_ok (in_front x) (gates_in K n (at + gate_size K x) (drop (gate_size K x) xs)))) a.1
            ∙ ap (map_ok (in_front g)) more.walked;
      })

  pub record OutputStands (xs : List ℕ) (u : Output (List ℕ)) : Type 0 where
    pub whole : output_size K ≤ length xs
    pub spelled : Bytes xs → output_bytes u ++ drop (output_size K) xs ≡ xs

  pub output_stands : (at : ℕ) (xs : List ℕ) (u : Output (List ℕ)) → output_in K at xs ≡ Ok u → OutputStands xs u
  output_stands at xs u h =
      let a = check_ok _ _ _ _ h in
      let b = check_ok _ _ _ _ a.1 in
      let p = map_ok_was _ (wire_and_row K at (drop 2 xs)) u b.1 in
      let q = check_ok _ _ _ _ p.1 in
      let is = ok_same q.1 in
      let two : 2 ≤ length xs = leb-true 2 (length xs) a.0 in
      let long : 6 + K.width ≤ length xs = omega (arith, leb-true (4 + K.width) (length (drop 2 xs)) q.0, length-drop 2 xs, two) in
      subst (OutputStands xs) (ap (λ (r : ℕ × List ℕ). record { wire = r.0; target = r.1 }) is ∙ p.2)
      (record { whole = long; spelled = row_spelled 79 85 xs b.0 long })

  pub record OutputsStand (n wires at : ℕ) (xs : List ℕ) (U : Records (Output (List ℕ))) : Type 0 where
    pub count : length U.items ≡ n
    pub for : AllByRecursion (OutputFor K wires) U.items
    pub spelled : Bytes xs → flat_map output_bytes U.items ++ U.rest ≡ xs
    pub walked : outputs_in K n at xs ≡ Ok U

  pub outputs_stand : (n wires at : ℕ) (xs : List ℕ) (U : Records (Output (List ℕ))) → outputs_from K n wires at xs ≡ Ok U → OutputsStand n wires at xs U
  unfolding outputs_from outputs_in
  outputs_stand zero wires at xs U h =
      subst (OutputsStand 0 wires at xs) (ok_same h) (record { count = refl; for = tt; spelled = λ bs. refl; walked = refl })
  outputs_stand (suc n) wires at xs U h =
      let a = then_ok (output_in K at xs) _ U h in
      let u = a.0 in
      let b = then_ok (output_right K at wires u) _ U a.2 in
      let m = map_ok_was (in_front u) (outputs_from K n wires (at + output_size K) (drop (output_size K) xs)) U b.2 in
      let R = m.0 in
      let one = output_stands at xs u a.1 in
      let more = outputs_stand n wires (at + output_size K) (drop (output_size K) xs) R m.1 in
      subst (OutputsStand (suc n) wires at xs) m.2 (record {
        count = ap suc more.count;
        for = (row_for at wires u.wire u.target b.0 b.1, more.for);
        spelled = λ bs.
            append_assoc (output_bytes u) (flat_map output_bytes R.items) R.rest
            ∙ ap (λ t. output_bytes u ++ t) (more.spelled (bytes_drop (output_size K) xs bs)) ∙ one.spelled bs;
        walked =
            ap (λ r. and_then r (λ x. map_ok (in_front x) (outputs_in K n (at + output_size K) (drop (output_size K) xs)))) a.1
            ∙ ap (map_ok (in_front u)) more.walked;
      })

  -- the header's bytes
  pub record HeaderStands (bs : List ℕ) (n : Counts) : Type 0 where
    pub some_inputs : 1 ≤ n.inputs
    pub few_inputs : n.inputs ≤ most_inputs
    pub few_gates : n.gates ≤ most_gates
    pub some_outputs : 1 ≤ n.outputs
    pub few_outputs : n.outputs ≤ most_outputs
    pub long : 15 ≤ length bs
    pub spelled : Bytes bs → 76 ∷ 75 ∷ K.number ∷ four_bytes n.inputs ++ (four_bytes n.gates ++ (four_bytes n.outputs ++ drop 15 bs)) ≡ bs

  third : (xs : List ℕ) → 3 ≤ length xs → get_or xs 2 0 ∷ drop 3 xs ≡ drop 2 xs
  third [] k = absurd (omega arith)
  third (a ∷ []) k = absurd (omega arith)
  third (a ∷ b ∷ []) k = absurd (omega arith)
  third (a ∷ b ∷ c ∷ xs) k = refl

  pub counts_spelled : (bs : List ℕ) (number : ℕ) → Bytes bs → marked 76 75 bs ≡ true → get_or bs 2 0 ≡ number → 15 ≤ length bs
      → 76 ∷ 75 ∷ number ∷ four_bytes (number_of (drop 3 bs)) ++ (four_bytes (number_of (drop 7 bs)) ++ (four_bytes (number_of (drop 11 bs)) ++ drop 15 bs)) ≡ bs
  counts_spelled bs number h m n k =
      let one : four_bytes (number_of (drop 11 bs)) ++ drop 15 bs ≡ drop 11 bs = ap (λ t. four_bytes (number_of (drop 11 bs)) ++ t) (sym (drop-drop 4 11 bs)) ∙ number_spelled (drop 11 bs) (bytes_drop 11 bs h) (simp length-drop (omega arith)) in
      let two : four_bytes (number_of (drop 7 bs)) ++ drop 11 bs ≡ drop 7 bs = ap (λ t. four_bytes (number_of (drop 7 bs)) ++ t) (sym (drop-drop 4 7 bs)) ∙ number_spelled (drop 7 bs) (bytes_drop 7 bs h) (simp length-drop (omega arith)) in
      let three : four_bytes (number_of (drop 3 bs)) ++ drop 7 bs ≡ drop 3 bs = ap (λ t. four_bytes (number_of (drop 3 bs)) ++ t) (sym (drop-drop 4 3 bs)) ∙ number_spelled (drop 3 bs) (bytes_drop 3 bs h) (simp length-drop (omega arith)) in
      (λ i. 76 ∷ 75 ∷ sym n i ∷ (ap (λ t. four_bytes (number_of (drop 3 bs)) ++ t) (ap (λ t. four_bytes (number_of (drop 7 bs)) ++ t) one ∙ two) ∙ three) i)
      ∙ ap {B = List ℕ} (λ t. 76 ∷ 75 ∷ t) (third bs (omega arith))
      ∙ mark_spelled 76 75 bs m (omega arith)

  pub header_stands : (bs : List ℕ) (n : Counts) → header_of K bs ≡ Ok n → HeaderStands bs n
  header_stands bs n h =
      let p1 = check_ok _ _ _ _ (check_ok _ _ _ _ h).1 in
      let p2 = check_ok _ _ _ _ p1.1 in
      let p3 = check_ok _ _ _ _ p2.1 in
      let k = then_ok _ _ n p3.1 in
      let g = then_ok _ _ n k.2 in
      let m = then_ok _ _ n g.2 in
      let kt = check_ok _ _ _ _ k.1 in
      let gt = check_ok _ _ _ _ g.1 in
      let mt = check_ok _ _ _ _ m.1 in
      let ks = and_parts (leb 1 (number_of (drop 3 bs))) (leb (number_of (drop 3 bs)) most_inputs) kt.0 in
      let gs = and_parts (leb 0 (number_of (drop 7 bs))) (leb (number_of (drop 7 bs)) most_gates) gt.0 in
      let ms = and_parts (leb 1 (number_of (drop 11 bs))) (leb (number_of (drop 11 bs)) most_outputs) mt.0 in
      let is : record { inputs = number_of (drop 3 bs); gates = number_of (drop 7 bs); outputs = number_of (drop 11 bs) } ≡ n =
      (λ i. record { inputs = ok_same kt.1 i; gates = ok_same gt.1 i; outputs = ok_same mt.1 i }) ∙ ok_same m.2 in
      let long : 15 ≤ length bs = leb-true _ _ p2.0 in
      subst (HeaderStands bs) is (record {
        some_inputs = leb-true _ _ ks.0;
        few_inputs = leb-true _ _ ks.1;
        few_gates = leb-true _ _ gs.1;
        some_outputs = leb-true _ _ ms.0;
        few_outputs = leb-true _ _ ms.1;
        long = long;
        spelled = λ by. counts_spelled bs K.number by p1.0 (eqb-true _ _ p3.0) long;
      })

  -- a lock that was read, part by part
  pub record LockStands (bs : List ℕ) (l : Circuit (List ℕ)) : Type 0 where
    pub counts : Counts
    pub gate_records : Records (Gate (List ℕ))
    pub output_records : Records (Output (List ℕ))
    pub header : header_of K bs ≡ Ok counts
    pub gates_read : gates_from K counts.inputs counts.gates counts.inputs 0 15 (drop 15 bs) ≡ Ok gate_records
    pub outputs_read : outputs_from K counts.outputs (counts.inputs + counts.gates) gate_records.end gate_records.rest ≡ Ok output_records
    pub none_left : output_records.rest ≡ []
    pub is : record { inputs = counts.inputs; gates = gate_records.items; outputs = output_records.items } ≡ l

  pub lock_stands : (bs : List ℕ) (l : Circuit (List ℕ)) → lock_of K bs ≡ Ok l → LockStands bs l
  lock_stands bs l h =
      let a = then_ok (header_of K bs) (λ n. records_of K n 15 (drop 15 bs)) l h in
      let n = a.0 in
      let b = then_ok (gates_from K n.inputs n.gates n.inputs 0 15 (drop 15 bs)) _ l a.2 in
      let G = b.0 in
      let c = then_ok (outputs_from K n.outputs (n.inputs + n.gates) G.end G.rest) _ l b.2 in
      let U = c.0 in
      let e = then_ok (ended U.rest U.end) _ l c.2 in
      let d = check_ok _ _ _ _ e.1 in
      record {
        counts = n;
        gate_records = G;
        output_records = U;
        header = a.1;
        gates_read = b.1;
        outputs_read = c.1;
        none_left = nil_from_length U.rest (eqb-true _ _ d.0);
        is = ok_same e.2;
      }

  module _ (narrow : K.width ≤ 16) (bs : List ℕ) where
    pub parts_well_formed : (n : Counts) (G : Records (Gate (List ℕ))) (U : Records (Output (List ℕ))) → HeaderStands bs n
        → GatesStand n.inputs n.gates n.inputs 0 15 (drop 15 bs) G → OutputsStand n.outputs (n.inputs + n.gates) G.end G.rest U
        → WellFormed K (record { inputs = n.inputs; gates = G.items; outputs = U.items })
    parts_well_formed n G U h g u = record {
      some_inputs = h.some_inputs;
      few_inputs = h.few_inputs;
      few_gates = subst (λ j. j ≤ most_gates) (sym g.count) h.few_gates;
      some_outputs = subst (λ j. 1 ≤ j) (sym u.count) h.some_outputs;
      few_outputs = subst (λ j. j ≤ most_outputs) (sym u.count) h.few_outputs;
      gates_for = g.for;
      outputs_for = subst (λ j. AllByRecursion (OutputFor K (n.inputs + j)) U.items) (sym g.count) u.for;
      short_view =
          let z : 0 + mus G.items ≡ mus G.items = omega arith in
          subst (λ j. view_length K n.inputs j ≤ longest_view) z (g.within (view_starts K n.inputs narrow h.few_inputs));
    }

    -- the bytes that are left stand behind the encoding
    pub parts_spelled : (n : Counts) (G : Records (Gate (List ℕ))) (U : Records (Output (List ℕ))) → HeaderStands bs n
        → GatesStand n.inputs n.gates n.inputs 0 15 (drop 15 bs) G → OutputsStand n.outputs (n.inputs + n.gates) G.end G.rest U
        → Bytes bs → encoded K (record { inputs = n.inputs; gates = G.items; outputs = U.items }) ++ U.rest ≡ bs
    parts_spelled n G U h g u by =
        let gs = g.spelled (bytes_drop 15 bs by) in
        let us = u.spelled gs.1 in
        let rest : (flat_map gate_bytes G.items ++ flat_map output_bytes U.items) ++ U.rest ≡ drop 15 bs =
        append_assoc (flat_map gate_bytes G.items) (flat_map output_bytes U.items) U.rest ∙ ap (λ t. flat_map gate_bytes G.items ++ t) us ∙ gs.0 in
        (λ i. 76 ∷ 75 ∷ K.number ∷ four_bytes n.inputs ++ (four_bytes (g.count i) ++ (four_bytes (u.count i) ++ rest i)))
        ∙ h.spelled by

    pub lock_well_formed : (l : Circuit (List ℕ)) → lock_of K bs ≡ Ok l → WellFormed K l
    lock_well_formed l h =
        let s = lock_stands bs l h in
        subst (WellFormed K) s.is
        (parts_well_formed s.counts s.gate_records s.output_records (header_stands bs s.counts s.header)
        (gates_stand _ _ _ 0 15 _ _ s.gates_read) (outputs_stand _ _ _ _ _ s.outputs_read))

    pub lock_spelled : (l : Circuit (List ℕ)) → Bytes bs → lock_of K bs ≡ Ok l → encoded K l ≡ bs
    lock_spelled l by h =
        let s = lock_stands bs l h in
        ap (encoded K) (sym s.is)
        ∙ sym (append-nil (encoded K (record { inputs = s.counts.inputs; gates = s.gate_records.items; outputs = s.output_records.items })))
        ∙ ap (λ t. encoded K (record { inputs = s.counts.inputs; gates = s.gate_records.items; outputs = s.output_records.items }) ++ t) (sym s.none_left)
        ∙ parts_spelled s.counts s.gate_records s.output_records (header_stands bs s.counts s.header)
        (gates_stand _ _ _ 0 15 _ _ s.gates_read) (outputs_stand _ _ _ _ _ s.outputs_read) by
