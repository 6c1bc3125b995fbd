-- A lock that is refused: what stands before the broken rule, and the rule.
use Rattle.std.proofs.Common.{◌≡◌, ℕ, zero, suc, ◌+◌, ◌<◌, ◌≤◌, Bool, true, false, ◌&&◌, eqb, leb, List, [], ◌∷◌, ◌++◌, length, get_or, take, drop, Ok, Err, sym, refl, ap, ◌∙◌, subst, inl, inr, ⊎_elim, append_assoc, add-zero, arith, length-append, length-drop}
use Rattle.std.specs.List.{flat_map, AllByRecursion}
use Rattle.std.proofs.lemmas.List.{take-append-drop}
use Rattle.std.proofs.lemmas.Bool.{eqb-true, eqb-false, leb-true, leb-false, and_parts, and_from, eq-eqb, false≢true}
use Rattle.faults.specs.declared.Reason.{Reason}
use Rattle.faults.specs.declared.Fault.{Fault}
use Rattle.faults.specs.Numbers.{fault}
use Rattle.faults.proofs.Passed.{err_ok, ok_same, check_ok, then_ok, map_ok_was}
use Rattle.kinds.specs.Kind.{Kind, Laws, Lawful, Bytes}
use Rattle.kinds.specs.Numbers.{number_of}
use Rattle.locks.specs.declared.records.Counts.{Counts}
use Rattle.locks.specs.Circuit.{Gate, Output, Circuit, mus}
use Rattle.locks.specs.Limits.{most_inputs, most_gates, most_outputs}
use Rattle.locks.specs.Reading.{marked, gate_size, gate_in, gate_right, counted, output_size, wire_and_row, output_in, output_right, Records, in_front, gates_from, outputs_from, ended, count_within, counts_of, header_of, records_of, lock_of}
use Rattle.locks.specs.Encoding.{gate_bytes, output_bytes, encoded, OutputFor}
use Rattle.locks.specs.Refusing.{InFront, GateBroken, OutputBroken, output_cut, output_unmarked, output_short, output_field, header_bytes, Inside, Outside, CountsBroken, HeaderBroken, header_cut, header_unmarked, header_short, header_field, HeaderRight, Refused, in_header, in_gate, in_output, behind, RefusalLaw}
use Rattle.locks.proofs.Fields.{bytes_drop, begins_so}
use Rattle.locks.proofs.Spelled.{output_stands, row_for, gates_stand, outputs_stand, header_stands, counts_spelled, parts_well_formed, parts_spelled, GatesStand, OutputsStand, HeaderStands, gate_stands}
use Rattle.locks.proofs.Refusals.{check_err, then_refused, map_refused, row_short, row_broken, gates_broken}

-- two letters stand in front exactly when the mark test says so
marked_by : (a b : ℕ) (ys : List ℕ) → marked a b (a ∷ b ∷ ys) ≡ true
marked_by a b ys = and_from (eqb a a) (eqb b b) (eq-eqb a a refl) (eq-eqb b b refl)

marked_not : (a b : ℕ) (xs : List ℕ) → marked a b xs ≡ false → take 2 xs ≡ a ∷ b ∷ [] → ⊥
marked_not a b xs h e =
    false≢true (sym h ∙ ap (marked a b) (sym (take-append-drop 2 xs) ∙ ap (λ t. t ++ drop 2 xs) e) ∙ marked_by a b (drop 2 xs))

module _ (K : Kind) where
  output_record_broken : (wires at : ℕ) (xs : List ℕ) (f : Fault) → output_in K at xs ≡ Err f → OutputBroken K wires at xs f
  output_record_broken wires at xs f h =
      ⊎_elim (λ p. subst (OutputBroken K wires at xs) p.1 (output_cut (leb-false 2 (length xs) p.0)))
      (λ p. let two : 2 ≤ length xs = leb-true 2 (length xs) p.0 in
      ⊎_elim (λ q. subst (OutputBroken K wires at xs) q.1 (output_unmarked two (marked_not 79 85 xs q.0)))
      (λ q. let s = row_short K at xs f two (map_refused _ (wire_and_row K at (drop 2 xs)) f q.1) in
      subst (OutputBroken K wires at xs) s.1 (output_short (begins_so 79 85 xs q.0 two) s.0))
      (check_err (marked 79 85 xs) _ _ f p.1))
      (check_err (leb 2 (length xs)) _ _ f h)

  -- outputs that are right, and the one that is not
  record OutputsBroken (n wires at : ℕ) (xs : List ℕ) (f : Fault) : Type 0 where
    before : List (Output (List ℕ))
    rest : List ℕ
    fewer : length before < n
    for : AllByRecursion (OutputFor K wires) before
    spelled : flat_map output_bytes before ++ rest ≡ xs
    broken : OutputBroken K wires (at + length (flat_map output_bytes before)) rest f

  no_output_before : (n wires at : ℕ) (xs : List ℕ) (f : Fault) → OutputBroken K wires at xs f → OutputsBroken (suc n) wires at xs f
  no_output_before n wires at xs f b = record {
    before = [];
    rest = xs;
    fewer = omega arith;
    for = tt;
    spelled = refl;
    broken = subst (λ p. OutputBroken K wires p xs f) (sym (add-zero at)) b;
  }

  module _ (sized : (x : List ℕ) → Lawful K x → length x ≡ K.width) where
    output_before : (n wires at : ℕ) (xs : List ℕ) (f : Fault) (u : Output (List ℕ)) → OutputFor K wires u → output_bytes u ++ drop (output_size K) xs ≡ xs
        → OutputsBroken n wires (at + output_size K) (drop (output_size K) xs) f → OutputsBroken (suc n) wires at xs f
    output_before n wires at xs f u r s b = record {
      before = u ∷ b.before;
      rest = b.rest;
      fewer = let h = b.fewer in omega arith;
      for = (r, b.for);
      spelled = append_assoc (output_bytes u) (flat_map output_bytes b.before) b.rest ∙ ap (λ t. output_bytes u ++ t) b.spelled ∙ s;
      broken =
          let e = sized u.target r.1 in
          let own : length (output_bytes u) ≡ output_size K = omega arith in
          let long : length (output_bytes u ++ flat_map output_bytes b.before) ≡ output_size K + length (flat_map output_bytes b.before) = length-append (output_bytes u) (flat_map output_bytes b.before) ∙ ap (λ j. j + length (flat_map output_bytes b.before)) own in
          let at-is : at + output_size K + length (flat_map output_bytes b.before) ≡ at + length (output_bytes u ++ flat_map output_bytes b.before) = omega (arith, long) in
          subst (λ j. OutputBroken K wires j b.rest f) at-is b.broken;
    }

    outputs_broken : (n wires at : ℕ) (xs : List ℕ) (f : Fault) → Bytes xs → outputs_from K n wires at xs ≡ Err f → OutputsBroken n wires at xs f
    unfolding outputs_from
    outputs_broken zero wires at xs f by h = err_ok (sym h)
    outputs_broken (suc n) wires at xs f by h =
        ⊎_elim (λ e. no_output_before n wires at xs f (output_record_broken wires at xs f e))
        (λ a. let stands = output_stands K at xs a.0 a.1 in
        ⊎_elim (λ e. no_output_before n wires at xs f (output_field a.0 f (drop (output_size K) xs, stands.spelled by) (row_broken K wires at a.0.wire a.0.target f e)))
        (λ b. output_before n wires at xs f a.0 (row_for K at wires a.0.wire a.0.target b.0 b.1) (stands.spelled by)
        (outputs_broken n wires (at + output_size K) (drop (output_size K) xs) f (bytes_drop (output_size K) xs by) (map_refused (in_front a.0) _ f b.2)))
        (then_refused (output_right K at wires a.0) _ f a.2))
        (then_refused (output_in K at xs) _ f h)

-- a count outside its limits
outside : (low high n : ℕ) → (leb low n && leb n high) ≡ false → Outside low high n
outside low high n h = go (leb low n) (leb n high) refl refl h
  where
    go : (p q : Bool) → leb low n ≡ p → leb n high ≡ q → (p && q) ≡ false → Outside low high n
    go false q ep eq h = inl (leb-false low n ep)
    go true false ep eq h = inr (leb-false n high eq)
    go true true ep eq h = cc

inside : (low high n : ℕ) → (leb low n && leb n high) ≡ true → Inside low high n
inside low high n h = let p = and_parts (leb low n) (leb n high) h in (leb-true low n p.0, leb-true n high p.1)

count_refused : (low high at n : ℕ) (f : Fault) → count_within low high at n ≡ Err f → Outside low high n × (f ≡ fault Reason.OutsideLimits at)
count_refused low high at n f h =
    ⊎_elim (λ p. (outside low high n p.0, sym p.1)) (λ p. err_ok (sym p.1)) (check_err (leb low n && leb n high) _ _ f h)

count_passed : (low high at n m : ℕ) → count_within low high at n ≡ Ok m → Inside low high n
count_passed low high at n m h = inside low high n (check_ok (leb low n && leb n high) _ _ m h).0

module _ (K : Kind) (bs : List ℕ) where
  abbrev said : Counts
  said = record { inputs = number_of (drop 3 bs); gates = number_of (drop 7 bs); outputs = number_of (drop 11 bs) }

  counts_refused : (f : Fault) → get_or bs 2 0 ≡ K.number → counts_of bs ≡ Err f → CountsBroken K (get_or bs 2 0) said f
  counts_refused f num h =
      ⊎_elim (λ e. let c = count_refused 1 most_inputs 3 (number_of (drop 3 bs)) f e in inr (inl (num, c.0, c.1)))
      (λ a. let ki = count_passed 1 most_inputs 3 (number_of (drop 3 bs)) a.0 a.1 in
      ⊎_elim (λ e. let c = count_refused 0 most_gates 7 (number_of (drop 7 bs)) f e in inr (inr (inl (num, ki, c.0, c.1))))
      (λ b. let gi = count_passed 0 most_gates 7 (number_of (drop 7 bs)) b.0 b.1 in
      ⊎_elim (λ e. let c = count_refused 1 most_outputs 11 (number_of (drop 11 bs)) f e in inr (inr (inr (num, ki, gi, c.0, c.1))))
      (λ c. err_ok (sym c.2))
      (then_refused (count_within 1 most_outputs 11 (number_of (drop 11 bs))) _ f b.2))
      (then_refused (count_within 0 most_gates 7 (number_of (drop 7 bs))) _ f a.2))
      (then_refused (count_within 1 most_inputs 3 (number_of (drop 3 bs))) _ f h)

  header_refused : (f : Fault) → Bytes bs → header_of K bs ≡ Err f → HeaderBroken K bs f
  header_refused f by h =
      ⊎_elim (λ p. subst (HeaderBroken K bs) p.1 (header_cut (leb-false 2 (length bs) p.0)))
      (λ p. let two : 2 ≤ length bs = leb-true 2 (length bs) p.0 in
      ⊎_elim (λ q. subst (HeaderBroken K bs) q.1 (header_unmarked two (marked_not 76 75 bs q.0)))
      (λ q.
      ⊎_elim (λ r. subst (HeaderBroken K bs) r.1 (header_short (begins_so 76 75 bs q.0 two) (leb-false 15 (length bs) r.0)))
      (λ r. let stands : InFront (header_bytes (get_or bs 2 0) said) bs = (drop 15 bs, counts_spelled K bs (get_or bs 2 0) by q.0 refl (leb-true 15 (length bs) r.0)) in
      ⊎_elim (λ t. header_field (get_or bs 2 0) said f stands (inl (eqb-false (get_or bs 2 0) K.number t.0, sym t.1)))
      (λ t. header_field (get_or bs 2 0) said f stands (counts_refused f (eqb-true (get_or bs 2 0) K.number t.0) t.1))
      (check_err (eqb (get_or bs 2 0) K.number) _ _ f r.1))
      (check_err (leb 15 (length bs)) _ _ f q.1))
      (check_err (marked 76 75 bs) _ _ f p.1))
      (check_err (leb 2 (length bs)) _ _ f h)

module _ (K : Kind) where
  -- no byte is lost between the records that were read and what is left
  gates_kept : (k n own q at : ℕ) (xs : List ℕ) (G : Records (Gate (List ℕ))) → gates_from K k n own q at xs ≡ Ok G → G.end + length G.rest ≡ at + length xs
  unfolding gates_from
  gates_kept k zero own q at xs G h = ap (λ (R : Records (Gate (List ℕ))). R.end + length R.rest) (sym (ok_same h))
  gates_kept k (suc n) own q at xs G h =
      let a = then_ok (gate_in K at xs) _ G h in
      let b = then_ok (gate_right K at own a.0) _ G a.2 in
      let c = then_ok (counted K at k q a.0) _ G b.2 in
      let m = map_ok_was (in_front a.0) (gates_from K k n (suc own) c.0 (at + gate_size K a.0) (drop (gate_size K a.0) xs)) G c.2 in
      let more = gates_kept k n (suc own) c.0 (at + gate_size K a.0) (drop (gate_size K a.0) xs) m.0 m.1 in
      let whole = (gate_stands K at xs a.0 a.1).whole in
      ap (λ (R : Records (Gate (List ℕ))). R.end + length R.rest) (sym m.2) ∙ more ∙ omega (arith, length-drop (gate_size K a.0) xs, whole)

  outputs_kept : (n wires at : ℕ) (xs : List ℕ) (U : Records (Output (List ℕ))) → outputs_from K n wires at xs ≡ Ok U → U.end + length U.rest ≡ at + length xs
  unfolding outputs_from
  outputs_kept zero wires at xs U h = ap (λ (R : Records (Output (List ℕ))). R.end + length R.rest) (sym (ok_same h))
  outputs_kept (suc n) wires at xs U h =
      let a = then_ok (output_in K at xs) _ U h in
      let b = then_ok (output_right K at wires a.0) _ U a.2 in
      let m = map_ok_was (in_front a.0) (outputs_from K n wires (at + output_size K) (drop (output_size K) xs)) U b.2 in
      let more = outputs_kept n wires (at + output_size K) (drop (output_size K) xs) m.0 m.1 in
      let whole = (output_stands K at xs a.0 a.1).whole in
      ap (λ (R : Records (Output (List ℕ))). R.end + length R.rest) (sym m.2) ∙ more ∙ omega (arith, length-drop (output_size K) xs, whole)

  module _ (laws : Laws K) (bs : List ℕ) (by : Bytes bs) (f : Fault) where
    right : (n : Counts) → HeaderStands K bs n → HeaderRight K n
    right n h = record { inputs_right = (h.some_inputs, h.few_inputs); gates_right = h.few_gates; outputs_right = (h.some_outputs, h.few_outputs) }

    gate_refused : (n : Counts) → HeaderStands K bs n → gates_from K n.inputs n.gates n.inputs 0 15 (drop 15 bs) ≡ Err f → Refused K bs f
    gate_refused n h e =
        let b = gates_broken K laws.sized n.inputs n.gates n.inputs 0 15 (drop 15 bs) f (bytes_drop 15 bs by) e in
        let z : 0 + mus b.before ≡ mus b.before = omega arith in
        in_gate f n b.before b.rest (right n h) b.fewer b.for (ap (λ t. header_bytes K.number n ++ t) b.spelled ∙ h.spelled by)
        (subst (λ m. GateBroken K n.inputs (n.inputs + length b.before) m (15 + length (flat_map gate_bytes b.before)) b.rest f) z b.broken)

    module _ (n : Counts) (h : HeaderStands K bs n) (G : Records (Gate (List ℕ))) (g : gates_from K n.inputs n.gates n.inputs 0 15 (drop 15 bs) ≡ Ok G) where
      gates : GatesStand K n.inputs n.gates n.inputs 0 15 (drop 15 bs) G
      gates = gates_stand K n.inputs n.gates n.inputs 0 15 (drop 15 bs) G g

      output_refused : outputs_from K n.outputs (n.inputs + n.gates) G.end G.rest ≡ Err f → Refused K bs f
      output_refused e =
          let gs = gates.spelled (bytes_drop 15 bs by) in
          let b = outputs_broken K laws.sized n.outputs (n.inputs + n.gates) G.end G.rest f gs.1 e in
          let long : length (flat_map gate_bytes G.items) + length G.rest ≡ length (drop 15 bs) = sym (length-append (flat_map gate_bytes G.items) G.rest) ∙ ap length gs.0 in
          let ends : G.end ≡ 15 + length (flat_map gate_bytes G.items) = omega (arith, gates_kept n.inputs n.gates n.inputs 0 15 (drop 15 bs) G g, long) in
          in_output f n G.items b.before b.rest (right n h) gates.count gates.for b.fewer b.for
          (ap (λ t. header_bytes K.number n ++ (flat_map gate_bytes G.items ++ t)) b.spelled ∙ ap (λ t. header_bytes K.number n ++ t) gs.0 ∙ h.spelled by)
          (subst (λ j. OutputBroken K (n.inputs + n.gates) (j + length (flat_map output_bytes b.before)) b.rest f) ends b.broken)

      abbrev whole : Records (Output (List ℕ)) → Circuit (List ℕ)
      whole U = record { inputs = n.inputs; gates = G.items; outputs = U.items }

      end_refused : (U : Records (Output (List ℕ))) → outputs_from K n.outputs (n.inputs + n.gates) G.end G.rest ≡ Ok U → ended U.rest U.end ≡ Err f → Refused K bs f
      end_refused U u e = go U.rest refl
        where
          outs : OutputsStand K n.outputs (n.inputs + n.gates) G.end G.rest U
          outs = outputs_stand K n.outputs (n.inputs + n.gates) G.end G.rest U u

          spelled : encoded K (whole U) ++ U.rest ≡ bs
          spelled = parts_spelled K laws.most_width bs n G U h gates outs by

          place : length (encoded K (whole U)) ≡ U.end
          place =
              let all : length (encoded K (whole U)) + length U.rest ≡ length bs = sym (length-append (encoded K (whole U)) U.rest) ∙ ap length spelled in
              let long = h.long in
              omega (arith, all, outputs_kept n.outputs (n.inputs + n.gates) G.end G.rest U u, gates_kept n.inputs n.gates n.inputs 0 15 (drop 15 bs) G g, length-drop 15 bs)

          told : (length U.rest ≡ 0 → ⊥) × (fault Reason.TrailingBytes U.end ≡ f)
          told = ⊎_elim (λ p. (eqb-false (length U.rest) 0 p.0, p.1)) (λ p. err_ok (sym p.1)) (check_err (eqb (length U.rest) 0) _ _ f e)

          go : (xs : List ℕ) → U.rest ≡ xs → Refused K bs f
          go [] r = absurd (told.0 (ap length r))
          go (x ∷ xs) r =
              subst (Refused K bs) (ap (fault Reason.TrailingBytes) place ∙ told.1)
              (behind (whole U) x xs (parts_well_formed K laws.most_width bs n G U h gates outs) (ap (λ t. encoded K (whole U) ++ t) (sym r) ∙ spelled))

    pub refused : lock_of K bs ≡ Err f → Refused K bs f
    refused e =
        ⊎_elim (λ t. in_header f (header_refused K bs f by t))
        (λ a. let h = header_stands K bs a.0 a.1 in
        ⊎_elim (λ t. gate_refused a.0 h t)
        (λ b.
        ⊎_elim (λ t. output_refused a.0 h b.0 b.1 t)
        (λ c.
        ⊎_elim (λ t. end_refused a.0 h b.0 b.1 c.0 c.1 t) (λ d. err_ok (sym d.2))
        (then_refused (ended c.0.rest c.0.end) _ f c.2))
        (then_refused (outputs_from K a.0.outputs (a.0.inputs + a.0.gates) b.0.end b.0.rest) _ f b.2))
        (then_refused (gates_from K a.0.inputs a.0.gates a.0.inputs 0 15 (drop 15 bs)) _ f a.2))
        (then_refused (header_of K bs) (λ n. records_of K n 15 (drop 15 bs)) f e)

pub refusal_law : RefusalLaw
refusal_law = refused
