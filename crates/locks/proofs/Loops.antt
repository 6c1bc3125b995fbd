-- The turns of the reader's loops: what is left gives the whole.
use Rattle.std.proofs.Common.{◌≡◌, ℕ, suc, ◌+◌, ◌-◌, ◌<◌, ◌≤◌, List, drop, Ok, Err, Result, sym, refl, ap, ◌∙◌, add-zero, arith}
use Rattle.faults.specs.declared.Fault.{Fault}
use Rattle.faults.specs.Outcomes.{and_then, map_ok}
use Rattle.faults.proofs.Passed.{ok_same, check_ok, then_ok, then_err}
use Rattle.kinds.specs.Kind.{Kind}
use Rattle.locks.specs.Circuit.{Gate, ac, mc, ad, mu, Output}
use Rattle.locks.specs.Reading.{gate_size, output_size, gate_in, output_in, gate_right, output_right, counted, gate_tested, output_tested, Records, in_front, gates_from, outputs_from}
use Rattle.locks.specs.Model.{Standing, behind, past_gate, past_output, tally, all_read}
use Rattle.locks.proofs.Spelled.{counted_is}

one_less : (count j : ℕ) → j < count → suc (count - (j + 1)) ≡ count - j
one_less count j h = omega arith

one_up : (k j : ℕ) → k + (j + 1) ≡ suc (k + j)
one_up k j = omega arith

pub counted_small : (K : Kind) (at k q : ℕ) (g : Gate (List ℕ)) (p : ℕ) → counted K at k q g ≡ Ok p → p ≤ q + 1
counted_small K at k q (ac a c) p h = let e : q ≡ p = ok_same h in omega arith
counted_small K at k q (mc a c) p h = let e : q ≡ p = ok_same h in omega arith
counted_small K at k q (ad a b) p h = let e : q ≡ p = ok_same h in omega arith
counted_small K at k q (mu a b) p h = let e : q + 1 ≡ p = ok_same (check_ok _ _ _ _ h).1 in omega arith

module _ (K : Kind) (k : ℕ) where
  module _ (count j q : ℕ) (s : Standing) (h : j < count) where
    abbrev here : Result (Records (Gate (List ℕ))) Fault
    here = gates_from K k (count - j) (k + j) q s.at s.rest

    -- a gate passed: the rest of the gates, from where the reader stands then
    pub gates_next : (p : ℕ) (t : Standing) → gate_tested K k (k + j) q s.at s.rest ≡ Ok p → t ≡ past_gate K (gate_in K s.at s.rest) s
        → (map_ok (tally p) (gates_from K k (count - (j + 1)) (k + (j + 1)) p t.at t.rest) ≡ map_ok (tally q) here) × (p ≤ q + 1)
    unfolding gates_from
    gates_next p t e st =
        let a = then_ok (gate_in K s.at s.rest) _ p e in
        let g = a.0 in
        let b = then_ok (gate_right K s.at (k + j) g) _ p a.2 in
        let stands : t ≡ behind (gate_size K g) s = st ∙ ap (λ r. past_gate K r s) a.1 in
        let n = count - (j + 1) in
        let rest : Gate (List ℕ) → ℕ → Result (Records (Gate (List ℕ))) Fault = λ x p. map_ok (in_front x) (gates_from K k (count - (j + 1)) (suc (k + j)) p (s.at + gate_size K x) (drop (gate_size K x) s.rest)) in (
          (λ i. map_ok (tally p) (gates_from K k (count - (j + 1)) (one_up k j i) p (stands i).at (stands i).rest))
              ∙ joined_on g p b.2 (gates_from K k (count - (j + 1)) (suc (k + j)) p (s.at + gate_size K g) (drop (gate_size K g) s.rest))
              ∙ ap (λ r. map_ok (tally q) (and_then r (rest g))) (sym b.2)
              ∙ ap (λ r. map_ok (tally q) (and_then r (λ _. and_then (counted K s.at k q g) (rest g)))) (sym b.1)
              ∙ ap (λ r. map_ok (tally q) (and_then r (λ x. and_then (gate_right K s.at (k + j) x) (λ _. and_then (counted K s.at k q x) (rest x))))) (sym a.1)
              ∙ ap (λ m. map_ok (tally q) (gates_from K k m (k + j) q s.at s.rest)) (one_less count j h),
          counted_small K s.at k q g p b.2,
        )
      where
        joined_on : (g : Gate (List ℕ)) (p : ℕ) → counted K s.at k q g ≡ Ok p → (r : Result (Records (Gate (List ℕ))) Fault) → map_ok (tally p) r ≡ map_ok (tally q) (map_ok (in_front g) r)
        joined_on g p c (Ok G) = λ i. Ok ((counted_is K s.at k q g G.items p c).0 i, record { rest = G.rest; at = G.end })
        joined_on g p c (Err f) = refl

    -- a gate was refused
    pub gates_refused : (f : Fault) → gate_tested K k (k + j) q s.at s.rest ≡ Err f → Err f ≡ map_ok (tally q) here
    unfolding gates_from
    gates_refused f e =
        let rest : Gate (List ℕ) → ℕ → Result (Records (Gate (List ℕ))) Fault = λ x p. map_ok (in_front x) (gates_from K k (count - (j + 1)) (suc (k + j)) p (s.at + gate_size K x) (drop (gate_size K x) s.rest)) in
        let all : gates_from K k (suc (count - (j + 1))) (k + j) q s.at s.rest ≡ Err f =
        then_err (gate_in K s.at s.rest) _ (λ x. and_then (gate_right K s.at (k + j) x) (λ _. and_then (counted K s.at k q x) (rest x))) f e
        (λ g e. then_err (gate_right K s.at (k + j) g) _ (λ _. and_then (counted K s.at k q g) (rest g)) f e
        (λ u e. ap (λ r. and_then r (rest g)) e)) in
        sym (ap (map_ok (tally q)) all) ∙ ap (λ m. map_ok (tally q) (gates_from K k m (k + j) q s.at s.rest)) (one_less count j h)

  -- no gate is left
  pub gates_end : (count j own q : ℕ) (s : Standing) → j ≡ count → Ok (q, s) ≡ map_ok (tally q) (gates_from K k (count - j) own q s.at s.rest)
  unfolding gates_from
  gates_end count j own q s e =
      let z : 0 ≡ count - j = omega arith in
      (λ i. Ok (sym (add-zero q) i, s)) ∙ ap (λ n. map_ok (tally q) (gates_from K k n own q s.at s.rest)) z

module _ (K : Kind) (wires : ℕ) where
  module _ (count j : ℕ) (s : Standing) (h : j < count) where
    pub outputs_next : (t : Standing) (u : Unit {0}) → output_tested K wires s.at s.rest ≡ Ok u → t ≡ past_output K (output_in K s.at s.rest) s
        → map_ok all_read (outputs_from K (count - (j + 1)) wires t.at t.rest) ≡ map_ok all_read (outputs_from K (count - j) wires s.at s.rest)
    unfolding outputs_from
    outputs_next t u e st =
        let a = then_ok (output_in K s.at s.rest) _ u e in
        let x = a.0 in
        let stands : t ≡ behind (output_size K) s = st ∙ ap (λ r. past_output K r s) a.1 in
        let left = outputs_from K (count - (j + 1)) wires (s.at + output_size K) (drop (output_size K) s.rest) in
        (λ i. map_ok all_read (outputs_from K (count - (j + 1)) wires (stands i).at (stands i).rest))
        ∙ in_front_of x left
        ∙ ap (λ r. map_ok all_read (and_then r (λ _. map_ok (in_front x) left))) (sym a.2)
        ∙ ap (λ r. map_ok all_read (and_then r (λ v. and_then (output_right K s.at wires v) (λ _. map_ok (in_front v) left)))) (sym a.1)
        ∙ ap (λ m. map_ok all_read (outputs_from K m wires s.at s.rest)) (one_less count j h)
      where
        in_front_of : (x : Output (List ℕ)) (r : Result (Records (Output (List ℕ))) Fault) → map_ok all_read r ≡ map_ok all_read (map_ok (in_front x) r)
        in_front_of x (Ok U) = refl
        in_front_of x (Err f) = refl

    pub outputs_refused : (f : Fault) → output_tested K wires s.at s.rest ≡ Err f → Err f ≡ map_ok all_read (outputs_from K (count - j) wires s.at s.rest)
    unfolding outputs_from
    outputs_refused f e =
        let left = outputs_from K (count - (j + 1)) wires (s.at + output_size K) (drop (output_size K) s.rest) in
        let all : outputs_from K (suc (count - (j + 1))) wires s.at s.rest ≡ Err f =
        then_err (output_in K s.at s.rest) _ (λ v. and_then (output_right K s.at wires v) (λ _. map_ok (in_front v) left)) f e
        (λ v e. ap (λ r. and_then r (λ _. map_ok (in_front v) left)) e) in
        sym (ap (map_ok all_read) all) ∙ ap (λ m. map_ok all_read (outputs_from K m wires s.at s.rest)) (one_less count j h)

  pub outputs_end : (count j : ℕ) (s : Standing) → j ≡ count → Ok (tt, s) ≡ map_ok all_read (outputs_from K (count - j) wires s.at s.rest)
  unfolding outputs_from
  outputs_end count j s e =
      let z : 0 ≡ count - j = omega arith in
      ap (λ n. map_ok all_read (outputs_from K n wires s.at s.rest)) z
