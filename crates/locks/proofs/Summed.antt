-- A lock is read as its header and its records are.
use Rattle.std.proofs.Common.{◌≡◌, ℕ, ◌+◌, ◌<◌, List, length, get_or, drop, Ok, Err, Result, sym, refl, ap, ◌∙◌, subst, arith, w8, Fits}
use Rattle.std.proofs.ByRecursion.{All-from_get_or}
use Rattle.faults.specs.declared.Fault.{Fault}
use Rattle.faults.specs.Outcomes.{and_then, map_ok}
use Rattle.faults.proofs.Passed.{map_ok_was}
use Rattle.kinds.specs.Kind.{Kind, Bytes}
use Rattle.locks.specs.declared.records.Counts.{Counts}
use Rattle.locks.specs.Circuit.{Circuit, mus}
use Rattle.locks.specs.Reading.{header_of, records_of, lock_of, gates_in, outputs_in}
use Rattle.locks.specs.Model.{behind_header}
use Rattle.locks.specs.Locks.{summary, Walks, Walkable}
use Rattle.locks.proofs.Refusals.{map_refused}
use Rattle.locks.proofs.Spelled.{lock_stands, gates_stand, outputs_stand}

-- what a slice of bytes holds are bytes
pub in_bytes : (xs : List ℕ) → ((i : ℕ) → Fits w8 (get_or xs i 0)) → Bytes xs
in_bytes xs h = All-from_get_or (λ b. b < 256) xs 0 (λ i _. let f = h i in omega arith)

pub walk_refused : (K : Kind) (bs : List ℕ) (r : Result (List ℕ) Fault) (t : Result (Circuit (List ℕ)) Fault) (f : Fault) → r ≡ Err f → t ≡ Err f → Walkable K bs r t
walk_refused K bs r t f e d = subst (λ x. Walkable K bs x t) (sym e) (subst (λ y. Walkable K bs (Err f) y) (sym d) tt)

pub walk_accepted : (K : Kind) (bs xs : List ℕ) (t : Result (Circuit (List ℕ)) Fault) (l : Circuit (List ℕ)) → t ≡ Ok l → xs ≡ drop 15 bs → Walks K (behind_header (drop 15 bs)) l → Walkable K bs (Ok xs) t
walk_accepted K bs xs t l e r w = subst (λ y. Walkable K bs (Ok xs) y) (sym e) (r, subst (λ z. Walks K (behind_header z) l) (sym r) w)

module _ (K : Kind) (bs : List ℕ) where
  pub header_refused : (f : Fault) → header_of K bs ≡ Err f → lock_of K bs ≡ Err f
  header_refused f e = ap (λ r. and_then r (λ n. records_of K n 15 (drop 15 bs))) e

  behind_counts : (n : Counts) → header_of K bs ≡ Ok n → lock_of K bs ≡ records_of K n 15 (drop 15 bs)
  behind_counts n e = ap (λ r. and_then r (λ n. records_of K n 15 (drop 15 bs))) e

  pub records_refused : (n : Counts) (f : Fault) → header_of K bs ≡ Ok n → map_ok (λ l. mus l.gates) (records_of K n 15 (drop 15 bs)) ≡ Err f → lock_of K bs ≡ Err f
  records_refused n f e h = behind_counts n e ∙ map_refused (λ l. mus l.gates) (records_of K n 15 (drop 15 bs)) f h

  pub record Accepted (n : Counts) (q : ℕ) : Type 0 where
    pub circuit : Circuit (List ℕ)
    pub read : lock_of K bs ≡ Ok circuit
    pub sums : record { inputs = n.inputs; gates = n.gates; outputs = n.outputs; products = q } ≡ summary circuit
    pub walks : Walks K (behind_header (drop 15 bs)) circuit

  pub accepted : (n : Counts) (q : ℕ) → header_of K bs ≡ Ok n → map_ok (λ l. mus l.gates) (records_of K n 15 (drop 15 bs)) ≡ Ok q → Accepted n q
  accepted n q e h =
      let m = map_ok_was (λ l. mus l.gates) (records_of K n 15 (drop 15 bs)) q h in
      let l = m.0 in
      let read : lock_of K bs ≡ Ok m.0 = behind_counts n e ∙ m.1 in
      let s = lock_stands K bs l read in
      let G = gates_stand K s.counts.inputs s.counts.gates s.counts.inputs 0 15 (drop 15 bs) s.gate_records s.gates_read in
      let U = outputs_stand K s.counts.outputs (s.counts.inputs + s.counts.gates) s.gate_records.end s.gate_records.rest s.output_records s.outputs_read in
      let same : s.counts ≡ n = same_counts (sym s.header ∙ e) in
      let gates : length l.gates ≡ n.gates = ap (λ c. length c.gates) (sym s.is) ∙ G.count ∙ ap (λ c. c.gates) same in
      let outputs : length l.outputs ≡ n.outputs = ap (λ c. length c.outputs) (sym s.is) ∙ U.count ∙ ap (λ c. c.outputs) same in
      let inputs : l.inputs ≡ n.inputs = ap (λ c. c.inputs) (sym s.is) ∙ ap (λ c. c.inputs) same in
      record {
        circuit = l;
        read = read;
        sums = λ i. record { inputs = sym inputs i; gates = sym gates i; outputs = sym outputs i; products = sym m.2 i };
        walks = subst (Walks K (behind_header (drop 15 bs))) s.is (
          s.gate_records,
          s.output_records,
          subst (λ j. gates_in K j 15 (drop 15 bs) ≡ Ok s.gate_records) (sym G.count) G.walked,
          refl,
          subst (λ j. outputs_in K j s.gate_records.end s.gate_records.rest ≡ Ok s.output_records) (sym U.count) U.walked,
          refl,
          ap length s.none_left,
        );
      }
    where
      same_counts : {a b : Counts} → ◌≡◌ {A = Result Counts Fault} (Ok a) (Ok b) → a ≡ b
      same_counts h = cc
