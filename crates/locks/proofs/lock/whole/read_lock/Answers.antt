use Rattle.std.proofs.Common.{◌≡◌, ℕ, List, length, Ok, Err, Result, sym, ap, ◌∙◌}
use Rattle.std.proofs.lemmas.Result.{err_from_is_err_and}
use Rattle.faults.specs.declared.Fault.{Fault}
use Rattle.faults.specs.Outcomes.{map_ok}
use Rattle.kinds.specs.Kind.{Kind}
use Rattle.std.specs.List.{between}
use Rattle.locks.specs.declared.records.Counts.{Counts}
use Rattle.locks.specs.declared.lock.Lock.{Lock}
use Rattle.locks.specs.Circuit.{Circuit, mus}
use Rattle.locks.specs.Reading.{header_of, records_of, lock_of}
use Rattle.locks.specs.Locks.{summary, summary_of, record_bytes, Walkable}
use Rattle.locks.proofs.Encodings.{reads}
use Rattle.locks.proofs.Steps.{to_end}
use Rattle.locks.proofs.Summed.{in_bytes, walk_refused, header_refused, walk_accepted, records_refused, Accepted, accepted}
use Rattle.locks.proofs.lock.whole.read_lock.Goals as goal

-- what a refusal leaves to show
record Refused (K : Kind) (bs : List ℕ) (r : Result Lock Fault) : Type 0 where
  outcome : map_ok summary_of r ≡ map_ok summary (lock_of K bs)
  walk : Walkable K bs (map_ok record_bytes r) (lock_of K bs)

refused : (K : Kind) (bs : List ℕ) (r : Result Lock Fault) (f : Fault) → r ≡ Err f → lock_of K bs ≡ Err f → Refused K bs r
refused K bs r f e d = record { outcome = ap (map_ok summary_of) e ∙ sym (ap (map_ok summary) d); walk = walk_refused K bs (map_ok record_bytes r) (lock_of K bs) f (ap (map_ok record_bytes) e) d }

pub returns-in_err-counts : goal.returns-in_err-counts
returns-in_err-counts g c =
    let k = g.K.ElementKind.kind in
    let bs = c.args.bytes.now in
    let p = err_from_is_err_and c.from_residual.result c.from_residual.ensures.1 in
    let f = c.in_err-counts.field-0.0 in
    let s = refused k bs c.from_residual.result f (p.1 ∙ ap Err p.2) (header_refused k bs f (sym c.header.ensures ∙ c.in_err-counts.was)) in
    record { outcome = s.outcome; exact = reads k g.met.K.ElementKind.laws bs (in_bytes bs c.type_inv.bytes); walk = s.walk }

pub returns-in_err-products : goal.returns-in_err-products
returns-in_err-products g c =
    let k = g.K.ElementKind.kind in
    let bs = c.args.bytes.now in
    let n = c.in_ok-counts.counts in
    let p = err_from_is_err_and c.from_residual-in_err-products.result c.from_residual-in_err-products.ensures.1 in
    let f = c.in_err-products.field-0.0 in
    let d = records_refused k bs n f (sym c.header.ensures ∙ c.in_ok-counts.was)
    (ap (λ (xs : List ℕ). map_ok (λ (l : Circuit (List ℕ)). mus l.gates) (records_of k n 15 xs)) (sym (to_end bs 15)) ∙ sym c.products.ensures.told ∙ c.in_err-products.was) in
    let s = refused k bs c.from_residual-in_err-products.result f (p.1 ∙ ap Err p.2) d in
    record { outcome = s.outcome; exact = reads k g.met.K.ElementKind.laws bs (in_bytes bs c.type_inv.bytes); walk = s.walk }

-- both parts passed
all_read : (K : Kind) (bs : List ℕ) (n : Counts) (q : ℕ) (h : Result Counts Fault) (r : Result ℕ Fault) → h ≡ header_of K bs → h ≡ Ok n
    → r ≡ map_ok (λ (l : Circuit (List ℕ)). mus l.gates) (records_of K n 15 (between 15 (length bs) bs)) → r ≡ Ok q → Accepted K bs n q
all_read K bs n q h r he hn re rq =
    accepted K bs n q (sym he ∙ hn) (ap (λ (xs : List ℕ). map_ok (λ (l : Circuit (List ℕ)). mus l.gates) (records_of K n 15 xs)) (sym (to_end bs 15)) ∙ sym re ∙ rq)

pub returns : goal.returns
returns g c =
    let k = g.K.ElementKind.kind in
    let bs = c.args.bytes.now in
    let n = c.in_ok-counts.counts in
    let a = all_read k bs n c.in_ok-products.products c.header.result c.products.result c.header.ensures c.in_ok-counts.was c.products.ensures.told c.in_ok-products.was in
    record {
      outcome = ap Ok a.sums ∙ sym (ap (map_ok summary) a.read);
      exact = reads k g.met.K.ElementKind.laws bs (in_bytes bs c.type_inv.bytes);
      walk = walk_accepted k bs (between 15 (length c.args.bytes.now) c.args.bytes.now) (lock_of k bs) a.circuit a.read (to_end bs 15) a.walks;
    }
