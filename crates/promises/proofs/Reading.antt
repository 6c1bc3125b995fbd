-- What was read where the tests passed.
use Rattle.std.proofs.Common.{◌≡◌, ℕ, List, Some, None, Option, Ok, Err, Result, sym, refl, ◌∙◌}
use Rattle.faults.specs.declared.Fault.{Fault}
use Rattle.faults.specs.declared.Reason.{Reason}
use Rattle.faults.specs.Outcomes.{map_ok}
use Rattle.faults.proofs.Passed.{err_ok, ok_same, err_same}
use Rattle.kinds.specs.Kind.{Kind}
use Rattle.theory.specs.Groups.{group}
use Rattle.theory.specs.Tests.{Verdict, both, first_at, lawful_at}
use Rattle.branches.specs.Holding.{unless}
use Rattle.branches.proofs.HoldingLemmas.{told_right}

-- a test that was passed, and what was read
pub passed : {A : Type 0} (a b : A) (v : Verdict) → Ok a ≡ map_ok (λ _. b) v → (v ≡ Ok tt) × (a ≡ b)
passed a b (Ok x) h = (refl, ok_same h)
passed a b (Err f) h = err_ok (sym h)

-- what was read of a part of a tape, by its own count and place
pub read_there : (K : Kind) (bs : List ℕ) {n k at place : ℕ} {r : Result (List (List ℕ)) Fault} → n ≡ k → at ≡ place → r ≡ map_ok (λ _. group K n bs) (lawful_at K Reason.UnlawfulTape at (group K n bs))
    → r ≡ map_ok (λ _. group K k bs) (lawful_at K Reason.UnlawfulTape place (group K k bs))
read_there K bs e f is = is ∙ (λ t. map_ok (λ _. group K (e t) bs) (lawful_at K Reason.UnlawfulTape (f t) (group K (e t) bs)))

-- the last of five tests fails
pub last_fails : {A B : Type 0} (a : A) (b : B) (e : Fault) (v w x y z : Verdict) → v ≡ Ok tt → w ≡ Ok tt → x ≡ Ok tt → y ≡ Ok tt → Err e ≡ map_ok (λ _. a) z
    → Err e ≡ map_ok (λ _. b) (both v (both w (both x (both y z))))
last_fails a b e v w x y (Ok u) p q r s h = err_ok h
last_fails a b e v w x y (Err f) p q r s h = (λ t. Err (err_same h t)) ∙ (λ t. map_ok (λ _. b) (both (sym p t) (both (sym q t) (both (sym r t) (both (sym s t) (Err f))))))

-- a key whose elements are lawful, with the place o of the first output that it misses
module _ (rows key : List (List ℕ)) (wrong o : Option ℕ) (told missed : ℕ → Fault) (read : ◌≡◌ {A = Result (List (List ℕ)) ℕ} (Ok key) (unless wrong rows)) where
  pub key_is : key ≡ rows
  key_is = (told_right wrong rows key read).1

  pub key_told : (i : ℕ) → Some i ≡ o → ◌≡◌ {A = Result (List (List ℕ)) Fault} (Err (missed i)) (map_ok (λ _. rows) (both (first_at wrong told) (first_at o missed)))
  key_told i e = λ t. map_ok (λ _. rows) (both (first_at (sym (told_right wrong rows key read).0 t) told) (first_at (e t) missed))

  pub key_fits : None ≡ o → ◌≡◌ {A = Result (List (List ℕ)) Fault} (Ok key) (map_ok (λ _. rows) (both (first_at wrong told) (first_at o missed)))
  key_fits e = (λ t. Ok (key_is t)) ∙ (λ t. map_ok (λ _. rows) (both (first_at (sym (told_right wrong rows key read).0 t) told) (first_at (e t) missed)))
