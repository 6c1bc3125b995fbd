-- What a sealer's answer says of the lengths and of the buffer.
use Rattle.std.proofs.Common.{◌≡◌, ℕ, ◌≤◌, false, ◌&&◌, eqb, leb, List, length, Ok, Err, sym, ap, ◌∙◌, inl, inr, arith}
use Rattle.std.proofs.lemmas.Bool.{cases_Bool, cond-true, cond-false, and_from, le-leb, eq-eqb, and_parts, eqb-true}
use Rattle.std.proofs.lemmas.Bool.Decides.{nat_tests}
use Rattle.faults.specs.declared.Fault.{Fault}
use Rattle.seals.specs.Sealing.{Sealing, Sound}
use Rattle.seals.specs.Outcome.{admitted, seal_answer, seal_left}

-- taken exactly when the message is not too long and the buffer has the seal's length
pub fits_admitted : (longest size m o : ℕ) → m ≤ longest → o ≡ size → admitted longest size m o ≡ Ok tt
fits_admitted longest size m o h e = grind (arith, nat_tests)

pub admitted_fits : (longest size m o : ℕ) → admitted longest size m o ≡ Ok tt → (m ≤ longest) × (o ≡ size)
admitted_fits longest size m o h = (grind (arith, nat_tests), grind (arith, nat_tests))

pub refused_unfit : (longest size m o : ℕ) (f : Fault) → admitted longest size m o ≡ Err f → (leb m longest && eqb o size) ≡ false
refused_unfit longest size m o f h = grind (arith, nat_tests)

-- the buffer of a message that is taken, and of one that is refused
pub left_taken : (s : Sealing) (m o : List ℕ) → length m ≤ s.longest → length o ≡ s.size → seal_left s m o ≡ s.seal m
left_taken s m o h e = cond-true _ _ _ (and_from _ _ (le-leb _ _ h) (eq-eqb _ _ e))

pub left_refused : (s : Sealing) (m o : List ℕ) (f : Fault) → seal_answer s (length m) (length o) ≡ Err f → seal_left s m o ≡ o
left_refused s m o f h = cond-false _ _ _ (refused_unfit s.longest s.size (length m) (length o) f h)

-- either way the buffer keeps its length
pub length_left : (s : Sealing) → Sound s → (m o : List ℕ) → length (seal_left s m o) ≡ length o
length_left s l m o =
    elim (cases_Bool (leb (length m) s.longest && eqb (length o) s.size)) [
      | inl e ↦
          ap length (cond-true _ _ _ e) ∙ l.sized m ∙
          sym (eqb-true (length o) s.size (and_parts (leb (length m) s.longest) (eqb (length o) s.size) e).1)
      | inr e ↦ ap length (cond-false _ _ _ e)
    ]
