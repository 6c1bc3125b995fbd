-- The table of records: a round's record is the one before its number.
use Rattle.std.proofs.Common.{◌≡◌, ℕ, zero, suc, ◌-◌, ◌<◌, ◌≤◌, List, [], ◌∷◌, ◌++◌, length, take, drop, set, length-set, Some, None, Ok, Option, slice_get, Bor, sym, refl, ap, ◌∙◌, arith}
use Rattle.std.proofs.lemmas.Option.{slice_get_past, slice_get_read}
use Rattle.std.specs.List.{refill}
use lib.Seq.{take-append_seam}
use Rattle.std.specs.Option.{option_copied}
use Rattle.std.specs.Slice.{IsItemAt}
use Rattle.faults.proofs.Passed.{err_ok}
use Rattle.theory.specs.declared.RoundState.{RoundState}
use Rattle.theory.specs.Keeper.{state_of, with_state, open_by}

pub none_first : (t : List RoundState) (r : ℕ) → r < 1 → state_of t r ≡ None
none_first [] r h = refl
none_first (s ∷ t) zero h = refl
none_first (s ∷ t) (suc r) h = absurd (omega arith)

state_after : (t : List RoundState) (n : ℕ) → slice_get t n ≡ state_of t (suc n)
state_after [] n = refl
state_after (s ∷ t) zero = refl
state_after (s ∷ t) (suc n) = state_after t n

pub item_copied : {A : Type 0} (xs : List A) (i : ℕ) (r : Option (Bor A)) → IsItemAt xs i r → option_copied r ≡ slice_get xs i
item_copied xs i None h = sym (slice_get_past xs i h.3)
item_copied xs i (Some b) h = sym (slice_get_read xs (length xs) i b.now refl h.3.0 h.1)

pub state_at : (t : List RoundState) (r : ℕ) → 1 ≤ r → slice_get t (r - 1) ≡ state_of t r
state_at t r h = let e : suc (r - 1) ≡ r = omega arith in state_after t (r - 1) ∙ ap (state_of t) e

some_range : (t : List RoundState) (r : ℕ) (s : RoundState) → state_of t r ≡ Some s → (1 ≤ r) × (r ≤ length t)
some_range [] r s h = let z : ◌≡◌ {A = ℕ} 0 1 = cc in absurd (omega arith)
some_range (x ∷ t) zero s h = let z : ◌≡◌ {A = ℕ} 0 1 = cc in absurd (omega arith)
some_range (x ∷ t) (suc zero) s h = (omega arith, omega arith)
some_range (x ∷ t) (suc (suc r)) s h = let k = some_range t (suc r) s h in (omega arith, omega (arith, k.1))

pub open_range : (t : List RoundState) (r : ℕ) → open_by r (state_of t r) ≡ Ok tt → (1 ≤ r) × (r ≤ length t)
open_range t r h = go (state_of t r) refl h
  where
    go : (o : Option RoundState) → state_of t r ≡ o → open_by r o ≡ Ok tt → (1 ≤ r) × (r ≤ length t)
    go None e k = err_ok k
    go (Some s) e k = some_range t r s e

-- one record changed
marks : (t : List RoundState) (n : ℕ) (s : RoundState) → set t n s ≡ with_state t (suc n) s
marks [] n s = refl
marks (x ∷ t) zero s = refl
marks (x ∷ t) (suc n) s = ap (λ (l : List RoundState). x ∷ l) (marks t n s)

refilled : (t w : List RoundState) → length w ≡ length t → refill (length t) t w ≡ w
refilled t w e = ap (λ (n : ℕ). take n (w ++ drop (length w) t)) (sym e) ∙ take-append_seam w (drop (length w) t)

-- a record changed through the table's slice
pub marked : (t slice : List RoundState) (r : ℕ) (s : RoundState) → 1 ≤ r → slice ≡ t → refill (length t) t (set slice (r - 1) s) ≡ with_state t r s
marked t slice r s h e =
    let before : suc (r - 1) ≡ r = omega arith in
    ap (λ (l : List RoundState). refill (length t) t (set l (r - 1) s)) e ∙ refilled t (set t (r - 1) s) (length-set t (r - 1) s)
    ∙ marks t (r - 1) s ∙ ap (λ (n : ℕ). with_state t n s) before
