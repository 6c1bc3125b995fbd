-- What `array::from_fn` makes by a closure that gives f k at each k and leaves its captures as they are.
use Rattle.std.proofs.Common.{◌≡◌, ℕ, zero, suc, ◌+◌, ◌<◌, ◌≤◌, List, map, get_or, ◌∙◌, subst, inl, inr, sym, refl, arith}
use Rattle.std.specs.List.{range_with_len}
use Rattle.std.specs.Array.{index_steps, IsFromFnResultFrom, IsFromFnResult}
use Rattle.std.specs.Iterator.{CallableAtEachTurn}
use Rattle.std.proofs.lemmas.Fn.{serves_by}
use Rattle.std.specs.Fn.{Called}
use Rattle.std.proofs.lemmas.Bool.{cases_lt}
use Rattle.std.proofs.lemmas.List.FromFn.{fill_by_all}
use denote.Param.Members.{Mut}

module _ {F : Type 0} (g : Mut F (ℕ × Unit {0}) ℕ) (f : ℕ → ℕ) (made : F) (ys : List ℕ) (n : ℕ) (call : (k r : ℕ) (q : F) → k < n → Called g made (k, tt) r q → (r ≡ f k) × (q ≡ made)) where
  each_made : (i m : ℕ) → i + m ≡ n → IsFromFnResultFrom g made ys i m → (k : ℕ) → i ≤ k → k < n → get_or ys k 0 ≡ f k
  each_made i zero e s k l h = absurd (omega arith)
  each_made i (suc m) e (q, y, at, c, rest) k l h =
      let one : (y ≡ f i) × (q ≡ made) = call i y q (omega arith) c in
      elim (cases_lt i k) [
        | inl b ↦ each_made (i + 1) m (omega arith) (subst (λ (x : F). IsFromFnResultFrom g x ys (i + 1) m) one.1 rest) k (omega arith) h
        | inr b ↦ let same : k ≡ i = omega arith in rw same (at.1 0 ∙ one.0)
      ]

  pub made_all : IsFromFnResult g made ys n → ys ≡ map f (range_with_len 0 n)
  made_all s = fill_by_all f ys n 0 s.long (λ k h. each_made 0 n (omega arith) s.each k (omega arith) h)

-- such a closure may be called at each number below n
pub serves_below : {F : Type 0} {R : F → ℕ → F → Type 0} {Q : F → ℕ → Type 0} (n : ℕ) (f : F) → ((k : ℕ) (q p : F) → R p k q → q ≡ p) →
    ((k : ℕ) → k < n → Q f k) → CallableAtEachTurn (index_steps n) R Q 0 f
serves_below {F} {R} {Q} n f keeps each =
    serves_by R (λ xs q. q ≡ f) (λ xs q x v e r. keeps x v q r ∙ e) (index_steps n) Q 0 f refl
    (λ xs t q x u ys s e. subst (λ (p : F). Q p x) (sym e) (each x (omega (arith, s))))
