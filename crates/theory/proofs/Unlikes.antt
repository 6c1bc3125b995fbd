-- Two lists, compared place by place by a test that tells equal elements.
use Rattle.std.proofs.Common.{◌≡◌, ℕ, zero, suc, Bool, true, false, cond, List, [], ◌∷◌, length, take, Some, None, Option, refl, subst, ap₂, arith}
use Rattle.std.specs.Bool.{Decides}
use Rattle.theory.specs.Tests.{later, unlike_by}
use Rattle.theory.specs.Rules.{DifferFirst}

pub later_none : (o : Option ℕ) → later o ≡ None → o ≡ None
later_none None h = refl
later_none (Some i) h = cc

module _ {A : Type 0} (same : A → A → Bool) (tells : (x y : A) → Decides (same x y) (x ≡ y)) where
  pub none_same : (xs ys : List A) → unlike_by same xs ys ≡ None → xs ≡ ys
  none_same [] [] h = refl
  none_same [] (y ∷ ys) h = cc
  none_same (x ∷ xs) [] h = cc
  none_same (x ∷ xs) (y ∷ ys) h = go (none_same xs ys) (same x y) refl h
    where
      go : (unlike_by same xs ys ≡ None → xs ≡ ys) → (b : Bool) → same x y ≡ b → cond b (later (unlike_by same xs ys)) (Some 0) ≡ None → x ∷ xs ≡ y ∷ ys
      go ih true e k = ap₂ {C = List A} (λ z zs. z ∷ zs) ((tells x y).0 e) (ih (later_none _ k))
      go ih false e k = cc

  none_refl : (xs : List A) → unlike_by same xs xs ≡ None
  none_refl [] = refl
  none_refl (x ∷ xs) = ap₂ (λ b o. cond b (later o) (Some 0)) ((tells x x).1 refl) (none_refl xs)

  pub same_none : {xs ys : List A} → xs ≡ ys → unlike_by same xs ys ≡ None
  same_none {xs} {ys} h = subst (λ z. unlike_by same xs z ≡ None) h (none_refl xs)

  pub some_first : (d : A) (xs ys : List A) (i : ℕ) → length xs ≡ length ys → unlike_by same xs ys ≡ Some i → DifferFirst d xs ys i
  some_first d [] [] i l h = cc
  some_first d [] (y ∷ ys) i l h = cc
  some_first d (x ∷ xs) [] i l h = cc
  some_first d (x ∷ xs) (y ∷ ys) i l h = go (λ j. some_first d xs ys j cc) (same x y) refl (unlike_by same xs ys) refl h
    where
      go : ((j : ℕ) → unlike_by same xs ys ≡ Some j → DifferFirst d xs ys j) → (b : Bool) → same x y ≡ b → (o : Option ℕ) → unlike_by same xs ys ≡ o → cond b (later o) (Some 0) ≡ Some i → DifferFirst d (x ∷ xs) (y ∷ ys) i
      go ih true e None eo k = cc
      go ih true e (Some j) eo k =
          let r = ih j eo in
          let at : suc j ≡ i = cc in
          subst (DifferFirst d (x ∷ xs) (y ∷ ys)) at (omega (arith, r.0), ap₂ {C = List A} (λ z zs. z ∷ zs) ((tells x y).0 e) r.1, r.2)
      go ih false e o eo k =
          let at : 0 ≡ i = cc in
          subst (DifferFirst d (x ∷ xs) (y ∷ ys)) at (omega arith, refl, λ is. cc ((tells x y).1 is))

  pub first_some : (d : A) (xs ys : List A) (i : ℕ) → length xs ≡ length ys → DifferFirst d xs ys i → unlike_by same xs ys ≡ Some i
  first_some d [] ys i l h = absurd (omega (arith, h.0))
  first_some d (x ∷ xs) [] i l h = cc
  first_some d (x ∷ xs) (y ∷ ys) zero l h = go (same x y) refl
    where
      go : (b : Bool) → same x y ≡ b → cond b (later (unlike_by same xs ys)) (Some 0) ≡ Some 0
      go true e = absurd (h.2 ((tells x y).0 e))
      go false e = refl
  first_some d (x ∷ xs) (y ∷ ys) (suc i) l h =
      let front : x ∷ take i xs ≡ y ∷ take i ys = h.1 in
      let head : x ≡ y = cc in
      let tail : take i xs ≡ take i ys = cc in
      ap₂ (λ b o. cond b (later o) (Some 0)) ((tells x y).1 head) (first_some d xs ys i (cc) (omega (arith, h.0), tail, h.2))
