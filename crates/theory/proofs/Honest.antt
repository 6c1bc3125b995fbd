-- The honest products are right, and no others are.
use Rattle.std.proofs.Common.{◌≡◌, ℕ, zero, suc, List, [], ◌∷◌, ◌++◌, length, refl, ap, ◌∙◌, ap₂}
use mathlib.Core.Path.{fun_ext}
use Rattle.locks.specs.Circuit.{Gate, ac, mc, ad, mu, mus}
use Rattle.theory.specs.Algebra.{Ops}
use Rattle.theory.specs.Runs.{Branch, next, View, tail, head, right, step, rerun, honest}
use Rattle.theory.proofs.Lists.{same_snoc}
use Rattle.theory.proofs.Sums.{Right, steps, right_on, right_now}

pub empty : {A : Type 0} (xs : List A) → length xs ≡ zero → xs ≡ []
empty [] h = refl
empty (x ∷ xs) h = cc

module _ {E : Type 0} (O : Ops E) where
  pub by_parts : (n : ℕ) (xs ys : List E) → length xs ≡ suc n → length ys ≡ suc n → head O xs ≡ head O ys → tail xs ≡ tail ys → xs ≡ ys
  by_parts n [] ys h k p q = cc
  by_parts n (x ∷ xs) [] h k p q = cc
  by_parts n (x ∷ xs) (y ∷ ys) h k p q = ap₂ {C = List E} (λ z zs. z ∷ zs) p q

  pub length_tail : (n : ℕ) (xs : List E) → length xs ≡ suc n → length (tail xs) ≡ n
  length_tail n [] h = cc
  length_tail n (x ∷ xs) h = cc

  pub same_rerun : (i j : Branch) (gs : List (Gate E)) (A B : View E) → length A.wires ≡ length B.wires → length (rerun O i gs A) ≡ length (rerun O j gs B)
  same_rerun i j [] A B h = h
  same_rerun i j (g ∷ gs) A B h = same_rerun i j gs (step O i g A) (step O j g B) (same_snoc A.wires B.wires _ _ h)

  pub length_honest : (gs : List (Gate E)) (w r : Branch → List E) (i : Branch) → length (honest O gs w r i) ≡ mus gs
  length_honest [] w r i = refl
  length_honest (ac a c ∷ gs) w r i = length_honest gs _ _ i
  length_honest (mc a c ∷ gs) w r i = length_honest gs _ _ i
  length_honest (ad a b ∷ gs) w r i = length_honest gs _ _ i
  length_honest (mu a b ∷ gs) w r i = ap suc (length_honest gs _ _ i)

  abbrev pub views : List (Gate E) → (w r : Branch → List E) → Branch → View E
  views gs w r i = record { wires = w i; masks = r i; products = honest O gs w r i }

  pub honest_right : (gs : List (Gate E)) (w r : Branch → List E) → Right O gs (views gs w r)
  honest_right [] w r i = refl
  honest_right (ac a c ∷ gs) w r i = honest_right gs _ _ i
  honest_right (mc a c ∷ gs) w r i = honest_right gs _ _ i
  honest_right (ad a b ∷ gs) w r i = honest_right gs _ _ i
  honest_right (mu a b ∷ gs) w r i = ap {B = List E} (λ ps. right O (mu a b) (w i) (r i) (w (next i)) (r (next i)) ∷ ps) (honest_right gs _ _ i)

  abbrev Wires : (Branch → View E) → Branch → List E
  Wires V j = (V j).wires

  abbrev Masks : (Branch → View E) → Branch → List E
  Masks V j = (V j).masks

  abbrev pub Enough : List (Gate E) → (Branch → View E) → Type 0
  Enough gs V = (i : Branch) → length (V i).products ≡ mus gs

  pub only_honest : (gs : List (Gate E)) (V : Branch → View E) → Right O gs V → Enough gs V → (i : Branch) → (V i).products ≡ honest O gs (λ j. (V j).wires) (λ j. (V j).masks) i
  only_honest [] V r n i = r i
  only_honest (ac a c ∷ gs) V r n i = only_honest gs (steps O (ac a c) V) (right_on O (ac a c) gs V r) n i
  only_honest (mc a c ∷ gs) V r n i = only_honest gs (steps O (mc a c) V) (right_on O (mc a c) gs V r) n i
  only_honest (ad a b ∷ gs) V r n i = only_honest gs (steps O (ad a b) V) (right_on O (ad a b) gs V r) n i
  only_honest (mu a b ∷ gs) V r n i =
      let now : (j : Branch) → head O (V j).products ≡ right O (mu a b) (V j).wires (V j).masks (V (next j)).wires (V (next j)).masks = right_now O a b gs V r in
      let later = only_honest gs (steps O (mu a b) V) (right_on O (mu a b) gs V r) (λ j. length_tail (mus gs) (V j).products (n j)) i in
      let w : (Branch → E) → Branch → List E = λ p j. (V j).wires ++ (p j ∷ []) in
      by_parts (mus gs) (V i).products _ (n i) (ap suc (length_honest gs _ _ i)) (now i)
      (later ∙ ap (λ p. honest O gs (w p) (λ j. tail (V j).masks) i) (fun_ext now))
