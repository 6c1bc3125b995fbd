-- The wires of three right views sum to the plain run's.
use Rattle.std.proofs.Common.{◌≡◌, ℕ, suc, List, [], ◌∷◌, ◌++◌, length, sym, refl, ap, ◌∙◌, ap₂}
use Rattle.locks.specs.Circuit.{Gate, ac, mc, ad, mu}
use Rattle.theory.specs.Algebra.{Ops, Rules}
use Rattle.theory.specs.Runs.{Branch, one, two, three, next, View, tail, read, head, sum, sum_of, value, plain, share, right, local, step, rerun, due}
use Rattle.theory.proofs.Group.{v, ◌⊞◌, ⊟◌, solve}
use Rattle.theory.proofs.Lists.{length_sum, length_snoc, sum_snoc, read_sum}

module _ {E : Type 0} (O : Ops E) where
  -- each view's products are right
  abbrev pub Right : List (Gate E) → (Branch → View E) → Type 0
  Right gs V = (i : Branch) → (V i).products ≡ due O i (next i) gs (V i) (V (next i))

  abbrev pub steps : Gate E → (Branch → View E) → Branch → View E
  steps g V i = step O i g (V i)

  pub right_on : (g : Gate E) (gs : List (Gate E)) (V : Branch → View E) → Right (g ∷ gs) V → Right gs (steps g V)
  right_on (ac a c) gs V r i = r i
  right_on (mc a c) gs V r i = r i
  right_on (ad a b) gs V r i = r i
  right_on (mu a b) gs V r i = ap tail (r i)

  pub right_now : (a b : ℕ) (gs : List (Gate E)) (V : Branch → View E) → Right (mu a b ∷ gs) V → (i : Branch)
      → head O (V i).products ≡ right O (mu a b) (V i).wires (V i).masks (V (next i)).wires (V (next i)).masks
  right_now a b gs V r i = ap (head O) (r i)

module _ {E : Type 0} {O : Ops E} (L : Rules O) where
  open O use {zer, add, neg, mul}
  open L use {assoc, comm, unit, inverse, over_left, over_right}

  abbrev pub Even : ℕ → (Branch → View E) → Type 0
  Even n V = (i : Branch) → length (V i).wires ≡ n

  abbrev total : (Branch → View E) → List E
  total V = sum_of O (λ i. (V i).wires)

  read_total : (n : ℕ) (V : Branch → View E) → Even n V → (a : ℕ)
      → read O (total V) a ≡ add (add (read O (V one).wires a) (read O (V two).wires a)) (read O (V three).wires a)
  read_total n V h a =
      read_sum L (sum O (V one).wires (V two).wires) (V three).wires a (length_sum O (V one).wires (V two).wires (h one ∙ sym (h two)) ∙ h one ∙ sym (h three))
      ∙ ap (λ t. add t (read O (V three).wires a)) (read_sum L (V one).wires (V two).wires a (h one ∙ sym (h two)))

  total_snoc : (n : ℕ) (V : Branch → View E) → Even n V → (x y z : E)
      → sum O (sum O ((V one).wires ++ (x ∷ [])) ((V two).wires ++ (y ∷ []))) ((V three).wires ++ (z ∷ [])) ≡ total V ++ (add (add x y) z ∷ [])
  total_snoc n V h x y z =
      ap (λ t. sum O t ((V three).wires ++ (z ∷ []))) (sum_snoc L (V one).wires (V two).wires x y (h one ∙ sym (h two)))
      ∙ sum_snoc L (sum O (V one).wires (V two).wires) (V three).wires (add x y) z (length_sum O (V one).wires (V two).wires (h one ∙ sym (h two)) ∙ h one ∙ sym (h three))

  even_on : (n : ℕ) (g : Gate E) (V : Branch → View E) → Even n V → Even (suc n) (steps O g V)
  even_on n g V h i = length_snoc (V i).wires _ ∙ ap suc (h i)

  thrice : (a1 a2 a3 b : E) → mul (add (add a1 a2) a3) b ≡ add (add (mul a1 b) (mul a2 b)) (mul a3 b)
  thrice a1 a2 a3 b = simp over_left

  thrice_r : (a b1 b2 b3 : E) → mul a (add (add b1 b2) b3) ≡ add (add (mul a b1) (mul a b2)) (mul a b3)
  thrice_r a b1 b2 b3 = simp over_right

  -- (a1+a2+a3)(b1+b2+b3) and the three products
  nine : (a1 a2 a3 b1 b2 b3 r1 r2 r3 : E)
      → mul (add (add a1 a2) a3) (add (add b1 b2) b3)
      ≡ add (add (share O a1 b1 a2 b2 r1 r2) (share O a2 b2 a3 b3 r2 r3)) (share O a3 b3 a1 b1 r3 r1)
  nine a1 a2 a3 b1 b2 b3 r1 r2 r3 =
      thrice a1 a2 a3 (add (add b1 b2) b3)
      ∙ ap₂ add (ap₂ add (thrice_r a1 b1 b2 b3) (thrice_r a2 b1 b2 b3)) (thrice_r a3 b1 b2 b3)
      ∙ solve L (mul a1 b1 ∷ mul a1 b2 ∷ mul a1 b3 ∷ mul a2 b1 ∷ mul a2 b2 ∷ mul a2 b3 ∷ mul a3 b1 ∷ mul a3 b2 ∷ mul a3 b3 ∷ r1 ∷ r2 ∷ r3 ∷ [])
      ((((v 0 ⊞ v 1) ⊞ v 2) ⊞ ((v 3 ⊞ v 4) ⊞ v 5)) ⊞ ((v 6 ⊞ v 7) ⊞ v 8))
      ((((((v 0 ⊞ v 3) ⊞ v 1) ⊞ v 9) ⊞ ⊟ v 10) ⊞ ((((v 4 ⊞ v 7) ⊞ v 5) ⊞ v 10) ⊞ ⊟ v 11)) ⊞ ((((v 8 ⊞ v 2) ⊞ v 6) ⊞ v 11) ⊞ ⊟ v 9))
      refl

  gate_sum : (n : ℕ) (g : Gate E) (gs : List (Gate E)) (V : Branch → View E) → Even n V → Right O (g ∷ gs) V
      → value O (total V) g ≡ add (add (local O one (V one).wires (head O (V one).products) g) (local O two (V two).wires (head O (V two).products) g)) (local O three (V three).wires (head O (V three).products) g)
  gate_sum n (ac a c) gs V h r =
      ap (λ t. add t c) (read_total n V h a)
      ∙ solve L (read O (V one).wires a ∷ read O (V two).wires a ∷ read O (V three).wires a ∷ c ∷ []) (((v 0 ⊞ v 1) ⊞ v 2) ⊞ v 3) (((v 0 ⊞ v 3) ⊞ v 1) ⊞ v 2) refl
  gate_sum n (mc a c) gs V h r = ap (mul c) (read_total n V h a) ∙ simp over_right
  gate_sum n (ad a b) gs V h r =
      ap₂ add (read_total n V h a) (read_total n V h b)
      ∙ solve L (read O (V one).wires a ∷ read O (V two).wires a ∷ read O (V three).wires a ∷ read O (V one).wires b ∷ read O (V two).wires b ∷ read O (V three).wires b ∷ [])
      (((v 0 ⊞ v 1) ⊞ v 2) ⊞ ((v 3 ⊞ v 4) ⊞ v 5)) (((v 0 ⊞ v 3) ⊞ (v 1 ⊞ v 4)) ⊞ (v 2 ⊞ v 5)) refl
  gate_sum n (mu a b) gs V h r =
      ap₂ mul (read_total n V h a) (read_total n V h b)
      ∙ nine (read O (V one).wires a) (read O (V two).wires a) (read O (V three).wires a) (read O (V one).wires b) (read O (V two).wires b) (read O (V three).wires b) (head O (V one).masks) (head O (V two).masks) (head O (V three).masks)
      ∙ sym (ap₂ add (ap₂ add (right_now O a b gs V r one) (right_now O a b gs V r two)) (right_now O a b gs V r three))

  -- Appendix A's first claim
  pub sums : (gs : List (Gate E)) (n : ℕ) (V : Branch → View E) → Even n V → Right O gs V
      → plain O gs (total V) ≡ sum_of O (λ i. rerun O i gs (V i))
  sums [] n V h r = refl
  sums (g ∷ gs) n V h r =
      ap (plain O gs) (ap (λ x. total V ++ (x ∷ [])) (gate_sum n g gs V h r) ∙ sym (total_snoc n V h _ _ _))
      ∙ sums gs (suc n) (steps O g V) (even_on n g V h) (right_on O g gs V r)
