-- The closed branch: for two opened views and any closed shares there is one choice of masks.
use Rattle.std.proofs.Common.{◌≡◌, suc, List, [], ◌∷◌, ◌++◌, length, sym, refl, ap, ◌∙◌, ap₂}
use Rattle.locks.specs.Circuit.{Gate, ac, mc, ad, mu, mus}
use Rattle.theory.specs.Algebra.{Ops, Rules}
use Rattle.theory.specs.Runs.{Branch, View, tail, front, read, head, share, right, local, plus_constant, step, due}
use Rattle.theory.proofs.Group.{v, ◌⊞◌, ⊟◌, solve, from}
use Rattle.theory.proofs.Honest.{empty, by_parts, length_tail}

module _ {E : Type 0} (O : Ops E) where
  open O use {zer, add, neg, mul}

  -- the mask that makes view B's product right
  abbrev mask : Gate E → View E → List E → E
  mask (ac a c) B w = zer
  mask (mc a c) B w = zer
  mask (ad a b) B w = zer
  mask (mu a b) B w = share O (read O B.wires a) (read O B.wires b) (read O w a) (read O w b) (head O B.masks) (head O B.products)

  -- the closed branch's product
  abbrev made : Gate E → View E → View E → List E → E
  made g A B w = right O g w (mask g B w ∷ []) A.wires A.masks

  abbrev on : Branch → Gate E → View E → View E → List E → List E
  on c g A B w = w ++ (local O c w (made g A B w) g ∷ [])

  -- masks and products of the closed branch c, from views A of e and B of n, and the closed shares w
  abbrev pub masks_for : (e n c : Branch) → List (Gate E) → View E → View E → List E → List E
  masks_for e n c [] A B w = []
  masks_for e n c (g ∷ gs) A B w = front g (mask g B w) (masks_for e n c gs (step O e g A) (step O n g B) (on c g A B w))

  abbrev pub products_for : (e n c : Branch) → List (Gate E) → View E → View E → List E → List E
  products_for e n c [] A B w = []
  products_for e n c (g ∷ gs) A B w = front g (made g A B w) (products_for e n c gs (step O e g A) (step O n g B) (on c g A B w))

  abbrev pub closing : (e n c : Branch) → List (Gate E) → View E → View E → List E → View E
  closing e n c gs A B w = record { wires = w; masks = masks_for e n c gs A B w; products = products_for e n c gs A B w }

  pub length_masks_for : (e n c : Branch) (gs : List (Gate E)) (A B : View E) (w : List E) → length (masks_for e n c gs A B w) ≡ mus gs
  length_masks_for e n c [] A B w = refl
  length_masks_for e n c (ac x y ∷ gs) A B w = length_masks_for e n c gs _ _ _
  length_masks_for e n c (mc x y ∷ gs) A B w = length_masks_for e n c gs _ _ _
  length_masks_for e n c (ad x y ∷ gs) A B w = length_masks_for e n c gs _ _ _
  length_masks_for e n c (mu x y ∷ gs) A B w = ap suc (length_masks_for e n c gs _ _ _)

  pub length_products_for : (e n c : Branch) (gs : List (Gate E)) (A B : View E) (w : List E) → length (products_for e n c gs A B w) ≡ mus gs
  length_products_for e n c [] A B w = refl
  length_products_for e n c (ac x y ∷ gs) A B w = length_products_for e n c gs _ _ _
  length_products_for e n c (mc x y ∷ gs) A B w = length_products_for e n c gs _ _ _
  length_products_for e n c (ad x y ∷ gs) A B w = length_products_for e n c gs _ _ _
  length_products_for e n c (mu x y ∷ gs) A B w = ap suc (length_products_for e n c gs _ _ _)

  -- its own products are right
  pub closing_own : (e n c : Branch) (gs : List (Gate E)) (A B : View E) (w : List E)
      → products_for e n c gs A B w ≡ due O c e gs (closing e n c gs A B w) A
  closing_own e n c [] A B w = refl
  closing_own e n c (ac x y ∷ gs) A B w = closing_own e n c gs _ _ _
  closing_own e n c (mc x y ∷ gs) A B w = closing_own e n c gs _ _ _
  closing_own e n c (ad x y ∷ gs) A B w = closing_own e n c gs _ _ _
  closing_own e n c (mu x y ∷ gs) A B w = ap {B = List E} (λ ps. made (mu x y) A B w ∷ ps) (closing_own e n c gs _ _ _)

module _ {E : Type 0} {O : Ops E} (L : Rules O) where
  open O use {zer, add, neg, mul}

  -- X + r - (X + r - p) = p
  undone : (x y z r p : E) → p ≡ add (add (add (add x y) z) r) (neg (add (add (add (add x y) z) r) (neg p)))
  undone x y z r p =
      solve L (x ∷ y ∷ z ∷ r ∷ p ∷ []) (v 4) ((((v 0 ⊞ v 1) ⊞ v 2) ⊞ v 3) ⊞ ⊟ ((((v 0 ⊞ v 1) ⊞ v 2) ⊞ v 3) ⊞ ⊟ v 4)) refl

  -- X + r - p determines p
  determined : (x r p q : E) → add (add x r) (neg p) ≡ add (add x r) (neg q) → p ≡ q
  determined x r p q h =
      from L p q (sym h) (solve L (x ∷ r ∷ p ∷ q ∷ []) (v 2 ⊞ ((v 0 ⊞ v 1) ⊞ ⊟ v 2)) (v 3 ⊞ ((v 0 ⊞ v 1) ⊞ ⊟ v 3)) refl)

  -- and view B's products are right with it
  pub closing_before : (e n c : Branch) (gs : List (Gate E)) (A B : View E) (w : List E) → length B.products ≡ mus gs
      → B.products ≡ due O n c gs B (closing O e n c gs A B w)
  closing_before e n c [] A B w h = empty B.products h
  closing_before e n c (ac x y ∷ gs) A B w h = closing_before e n c gs _ (step O n (ac x y) B) _ h
  closing_before e n c (mc x y ∷ gs) A B w h = closing_before e n c gs _ (step O n (mc x y) B) _ h
  closing_before e n c (ad x y ∷ gs) A B w h = closing_before e n c gs _ (step O n (ad x y) B) _ h
  closing_before e n c (mu x y ∷ gs) A B w h =
      let later = closing_before e n c gs (step O e (mu x y) A) (step O n (mu x y) B) (on O c (mu x y) A B w) (length_tail O (mus gs) B.products h) in
      by_parts O (mus gs) B.products (due O n c (mu x y ∷ gs) B (closing O e n c (mu x y ∷ gs) A B w)) h
      (ap suc (sym (ap length later) ∙ length_tail O (mus gs) B.products h))
      (undone _ _ _ _ _) later

  -- no other masks do
  pub only_masks : (e n c : Branch) (gs : List (Gate E)) (A B C D : View E) → C.wires ≡ D.wires
      → length C.masks ≡ mus gs → length D.masks ≡ mus gs
      → B.products ≡ due O n c gs B C → B.products ≡ due O n c gs B D
      → C.products ≡ due O c e gs C A → D.products ≡ due O c e gs D A
      → C.masks ≡ D.masks
  only_masks e n c [] A B C D w hC hD bC bD aC aD = empty C.masks hC ∙ sym (empty D.masks hD)
  only_masks e n c (ac x y ∷ gs) A B C D w hC hD bC bD aC aD =
      only_masks e n c gs _ (step O n (ac x y) B) (step O c (ac x y) C) (step O c (ac x y) D)
      (ap (λ u. u ++ (plus_constant O c (read O u x) y ∷ [])) w) hC hD bC bD aC aD
  only_masks e n c (mc x y ∷ gs) A B C D w hC hD bC bD aC aD =
      only_masks e n c gs _ (step O n (mc x y) B) (step O c (mc x y) C) (step O c (mc x y) D)
      (ap (λ u. u ++ (mul y (read O u x) ∷ [])) w) hC hD bC bD aC aD
  only_masks e n c (ad x y ∷ gs) A B C D w hC hD bC bD aC aD =
      only_masks e n c gs _ (step O n (ad x y) B) (step O c (ad x y) C) (step O c (ad x y) D)
      (ap (λ u. u ++ (add (read O u x) (read O u y) ∷ [])) w) hC hD bC bD aC aD
  only_masks e n c (mu x y ∷ gs) A B C D w hC hD bC bD aC aD =
      let half : List E → E = λ u. add (add (mul (read O B.wires x) (read O B.wires y)) (mul (read O u x) (read O B.wires y))) (mul (read O B.wires x) (read O u y)) in
      let now : add (add (half D.wires) (head O B.masks)) (neg (head O C.masks)) ≡ add (add (half D.wires) (head O B.masks)) (neg (head O D.masks)) =
      ap (λ u. add (add (half u) (head O B.masks)) (neg (head O C.masks))) (sym w) ∙ sym (ap (head O) bC) ∙ ap (head O) bD in
      let masks : head O C.masks ≡ head O D.masks = determined (half D.wires) (head O B.masks) (head O C.masks) (head O D.masks) now in
      let full : List E → E → E = λ u m. share O (read O u x) (read O u y) (read O A.wires x) (read O A.wires y) m (head O A.masks) in
      let made : head O C.products ≡ head O D.products = ap (head O) aC ∙ ap₂ full w masks ∙ sym (ap (head O) aD) in
      by_parts O (mus gs) C.masks D.masks hC hD masks
      (only_masks e n c gs (step O e (mu x y) A) (step O n (mu x y) B) (step O c (mu x y) C) (step O c (mu x y) D)
      (ap₂ (λ u p. u ++ (p ∷ [])) w made)
      (length_tail O (mus gs) C.masks hC) (length_tail O (mus gs) D.masks hD)
      (ap tail bC) (ap tail bD) (ap tail aC) (ap tail aD))
