-- What a map of elements that keeps the four functions does to runs and views.
use Rattle.std.proofs.Common.{◌≡◌, ℕ, zero, suc, List, [], ◌∷◌, ◌++◌, map, length, refl, ap, ◌∙◌, ap₂}
use mathlib.Core.Path.{fun_ext}
use Rattle.locks.specs.Circuit.{Gate, ac, mc, ad, mu, Output, Circuit, mus}
use Rattle.theory.specs.Algebra.{Ops}
use Rattle.theory.specs.Branches.{Tape, shares_on, masks_on, shares_of, view, out_shares}
use Rattle.theory.specs.Runs.{Branch, one, two, three, next, View, tail, rest, front, read, head, sum, less, sum_of, value, plain, at_outputs, targets, share, right, plus_constant, local, step, rerun, due, honest}

pub record Hom {E F : Type 0} (O : Ops E) (Q : Ops F) (f : E → F) : Type 0 where
  pub zer_h : f O.zer ≡ Q.zer
  pub add_h : (x y : E) → f (O.add x y) ≡ Q.add (f x) (f y)
  pub neg_h : (x : E) → f (O.neg x) ≡ Q.neg (f x)
  pub mul_h : (x y : E) → f (O.mul x y) ≡ Q.mul (f x) (f y)

module _ {E F : Type 0} (f : E → F) where
  abbrev pub gate_h : Gate E → Gate F
  gate_h (ac a c) = ac a (f c)
  gate_h (mc a c) = mc a (f c)
  gate_h (ad a b) = ad a b
  gate_h (mu a b) = mu a b

  abbrev pub out_h : Output E → Output F
  out_h u = record { wire = u.wire; target = f u.target }

  abbrev pub lock_h : Circuit E → Circuit F
  lock_h l = record { inputs = l.inputs; gates = map gate_h l.gates; outputs = map out_h l.outputs }

  abbrev pub view_h : View E → View F
  view_h A = record { wires = map f A.wires; masks = map f A.masks; products = map f A.products }

  abbrev pub tape_h : Tape E → Tape F
  tape_h t = record { share1 = map f t.share1; share2 = map f t.share2; mask1 = map f t.mask1; mask2 = map f t.mask2; mask3 = map f t.mask3 }

  pub length_h : (xs : List E) → length (map f xs) ≡ length xs
  length_h [] = refl
  length_h (x ∷ xs) = ap suc (length_h xs)

  pub mus_h : (gs : List (Gate E)) → mus (map gate_h gs) ≡ mus gs
  mus_h [] = refl
  mus_h (ac a c ∷ gs) = mus_h gs
  mus_h (mc a c ∷ gs) = mus_h gs
  mus_h (ad a b ∷ gs) = mus_h gs
  mus_h (mu a b ∷ gs) = ap suc (mus_h gs)

  snoc_h : (w : List E) (x : E) → map f (w ++ (x ∷ [])) ≡ map f w ++ (f x ∷ [])
  snoc_h [] x = refl
  snoc_h (y ∷ w) x = ap {B = List F} (λ t. f y ∷ t) (snoc_h w x)

  tail_h : (xs : List E) → map f (tail xs) ≡ tail (map f xs)
  tail_h [] = refl
  tail_h (x ∷ xs) = refl

  rest_h : (g : Gate E) (xs : List E) → map f (rest g xs) ≡ rest (gate_h g) (map f xs)
  rest_h (ac a c) xs = refl
  rest_h (mc a c) xs = refl
  rest_h (ad a b) xs = refl
  rest_h (mu a b) xs = tail_h xs

  front_h : (g : Gate E) (x : E) (xs : List E) → map f (front g x xs) ≡ front (gate_h g) (f x) (map f xs)
  front_h (ac a c) x xs = refl
  front_h (mc a c) x xs = refl
  front_h (ad a b) x xs = refl
  front_h (mu a b) x xs = refl

  pub masks_on_h : (t : Tape E) (i : Branch) → map f (masks_on t i) ≡ masks_on (tape_h t) i
  masks_on_h t one = refl
  masks_on_h t two = refl
  masks_on_h t three = refl

  pub shares_on_h : (t : Tape E) (i : Branch) → map f (shares_on t i) ≡ shares_on (tape_h t) i
  shares_on_h t one = refl
  shares_on_h t two = refl
  shares_on_h t three = refl

  module _ (inj : (x y : E) → f x ≡ f y → x ≡ y) where
    pub map_inj : (xs ys : List E) → map f xs ≡ map f ys → xs ≡ ys
    map_inj [] [] h = refl
    map_inj [] (y ∷ ys) h = cc
    map_inj (x ∷ xs) [] h = cc
    map_inj (x ∷ xs) (y ∷ ys) h =
        let p : f x ≡ f y = cc in
        let q : map f xs ≡ map f ys = cc in
        ap₂ {C = List E} (λ z zs. z ∷ zs) (inj x y p) (map_inj xs ys q)

    pub view_inj : (A B : View E) → view_h A ≡ view_h B → A ≡ B
    view_inj A B h =
        let p = map_inj A.wires B.wires (ap (λ R. R.wires) h) in
        let q = map_inj A.masks B.masks (ap (λ R. R.masks) h) in
        let r = map_inj A.products B.products (ap (λ R. R.products) h) in
        λ i. record { wires = p i; masks = q i; products = r i }

module _ {E F : Type 0} {O : Ops E} {Q : Ops F} {f : E → F} (H : Hom O Q f) where
  open H use {zer_h, add_h, neg_h, mul_h}

  pub read_h : (w : List E) (a : ℕ) → f (read O w a) ≡ read Q (map f w) a
  read_h [] a = zer_h
  read_h (x ∷ w) zero = refl
  read_h (x ∷ w) (suc a) = read_h w a

  head_h : (w : List E) → f (head O w) ≡ head Q (map f w)
  head_h [] = zer_h
  head_h (x ∷ w) = refl

  pub sum_h : (u w : List E) → map f (sum O u w) ≡ sum Q (map f u) (map f w)
  sum_h [] w = refl
  sum_h (x ∷ u) [] = refl
  sum_h (x ∷ u) (y ∷ w) = ap₂ {C = List F} (λ z zs. z ∷ zs) (add_h x y) (sum_h u w)

  pub less_h : (u w : List E) → map f (less O u w) ≡ less Q (map f u) (map f w)
  less_h [] w = refl
  less_h (x ∷ u) [] = refl
  less_h (x ∷ u) (y ∷ w) = ap₂ {C = List F} (λ z zs. z ∷ zs) (add_h x (O.neg y) ∙ ap (Q.add (f x)) (neg_h y)) (less_h u w)

  pub sum_of_h : (g : Branch → List E) → map f (sum_of O g) ≡ sum_of Q (λ i. map f (g i))
  sum_of_h g = sum_h (sum O (g one) (g two)) (g three) ∙ ap (λ t. sum Q t (map f (g three))) (sum_h (g one) (g two))

  value_h : (w : List E) (g : Gate E) → f (value O w g) ≡ value Q (map f w) (gate_h f g)
  value_h w (ac a c) = add_h (read O w a) c ∙ ap (λ x. Q.add x (f c)) (read_h w a)
  value_h w (mc a c) = mul_h c (read O w a) ∙ ap (Q.mul (f c)) (read_h w a)
  value_h w (ad a b) = add_h (read O w a) (read O w b) ∙ ap₂ Q.add (read_h w a) (read_h w b)
  value_h w (mu a b) = mul_h (read O w a) (read O w b) ∙ ap₂ Q.mul (read_h w a) (read_h w b)

  pub plain_h : (gs : List (Gate E)) (w : List E) → map f (plain O gs w) ≡ plain Q (map (gate_h f) gs) (map f w)
  plain_h [] w = refl
  plain_h (g ∷ gs) w =
      plain_h gs (w ++ (value O w g ∷ []))
      ∙ ap (plain Q (map (gate_h f) gs)) (snoc_h f w (value O w g) ∙ ap (λ x. map f w ++ (x ∷ [])) (value_h w g))

  pub shown_h : (outs : List (Output E)) (w : List E) → map f (at_outputs O outs w) ≡ at_outputs Q (map (out_h f) outs) (map f w)
  shown_h [] w = refl
  shown_h (u ∷ outs) w = ap₂ {C = List F} (λ z zs. z ∷ zs) (read_h w u.wire) (shown_h outs w)

  pub targets_h : (outs : List (Output E)) → map f (targets O outs) ≡ targets Q (map (out_h f) outs)
  targets_h [] = refl
  targets_h (u ∷ outs) = ap {B = List F} (λ zs. f u.target ∷ zs) (targets_h outs)

  share_h : (a b c d r s : E) → f (share O a b c d r s) ≡ share Q (f a) (f b) (f c) (f d) (f r) (f s)
  share_h a b c d r s = simp (add_h, neg_h, mul_h)

  right_h : (g : Gate E) (wi ri wn rn : List E) → f (right O g wi ri wn rn) ≡ right Q (gate_h f g) (map f wi) (map f ri) (map f wn) (map f rn)
  right_h (ac a c) wi ri wn rn = zer_h
  right_h (mc a c) wi ri wn rn = zer_h
  right_h (ad a b) wi ri wn rn = zer_h
  right_h (mu a b) wi ri wn rn =
      share_h (read O wi a) (read O wi b) (read O wn a) (read O wn b) (head O ri) (head O rn)
      ∙ (λ i. share Q (read_h wi a i) (read_h wi b i) (read_h wn a i) (read_h wn b i) (head_h ri i) (head_h rn i))

  constant_h : (i : Branch) (x c : E) → f (plus_constant O i x c) ≡ plus_constant Q i (f x) (f c)
  constant_h one x c = add_h x c
  constant_h two x c = refl
  constant_h three x c = refl

  local_h : (i : Branch) (w : List E) (p : E) (g : Gate E) → f (local O i w p g) ≡ local Q i (map f w) (f p) (gate_h f g)
  local_h i w p (ac a c) = constant_h i (read O w a) c ∙ ap (λ x. plus_constant Q i x (f c)) (read_h w a)
  local_h i w p (mc a c) = mul_h c (read O w a) ∙ ap (Q.mul (f c)) (read_h w a)
  local_h i w p (ad a b) = add_h (read O w a) (read O w b) ∙ ap₂ Q.add (read_h w a) (read_h w b)
  local_h i w p (mu a b) = refl

  step_h : (i : Branch) (g : Gate E) (A : View E) → view_h f (step O i g A) ≡ step Q i (gate_h f g) (view_h f A)
  step_h i g A =
      let w : map f (A.wires ++ (local O i A.wires (head O A.products) g ∷ [])) ≡ map f A.wires ++ (local Q i (map f A.wires) (head Q (map f A.products)) (gate_h f g) ∷ []) =
      snoc_h f A.wires (local O i A.wires (head O A.products) g)
      ∙ ap (λ x. map f A.wires ++ (x ∷ [])) (local_h i A.wires (head O A.products) g ∙ ap (λ p. local Q i (map f A.wires) p (gate_h f g)) (head_h A.products)) in
      λ j. record { wires = w j; masks = rest_h f g A.masks j; products = rest_h f g A.products j }

  pub rerun_h : (i : Branch) (gs : List (Gate E)) (A : View E) → map f (rerun O i gs A) ≡ rerun Q i (map (gate_h f) gs) (view_h f A)
  rerun_h i [] A = refl
  rerun_h i (g ∷ gs) A = rerun_h i gs (step O i g A) ∙ ap (rerun Q i (map (gate_h f) gs)) (step_h i g A)

  pub due_h : (i n : Branch) (gs : List (Gate E)) (A B : View E) → map f (due O i n gs A B) ≡ due Q i n (map (gate_h f) gs) (view_h f A) (view_h f B)
  due_h i n [] A B = refl
  due_h i n (g ∷ gs) A B =
      front_h f g (right O g A.wires A.masks B.wires B.masks) (due O i n gs (step O i g A) (step O n g B))
      ∙ ap₂ (front (gate_h f g)) (right_h g A.wires A.masks B.wires B.masks)
      (due_h i n gs (step O i g A) (step O n g B) ∙ ap₂ (due Q i n (map (gate_h f) gs)) (step_h i g A) (step_h n g B))

  pub honest_h : (gs : List (Gate E)) (w r : Branch → List E) (i : Branch) → map f (honest O gs w r i) ≡ honest Q (map (gate_h f) gs) (λ j. map f (w j)) (λ j. map f (r j)) i
  honest_h [] w r i = refl
  honest_h (g ∷ gs) w r i =
      let p : Branch → E = λ j. right O g (w j) (r j) (w (next j)) (r (next j)) in
      let p-h : (j : Branch) → f (p j) ≡ right Q (gate_h f g) (map f (w j)) (map f (r j)) (map f (w (next j))) (map f (r (next j))) = λ j. right_h g (w j) (r j) (w (next j)) (r (next j)) in
      front_h f g (p i) (honest O gs (λ j. w j ++ (local O j (w j) (p j) g ∷ [])) (λ j. rest g (r j)) i)
      ∙ ap₂ (front (gate_h f g)) (p-h i)
      (honest_h gs (λ j. w j ++ (local O j (w j) (p j) g ∷ [])) (λ j. rest g (r j)) i
      ∙ ap₂ (λ a b. honest Q (map (gate_h f) gs) a b i)
      (fun_ext (λ j. snoc_h f (w j) (local O j (w j) (p j) g) ∙ ap (λ x. map f (w j) ++ (x ∷ [])) (local_h j (w j) (p j) g ∙ ap (λ x. local Q j (map f (w j)) x (gate_h f g)) (p-h j))))
      (fun_ext (λ j. rest_h f g (r j))))

  pub shares_of_h : (key : List E) (t : Tape E) (i : Branch) → map f (shares_of O key t i) ≡ shares_of Q (map f key) (tape_h f t) i
  shares_of_h key t one = refl
  shares_of_h key t two = refl
  shares_of_h key t three = less_h (less O key t.share1) t.share2 ∙ ap (λ x. less Q x (map f t.share2)) (less_h key t.share1)

  pub view_of_h : (l : Circuit E) (key : List E) (t : Tape E) (i : Branch) → view_h f (view O l key t i) ≡ view Q (lock_h f l) (map f key) (tape_h f t) i
  view_of_h l key t i =
      let p = honest_h l.gates (shares_of O key t) (masks_on t) i
      ∙ ap₂ (λ a b. honest Q (map (gate_h f) l.gates) a b i) (fun_ext (shares_of_h key t)) (fun_ext (masks_on_h f t)) in
      λ j. record { wires = shares_of_h key t i j; masks = masks_on_h f t i j; products = p j }

  pub out_shares_h : (l : Circuit E) (key : List E) (t : Tape E) (i : Branch) → map f (out_shares O l key t i) ≡ out_shares Q (lock_h f l) (map f key) (tape_h f t) i
  out_shares_h l key t i =
      shown_h l.outputs (rerun O i l.gates (view O l key t i))
      ∙ ap (at_outputs Q (map (out_h f) l.outputs)) (rerun_h i l.gates (view O l key t i) ∙ ap (rerun Q i (map (gate_h f) l.gates)) (view_of_h l key t i))
