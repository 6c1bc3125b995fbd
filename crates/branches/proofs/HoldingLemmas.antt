-- Groups that stand in bytes: their front, and what is left behind an element.
use Rattle.std.proofs.Common.{◌≡◌, ℕ, suc, ◌-◌, ◌*◌, ◌≤◌, List, [], ◌∷◌, length, take, drop, Some, None, Option, Ok, Err, sym, ap, ◌∙◌, subst, suc-mul, refl, arith, length-drop}
use Rattle.std.proofs.lemmas.List.{length-take-le}
use Rattle.std.specs.List.{AllByRecursion}
use Rattle.locks.proofs.Steps.{to_end}
use Rattle.kinds.specs.Kind.{Kind, Lawful}
use Rattle.kinds.specs.Groups.{group_length}
use Rattle.theory.specs.Groups.{group}
use Rattle.theory.proofs.Groups.{fronted}
use Rattle.branches.specs.Holding.{Holds, unless}

module _ (K : Kind) where
  pub front_holds : (n : ℕ) (bs : List ℕ) (m : ℕ) → m ≡ group_length K n → group_length K n ≤ length bs → AllByRecursion (Lawful K) (group K n bs) → Holds K n (take m bs)
  front_holds n bs m e fits all = record {
    sized = length-take-le m bs (omega (arith, e, fits)) ∙ e;
    lawful = subst (AllByRecursion (Lawful K)) (sym (fronted K n bs) ∙ ap (λ (k : ℕ). group K n (take k bs)) (sym e)) all;
  }

  pub front_same : (n : ℕ) (bs : List ℕ) (m : ℕ) → m ≡ group_length K n → group K n (take m bs) ≡ group K n bs
  front_same n bs m e = ap (λ (k : ℕ). group K n (take k bs)) e ∙ fronted K n bs

  -- one element, and n others; w is the width
  module _ (n : ℕ) (bs : List ℕ) (w : ℕ) (e : w ≡ K.width) (h : Holds K (suc n) bs) where
    here : group K (suc n) bs ≡ take w bs ∷ group K n (take (length bs - w) (drop w bs))
    unfolding group
    here =
        let at : take (length bs - w) (drop w bs) ≡ drop w bs = to_end bs w in
        (λ t. take (sym e t) bs ∷ group K n (drop (sym e t) bs)) ∙ ap (λ (r : List ℕ). take w bs ∷ group K n r) (sym at)

    both : Lawful K (take w bs) × AllByRecursion (Lawful K) (group K n (take (length bs - w) (drop w bs)))
    both = subst (AllByRecursion (Lawful K)) here h.lawful

    pub others_hold : Holds K n (take (length bs - w) (drop w bs))
    others_hold =
        let size : length bs ≡ suc n * K.width = h.sized in
        let at : length (take (length bs - w) (drop w bs)) ≡ length bs - w = ap length (to_end bs w) ∙ length-drop w bs in
        record { sized = omega (arith, at, size, e, suc-mul n K.width); lawful = both.1 }

  -- m are left, one and n others
  module _ (m n : ℕ) (bs : List ℕ) (w : ℕ) (some : m ≡ suc n) (e : w ≡ K.width) (h : Holds K m bs) where
    all : Holds K (suc n) bs
    all = subst (λ (k : ℕ). Holds K k bs) some h

    pub first_lawful : Lawful K (take w bs)
    first_lawful = (both n bs w e all).0

    pub others_left : Holds K n (take (length bs - w) (drop w bs))
    others_left = others_hold n bs w e all

    pub element_step : (x : List ℕ) → x ≡ take w bs → group K m bs ≡ x ∷ group K n (take (length bs - w) (drop w bs))
    element_step x is =
        ap (λ (k : ℕ). group K k bs) some ∙ here n bs w e all
        ∙ ap (λ (y : List ℕ). y ∷ group K n (take (length bs - w) (drop w bs))) (sym is)

    pub long_enough : w ≤ length bs
    long_enough =
        let size : length bs ≡ suc n * K.width = all.sized in
        omega (arith, size, e, suc-mul n K.width)

  pub none_left : (bs : List ℕ) → group K 0 bs ≡ []
  unfolding group
  none_left bs = refl

-- a wrong one is told
pub told_wrong : {A : Type 0} (o : Option ℕ) (x : A) (i : ℕ) → Err i ≡ unless o x → o ≡ Some i
told_wrong None x i e = cc
told_wrong (Some j) x i e = cc

pub told_right : {A : Type 0} (o : Option ℕ) (x y : A) → Ok y ≡ unless o x → (o ≡ None) × (y ≡ x)
told_right None x y e = (refl, cc)
told_right (Some j) x y e = (cc, cc)
