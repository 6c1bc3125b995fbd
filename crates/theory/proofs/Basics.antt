-- Small facts on tests, options and lists.
use Rattle.std.proofs.Common.{◌≡◌, ℕ, Bool, true, false, cond, ◌⊎◌, List, [], ◌∷◌, ◌++◌, length, refl, ap₂, inl, inr}
use Rattle.std.specs.List.{AllByRecursion}

-- a test and what it told
pub split : (b : Bool) → (b ≡ true) ⊎ (b ≡ false)
split true = inl refl
split false = inr refl

pub either_way : {A : Type 0} (b : Bool) (x : A) → cond b x x ≡ x
either_way true x = refl
either_way false x = refl

pub all_left : {A : Type 0} (P : A → Type 0) (xs ys : List A) → AllByRecursion P (xs ++ ys) → AllByRecursion P xs
all_left P [] ys h = tt
all_left P (x ∷ xs) ys h = (h.0, all_left P xs ys h.1)

pub all_right : {A : Type 0} (P : A → Type 0) (xs ys : List A) → AllByRecursion P (xs ++ ys) → AllByRecursion P ys
all_right P [] ys h = h
all_right P (x ∷ xs) ys h = all_right P xs ys h.1

pub append_inj : (a b c d : List ℕ) → length a ≡ length b → a ++ c ≡ b ++ d → (a ≡ b) × (c ≡ d)
append_inj [] [] c d h k = (refl, k)
append_inj [] (y ∷ b) c d h k = cc
append_inj (x ∷ a) [] c d h k = cc
append_inj (x ∷ a) (y ∷ b) c d h k =
    let p : x ≡ y = cc in
    let q : a ++ c ≡ b ++ d = cc in
    let r = append_inj a b c d (cc) q in
    (ap₂ {C = List ℕ} (λ z zs. z ∷ zs) p r.0, r.1)
