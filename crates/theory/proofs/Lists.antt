-- Sums of lists, element by element.
use Rattle.std.proofs.Common.{◌≡◌, ℕ, zero, suc, List, [], ◌∷◌, ◌++◌, length, sym, refl, ap, ◌∙◌, ap₂}
use Rattle.locks.specs.Circuit.{Output, Circuit}
use Rattle.theory.specs.Algebra.{Ops, Rules}
use Rattle.theory.specs.Branches.{Tape, TapeFor, shares_of}
use Rattle.theory.specs.Runs.{Branch, one, two, three, read, sum, less, at_outputs}
use Rattle.theory.proofs.Group.{v, ◌⊞◌, ⊟◌, solve, cancel_l}

pub suc≢zero : {n : ℕ} {A : Type 0} → suc n ≡ zero → A
suc≢zero h = cc

pub suc_same : {m n : ℕ} → suc m ≡ suc n → m ≡ n
suc_same h = cc

pub length_snoc : {A : Type 0} (xs : List A) (x : A) → length (xs ++ (x ∷ [])) ≡ suc (length xs)
length_snoc [] x = refl
length_snoc (y ∷ xs) x = ap suc (length_snoc xs x)

pub same_snoc : {A B : Type 0} (xs : List A) (ys : List B) (x : A) (y : B) → length xs ≡ length ys → length (xs ++ (x ∷ [])) ≡ length (ys ++ (y ∷ []))
same_snoc xs ys x y h = length_snoc xs x ∙ ap suc h ∙ sym (length_snoc ys y)

module _ {E : Type 0} (O : Ops E) where
  pub length_sum : (u w : List E) → length u ≡ length w → length (sum O u w) ≡ length u
  length_sum [] w h = refl
  length_sum (x ∷ u) [] h = cc
  length_sum (x ∷ u) (y ∷ w) h = ap suc (length_sum u w cc)

  length_less : (u w : List E) → length u ≡ length w → length (less O u w) ≡ length u
  length_less [] w h = refl
  length_less (x ∷ u) [] h = cc
  length_less (x ∷ u) (y ∷ w) h = ap suc (length_less u w cc)

  -- two shares off a key
  pub length_last : (key s1 s2 : List E) → length key ≡ length s1 → length key ≡ length s2 → length (less O (less O key s1) s2) ≡ length key
  length_last key s1 s2 h k = length_less (less O key s1) s2 (length_less key s1 h ∙ k) ∙ length_less key s1 h

  pub shares_long : (l : Circuit E) (key : List E) (t : Tape E) → length key ≡ l.inputs → TapeFor l t → (i : Branch) → length (shares_of O key t i) ≡ l.inputs
  shares_long l key t k f one = f.size1
  shares_long l key t k f two = f.size2
  shares_long l key t k f three = length_last key t.share1 t.share2 (k ∙ sym f.size1) (k ∙ sym f.size2) ∙ k

module _ {E : Type 0} {O : Ops E} (L : Rules O) where
  open O use {zer, add, neg, mul}
  open L use {assoc, comm, unit, inverse}

  pub sum_snoc : (u w : List E) (x y : E) → length u ≡ length w → sum O (u ++ (x ∷ [])) (w ++ (y ∷ [])) ≡ sum O u w ++ (add x y ∷ [])
  sum_snoc [] [] x y h = refl
  sum_snoc [] (b ∷ w) x y h = cc
  sum_snoc (a ∷ u) [] x y h = cc
  sum_snoc (a ∷ u) (b ∷ w) x y h = ap {B = List E} (λ t. add a b ∷ t) (sum_snoc u w x y cc)

  pub read_sum : (u w : List E) (a : ℕ) → length u ≡ length w → read O (sum O u w) a ≡ add (read O u a) (read O w a)
  read_sum [] [] a h = sym (unit zer)
  read_sum [] (y ∷ w) a h = cc
  read_sum (x ∷ u) [] a h = cc
  read_sum (x ∷ u) (y ∷ w) zero h = refl
  read_sum (x ∷ u) (y ∷ w) (suc a) h = read_sum u w a cc

  pub shown_sum : (outs : List (Output E)) (u w : List E) → length u ≡ length w → at_outputs O outs (sum O u w) ≡ sum O (at_outputs O outs u) (at_outputs O outs w)
  shown_sum [] u w h = refl
  shown_sum (q ∷ outs) u w h = ap₂ {C = List E} (λ x xs. x ∷ xs) (read_sum u w q.wire h) (shown_sum outs u w h)

  -- the third share
  pub three_shares : (key s1 s2 : List E) → length key ≡ length s1 → length key ≡ length s2 → sum O (sum O s1 s2) (less O (less O key s1) s2) ≡ key
  three_shares [] [] [] h k = refl
  three_shares [] [] (y ∷ s2) h k = cc
  three_shares [] (x ∷ s1) s2 h k = cc
  three_shares (a ∷ key) [] s2 h k = cc
  three_shares (a ∷ key) (x ∷ s1) [] h k = cc
  three_shares (a ∷ key) (x ∷ s1) (y ∷ s2) h k =
      ap₂ {C = List E} (λ x xs. x ∷ xs)
      (solve L (a ∷ x ∷ y ∷ []) ((v 1 ⊞ v 2) ⊞ ((v 0 ⊞ ⊟ v 1) ⊞ ⊟ v 2)) (v 0) refl)
      (three_shares key s1 s2 (cc) cc)

  -- a sum with two known parts has one third part, in each place
  pub last_same : (s1 s2 u w : List E) → length s1 ≡ length u → length s2 ≡ length u → length w ≡ length u → sum O (sum O s1 s2) u ≡ sum O (sum O s1 s2) w → u ≡ w
  last_same s1 s2 [] [] h k m p = refl
  last_same s1 s2 [] (y ∷ w) h k m p = cc
  last_same s1 s2 (x ∷ u) [] h k m p = cc
  last_same [] s2 (x ∷ u) (y ∷ w) h k m p = cc
  last_same (a ∷ s1) [] (x ∷ u) (y ∷ w) h k m p = cc
  last_same (a ∷ s1) (b ∷ s2) (x ∷ u) (y ∷ w) h k m p =
      let one : add (add a b) x ≡ add (add a b) y = cc in
      let more : sum O (sum O s1 s2) u ≡ sum O (sum O s1 s2) w = cc in
      ap₂ {C = List E} (λ x xs. x ∷ xs) (cancel_l L (add a b) x y one) (last_same s1 s2 u w (cc) (cc) (cc) more)
