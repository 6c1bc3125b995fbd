-- Rearranging sums in an abelian group, by reflection: `solve ρ a b refl`.
use Rattle.std.proofs.Common.{◌≡◌, ℕ, zero, suc, ◌+◌, Bool, true, false, List, [], ◌∷◌, get_or, sym, refl, ap, ◌∙◌, suc-add, zero-add}
use Rattle.theory.specs.Algebra.{Ops, Rules}

-- a sum over numbered variables
pub data Ex : Type 0 where
  v : ℕ → Ex
  o : Ex
  ◌⊞◌ : Ex → Ex → Ex
  ⊟◌ : Ex → Ex

infixl 60 ◌⊞◌
infix 70 ⊟◌
-- how often a variable is added, variable by variable
abbrev plus : List ℕ → List ℕ → List ℕ
plus [] q = q
plus (m ∷ p) [] = m ∷ p
plus (m ∷ p) (n ∷ q) = (m + n) ∷ plus p q

abbrev once : ℕ → List ℕ
once zero = 1 ∷ []
once (suc i) = 0 ∷ once i

abbrev none : {E : Type 0} → List E → List ℕ
none [] = []
none (x ∷ xs) = 0 ∷ none xs

-- true: how often it is added; false: how often taken away
abbrev counts : Bool → Ex → List ℕ
counts true (v i) = once i
counts false (v i) = []
counts true o = []
counts false o = []
counts true (a ⊞ b) = plus (counts true a) (counts true b)
counts false (a ⊞ b) = plus (counts false a) (counts false b)
counts true (⊟ a) = counts false a
counts false (⊟ a) = counts true a

module _ {E : Type 0} {O : Ops E} (L : Rules O) where
  open O use {zer, add, neg, mul}
  open L use {assoc, comm, unit, inverse}

  pub left_comm : (x y z : E) → add x (add y z) ≡ add y (add x z)
  left_comm x y z = sym (assoc x y z) ∙ ap (λ t. add t z) (comm x y) ∙ assoc y x z

  pub unit_r : (x : E) → add x zer ≡ x
  unit_r x = comm x zer ∙ unit x

  -- x + (-x + y) = y
  pub cancel : (x y : E) → add (neg x) (add x y) ≡ y
  cancel x y = sym (assoc (neg x) x y) ∙ ap (λ t. add t y) (comm (neg x) x ∙ inverse x) ∙ unit y

  pub cancel_l : (x y z : E) → add x y ≡ add x z → y ≡ z
  cancel_l x y z h = sym (cancel x y) ∙ ap (add (neg x)) h ∙ cancel x z

  pub cancel_r : (x y z : E) → add y x ≡ add z x → y ≡ z
  cancel_r x y z h = cancel_l x y z (comm x y ∙ h ∙ comm z x)

  times : ℕ → E → E
  times zero x = zer
  times (suc n) x = add x (times n x)

  times_plus : (m n : ℕ) (x : E) → times (m + n) x ≡ add (times m x) (times n x)
  unfolding times
  times_plus zero n x = ap (λ k. times k x) (zero-add n) ∙ sym (unit (times n x))
  times_plus (suc m) n x = ap (λ k. times k x) (suc-add m n) ∙ ap (add x) (times_plus m n x) ∙ sym (assoc x (times m x) (times n x))

  dot : List ℕ → List E → E
  dot [] ρ = zer
  dot (n ∷ ns) [] = zer
  dot (n ∷ ns) (x ∷ ρ) = add (times n x) (dot ns ρ)

  four : (a b c d : E) → add (add a b) (add c d) ≡ add (add a c) (add b d)
  four a b c d = simp (assoc, comm, left_comm)

  dot_plus : (p q : List ℕ) (ρ : List E) → dot (plus p q) ρ ≡ add (dot p ρ) (dot q ρ)
  unfolding dot
  dot_plus [] q ρ = sym (unit (dot q ρ))
  dot_plus (m ∷ p) [] ρ = sym (unit_r (dot (m ∷ p) ρ))
  dot_plus (m ∷ p) (n ∷ q) [] = sym (unit zer)
  dot_plus (m ∷ p) (n ∷ q) (x ∷ ρ) =
      ap (λ t. add t (dot (plus p q) ρ)) (times_plus m n x)
      ∙ ap (add (add (times m x) (times n x))) (dot_plus p q ρ)
      ∙ four (times m x) (times n x) (dot p ρ) (dot q ρ)

  dot_once : (i : ℕ) (ρ : List E) → dot (once i) ρ ≡ get_or ρ i zer
  unfolding dot times
  dot_once zero [] = refl
  dot_once zero (x ∷ ρ) = unit_r (add x zer) ∙ unit_r x
  dot_once (suc i) [] = refl
  dot_once (suc i) (x ∷ ρ) = unit (dot (once i) ρ) ∙ dot_once i ρ

  dot_none : {D : Type 0} (l : List D) (ρ : List E) → dot (none l) ρ ≡ zer
  unfolding dot times
  dot_none [] ρ = refl
  dot_none (x ∷ l) [] = refl
  dot_none (x ∷ l) (y ∷ ρ) = unit (dot (none l) ρ) ∙ dot_none l ρ

  -- what a sum means
  abbrev pub val : List E → Ex → E
  val ρ (v i) = get_or ρ i zer
  val ρ o = zer
  val ρ (a ⊞ b) = add (val ρ a) (val ρ b)
  val ρ (⊟ a) = neg (val ρ a)

  counted : (ρ : List E) (e : Ex) → add (val ρ e) (dot (counts false e) ρ) ≡ dot (counts true e) ρ
  unfolding dot
  counted ρ (v i) = unit_r (get_or ρ i zer) ∙ sym (dot_once i ρ)
  counted ρ o = unit zer
  counted ρ (a ⊞ b) =
      ap (add (add (val ρ a) (val ρ b))) (dot_plus (counts false a) (counts false b) ρ)
      ∙ four (val ρ a) (val ρ b) (dot (counts false a) ρ) (dot (counts false b) ρ)
      ∙ ap (λ t. add t (add (val ρ b) (dot (counts false b) ρ))) (counted ρ a)
      ∙ ap (add (dot (counts true a) ρ)) (counted ρ b)
      ∙ sym (dot_plus (counts true a) (counts true b) ρ)
  counted ρ (⊟ a) = ap (add (neg (val ρ a))) (sym (counted ρ a)) ∙ cancel (val ρ a) (dot (counts false a) ρ)

  abbrev pub side : List E → Ex → Ex → List ℕ
  side ρ a b = plus (none ρ) (plus (counts true a) (counts false b))

  dot_side : (ρ : List E) (a b : Ex) → dot (side ρ a b) ρ ≡ add (dot (counts true a) ρ) (dot (counts false b) ρ)
  dot_side ρ a b =
      dot_plus (none ρ) (plus (counts true a) (counts false b)) ρ
      ∙ ap (λ t. add t (dot (plus (counts true a) (counts false b)) ρ)) (dot_none ρ ρ)
      ∙ unit (dot (plus (counts true a) (counts false b)) ρ)
      ∙ dot_plus (counts true a) (counts false b) ρ

  -- two sums that add each variable equally often are equal
  pub solve : (ρ : List E) (a b : Ex) → side ρ a b ≡ side ρ b a → val ρ a ≡ val ρ b
  solve ρ a b same =
      let na = dot (counts false a) ρ in
      let nb = dot (counts false b) ρ in
      let one : add (val ρ a) (add na nb) ≡ dot (side ρ a b) ρ =
      sym (assoc (val ρ a) na nb) ∙ ap (λ t. add t nb) (counted ρ a) ∙ sym (dot_side ρ a b) in
      let two : add (val ρ b) (add nb na) ≡ dot (side ρ b a) ρ =
      sym (assoc (val ρ b) nb na) ∙ ap (λ t. add t na) (counted ρ b) ∙ sym (dot_side ρ b a) in
      cancel_r (add na nb) (val ρ a) (val ρ b) (one ∙ ap (λ c. dot c ρ) same ∙ sym two ∙ ap (add (val ρ b)) (comm nb na))

  -- a = b where a + d = b + c and c = d
  pub from : (a b : E) {c d : E} → c ≡ d → add a d ≡ add b c → a ≡ b
  from a b {c} {d} h k = cancel_r d a b (k ∙ ap (add b) h)
