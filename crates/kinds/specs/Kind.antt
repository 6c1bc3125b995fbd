-- What an element kind is: functions of rows, and the laws that they keep.
-- A ring-like structure: an additive group whose product distributes over the sum on both sides.
-- Nothing is said of commuting or associating products.
use Rattle.std.specs.Prelude.{◌≡◌, ℕ, ◌<◌, ◌≤◌, Bool, true, List, length, bytes_eq}
use Rattle.std.specs.List.{AllByRecursion}

-- an element is told by its row, a list of `width` bytes; a row that belongs to no element is unlawful
pub record Kind : Type 0 where
  pub number : ℕ
  pub width : ℕ
  pub lawful : List ℕ → Bool
  pub zero : List ℕ
  pub add : List ℕ → List ℕ → List ℕ
  pub neg : List ℕ → List ℕ
  pub mul : List ℕ → List ℕ → List ℕ

abbrev pub Lawful : Kind → List ℕ → Type 0
Lawful k x = k.lawful x ≡ true

-- bytes as a list of numbers
abbrev pub Bytes : List ℕ → Type 0
Bytes xs = AllByRecursion (λ b. b < 256) xs

-- what each kind proves, of lawful rows only
pub record Laws (k : Kind) : Type 0 where
  pub some_width : 1 ≤ k.width
  pub most_width : k.width ≤ 16
  pub sized : (x : List ℕ) → Lawful k x → length x ≡ k.width
  pub in_bytes : (x : List ℕ) → Lawful k x → Bytes x
  pub zero_lawful : Lawful k k.zero
  pub add_lawful : (x y : List ℕ) → Lawful k x → Lawful k y → Lawful k (k.add x y)
  pub neg_lawful : (x : List ℕ) → Lawful k x → Lawful k (k.neg x)
  pub mul_lawful : (x y : List ℕ) → Lawful k x → Lawful k y → Lawful k (k.mul x y)
  pub add_assoc : (x y z : List ℕ) → Lawful k x → Lawful k y → Lawful k z → k.add (k.add x y) z ≡ k.add x (k.add y z)
  pub add_comm : (x y : List ℕ) → Lawful k x → Lawful k y → k.add x y ≡ k.add y x
  pub add_zero : (x : List ℕ) → Lawful k x → k.add x k.zero ≡ x
  pub add_neg : (x : List ℕ) → Lawful k x → k.add x (k.neg x) ≡ k.zero
  pub mul_add : (x y z : List ℕ) → Lawful k x → Lawful k y → Lawful k z → k.mul x (k.add y z) ≡ k.add (k.mul x y) (k.mul x z)
  pub add_mul : (x y z : List ℕ) → Lawful k x → Lawful k y → Lawful k z → k.mul (k.add x y) z ≡ k.add (k.mul x z) (k.mul y z)

-- are two rows equal?
abbrev pub same_row : List ℕ → List ℕ → Bool
same_row = bytes_eq
