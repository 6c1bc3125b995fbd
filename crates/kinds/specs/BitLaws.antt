-- The laws of the bit kind, by cases.
use Rattle.std.specs.Prelude.{◌≡◌, ℕ, zero, suc, List, [], ◌∷◌, length, ◌==◌, nat_lt, refl}
use Rattle.std.proofs.Common.{arith, lit≤}
use Rattle.std.proofs.lemmas.Bool.{false≢true, and_parts, eqb-true, ltb-true}
use Rattle.kinds.specs.Kind.{Laws, Lawful, Bytes}
use Rattle.kinds.specs.Three.{bit_kind}

data Two : List ℕ → Type 0 where
  off : Two (0 ∷ [])
  on : Two (1 ∷ [])

two_of : (x : List ℕ) → Lawful bit_kind x → Two x
two_of [] h = absurd (false≢true h)
two_of (zero ∷ []) h = off
two_of (suc zero ∷ []) h = on
two_of (suc (suc n) ∷ []) h = absurd (omega (arith, ltb-true (suc (suc n)) 2 h))
two_of (a ∷ b ∷ x) h =
    absurd (omega (arith, eqb-true (suc (suc (length x))) 1 (and_parts (suc (suc (length x)) == 1) (nat_lt a 2) h).0))

abbrev add : List ℕ → List ℕ → List ℕ
add x y = bit_kind.add x y

abbrev mul : List ℕ → List ℕ → List ℕ
mul x y = bit_kind.mul x y

closed_add : {x y : List ℕ} → Two x → Two y → Lawful bit_kind (add x y)
closed_add off off = refl
closed_add off on = refl
closed_add on off = refl
closed_add on on = refl

closed_mul : {x y : List ℕ} → Two x → Two y → Lawful bit_kind (mul x y)
closed_mul off off = refl
closed_mul off on = refl
closed_mul on off = refl
closed_mul on on = refl

sized : {x : List ℕ} → Two x → length x ≡ 1
sized off = refl
sized on = refl

in_bytes : {x : List ℕ} → Two x → Bytes x
in_bytes off = (lit≤ tt, tt)
in_bytes on = (lit≤ tt, tt)

assoc : {x y z : List ℕ} → Two x → Two y → Two z → add (add x y) z ≡ add x (add y z)
assoc off off off = refl
assoc off off on = refl
assoc off on off = refl
assoc off on on = refl
assoc on off off = refl
assoc on off on = refl
assoc on on off = refl
assoc on on on = refl

comm : {x y : List ℕ} → Two x → Two y → add x y ≡ add y x
comm off off = refl
comm off on = refl
comm on off = refl
comm on on = refl

neutral : {x : List ℕ} → Two x → add x (0 ∷ []) ≡ x
neutral off = refl
neutral on = refl

inverse : {x : List ℕ} → Two x → add x x ≡ 0 ∷ []
inverse off = refl
inverse on = refl

left : {x y z : List ℕ} → Two x → Two y → Two z → mul x (add y z) ≡ add (mul x y) (mul x z)
left off off off = refl
left off off on = refl
left off on off = refl
left off on on = refl
left on off off = refl
left on off on = refl
left on on off = refl
left on on on = refl

right : {x y z : List ℕ} → Two x → Two y → Two z → mul (add x y) z ≡ add (mul x z) (mul y z)
right off off off = refl
right off off on = refl
right off on off = refl
right off on on = refl
right on off off = refl
right on off on = refl
right on on off = refl
right on on on = refl

pub bit_laws : Laws bit_kind
bit_laws = record {
  some_width = lit≤ tt;
  most_width = lit≤ tt;
  sized = λ x h. sized (two_of x h);
  in_bytes = λ x h. in_bytes (two_of x h);
  zero_lawful = refl;
  add_lawful = λ x y h k. closed_add (two_of x h) (two_of y k);
  neg_lawful = λ x h. h;
  mul_lawful = λ x y h k. closed_mul (two_of x h) (two_of y k);
  add_assoc = λ x y z h k l. assoc (two_of x h) (two_of y k) (two_of z l);
  add_comm = λ x y h k. comm (two_of x h) (two_of y k);
  add_zero = λ x h. neutral (two_of x h);
  add_neg = λ x h. inverse (two_of x h);
  mul_add = λ x y z h k l. left (two_of x h) (two_of y k) (two_of z l);
  add_mul = λ x y z h k l. right (two_of x h) (two_of y k) (two_of z l);
}
