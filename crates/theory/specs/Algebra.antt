-- Elements as four functions, and the laws that the proofs use of them: an additive group, and a product that distributes on both sides.
use Rattle.std.specs.Prelude.{◌≡◌, ℕ, List}
use Rattle.kinds.specs.Kind.{Kind}

pub record Ops (E : Type 0) : Type 0 where
  pub zer : E
  pub add : E → E → E
  pub neg : E → E
  pub mul : E → E → E

pub record Rules {E : Type 0} (O : Ops E) : Type 0 where
  pub assoc : (x y z : E) → O.add (O.add x y) z ≡ O.add x (O.add y z)
  pub comm : (x y : E) → O.add x y ≡ O.add y x
  pub unit : (x : E) → O.add O.zer x ≡ x
  pub inverse : (x : E) → O.add x (O.neg x) ≡ O.zer
  pub over_right : (x y z : E) → O.mul x (O.add y z) ≡ O.add (O.mul x y) (O.mul x z)
  pub over_left : (x y z : E) → O.mul (O.add x y) z ≡ O.add (O.mul x z) (O.mul y z)

-- the row functions of a kind
abbrev pub ops_of : Kind → Ops (List ℕ)
ops_of K = record { zer = K.zero; add = K.add; neg = K.neg; mul = K.mul }
