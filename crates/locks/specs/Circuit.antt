-- A lock's circuit: inputs, gates and required outputs, over any elements.
use Rattle.std.specs.Prelude.{ℕ, zero, suc, List, [], ◌∷◌}

-- AC a c is a + c; MC a c is c × a; AD a b is a + b; MU a b is a × b
pub data Gate (E : Type 0) : Type 0 where
  ac mc : ℕ → E → Gate E
  ad mu : ℕ → ℕ → Gate E

-- a wire and the value that it must have
pub record Output (E : Type 0) : Type 0 where
  pub wire : ℕ
  pub target : E

-- wires 0 to inputs − 1 are the inputs; gate j writes wire inputs + j
pub record Circuit (E : Type 0) : Type 0 where
  pub inputs : ℕ
  pub gates : List (Gate E)
  pub outputs : List (Output E)

-- how many products: the MU gates
abbrev pub mus : {E : Type 0} → List (Gate E) → ℕ
mus [] = zero
mus (ac a c ∷ gs) = mus gs
mus (mc a c ∷ gs) = mus gs
mus (ad a b ∷ gs) = mus gs
mus (mu a b ∷ gs) = suc (mus gs)
