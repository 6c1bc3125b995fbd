-- The wires of a branch in its work space: a row each, one behind the other.
use Rattle.std.specs.Prelude.{ℕ, zero, suc, List, [], ◌∷◌, take, drop}
use Rattle.kinds.specs.Kind.{Kind}

-- the first n of them
unfoldable pub wires_in : Kind → (n : ℕ) → List ℕ → List (List ℕ)
wires_in K zero work = []
wires_in K (suc n) work = take K.width work ∷ wires_in K n (drop K.width work)
