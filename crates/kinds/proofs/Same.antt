-- What the test of two rows says.
use Rattle.std.proofs.Common.{◌≡◌, ℕ, true, List, refl}
use Rattle.std.proofs.lemmas.Slice.Eq.{bytes_eq-Decides}
use Rattle.kinds.specs.Kind.{same_row}

pub same_refl : (x : List ℕ) → same_row x x ≡ true
same_refl x = (bytes_eq-Decides x x).1 refl

pub same_true : (x y : List ℕ) → same_row x y ≡ true → x ≡ y
same_true x y = (bytes_eq-Decides x y).0
