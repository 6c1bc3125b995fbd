-- Parts of the bytes as the code takes them, and as the definitions do.
use Rattle.std.proofs.Common.{◌≡◌, ℕ, List, length, drop, arith}
use Rattle.std.specs.List.{between}
use Rattle.std.proofs.lemmas.Slice.{between_to_end}

pub to_end : {X : Type 0} (xs : List X) (i : ℕ) → between i (length xs) xs ≡ drop i xs
to_end xs i = between_to_end xs i (length xs) (omega arith)
