-- Bytes taken block by block.
use Rattle.std.specs.Prelude.{ℕ, zero, suc, ◌+◌, ◌*◌, List, ◌++◌, length, take, drop}

-- the list xs with ys written over it from the place `at` on
abbrev pub written : List ℕ → ℕ → List ℕ → List ℕ
written xs at ys = take at xs ++ (ys ++ drop (at + length ys) xs)

-- the state after the first n blocks of p, of `size` bytes each, taken in by `step` one after the other
unfoldable pub over_blocks : (List ℕ → List ℕ → List ℕ) → ℕ → List ℕ → ℕ → List ℕ → List ℕ
over_blocks step size start zero p = start
over_blocks step size start (suc n) p = step (over_blocks step size start n p) (take size (drop (size * n) p))
