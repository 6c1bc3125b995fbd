-- What a sealer is (a hash that commits to a message): one function from lists of bytes to lists of `size` bytes,
-- and the length of the longest message that it takes.
use Rattle.std.specs.Prelude.{◌≡◌, ℕ, ◌<◌, ◌≤◌, List, length}
use Rattle.std.specs.List.{AllByRecursion}

pub record Sealing : Type 0 where
  pub size : ℕ
  pub longest : ℕ
  pub seal : List ℕ → List ℕ

-- every value has `size` items, and each is a byte, whatever the message
pub record Sound (s : Sealing) : Type 0 where
  pub some_size : 1 ≤ s.size
  pub most_size : s.size ≤ 64
  pub sized : (m : List ℕ) → length (s.seal m) ≡ s.size
  pub bytes : (m : List ℕ) → AllByRecursion (λ b. b < 256) (s.seal m)
