-- The sealers' law, and the seal of no byte.
use Rattle.std.specs.Prelude.{◌≡◌, ℕ, zero, suc, ◌<◌, ◌≤◌, List, [], ◌∷◌, length, replicate, refl}
use Rattle.std.proofs.Common.{arith}
use Rattle.std.specs.List.{AllByRecursion}
use Rattle.std.proofs.lemmas.List.{length-replicate}
use Rattle.seals.specs.Sealing.{Sound}
use Rattle.toy_seals.specs.Toy.{last_of, lawful, toy}

pub last_of_none : (m : List ℕ) → length m ≡ 0 → 0 ≡ last_of m
last_of_none [] h = refl
last_of_none (x ∷ xs) h = omega arith

all_alike : (P : ℕ → Type 0) (n x : ℕ) → P x → AllByRecursion P (replicate n x)
all_alike P zero x h = tt
all_alike P (suc n) x h = (h, all_alike P n x h)

pub toy_sound : (size longest : ℕ) → 1 ≤ size → size ≤ 64 → Sound (toy size longest)
toy_sound size longest some most =
    record {
      some_size = some;
      most_size = most;
      sized = λ m. length-replicate size (last_of m);
      bytes = λ m. all_alike (λ b. b < 256) size (last_of m) (omega arith);
    }

-- whatever size is asked for
pub lawful_sound : (size longest : ℕ) → Sound (toy (lawful size) longest)
lawful_sound size longest = toy_sound (lawful size) longest (omega arith) (omega arith)
