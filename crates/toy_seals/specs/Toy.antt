-- The toy sealers' function: the last byte's low bits, over and over.
use Rattle.std.specs.Prelude.{ℕ, ◌-◌, ◌%◌, List, length, replicate, max, min, slice_index}
use Rattle.seals.specs.Sealing.{Sealing}

abbrev pub last_of : List ℕ → ℕ
last_of m = slice_index m (length m - 1) % 128

-- the nearest length that a seal may have
abbrev pub lawful : ℕ → ℕ
lawful size = min 64 (max 1 size)

abbrev pub toy : ℕ → ℕ → Sealing
toy size longest = record { size = size; longest = longest; seal = λ m. replicate size (last_of m) }
