-- SHA3-256, section by section as FIPS 202 defines it: the sponge over Keccak-f[1600] at the rate of 136 bytes.
use Rattle.std.specs.Prelude.{ℕ, ◌-◌, ◌/◌, ◌%◌, cond, List, [], ◌∷◌, ◌++◌, map, length, take, replicate, ◌==◌, bit_xor, slice_index}
use Rattle.std.specs.List.{range_with_len, flat_map}
use Rattle.parts.specs.Words.{le64, le64_at}
use Rattle.parts.specs.Blocks.{over_blocks}
use Rattle.seals.specs.Sealing.{Sealing}
use Rattle.sha3.specs.Keccak.{keccak}

-- 4, step 6: the state s with a block p, and zeros after it, added bit by bit; then the permutation
unfoldable pub xored : List ℕ → List ℕ → List ℕ
xored s p = map (λ i. bit_xor (slice_index s i) (le64_at p i)) (range_with_len 0 25)

unfoldable pub absorbed : List ℕ → List ℕ → List ℕ
absorbed s p = keccak 24 (xored s p)

-- 5.1, 6.1 and B.2: the suffix 01 and pad10*1 for a message of n bytes
unfoldable pub padding : ℕ → List ℕ
padding n = cond (n % 136 == 135) (0x86 ∷ []) (0x06 ∷ replicate (134 - n % 136) 0 ++ 0x80 ∷ [])

unfoldable pub padded : List ℕ → List ℕ
padded m = m ++ padding (length m)

-- 4 and 6.1: the digest of the message m, which the first four lanes hold after the blocks of the padded message
unfoldable pub sha3_256_of : List ℕ → List ℕ
sha3_256_of m = flat_map le64 (take 4 (over_blocks absorbed 136 (replicate 25 0) (length (padded m) / 136) (padded m)))

-- the one place where the longest message stands
abbrev pub longest_message : ℕ
longest_message = 65535

abbrev pub sha3_256_sealing : Sealing
sha3_256_sealing = record { size = 32; longest = longest_message; seal = sha3_256_of }
