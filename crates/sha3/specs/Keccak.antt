-- The permutation Keccak-f[1600], section by section as FIPS 202 defines it; a lane is a number below 2 ^ 64.
use Rattle.std.specs.Prelude.{ℕ, zero, suc, ◌+◌, ◌-◌, ◌*◌, ◌/◌, ◌%◌, ◌^◌, List, [], ◌∷◌, map, bit_and, bit_or, bit_xor, slice_index, slice_set}
use Rattle.std.specs.List.{range_with_len}

-- 3.1: the lane of the sheet x and the plane y, and the state that has f x y there
abbrev pub lane : List ℕ → ℕ → ℕ → ℕ
lane a x y = slice_index a (5 * y + x)

abbrev pub lanes : (ℕ → ℕ → ℕ) → List ℕ
lanes f = map (λ i. f (i % 5) (i / 5)) (range_with_len 0 25)

-- a lane turned by n places towards its high end
abbrev pub rotl : ℕ → ℕ → ℕ
rotl n x = bit_or (x * 2 ^ (n % 64) % 2 ^ 64) (x / 2 ^ ((64 - n % 64) % 64))

-- 3.2.1: the parities of the columns of the sheet x
abbrev pub column : List ℕ → ℕ → ℕ
column a x = bit_xor (bit_xor (bit_xor (bit_xor (lane a x 0) (lane a x 1)) (lane a x 2)) (lane a x 3)) (lane a x 4)

-- what the parities c add to the lanes of the sheet x
abbrev pub effect_at : List ℕ → ℕ → ℕ
effect_at c x = bit_xor (slice_index c ((x + 4) % 5)) (rotl 1 (slice_index c ((x + 1) % 5)))

unfoldable pub θ : List ℕ → List ℕ
θ a = lanes (λ x y. bit_xor (lane a x y) (effect_at (map (column a) (range_with_len 0 5)) x))

-- 3.2.2: the offsets, Table 2, by 5 * y + x
abbrev pub offsets : List ℕ
offsets = 0 ∷ 1 ∷ 62 ∷ 28 ∷ 27 ∷ 36 ∷ 44 ∷ 6 ∷ 55 ∷ 20 ∷ 3 ∷ 10 ∷ 43 ∷ 25 ∷ 39 ∷ 41 ∷ 45 ∷ 15 ∷ 21 ∷ 8 ∷ 18 ∷ 2 ∷ 61 ∷ 56 ∷ 14 ∷ []

unfoldable pub ρ : List ℕ → List ℕ
ρ a = lanes (λ x y. rotl (slice_index offsets (5 * y + x)) (lane a x y))

-- 3.2.3
unfoldable pub π : List ℕ → List ℕ
π a = lanes (λ x y. lane a ((x + 3 * y) % 5) x)

-- 3.2.4
unfoldable pub χ : List ℕ → List ℕ
χ a = lanes (λ x y. bit_xor (lane a x y) (bit_and (2 ^ 64 - 1 - lane a ((x + 1) % 5) y) (lane a ((x + 2) % 5) y)))

-- 3.2.5: the round constants, as lanes
abbrev pub rc : List ℕ
rc =
    0x0000_0000_0000_0001 ∷ 0x0000_0000_0000_8082 ∷ 0x8000_0000_0000_808a ∷ 0x8000_0000_8000_8000 ∷
    0x0000_0000_0000_808b ∷ 0x0000_0000_8000_0001 ∷ 0x8000_0000_8000_8081 ∷ 0x8000_0000_0000_8009 ∷
    0x0000_0000_0000_008a ∷ 0x0000_0000_0000_0088 ∷ 0x0000_0000_8000_8009 ∷ 0x0000_0000_8000_000a ∷
    0x0000_0000_8000_808b ∷ 0x8000_0000_0000_008b ∷ 0x8000_0000_0000_8089 ∷ 0x8000_0000_0000_8003 ∷
    0x8000_0000_0000_8002 ∷ 0x8000_0000_0000_0080 ∷ 0x0000_0000_0000_800a ∷ 0x8000_0000_8000_000a ∷
    0x8000_0000_8000_8081 ∷ 0x8000_0000_0000_8080 ∷ 0x0000_0000_8000_0001 ∷ 0x8000_0000_8000_8008 ∷ []

unfoldable pub ι : ℕ → List ℕ → List ℕ
ι t a = slice_set a 0 (bit_xor (slice_index a 0) (slice_index rc t))

-- 3.3: the first t rounds
unfoldable pub keccak : ℕ → List ℕ → List ℕ
keccak zero a = a
keccak (suc t) a = ι t (χ (π (ρ (θ (keccak t a)))))
