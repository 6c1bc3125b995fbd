-- The tables of the two hashes, by the rules that define them.
use Rattle.std.specs.Prelude.{ℕ, zero, suc, ◌+◌, ◌-◌, ◌*◌, ◌/◌, ◌%◌, ◌^◌, cond, List, [], ◌∷◌, map, take, replicate, sum, bit_xor, nat_le, slice_index, slice_set}
use Rattle.std.specs.List.{range_with_len}

-- FIPS 202, 3.2.2: from (x, y) = (1, 0) on, t = 0 .. 23: the offset (t + 1)(t + 2) / 2 at (x, y), and then (y, 2x + 3y)
abbrev pub walk : ℕ → ℕ → ℕ → ℕ → List ℕ → List ℕ
walk zero t x y r = r
walk (suc n) t x y r = walk n (t + 1) y ((2 * x + 3 * y) % 5) (slice_set r (5 * y + x) ((t + 1) * (t + 2) / 2 % 64))

abbrev pub walked : List ℕ
walked = walk 24 0 1 0 (replicate 25 0)

-- FIPS 202, 3.2.5, Algorithm 5: the register R of eight bits, and the bit rc t
abbrev pub shift : List ℕ → List ℕ
shift r =
    slice_index r 7 ∷ slice_index r 0 ∷ slice_index r 1 ∷ slice_index r 2 ∷ bit_xor (slice_index r 3) (slice_index r 7) ∷ bit_xor (slice_index r 4) (slice_index r 7) ∷
    bit_xor (slice_index r 5) (slice_index r 7) ∷ slice_index r 6 ∷ []

abbrev pub register : ℕ → List ℕ
register zero = 1 ∷ 0 ∷ 0 ∷ 0 ∷ 0 ∷ 0 ∷ 0 ∷ 0 ∷ []
register (suc t) = shift (register t)

abbrev pub bit : ℕ → ℕ
bit t = slice_index (register (t % 255)) 0

-- FIPS 202, 3.2.5, Algorithm 6, steps 2 and 3: bit j + 7 i at place 2 ^ j - 1
abbrev pub constant : ℕ → ℕ
constant i = sum (map (λ j. bit (j + 7 * i) * 2 ^ (2 ^ j - 1)) (range_with_len 0 7))

abbrev pub constants : List ℕ
constants = map constant (range_with_len 0 24)

-- FIPS 180-4, 4.2.2 and 5.3.3: the first 64 primes
abbrev pub primes : List ℕ
primes =
    2 ∷ 3 ∷ 5 ∷ 7 ∷ 11 ∷ 13 ∷ 17 ∷ 19 ∷ 23 ∷ 29 ∷ 31 ∷ 37 ∷ 41 ∷ 43 ∷ 47 ∷ 53 ∷
    59 ∷ 61 ∷ 67 ∷ 71 ∷ 73 ∷ 79 ∷ 83 ∷ 89 ∷ 97 ∷ 101 ∷ 103 ∷ 107 ∷ 109 ∷ 113 ∷ 127 ∷ 131 ∷
    137 ∷ 139 ∷ 149 ∷ 151 ∷ 157 ∷ 163 ∷ 167 ∷ 173 ∷ 179 ∷ 181 ∷ 191 ∷ 193 ∷ 197 ∷ 199 ∷ 211 ∷ 223 ∷
    227 ∷ 229 ∷ 233 ∷ 239 ∷ 241 ∷ 251 ∷ 257 ∷ 263 ∷ 269 ∷ 271 ∷ 277 ∷ 281 ∷ 283 ∷ 293 ∷ 307 ∷ 311 ∷ []

-- the greatest c with c ^ e ≤ x, bit by bit: c has the bits from b on
abbrev pub root : ℕ → ℕ → ℕ → ℕ → ℕ
root zero e x c = c
root (suc b) e x c = root b e x (cond (nat_le ((c + 2 ^ b) ^ e) x) (c + 2 ^ b) c)

-- the first 32 bits of the fraction of the e-th root of p
abbrev pub fraction : ℕ → ℕ → ℕ
fraction e p = root 35 e (p * 2 ^ (32 * e)) 0 % 2 ^ 32

abbrev pub cube_roots : List ℕ
cube_roots = map (fraction 3) primes

abbrev pub square_roots : List ℕ
square_roots = map (fraction 2) (take 8 primes)
