-- SHA-256, section by section as FIPS 180-4 defines it; bytes and words are numbers.
use Rattle.std.specs.Prelude.{ℕ, zero, suc, ◌+◌, ◌-◌, ◌*◌, ◌/◌, ◌%◌, ◌^◌, cond, List, [], ◌∷◌, ◌++◌, map, length, replicate, bit_and, bit_or, bit_xor, nat_lt, slice_index, slice_index_or}
use Rattle.std.specs.List.{range_with_len, flat_map}
use Rattle.parts.specs.Words.{be32, be64, be32_at}
use Rattle.parts.specs.Blocks.{over_blocks}
use Rattle.seals.specs.Sealing.{Sealing}

-- 3.2: rotation and shift to the right, of words of 32 bits
abbrev pub rotr : ℕ → ℕ → ℕ
rotr n x = bit_or (x / 2 ^ n) (x * 2 ^ (32 - n) % 2 ^ 32)

-- 3.2: the sum of two words
infixl 65 ◌⊞◌
abbrev pub ◌⊞◌ : ℕ → ℕ → ℕ
x ⊞ y = (x + y) % 2 ^ 32

-- 4.1.2: the six functions
abbrev pub ch : ℕ → ℕ → ℕ → ℕ
ch x y z = bit_xor (bit_and x y) (bit_and (2 ^ 32 - 1 - x) z)

abbrev pub maj : ℕ → ℕ → ℕ → ℕ
maj x y z = bit_xor (bit_xor (bit_and x y) (bit_and x z)) (bit_and y z)

abbrev pub Σ0 : ℕ → ℕ
Σ0 x = bit_xor (bit_xor (rotr 2 x) (rotr 13 x)) (rotr 22 x)

abbrev pub Σ1 : ℕ → ℕ
Σ1 x = bit_xor (bit_xor (rotr 6 x) (rotr 11 x)) (rotr 25 x)

abbrev pub σ0 : ℕ → ℕ
σ0 x = bit_xor (bit_xor (rotr 7 x) (rotr 18 x)) (x / 2 ^ 3)

abbrev pub σ1 : ℕ → ℕ
σ1 x = bit_xor (bit_xor (rotr 17 x) (rotr 19 x)) (x / 2 ^ 10)

-- 4.2.2: the constants
abbrev pub k : List ℕ
k =
    0x428a_2f98 ∷ 0x7137_4491 ∷ 0xb5c0_fbcf ∷ 0xe9b5_dba5 ∷ 0x3956_c25b ∷ 0x59f1_11f1 ∷ 0x923f_82a4 ∷ 0xab1c_5ed5 ∷
    0xd807_aa98 ∷ 0x1283_5b01 ∷ 0x2431_85be ∷ 0x550c_7dc3 ∷ 0x72be_5d74 ∷ 0x80de_b1fe ∷ 0x9bdc_06a7 ∷ 0xc19b_f174 ∷
    0xe49b_69c1 ∷ 0xefbe_4786 ∷ 0x0fc1_9dc6 ∷ 0x240c_a1cc ∷ 0x2de9_2c6f ∷ 0x4a74_84aa ∷ 0x5cb0_a9dc ∷ 0x76f9_88da ∷
    0x983e_5152 ∷ 0xa831_c66d ∷ 0xb003_27c8 ∷ 0xbf59_7fc7 ∷ 0xc6e0_0bf3 ∷ 0xd5a7_9147 ∷ 0x06ca_6351 ∷ 0x1429_2967 ∷
    0x27b7_0a85 ∷ 0x2e1b_2138 ∷ 0x4d2c_6dfc ∷ 0x5338_0d13 ∷ 0x650a_7354 ∷ 0x766a_0abb ∷ 0x81c2_c92e ∷ 0x9272_2c85 ∷
    0xa2bf_e8a1 ∷ 0xa81a_664b ∷ 0xc24b_8b70 ∷ 0xc76c_51a3 ∷ 0xd192_e819 ∷ 0xd699_0624 ∷ 0xf40e_3585 ∷ 0x106a_a070 ∷
    0x19a4_c116 ∷ 0x1e37_6c08 ∷ 0x2748_774c ∷ 0x34b0_bcb5 ∷ 0x391c_0cb3 ∷ 0x4ed8_aa4a ∷ 0x5b9c_ca4f ∷ 0x682e_6ff3 ∷
    0x748f_82ee ∷ 0x78a5_636f ∷ 0x84c8_7814 ∷ 0x8cc7_0208 ∷ 0x90be_fffa ∷ 0xa450_6ceb ∷ 0xbef9_a3f7 ∷ 0xc671_78f2 ∷ []

-- 5.2.1 and 6.2.2, step 1: the word at place t of the message schedule of the block m, from w, the words below t
abbrev pub next : ℕ → List ℕ → List ℕ → ℕ
next t m w =
    cond (nat_lt t 16) (be32_at m t)
    (((σ1 (slice_index w (t - 2)) ⊞ slice_index_or w (t - 7) 0) ⊞ σ0 (slice_index w (t - 15))) ⊞ slice_index_or w (t - 16) 0)

abbrev pub grow : ℕ → List ℕ → List ℕ → List ℕ
grow t m w = w ++ next t m w ∷ []

-- the first words of the schedule of m
unfoldable pub schedule : ℕ → List ℕ → List ℕ
schedule zero m = []
schedule (suc t) m = grow t m (schedule t m)

-- 6.2.2, step 3: a round on the eight working variables a to h, with T₁ and T₂
abbrev pub turned : ℕ → ℕ → List ℕ → List ℕ
turned t1 t2 s =
    (t1 ⊞ t2) ∷ slice_index s 0 ∷ slice_index s 1 ∷ slice_index s 2 ∷ (slice_index_or s 3 0 ⊞ t1) ∷ slice_index s 4 ∷ slice_index s 5 ∷ slice_index s 6 ∷ []

abbrev pub round : ℕ → ℕ → List ℕ → List ℕ
round kt wt s =
    turned ((((slice_index_or s 7 0 ⊞ Σ1 (slice_index s 4)) ⊞ ch (slice_index s 4) (slice_index s 5) (slice_index s 6)) ⊞ kt) ⊞ wt)
    (Σ0 (slice_index s 0) ⊞ maj (slice_index s 0) (slice_index s 1) (slice_index s 2)) s

-- the working variables after the first rounds, with the schedule w
unfoldable pub rounds : ℕ → List ℕ → List ℕ → List ℕ
rounds zero w s = s
rounds (suc t) w s = round (slice_index k t) (slice_index w t) (rounds t w s)

-- 6.2.2, step 4: word by word
abbrev pub sums : List ℕ → List ℕ → List ℕ
sums x y = map (λ i. slice_index_or x i 0 ⊞ slice_index_or y i 0) (range_with_len 0 8)

-- 6.2.2, steps 1 to 4: the hash value s after a block m
unfoldable pub compressed : List ℕ → List ℕ → List ℕ
compressed s m = sums (rounds 64 (schedule 64 m) s) s

-- 5.1.1, for a message of n bytes: the byte of the bit 1, the fewest zeros that leave 8 bytes of the last block, and there the length in bits
abbrev pub zeros : ℕ → ℕ
zeros n = (119 - n % 64) % 64

unfoldable pub padding : ℕ → List ℕ
padding n = 128 ∷ replicate (zeros n) 0 ++ be64 (8 * n)

unfoldable pub padded : List ℕ → List ℕ
padded m = m ++ padding (length m)

-- 5.3.3: the first hash value
abbrev pub initial : List ℕ
initial =
    0x6a09_e667 ∷ 0xbb67_ae85 ∷ 0x3c6e_f372 ∷ 0xa54f_f53a ∷ 0x510e_527f ∷ 0x9b05_688c ∷ 0x1f83_d9ab ∷ 0x5be0_cd19 ∷ []

-- 6.2: the digest of the message m, by the blocks of 64 bytes of the padded message
unfoldable pub sha256_of : List ℕ → List ℕ
sha256_of m = flat_map be32 (over_blocks compressed 64 initial (length (padded m) / 64) (padded m))

-- the one place where the longest message stands
abbrev pub longest_message : ℕ
longest_message = 65535

abbrev pub sha256_sealing : Sealing
sha256_sealing = record { size = 32; longest = longest_message; seal = sha256_of }
