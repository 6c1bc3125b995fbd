-- The choice between two words by a third, in the form that the code computes.
use Rattle.std.proofs.Common.{◌≡◌, ℕ, zero, suc, ◌+◌, ◌-◌, ◌/◌, ◌%◌, ◌^◌, ◌<◌, refl, pow-suc, arith}
use lib.Bits.{bit_and, bit_xor, and_shr, xor_shr, and_mod, xor_mod}
use Rattle.sha2_256.specs.Sha256.{ch}

-- z, changed to y where x has a bit, and where its complement u has none
abbrev Merged : ℕ → ℕ → ℕ → ℕ → Type 0
Merged x u y z = bit_xor z (bit_and x (bit_xor y z)) ≡ bit_xor (bit_and x y) (bit_and u z)

-- a digit is 0 or 1
digit : (P : ℕ → Type 0) (x : ℕ) → x < 2 → P 0 → P 1 → P x
digit P zero h p q = p
digit P (suc zero) h p q = q
digit P (suc (suc x)) h p q = absurd (omega arith)

merged_digits : (x u y z : ℕ) → x + u ≡ 1 → y < 2 → z < 2 → Merged x u y z
merged_digits x u y z e hy hz =
    let one : u ≡ 1 - x = omega arith in
    rw one
    (digit (λ (a : ℕ). Merged a (1 - a) y z) x (omega arith)
    (digit (λ (b : ℕ). Merged 0 1 b z) y hy (digit (λ (d : ℕ). Merged 0 1 0 d) z hz refl refl) (digit (λ (d : ℕ). Merged 0 1 1 d) z hz refl refl))
    (digit (λ (b : ℕ). Merged 1 0 b z) y hy (digit (λ (d : ℕ). Merged 1 0 0 d) z hz refl refl) (digit (λ (d : ℕ). Merged 1 0 1 d) z hz refl refl)))

half_and : (a b : ℕ) → bit_and a b / 2 ≡ bit_and (a / 2) (b / 2)
half_and a b = and_shr a b 1

half_xor : (a b : ℕ) → bit_xor a b / 2 ≡ bit_xor (a / 2) (b / 2)
half_xor a b = xor_shr a b 1

last_and : (a b : ℕ) → bit_and a b % 2 ≡ bit_and (a % 2) (b % 2)
last_and a b = and_mod a b 1

last_xor : (a b : ℕ) → bit_xor a b % 2 ≡ bit_xor (a % 2) (b % 2)
last_xor a b = xor_mod a b 1

by_digits : (a b : ℕ) → a / 2 ≡ b / 2 → a % 2 ≡ b % 2 → a ≡ b
by_digits a b h l = omega arith

merged : (n x u y z : ℕ) → x + u + 1 ≡ 2 ^ n → y < 2 ^ n → z < 2 ^ n → Merged x u y z
merged zero x u y z e hy hz =
    let x0 : x ≡ 0 = omega arith in
    let u0 : u ≡ 0 = omega arith in
    let y0 : y ≡ 0 = omega arith in
    let z0 : z ≡ 0 = omega arith in
    simp (x0, u0, y0, z0)
merged (suc n) x u y z e hy hz =
    let p = pow-suc 2 n in
    by_digits (bit_xor z (bit_and x (bit_xor y z))) (bit_xor (bit_and x y) (bit_and u z))
    (simp (half_and, half_xor) (merged n (x / 2) (u / 2) (y / 2) (z / 2) (omega arith) (omega arith) (omega arith)))
    (simp (last_and, last_xor) (merged_digits (x % 2) (u % 2) (y % 2) (z % 2) (omega arith) (omega arith) (omega arith)))

pub choice : (x y z : ℕ) → x < 2 ^ 32 → y < 2 ^ 32 → z < 2 ^ 32 → bit_xor z (bit_and x (bit_xor y z)) ≡ ch x y z
choice x y z hx hy hz = merged 32 x (2 ^ 32 - 1 - x) y z (omega arith) hy hz
