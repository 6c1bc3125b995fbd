-- The law of the digest's bytes: 32 of them, each below 256.
use Rattle.std.specs.Prelude.{◌≡◌, ℕ, zero, suc, ◌/◌, ◌<◌, List, length, refl}
use Rattle.std.proofs.Common.{arith}
use Rattle.std.specs.List.{AllByRecursion}
use Rattle.parts.specs.Words.{be32}
use Rattle.parts.specs.Blocks.{over_blocks}
use Rattle.parts.proofs.Written.{length_joined, all_joined}
use Rattle.sha2_256.specs.Sha256.{initial, padded, compressed, sha256_of}

-- eight words after any number of blocks
length_after : (n : ℕ) (p : List ℕ) → length (over_blocks compressed 64 initial n p) ≡ 8
unfolding over_blocks compressed
length_after zero p = refl
length_after (suc n) p = refl

pub length_digest : (m : List ℕ) → length (sha256_of m) ≡ 32
unfolding sha256_of
length_digest m =
    let s : List ℕ = over_blocks compressed 64 initial (length (padded m) / 64) (padded m) in
    let a = length_joined be32 4 (λ x. refl) s in
    let b = length_after (length (padded m) / 64) (padded m) in
    omega arith

pub digest_bytes : (m : List ℕ) → AllByRecursion (λ b. b < 256) (sha256_of m)
unfolding sha256_of
digest_bytes m =
    all_joined (λ b. b < 256) be32 (λ x. (omega arith, (omega arith, (omega arith, (omega arith, tt))))) _
