-- The law of the digest's bytes: 32 of them, each below 256.
use Rattle.std.specs.Prelude.{◌≡◌, ℕ, zero, suc, ◌/◌, ◌<◌, List, length, take, replicate, refl}
use Rattle.std.proofs.Common.{arith}
use Rattle.std.specs.List.{AllByRecursion}
use Rattle.std.proofs.lemmas.List.{length-take-le, length-set}
use Rattle.parts.specs.Words.{le64}
use Rattle.parts.specs.Blocks.{over_blocks}
use Rattle.parts.proofs.Written.{length_joined, all_joined}
use Rattle.sha3.specs.Sha3.{absorbed, padded, sha3_256_of}
use Rattle.sha3.specs.Keccak.{θ, ρ, π, χ, ι, keccak}

pub length_χ : (a : List ℕ) → length (χ a) ≡ 25
unfolding χ
length_χ a = refl

pub length_keccak : (t : ℕ) (a : List ℕ) → length (keccak (suc t) a) ≡ 25
unfolding keccak ι
length_keccak t a = simp length-set (length_χ (π (ρ (θ (keccak t a)))))

-- 25 lanes after any number of blocks
length_after : (n : ℕ) (p : List ℕ) → length (over_blocks absorbed 136 (replicate 25 0) n p) ≡ 25
unfolding over_blocks absorbed
length_after zero p = refl
length_after (suc n) p = length_keccak 23 _

pub length_digest : (m : List ℕ) → length (sha3_256_of m) ≡ 32
unfolding sha3_256_of
length_digest m =
    let s : List ℕ = over_blocks absorbed 136 (replicate 25 0) (length (padded m) / 136) (padded m) in
    let b = length_after (length (padded m) / 136) (padded m) in
    let a = length_joined le64 8 (λ x. refl) (take 4 s) in
    let d = length-take-le 4 s (omega arith) in
    omega arith

pub digest_bytes : (m : List ℕ) → AllByRecursion (λ b. b < 256) (sha3_256_of m)
unfolding sha3_256_of
digest_bytes m =
    all_joined (λ b. b < 256) le64
    (λ x. (omega arith, (omega arith, (omega arith, (omega arith, (omega arith, (omega arith, (omega arith, (omega arith, tt))))))))) _
