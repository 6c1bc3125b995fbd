-- One round, as the code makes it.
use Rattle.std.specs.Prelude.{◌≡◌, ℕ, ◌+◌, List, length, bit_xor, slice_index, slice_set, refl}
use Rattle.std.proofs.Common.{ap, ◌∙◌, add-one}
use Rattle.std.proofs.lemmas.List.{length-set}
use Rattle.sha3.specs.Keccak.{θ, ρ, π, χ, ι, rc, keccak}
use Rattle.sha3.specs.Digest.{length_χ}

pub keccak_more : (t : ℕ) (a : List ℕ) → keccak (t + 1) a ≡ ι t (χ (π (ρ (θ (keccak t a)))))
unfolding keccak
keccak_more t a = rw add-one refl

pub turn : (start a a' b d : List ℕ) (t : ℕ) → a ≡ keccak t start → a' ≡ θ a → b ≡ π (ρ a') → d ≡ χ b →
    (length (slice_set d 0 (bit_xor (slice_index d 0) (slice_index rc t))) ≡ 25) × (slice_set d 0 (bit_xor (slice_index d 0) (slice_index rc t)) ≡ keccak (t + 1) start)
unfolding ι
turn start a a' b d t e f g h =
    let k = keccak_more t start in
    (simp length-set (ap length h ∙ length_χ b), cc)
