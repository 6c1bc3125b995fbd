-- The digest from its blocks.
use Rattle.std.specs.Prelude.{◌≡◌, ℕ, ◌+◌, ◌-◌, ◌*◌, ◌/◌, List, ◌++◌, length, take, drop}
use Rattle.std.proofs.Common.{arith}
use Rattle.std.specs.List.{flat_map}
use Rattle.std.proofs.lemmas.List.{length-append}
use Rattle.parts.specs.Words.{be32}
use Rattle.parts.specs.Blocks.{over_blocks}
use Rattle.parts.proofs.Chained.{blocks_whole}
use Rattle.sha2_256.specs.Sha256.{initial, padding, padded, compressed, sha256_of}
use Rattle.sha2_256.proofs.Padding.{length_padding}

-- s from the message's own blocks, s' from the last ones
pub whole : (m tail s s' out : List ℕ) (q n : ℕ) → q ≡ length m / 64 → n ≡ (length m - 64 * q + 72) / 64 →
    s ≡ over_blocks compressed 64 initial q m → take (64 * n) tail ≡ drop (64 * q) m ++ padding (length m) →
    s' ≡ over_blocks compressed 64 s n tail → out ≡ flat_map be32 s' → out ≡ sha256_of m
unfolding padded sha256_of
whole m tail s s' out q n eq en e t f o =
    let size : length (m ++ padding (length m)) / 64 ≡ q + n = simp (length-append, length_padding) (omega arith) in
    let w = blocks_whole compressed 64 initial m (padding (length m)) tail q n (omega arith) t in
    cc
