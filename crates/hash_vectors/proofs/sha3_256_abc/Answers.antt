use Rattle.std.proofs.Common.{◌≡◌, refl, ◌∙◌}
use Rattle.parts.specs.Blocks.{over_blocks}
use Rattle.sha3.specs.Keccak.{θ, ρ, π, χ, ι, keccak}
use Rattle.sha3.specs.Sha3.{xored, absorbed, padding, padded, sha3_256_of}
use Rattle.hash_vectors.specs.Published.{abc, abc_sha3_256}
use Rattle.hash_vectors.proofs.sha3_256_abc.Goals as goal

published : sha3_256_of abc ≡ abc_sha3_256
unfolding θ ρ π χ ι keccak xored absorbed padding padded over_blocks sha3_256_of
published = refl

pub returns : goal.returns
returns c = record { answer = c.seal.ensures.left ∙ published; definition = published; turns = refl; rounds = refl }
