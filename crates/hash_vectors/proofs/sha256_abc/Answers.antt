use Rattle.std.proofs.Common.{◌≡◌, refl, ◌∙◌}
use Rattle.parts.specs.Blocks.{over_blocks}
use Rattle.sha2_256.specs.Sha256.{padding, padded, schedule, rounds, compressed, sha256_of}
use Rattle.hash_vectors.specs.Published.{abc, abc_sha256}
use Rattle.hash_vectors.proofs.sha256_abc.Goals as goal

published : sha256_of abc ≡ abc_sha256
unfolding padding padded schedule rounds compressed over_blocks sha256_of
published = refl

pub returns : goal.returns
returns c = record { answer = c.seal.ensures.left ∙ published; definition = published; rounds = refl; start = refl }
