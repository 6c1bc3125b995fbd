use Rattle.std.proofs.Common.{ap, ◌∙◌}
use Rattle.sha3.specs.Keccak.{keccak}
use Rattle.sha3.specs.Sha3.{absorbed}
use Rattle.sha3.proofs.SpongeBlockState.take_in.Goals as goal

pub returns : goal.returns
unfolding absorbed
returns c = c.permute.ensures ∙ ap (keccak 24) c.mix_in.ensures
