use Rattle.std.proofs.Common.{refl}
use Rattle.sha3.specs.Keccak.{χ}
use Rattle.sha3.proofs.keccak.chi.Goals as goal

pub returns : goal.returns
unfolding χ
returns c = refl
