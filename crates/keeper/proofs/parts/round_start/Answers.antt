use Rattle.std.proofs.Common.{refl}
use Rattle.theory.specs.Store.{round_at}
use Rattle.keeper.proofs.parts.round_start.Goals as goal

pub returns : goal.returns
unfolding round_at
returns c = refl
