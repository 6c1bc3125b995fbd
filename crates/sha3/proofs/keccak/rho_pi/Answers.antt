use Rattle.std.proofs.Common.{rules, lit<}
use Rattle.parts.proofs.Made.{made_all, serves_below}
use Rattle.sha3.specs.Keccak.{ρ, π}
use Rattle.sha3.proofs.Shapes.{source_below, turned_at}
use Rattle.sha3.proofs.keccak.rho_pi.Goals as goal

pub from_fn-requires : goal.from_fn-requires
from_fn-requires c = (lit< tt, serves_below 25 _ (λ k q p r. search rules) (λ k h. let b = source_below k h in search rules))

pub returns : goal.returns
unfolding ρ π
returns c = made_all _ (turned_at c.args.a.now) _ c.from_fn.result 25 (λ k r q h e. search rules) c.from_fn.ensures.items
