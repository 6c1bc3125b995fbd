use Rattle.std.proofs.Common.{ℕ, ◌/◌, List, length, ap, ◌∙◌}
use Rattle.parts.specs.Blocks.{over_blocks}
use Rattle.sha3.specs.Sha3.{absorbed}
use Rattle.sha3.proofs.Padding.{padded_tail}
use Rattle.sha3.proofs.Sponge.finish.Goals as goal

pub returns : goal.returns
returns c =
    c.absorb.ensures.state
    ∙ ap (λ (t : List ℕ). over_blocks absorbed 136 c.args.self.now.lanes (length t / 136) t)
    (padded_tail c.args.rest.now c.put.new.dst c.args.total c.requires c.put.ensures)
