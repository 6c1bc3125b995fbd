use Rattle.std.proofs.Common.{ℕ, ◌/◌, List, length, ap, ◌∙◌}
use Rattle.parts.specs.Blocks.{over_blocks}
use Rattle.sha2_256.specs.Sha256.{compressed}
use Rattle.sha2_256.proofs.Padding.{padded_tail}
use Rattle.sha2_256.proofs.compression.HashValue.finish.Goals as goal

pub returns : goal.returns
returns c =
    c.absorb.ensures.state
    ∙ ap (λ (t : List ℕ). over_blocks compressed 64 c.args.self.now.words (length t / 64) t)
    (padded_tail c.args.rest.now c.put.new.dst c.put-2.new.dst _ c.args.total c.requires.last c.put.ensures c.put-2.ensures (cc))
