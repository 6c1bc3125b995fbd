use Rattle.std.proofs.Common.{get_or, rules}
use Rattle.parts.proofs.Made.{made_all}
use Rattle.sha2_256.specs.Sha256.{◌⊞◌, k}
use Rattle.sha2_256.proofs.compression.add_constants.Goals as goal

pub returns : goal.returns
returns c =
    made_all _ (λ t. get_or k t 0 ⊞ get_or c.args.w.now t 0) _ c.from_fn.result 64 (λ t r q h e. search rules) c.from_fn.ensures.items
