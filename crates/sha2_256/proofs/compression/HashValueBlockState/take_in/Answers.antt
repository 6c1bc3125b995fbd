use Rattle.std.proofs.Common.{◌≡◌, get_or, rules}
use Rattle.parts.proofs.Made.{made_all}
use Rattle.sha2_256.specs.Sha256.{◌⊞◌, sums, compressed}
use Rattle.sha2_256.proofs.compression.HashValueBlockState.take_in.Goals as goal

pub returns : goal.returns
unfolding compressed
returns c =
    let v = c.mix-v.result in
    let s = c.args.self.now.words in
    let e : c.from_fn-self.result ≡ sums v s =
    made_all _ (λ i. get_or v i 0 ⊞ get_or s i 0) _ c.from_fn-self.result 8 (λ i r q h e. search rules) c.from_fn-self.ensures.items in
    cc
