use Rattle.std.proofs.Common.{◌≡◌, ℕ, ◌/◌, List, ◌++◌, length, refl, ap, ◌∙◌, arith}
use Rattle.std.proofs.lemmas.List.{length-append, length-drop}
use Rattle.parts.specs.Blocks.{over_blocks}
use Rattle.sha3.specs.Sha3.{absorbed, padding}
use Rattle.sha3.proofs.Padding.{length_padding, whole}
use Rattle.sha3.proofs.Sha3_256Sealer.digest.Goals as goal

pub returns : goal.returns
returns c =
    let m = c.args.message.now in
    let rest = c.absorb-rest.ensures.rest in
    let tail : List ℕ = c.absorb-rest.result.now ++ padding (length m) in
    let one : length tail / 136 ≡ 1 = rw rest (simp (length-append, length-drop, length_padding) (omega arith)) in
    whole m tail _ _ _ (length m / 136) refl c.absorb-rest.ensures.state (ap (λ (x : List ℕ). x ++ padding (length m)) rest)
    (c.finish.ensures ∙ ap (λ (n : ℕ). over_blocks absorbed 136 c.absorb-rest.new.self.lanes n tail) one) c.write_words.ensures
