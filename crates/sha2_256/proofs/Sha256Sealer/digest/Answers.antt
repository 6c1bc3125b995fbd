use Rattle.std.proofs.Common.{◌≡◌, ℕ, ◌+◌, ◌-◌, ◌*◌, ◌/◌, List, ◌++◌, length, take, refl, ap, ◌∙◌, arith}
use Rattle.std.proofs.lemmas.List.{length-append, length-drop, take_all}
use Rattle.sha2_256.specs.Sha256.{zeros, padding}
use Rattle.sha2_256.proofs.Padding.{length_padding}
use Rattle.sha2_256.proofs.Whole.{whole}
use Rattle.sha2_256.proofs.Sha256Sealer.digest.Goals as goal

pub returns : goal.returns
returns c =
    let m = c.args.message.now in
    let rest = c.absorb-rest.ensures.rest in
    let tail : List ℕ = c.absorb-rest.result.now ++ padding (length m) in
    let n : ℕ = length tail / 64 in
    let size : length tail ≡ length m - 64 * (length m / 64) + (9 + zeros (length m)) = rw rest (simp (length-append, length-drop, length_padding) refl) in
    let all : take (64 * n) tail ≡ tail = take_all (64 * n) tail (omega arith) in
    whole m tail _ _ _ (length m / 64) n refl (omega arith) c.absorb-rest.ensures.state
    (all ∙ ap (λ (x : List ℕ). x ++ padding (length m)) rest) c.finish.ensures c.write_words.ensures
