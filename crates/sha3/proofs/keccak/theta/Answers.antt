use Rattle.std.proofs.Common.{ℕ, ◌/◌, ◌%◌, List, map, get_or, ap, ◌∙◌, rules}
use lib.Bits.{bit_xor}
use Rattle.std.specs.List.{range_with_len}
use Rattle.parts.proofs.Made.{made_all}
use Rattle.sha3.specs.Keccak.{effect_at, lanes, lane, θ}
use Rattle.sha3.proofs.keccak.theta.Goals as goal

pub returns : goal.returns
unfolding θ
returns c =
    let a = c.args.a.now in
    made_all _ (λ i. bit_xor (lane a (i % 5) (i / 5)) (get_or c.effects-d.result (get_or (map (λ j. j % 5) (range_with_len 0 25)) i 0) 0)) _ c.from_fn.result 25 (λ k r q h e. search rules)
    c.from_fn.ensures.items
    ∙ ap (λ (d : List ℕ). lanes (λ x y. bit_xor (lane a x y) (get_or d x 0)))
    (c.effects-d.ensures ∙ ap (λ (w : List ℕ). map (effect_at w) (range_with_len 0 5)) c.columns.ensures)
