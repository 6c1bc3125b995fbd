use Rattle.std.proofs.Common.{◌≡◌, ℕ, ◌+◌, ◌*◌, ◌≤◌, length, map, get_or, ap, ◌∙◌, refl, arith}
use Rattle.std.specs.List.{range_with_len}
use Rattle.std.specs.Slice.Iter.{chunks_exact_rest}
use Rattle.std.proofs.lemmas.List.{length_push, take_all}
use Rattle.parts.proofs.Chained.{chunk_more, chunks_end}
use Rattle.sha2_256.specs.Sha256.{◌⊞◌, k, rounds}
use Rattle.sha2_256.proofs.Steps.{rounds_on}
use Rattle.sha2_256.proofs.compression.mix.Goals as goal

pub loop-eight-init : goal.loop-eight-init
unfolding rounds
loop-eight-init c = record { turned = refl; left = refl; size = cc; within = omega arith }

pub loop-eight-preserved : goal.loop-eight-preserved
loop-eight-preserved c =
    let i = c.loop-eight.invariant in
    let w = c.args.w.now in
    let n = length c.loop-eight.yielded in
    let v = chunks_exact_rest c.into_iter-eight-iterator.result in
    let e : v ≡ map (λ t. get_or k t 0 ⊞ get_or w t 0) (range_with_len 0 64) = cc in
    let cut = c.in-Some.ensures.steps.1 in
    let long : length c.in-Some.eight.now ≡ 8 = cc in
    let long_v : length v ≡ 64 = ap length e in
    let m = chunk_more 8 v c.in-Some.eight.now (chunks_exact_rest c.loop-eight.eight-iterator) (chunks_exact_rest c.next.new.self) n i.left cut.0 long (rw long_v i.within) in
    let within : 8 * (n + 1) ≤ 64 = rw long_v at m.2 in
    let all = take_all 8 c.in-Some.eight.now (omega arith) in
    let r = rounds_on v w c.args.s.now e (8 * n) 8 (omega arith) in
    let next : 8 * (n + 1) ≡ 8 * n + 8 = omega arith in
    rw (length_push c.loop-eight.yielded c.in-Some.eight) record { turned = rw next (cc); left = m.1; size = cc; within = within }

pub returns : goal.returns
returns c =
    let i = c.loop-eight.invariant in
    let n = length c.loop-eight.yielded in
    let v = chunks_exact_rest c.into_iter-eight-iterator.result in
    let e : v ≡ c.add_constants.result = cc in
    let long_v : length v ≡ 64 = ap length (e ∙ c.add_constants.ensures) in
    let m = chunks_end 8 v (chunks_exact_rest c.loop-eight.eight-iterator) n i.left (omega (arith, c.in-None.ensures.steps.1.0)) (rw long_v i.within) in
    let all : 8 * n ≡ 64 = omega arith in
    i.turned ∙ ap (λ (t : ℕ). rounds t c.args.w.now c.args.s.now) all
