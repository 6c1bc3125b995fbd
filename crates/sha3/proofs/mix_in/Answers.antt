use Rattle.std.proofs.Common.{◌≡◌, get_or, ◌∙◌, arith}
use lib.Bits.{bit_xor}
use Rattle.std.proofs.lemmas.List.{get_or-take, get_or-set_other}
use Rattle.std.proofs.lemmas.List.Edits.{fill_by_more}
use Rattle.sha3.specs.Sha3.{xored}
use Rattle.sha3.proofs.Shapes.{added_at}
use Rattle.sha3.proofs.Padding.{mixed}
use Rattle.sha3.proofs.mix_in.Goals as goal

pub loop-i-preserved : goal.loop-i-preserved
loop-i-preserved c =
    let a = c.args.a.now in
    let p = c.args.block.now in
    let l = c.loop-i in
    let e = l.invariant.left l.i (omega arith) ∙ get_or-take 17 a l.i 0 (omega arith) in
    let v : bit_xor (get_or l.lane-items l.i 0) c.read.result ≡ added_at a p l.i = cc in
    record {
      done = rw v (fill_by_more (added_at a p) l.lane-items l.i 0 (omega arith) l.invariant.done);
      left = λ k h. get_or-set_other l.lane-items l.i k _ 0 (omega arith) ∙ l.invariant.left k (omega arith);
    }

pub returns : goal.returns
unfolding xored
returns c = mixed c.args.a.now c.args.block.now c.loop-i.lane-items c.told-a c.requires (cc) (λ k h. c.loop-i.invariant.done k (omega arith))
