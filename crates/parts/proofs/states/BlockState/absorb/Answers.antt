use Rattle.std.proofs.Common.{◌≡◌, length, sym, mul-zero, arith}
use Rattle.std.specs.Slice.Iter.{chunks_exact_rest}
use Rattle.std.proofs.lemmas.List.{length_push}
use Rattle.parts.proofs.Chained.{blocks_none, blocks_more, blocks_end}
use Rattle.parts.proofs.states.BlockState.absorb.Goals as goal

pub loop-block-init : goal.loop-block-init
loop-block-init g c =
    let b = g.Self.BlockState in
    record {
      state = sym (blocks_none b.step b.BLOCK (b.words c.args.self.now) c.args.bytes.now);
      left = rw mul-zero (cc);
      size = cc;
      within = rw mul-zero (omega arith);
    }

pub loop-block-preserved : goal.loop-block-preserved
loop-block-preserved g c =
    let b = g.Self.BlockState in
    let i = c.loop-block.invariant in
    let n = length c.loop-block.yielded in
    let p = length_push c.loop-block.yielded c.in-Some.block in
    let cut = c.in-Some.ensures.steps.1 in
    let long : length c.in-Some.block.now ≡ b.BLOCK = cc in
    let m =
    blocks_more b.step b.BLOCK (b.words c.args.self.now) c.args.bytes.now (b.words c.loop-block.self) (b.words c.take_in.new.self)
    c.in-Some.block.now (chunks_exact_rest c.loop-block.block-iterator) (chunks_exact_rest c.next.new.self) n i.state c.take_in.ensures i.left
    cut.0 long i.within in
    rw p record { state = m.0; left = m.1; size = cc; within = m.2 }

pub returns-clause-state : goal.returns-clause-state
returns-clause-state g c =
    let b = g.Self.BlockState in
    let i = c.loop-block.invariant in
    blocks_end b.step b.BLOCK (b.words c.args.self.now) c.args.bytes.now (b.words c.loop-block.self)
    (chunks_exact_rest c.loop-block.block-iterator) (length c.loop-block.yielded) i.state i.left
    (omega (arith, c.in-None.ensures.steps.1.0)) i.within
