use Rattle.std.proofs.Common.{◌≡◌, ◌*◌, ◌≤◌, length, drop}
use Rattle.std.specs.Slice.Iter.{chunks_exact_rest, chunks_exact_size}
use Rattle.parts.specs.Blocks.{over_blocks}
use Rattle.parts.proofs.states.BlockState.absorb.Given as goal

abbrev pub invariant-loop-block : goal.invariant-loop-block
invariant-loop-block g l =
    let b = g.Self.BlockState in
    let n = length l.yielded in
    record {
      state : b.words l.self ≡ over_blocks b.step b.BLOCK (b.words l.fn.self) n l.bytes;
      left : chunks_exact_rest l.block-iterator ≡ drop (b.BLOCK * n) l.bytes;
      size : chunks_exact_size l.block-iterator ≡ b.BLOCK;
      within : b.BLOCK * n ≤ length l.bytes;
    }
