use Rattle.std.proofs.Common.{◌≡◌, ◌*◌, ◌≤◌, length, drop}
use Rattle.std.specs.Slice.Iter.{chunks_exact_rest, chunks_exact_size}
use Rattle.sha2_256.specs.Sha256.{rounds}
use Rattle.sha2_256.proofs.compression.mix.Given as goal

abbrev pub invariant-loop-eight : goal.invariant-loop-eight
invariant-loop-eight l =
    let n = length l.yielded in
    record {
      turned : l.turned ≡ rounds (8 * n) l.w l.s;
      left : chunks_exact_rest l.eight-iterator ≡ drop (8 * n) (chunks_exact_rest l.initial.eight-iterator);
      size : chunks_exact_size l.eight-iterator ≡ 8;
      within : 8 * n ≤ 64;
    }
