use Rattle.std.proofs.Common.{◌≡◌, ℕ, ◌<◌, ◌≤◌, get_or}
use Rattle.sha3.proofs.Shapes.{added_at}
use Rattle.sha3.proofs.mix_in.Given as goal

abbrev pub invariant-loop-i : goal.invariant-loop-i
invariant-loop-i l =
    record {
      done : (k : ℕ) → k < l.i → get_or l.lane-items k 0 ≡ added_at l.fn.a l.block k;
      left : (k : ℕ) → l.i ≤ k → get_or l.lane-items k 0 ≡ get_or l.initial.lane-items k 0;
    }
