use Rattle.std.proofs.Common.{◌≡◌, ◌*◌, vec_len}
use Rattle.samples.proofs.worked.tape.Given as goal

abbrev pub invariant-loop-blind : goal.invariant-loop-blind
invariant-loop-blind l = vec_len l.bytes ≡ 32 * l.blind-index
