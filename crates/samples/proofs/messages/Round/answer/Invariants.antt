use Rattle.std.proofs.Common.{◌≡◌, ◌+◌, ◌*◌, vec_len}
use Rattle.samples.proofs.messages.Round.answer.Given as goal

abbrev pub invariant-loop-branch : goal.invariant-loop-branch
invariant-loop-branch l = vec_len l.bytes ≡ 3 + 48 * l.branch-index
