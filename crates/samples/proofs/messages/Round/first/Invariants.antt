use Rattle.std.proofs.Common.{◌≡◌, ◌+◌, ◌*◌, vec_len}
use Rattle.samples.proofs.messages.Round.first.Given as goal

abbrev pub invariant-loop-branch : goal.invariant-loop-branch
invariant-loop-branch g l = vec_len l.bytes ≡ 14 + l.branch-index * g.S.Sealer.sealing.size
