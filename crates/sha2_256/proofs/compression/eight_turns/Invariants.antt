use Rattle.std.proofs.Common.{◌≡◌, take}
use Rattle.sha2_256.specs.Keyed.{keyed_rounds}
use Rattle.sha2_256.proofs.compression.eight_turns.Given as goal

abbrev pub invariant-loop-keyed : goal.invariant-loop-keyed
invariant-loop-keyed l = l.s ≡ keyed_rounds l.initial.s (take l.keyed-index l.keyed-items)
