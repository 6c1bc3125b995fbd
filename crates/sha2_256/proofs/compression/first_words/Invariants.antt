use Rattle.std.proofs.Common.{◌≡◌, take}
use Rattle.sha2_256.specs.Sha256.{schedule}
use Rattle.sha2_256.proofs.compression.first_words.Given as goal

abbrev pub invariant-loop-t : goal.invariant-loop-t
invariant-loop-t l = take l.t l.word-items ≡ schedule l.t l.block
