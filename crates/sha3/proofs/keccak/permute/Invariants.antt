use Rattle.std.proofs.Common.{◌≡◌, length}
use Rattle.sha3.specs.Keccak.{keccak}
use Rattle.sha3.proofs.keccak.permute.Given as goal

abbrev pub invariant-loop-constant : goal.invariant-loop-constant
invariant-loop-constant l = (length l.a ≡ 25) × (l.a ≡ keccak l.constant-index l.initial.a)
