use Rattle.std.proofs.Common.{◌≡◌, refl, arith}
use Rattle.sha3.specs.Keccak.{keccak}
use Rattle.sha3.proofs.Rounds.{turn}
use Rattle.sha3.proofs.keccak.permute.Goals as goal

pub loop-constant-init : goal.loop-constant-init
unfolding keccak
loop-constant-init c = (c.told-a, refl)

pub loop-constant-preserved : goal.loop-constant-preserved
loop-constant-preserved c =
    turn c.args.a.now c.loop-constant.a c.theta.result c.rho_pi.result c.chi.result c.loop-constant.constant-index
    c.loop-constant.invariant.1 c.theta.ensures c.rho_pi.ensures c.chi.ensures

pub returns : goal.returns
returns c = let e : c.loop-constant.constant-index ≡ 24 = omega arith in cc
