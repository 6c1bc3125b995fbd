use Rattle.std.proofs.Common.{arith}
use Rattle.sha2_256.proofs.Choice.{choice}
use Rattle.sha2_256.proofs.compression.choose.Goals as goal

pub returns : goal.returns
returns c = choice c.args.x c.args.y c.args.z (omega arith) (omega arith) (omega arith)
