use Rattle.std.proofs.Common.{replicate, refl}
use Rattle.exports.proofs.Held.{made_is}
use Rattle.exports.proofs.keeping.pz_keeper_new.Goals as goal

pub returns : goal.returns
returns c = record { state = refl; made = λ store. made_is c.args.view_length (replicate 64 0) store }
