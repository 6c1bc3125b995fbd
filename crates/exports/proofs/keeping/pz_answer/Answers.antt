use Rattle.std.proofs.Common.{rules}
use Rattle.exports.specs.Keeping.{buffer_in}
use Rattle.exports.proofs.keeping.pz_answer.Goals as goal

pub returns-clause-shown : goal.returns-clause-shown
unfolding buffer_in
returns-clause-shown c = search rules
