use Rattle.std.proofs.Common.{◌∙◌}
use Rattle.exports.proofs.Tables.{none_held, held}
use Rattle.exports.proofs.told.KeeperState.table.Goals as goal

pub returns-then-promised-rounds_in : goal.returns-then-promised-rounds_in
returns-then-promised-rounds_in c = none_held c.args.self.now c.args.bytes c.rounds_in.result c.rounds_in.ensures.value c.if-promised-rounds_in.true

pub returns : goal.returns
returns c = c.read_records.ensures ∙ held c.args.self.now c.args.bytes c.rounds_in.result c.rounds_in.ensures.value c.if-promised-rounds_in.false
