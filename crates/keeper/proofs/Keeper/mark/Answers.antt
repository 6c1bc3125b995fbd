use Rattle.keeper.proofs.Tables.{marked}
use Rattle.keeper.proofs.Keeper.mark.Goals as goal

pub returns-clause-table : goal.returns-clause-table
returns-clause-table c = marked c.args.self.now.records.items c.deref_mut.result.now c.args.round c.args.state c.requires.low c.deref_mut.ensures.value
