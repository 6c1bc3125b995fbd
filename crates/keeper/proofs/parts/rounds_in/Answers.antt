use Rattle.std.proofs.Common.{arith}
use Rattle.keeper.proofs.Rooms.{none_for, some_for}
use Rattle.keeper.proofs.parts.rounds_in.Goals as goal

pub returns-then-view_length-lt-SHORTEST_VIEW : goal.returns-then-view_length-lt-SHORTEST_VIEW
returns-then-view_length-lt-SHORTEST_VIEW c =
    let r = none_for c.args.view_length c.args.bytes c.then-view_length-lt-SHORTEST_VIEW.either in
    record { value = r.value; few = r.few; short = r.short; room = r.room }

pub returns : goal.returns
returns c =
    let r = some_for c.args.view_length c.args.bytes c.min.result (omega arith) (omega arith) c.min.ensures in
    record { value = r.value; few = r.few; short = r.short; room = r.room }
