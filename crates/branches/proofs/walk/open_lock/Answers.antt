use Rattle.branches.proofs.Walked.{opened}
use Rattle.branches.proofs.walk.open_lock.Goals as goal

pub returns : goal.returns
returns g c =
    let o = opened g.K.ElementKind.kind c.args.bytes.now c.read_lock.result c.read_lock.ensures.outcome c.read_lock.ensures.exact c.read_lock.ensures.walk in
    record { outcome = o.outcome; stands = o.stands_then }
