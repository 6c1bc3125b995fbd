use Rattle.std.proofs.Common.{sym, ap}
use Rattle.locks.specs.Locks.{Summary}
use Rattle.branches.specs.Walks.{circuit_of}
use Rattle.branches.proofs.ViewLemmas.{answer_cut}
use Rattle.branches.proofs.views.answer_views.Goals as goal

pub returns : goal.returns
returns g c =
    let kind = g.K.ElementKind.kind in
    let a = answer_cut kind (circuit_of kind c.args.lock) c.args.answer.now c.args.lock.products c.view_length-end.result
    (sym (ap (λ (s : Summary). s.products) c.requires.stands.summed)) c.view_length-end.ensures c.requires.sized in
    record { picked = a.picked; following = a.following; sizes = (a.picked_size, a.following_size) }
