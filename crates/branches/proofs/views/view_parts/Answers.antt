use Rattle.std.proofs.Common.{sym, ap, arith}
use Rattle.kinds.specs.Groups.{group_length}
use Rattle.locks.specs.Locks.{Summary}
use Rattle.branches.specs.Walks.{circuit_of}
use Rattle.branches.proofs.ViewLemmas.{cut_view, part_room}
use Rattle.branches.proofs.views.view_parts.Goals as goal

pub returns : goal.returns
returns g c =
    let kind = g.K.ElementKind.kind in
    let view = c.args.view.now in
    let k = group_length kind c.args.lock.inputs in
    let m = group_length kind c.args.lock.products in
    let places = c.view_places-masks.result in
    let more = sym (ap (λ (s : Summary). s.products) c.requires.stands.summed) in
    let e = c.view_places-masks.ensures in
    record {
      parts = cut_view kind (circuit_of kind c.args.lock) view c.args.lock.products places.masks places.products more e.masks e.products;
      shares = part_room 32 k view (omega (arith, c.requires.sized));
      masks = part_room places.masks m view (omega (arith, c.requires.sized, c.view_places-masks.ensures.masks));
      products = part_room places.products m view (omega (arith, c.requires.sized, c.view_places-masks.ensures.products, ap (group_length g.K.ElementKind.kind) (ap (λ (s : Summary). s.products) c.requires.stands.summed)));
    }
