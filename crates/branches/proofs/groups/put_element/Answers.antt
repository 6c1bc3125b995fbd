use Rattle.std.proofs.Common.{◌≡◌, ℕ, drop, ap, ◌∙◌, arith}
use Rattle.kinds.specs.Groups.{group_length}
use Rattle.theory.specs.Groups.{group, element_at}
use Rattle.branches.specs.Rows.{put_row}
use Rattle.branches.proofs.GroupLemmas.{element_below, group_set, group_behind}
use Rattle.branches.proofs.groups.put_element.Goals as goal

pub element_at-requires : goal.element_at-requires
element_at-requires g c = omega (arith, element_below g.K.ElementKind.kind c.args.n c.args.i c.requires.below, c.requires.within)

pub write_row-requires : goal.write_row-requires
write_row-requires g c = omega (arith, c.element_at.ensures, element_below g.K.ElementKind.kind c.args.n c.args.i c.requires.below, c.requires.within)

pub returns : goal.returns
returns g c =
    let kind = g.K.ElementKind.kind in
    let row = g.K.ElementKind.row c.args.x in
    let bs = c.args.bytes.now in
    let sized = g.met.K.ElementKind.laws.sized row (g.met.K.ElementKind.lawful c.args.x) in
    let is : c.write_row.new.bytes ≡ put_row g.K.ElementKind.kind.width (element_at g.K.ElementKind.kind c.args.i) (g.K.ElementKind.row c.args.x) c.args.bytes.now = c.write_row.ensures ∙ ap (λ (at : ℕ). put_row kind.width at row bs) c.element_at.ensures in
    record {
      put = ap (group kind c.args.n) is ∙ group_set kind c.args.n c.args.i row bs c.requires.below c.requires.within sized;
      behind = ap (drop (group_length kind c.args.n)) is ∙ group_behind kind c.args.n c.args.i row bs c.requires.below c.requires.within sized;
    }
