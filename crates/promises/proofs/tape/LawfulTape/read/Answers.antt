use Rattle.std.proofs.Common.{ap, ◌∙◌}
use Rattle.faults.specs.Outcomes.{map_ok}
use Rattle.theory.specs.Keeper.{tape_right}
use Rattle.promises.specs.Drawn.{Drawn}
use Rattle.promises.proofs.Cuts.{cut_sized, cut_drawn}
use Rattle.promises.proofs.tape.LawfulTape.read.Goals as goal

pub read_parts-requires : goal.read_parts-requires
read_parts-requires g c = cut_sized g.K.ElementKind.kind c.args.lock.now c.args.bytes.now c.cut.result c.cut.ensures c.requires

pub returns : goal.returns
returns g c =
    let K = g.K.ElementKind.kind in
    let l = c.args.lock.now in
    c.read_parts.ensures ∙ ap (λ (t : Drawn). map_ok (λ _. t) (tape_right K l t.parts)) (cut_drawn K l c.args.bytes.now c.cut.result c.cut.ensures)
