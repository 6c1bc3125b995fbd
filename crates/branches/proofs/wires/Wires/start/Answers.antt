use Rattle.branches.proofs.FilledLemmas.{copied_rows, copied_fills, copied_fit}
use Rattle.branches.proofs.wires.Wires.start.Goals as goal

pub invariant_of-result : goal.invariant_of-result
invariant_of-result g c =
    let kind = g.K.ElementKind.kind in
    let laws = g.met.K.ElementKind.laws in
    let bytes = c.bytes-bytes.result.now in
    let fit = copied_fit kind laws c.args.shares.now c.len.result c.args.most c.args.work.now bytes c.copy_from_slice.new.self c.len.ensures.lawful c.len.ensures.count
    c.bytes-bytes.ensures.bytes c.copy_from_slice.ensures.after c.requires.few c.requires.room c.bytes-bytes.ensures.sized in
    copied_fills kind laws c.args.shares.now c.len.result c.args.most c.args.work.now bytes c.copy_from_slice.new.self c.len.ensures.lawful c.len.ensures.count
    c.bytes-bytes.ensures.bytes c.copy_from_slice.ensures.after c.requires.few c.requires.room fit

pub returns-clause-rows : goal.returns-clause-rows
returns-clause-rows g c =
    copied_rows g.K.ElementKind.kind g.met.K.ElementKind.laws c.args.shares.now c.len.result c.args.most c.args.work.now c.bytes-bytes.result.now c.copy_from_slice.new.self
    c.len.ensures.lawful c.len.ensures.count c.bytes-bytes.ensures.bytes c.copy_from_slice.ensures.after
