use Rattle.std.proofs.Common.{◌++◌, sym, ◌∙◌}
use Rattle.faults.specs.declared.Branch.TheVariants.{One as one, Two as two, Three as three}
use Rattle.promises.specs.Drawn.{view_on, outs_on, third_of}
use Rattle.promises.proofs.Rounds.{third_is, first_written}
use Rattle.promises.proofs.round.write_round.Goals as goal

pub returns-clause-first : goal.returns-clause-first
returns-clause-first g c =
    let K = g.K.ElementKind.kind in
    let l = c.args.lock.now in
    let key = c.args.key.now in
    let t = c.args.tape.now in
    let seal = g.S.Sealer.sealing.seal in
    let each = c.write_views.ensures.each in
    let w = c.write_views.ensures in
    let is = third_is c.view_length.result (view_on K l key t one) (view_on K l key t two) (view_on K l key t three) (each one ∙ sym c.view_length.ensures.length) (each two ∙ sym c.view_length.ensures.length) in
    let L = c.view_length.result in
    first_written c.copy_from_slice.new.self c.write_views.new.outs c.write_seals.new.seals (outs_on K l key t one) (outs_on K l key t two) (outs_on K l key t three) _
    c.copy_from_slice.ensures.after w.outs
    (c.write_seals.ensures
    ∙ (λ x. seal (third_of L (w.views x) one) ++ (seal (third_of L (w.views x) two) ++ seal (third_of L (w.views x) three)))
    ∙ (λ x. seal (is.0 x) ++ (seal (is.1 x) ++ seal (is.2 x))))
