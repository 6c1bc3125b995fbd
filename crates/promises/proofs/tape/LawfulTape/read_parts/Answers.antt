use Rattle.std.proofs.Common.{rules, sym, ◌∙◌}
use Rattle.std.proofs.lemmas.Result.{err_from_is_err_and}
use Rattle.promises.proofs.Reading.{passed, read_there, last_fails}
use Rattle.promises.proofs.tape.LawfulTape.read_parts.Goals as goal

pub returns-in_err-read_part : goal.returns-in_err-read_part
returns-in_err-read_part g c = search rules

pub returns-in_err-read_part-2 : goal.returns-in_err-read_part-2
returns-in_err-read_part-2 g c = search rules

pub returns-in_err-read_part-3 : goal.returns-in_err-read_part-3
returns-in_err-read_part-3 g c = search rules

pub returns-in_err-read_part-4 : goal.returns-in_err-read_part-4
returns-in_err-read_part-4 g c = search rules

pub returns-in_err-read_part-5 : goal.returns-in_err-read_part-5
returns-in_err-read_part-5 g c =
    let K = g.K.ElementKind.kind in
    let n = c.input_count-inputs.ensures.count in
    let m = c.product_count-products.ensures.count in
    let p = err_from_is_err_and c.from_residual-in_err-read_part-5.result c.from_residual-in_err-read_part-5.ensures.1 in
    rw (p.1, p.2)
    (last_fails _ _ _ _ _ _ _ _
    (passed c.in_ok-read_part.field-0 _ _ (sym c.in_ok-read_part.was ∙ read_there K _ n c.shares_at.ensures c.read_part.ensures)).0
    (passed c.in_ok-read_part-2.field-0 _ _ (sym c.in_ok-read_part-2.was ∙ read_there K _ n c.shares_at-2.ensures c.read_part-2.ensures)).0
    (passed c.in_ok-read_part-3.field-0 _ _ (sym c.in_ok-read_part-3.was ∙ read_there K _ m c.masks_at.ensures c.read_part-3.ensures)).0
    (passed c.in_ok-read_part-4.field-0 _ _ (sym c.in_ok-read_part-4.was ∙ read_there K _ m c.masks_at-2.ensures c.read_part-4.ensures)).0
    (sym c.in_err-read_part-5.was ∙ read_there K _ m c.masks_at-3.ensures c.read_part-5.ensures))

pub returns : goal.returns
returns g c = search rules
