use Rattle.std.proofs.Common.{Ok, ap, ◌∙◌, sym}
use Rattle.std.proofs.lemmas.Result.{err_from_is_err_and}
use Rattle.faults.specs.Outcomes.{map_ok}
use Rattle.verifier.specs.Shown.{answer_in}
use Rattle.verifier.proofs.ReadLemmas.{passed, fits, messages_told}
use Rattle.verifier.proofs.messages.messages_right.Goals as goal

pub invariant_of-messages : goal.invariant_of-messages
invariant_of-messages g c =
    fits g.K.ElementKind.kind c.args.lock.now g.S.Sealer.sealing c.args.first.now c.args.branch c.args.answer.now c.in_ok-first.first c.in_ok-answer.answer _ _
    c.requires.sealable c.requires.firstsized c.requires.answersized c.in_ok-first.ensures c.in_ok-answer.ensures

pub returns-in_err-figure_holds : goal.returns-in_err-figure_holds
returns-in_err-figure_holds g c =
    let told = messages_told g.K.ElementKind.kind c.args.lock.now g.S.Sealer.sealing c.args.first.now c.args.branch c.args.answer.now c.in_ok-first.first c.in_ok-answer.answer c.figure_holds.result
    c.in_ok-first.ensures c.in_ok-answer.ensures c.figure_holds.ensures in
    let p = err_from_is_err_and c.from_residual-in_err-figure_holds.result c.from_residual-in_err-figure_holds.ensures.1 in
    rw (p.1, p.2) (sym (ap (map_ok (λ _. answer_in g.K.ElementKind.kind c.args.lock.now c.args.branch c.args.answer.now)) (told ∙ c.in_err-figure_holds.was)))

pub returns : goal.returns
returns g c =
    let told = messages_told g.K.ElementKind.kind c.args.lock.now g.S.Sealer.sealing c.args.first.now c.args.branch c.args.answer.now c.in_ok-first.first c.in_ok-answer.answer c.figure_holds.result
    c.in_ok-first.ensures c.in_ok-answer.ensures c.figure_holds.ensures in
    ap Ok (passed _ _ _ c.in_ok-answer.ensures).1 ∙ ap (map_ok (λ _. answer_in g.K.ElementKind.kind c.args.lock.now c.args.branch c.args.answer.now)) (sym (told ∙ c.in_ok-figure_holds.was))
