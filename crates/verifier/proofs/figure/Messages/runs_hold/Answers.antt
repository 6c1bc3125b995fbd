use Rattle.std.proofs.Common.{ap, ◌∙◌, sym}
use Rattle.std.proofs.lemmas.Result.{err_from_is_err_and}
use Rattle.verifier.specs.Shown.{Opened, Read}
use Rattle.verifier.proofs.RunLemmas.{runs_told, second_fails, third_left}
use Rattle.verifier.proofs.figure.Messages.runs_hold.Goals as goal

pub returns-in_err-gives_shares-2 : goal.returns-in_err-gives_shares-2
returns-in_err-gives_shares-2 g c =
    let v = c.self.view_is in
    let told = runs_told g.K.ElementKind.kind c.args.self.now c.self.inside.lock.now c.branch-branch.result c.start-picked.result c.start-following.result c.run-wrong.new.self c.run-wrong.new.next c.run-wrong.result
    (ap (λ (m : Read). m.circuit) v) (c.branch-branch.ensures ∙ ap (λ (m : Read). m.answer.branch) v) c.start-picked.ensures.branch (c.start-following.ensures.branch ∙ c.after.ensures)
    (c.start-picked.ensures.view ∙ ap (λ (o : Opened). o.parts) c.picked.ensures ∙ ap (λ (m : Read). m.answer.picked.parts) v)
    (c.start-following.ensures.view ∙ ap (λ (o : Opened). o.parts) c.following.ensures ∙ ap (λ (m : Read). m.answer.following.parts) v)
    c.run-wrong.ensures.branch c.run-wrong.ensures.nextbranch c.run-wrong.ensures.first c.run-wrong.ensures.second c.run-wrong.ensures.wrong in
    let p = err_from_is_err_and c.from_residual-in_err-gives_shares-2.result c.from_residual-in_err-gives_shares-2.ensures.1 in
    rw (p.1, p.2) (sym (told ∙ second_fails _ _ _ _ (sym c.gives_shares.ensures ∙ c.in_ok-gives_shares.was) (sym c.gives_shares-2.ensures ∙ c.in_err-gives_shares-2.was)))

pub returns : goal.returns
returns g c =
    let v = c.self.view_is in
    let told = runs_told g.K.ElementKind.kind c.args.self.now c.self.inside.lock.now c.branch-branch.result c.start-picked.result c.start-following.result c.run-wrong.new.self c.run-wrong.new.next c.run-wrong.result
    (ap (λ (m : Read). m.circuit) v) (c.branch-branch.ensures ∙ ap (λ (m : Read). m.answer.branch) v) c.start-picked.ensures.branch (c.start-following.ensures.branch ∙ c.after.ensures)
    (c.start-picked.ensures.view ∙ ap (λ (o : Opened). o.parts) c.picked.ensures ∙ ap (λ (m : Read). m.answer.picked.parts) v)
    (c.start-following.ensures.view ∙ ap (λ (o : Opened). o.parts) c.following.ensures ∙ ap (λ (m : Read). m.answer.following.parts) v)
    c.run-wrong.ensures.branch c.run-wrong.ensures.nextbranch c.run-wrong.ensures.first c.run-wrong.ensures.second c.run-wrong.ensures.wrong in
    c.first_wrong.ensures ∙ sym (told ∙ third_left _ _ _ (sym c.gives_shares.ensures ∙ c.in_ok-gives_shares.was) (sym c.gives_shares-2.ensures ∙ c.in_ok-gives_shares-2.was))
