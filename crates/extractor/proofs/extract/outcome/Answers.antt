use Rattle.std.proofs.Common.{length, None, ap, ◌∙◌, sym, rules}
use Rattle.std.proofs.lemmas.Result.{err_from_is_err_and}
use Rattle.theory.specs.Extraction.{by_branch, at_pick}
use Rattle.extractor.proofs.Ends.{taken, refused, key_stays, one_refused, two_refused, three_refused, given, key_given, alike, key_room}
use Rattle.extractor.proofs.extract.outcome.Goals as goal

pub returns-in_err-accepted : goal.returns-in_err-accepted
returns-in_err-accepted g c =
    let k = g.K.ElementKind.kind in
    let s = g.S.Sealer.sealing in
    let an = by_branch c.args.answer1.now c.args.answer2.now c.args.answer3.now in
    let read = c.in_ok-lock.ensures ∙ ap (at_pick None) c.read.ensures in
    let sized = c.in_ok-at_pick.ensures ∙ ap (at_pick None) c.sizes_right-sizes.ensures in
    let e = one_refused k s c.args.lock.now c.args.first.now an (length c.args.work1.now) (length c.args.work2.now) c.args.key.now c.in_ok-lock.lock read sized c.in_err-accepted.field-0.0 (refused _ _ _ _ c.in_err-accepted.ensures) in
    let p = err_from_is_err_and c.from_residual-in_err-accepted.result c.from_residual-in_err-accepted.ensures.1 in
    record { outcome = rw (p.1, p.2) (sym e); key = key_stays k s c.args.lock.now c.args.first.now an (length c.args.work1.now) (length c.args.work2.now) c.args.key.now c.in_err-accepted.field-0.0 e }

pub returns-in_err-accepted-2 : goal.returns-in_err-accepted-2
returns-in_err-accepted-2 g c =
    let k = g.K.ElementKind.kind in
    let s = g.S.Sealer.sealing in
    let an = by_branch c.args.answer1.now c.args.answer2.now c.args.answer3.now in
    let read = c.in_ok-lock.ensures ∙ ap (at_pick None) c.read.ensures in
    let sized = c.in_ok-at_pick.ensures ∙ ap (at_pick None) c.sizes_right-sizes.ensures in
    let e = two_refused k s c.args.lock.now c.args.first.now an (length c.args.work1.now) (length c.args.work2.now) c.args.key.now c.in_ok-lock.lock read sized c.in_err-accepted-2.field-0.0 (taken _ _ _ _ c.in_ok-accepted.ensures).0 (refused _ _ _ _ c.in_err-accepted-2.ensures) in
    let p = err_from_is_err_and c.from_residual-in_err-accepted-2.result c.from_residual-in_err-accepted-2.ensures.1 in
    record { outcome = rw (p.1, p.2) (sym e); key = key_stays k s c.args.lock.now c.args.first.now an (length c.args.work1.now) (length c.args.work2.now) c.args.key.now c.in_err-accepted-2.field-0.0 e }

pub returns-in_err-accepted-3 : goal.returns-in_err-accepted-3
returns-in_err-accepted-3 g c =
    let k = g.K.ElementKind.kind in
    let s = g.S.Sealer.sealing in
    let an = by_branch c.args.answer1.now c.args.answer2.now c.args.answer3.now in
    let read = c.in_ok-lock.ensures ∙ ap (at_pick None) c.read.ensures in
    let sized = c.in_ok-at_pick.ensures ∙ ap (at_pick None) c.sizes_right-sizes.ensures in
    let e = three_refused k s c.args.lock.now c.args.first.now an (length c.args.work1.now) (length c.args.work2.now) c.args.key.now c.in_ok-lock.lock read sized c.in_err-accepted-3.field-0.0 (taken _ _ _ _ c.in_ok-accepted.ensures).0 (taken _ _ _ _ c.in_ok-accepted-2.ensures).0 (refused _ _ _ _ c.in_err-accepted-3.ensures) in
    let p = err_from_is_err_and c.from_residual-in_err-accepted-3.result c.from_residual-in_err-accepted-3.ensures.1 in
    record { outcome = rw (p.1, p.2) (sym e); key = key_stays k s c.args.lock.now c.args.first.now an (length c.args.work1.now) (length c.args.work2.now) c.args.key.now c.in_err-accepted-3.field-0.0 e }

pub invariant_of-answers : goal.invariant_of-answers
invariant_of-answers g c =
    let k = g.K.ElementKind.kind in
    let s = g.S.Sealer.sealing in
    let an = by_branch c.args.answer1.now c.args.answer2.now c.args.answer3.now in
    let read = c.in_ok-lock.ensures ∙ ap (at_pick None) c.read.ensures in
    let sized = c.in_ok-at_pick.ensures ∙ ap (at_pick None) c.sizes_right-sizes.ensures in
    alike k s c.args.lock.now c.args.first.now an (length c.args.work1.now) (length c.args.work2.now) c.args.key.now c.in_ok-lock.lock read sized c.in_ok-accepted.field-0 c.in_ok-accepted-2.field-0 c.in_ok-accepted-3.field-0 (taken _ _ _ _ c.in_ok-accepted.ensures) (taken _ _ _ _ c.in_ok-accepted-2.ensures) (taken _ _ _ _ c.in_ok-accepted-3.ensures) (search rules) (search rules) (search rules)

pub give-requires : goal.give-requires
give-requires g c =
    let k = g.K.ElementKind.kind in
    let s = g.S.Sealer.sealing in
    let an = by_branch c.args.answer1.now c.args.answer2.now c.args.answer3.now in
    let read = c.in_ok-lock.ensures ∙ ap (at_pick None) c.read.ensures in
    let sized = c.in_ok-at_pick.ensures ∙ ap (at_pick None) c.sizes_right-sizes.ensures in
    key_room k s c.args.lock.now c.args.first.now an (length c.args.work1.now) (length c.args.work2.now) c.args.key.now c.in_ok-lock.lock read sized c.in_ok-accepted.field-0 c.in_ok-accepted-2.field-0 c.in_ok-accepted-3.field-0 (taken _ _ _ _ c.in_ok-accepted.ensures) (taken _ _ _ _ c.in_ok-accepted-2.ensures) (taken _ _ _ _ c.in_ok-accepted-3.ensures) (search rules)

pub returns : goal.returns
returns g c =
    let k = g.K.ElementKind.kind in
    let s = g.S.Sealer.sealing in
    let an = by_branch c.args.answer1.now c.args.answer2.now c.args.answer3.now in
    let read = c.in_ok-lock.ensures ∙ ap (at_pick None) c.read.ensures in
    let sized = c.in_ok-at_pick.ensures ∙ ap (at_pick None) c.sizes_right-sizes.ensures in
    record {
      outcome = given k s c.args.lock.now c.args.first.now an (length c.args.work1.now) (length c.args.work2.now) c.args.key.now c.in_ok-lock.lock read sized c.in_ok-accepted.field-0 c.in_ok-accepted-2.field-0 c.in_ok-accepted-3.field-0 (taken _ _ _ _ c.in_ok-accepted.ensures) (taken _ _ _ _ c.in_ok-accepted-2.ensures) (taken _ _ _ _ c.in_ok-accepted-3.ensures) c.give.result c.give.ensures.outcome;
      key = c.give.ensures.key ∙ key_given k s c.args.lock.now c.args.first.now an (length c.args.work1.now) (length c.args.work2.now) c.args.key.now c.in_ok-lock.lock read sized c.in_ok-accepted.field-0 c.in_ok-accepted-2.field-0 c.in_ok-accepted-3.field-0 (taken _ _ _ _ c.in_ok-accepted.ensures) (taken _ _ _ _ c.in_ok-accepted-2.ensures) (taken _ _ _ _ c.in_ok-accepted-3.ensures) c.give.result c.give.ensures.outcome;
    }
