use Rattle.std.proofs.Common.{ℕ, ◌+◌, ap, rules, tests}
use Rattle.verifier.proofs.ReadLemmas.{answer_read}
use Rattle.verifier.proofs.answer.Answer.read.Goals as goal

pub returns : goal.returns
returns g c =
    answer_read g.K.ElementKind.kind c.args.lock.now c.args.branch c.args.bytes.now _ _ _ c.in_ok-read.field-0 c.in_ok-read-2.field-0 c.answer_views.ensures.picked c.answer_views.ensures.following
    (ap (λ (n : ℕ). 3 + n) c.view_length.ensures.length) (search rules) (search (rules, tests)) c.in_ok-read.ensures c.in_ok-read-2.ensures
