use Rattle.std.proofs.Common.{◌≡◌, ◌≤◌, ◌-◌, ap, ◌∙◌, slice_get, rules}
use Rattle.keeper.proofs.Tables.{none_first, state_at, item_copied}
use Rattle.keeper.proofs.Keeper.record.Goals as goal

pub returns-in_err-checked_sub : goal.returns-in_err-checked_sub
returns-in_err-checked_sub c = search (rules, none_first)

pub returns : goal.returns
returns c =
    let before : 1 ≤ c.args.round = search rules in
    let at : c.in_ok-checked_sub.field-0 ≡ c.args.round - 1 = search rules in
    let got = c.copied.ensures ∙ item_copied c.deref.result.now _ _ c.get.ensures.lookup in
    got ∙ ap (slice_get c.deref.result.now) at ∙ search (rules, state_at)
