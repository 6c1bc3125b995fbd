use Rattle.std.proofs.Common.{◌≤◌, sym, ◌∙◌, arith}
use Rattle.keeper.proofs.Tables.{open_range}
use Rattle.keeper.proofs.Keeper.answerable.Goals as goal

short : (c : goal.In_ok-branch) → c.args.self.now.view_length ≤ 65535
short c =
    let k = c.args.self.now in
    let r = open_range c.args.self.now.records.items c.args.round (sym c.open_round.ensures ∙ c.in_ok-open_round.was) in
    c.args.self.now.short (omega (arith, r.0, r.1, c.args.self.now.within))

pub overflow_mul-self : goal.overflow_mul-self
overflow_mul-self c = record { fits = omega (arith, short c) }

pub overflow_add-self : goal.overflow_add-self
overflow_add-self c = record { fits = omega (arith, short c) }
