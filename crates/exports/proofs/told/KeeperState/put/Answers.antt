use Rattle.std.proofs.Common.{◌≡◌, ◌∙◌, length, Some, None, Err, refl, sym, subst, rules}
use Rattle.keeper.specs.Model.{resumed_from}
use Rattle.exports.specs.declared.told.Refusal.{Refusal}
use Rattle.exports.specs.State.{table_in}
use Rattle.exports.specs.Outcomes.{told_by}
use Rattle.exports.proofs.Held.{opened, unopened, none_carried, carried}
use Rattle.exports.proofs.told.KeeperState.put.Goals as goal

pub returns-in_err-table : goal.returns-in_err-table
returns-in_err-table g c =
    let s = c.args.self.now in
    let store = c.args.store.now in
    let asked = c.args.request.now in
    let none : None ≡ table_in s (length store) = search rules in
    let e = unopened s store none in
    let x = none_carried s store (λ k. g.R.Request.outcome asked k) (λ k. g.R.Request.after asked k) e in
    let told : c.from_residual.result ≡ Err Refusal.BadKeeper = search rules in
    record {
      outcome = told ∙ x.outcome;
      store = x.store_is;
      state = x.state_is;
      next = x.next;
      shows = subst (λ o. g.R.Request.Shows o asked asked) (sym e) (g.met.R.Request.untouched asked);
    }

pub returns : goal.returns
returns g c =
    let s = c.args.self.now in
    let store = c.args.store.now in
    let asked = c.args.request.now in
    let k = resumed_from s.view_length c.deref.result.now store in
    let some : Some c.deref.result.now ≡ table_in s (length store) = search rules in
    let e = opened s store c.deref.result.now some in
    let x = carried s store (λ k. g.R.Request.outcome asked k) (λ k. g.R.Request.after asked k) k e refl refl c.put_over.result c.put_over.new.self c.put_over.new.store
    c.put_over.ensures.outcome (g.met.R.Request.keeps asked k) c.put_over.ensures.leaves c.put_over.auto.store in
    let told : c.map_err.result ≡ told_by c.put_over.result = search rules in
    record {
      outcome = told ∙ x.outcome;
      store = x.store_is;
      state = x.state_is;
      next = x.next;
      shows = subst (λ o. g.R.Request.Shows o asked c.put_over.new.request) (sym e) c.put_over.ensures.shows;
    }
