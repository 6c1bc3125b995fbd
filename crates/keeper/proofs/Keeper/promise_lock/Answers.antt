use Rattle.std.proofs.Common.{length, sym, ◌∙◌}
use Rattle.std.proofs.lemmas.Result.{err_from_is_err_and}
use Rattle.keeper.proofs.Promised.{all_passed, round_placed, round_ready, kept_is, shown_is, refused_by}
use Rattle.keeper.proofs.Keeper.promise_lock.Goals as goal

pub read_secrets-requires-clause-room : goal.read_secrets-requires-clause-room
read_secrets-requires-clause-room g c = (all_passed c.args.self.now g.K.ElementKind.kind g.S.Sealer.sealing c.args.lock.now c.args.key.now c.args.tape.now (length c.args.work1.now) (length c.args.work2.now) (length c.args.work3.now) (length c.args.first.now) c.in_ok-round.round (sym c.test_promise.ensures ∙ c.in_ok-round.was)).room1

pub returns-in_err-key-clause-outcome : goal.returns-in_err-key-clause-outcome
returns-in_err-key-clause-outcome g c =
    let p = err_from_is_err_and c.from_residual-in_err-key.result c.from_residual-in_err-key.ensures.1 in
    rw (p.1, p.2) (refused_by c.args.self.now g.K.ElementKind.kind g.S.Sealer.sealing c.args.lock.now c.args.key.now c.args.tape.now (length c.args.work1.now) (length c.args.work2.now) (length c.args.work3.now) (length c.args.first.now) c.in_ok-round.round (sym c.test_promise.ensures ∙ c.in_ok-round.was) _ (sym c.in_err-key.was ∙ c.read_secrets.ensures))

pub store_round-requires : goal.store_round-requires
store_round-requires g c = record {
  placed = round_placed c.args.self.now g.K.ElementKind.kind g.S.Sealer.sealing c.args.lock.now c.args.key.now c.args.tape.now (length c.args.work1.now) (length c.args.work2.now) (length c.args.work3.now) (length c.args.first.now) c.in_ok-round.round (sym c.test_promise.ensures ∙ c.in_ok-round.was);
  ready = round_ready c.args.self.now g.K.ElementKind.kind g.S.Sealer.sealing c.args.lock.now c.args.key.now c.args.tape.now (length c.args.work1.now) (length c.args.work2.now) (length c.args.work3.now) (length c.args.first.now) c.in_ok-round.round (sym c.test_promise.ensures ∙ c.in_ok-round.was) (c.in_ok-key.key, c.in_ok-key.tape) (sym c.in_ok-key.was ∙ c.read_secrets.ensures) _ c.read_secrets.auto.work;
}

pub returns-clause-after : goal.returns-clause-after
returns-clause-after g c = kept_is c.args.self.now g.K.ElementKind.kind g.S.Sealer.sealing c.args.lock.now c.args.key.now c.args.tape.now (length c.args.work1.now) (length c.args.work2.now) (length c.args.work3.now) (length c.args.first.now) c.in_ok-round.round (sym c.test_promise.ensures ∙ c.in_ok-round.was) (c.in_ok-key.key, c.in_ok-key.tape) (sym c.in_ok-key.was ∙ c.read_secrets.ensures) c.store_round.new.store _ c.store_round.ensures.store c.push.ensures.items

pub returns-clause-shown : goal.returns-clause-shown
returns-clause-shown g c = shown_is c.args.self.now g.K.ElementKind.kind g.S.Sealer.sealing c.args.lock.now c.args.key.now c.args.tape.now (length c.args.work1.now) (length c.args.work2.now) (length c.args.work3.now) (length c.args.first.now) c.in_ok-round.round (sym c.test_promise.ensures ∙ c.in_ok-round.was) (c.in_ok-key.key, c.in_ok-key.tape) (sym c.in_ok-key.was ∙ c.read_secrets.ensures) c.store_round.new.first c.store_round.ensures.first
