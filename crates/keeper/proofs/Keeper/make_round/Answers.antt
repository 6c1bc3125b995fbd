use Rattle.std.proofs.Common.{length, sym, ◌∙◌}
use Rattle.keeper.specs.Model.{values_of}
use Rattle.keeper.proofs.Promised.{promised_is, after_is, first_is}
use Rattle.keeper.proofs.Keeper.make_round.Goals as goal

pub returns : goal.returns
returns g c =
    let told = c.promise_lock.ensures.outcome ∙ promised_is (values_of c.args.self.now) g.K.ElementKind.kind g.S.Sealer.sealing c.args.lock.now c.args.key.now c.args.tape.now (length c.args.work1.now) (length c.args.work2.now) (length c.args.work3.now) (length c.args.first.now) c.in_ok-lock.lock (sym c.in_ok-lock.was ∙ c.read.ensures) in
    record {
      outcome = told;
      after = c.promise_lock.ensures.after ∙ after_is (values_of c.args.self.now) g.K.ElementKind.kind g.S.Sealer.sealing c.args.lock.now c.args.key.now c.args.tape.now (length c.args.work1.now) (length c.args.work2.now) (length c.args.work3.now) (length c.args.first.now) c.in_ok-lock.lock (sym c.in_ok-lock.was ∙ c.read.ensures) c.promise_lock.result told;
      shown = c.promise_lock.ensures.shown ∙ first_is (values_of c.args.self.now) g.K.ElementKind.kind g.S.Sealer.sealing c.args.lock.now c.args.key.now c.args.tape.now (length c.args.work1.now) (length c.args.work2.now) (length c.args.work3.now) (length c.args.first.now) c.in_ok-lock.lock (sym c.in_ok-lock.was ∙ c.read.ensures) c.promise_lock.result c.args.first.now told;
      named = c.promise_lock.ensures.named;
    }
