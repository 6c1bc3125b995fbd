use Rattle.std.proofs.Common.{◌≡◌, length, refl, ap, ◌∙◌, rules}
use Rattle.theory.specs.Keeper.{Keeper, Given, given, made_from, first_after}
use Rattle.keeper.specs.Model.{values_of}
use Rattle.engine.specs.Playing.{played, answer_left, keeper_left}
use Rattle.engine.proofs.Rounds.{completes}
use Rattle.engine.proofs.play.play_round.Goals as goal

pub returns : goal.returns
returns g c =
    let x : Given = given g.K.ElementKind.kind g.S.Sealer.sealing c.args.lock.now c.args.key.now c.args.tape.now (length c.args.work1.now) (length c.args.work2.now) (length c.args.work3.now) (length c.args.first.now) in
    let k = made_from c.args.view_length c.args.store.now in
    let e = c.args.pick in
    let fm = c.args.first.now in
    let an = c.args.answer.now in
    let is : values_of c.new-keeper.result ≡ k = c.new-keeper.ensures.value in
    let outcome : c.play_on.result ≡ played k x e fm an = c.play_on.ensures.outcome ∙ ap (λ z. played z x e fm an) is in
    let after : values_of c.play_on.new.keeper ≡ keeper_left k x e fm an = c.play_on.ensures.after ∙ ap (λ z. keeper_left z x e fm an) is in
    let stored : (values_of c.play_on.new.keeper).store ≡ (keeper_left k x e fm an).store = ap (λ (z : Keeper). z.store) after in
    record {
      outcome = outcome;
      complete = λ h room p long. outcome ∙ completes x c.args.view_length c.args.store.now e fm an refl h room p long;
      store = ◌∙◌ {b = c.play_on.new.keeper.store.now} (search rules) stored;
      first = c.play_on.ensures.first ∙ ap (λ z. first_after z x fm) is;
      answer = c.play_on.ensures.answer ∙ ap (λ z. answer_left z x e fm an) is;
      work1 = c.play_on.ensures.work1;
      work2 = c.play_on.ensures.work2;
      work3 = c.play_on.ensures.work3;
    }
