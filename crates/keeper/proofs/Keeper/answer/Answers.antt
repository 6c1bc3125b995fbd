use Rattle.std.proofs.Common.{◌≡◌, length, Ok, sym, refl, ap, ◌∙◌, arith}
use Rattle.faults.specs.Branches.{next}
use Rattle.faults.specs.Outcomes.{map_ok}
use Rattle.theory.specs.declared.RoundState.{RoundState}
use Rattle.theory.specs.Messages.{answer_bytes}
use Rattle.theory.specs.Keeper.{answer_branch, kept_view, ended}
use Rattle.keeper.specs.Model.{values_of}
use Rattle.keeper.proofs.Tables.{open_range}
use Rattle.keeper.proofs.Rooms.{placed_here}
use Rattle.keeper.proofs.Answered.{answering, ended_is, left_as}
use Rattle.keeper.proofs.Keeper.answer.Goals as goal

pub spend-requires : goal.spend-requires
spend-requires c =
    let a = answering (values_of c.args.self.now) c.args.round c.args.pick (length c.args.out.now) c.in_ok-branch.branch (sym c.answerable.ensures ∙ c.in_ok-branch.was) in
    record { placed = placed_here c.args.self.now c.args.round a.opened; long = a.sized }

pub mark-requires : goal.mark-requires
mark-requires c =
    let a = answering (values_of c.args.self.now) c.args.round c.args.pick (length c.args.out.now) c.in_ok-branch.branch (sym c.answerable.ensures ∙ c.in_ok-branch.was) in
    let r = open_range c.args.self.now.records.items c.args.round a.opened in
    record { low = r.0; high = r.1 }

pub returns : goal.returns
returns c =
    let k = values_of c.args.self.now in
    let b = c.in_ok-branch.branch in
    let was : answer_branch (values_of c.args.self.now) c.args.round c.args.pick (length c.args.out.now) ≡ Ok c.in_ok-branch.branch = sym c.answerable.ensures ∙ c.in_ok-branch.was in
    let a = answering k c.args.round c.args.pick (length c.args.out.now) b was in
    let p = placed_here c.args.self.now c.args.round a.opened in
    record {
      outcome = ap (map_ok (λ _. tt)) (sym was);
      after =
          ended_is (values_of c.args.self.now) c.args.round RoundState.Answered _ _ _ _ c.mark.ensures.view c.mark.ensures.room (c.mark.ensures.store ∙ c.spend.ensures.store) c.mark.ensures.table
          ∙ left_as (answer_branch (values_of c.args.self.now) c.args.round c.args.pick (length c.args.out.now)) _ (λ _. ended (values_of c.args.self.now) c.args.round RoundState.Answered) (values_of c.args.self.now) was;
      shown =
          c.spend.ensures.out
          ∙ left_as (answer_branch (values_of c.args.self.now) c.args.round c.args.pick (length c.args.out.now)) _
          (λ b. answer_bytes b (kept_view (values_of c.args.self.now) c.args.round b) (kept_view (values_of c.args.self.now) c.args.round (next b))) c.args.out.now was;
      named = c.mark.ensures.named;
    }
