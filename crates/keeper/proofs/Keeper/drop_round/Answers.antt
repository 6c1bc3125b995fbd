use Rattle.std.proofs.Common.{◌≡◌, length, Ok, sym, refl, ap, ◌∙◌, arith}
use Rattle.theory.specs.declared.RoundState.{RoundState}
use Rattle.theory.specs.Keeper.{round_open, ended}
use Rattle.keeper.specs.Model.{values_of}
use Rattle.keeper.proofs.Tables.{open_range}
use Rattle.keeper.proofs.Rooms.{placed_here}
use Rattle.keeper.proofs.Answered.{ended_is, left_as}
use Rattle.keeper.proofs.Keeper.drop_round.Goals as goal

pub end_round-requires : goal.end_round-requires
end_round-requires c = record { placed = placed_here c.args.self.now c.args.round (sym c.open_round.ensures ∙ c.in_ok-open_round.was) }

pub mark-requires : goal.mark-requires
mark-requires c =
    let r = open_range c.args.self.now.records.items c.args.round (sym c.open_round.ensures ∙ c.in_ok-open_round.was) in
    record { low = r.0; high = r.1 }

pub returns : goal.returns
returns c =
    let k = c.args.self.now in
    let opened : round_open (values_of c.args.self.now) c.args.round ≡ Ok tt = sym c.open_round.ensures ∙ c.in_ok-open_round.was in
    let p = placed_here c.args.self.now c.args.round opened in
    record {
      outcome = sym opened;
      after =
          ended_is (values_of c.args.self.now) c.args.round RoundState.Dropped _ _ _ _ c.mark.ensures.view c.mark.ensures.room (c.mark.ensures.store ∙ c.end_round.ensures) c.mark.ensures.table
          ∙ left_as (round_open (values_of c.args.self.now) c.args.round) tt (λ _. ended (values_of c.args.self.now) c.args.round RoundState.Dropped) (values_of c.args.self.now) opened;
      named = c.mark.ensures.named;
    }
