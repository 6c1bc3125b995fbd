-- What every call of a keeper keeps.
use Rattle.std.specs.Prelude.{◌≡◌, ℕ, Ok, Err, Result, refl}
use Rattle.faults.specs.declared.Fault.{Fault}
use Rattle.faults.specs.Outcomes.{map_ok}
use Rattle.faults.specs.declared.Branch.{Branch}
use Rattle.theory.specs.declared.RoundState.{RoundState}
use Rattle.theory.specs.Tests.{left}
use Rattle.theory.specs.Keeper.{Keeper, ended, answer_branch, answer_result, after_answer, drop_result, after_drop}

pub record Keeps {A : Type 0} (k : Keeper) (outcome : Result A Fault) (after : Keeper) : Type 0 where
  pub view : after.view_size ≡ k.view_size
  pub room : after.capacity ≡ k.capacity
  pub refused : (f : Fault) → outcome ≡ Err f → after ≡ k

pub drop_keeps : (k : Keeper) (r : ℕ) → Keeps k (drop_result k r) (after_drop k r)
drop_keeps k r = go (drop_result k r)
  where
    go : (o : Result (Unit {0}) Fault) → Keeps k o (left o (λ _. ended k r RoundState.Dropped) k)
    go (Ok a) = record { view = refl; room = refl; refused = λ f e. cc }
    go (Err f) = record { view = refl; room = refl; refused = λ g e. refl }

pub answer_keeps : (k : Keeper) (r pick size : ℕ) → Keeps k (answer_result k r pick size) (after_answer k r pick size)
answer_keeps k r pick size = go (answer_branch k r pick size)
  where
    go : (o : Result Branch Fault) → Keeps k (map_ok {B = Unit {0}} (λ _. tt) o) (left o (λ _. ended k r RoundState.Answered) k)
    go (Ok b) = record { view = refl; room = refl; refused = λ f e. cc }
    go (Err f) = record { view = refl; room = refl; refused = λ g e. refl }
