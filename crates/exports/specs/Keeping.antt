-- What a keeper's call answers and leaves, where the keeper stands outside as a state and a store.
use Rattle.std.specs.Prelude.{◌≡◌, ℕ, ◌≤◌, List, length, Err, Option, Result}
use Rattle.std.specs.Option.{option_map, option_map_or}
use Rattle.faults.specs.declared.Fault.{Fault}
use Rattle.theory.specs.Tests.{left}
use Rattle.theory.specs.Keeper.{Keeper}
use Rattle.exports.specs.declared.told.KeeperState.{KeeperState}
use Rattle.exports.specs.declared.told.Refusal.{Refusal}
use Rattle.exports.specs.Outcomes.{told_by}
use Rattle.exports.specs.State.{keeper_in, state_told}

-- a call with that result
unfoldable pub told_in : {A : Type 0} → KeeperState → (store : List ℕ) → (Keeper → Result A Fault) → Result A Refusal
told_in s store result = option_map_or (λ k. told_by (result k)) (keeper_in s store) (Err Refusal.BadKeeper)

-- the store after a call that leaves the keeper so
unfoldable pub store_in : KeeperState → (store : List ℕ) → (Keeper → Keeper) → List ℕ
store_in s store after = option_map_or (λ k. (after k).store) (keeper_in s store) store

-- the state: written where the call was done
unfoldable pub state_in : {A : Type 0} → KeeperState → (store : List ℕ) → (Keeper → Result A Fault) → (Keeper → Keeper) → KeeperState
state_in s store result after = option_map_or (λ k. left (result k) (λ _. state_told (after k).table s) s) (keeper_in s store) s

-- the keeper that the next call finds
unfoldable pub next_in : KeeperState → (store : List ℕ) → (Keeper → Keeper) → Option Keeper
next_in s store after = option_map after (keeper_in s store)

-- a buffer
unfoldable pub buffer_in : KeeperState → (store : List ℕ) → (Keeper → List ℕ) → List ℕ → List ℕ
buffer_in s store new old = option_map_or new (keeper_in s store) old

-- a state and a store as a call with this outcome leaves them, which left the keeper so
pub record Leaves {A : Type 0} (s : KeeperState) (outcome : Result A Fault) (after : Keeper) (state : KeeperState) (store : List ℕ) : Type 0 where
  pub state_is : state ≡ left outcome (λ _. state_told after.table s) s
  pub store_is : store ≡ after.store
  pub few : length after.table ≤ after.capacity
