-- The code's keeper as its values, and what its inner functions speak of.
use Rattle.std.specs.Prelude.{ℕ, ◌+◌, ◌*◌, ◌≤◌, List, length, take, drop}
use Rattle.faults.specs.declared.Branch.{Branch}
use Rattle.faults.specs.Branches.{behind}
use Rattle.theory.specs.declared.RoundState.{RoundState}
use Rattle.theory.specs.Store.{rounds_in, round_at, round_length}
use Rattle.theory.specs.Keeper.{Keeper as Values}
use Rattle.keeper.specs.declared.Keeper.{Keeper}

-- its table has the records of the rounds promised so far
abbrev pub values_of : Keeper → Values
values_of k = record { view_size = k.view_length; capacity = k.capacity; store = k.store.now; table = k.records.items }

-- a keeper of views of L bytes over a store whose rounds have these records
abbrev pub resumed_from : (L : ℕ) (table : List RoundState) (store : List ℕ) → Values
resumed_from L table store = record {
  view_size = L;
  capacity = rounds_in L (length store);
  store = store;
  table = take (rounds_in L (length store)) table;
}

-- a round that lies in a store of n bytes
pub record Placed (L r n : ℕ) : Type 0 where
  pub short : L ≤ 65535
  pub low : 1 ≤ r
  pub high : r ≤ 64
  pub room : round_at L r + round_length L ≤ n

-- the view of a branch in the round that begins at `start`
abbrev pub view_in : (store : List ℕ) (start L : ℕ) → Branch → List ℕ
view_in store start L i = take L (drop (start + L * behind i) store)
