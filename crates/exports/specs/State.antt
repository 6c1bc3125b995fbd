-- A keeper's state as C holds it, and the keeper that it stands for.
use Rattle.std.specs.Prelude.{ℕ, cond, List, [], ◌∷◌, ◌++◌, map, length, take, drop, replicate, Some, None, Option, nat_le}
use Rattle.std.specs.Option.{option_map, option_and_then}
use Rattle.std.specs.Result.{result_ok}
use Rattle.arrayvec.specs.ArrayVec.{ArrayVec}
use Rattle.theory.specs.declared.RoundState.{RoundState}
use Rattle.theory.specs.Keeper.{Keeper}
use Rattle.theory.specs.Records.{record_numbered, record_number}
use Rattle.theory.specs.Store.{rounds_in}
use Rattle.exports.specs.declared.told.KeeperState.{KeeperState}

-- a record by its number
abbrev pub state_numbered : ℕ → Option RoundState
state_numbered n = result_ok (record_numbered n)

-- records by their numbers, if each is one
unfoldable pub states_in : List ℕ → Option (List RoundState)
states_in [] = Some []
states_in (n ∷ ns) = option_and_then (λ s. option_map (λ t. s ∷ t) (states_in ns)) (state_numbered n)

-- the numbers of these records, and behind them what stood there
abbrev pub numbers_over : List RoundState → List ℕ → List ℕ
numbers_over t ns = map record_number t ++ drop (length t) ns

abbrev pub records_of : Option (ArrayVec RoundState) → Option (List RoundState)
records_of r = option_map (λ v. v.items) r

-- the records of a state over a store of so many bytes: no more are promised than it holds, and each has a record's number
unfoldable pub table_in : KeeperState → (bytes-had : ℕ) → Option (List RoundState)
table_in s bytes-had = cond (nat_le s.promised (rounds_in s.view_length bytes-had)) (states_in (take s.promised s.records)) None

-- the keeper of a state with these records, and of its store
abbrev pub keeper_of : KeeperState → (store : List ℕ) → List RoundState → Keeper
keeper_of s store t = record { view_size = s.view_length; capacity = rounds_in s.view_length (length store); store = store; table = t }

-- the keeper that a state stands for, with its store
unfoldable pub keeper_in : KeeperState → (store : List ℕ) → Option Keeper
keeper_in s store = option_map (keeper_of s store) (table_in s (length store))

-- the state with these records; the view length stays, and so does what lies behind the records
abbrev pub state_told : List RoundState → KeeperState → KeeperState
state_told t s = record { view_length = s.view_length; promised = length t; records = numbers_over t s.records }

-- no round promised, records all 0
abbrev pub state_new : ℕ → KeeperState
state_new L = record { view_length = L; promised = 0; records = replicate 64 0 }
