-- A keeper's store: how many rounds it holds, and where each lies. What lies above uses the laws.
use Rattle.std.specs.Prelude.{◌≡◌, ℕ, ◌+◌, ◌-◌, ◌*◌, ◌/◌, ◌<◌, ◌≤◌, min, cond, ◌&&◌, List, ◌++◌, length, take, drop, nat_le}
use Rattle.locks.specs.Limits.{longest_view}
use Rattle.theory.specs.Runs.{Branch}
use Rattle.theory.specs.Messages.{behind}

abbrev pub most_rounds : ℕ
most_rounds = 64

-- the shortest view: a blind and one byte
abbrev pub shortest_view : ℕ
shortest_view = 33

-- how many rounds of views of L bytes a store of that many bytes holds
unfoldable pub rounds_in : (L bytes-had : ℕ) → ℕ
rounds_in L bytes-had = cond (nat_le shortest_view L && nat_le L longest_view) (min most_rounds (bytes-had / (3 * L))) 0

-- a round's bytes: its views 1, 2, 3
abbrev pub round_length : ℕ → ℕ
round_length L = 3 * L

-- round r, from 1, lies behind round r − 1
unfoldable pub round_at : (L r : ℕ) → ℕ
round_at L r = round_length L * (r - 1)

abbrev pub view_at : (L r : ℕ) → Branch → ℕ
view_at L r i = round_at L r + L * behind i

-- the bytes x written over those from offset a on
abbrev pub put : List ℕ → ℕ → List ℕ → List ℕ
put s a x = take a s ++ (x ++ drop (a + length x) s)

pub record PlaceLaws (L bytes-had : ℕ) : Type 0 where
  pub few : rounds_in L bytes-had ≤ most_rounds
  -- rounds lie in the store, and apart
  pub within : (r : ℕ) → 1 ≤ r → r ≤ rounds_in L bytes-had → round_at L r + round_length L ≤ bytes-had
  pub apart : (q r : ℕ) → 1 ≤ q → q < r → round_at L q + round_length L ≤ round_at L r

-- a write within the store changes just its own bytes
pub record PutLaw (s : List ℕ) (a : ℕ) (x : List ℕ) : Type 0 where
  pub same_length : length (put s a x) ≡ length s
  pub before : take a (put s a x) ≡ take a s
  pub written : take (length x) (drop a (put s a x)) ≡ x
  pub behind_it : drop (a + length x) (put s a x) ≡ drop (a + length x) s
