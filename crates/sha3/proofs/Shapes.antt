-- The step mappings in the shape that the code has, by the place in the state.
use Rattle.std.specs.Prelude.{ℕ, ◌+◌, ◌*◌, ◌/◌, ◌%◌, List, map, bit_xor, slice_index}
use Rattle.std.proofs.Common.{◌≡◌, zero, suc, ◌<◌, Bool, true, ◌&&◌, ltb, [], ◌∷◌, length, get_or, refl, arith}
use Rattle.std.proofs.lemmas.Bool.{and_parts, ltb-true}
use Rattle.std.specs.List.{range_with_len, zip}
use Rattle.parts.specs.Words.{le64_at}
use Rattle.sha3.specs.Keccak.{rotl, offsets}

abbrev pub column_at : List ℕ → ℕ → ℕ
column_at a x =
    bit_xor (bit_xor (bit_xor (bit_xor (slice_index a x) (slice_index a (x + 5))) (slice_index a (x + 10))) (slice_index a (x + 15))) (slice_index a (x + 20))

-- the place that π takes from, and the turn of ρ there
abbrev pub sources : List ℕ
sources = map (λ i. 5 * (i % 5) + (i % 5 + 3 * (i / 5)) % 5) (range_with_len 0 25)

abbrev pub turns : List ℕ
turns = map (λ i. slice_index offsets i) sources

-- both at each place after ρ and π
abbrev pub moves : List (ℕ × ℕ)
moves = zip sources turns

abbrev pub turned_at : List ℕ → ℕ → ℕ
turned_at a i = rotl (get_or moves i (0, 0)).1 (slice_index a (get_or moves i (0, 0)).0)

-- a block added to the state
abbrev pub added_at : List ℕ → List ℕ → ℕ → ℕ
added_at a p i = bit_xor (slice_index a i) (le64_at p i)

-- each source is a place
abbrev all_below : ℕ → List (ℕ × ℕ) → Bool
all_below n [] = true
all_below n (m ∷ ms) = ltb m.0 n && all_below n ms

below_at : (n : ℕ) (ms : List (ℕ × ℕ)) → all_below n ms ≡ true → (k : ℕ) → k < length ms → (get_or ms k (0, 0)).0 < n
below_at n [] e k h = absurd (omega arith)
below_at n (m ∷ ms) e zero h = ltb-true m.0 n (and_parts (ltb m.0 n) (all_below n ms) e).0
below_at n (m ∷ ms) e (suc k) h = below_at n ms (and_parts (ltb m.0 n) (all_below n ms) e).1 k (omega arith)

pub source_below : (k : ℕ) → k < 25 → (get_or moves k (0, 0)).0 < 25
source_below k h = below_at 25 moves refl k h
