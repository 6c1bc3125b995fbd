-- A group of elements as bytes, and back: the one place that says how. What lies above uses the laws.
use Rattle.std.specs.Prelude.{◌≡◌, ℕ, zero, suc, ◌*◌, ◌<◌, List, [], ◌∷◌, ◌++◌, length, take, drop, slice_index_or}
use Rattle.std.specs.List.{AllByRecursion}
use Rattle.kinds.specs.Kind.{Kind, Laws, Lawful, Bytes}
use Rattle.kinds.specs.Groups.{group_length}

-- the n elements at the front of bytes
unfoldable pub group : Kind → (n : ℕ) → List ℕ → List (List ℕ)
group K zero xs = []
group K (suc n) xs = take K.width xs ∷ group K n (drop K.width xs)

unfoldable pub group_bytes : Kind → List (List ℕ) → List ℕ
group_bytes K [] = []
group_bytes K (e ∷ es) = e ++ group_bytes K es

-- where element i begins in its group
unfoldable pub element_at : Kind → ℕ → ℕ
element_at K i = i * K.width

pub record GroupLaws (K : Kind) : Type 0 where
  pub counted : (n : ℕ) (xs : List ℕ) → length (group K n xs) ≡ n
  -- only the group's own bytes are read
  pub fronted : (n : ℕ) (xs : List ℕ) → group K n (take (group_length K n) xs) ≡ group K n xs
  pub written_read : (n : ℕ) (xs : List ℕ) → length xs ≡ group_length K n → group_bytes K (group K n xs) ≡ xs
  pub read_written : Laws K → (es : List (List ℕ)) (rest : List ℕ) → AllByRecursion (Lawful K) es → group K (length es) (group_bytes K es ++ rest) ≡ es
  pub sized : Laws K → (es : List (List ℕ)) → AllByRecursion (Lawful K) es → length (group_bytes K es) ≡ group_length K (length es)
  pub in_bytes : Laws K → (es : List (List ℕ)) → AllByRecursion (Lawful K) es → Bytes (group_bytes K es)
  -- an element's bytes begin at its offset
  pub placed : (n i : ℕ) (xs : List ℕ) → i < n → slice_index_or (group K n xs) i [] ≡ take K.width (drop (element_at K i) xs)
