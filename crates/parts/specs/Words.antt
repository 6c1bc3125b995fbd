-- Words as bytes: be has the highest byte first, le the lowest.
use Rattle.std.specs.Prelude.{ℕ, ◌+◌, ◌*◌, ◌/◌, ◌%◌, ◌^◌, List, [], ◌∷◌, slice_index}

abbrev pub be32 : ℕ → List ℕ
be32 x = x / 2 ^ 24 % 256 ∷ x / 2 ^ 16 % 256 ∷ x / 2 ^ 8 % 256 ∷ x % 256 ∷ []

abbrev pub be64 : ℕ → List ℕ
be64 x =
    x / 2 ^ 56 % 256 ∷ x / 2 ^ 48 % 256 ∷ x / 2 ^ 40 % 256 ∷ x / 2 ^ 32 % 256 ∷ x / 2 ^ 24 % 256 ∷ x / 2 ^ 16 % 256 ∷
    x / 2 ^ 8 % 256 ∷ x % 256 ∷ []

abbrev pub le64 : ℕ → List ℕ
le64 x =
    x % 256 ∷ x / 2 ^ 8 % 256 ∷ x / 2 ^ 16 % 256 ∷ x / 2 ^ 24 % 256 ∷ x / 2 ^ 32 % 256 ∷ x / 2 ^ 40 % 256 ∷
    x / 2 ^ 48 % 256 ∷ x / 2 ^ 56 % 256 ∷ []

-- the word at place t of a string of bytes
abbrev pub be32_at : List ℕ → ℕ → ℕ
be32_at p t = slice_index p (4 * t) * 2 ^ 24 + slice_index p (4 * t + 1) * 2 ^ 16 + slice_index p (4 * t + 2) * 2 ^ 8 + slice_index p (4 * t + 3)

abbrev pub le64_at : List ℕ → ℕ → ℕ
le64_at p t =
    slice_index p (8 * t) + slice_index p (8 * t + 1) * 2 ^ 8 + slice_index p (8 * t + 2) * 2 ^ 16 + slice_index p (8 * t + 3) * 2 ^ 24 +
    slice_index p (8 * t + 4) * 2 ^ 32 + slice_index p (8 * t + 5) * 2 ^ 40 + slice_index p (8 * t + 6) * 2 ^ 48 + slice_index p (8 * t + 7) * 2 ^ 56
