-- Whole numbers in four bytes, big-endian.
use Rattle.std.specs.Prelude.{ℕ, ◌+◌, ◌*◌, ◌/◌, ◌%◌, Bool, true, ◌&&◌, List, [], ◌∷◌, nat_lt, slice_index}

-- the number that the first four bytes say
abbrev pub number_of : List ℕ → ℕ
number_of x = slice_index x 0 * 16777216 + slice_index x 1 * 65536 + slice_index x 2 * 256 + slice_index x 3

abbrev pub four_bytes : ℕ → List ℕ
four_bytes n = (n / 16777216 % 256) ∷ (n / 65536 % 256) ∷ (n / 256 % 256) ∷ (n % 256) ∷ []

abbrev pub all_bytes : List ℕ → Bool
all_bytes [] = true
all_bytes (b ∷ x) = nat_lt b 256 && all_bytes x
