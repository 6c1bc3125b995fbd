-- A row in bytes, from an offset on.
use Rattle.std.specs.Prelude.{ℕ, List, ◌++◌, take, drop}

abbrev pub row_at : (w at : ℕ) → List ℕ → List ℕ
row_at w at bs = take w (drop at bs)

-- the bytes with a row of w bytes written over those from `at` on
abbrev pub put_row : (w at : ℕ) (row bs : List ℕ) → List ℕ
put_row w at row bs = take at bs ++ (row ++ drop w (drop at bs))
