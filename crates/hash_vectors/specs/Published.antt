-- The published digests of "abc".
use Rattle.std.specs.Prelude.{ℕ, List, [], ◌∷◌}

abbrev pub abc : List ℕ
abc = 97 ∷ 98 ∷ 99 ∷ []

abbrev pub abc_sha256 : List ℕ
abc_sha256 =
    186 ∷ 120 ∷ 22 ∷ 191 ∷ 143 ∷ 1 ∷ 207 ∷ 234 ∷ 65 ∷ 65 ∷ 64 ∷ 222 ∷ 93 ∷ 174 ∷ 34 ∷ 35 ∷ 176 ∷ 3 ∷ 97 ∷ 163 ∷ 150 ∷ 23 ∷ 122 ∷ 156 ∷ 180 ∷ 16 ∷ 255 ∷ 97 ∷ 242 ∷ 0 ∷ 21 ∷ 173 ∷ []

abbrev pub abc_sha3_256 : List ℕ
abc_sha3_256 =
    58 ∷ 152 ∷ 93 ∷ 167 ∷ 79 ∷ 226 ∷ 37 ∷ 178 ∷ 4 ∷ 92 ∷ 23 ∷ 45 ∷ 107 ∷ 211 ∷ 144 ∷ 189 ∷ 133 ∷ 95 ∷ 8 ∷ 110 ∷ 62 ∷ 157 ∷ 82 ∷ 91 ∷ 70 ∷ 191 ∷ 226 ∷ 69 ∷ 17 ∷ 67 ∷ 21 ∷ 50 ∷ []
