-- Words written one after the other, and what their bytes are.
use Rattle.std.proofs.Common.{◌≡◌, ℕ, suc, ◌-◌, ◌*◌, ◌<◌, List, [], ◌∷◌, ◌++◌, length, drop, set, replicate, refl, mul-zero, zero-add, mul-suc, arith}
use Rattle.std.specs.List.{flat_map, AllByRecursion}
use Rattle.std.proofs.ByRecursion.{All-append}
use Rattle.std.proofs.lemmas.List.{length-append, set_at, drop-replicate}
use Rattle.parts.specs.Blocks.{written}

-- the bytes of each word, by `bytes`, are `size` many
module _ {A : Type 0} (bytes : A → List ℕ) (size : ℕ) (sized : (x : A) → length (bytes x) ≡ size) where
  pub length_joined : (xs : List A) → length (flat_map bytes xs) ≡ size * length xs
  length_joined [] = rw mul-zero refl
  length_joined (x ∷ xs) =
      let a = length-append (bytes x) (flat_map bytes xs) in
      let b = length_joined xs in
      let d = sized x in
      let e = mul-suc size (length xs) in
      omega arith

pub all_joined : {A : Type 0} (P : ℕ → Type 0) (bytes : A → List ℕ) → ((x : A) → AllByRecursion P (bytes x)) → (xs : List A) → AllByRecursion P (flat_map bytes xs)
all_joined P bytes each [] = tt
all_joined P bytes each (x ∷ xs) = All-append P (bytes x) (flat_map bytes xs) (each x) (all_joined P bytes each xs)

-- n zeros
abbrev pub blank : ℕ → List ℕ
blank n = replicate n 0

-- the rest of a message, copied to the front of a blank buffer of n bytes, and the byte b after it
pub marked : (rest first : List ℕ) (n b : ℕ) → length rest < n → first ≡ written (blank n) 0 rest →
    set first (length rest) b ≡ rest ++ b ∷ blank (n - 1 - length rest)
marked rest first n b h f =
    let f' : first ≡ rest ++ drop (length rest) (blank n) = simp zero-add at f in
    let a : n - length rest ≡ suc (n - 1 - length rest) = omega arith in
    let d : drop (length rest) (blank n) ≡ blank (n - length rest) = drop-replicate (length rest) n 0 in
    let k : blank (n - length rest) ≡ 0 ∷ blank (n - 1 - length rest) = rw a refl in
    let e = set_at rest 0 (blank (n - 1 - length rest)) b (length rest) refl in
    cc
