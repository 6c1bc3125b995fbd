-- Numbers and marks in bytes, and what view lengths do.
use Rattle.std.proofs.Common.{◌≡◌, ℕ, zero, suc, ◌+◌, ◌*◌, ◌≤◌, Bool, true, false, cond, eqb, List, [], ◌∷◌, ◌++◌, length, take, drop, Some, None, Option, sym, refl, ap, ◌∙◌, subst, arith, drop-drop}
use Rattle.std.proofs.lemmas.List.{take-append-drop}
use Rattle.std.proofs.lemmas.Bool.{eqb-true, and_parts}
use Rattle.kinds.specs.Kind.{Kind, Bytes}
use Rattle.kinds.specs.Groups.{group_length}
use Rattle.kinds.specs.Numbers.{number_of, four_bytes}
use Rattle.kinds.specs.ModularLaws.{four_number}
use Rattle.kinds.proofs.GroupLengths.{group_grows, group_short}
use Rattle.locks.specs.Limits.{most_inputs, longest_view}
use Rattle.locks.specs.Lengths.{view_length}
use Rattle.locks.specs.Reading.{GateMark, marked, gate_mark}
use Rattle.locks.specs.Refusing.{first_letter, second_letter}

-- four bytes and what lies behind them
pub number_spelled : (xs : List ℕ) → Bytes xs → 4 ≤ length xs → four_bytes (number_of xs) ++ drop 4 xs ≡ xs
number_spelled [] h k = absurd (omega arith)
number_spelled (a ∷ []) h k = absurd (omega arith)
number_spelled (a ∷ b ∷ []) h k = absurd (omega arith)
number_spelled (a ∷ b ∷ c ∷ []) h k = absurd (omega arith)
number_spelled (a ∷ b ∷ c ∷ d ∷ xs) h k = ap (λ t. t ++ xs) (four_number a b c d h.0 h.1.0 h.1.1.0 h.1.1.1.0)

pub bytes_drop : (n : ℕ) (xs : List ℕ) → Bytes xs → Bytes (drop n xs)
bytes_drop zero xs h = h
bytes_drop (suc n) [] h = tt
bytes_drop (suc n) (x ∷ xs) h = bytes_drop n xs h.1

-- what lies behind a, with its front b apart
pub cut : (a b : ℕ) (xs : List ℕ) → take b (drop a xs) ++ drop (a + b) xs ≡ drop a xs
cut a b xs = ap (λ t. take b (drop a xs) ++ t) (sym (drop-drop b a xs)) ∙ take-append-drop b (drop a xs)

-- two mark bytes, and the rest
pub mark_spelled : (a b : ℕ) (xs : List ℕ) → marked a b xs ≡ true → 2 ≤ length xs → a ∷ b ∷ drop 2 xs ≡ xs
mark_spelled a b [] h k = absurd (omega arith)
mark_spelled a b (x ∷ []) h k = absurd (omega arith)
mark_spelled a b (x ∷ y ∷ xs) h k =
    let p = and_parts (eqb x a) (eqb y b) h in
    λ i. sym (eqb-true x a p.0) i ∷ sym (eqb-true y b p.1) i ∷ xs

pub begins_so : (a b : ℕ) (xs : List ℕ) → marked a b xs ≡ true → 2 ≤ length xs → take 2 xs ≡ a ∷ b ∷ []
begins_so a b xs h k = ap (take 2) (sym (mark_spelled a b xs h k))

pub gate_marked : (xs : List ℕ) (m : GateMark) → gate_mark xs ≡ Some m → marked (first_letter m) (second_letter m) xs ≡ true
gate_marked xs m h = go (marked 65 67 xs) (marked 77 67 xs) (marked 65 68 xs) (marked 77 85 xs) refl refl refl refl h
  where
    at : (n : GateMark) → marked (first_letter n) (second_letter n) xs ≡ true → ◌≡◌ {A = Option GateMark} (Some n) (Some m) → marked (first_letter m) (second_letter m) xs ≡ true
    at n e k = subst (λ x. marked (first_letter x) (second_letter x) xs ≡ true) (let same : n ≡ m = cc in same) e

    go : (p q r s : Bool) → marked 65 67 xs ≡ p → marked 77 67 xs ≡ q → marked 65 68 xs ≡ r → marked 77 85 xs ≡ s
        → ◌≡◌ {A = Option GateMark} (cond p (Some GateMark.AddConstant) (cond q (Some GateMark.MultiplyConstant) (cond r (Some GateMark.Add) (cond s (Some GateMark.Multiply) None)))) (Some m)
        → marked (first_letter m) (second_letter m) xs ≡ true
    go true q r s ep eq er es k = at GateMark.AddConstant ep k
    go false true r s ep eq er es k = at GateMark.MultiplyConstant eq k
    go false false true s ep eq er es k = at GateMark.Add er k
    go false false false true ep eq er es k = at GateMark.Multiply es k
    go false false false false ep eq er es k = cc

module _ (K : Kind) where
  -- a view grows with its products
  pub view_grows : (k : ℕ) {m n : ℕ} → m ≤ n → view_length K k m ≤ view_length K k n
  view_grows k {m} {n} h = let g : group_length K m ≤ group_length K n = group_grows K h in omega arith

  -- inputs alone are too few to reach the limit
  pub view_starts : (k : ℕ) → K.width ≤ 16 → k ≤ most_inputs → view_length K k 0 ≤ longest_view
  view_starts k narrow few =
      let g : group_length K k ≤ k * 16 = group_short K k narrow in
      let z : group_length K 0 ≤ 0 * 16 = group_short K 0 narrow in
      omega arith
