-- Rounds lie in the store, and apart.
use Rattle.std.proofs.Common.{◌≡◌, ℕ, suc, ◌+◌, ◌-◌, ◌*◌, ◌/◌, ◌<◌, ◌≤◌, min, Bool, true, false, cond, ◌&&◌, leb, ap, ◌∙◌, mul-le-mul_right, mul_comm, mul-le-mul_left, zero-mul, mul-suc, div-mul-le_self, arith}
use Rattle.locks.specs.Limits.{longest_view}
use Rattle.theory.specs.Store.{most_rounds, shortest_view, rounds_in, round_length, round_at, PlaceLaws}

few : (L n : ℕ) → rounds_in L n ≤ most_rounds
unfolding rounds_in
few L n = go (leb shortest_view L && leb L longest_view)
  where
    go : (b : Bool) → cond b (min most_rounds (n / (3 * L))) 0 ≤ most_rounds
    go true = omega arith
    go false = omega arith

enough : (L n : ℕ) → rounds_in L n * (3 * L) ≤ n
unfolding rounds_in
enough L n = go (leb shortest_view L && leb L longest_view)
  where
    go : (b : Bool) → cond b (min most_rounds (n / (3 * L))) 0 * (3 * L) ≤ n
    go true =
        let p : min most_rounds (n / (3 * L)) * (3 * L) ≤ n / (3 * L) * (3 * L) = mul-le-mul_right (3 * L) (omega arith) in
        omega (arith, p, div-mul-le_self n (3 * L))
    go false = omega (arith, zero-mul (3 * L))

behind_another : (w q r : ℕ) → 1 ≤ q → q < r → w * (q - 1) + w ≤ w * (r - 1)
behind_another w q r h k =
    let e : q ≡ suc (q - 1) = omega arith in
    let l : w * suc (q - 1) ≤ w * (r - 1) = mul-le-mul_left w (omega arith) in
    omega (arith, l, mul-suc w (q - 1))

apart : (L q r : ℕ) → 1 ≤ q → q < r → round_at L q + round_length L ≤ round_at L r
unfolding round_at
apart L q r h k = behind_another (3 * L) q r h k

within : (L n r : ℕ) → 1 ≤ r → r ≤ rounds_in L n → round_at L r + round_length L ≤ n
unfolding round_at
within L n r h b =
    let m = rounds_in L n in
    let l : 3 * L * (r - 1) + 3 * L ≤ 3 * L * (suc m - 1) = behind_another (3 * L) r (suc m) h (omega arith) in
    let e : suc m - 1 ≡ m = omega arith in
    let f : 3 * L * (suc m - 1) ≡ m * (3 * L) = ap (λ x. 3 * L * x) e ∙ mul_comm (3 * L) m in
    omega (arith, l, f, enough L n)

pub place_laws : (L n : ℕ) → PlaceLaws L n
place_laws L n = record { few = few L n; within = within L n; apart = apart L }
