-- How many rounds a store holds, and where they lie.
use borrow.Rule.Slice.PartMut.{put_mid}
use Rattle.std.specs.List.{between}
use Rattle.std.proofs.Common.{◌≡◌, ℕ, suc, ◌+◌, ◌-◌, ◌++◌, List, take, drop, ap, ◌∙◌, drop-drop, length-drop, length-take-le, ◌*◌, ◌/◌, ◌<◌, ◌≤◌, min, Bool, true, false, cond, ◌&&◌, leb, ◌⊎◌, length, Ok, inl, inr, mul-le-mul_right, mul_comm, mul-le-mul_left, zero-mul, mul-suc, div-mul-le_self, arith, sym, subst}
use Rattle.std.proofs.lemmas.Bool.Decides.{nat_tests}
use Rattle.theory.specs.Store.{rounds_in, round_at, put}
use Rattle.theory.proofs.Places.{place_laws}
use Rattle.theory.specs.Keeper.{round_open}
use Rattle.keeper.specs.Model.{Placed, values_of}
use Rattle.keeper.specs.declared.Keeper.{Keeper}
use Rattle.keeper.proofs.Tables.{open_range}

-- what is known of a number of rounds
pub record RoomsFor (L n m : ℕ) : Type 0 where
  pub value : m ≡ rounds_in L n
  pub few : m ≤ 64
  pub short : 0 < m → L ≤ 65535
  pub room : m * (3 * L) ≤ n

none_in : (L n : ℕ) → (L < 33) ⊎ ((33 ≤ L) × (65535 < L)) → 0 ≡ rounds_in L n
unfolding rounds_in
none_in L n (inl h) = grind (arith, nat_tests)
none_in L n (inr h) = let k = h.1 in grind (arith, nat_tests)

some_in : (L n m : ℕ) → 33 ≤ L → L ≤ 65535 → m ≡ min 64 (n / (3 * L)) → m ≡ rounds_in L n
unfolding rounds_in
some_in L n m h k e = grind (arith, nat_tests)

few_in : (L n : ℕ) → rounds_in L n ≤ 64
few_in L n = (place_laws L n).few

short_in : (L n : ℕ) → 0 < rounds_in L n → L ≤ 65535
unfolding rounds_in
short_in L n h = grind (arith, nat_tests)

enough_in : (L n : ℕ) → rounds_in L n * (3 * L) ≤ n
unfolding rounds_in
enough_in L n = go (leb 33 L && leb L 65535)
  where
    go : (b : Bool) → cond b (min 64 (n / (3 * L))) 0 * (3 * L) ≤ n
    go true =
        let p : min 64 (n / (3 * L)) * (3 * L) ≤ n / (3 * L) * (3 * L) = mul-le-mul_right (3 * L) (omega arith) in
        omega (arith, p, div-mul-le_self n (3 * L))
    go false = omega (arith, zero-mul (3 * L))

rooms : (L n m : ℕ) → m ≡ rounds_in L n → RoomsFor L n m
rooms L n m e = record {
  value = e;
  few = subst (λ (k : ℕ). k ≤ 64) (sym e) (few_in L n);
  short = subst (λ (k : ℕ). 0 < k → L ≤ 65535) (sym e) (short_in L n);
  room = subst (λ (k : ℕ). k * (3 * L) ≤ n) (sym e) (enough_in L n);
}

pub none_for : (L n : ℕ) → (L < 33) ⊎ ((33 ≤ L) × (65535 < L)) → RoomsFor L n 0
none_for L n h = rooms L n 0 (none_in L n h)

pub some_for : (L n m : ℕ) → 33 ≤ L → L ≤ 65535 → m ≡ min 64 (n / (3 * L)) → RoomsFor L n m
some_for L n m h k e = rooms L n m (some_in L n m h k e)

-- a round of those that there is room for
pub placed_in : (cap L r n : ℕ) → L ≤ 65535 → 1 ≤ r → r ≤ cap → cap ≤ 64 → cap * (3 * L) ≤ n → Placed L r n
unfolding round_at
placed_in cap L r n short low high few room =
    let e : suc (r - 1) ≡ r = omega arith in
    let p : 3 * L * suc (r - 1) ≤ 3 * L * cap = mul-le-mul_left (3 * L) (omega arith) in
    record { short = short; low = low; high = omega arith; room = omega (arith, p, mul-suc (3 * L) (r - 1), mul_comm (3 * L) cap, room) }

-- an open round lies in the keeper's store
pub placed_here : (k : Keeper) (r : ℕ) → round_open (values_of k) r ≡ Ok tt → Placed k.view_length r (length k.store.now)
placed_here k r h =
    let o = open_range k.records.items r h in
    placed_in k.capacity k.view_length r (length k.store.now) (k.short (omega (arith, o.0, o.1, k.within))) o.0 (omega (arith, o.1, k.within)) k.few k.room

-- `store[a..a + n]` came to hold zs
pub put_mid_lem : (a n : ℕ) (xs ys zs : List ℕ) → ys ≡ zs → length zs ≡ n → put_mid a (a + n - a) xs ys ≡ put xs a zs
put_mid_lem a n xs ys zs e h =
    let k : a + n - a ≡ n = omega arith in
    (λ i. put_mid a (k i) xs (e i)) ∙ ap (λ (l : List ℕ). take a xs ++ (zs ++ l)) (drop-drop n a xs ∙ ap (λ (m : ℕ). drop (a + m) xs) (sym h))

pub long : (a n : ℕ) (xs : List ℕ) → a + n ≤ length xs → length (between a (a + n) xs) ≡ n
long a n xs h =
    let k : a + n - a ≡ n = omega arith in
    let l : a + n - a ≤ length (drop a xs) = omega (arith, length-drop a xs) in
    length-take-le (a + n - a) (drop a xs) l ∙ k
