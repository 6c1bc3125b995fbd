-- The laws of arithmetic modulo m in four bytes, for every m up to 2 ^ 32.
use Rattle.std.specs.Prelude.{◌≡◌, ℕ, suc, ◌+◌, ◌-◌, ◌*◌, ◌/◌, ◌%◌, ◌<◌, ◌≤◌, true, ◌&&◌, ltb, List, [], ◌∷◌, length, ◌==◌, nat_lt, refl}
use Rattle.std.proofs.Common.{sym, ap, ◌∙◌, arith, mod-lt, mod-eq_of_lt, add_assoc, add_comm, mul-add, add-mul, lit≤}
use Rattle.std.proofs.Math.Nat.{mod_self, mod-add-mod, add-mod-mod}
use Rattle.std.proofs.lemmas.Nat.{from_be_bytes-to_be_bytes_4, mul-mod_first, mul-mod_second}
use Rattle.std.proofs.lemmas.Bool.{false≢true, and_parts, and_from, eqb-true, ltb-true, lt-ltb}
use Rattle.kinds.specs.Kind.{Laws, Lawful, Bytes}
use Rattle.kinds.specs.Numbers.{number_of, four_bytes, all_bytes}
use Rattle.kinds.specs.Three.{modular}

pub number_four : (n : ℕ) → n < 4294967296 → number_of (four_bytes n) ≡ n
number_four n h = from_be_bytes-to_be_bytes_4 n h

pub four_number : (a b c d : ℕ) → a < 256 → b < 256 → c < 256 → d < 256 → four_bytes (a * 16777216 + b * 65536 + c * 256 + d) ≡ a ∷ b ∷ c ∷ d ∷ []
four_number a b c d ha hb hc hd =
    let n : ℕ = a * 16777216 + b * 65536 + c * 256 + d in
    let e0 : (a * 16777216 + b * 65536 + c * 256 + d) / 16777216 % 256 ≡ a = omega arith in
    let e1 : (a * 16777216 + b * 65536 + c * 256 + d) / 65536 % 256 ≡ b = omega arith in
    let e2 : (a * 16777216 + b * 65536 + c * 256 + d) / 256 % 256 ≡ c = omega arith in
    let e3 : (a * 16777216 + b * 65536 + c * 256 + d) % 256 ≡ d = omega arith in
    cc

-- a lawful row is four bytes
four_of : (m : ℕ) (k : ℕ) (x : List ℕ) → Lawful (modular k m) x → (four_bytes (number_of x) ≡ x) × (number_of x < m) × (length x ≡ 4) × Bytes x
four_of m k [] h = absurd (false≢true h)
four_of m k (a ∷ []) h = absurd (false≢true h)
four_of m k (a ∷ b ∷ []) h = absurd (false≢true h)
four_of m k (a ∷ b ∷ c ∷ []) h = absurd (false≢true h)
four_of m k (a ∷ b ∷ c ∷ d ∷ []) h =
    let x : List ℕ = a ∷ b ∷ c ∷ d ∷ [] in
    let p = and_parts (all_bytes (a ∷ b ∷ c ∷ d ∷ [])) (nat_lt (number_of (a ∷ b ∷ c ∷ d ∷ [])) m) h in
    let pa = and_parts (nat_lt a 256) (all_bytes (b ∷ c ∷ d ∷ [])) p.0 in
    let pb = and_parts (nat_lt b 256) (all_bytes (c ∷ d ∷ [])) pa.1 in
    let pc = and_parts (nat_lt c 256) (all_bytes (d ∷ [])) pb.1 in
    let pd = and_parts (nat_lt d 256) true pc.1 in
    let ha = ltb-true a 256 pa.0 in
    let hb = ltb-true b 256 pb.0 in
    let hc = ltb-true c 256 pc.0 in
    let hd = ltb-true d 256 pd.0 in
    (four_number a b c d ha hb hc hd, ltb-true (number_of (a ∷ b ∷ c ∷ d ∷ [])) m p.1, refl, (ha, (hb, (hc, (hd, tt)))))
four_of m k (a ∷ b ∷ c ∷ d ∷ e ∷ x) h =
    let l : ℕ = suc (suc (suc (suc (suc (length x))))) in
    absurd (omega (arith, eqb-true (length (a ∷ b ∷ c ∷ d ∷ e ∷ x)) 4 (and_parts (length (a ∷ b ∷ c ∷ d ∷ e ∷ x) == 4) (all_bytes (a ∷ b ∷ c ∷ d ∷ e ∷ x) && nat_lt (number_of (a ∷ b ∷ c ∷ d ∷ e ∷ x)) m) h).0))

module _ (k m : ℕ) (some : 0 < m) (most : m ≤ 4294967296) where
  pub lawful_four : (n : ℕ) → n < m → Lawful (modular k m) (four_bytes n)
  lawful_four n h =
      let small : (j : ℕ) → nat_lt (j % 256) 256 ≡ true = λ j. lt-ltb (j % 256) 256 (omega arith) in
      let e : number_of (four_bytes n) ≡ n = number_four n (omega arith) in
      let below : ltb (number_of (four_bytes n)) m ≡ true = lt-ltb (number_of (four_bytes n)) m (omega arith) in
      let bytes : all_bytes (four_bytes n) ≡ true =
      and_from _ _ (small (n / 16777216)) (and_from _ _ (small (n / 65536)) (and_from _ _ (small (n / 256)) (and_from _ _ (small n) refl))) in
      and_from (all_bytes (four_bytes n)) (nat_lt (number_of (four_bytes n)) m) bytes below

  number_mod : (n : ℕ) → number_of (four_bytes (n % m)) ≡ n % m
  number_mod n = let h : n % m < m = mod-lt n some in number_four (n % m) (omega arith)

  sums : (p q : ℕ) → (p + q) % m ≡ (number_of (four_bytes (p % m)) + number_of (four_bytes (q % m))) % m
  sums p q =
      sym (ap (λ (u : ℕ). (u + number_of (four_bytes (q % m))) % m) (number_mod p)
      ∙ ap (λ (u : ℕ). (p % m + u) % m) (number_mod q) ∙ mod-add-mod p m (q % m) ∙ add-mod-mod p q m)

  pub modular_laws : Laws (modular k m)
  modular_laws = record {
    some_width = lit≤ tt;
    most_width = lit≤ tt;
    sized = λ x h. (four_of m k x h).2;
    in_bytes = λ x h. (four_of m k x h).3;
    zero_lawful = lawful_four 0 some;
    add_lawful = λ x y h l. lawful_four ((number_of x + number_of y) % m) (mod-lt (number_of x + number_of y) some);
    neg_lawful = λ x h. lawful_four ((m - number_of x) % m) (mod-lt (m - number_of x) some);
    mul_lawful = λ x y h l. lawful_four ((number_of x * number_of y) % m) (mod-lt (number_of x * number_of y) some);
    add_assoc = λ x y z h l n. let a = number_of x in let b = number_of y in let c = number_of z in
        ap four_bytes
        (ap (λ (q : ℕ). (q + number_of z) % m) (number_mod (number_of x + number_of y))
        ∙ mod-add-mod (number_of x + number_of y) m (number_of z)
        ∙ ap (λ (q : ℕ). q % m) (add_assoc (number_of x) (number_of y) (number_of z))
        ∙ sym (add-mod-mod (number_of x) (number_of y + number_of z) m)
        ∙ ap (λ (q : ℕ). (number_of x + q) % m) (sym (number_mod (number_of y + number_of z))));
    add_comm = λ x y h l. ap (λ (q : ℕ). four_bytes (q % m)) (add_comm (number_of x) (number_of y));
    add_zero = λ x h. let f = four_of m k x h in
        ap four_bytes (ap (λ (q : ℕ). q % m) (omega arith) ∙ mod-eq_of_lt f.1) ∙ f.0;
    add_neg = λ x h. let f = four_of m k x h in
        ap four_bytes
        (ap (λ (q : ℕ). (number_of x + q) % m) (number_mod (m - number_of x))
        ∙ add-mod-mod (number_of x) (m - number_of x) m
        ∙ ap (λ (q : ℕ). q % m) (let s : number_of x + (m - number_of x) ≡ m = omega arith in s)
        ∙ mod_self m);
    mul_add = λ x y z h l n.
        ap four_bytes
        (ap (λ (q : ℕ). (number_of x * q) % m) (number_mod (number_of y + number_of z))
        ∙ mul-mod_second (number_of x) (number_of y + number_of z) m
        ∙ ap (λ (q : ℕ). q % m) (mul-add (number_of x) (number_of y) (number_of z))
        ∙ sums (number_of x * number_of y) (number_of x * number_of z));
    add_mul = λ x y z h l n.
        ap four_bytes
        (ap (λ (q : ℕ). (q * number_of z) % m) (number_mod (number_of x + number_of y))
        ∙ mul-mod_first (number_of x + number_of y) (number_of z) m
        ∙ ap (λ (q : ℕ). q % m) (add-mul (number_of x) (number_of y) (number_of z))
        ∙ sums (number_of x * number_of z) (number_of y * number_of z));
  }
