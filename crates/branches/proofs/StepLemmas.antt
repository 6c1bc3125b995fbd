-- One gate on: what is left of masks and products, and lawful wires.
use Rattle.std.proofs.Common.{◌≡◌, ℕ, zero, suc, ◌+◌, ◌<◌, List, [], ◌∷◌, length, drop, sym, refl, ap, ◌∙◌, add-zero, add-one, arith}
use Rattle.std.specs.List.{AllByRecursion}
use Rattle.kinds.specs.Kind.{Kind, Laws, Lawful}
use Rattle.locks.specs.Circuit.{Gate, ac, mc, ad, mu, mus}
use Rattle.locks.specs.Encoding.{GateFor}
use Rattle.theory.specs.Algebra.{ops_of}
use Rattle.theory.specs.Runs.{read, head, tail, rest, local, sum}
use Rattle.faults.specs.declared.Branch.{Branch}
use Rattle.faults.specs.declared.Branch.TheVariants.{One as one, Two as two, Three as three}
use Rattle.branches.specs.Views.{has, taken}
use Rattle.branches.proofs.RowLemmas.{read_lawful}

pub head_drop : (K : Kind) (xs : List (List ℕ)) (q : ℕ) → head (ops_of K) (drop q xs) ≡ read (ops_of K) xs q
head_drop K [] zero = refl
head_drop K [] (suc q) = refl
head_drop K (x ∷ xs) zero = refl
head_drop K (x ∷ xs) (suc q) = head_drop K xs q

tail_drop : (xs : List (List ℕ)) (q : ℕ) → tail (drop q xs) ≡ drop (suc q) xs
tail_drop [] zero = refl
tail_drop [] (suc q) = refl
tail_drop (x ∷ xs) zero = refl
tail_drop (x ∷ xs) (suc q) = tail_drop xs q

pub rest_drop : (g : Gate (List ℕ)) (xs : List (List ℕ)) (q : ℕ) → drop (q + has g) xs ≡ rest g (drop q xs)
rest_drop (ac a c) xs q = ap (λ (n : ℕ). drop n xs) (add-zero q)
rest_drop (mc a c) xs q = ap (λ (n : ℕ). drop n xs) (add-zero q)
rest_drop (ad a b) xs q = ap (λ (n : ℕ). drop n xs) (add-zero q)
rest_drop (mu a b) xs q = ap (λ (n : ℕ). drop n xs) (add-one q) ∙ sym (tail_drop xs q)

pub mus_one : (g : Gate (List ℕ)) (gs : List (Gate (List ℕ))) → mus (g ∷ gs) ≡ has g + mus gs
mus_one (ac a c) gs = omega arith
mus_one (mc a c) gs = omega arith
mus_one (ad a b) gs = omega arith
mus_one (mu a b) gs = omega arith

-- only a product looks at the product
pub local_taken : (K : Kind) (i : Branch) (ws : List (List ℕ)) (p : List ℕ) (g : Gate (List ℕ)) → local (ops_of K) i ws (taken K g p) g ≡ local (ops_of K) i ws p g
local_taken K one ws p (ac a c) = refl
local_taken K two ws p (ac a c) = refl
local_taken K three ws p (ac a c) = refl
local_taken K i ws p (mc a c) = refl
local_taken K i ws p (ad a b) = refl
local_taken K i ws p (mu a b) = refl

pub local_lawful : (K : Kind) → Laws K → (i : Branch) (ws : List (List ℕ)) (p : List ℕ) (own : ℕ) (g : Gate (List ℕ)) → GateFor K own g → AllByRecursion (Lawful K) ws → Lawful K p
    → Lawful K (local (ops_of K) i ws p g)
local_lawful K laws one ws p own (ac a c) f l h = laws.add_lawful _ _ (read_lawful K laws ws a l) f.1
local_lawful K laws two ws p own (ac a c) f l h = read_lawful K laws ws a l
local_lawful K laws three ws p own (ac a c) f l h = read_lawful K laws ws a l
local_lawful K laws i ws p own (mc a c) f l h = laws.mul_lawful _ _ f.1 (read_lawful K laws ws a l)
local_lawful K laws i ws p own (ad a b) f l h = laws.add_lawful _ _ (read_lawful K laws ws a l) (read_lawful K laws ws b l)
local_lawful K laws i ws p own (mu a b) f l h = h

-- sums, element by element
pub read_sum : (K : Kind) (xs ys : List (List ℕ)) (j : ℕ) → j < length xs → j < length ys → read (ops_of K) (sum (ops_of K) xs ys) j ≡ K.add (read (ops_of K) xs j) (read (ops_of K) ys j)
read_sum K [] ys j h k = absurd (omega arith)
read_sum K (x ∷ xs) [] j h k = absurd (omega arith)
read_sum K (x ∷ xs) (y ∷ ys) zero h k = refl
read_sum K (x ∷ xs) (y ∷ ys) (suc j) h k = read_sum K xs ys j (omega arith) (omega arith)

pub length_sum : (K : Kind) (xs ys : List (List ℕ)) → length xs ≡ length ys → length (sum (ops_of K) xs ys) ≡ length xs
length_sum K [] ys e = refl
length_sum K (x ∷ xs) [] e = absurd (omega arith)
length_sum K (x ∷ xs) (y ∷ ys) e = ap suc (length_sum K xs ys (omega arith))
