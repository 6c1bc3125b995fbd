-- The first wrong one, found by going through a list from the front.
use Rattle.std.proofs.Common.{◌≡◌, ℕ, suc, ◌+◌, ◌<◌, ◌≤◌, Bool, true, false, cond, not, eqb, position, nat_lt, List, [], ◌∷◌, length, get_or, drop, is_some, Some, None, Option, sym, refl, ap, ◌∙◌, ap₂, add-zero, arith, ◌&&◌}
use Rattle.std.specs.List.{AllByRecursion, zip, position_or_len}
use Rattle.std.proofs.lemmas.Bool.Decides.{nat_tests}
use Rattle.std.proofs.lemmas.List.{drop_more, drop_all}
use Rattle.kinds.specs.Kind.{Kind, Lawful, same_row}
use Rattle.theory.specs.Algebra.{ops_of}
use Rattle.theory.specs.Runs.{read}
use Rattle.theory.specs.Tests.{later, unlawful, differ, unlike}
use Rattle.kinds.specs.Groups.{group_length}
use Rattle.theory.specs.Groups.{group, element_at}
use Rattle.theory.proofs.Groups.{counted}
use Rattle.theory.proofs.Checked.{lawful_all}
use Rattle.branches.proofs.GroupLemmas.{element_below}

-- j places on
abbrev pub from : ℕ → Option ℕ → Option ℕ
from j None = None
from j (Some i) = Some (j + i)

from_later : (j : ℕ) (o : Option ℕ) → from (j + 1) o ≡ from j (later o)
from_later j None = refl
from_later j (Some i) = let e : j + 1 + i ≡ j + suc i = omega arith in ap Some e

pub from_zero : (o : Option ℕ) → from 0 o ≡ o
from_zero None = refl
from_zero (Some i) = let e : 0 + i ≡ i = omega arith in ap Some e

-- what is left, with one test in front
pub first_passed : (j : ℕ) (b : Bool) (here left : Option ℕ) → here ≡ cond b (later left) (Some 0) → b ≡ true → from (j + 1) left ≡ from j here
first_passed j b here left e t = from_later j left ∙ sym (ap (from j) (e ∙ ap (λ (x : Bool). cond x (later left) (Some 0)) t))

pub first_failed : (j : ℕ) (b : Bool) (here left : Option ℕ) → here ≡ cond b (later left) (Some 0) → b ≡ false → Some j ≡ from j here
first_failed j b here left e t = ap Some (sym (add-zero j)) ∙ sym (ap (from j) (e ∙ ap (λ (x : Bool). cond x (later left) (Some 0)) t))

-- unlawful elements
pub unlawful_here : (K : Kind) (xs : List (List ℕ)) (j : ℕ) → j < length xs
    → unlawful K (drop j xs) ≡ cond (K.lawful (read (ops_of K) xs j)) (later (unlawful K (drop (j + 1) xs))) (Some 0)
unlawful_here K xs j h = ap (unlawful K) (drop_more xs j K.zero h)

pub unlawful_end : (K : Kind) (xs : List (List ℕ)) (j : ℕ) → length xs ≤ j → from j (unlawful K (drop j xs)) ≡ None
unlawful_end K xs j h = ap (λ (ys : List (List ℕ)). from j (unlawful K ys)) (drop_all j xs h)

pub all_lawful : (K : Kind) (xs : List (List ℕ)) → unlawful K xs ≡ None → AllByRecursion (Lawful K) xs
all_lawful K xs e = lawful_all K xs e

-- rows that differ
pub unlike_here : (xs ys : List (List ℕ)) (j : ℕ) (d : List ℕ) → j < length xs → j < length ys
    → unlike (drop j xs) (drop j ys) ≡ cond (same_row (get_or xs j d) (get_or ys j d)) (later (unlike (drop (j + 1) xs) (drop (j + 1) ys))) (Some 0)
unlike_here xs ys j d h k = ap₂ unlike (drop_more xs j d h) (drop_more ys j d k)

pub unlike_end : (xs ys : List (List ℕ)) (j : ℕ) → length xs ≤ j → length ys ≤ j → from j (unlike (drop j xs) (drop j ys)) ≡ None
unlike_end xs ys j h k = ap (from j) (ap₂ unlike (drop_all j xs h) (drop_all j ys k))

-- no offset is left exactly where the bytes are the same
pub differ_same : (xs ys : List ℕ) → not (is_some (differ xs ys)) ≡ same_row xs ys
differ_same [] [] = refl
differ_same [] (y ∷ ys) = refl
differ_same (x ∷ xs) [] = refl
differ_same (x ∷ xs) (y ∷ ys) = by (eqb x y) (differ xs ys) (differ_same xs ys) where
  by : (b : Bool) (o : Option ℕ) → not (is_some o) ≡ same_row xs ys → not (is_some (cond b (later o) (Some 0))) ≡ b && same_row xs ys
  by true None e = e
  by true (Some i) e = e
  by false o e = refl

pub not_some : (some none b : Bool) → some ≡ not none → not some ≡ b → none ≡ b
not_some some true b e f = ap not (sym e) ∙ f
not_some some false b e f = ap not (sym e) ∙ f

pub unlawful_below : (K : Kind) (xs : List (List ℕ)) (i : ℕ) → unlawful K xs ≡ Some i → i < length xs
unlawful_below K [] i e = let z : ◌≡◌ {A = ℕ} 0 1 = cc in absurd (omega arith)
unlawful_below K (x ∷ xs) i e = by (K.lawful x) (unlawful K xs) (λ j f. unlawful_below K xs j f) e where
  by : (b : Bool) (o : Option ℕ) → ((j : ℕ) → o ≡ Some j → j < length xs) → cond b (later o) (Some 0) ≡ Some i → i < suc (length xs)
  by true None more e = let z : ◌≡◌ {A = ℕ} 0 1 = cc in absurd (omega arith)
  by true (Some j) more e = let s : suc j ≡ i = cc in omega (arith, more j refl)
  by false o more e = let s : 0 ≡ i = cc in omega arith

pub unlawful_in_group : (K : Kind) (n : ℕ) (bs : List ℕ) (i : ℕ) → unlawful K (group K n bs) ≡ Some i → element_at K i + K.width ≤ group_length K n
unlawful_in_group K n bs i e = element_below K n i (omega (arith, unlawful_below K (group K n bs) i e, counted K n bs))

-- two lists of rows, compared place by place: what is left tells the first unlike place
module _ (xs ys : List (List ℕ)) (j : ℕ) (x y d : List ℕ) (b : Bool) (whole : Option ℕ) (h : j < length xs) (k : j < length ys)
    (is_x : x ≡ get_or xs j d) (is_y : y ≡ get_or ys j d) (is_b : b ≡ same_row x y) (inv : from j (unlike (drop j xs) (drop j ys)) ≡ whole) where
  told : same_row (get_or xs j d) (get_or ys j d) ≡ b
  told = sym (is_b ∙ (λ t. same_row (is_x t) (is_y t)))

  pub like_here : b ≡ true → from (j + 1) (unlike (drop (j + 1) xs) (drop (j + 1) ys)) ≡ whole
  like_here t = first_passed j (same_row (get_or xs j d) (get_or ys j d)) _ _ (unlike_here xs ys j d h k) (told ∙ t) ∙ inv

  pub unlike_found : b ≡ false → Some j ≡ whole
  unlike_found t = first_failed j (same_row (get_or xs j d) (get_or ys j d)) _ _ (unlike_here xs ys j d h k) (told ∙ t) ∙ inv

not_of : (n e : Bool) → n ≡ not e → (b : Bool) → n ≡ b → e ≡ not b
not_of n true is true h = sym h ∙ is
not_of n true is false h = refl
not_of n false is true h = refl
not_of n false is false h = sym h ∙ is

-- The same where the left rows are walked from the front and the right ones are read by number: z is the next on the left, and `n` says
-- whether the elements with the rows x and y differ.
module _ (K : Kind) (j i : ℕ) (x y z : List ℕ) (n equal : Bool) (xs zs ys : List (List ℕ)) (h : j < length ys) (front : zs ≡ z ∷ xs) (at : i ≡ j)
    (is_x : x ≡ z) (is_y : y ≡ read (ops_of K) ys i) (ne : n ≡ not equal) (eq : equal ≡ same_row x y) where
  here : unlike zs (drop j ys) ≡ cond (same_row z (read (ops_of K) ys j)) (later (unlike xs (drop (j + 1) ys))) (Some 0)
  here = ap₂ unlike front (drop_more ys j K.zero h)

  test : same_row z (read (ops_of K) ys j) ≡ equal
  test = sym (eq ∙ (λ t. same_row (is_x t) (is_y t)) ∙ ap (λ (k : ℕ). same_row z (read (ops_of K) ys k)) at)

  pub walked_alike : n ≡ false → from (j + 1) (unlike xs (drop (j + 1) ys)) ≡ from j (unlike zs (drop j ys))
  walked_alike f = first_passed j (same_row z (read (ops_of K) ys j)) (unlike zs (drop j ys)) (unlike xs (drop (j + 1) ys)) here (test ∙ not_of n equal ne false f)

  pub walked_unlike : n ≡ true → Some i ≡ from j (unlike zs (drop j ys))
  walked_unlike t = ap Some at ∙ first_failed j (same_row z (read (ops_of K) ys j)) (unlike zs (drop j ys)) (unlike xs (drop (j + 1) ys)) here (test ∙ not_of n equal ne true t)

-- the first pair of unlike bytes
pub differ_position : (xs ys : List ℕ) → length xs ≡ length ys → position (λ p. not (eqb p.0 p.1)) (zip xs ys) ≡ differ xs ys
differ_position [] [] e = refl
differ_position [] (y ∷ ys) e = absurd (omega arith)
differ_position (x ∷ xs) [] e = absurd (omega arith)
differ_position (x ∷ xs) (y ∷ ys) e =
    by (eqb x y) (position_or_len (λ p. not (eqb p.0 p.1)) (zip xs ys)) (length (zip xs ys)) (differ xs ys) (differ_position xs ys (omega arith))
  where
    further : (b : Bool) (n : ℕ) (o : Option ℕ) → cond b (Some n) None ≡ o → cond b (Some (1 + n)) None ≡ later o
    further true n o h = let e : 1 + n ≡ suc n = omega arith in ap Some e ∙ ap later h
    further false n o h = ap later h

    below : (n m : ℕ) → nat_lt (1 + n) (suc m) ≡ nat_lt n m
    below n m = grind (arith, nat_tests)

    by : (b : Bool) (n m : ℕ) (o : Option ℕ) → cond (nat_lt n m) (Some n) None ≡ o
        → cond (nat_lt (cond (not (not b)) (1 + n) 0) (suc m)) (Some (cond (not (not b)) (1 + n) 0)) None ≡ cond b (later o) (Some 0)
    by true n m o h = ap (λ t. cond t (Some (1 + n)) None) (below n m) ∙ further (nat_lt n m) n o h
    by false n m o h = let t : nat_lt 0 (suc m) ≡ true = grind (arith, nat_tests) in ap (λ b. cond b (Some 0) None) t
