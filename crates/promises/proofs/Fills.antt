-- Groups filled element by element, from the front.
use Rattle.std.proofs.Common.{◌≡◌, ℕ, zero, suc, ◌+◌, ◌<◌, List, [], ◌∷◌, ◌++◌, length, take, set, sym, refl, ap, ◌∙◌, subst, append_assoc, append-nil, add-one, arith, take_all, ◌⊎◌, inl, inr}
use Rattle.std.specs.List.{AllByRecursion}
use Rattle.kinds.specs.Kind.{Kind, Lawful}
use Rattle.kinds.specs.Groups.{group_length}
use Rattle.theory.specs.Algebra.{ops_of}
use Rattle.theory.specs.Groups.{group, group_bytes}
use Rattle.theory.specs.Runs.{less}
use Rattle.theory.proofs.Groups.{counted, written_read}
use Rattle.branches.proofs.RowLemmas.{all_snoc}

-- one element more of a list that is written from the front
front_more : {A : Type 0} (xs : List A) (q : ℕ) (x : A) → q < length xs → take (suc q) (set xs q x) ≡ take q xs ++ (x ∷ [])
front_more [] q x h = absurd (omega arith)
front_more (y ∷ xs) zero x h = refl
front_more {A} (y ∷ xs) (suc q) x h = ap (λ (l : List A). y ∷ l) (front_more xs q x (omega arith))

-- the first n elements of a group of m are written, and with those left they give the whole
pub record Fills (K : Kind) (m n : ℕ) (bs : List ℕ) (left whole : List (List ℕ)) : Type 0 where
  pub room : n + length left ≡ m
  pub sized : length bs ≡ group_length K m
  pub lawful : AllByRecursion (Lawful K) (take n (group K m bs))
  pub gives : take n (group K m bs) ++ left ≡ whole

module _ (K : Kind) (m n : ℕ) (bs : List ℕ) where
  pub fill_start : (whole : List (List ℕ)) → n ≡ 0 → length whole ≡ m → length bs ≡ group_length K m → Fills K m n bs whole whole
  fill_start whole none size sized = record {
    room = omega (arith, none, size);
    sized = sized;
    lawful = subst (λ (k : ℕ). AllByRecursion (Lawful K) (take k (group K m bs))) (sym none) tt;
    gives = ap (λ (k : ℕ). take k (group K m bs) ++ whole) none;
  }

  module _ (row : List ℕ) (left left' whole : List (List ℕ)) (split : left ≡ row ∷ left') (f : Fills K m n bs left whole) where
    pub fill_below : n < m
    fill_below = omega (arith, f.room, ap length split)

    grown_by : (n' : ℕ) (bs' : List ℕ) → n' ≡ n + 1 → group K m bs' ≡ set (group K m bs) n row → take n' (group K m bs') ≡ take n (group K m bs) ++ (row ∷ [])
    grown_by n' bs' one put =
        (λ t. take ((one ∙ add-one n) t) (put t)) ∙ front_more (group K m bs) n row (omega (arith, counted K m bs, fill_below))

    pub fill_next : (n' : ℕ) (bs' : List ℕ) → n' ≡ n + 1 → group K m bs' ≡ set (group K m bs) n row → length bs' ≡ length bs → Lawful K row → Fills K m n' bs' left' whole
    fill_next n' bs' one put same good = record {
      room = omega (arith, f.room, one, ap length split);
      sized = same ∙ f.sized;
      lawful = subst (AllByRecursion (Lawful K)) (sym (grown_by n' bs' one put)) (all_snoc (Lawful K) (take n (group K m bs)) row f.lawful good);
      gives =
          ap (λ (rows : List (List ℕ)). rows ++ left') (grown_by n' bs' one put)
          ∙ append_assoc (take n (group K m bs)) (row ∷ []) left'
          ∙ ap (λ (rows : List (List ℕ)). take n (group K m bs) ++ rows) (sym split)
          ∙ f.gives;
    }

  module _ (left whole : List (List ℕ)) (none : left ≡ []) (f : Fills K m n bs left whole) where
    size : m ≡ n
    size = omega (arith, f.room, ap length none)

    all : take n (group K m bs) ≡ group K m bs
    all = take_all n (group K m bs) (omega (arith, size, counted K m bs))

    ended : group K m bs ≡ whole
    ended = sym all ∙ sym (append-nil (take n (group K m bs))) ∙ ap (λ (rows : List (List ℕ)). take n (group K m bs) ++ rows) (sym none) ∙ f.gives

    pub fill_end : bs ≡ group_bytes K whole
    fill_end = sym (written_read K m bs f.sized) ∙ ap (group_bytes K) ended

    pub fill_lawful : AllByRecursion (Lawful K) whole
    fill_lawful = subst (AllByRecursion (Lawful K)) (all ∙ ended) f.lawful

-- what is left of the third shares, where as many are left of each
none_of : {A : Type 0} (xs : List A) → length xs ≡ 0 → xs ≡ []
none_of [] e = refl
none_of (x ∷ xs) e = absurd (omega arith)

module _ (K : Kind) (ws fs ss : List (List ℕ)) (same : length fs ≡ length ws) (too : length ss ≡ length ws) where
  ended_by : length ws ≡ 0 → less (ops_of K) (less (ops_of K) ws fs) ss ≡ []
  ended_by e = ap (λ (xs : List (List ℕ)). less (ops_of K) (less (ops_of K) xs fs) ss) (none_of ws e)

  pub thirds_none : {Y : Type 0} → (Y × (((x : List (List ℕ)) × ((ws ≡ []) × (x ≡ []))) ⊎ ((x : List (List ℕ)) × ((fs ≡ []) × (x ≡ []))))) ⊎ ((x : List (List ℕ)) × ((ss ≡ []) × (x ≡ []))) → less (ops_of K) (less (ops_of K) ws fs) ss ≡ []
  thirds_none (inl (y, inl (x, e))) = ended_by (ap length e.0)
  thirds_none (inl (y, inr (x, e))) = ended_by (sym same ∙ ap length e.0)
  thirds_none (inr (x, e)) = ended_by (sym too ∙ ap length e.0)

pub length_less : (K : Kind) (xs ys : List (List ℕ)) → length ys ≡ length xs → length (less (ops_of K) xs ys) ≡ length xs
length_less K [] ys e = refl
length_less K (x ∷ xs) [] e = absurd (omega arith)
length_less K (x ∷ xs) (y ∷ ys) e = ap suc (length_less K xs ys (omega arith))

pub thirds_more : (K : Kind) (ws fs ss ws' fs' ss' : List (List ℕ)) (w f s row : List ℕ) → ws ≡ w ∷ ws' → fs ≡ f ∷ fs' → ss ≡ s ∷ ss' → row ≡ K.add (K.add w (K.neg f)) (K.neg s)
    → less (ops_of K) (less (ops_of K) ws fs) ss ≡ row ∷ less (ops_of K) (less (ops_of K) ws' fs') ss'
thirds_more K ws fs ss ws' fs' ss' w f s row a b c e =
    (λ t. less (ops_of K) (less (ops_of K) (a t) (b t)) (c t)) ∙ ap (λ (x : List ℕ). x ∷ less (ops_of K) (less (ops_of K) ws' fs') ss') (sym e)

module _ (K : Kind) (m n : ℕ) (bs : List ℕ) (key s1 s2 ws fs ss : List (List ℕ)) (a : ws ≡ key) (b : fs ≡ s1) (c : ss ≡ s2) (same : length s1 ≡ length key) (too : length s2 ≡ length key) where
  pub thirds_start : n ≡ 0 → m ≡ length key → length bs ≡ group_length K (length key)
      → (length fs ≡ length ws) × (length ss ≡ length ws) × Fills K m n bs (less (ops_of K) (less (ops_of K) ws fs) ss) (less (ops_of K) (less (ops_of K) key s1) s2)
  thirds_start none count size =
      let all = length_less K key s1 same in
      let long = length_less K (less (ops_of K) key s1) s2 (too ∙ sym all) ∙ all ∙ sym count in (
        ap length b ∙ same ∙ sym (ap length a),
        ap length c ∙ too ∙ sym (ap length a),
        subst (λ (left : List (List ℕ)). Fills K m n bs left (less (ops_of K) (less (ops_of K) key s1) s2)) (λ t. less (ops_of K) (less (ops_of K) (sym a t) (sym b t)) (sym c t))
            (fill_start K m n bs (less (ops_of K) (less (ops_of K) key s1) s2) none long (size ∙ ap (group_length K) (sym count))),
      )
