-- The key grows element by element.
use Rattle.std.proofs.Common.{◌≡◌, ℕ, ◌+◌, ◌<◌, List, [], ◌∷◌, ◌++◌, length, take, set, sym, refl, ap, ◌∙◌, add-one, arith, take_all, take-suc-set}
use Rattle.std.proofs.lemmas.List.{append_assoc, append-nil}
use Rattle.kinds.specs.Kind.{Kind}
use Rattle.kinds.specs.Groups.{group_length}
use Rattle.theory.specs.Algebra.{ops_of}
use Rattle.theory.specs.Groups.{group, group_bytes}
use Rattle.theory.specs.Runs.{sum}
use Rattle.theory.proofs.Groups.{counted, written_read}

module _ (K : Kind) where
  abbrev pub sums : (xs ys zs : List (List ℕ)) → List (List ℕ)
  sums xs ys zs = sum (ops_of K) (sum (ops_of K) xs ys) zs

  -- i of n elements are written, and xs, ys, zs are left to be summed
  abbrev pub Left : (n i : ℕ) (key : List ℕ) (xs ys zs whole : List (List ℕ)) → Type 0
  Left n i key xs ys zs whole = (i + length xs ≡ n) × (length ys ≡ length xs) × (length zs ≡ length xs) × (take i (group K n key) ++ sums xs ys zs ≡ whole)

  one_more : (i : ℕ) (es es' left : List (List ℕ)) (x : List ℕ) → i < length es → es' ≡ set es i x → take (i + 1) es' ++ left ≡ take i es ++ (x ∷ left)
  one_more i es es' left x h put = (λ t. take (add-one i t) (put t) ++ left) ∙ ap (λ (l : List (List ℕ)). l ++ left) (take-suc-set es i x h) ∙ append_assoc (take i es) (x ∷ []) left

  pub key_next : (n i j i' : ℕ) (key key' : List ℕ) (xs ys zs xs' ys' zs' whole : List (List ℕ)) (a b c x : List ℕ)
      → xs ≡ a ∷ xs' → ys ≡ b ∷ ys' → zs ≡ c ∷ zs' → j ≡ i → i' ≡ i + 1 → x ≡ K.add (K.add a b) c → group K n key' ≡ set (group K n key) j x
      → Left n i key xs ys zs whole → Left n i' key' xs' ys' zs' whole
  key_next n i j i' key key' xs ys zs xs' ys' zs' whole a b c x xs_is ys_is zs_is here next is put inv =
      let below : i < length (group K n key) = omega (arith, counted K n key, ap length xs_is, inv.0) in (
        omega (arith, inv.0, next, ap length xs_is),
        omega (arith, inv.1, ap length xs_is, ap length ys_is),
        omega (arith, inv.2, ap length xs_is, ap length zs_is),
        ap (λ (k : ℕ). take k (group K n key') ++ sums xs' ys' zs') next
            ∙ one_more i (group K n key) (group K n key') (sums xs' ys' zs') x below (put ∙ ap (λ (k : ℕ). set (group K n key) k x) here)
            ∙ ap (λ (y : List ℕ). take i (group K n key) ++ (y ∷ sums xs' ys' zs')) is
            ∙ sym (λ t. take i (group K n key) ++ sums (xs_is t) (ys_is t) (zs_is t))
            ∙ inv.3,
      )

  no_sums : (xs ys zs : List (List ℕ)) → length xs ≡ 0 → sums xs ys zs ≡ []
  no_sums [] ys zs e = refl
  no_sums (x ∷ xs) ys zs e = absurd (omega arith)

  -- all of them: the buffer is their bytes
  pub key_all : (n i : ℕ) (key : List ℕ) (xs ys zs whole : List (List ℕ)) → Left n i key xs ys zs whole → length xs ≡ 0 → length key ≡ group_length K n → key ≡ group_bytes K whole
  key_all n i key xs ys zs whole inv none long =
      let e : i ≡ n = omega (arith, inv.0) in
      sym (written_read K n key long)
      ∙ ap (group_bytes K) (sym (take_all i (group K n key) (omega (arith, counted K n key))) ∙ sym (append-nil (take i (group K n key)))
      ∙ ap (λ (l : List (List ℕ)). take i (group K n key) ++ l) (sym (no_sums xs ys zs none)) ∙ inv.3)
