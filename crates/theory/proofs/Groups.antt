-- Groups of elements: read as written, written as read.
use Rattle.std.proofs.Common.{◌≡◌, ℕ, zero, suc, ◌+◌, ◌*◌, ◌<◌, ◌≤◌, List, [], ◌∷◌, ◌++◌, length, get_or, take, drop, sym, refl, ap, ◌∙◌, subst, ap₂, append_assoc, append-nil, suc-mul, zero-mul, arith, length-append, take-take, drop-drop, take_at, drop_at}
use Rattle.std.proofs.lemmas.List.{take-append-drop, drop-take, length-take-le}
use Rattle.std.specs.List.{AllByRecursion}
use Rattle.kinds.specs.Kind.{Kind, Laws, Lawful, Bytes}
use Rattle.kinds.specs.Groups.{group_length}
use Rattle.theory.specs.Groups.{group, group_bytes, element_at, GroupLaws}

-- what lies behind a, with its front b apart
pub cut : {A : Type 0} (a b : ℕ) (xs : List A) → take b (drop a xs) ++ drop (a + b) xs ≡ drop a xs
cut a b xs = ap (λ t. take b (drop a xs) ++ t) (sym (drop-drop b a xs)) ∙ take-append-drop b (drop a xs)

pub all_append : {A : Type 0} (P : A → Type 0) (xs ys : List A) → AllByRecursion P xs → AllByRecursion P ys → AllByRecursion P (xs ++ ys)
all_append P [] ys h k = k
all_append P (x ∷ xs) ys h k = (h.0, all_append P xs ys h.1 k)

-- the places that know how a group lies in bytes
module _ (K : Kind) where
  pub counted : (n : ℕ) (xs : List ℕ) → length (group K n xs) ≡ n
  unfolding group
  counted zero xs = refl
  counted (suc n) xs = ap suc (counted n (drop K.width xs))

  pub fronted : (n : ℕ) (xs : List ℕ) → group K n (take (group_length K n) xs) ≡ group K n xs
  unfolding group
  fronted zero xs = refl
  fronted (suc n) xs =
      let w = K.width in
      let e : suc n * w ≡ w + n * w = omega (arith, suc-mul n w) in
      ap (λ j. group K (suc n) (take j xs)) e
      ∙ ap₂ {C = List (List ℕ)} (λ z zs. z ∷ zs) (take-take w (w + n * w) xs (omega arith)) (ap (group K n) (drop-take w (n * w) xs) ∙ fronted n (drop w xs))

  pub written_read : (n : ℕ) (xs : List ℕ) → length xs ≡ group_length K n → group_bytes K (group K n xs) ≡ xs
  unfolding group group_bytes
  written_read zero xs h = none xs (h ∙ zero-mul K.width)
    where
      none : (ys : List ℕ) → length ys ≡ 0 → [] ≡ ys
      none [] k = refl
      none (y ∷ ys) k = absurd (omega arith)
  written_read (suc n) xs h =
      let w = K.width in
      let e : length (drop w xs) ≡ n * w = simp lib.ListN.length-drop (omega (arith, suc-mul n w)) in
      ap (λ t. take w xs ++ t) (written_read n (drop w xs) e) ∙ take-append-drop w xs

  pub no_bytes : group_bytes K [] ≡ []
  unfolding group_bytes
  no_bytes = refl

  pub placed : (n i : ℕ) (xs : List ℕ) → i < n → get_or (group K n xs) i [] ≡ take K.width (drop (element_at K i) xs)
  unfolding group element_at
  placed zero i xs h = absurd (omega arith)
  placed (suc n) zero xs h = ap (λ j. take K.width (drop j xs)) (sym (zero-mul K.width))
  placed (suc n) (suc i) xs h =
      let w = K.width in
      let e : w + i * w ≡ suc i * w = omega (arith, suc-mul i w) in
      placed n i (drop w xs) (omega arith) ∙ ap (take w) (drop-drop (i * w) w xs ∙ ap (λ j. drop j xs) e)

  module _ (laws : Laws K) where
    pub read_written : (es : List (List ℕ)) (rest : List ℕ) → AllByRecursion (Lawful K) es → group K (length es) (group_bytes K es ++ rest) ≡ es
    unfolding group group_bytes
    read_written [] rest ok = refl
    read_written (e ∷ es) rest ok =
        let again = append_assoc e (group_bytes K es) rest in
        ap₂ {C = List (List ℕ)} (λ z zs. z ∷ zs)
        (ap (take K.width) again ∙ take_at e (group_bytes K es ++ rest) K.width (laws.sized e ok.0))
        (ap (λ t. group K (length es) (drop K.width t)) again ∙ ap (group K (length es)) (drop_at e (group_bytes K es ++ rest) K.width (laws.sized e ok.0)) ∙ read_written es rest ok.1)

    pub sized : (es : List (List ℕ)) → AllByRecursion (Lawful K) es → length (group_bytes K es) ≡ group_length K (length es)
    unfolding group_bytes
    sized [] ok = sym (zero-mul K.width)
    sized (e ∷ es) ok = length-append e (group_bytes K es) ∙ omega (arith, laws.sized e ok.0, sized es ok.1, suc-mul (length es) K.width)

    pub in_bytes : (es : List (List ℕ)) → AllByRecursion (Lawful K) es → Bytes (group_bytes K es)
    unfolding group_bytes
    in_bytes [] ok = tt
    in_bytes (e ∷ es) ok = all_append (λ b. b < 256) e (group_bytes K es) (laws.in_bytes e ok.0) (in_bytes es ok.1)

  pub group_laws : GroupLaws K
  group_laws = record {
    counted = counted;
    fronted = fronted;
    written_read = written_read;
    read_written = read_written;
    sized = sized;
    in_bytes = in_bytes;
    placed = placed;
  }

  -- what follows from the laws
  pub bytes_group : (n : ℕ) (xs : List ℕ) → group_length K n ≤ length xs → group_bytes K (group K n xs) ≡ take (group_length K n) xs
  bytes_group n xs h = ap (group_bytes K) (sym (fronted n xs)) ∙ written_read n (take (group_length K n) xs) (length-take-le (group_length K n) xs h)

  module _ (laws : Laws K) where
    pub sized_as : (n : ℕ) (es : List (List ℕ)) → AllByRecursion (Lawful K) es → length es ≡ n → length (group_bytes K es) ≡ group_length K n
    sized_as n es ok h = sized laws es ok ∙ ap (group_length K) h

    pub read_as : (n : ℕ) (es : List (List ℕ)) (rest : List ℕ) → AllByRecursion (Lawful K) es → length es ≡ n → group K n (group_bytes K es ++ rest) ≡ es
    read_as n es rest ok h = subst (λ j. group K j (group_bytes K es ++ rest) ≡ es) h (read_written laws es rest ok)

    pub read_whole : (n : ℕ) (es : List (List ℕ)) → AllByRecursion (Lawful K) es → length es ≡ n → group K n (group_bytes K es) ≡ es
    read_whole n es ok h = ap (group K n) (sym (append-nil (group_bytes K es))) ∙ read_as n es [] ok h

    -- groups of one size with equal bytes are equal
    pub same_groups : (xs ys : List (List ℕ)) → AllByRecursion (Lawful K) xs → AllByRecursion (Lawful K) ys → length xs ≡ length ys → group_bytes K xs ≡ group_bytes K ys → xs ≡ ys
    same_groups xs ys okx oky h k = sym (read_whole (length ys) xs okx h) ∙ ap (group K (length ys)) k ∙ read_whole (length ys) ys oky refl
