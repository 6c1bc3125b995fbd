-- Elements in a group: where they lie, and what a write leaves.
use Rattle.std.proofs.Common.{◌≡◌, ℕ, zero, suc, ◌+◌, ◌*◌, ◌<◌, ◌≤◌, false, List, [], ◌∷◌, ◌++◌, length, get_or, take, drop, set, ⊎_elim, ◌≢◌, is_some, Some, None, Option, sym, ap, ◌∙◌, subst, suc-mul, zero-mul, add-one, arith, length-drop, take-take, drop-drop, take_at, drop_at, MatchOption}
use lib.Seq.{take-append-le, drop-append-le}
use Rattle.std.specs.List.{AllByRecursion}
use Rattle.std.proofs.lemmas.Bool.{cases_eq}
use Rattle.std.proofs.lemmas.List.{get_or_default, get_or-set_same, get_or-set_other, same_lists, drop-take, length-take-le, take_more, take_all}
use Rattle.std.proofs.lemmas.Slice.{drop-put_mid}
use Rattle.kinds.specs.Kind.{Kind, Lawful}
use Rattle.kinds.specs.Groups.{group_length}
use Rattle.theory.specs.Algebra.{ops_of}
use Rattle.theory.specs.Runs.{read}
use Rattle.theory.specs.Groups.{group, group_bytes, element_at}
use Rattle.theory.proofs.Groups.{counted, placed, written_read}
use Rattle.branches.specs.Rows.{row_at, put_row}
use Rattle.branches.specs.Wires.{wires_in}
use Rattle.branches.proofs.RowLemmas.{row_below, all_get}

-- a write behind the first w bytes
module _ (w a : ℕ) (row bs : List ℕ) (fits : w + a ≤ length bs) where
  long : w ≤ length (take (w + a) bs)
  long = omega (arith, length-take-le (w + a) bs fits)

  pub put_front : take w (put_row w (w + a) row bs) ≡ take w bs
  put_front = take-append-le w (take (w + a) bs) _ long ∙ take-take w (w + a) bs (omega arith)

  pub put_behind : drop w (put_row w (w + a) row bs) ≡ put_row w a row (drop w bs)
  put_behind =
      drop-append-le w (take (w + a) bs) _ long
      ∙ (λ i. drop-take w a bs i ++ (row ++ drop w (sym (drop-drop a w bs) i)))

module _ (K : Kind) where
  pub element_below : (n i : ℕ) → i < n → element_at K i + K.width ≤ group_length K n
  unfolding element_at
  element_below n i h = row_below i n K.width h

  pub element_read : (n i : ℕ) (bs : List ℕ) → i < n → read (ops_of K) (group K n bs) i ≡ row_at K.width (element_at K i) bs
  element_read n i bs h =
      let lt : i < length (group K n bs) = omega (arith, counted K n bs) in
      get_or_default (group K n bs) i K.zero [] lt ∙ placed K n i bs h

  pub element_lawful : (n i : ℕ) (bs : List ℕ) → i < n → AllByRecursion (Lawful K) (group K n bs) → Lawful K (row_at K.width (element_at K i) bs)
  element_lawful n i bs h l =
      let lt : i < length (group K n bs) = omega (arith, counted K n bs) in
      subst (Lawful K) (element_read n i bs h) (all_get (Lawful K) (group K n bs) i K.zero lt l)

  -- a written element
  pub group_set : (n i : ℕ) (row bs : List ℕ) → i < n → group_length K n ≤ length bs → length row ≡ K.width
      → group K n (put_row K.width (element_at K i) row bs) ≡ set (group K n bs) i row
  unfolding group element_at
  group_set zero i row bs h fits sized = absurd (omega arith)
  group_set (suc n) zero row bs h fits sized =
      let w = K.width in
      let here : put_row K.width (0 * K.width) row bs ≡ row ++ drop K.width bs = ap (λ (a : ℕ). put_row K.width a row bs) (zero-mul K.width) in
      (λ t. take w (here t) ∷ group K n (drop w (here t)))
      ∙ (λ t. take_at row (drop w bs) w sized t ∷ group K n (drop_at row (drop w bs) w sized t))
  group_set (suc n) (suc i) row bs h fits sized =
      let w = K.width in
      let at : suc i * K.width ≡ K.width + i * K.width = omega (arith, suc-mul i K.width) in
      let room : K.width + i * K.width ≤ length bs = omega (arith, fits, row_below (suc i) (suc n) K.width h, at) in
      let left : n * K.width ≤ length (drop K.width bs) = simp length-drop (omega (arith, fits, suc-mul n K.width)) in
      ap (λ (a : ℕ). group K (suc n) (put_row w a row bs)) at
      ∙ (λ t. put_front w (i * w) row bs room t ∷ group K n (put_behind w (i * w) row bs room t))
      ∙ ap (λ (l : List (List ℕ)). take w bs ∷ l) (group_set n i row (drop w bs) (omega arith) left sized)

  pub group_behind : (n i : ℕ) (row bs : List ℕ) → i < n → group_length K n ≤ length bs → length row ≡ K.width
      → drop (group_length K n) (put_row K.width (element_at K i) row bs) ≡ drop (group_length K n) bs
  group_behind n i row bs h fits sized =
      let below : element_at K i + K.width ≤ group_length K n = element_below n i h in
      drop-put_mid (element_at K i) K.width bs row (group_length K n) below (omega arith) sized

-- what was read says whether the row is lawful
pub some_lawful : {A : Type 0} (K : Kind) (row : A → List ℕ) → ((x : A) → Lawful K (row x)) → (o : Option A) (r : List ℕ)
    → MatchOption o (K.lawful r ≡ false) (λ x. row x ≡ r) → is_some o ≡ K.lawful r
some_lawful K row all None r h = sym h
some_lawful K row all (Some x) r h = sym (all x) ∙ ap K.lawful h

-- a group copied to the wires, one element at a time
module _ (K : Kind) (n i : ℕ) (bs : List ℕ) where
  pub wires_next : (work work' x : List ℕ) → i < n → wires_in K i work ≡ take i (group K n bs) → x ≡ read (ops_of K) (group K n bs) i
      → wires_in K (suc i) work' ≡ wires_in K i work ++ (x ∷ []) → wires_in K (i + 1) work' ≡ take (i + 1) (group K n bs)
  wires_next work work' x h inv is grown =
      let lt : i < length (group K n bs) = omega (arith, counted K n bs) in
      ap (λ (m : ℕ). wires_in K m work') (add-one i) ∙ grown ∙ (λ t. inv t ++ (is t ∷ [])) ∙ sym (take_more (group K n bs) i K.zero lt)

  pub wires_all : (work : List ℕ) → i ≡ n → wires_in K i work ≡ take i (group K n bs) → wires_in K n work ≡ group K n bs
  wires_all work e inv =
      let past : length (group K n bs) ≤ i = omega (arith, counted K n bs) in
      ap (λ (m : ℕ). wires_in K m work) (sym e) ∙ inv ∙ take_all i (group K n bs) past

-- what holds below i and at i
pub one_more : (P : ℕ → Type 0) (i : ℕ) → ((k : ℕ) → k < i → P k) → P i → (k : ℕ) → k < i + 1 → P k
one_more P i h last k lt = ⊎_elim (λ e. subst P (sym e) last) (λ ne. h k (omega arith)) (cases_eq k i)

module _ (K : Kind) (n : ℕ) where
  -- element i was written
  module _ (i : ℕ) (row bs bs' : List ℕ) (put : group K n bs' ≡ set (group K n bs) i row) where
    pub element_put : i < n → read (ops_of K) (group K n bs') i ≡ row
    element_put h =
        let lt : i < length (group K n bs) = omega (arith, counted K n bs) in
        ap (λ (l : List (List ℕ)). read (ops_of K) l i) put ∙ get_or-set_same (group K n bs) i row K.zero lt

    pub element_kept : (k : ℕ) → k ≢ i → read (ops_of K) (group K n bs') k ≡ read (ops_of K) (group K n bs) k
    element_kept k ne = ap (λ (l : List (List ℕ)). read (ops_of K) l k) put ∙ get_or-set_other (group K n bs) i k row K.zero ne

  -- bytes that hold n elements are their bytes
  pub written : (bs : List ℕ) (es : List (List ℕ)) → length bs ≡ group_length K n → length es ≡ n
      → ((i : ℕ) → i < n → read (ops_of K) (group K n bs) i ≡ read (ops_of K) es i) → bs ≡ group_bytes K es
  written bs es sized long h =
      sym (written_read K n bs sized) ∙ ap (group_bytes K) (same_lists (group K n bs) es (counted K n bs ∙ sym long) each)
    where
      each : (k : ℕ) (d : List ℕ) → k < length (group K n bs) → get_or (group K n bs) k d ≡ get_or es k d
      each k d lt =
          let below : k < n = omega (arith, counted K n bs) in
          get_or_default (group K n bs) k d K.zero lt ∙ h k below ∙ get_or_default es k K.zero d (omega arith)
