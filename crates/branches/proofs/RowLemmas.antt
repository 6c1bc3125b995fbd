-- Wires in a work space and elements in a group: where they lie, and what a write leaves.
use Rattle.std.proofs.Common.{◌≡◌, ℕ, zero, suc, ◌+◌, ◌*◌, ◌<◌, ◌≤◌, List, [], ◌∷◌, ◌++◌, length, get_or, take, drop, sym, refl, ap, ◌∙◌, subst, mul-le-mul_right, suc-mul, add_comm, zero-mul, arith, length-drop, take-append-drop, length-take-le, drop-drop, take_at, drop_at}
use lib.Seq.{take-append-le, drop-append-le}
use Rattle.std.specs.List.{AllByRecursion}
use Rattle.kinds.specs.Kind.{Kind, Laws, Lawful}
use Rattle.theory.specs.Algebra.{ops_of}
use Rattle.theory.specs.Runs.{read}
use Rattle.branches.specs.Rows.{row_at, put_row}
use Rattle.branches.specs.Wires.{wires_in}

pub row_below : (a n w : ℕ) → a < n → a * w + w ≤ n * w
row_below a n w h = let m : suc a * w ≤ n * w = mul-le-mul_right w h in omega (arith, suc-mul a w)

-- lists of which all elements have a property
pub all_snoc : {A : Type 0} (P : A → Type 0) (xs : List A) (x : A) → AllByRecursion P xs → P x → AllByRecursion P (xs ++ (x ∷ []))
all_snoc P [] x h p = (p, tt)
all_snoc P (y ∷ ys) x h p = (h.0, all_snoc P ys x h.1 p)

pub all_get : {A : Type 0} (P : A → Type 0) (xs : List A) (a : ℕ) (z : A) → a < length xs → AllByRecursion P xs → P (get_or xs a z)
all_get P [] a z h l = absurd (omega arith)
all_get P (y ∷ ys) zero z h l = l.0
all_get P (y ∷ ys) (suc a) z h l = all_get P ys a z (omega arith) l.1

module _ (K : Kind) where
  -- row suc a lies behind the first
  shift : (a : ℕ) (bs : List ℕ) → row_at K.width (suc a * K.width) bs ≡ row_at K.width (a * K.width) (drop K.width bs)
  shift a bs =
      let w = K.width in
      ap (take w) (ap (λ (m : ℕ). drop m bs) (suc-mul a w ∙ add_comm (a * w) w) ∙ sym (drop-drop (a * w) w bs))

  at_zero : (bs : List ℕ) → row_at K.width (0 * K.width) bs ≡ take K.width bs
  at_zero bs = ap (λ (m : ℕ). take K.width (drop m bs)) (zero-mul K.width)

  pub wires_read : (n : ℕ) (bs : List ℕ) (a : ℕ) (z : List ℕ) → a < n → get_or (wires_in K n bs) a z ≡ row_at K.width (a * K.width) bs
  unfolding wires_in
  wires_read zero bs a z h = absurd (omega arith)
  wires_read (suc n) bs zero z h = sym (at_zero bs)
  wires_read (suc n) bs (suc a) z h = wires_read n (drop K.width bs) a z (omega arith) ∙ sym (shift a bs)

  -- one wire more
  pub wires_more : (n : ℕ) (bs : List ℕ) → wires_in K (suc n) bs ≡ wires_in K n bs ++ (row_at K.width (n * K.width) bs ∷ [])
  unfolding wires_in
  wires_more zero bs = ap (λ (r : List ℕ). r ∷ []) (sym (at_zero bs))
  wires_more (suc n) bs =
      let w = K.width in
      ap (λ (l : List (List ℕ)). take w bs ∷ l) (wires_more n (drop w bs) ∙ ap (λ (r : List ℕ). wires_in K n (drop w bs) ++ (r ∷ [])) (sym (shift n bs)))

  pub wires_length : (n : ℕ) (bs : List ℕ) → length (wires_in K n bs) ≡ n
  unfolding wires_in
  wires_length zero bs = refl
  wires_length (suc n) bs = ap suc (wires_length n (drop K.width bs))

  pub wires_none : (bs : List ℕ) → wires_in K 0 bs ≡ []
  unfolding wires_in
  wires_none bs = refl

  -- only the front counts
  pub wires_front : (n : ℕ) (p r : List ℕ) → n * K.width ≤ length p → wires_in K n (p ++ r) ≡ wires_in K n p
  unfolding wires_in
  wires_front zero p r h = refl
  wires_front (suc n) p r h =
      let w = K.width in
      let m : n * K.width + K.width ≤ length p = omega (arith, suc-mul n K.width) in
      let here : K.width ≤ length p = omega arith in
      let left : n * K.width ≤ length (drop K.width p) = simp length-drop (omega arith) in
      (λ i. take-append-le w p r here i ∷ wires_in K n (drop-append-le w p r here i)) ∙ ap (λ (l : List (List ℕ)). take w p ∷ l) (wires_front n (drop w p) r left)

  module _ (n : ℕ) (work row : List ℕ) (fits : n * K.width ≤ length work) where
    e : length (take (n * K.width) work) ≡ n * K.width
    e = length-take-le (n * K.width) work fits

    kept : wires_in K n (put_row K.width (n * K.width) row work) ≡ wires_in K n work
    kept =
        let front = take (n * K.width) work in
        let h : n * K.width ≤ length (take (n * K.width) work) = omega (arith, e) in
        wires_front n front (row ++ drop K.width (drop (n * K.width) work)) h
        ∙ sym (wires_front n front (drop (n * K.width) work) h)
        ∙ ap (wires_in K n) (take-append-drop (n * K.width) work)

    put : length row ≡ K.width → row_at K.width (n * K.width) (put_row K.width (n * K.width) row work) ≡ row
    put sized =
        ap (take K.width) (drop_at (take (n * K.width) work) (row ++ drop K.width (drop (n * K.width) work)) (n * K.width) e)
        ∙ take_at row (drop K.width (drop (n * K.width) work)) K.width sized

    -- writing wire n adds it to the wires
    pub wires_put : length row ≡ K.width → wires_in K (suc n) (put_row K.width (n * K.width) row work) ≡ wires_in K n work ++ (row ∷ [])
    wires_put sized = wires_more n (put_row K.width (n * K.width) row work) ∙ (λ i. kept i ++ (put sized i ∷ []))

  -- a wire below n is lawful where all n are
  pub wire_lawful : (n : ℕ) (bs : List ℕ) (a : ℕ) → a < n → AllByRecursion (Lawful K) (wires_in K n bs) → Lawful K (row_at K.width (a * K.width) bs)
  wire_lawful n bs a h l =
      let lt : a < length (wires_in K n bs) = omega (arith, wires_length n bs) in
      subst (Lawful K) (wires_read n bs a K.zero h) (all_get (Lawful K) (wires_in K n bs) a K.zero lt l)

  -- whatever is read of lawful rows is lawful: past the end it is zero
  pub read_lawful : Laws K → (ws : List (List ℕ)) (a : ℕ) → AllByRecursion (Lawful K) ws → Lawful K (read (ops_of K) ws a)
  read_lawful laws [] a l = laws.zero_lawful
  read_lawful laws (y ∷ ys) zero l = l.0
  read_lawful laws (y ∷ ys) (suc a) l = read_lawful laws ys a l.1
