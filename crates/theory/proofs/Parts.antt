-- Views, tapes, first messages and answers: read as written, written as read.
use Rattle.std.proofs.Common.{◌≡◌, ℕ, ◌+◌, ◌*◌, ◌≤◌, List, [], ◌∷◌, ◌++◌, length, take, drop, sym, refl, ap, ◌∙◌, ap₂, arith, length-append, length-drop, length-take, take_all, take_at, drop_at}
use lib.Seq.{drop-append-add}
use Rattle.std.proofs.lemmas.List.{take-append-drop, length-take-le}
use Rattle.std.specs.List.{AllByRecursion}
use Rattle.kinds.specs.Groups.{group_length}
use Rattle.kinds.specs.Kind.{Kind, Lawful, Laws}
use Rattle.locks.specs.Circuit.{Circuit, mus}
use Rattle.theory.specs.Branches.{Tape, ViewFor, TapeFor, shares_on, masks_on}
use Rattle.theory.specs.Groups.{group_bytes, group}
use Rattle.theory.specs.Lawfulness.{ViewLawful, TapeLawful}
use Rattle.theory.specs.Messages.{view_bytes, length_of_view, shares_length, masks_length, outs_length, view_of, length_of_tape, blind_in, shares_in, masks_in, tape_of, tape_bytes, length_of_first, outs_in, seal_in, length_of_answer, picked_view, next_view, first_bytes, pick_byte, answer_bytes, Blinded, MessageLaws}
use Rattle.theory.specs.Runs.{Branch, one, two, three, View}
use Rattle.theory.proofs.Groups.{cut, counted, no_bytes, bytes_group, written_read, sized_as, read_as, read_whole}

-- behind a known front
pub skip_front : {A : Type 0} (a b : ℕ) (xs ys : List A) → length xs ≡ a → drop (a + b) (xs ++ ys) ≡ drop b ys
skip_front a b xs ys h = ap (λ j. drop (j + b) (xs ++ ys)) (sym h) ∙ drop-append-add xs ys b

pub at_front : {A : Type 0} (a b c : ℕ) (xs ys : List A) → length xs ≡ a → c ≡ a + b → drop c (xs ++ ys) ≡ drop b ys
at_front a b c xs ys h e = ap (λ j. drop j (xs ++ ys)) e ∙ skip_front a b xs ys h

module _ (K : Kind) (l : Circuit (List ℕ)) where
  abbrev kl : ℕ
  kl = shares_length K l

  abbrev Ml : ℕ
  Ml = masks_length K l

  pub view_is : length_of_view K l ≡ 32 + kl + Ml + Ml
  view_is = omega arith

  pub tape_is : length_of_tape K l ≡ 96 + kl + kl + Ml + Ml + Ml
  tape_is = omega arith

  pub first_is : (d : ℕ) → length_of_first K l d ≡ 2 + outs_length K l + outs_length K l + outs_length K l + d + d + d
  first_is d = omega arith

  pub view_written : (xs : List ℕ) → length xs ≡ length_of_view K l → view_bytes K (view_of K l xs) ≡ xs
  unfolding view_of view_bytes
  view_written xs h =
      ap (λ t. take 32 xs ++ t)
      (ap₂ (λ s t. s ++ t) (bytes_group K l.inputs (drop 32 xs) (simp length-drop (omega arith)))
      (ap₂ (λ s t. s ++ t) (bytes_group K (mus l.gates) (drop (32 + kl) xs) (simp length-drop (omega arith)))
      (bytes_group K (mus l.gates) (drop (32 + kl + Ml) xs) (simp length-drop (omega arith)) ∙ take_all Ml (drop (32 + kl + Ml) xs) (simp length-drop (omega arith)))
      ∙ cut (32 + kl) Ml xs)
      ∙ cut 32 kl xs)
      ∙ take-append-drop 32 xs

  pub view_for : (xs : List ℕ) → ViewFor l (view_of K l xs).1
  unfolding view_of
  view_for xs = record {
    shared = counted K l.inputs (drop 32 xs);
    masked = counted K (mus l.gates) (drop (32 + kl) xs);
    multiplied = counted K (mus l.gates) (drop (32 + kl + Ml) xs);
  }

  pub blind_long : (xs : List ℕ) → length xs ≡ length_of_view K l → length (view_of K l xs).0 ≡ 32
  unfolding view_of
  blind_long xs h = simp length-take (omega arith)

  pub long_view : Laws K → (r : List ℕ × View (List ℕ)) → length r.0 ≡ 32 → ViewFor l r.1 → ViewLawful K r.1 → length (view_bytes K r) ≡ length_of_view K l
  unfolding view_bytes
  long_view keeps r h for ok =
      let a = sized_as K keeps l.inputs r.1.wires ok.wires_lawful for.shared in
      let b = sized_as K keeps (mus l.gates) r.1.masks ok.masks_lawful for.masked in
      let c = sized_as K keeps (mus l.gates) r.1.products ok.products_lawful for.multiplied in
      simp length-append (omega (arith, view_is))

  pub view_read : Laws K → (r : List ℕ × View (List ℕ)) → length r.0 ≡ 32 → ViewFor l r.1 → ViewLawful K r.1 → view_of K l (view_bytes K r) ≡ r
  unfolding view_of view_bytes
  view_read keeps r h for ok =
      let B = r.0 in
      let W = group_bytes K r.1.wires in
      let M = group_bytes K r.1.masks in
      let P = group_bytes K r.1.products in
      let lw = sized_as K keeps l.inputs r.1.wires ok.wires_lawful for.shared in
      let lm = sized_as K keeps (mus l.gates) r.1.masks ok.masks_lawful for.masked in
      let wires-is : group K l.inputs (drop 32 (view_bytes K r)) ≡ r.1.wires =
      ap (group K l.inputs) (drop_at B (W ++ (M ++ P)) 32 h) ∙ read_as K keeps l.inputs r.1.wires (M ++ P) ok.wires_lawful for.shared in
      let masks-is : group K (mus l.gates) (drop (32 + kl) (view_bytes K r)) ≡ r.1.masks =
      ap (group K (mus l.gates)) (skip_front 32 kl B (W ++ (M ++ P)) h ∙ drop_at W (M ++ P) kl lw) ∙ read_as K keeps (mus l.gates) r.1.masks P ok.masks_lawful for.masked in
      let products-is : group K (mus l.gates) (drop (32 + kl + Ml) (view_bytes K r)) ≡ r.1.products =
      ap (group K (mus l.gates)) (at_front 32 (kl + Ml) (32 + kl + Ml) B (W ++ (M ++ P)) h (omega arith) ∙ skip_front kl Ml W (M ++ P) lw ∙ drop_at M P Ml lm) ∙ read_whole K keeps (mus l.gates) r.1.products ok.products_lawful for.multiplied in
      λ i. (take_at B (W ++ (M ++ P)) 32 h i, record { wires = wires-is i; masks = masks-is i; products = products-is i })

  pub answer_read : (e : Branch) (a b : List ℕ) → length a ≡ length_of_view K l → length b ≡ length_of_view K l
      → (picked_view K l (answer_bytes e a b) ≡ a) × (next_view K l (answer_bytes e a b) ≡ b) × (length (answer_bytes e a b) ≡ length_of_answer K l)
  answer_read e a b ha hb = (
    take_at a b (length_of_view K l) ha,
    skip_front 3 (length_of_view K l) (65 ∷ 78 ∷ pick_byte e ∷ []) (a ++ b) refl ∙ drop_at a b (length_of_view K l) ha,
    omega (arith, length-append a b),
  )

  cut_to : (a b c : ℕ) (xs : List ℕ) → c ≡ a + b → take b (drop a xs) ++ drop c xs ≡ drop a xs
  cut_to a b c xs e = ap (λ j. take b (drop a xs) ++ drop j xs) e ∙ cut a b xs

  -- a part of bytes that is a whole group
  pub part_written : (n at : ℕ) (xs : List ℕ) → at + group_length K n ≤ length xs → group_bytes K (group K n (take (group_length K n) (drop at xs))) ≡ take (group_length K n) (drop at xs)
  part_written n at xs h = written_read K n (take (group_length K n) (drop at xs)) (length-take-le (group_length K n) (drop at xs) (simp length-drop (omega arith)))

  pub tape_written : (xs : List ℕ) → length xs ≡ length_of_tape K l → tape_bytes K l (blind_in K l xs) (tape_of K l xs) ≡ xs
  tape_written xs h =
      let s1 = 96 + 0 * kl in
      let s2 = 96 + 1 * kl in
      let o1 = 96 + 2 * kl + 0 * Ml in
      let o2 = 96 + 2 * kl + 1 * Ml in
      let o3 = 96 + 2 * kl + 2 * Ml in
      (λ i. take 32 xs ++ (take 32 (drop 32 xs) ++ (take 32 (drop 64 xs) ++ (part_written l.inputs s1 xs (omega arith) i ++ (part_written l.inputs s2 xs (omega arith) i
      ++ (part_written (mus l.gates) o1 xs (omega arith) i ++ (part_written (mus l.gates) o2 xs (omega arith) i ++ part_written (mus l.gates) o3 xs (omega arith) i)))))))
      ∙ ap (λ t. take 32 xs ++ t)
      (ap (λ t. take 32 (drop 32 xs) ++ t)
      (ap (λ t. take 32 (drop 64 xs) ++ t)
      (ap (λ t. take kl (drop s1 xs) ++ t)
      (ap (λ t. take kl (drop s2 xs) ++ t)
      (ap (λ t. take Ml (drop o1 xs) ++ t)
      (ap (λ t. take Ml (drop o2 xs) ++ t) (take_all Ml (drop o3 xs) (simp length-drop (omega arith)))
      ∙ cut_to o2 Ml o3 xs (omega arith))
      ∙ cut_to o1 Ml o2 xs (omega arith))
      ∙ cut_to s2 kl o1 xs (omega arith))
      ∙ cut_to s1 kl s2 xs (omega arith) ∙ (let e : s1 ≡ 96 = omega arith in ap (λ j. drop j xs) e))
      ∙ cut 64 32 xs)
      ∙ cut 32 32 xs)
      ∙ take-append-drop 32 xs

  pub tape_for : (xs : List ℕ) → TapeFor l (tape_of K l xs)
  tape_for xs = record { size1 = counted K _ _; size2 = counted K _ _; masked = masked }
    where
      masked : (i : Branch) → length (masks_on (tape_of K l xs) i) ≡ mus l.gates
      masked one = counted K _ _
      masked two = counted K _ _
      masked three = counted K _ _

  module _ (keeps : Laws K) (blind : Branch → List ℕ) (t : Tape (List ℕ)) (bl : (i : Branch) → length (blind i) ≡ 32) (for : TapeFor l t) (ok : TapeLawful K t) where
    abbrev T : List ℕ
    T = tape_bytes K l blind t

    abbrev X2 : List ℕ
    X2 = group_bytes K t.mask1 ++ (group_bytes K t.mask2 ++ group_bytes K t.mask3)

    abbrev X : List ℕ
    X = group_bytes K t.share1 ++ (group_bytes K t.share2 ++ X2)

    ls1 : length (group_bytes K t.share1) ≡ kl
    ls1 = sized_as K keeps l.inputs t.share1 ok.share1_lawful for.size1

    ls2 : length (group_bytes K t.share2) ≡ kl
    ls2 = sized_as K keeps l.inputs t.share2 ok.share2_lawful for.size2

    lm1 : length (group_bytes K t.mask1) ≡ Ml
    lm1 = sized_as K keeps (mus l.gates) t.mask1 ok.mask1_lawful (for.masked one)

    lm2 : length (group_bytes K t.mask2) ≡ Ml
    lm2 = sized_as K keeps (mus l.gates) t.mask2 ok.mask2_lawful (for.masked two)

    lm3 : length (group_bytes K t.mask3) ≡ Ml
    lm3 = sized_as K keeps (mus l.gates) t.mask3 ok.mask3_lawful (for.masked three)

    to_x : (c o : ℕ) → o ≡ 96 + c → drop o T ≡ drop c X
    to_x c o e =
        at_front 32 (64 + c) o (blind one) _ (bl one) (omega arith)
        ∙ at_front 32 (32 + c) (64 + c) (blind two) _ (bl two) (omega arith)
        ∙ skip_front 32 c (blind three) X (bl three)

    to_x2 : (c o : ℕ) → o ≡ 96 + 2 * kl + c → drop o T ≡ drop c X2
    to_x2 c o e = to_x (kl + (kl + c)) o (omega arith) ∙ skip_front kl (kl + c) (group_bytes K t.share1) _ ls1 ∙ skip_front kl c (group_bytes K t.share2) X2 ls2

    pub shares_read : (i : Branch) → shares_in K l T i ≡ group_bytes K (shares_on t i)
    shares_read one = ap (take kl) (to_x 0 (96 + 0 * kl) (omega arith)) ∙ take_at (group_bytes K t.share1) _ kl ls1
    shares_read two = ap (take kl) (to_x kl (96 + 1 * kl) (omega arith) ∙ drop_at (group_bytes K t.share1) _ kl ls1) ∙ take_at (group_bytes K t.share2) X2 kl ls2
    shares_read three = sym (no_bytes K)

    pub masks_read : (i : Branch) → masks_in K l T i ≡ group_bytes K (masks_on t i)
    masks_read one = ap (take Ml) (to_x2 0 (96 + 2 * kl + 0 * Ml) (omega arith)) ∙ take_at (group_bytes K t.mask1) _ Ml lm1
    masks_read two = ap (take Ml) (to_x2 Ml (96 + 2 * kl + 1 * Ml) (omega arith) ∙ drop_at (group_bytes K t.mask1) _ Ml lm1) ∙ take_at (group_bytes K t.mask2) _ Ml lm2
    masks_read three =
        ap (take Ml) (to_x2 (Ml + Ml) (96 + 2 * kl + 2 * Ml) (omega arith) ∙ skip_front Ml Ml (group_bytes K t.mask1) _ lm1 ∙ drop_at (group_bytes K t.mask2) _ Ml lm2)
        ∙ take_all Ml (group_bytes K t.mask3) (omega (arith, lm3))

    pub blinds_read : (i : Branch) → blind_in K l T i ≡ blind i
    blinds_read one = take_at (blind one) _ 32 (bl one)
    blinds_read two = ap (take 32) (drop_at (blind one) _ 32 (bl one)) ∙ take_at (blind two) _ 32 (bl two)
    blinds_read three = ap (take 32) (at_front 32 32 64 (blind one) _ (bl one) refl ∙ drop_at (blind two) _ 32 (bl two)) ∙ take_at (blind three) X 32 (bl three)

    pub tape_read : tape_of K l T ≡ t
    tape_read =
        let a = ap (group K l.inputs) (shares_read one) ∙ read_whole K keeps l.inputs t.share1 ok.share1_lawful for.size1 in
        let b = ap (group K l.inputs) (shares_read two) ∙ read_whole K keeps l.inputs t.share2 ok.share2_lawful for.size2 in
        let c = ap (group K (mus l.gates)) (masks_read one) ∙ read_whole K keeps (mus l.gates) t.mask1 ok.mask1_lawful (for.masked one) in
        let d = ap (group K (mus l.gates)) (masks_read two) ∙ read_whole K keeps (mus l.gates) t.mask2 ok.mask2_lawful (for.masked two) in
        let e = ap (group K (mus l.gates)) (masks_read three) ∙ read_whole K keeps (mus l.gates) t.mask3 ok.mask3_lawful (for.masked three) in
        λ i. record { share1 = a i; share2 = b i; mask1 = c i; mask2 = d i; mask3 = e i }

    pub tape_length : length T ≡ length_of_tape K l
    tape_length = simp length-append (omega (arith, tape_is, bl one, bl two, bl three, ls1, ls2, lm1, lm2, lm3))

  module _ (keeps : Laws K) (d : ℕ) (outs : Branch → List (List ℕ)) (seals : Branch → List ℕ) (sized : (i : Branch) → length (outs i) ≡ length l.outputs) (ok : (i : Branch) → AllByRecursion (Lawful K) (outs i)) (sl : (i : Branch) → length (seals i) ≡ d) where
    abbrev ml : ℕ
    ml = outs_length K l

    abbrev F : List ℕ
    F = first_bytes K outs seals

    lo : (i : Branch) → length (group_bytes K (outs i)) ≡ ml
    lo i = sized_as K keeps (length l.outputs) (outs i) (ok i) (sized i)

    abbrev Z : List ℕ
    Z = seals one ++ (seals two ++ seals three)

    abbrev Y : List ℕ
    Y = group_bytes K (outs one) ++ (group_bytes K (outs two) ++ (group_bytes K (outs three) ++ Z))

    to_y : (c o : ℕ) → o ≡ 2 + c → drop o F ≡ drop c Y
    to_y c o e = at_front 2 c o (70 ∷ 77 ∷ []) Y refl e

    to_z : (c o : ℕ) → o ≡ 2 + ml + ml + ml + c → drop o F ≡ drop c Z
    to_z c o e =
        to_y (ml + (ml + (ml + c))) o (omega arith) ∙ skip_front ml (ml + (ml + c)) (group_bytes K (outs one)) _ (lo one) ∙ skip_front ml (ml + c) (group_bytes K (outs two)) _ (lo two) ∙ skip_front ml c (group_bytes K (outs three)) Z (lo three)

    pub outs_read : (i : Branch) → outs_in K l F i ≡ outs i
    outs_read one = ap (group K (length l.outputs)) (to_y 0 (2 + 0 * ml) (omega arith)) ∙ read_as K keeps _ (outs one) _ (ok one) (sized one)
    outs_read two = ap (group K (length l.outputs)) (to_y ml (2 + 1 * ml) (omega arith) ∙ drop_at (group_bytes K (outs one)) _ ml (lo one)) ∙ read_as K keeps _ (outs two) _ (ok two) (sized two)
    outs_read three =
        ap (group K (length l.outputs)) (to_y (ml + ml) (2 + 2 * ml) (omega arith) ∙ skip_front ml ml (group_bytes K (outs one)) _ (lo one) ∙ drop_at (group_bytes K (outs two)) _ ml (lo two))
        ∙ read_as K keeps _ (outs three) Z (ok three) (sized three)

    pub seals_read : (i : Branch) → seal_in K l d F i ≡ seals i
    seals_read one = ap (take d) (to_z 0 (2 + 3 * ml + 0 * d) (omega (arith))) ∙ take_at (seals one) _ d (sl one)
    seals_read two = ap (take d) (to_z d (2 + 3 * ml + 1 * d) (omega (arith)) ∙ drop_at (seals one) _ d (sl one)) ∙ take_at (seals two) _ d (sl two)
    seals_read three =
        ap (take d) (to_z (d + d) (2 + 3 * ml + 2 * d) (omega (arith)) ∙ skip_front d d (seals one) _ (sl one) ∙ drop_at (seals two) _ d (sl two))
        ∙ take_all d (seals three) (omega (arith, sl three))

    pub first_length : length F ≡ length_of_first K l d
    first_length = simp length-append (omega (arith, first_is d, lo one, lo two, lo three, sl one, sl two, sl three))

pub message_laws : (K : Kind) (l : Circuit (List ℕ)) → MessageLaws K l
message_laws K l = record {
  view_for = view_for K l;
  view_written = view_written K l;
  view_read = λ laws v h for ok. (view_read K l laws v h for ok, long_view K l laws v h for ok);
  tape_for = tape_for K l;
  tape_written = tape_written K l;
  tape_read = λ laws blind t bl for ok. (tape_read K l laws blind t bl for ok, blinds_read K l laws blind t bl for ok, tape_length K l laws blind t bl for ok);
  first_read = λ laws d outs seals s o z. (outs_read K l laws d outs seals s o z, seals_read K l laws d outs seals s o z, first_length K l laws d outs seals s o z);
  answer_read = answer_read K l;
}

-- views of one circuit with equal bytes are equal
pub same_views : (K : Kind) (l : Circuit (List ℕ)) → Laws K → (a b : Blinded) → length a.0 ≡ 32 → length b.0 ≡ 32
    → ViewFor l a.1 → ViewFor l b.1 → ViewLawful K a.1 → ViewLawful K b.1 → view_bytes K a ≡ view_bytes K b → a ≡ b
same_views K l laws a b ha hb fa fb oka okb k = sym (view_read K l laws a ha fa oka) ∙ ap (view_of K l) k ∙ view_read K l laws b hb fb okb
