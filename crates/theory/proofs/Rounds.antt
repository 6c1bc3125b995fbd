-- The three theorems of one round, over any elements that keep the laws.
use Rattle.std.proofs.Common.{◌≡◌, ℕ, suc, List, [], ◌∷◌, length, sym, refl, ap, ◌∙◌, subst, ap₂}
use mathlib.Core.Path.{fun_ext}
use Rattle.locks.specs.Circuit.{Gate, Output, Circuit, mus}
use Rattle.theory.proofs.Claims.{Sound}
use Rattle.theory.specs.Algebra.{Ops, Rules}
use Rattle.theory.specs.Branches.{Tape, shares_on, masks_on, TapeFor, ViewFor, shares_of, view, out_shares, Accepts}
use Rattle.theory.specs.Runs.{Branch, one, two, three, next, View, sum, less, sum_of, at_outputs, targets, plain, Fits, rerun, due, honest}
use Rattle.theory.proofs.Claims.{SameBut, Alike, Complete, Hides}
use Rattle.theory.proofs.Closing.{closing, length_masks_for, length_products_for, closing_own, closing_before, only_masks}
use Rattle.theory.proofs.Group.{v, ◌⊞◌, solve}
use Rattle.theory.proofs.Honest.{same_rerun, length_honest, honest_right, only_honest, Enough}
use Rattle.theory.proofs.Lists.{length_sum, length_last, shares_long, shown_sum, three_shares, last_same}
use Rattle.theory.proofs.Sums.{Right, Even, sums}

-- x at e, y at the branch after, z at the one after that
abbrev around : {A : Type 0} → Branch → A → A → A → Branch → A
around one x y z one = x
around one x y z two = y
around one x y z three = z
around two x y z one = z
around two x y z two = x
around two x y z three = y
around three x y z one = y
around three x y z two = z
around three x y z three = x

around_0 : {A : Type 0} (e : Branch) (x y z : A) → around e x y z e ≡ x
around_0 one x y z = refl
around_0 two x y z = refl
around_0 three x y z = refl

around_1 : {A : Type 0} (e : Branch) (x y z : A) → around e x y z (next e) ≡ y
around_1 one x y z = refl
around_1 two x y z = refl
around_1 three x y z = refl

around_2 : {A : Type 0} (e : Branch) (x y z : A) → around e x y z (next (next e)) ≡ z
around_2 one x y z = refl
around_2 two x y z = refl
around_2 three x y z = refl

each : (P : Branch → Type 0) (e : Branch) → P e → P (next e) → P (next (next e)) → (j : Branch) → P j
each P one p q r one = p
each P one p q r two = q
each P one p q r three = r
each P two p q r one = r
each P two p q r two = p
each P two p q r three = q
each P three p q r one = q
each P three p q r two = r
each P three p q r three = p

cycle : (e : Branch) → next (next (next e)) ≡ e
cycle one = refl
cycle two = refl
cycle three = refl

pub not_closed : (e j : Branch) (P : Branch → Type 0) → P e → P (next e) → (j ≡ next (next e) → ⊥) → P j
not_closed e j P p q away = each (λ k. (k ≡ next (next e) → ⊥) → P k) e (λ _. p) (λ _. q) (λ n. absurd (n refl)) j away

around_each : {A : Type 0} (e : Branch) (x y z : A) (P : A → Type 0) → P x → P y → P z → (i : Branch) → P (around e x y z i)
around_each one x y z P p q r one = p
around_each one x y z P p q r two = q
around_each one x y z P p q r three = r
around_each two x y z P p q r one = r
around_each two x y z P p q r two = p
around_each two x y z P p q r three = q
around_each three x y z P p q r one = q
around_each three x y z P p q r two = r
around_each three x y z P p q r three = p

module _ {E : Type 0} {O : Ops E} (L : Rules O) where
  open O use {zer, add, neg, mul}

  around_right : (e : Branch) (gs : List (Gate E)) (A B C : View E)
      → A.products ≡ due O e (next e) gs A B → B.products ≡ due O (next e) (next (next e)) gs B C → C.products ≡ due O (next (next e)) e gs C A
      → Right O gs (around e A B C)
  around_right one gs A B C p q r one = p
  around_right one gs A B C p q r two = q
  around_right one gs A B C p q r three = r
  around_right two gs A B C p q r one = r
  around_right two gs A B C p q r two = p
  around_right two gs A B C p q r three = q
  around_right three gs A B C p q r one = q
  around_right three gs A B C p q r two = r
  around_right three gs A B C p q r three = p

  -- a sum of three may begin at any of them
  turn : (a b c : List E) → length a ≡ length b → length a ≡ length c → sum O (sum O a b) c ≡ sum O (sum O b c) a
  turn [] [] c h k = refl
  turn [] (y ∷ b) c h k = cc
  turn (x ∷ a) [] c h k = cc
  turn (x ∷ a) (y ∷ b) [] h k = cc
  turn (x ∷ a) (y ∷ b) (z ∷ c) h k =
      ap₂ {C = List E} (λ t ts. t ∷ ts) (solve L (x ∷ y ∷ z ∷ []) ((v 0 ⊞ v 1) ⊞ v 2) ((v 1 ⊞ v 2) ⊞ v 0) refl) (turn a b c (cc) cc)

  turned : (n : ℕ) (f : Branch → List E) → ((i : Branch) → length (f i) ≡ n) → (e : Branch) → sum_of O f ≡ sum O (sum O (f e) (f (next e))) (f (next (next e)))
  turned n f h one = refl
  turned n f h two = turn (f one) (f two) (f three) (h one ∙ sym (h two)) (h one ∙ sym (h three))
  turned n f h three =
      turn (f one) (f two) (f three) (h one ∙ sym (h two)) (h one ∙ sym (h three))
      ∙ turn (f two) (f three) (f one) (h two ∙ sym (h three)) (h two ∙ sym (h one))

  -- two of three equal, and the sums: so is the third
  third_same : (n : ℕ) (f g : Branch → List E) → ((i : Branch) → length (f i) ≡ n) → ((i : Branch) → length (g i) ≡ n) → (e : Branch)
      → sum_of O f ≡ sum_of O g → f e ≡ g e → f (next e) ≡ g (next e) → f (next (next e)) ≡ g (next (next e))
  third_same n f g hf hg e s p q =
      last_same L (f e) (f (next e)) (f (next (next e))) (g (next (next e)))
      (hf e ∙ sym (hf (next (next e)))) (hf (next e) ∙ sym (hf (next (next e)))) (hg (next (next e)) ∙ sym (hf (next (next e))))
      (sym (turned n f hf e) ∙ s ∙ turned n g hg e ∙ ap₂ (λ x y. sum O (sum O x y) (g (next (next e)))) (sym p) (sym q))

  -- what three right views show sums to what the sum of their shares shows
  views_sum : (l : Circuit E) (V : Branch → View E) → Even L l.inputs V → Right O l.gates V
      → at_outputs O l.outputs (plain O l.gates (sum_of O (λ i. (V i).wires))) ≡ sum_of O (λ i. at_outputs O l.outputs (rerun O i l.gates (V i)))
  views_sum l V h r =
      let w : Branch → List E = λ i. rerun O i l.gates (V i) in
      let same : (i j : Branch) → length (w i) ≡ length (w j) = λ i j. same_rerun O i j l.gates (V i) (V j) (h i ∙ sym (h j)) in
      ap (at_outputs O l.outputs) (sums L l.gates l.inputs V h r)
      ∙ shown_sum L l.outputs (sum O (w one) (w two)) (w three) (length_sum O (w one) (w two) (same one two) ∙ same one three)
      ∙ ap (λ t. sum O t (at_outputs O l.outputs (w three))) (shown_sum L l.outputs (w one) (w two) (same one two))

  pub sound : Sound O
  sound l y V acc = record {
    size = length_sum O (sum O (V one).wires (V two).wires) (V three).wires (two_long ∙ h one ∙ sym (h three)) ∙ two_long ∙ h one;
    meets =
        views_sum l V h (λ i. (acc i).multiplies)
        ∙ ap (sum_of O) (fun_ext (λ i. (acc i).gives_a))
        ∙ (acc one).sums;
  }
    where
      h : (i : Branch) → length (V i).wires ≡ l.inputs
      h i = (acc i).size_a.shared

      two_long : length (sum O (V one).wires (V two).wires) ≡ length (V one).wires
      two_long = length_sum O (V one).wires (V two).wires (h one ∙ sym (h two))

  -- the keeper's views
  module _ (l : Circuit E) (key : List E) (t : Tape E) (fits : Fits O l key) (sized : TapeFor l t) where
    key_1 : length key ≡ length t.share1
    key_1 = fits.size ∙ sym sized.size1

    key_2 : length key ≡ length t.share2
    key_2 = fits.size ∙ sym sized.size2

    each_long : (i : Branch) → length (shares_of O key t i) ≡ l.inputs
    each_long = shares_long O l key t fits.size sized

    shares_sum : sum_of O (shares_of O key t) ≡ key
    shares_sum = three_shares L key t.share1 t.share2 key_1 key_2

    view_for : (i : Branch) → ViewFor l (view O l key t i)
    view_for i = record {
      shared = each_long i;
      masked = sized.masked i;
      multiplied = length_honest O l.gates (shares_of O key t) (masks_on t) i;
    }

    view_right : Right O l.gates (view O l key t)
    view_right = honest_right O l.gates (shares_of O key t) (masks_on t)

    out_shares_sum : sum_of O (out_shares O l key t) ≡ targets O l.outputs
    out_shares_sum =
        sym (views_sum l (view O l key t) each_long view_right)
        ∙ ap (λ k. at_outputs O l.outputs (plain O l.gates k)) shares_sum
        ∙ fits.meets

    accepted : (e : Branch) → Accepts O l (out_shares O l key t) e (view O l key t e) (view O l key t (next e))
    accepted e = record {
      size_a = view_for e;
      size_b = view_for (next e);
      sums = out_shares_sum;
      gives_a = refl;
      gives_b = refl;
      multiplies = view_right e;
    }

  pub complete : Complete O
  complete l key t fits sized e = accepted l key t fits sized e

  length_shown : (outs : List (Output E)) (w : List E) → length (at_outputs O outs w) ≡ length outs
  length_shown [] w = refl
  length_shown (q ∷ outs) w = ap suc (length_shown outs w)

  -- a tape whose shares and masks are those of right views makes those views
  views_made : (l : Circuit E) (key : List E) (u : Tape E) (W : Branch → View E) → Right O l.gates W → Enough O l.gates W
      → ((j : Branch) → shares_of O key u j ≡ (W j).wires) → ((j : Branch) → masks_on u j ≡ (W j).masks)
      → (j : Branch) → view O l key u j ≡ W j
  views_made l key u W r n s m j =
      let made : honest O l.gates (shares_of O key u) (masks_on u) j ≡ (W j).products =
      ap₂ (λ a b. honest O l.gates a b j) (fun_ext s) (fun_ext m) ∙ sym (only_honest O l.gates W r n j) in
      λ i. record { wires = s j i; masks = m j i; products = made i }

  module _ (l : Circuit E) (key : List E) (t : Tape E) (e : Branch) (key' : List E) (fits : Fits O l key) (sized : TapeFor l t) (fits' : Fits O l key') where
    abbrev A : View E
    A = view O l key t e

    abbrev B : View E
    B = view O l key t (next e)

    abbrev shut : List E
    shut = less O (less O key' A.wires) B.wires

    abbrev C : View E
    C = closing O e (next e) (next (next e)) l.gates A B shut

    abbrev W : Branch → View E
    W = around e A B C

    abbrev u : Tape E
    u = record { share1 = (W one).wires; share2 = (W two).wires; mask1 = (W one).masks; mask2 = (W two).masks; mask3 = (W three).masks }

    long : (i : Branch) → length (view O l key t i).wires ≡ l.inputs
    long = shares_long O l key t fits.size sized

    w_right : Right O l.gates W
    w_right =
        around_right e l.gates A B C
        (view_right l key t fits sized e)
        (closing_before L e (next e) (next (next e)) l.gates A B shut (view_for l key t fits sized (next e)).multiplied)
        (closing_own O e (next e) (next (next e)) l.gates A B shut)

    a_key : length key' ≡ length A.wires
    a_key = fits'.size ∙ sym (long e)

    b_key : length key' ≡ length B.wires
    b_key = fits'.size ∙ sym (long (next e))

    shut_long : length shut ≡ l.inputs
    shut_long =
        length_last O key' A.wires B.wires a_key b_key
        ∙ fits'.size

    w_long : (i : Branch) → length (W i).wires ≡ l.inputs
    w_long = around_each e A B C (λ R. length R.wires ≡ l.inputs) (long e) (long (next e)) shut_long

    w_masked : (i : Branch) → length (W i).masks ≡ mus l.gates
    w_masked = around_each e A B C (λ R. length R.masks ≡ mus l.gates) (sized.masked e) (sized.masked (next e)) (length_masks_for O e (next e) (next (next e)) l.gates A B shut)

    w_enough : Enough O l.gates W
    w_enough =
        around_each e A B C (λ R. length R.products ≡ mus l.gates)
        (view_for l key t fits sized e).multiplied (view_for l key t fits sized (next e)).multiplied
        (length_products_for O e (next e) (next (next e)) l.gates A B shut)

    w_sum : sum_of O (λ i. (W i).wires) ≡ key'
    w_sum =
        turned l.inputs (λ i. (W i).wires) w_long e
        ∙ ap₂ (λ x y. sum O (sum O x.wires y.wires) (W (next (next e))).wires) (around_0 e A B C) (around_1 e A B C)
        ∙ ap (λ z. sum O (sum O A.wires B.wires) z.wires) (around_2 e A B C)
        ∙ three_shares L key' A.wires B.wires a_key b_key

    u_sized : TapeFor l u
    u_sized = record {
      size1 = w_long one;
      size2 = w_long two;
      masked = λ i. ap length (u_masks i) ∙ w_masked i;
    }
      where
        u_masks : (i : Branch) → masks_on u i ≡ (W i).masks
        u_masks one = refl
        u_masks two = refl
        u_masks three = refl

    u_masks : (i : Branch) → masks_on u i ≡ (W i).masks
    u_masks one = refl
    u_masks two = refl
    u_masks three = refl

    u_shares : (i : Branch) → shares_of O key' u i ≡ (W i).wires
    u_shares one = refl
    u_shares two = refl
    u_shares three =
        third_same l.inputs (shares_of O key' u) (λ i. (W i).wires) (shares_long O l key' u fits'.size u_sized) w_long one
        (shares_sum l key' u fits' u_sized ∙ sym w_sum) refl refl

    u_views : (i : Branch) → view O l key' u i ≡ W i
    u_views = views_made l key' u W w_right w_enough u_shares u_masks

    u_first : view O l key' u e ≡ A
    u_first = u_views e ∙ around_0 e A B C

    u_second : view O l key' u (next e) ≡ B
    u_second = u_views (next e) ∙ around_1 e A B C

    abbrev out : (i : Branch) → View E → List E
    out i R = at_outputs O l.outputs (rerun O i l.gates R)

    u_outs : (i : Branch) → out_shares O l key' u i ≡ out_shares O l key t i
    u_outs =
        each (λ i. out_shares O l key' u i ≡ out_shares O l key t i) e (ap (out e) u_first) (ap (out (next e)) u_second)
        (third_same (length l.outputs) (out_shares O l key' u) (out_shares O l key t) (λ i. length_shown l.outputs _) (λ i. length_shown l.outputs _) e
        (out_shares_sum l key' u fits' u_sized ∙ sym (out_shares_sum l key t fits sized))
        (ap (out e) u_first) (ap (out (next e)) u_second))

    on_tape : (i : Branch) → W i ≡ view O l key t i → (shares_on u i ≡ shares_on t i) × (masks_on u i ≡ masks_on t i)
    on_tape one p = (ap (λ R. R.wires) p, ap (λ R. R.masks) p)
    on_tape two p = (ap (λ R. R.wires) p, ap (λ R. R.masks) p)
    on_tape three p = (refl, ap (λ R. R.masks) p)

    u_kept : SameBut (next (next e)) t u
    u_kept i away =
        not_closed e i (λ j. (shares_on u j ≡ shares_on t j) × (masks_on u j ≡ masks_on t j))
        (on_tape e (around_0 e A B C)) (on_tape (next e) (around_1 e A B C)) away

    u_alike : Alike O l key t e key' u
    u_alike = record { sized = u_sized; kept = u_kept; first = u_first; second = u_second; outs = u_outs }

    -- any other such tape is this one
    module _ (z : Tape E) (like : Alike O l key t e key' z) where
      abbrev Z : Branch → View E
      Z = view O l key' z

      wires_same : (i : Branch) → (Z i).wires ≡ (W i).wires
      wires_same =
          each (λ i. (Z i).wires ≡ (W i).wires) e at_0 at_1
          (third_same l.inputs (λ i. (Z i).wires) (λ i. (W i).wires) (shares_long O l key' z fits'.size like.sized) w_long e
          (shares_sum l key' z fits' like.sized ∙ sym w_sum) at_0 at_1)
        where
          at_0 : (Z e).wires ≡ (W e).wires
          at_0 = ap (λ R. R.wires) (like.first ∙ sym (around_0 e A B C))

          at_1 : (Z (next e)).wires ≡ (W (next e)).wires
          at_1 = ap (λ R. R.wires) (like.second ∙ sym (around_1 e A B C))

      masks_same : (i : Branch) → (Z i).masks ≡ (W i).masks
      masks_same =
          each (λ i. (Z i).masks ≡ (W i).masks) e
          (ap (λ R. R.masks) (like.first ∙ sym (around_0 e A B C)))
          (ap (λ R. R.masks) (like.second ∙ sym (around_1 e A B C)))
          (only_masks L e (next e) (next (next e)) l.gates A B (Z (next (next e))) C
          (wires_same (next (next e)) ∙ ap (λ R. R.wires) (around_2 e A B C))
          (like.sized.masked (next (next e)))
          (length_masks_for O e (next e) (next (next e)) l.gates A B shut)
          before
          (closing_before L e (next e) (next (next e)) l.gates A B shut (view_for l key t fits sized (next e)).multiplied)
          own
          (closing_own O e (next e) (next (next e)) l.gates A B shut)
          ∙ sym (ap (λ R. R.masks) (around_2 e A B C)))
        where
          right : Right O l.gates Z
          right = view_right l key' z fits' like.sized

          before : B.products ≡ due O (next e) (next (next e)) l.gates B (Z (next (next e)))
          before = subst (λ R. R.products ≡ due O (next e) (next (next e)) l.gates R (Z (next (next e)))) like.second (right (next e))

          near : (Z (next (next e))).products ≡ due O (next (next e)) e l.gates (Z (next (next e))) (Z e)
          near = subst (λ j. (Z (next (next e))).products ≡ due O (next (next e)) j l.gates (Z (next (next e))) (Z j)) (cycle e) (right (next (next e)))

          own : (Z (next (next e))).products ≡ due O (next (next e)) e l.gates (Z (next (next e))) A
          own = subst (λ R. (Z (next (next e))).products ≡ due O (next (next e)) e l.gates (Z (next (next e))) R) like.first near

      z_is_u : z ≡ u
      z_is_u = λ i. record { share1 = wires_same one i; share2 = wires_same two i; mask1 = masks_same one i; mask2 = masks_same two i; mask3 = masks_same three i }

  pub hides : Hides O
  hides l key t e key' fits sized fits' = (u l key t e key' fits sized fits', u_alike l key t e key' fits sized fits', z_is_u l key t e key' fits sized fits')
