-- From elements to views: a kind's lawful views are elements that keep the laws.
use Rattle.std.proofs.Common.{◌≡◌, ℕ, true, List, [], ◌∷◌, map, length, sym, refl, ap, ◌∙◌, subst, ap₂}
use mathlib.Core.Path.{fun_ext}
use mathlib.Core.HLevel.{Σ_prop_path}
use mathlib.Core.Bool.{Bool-set}
use Rattle.std.specs.List.{AllByRecursion}
use Rattle.kinds.specs.Kind.{Kind, Lawful, Laws}
use Rattle.locks.specs.Circuit.{Gate, ac, mc, ad, mu, Output, Circuit}
use Rattle.theory.specs.Algebra.{Ops, Rules, ops_of}
use Rattle.theory.specs.Branches.{Tape, masks_on, TapeFor, ViewFor, view, out_shares, Accepts}
use Rattle.theory.specs.Lawfulness.{GateLawful, CircuitLawful, ViewLawful, TapeLawful}
use Rattle.theory.specs.Runs.{Branch, next, View, sum_of, plain, at_outputs, Fits, rerun}
use Rattle.theory.proofs.Carry.{Hom, gate_h, out_h, lock_h, view_h, tape_h, length_h, mus_h, masks_on_h, shares_on_h, map_inj, view_inj, sum_of_h, plain_h, shown_h, targets_h, rerun_h, due_h, view_of_h, out_shares_h}
use Rattle.theory.proofs.Claims.{Alike, SoundOn, CompleteOn, HidesOn}
use Rattle.theory.proofs.Rounds.{sound, complete, hides}

module _ {K : Kind} (keeps : Laws K) where
  abbrev El : Type 0
  El = (x : List ℕ) × Lawful K x

  abbrev bare : El → List ℕ
  bare x = x.0

  bare_inj : (x y : El) → bare x ≡ bare y → x ≡ y
  bare_inj x y h = Σ_prop_path (λ z. Bool-set (K.lawful z) true) h

  abbrev els : Ops El
  els = record {
    zer = (K.zero, keeps.zero_lawful);
    add = λ x y. (K.add x.0 y.0, keeps.add_lawful x.0 y.0 x.1 y.1);
    neg = λ x. (K.neg x.0, keeps.neg_lawful x.0 x.1);
    mul = λ x y. (K.mul x.0 y.0, keeps.mul_lawful x.0 y.0 x.1 y.1);
  }

  laws : Rules els
  laws = record {
    assoc = λ x y z. bare_inj _ _ (keeps.add_assoc x.0 y.0 z.0 x.1 y.1 z.1);
    comm = λ x y. bare_inj _ _ (keeps.add_comm x.0 y.0 x.1 y.1);
    unit = λ x. bare_inj _ _ (keeps.add_comm K.zero x.0 keeps.zero_lawful x.1 ∙ keeps.add_zero x.0 x.1);
    inverse = λ x. bare_inj _ _ (keeps.add_neg x.0 x.1);
    over_right = λ x y z. bare_inj _ _ (keeps.mul_add x.0 y.0 z.0 x.1 y.1 z.1);
    over_left = λ x y z. bare_inj _ _ (keeps.add_mul x.0 y.0 z.0 x.1 y.1 z.1);
  }

  hom : Hom els (ops_of K) bare
  hom = record { zer_h = refl; add_h = λ x y. refl; neg_h = λ x. refl; mul_h = λ x y. refl }

  -- lawful views are elements
  up : (xs : List (List ℕ)) → AllByRecursion (Lawful K) xs → (ys : List El) × (map bare ys ≡ xs)
  up [] h = ([], refl)
  up (x ∷ xs) h = let r = up xs h.1 in ((x, h.0) ∷ r.0, ap {B = List (List ℕ)} (λ zs. x ∷ zs) r.1)

  down : (ys : List El) → AllByRecursion (Lawful K) (map bare ys)
  down [] = tt
  down (y ∷ ys) = (y.1, down ys)

  gate_up : (g : Gate (List ℕ)) → GateLawful K g → (g' : Gate El) × (gate_h bare g' ≡ g)
  gate_up (ac a c) h = (ac a (c, h), refl)
  gate_up (mc a c) h = (mc a (c, h), refl)
  gate_up (ad a b) h = (ad a b, refl)
  gate_up (mu a b) h = (mu a b, refl)

  gates_up : (gs : List (Gate (List ℕ))) → AllByRecursion (GateLawful K) gs → (gs' : List (Gate El)) × (map (gate_h bare) gs' ≡ gs)
  gates_up [] h = ([], refl)
  gates_up (g ∷ gs) h = let r = gates_up gs h.1 in let q = gate_up g h.0 in (q.0 ∷ r.0, ap₂ {C = List (Gate (List ℕ))} (λ z zs. z ∷ zs) q.1 r.1)

  outs_up : (us : List (Output (List ℕ))) → AllByRecursion (λ u. Lawful K u.target) us → (us' : List (Output El)) × (map (out_h bare) us' ≡ us)
  outs_up [] h = ([], refl)
  outs_up (u ∷ us) h = let r = outs_up us h.1 in (record { wire = u.wire; target = (u.target, h.0) } ∷ r.0, ap {B = List (Output (List ℕ))} (λ zs. u ∷ zs) r.1)

  lock_up : (l : Circuit (List ℕ)) → CircuitLawful K l → (l' : Circuit El) × (lock_h bare l' ≡ l)
  lock_up l h =
      let g = gates_up l.gates h.constants in
      let u = outs_up l.outputs h.aims in
      (record { inputs = l.inputs; gates = g.0; outputs = u.0 }, λ i. record { inputs = l.inputs; gates = g.1 i; outputs = u.1 i })

  view_up : (A : View (List ℕ)) → ViewLawful K A → (A' : View El) × (view_h bare A' ≡ A)
  view_up A h =
      let w = up A.wires h.wires_lawful in
      let m = up A.masks h.masks_lawful in
      let p = up A.products h.products_lawful in
      (record { wires = w.0; masks = m.0; products = p.0 }, λ i. record { wires = w.1 i; masks = m.1 i; products = p.1 i })

  tape_up : (t : Tape (List ℕ)) → TapeLawful K t → (t' : Tape El) × (tape_h bare t' ≡ t)
  tape_up t h =
      let a = up t.share1 h.share1_lawful in
      let b = up t.share2 h.share2_lawful in
      let c = up t.mask1 h.mask1_lawful in
      let d = up t.mask2 h.mask2_lawful in
      let e = up t.mask3 h.mask3_lawful in (
        record { share1 = a.0; share2 = b.0; mask1 = c.0; mask2 = d.0; mask3 = e.0 },
        λ i. record { share1 = a.1 i; share2 = b.1 i; mask1 = c.1 i; mask2 = d.1 i; mask3 = e.1 i },
      )

  view_down : (A : View El) → ViewLawful K (view_h bare A)
  view_down A = record { wires_lawful = down A.wires; masks_lawful = down A.masks; products_lawful = down A.products }

  tape_down : (t : Tape El) → TapeLawful K (tape_h bare t)
  tape_down t = record { share1_lawful = down t.share1; share2_lawful = down t.share2; mask1_lawful = down t.mask1; mask2_lawful = down t.mask2; mask3_lawful = down t.mask3 }

  fits_down : (l : Circuit El) (key : List El) → Fits els l key → Fits (ops_of K) (lock_h bare l) (map bare key)
  fits_down l key h = record {
    size = length_h bare key ∙ h.size;
    meets =
        sym (shown_h hom l.outputs (plain els l.gates key) ∙ ap (at_outputs (ops_of K) (map (out_h bare) l.outputs)) (plain_h hom l.gates key))
        ∙ ap (map bare) h.meets ∙ targets_h hom l.outputs;
  }

  fits_up : (l : Circuit El) (key : List El) → Fits (ops_of K) (lock_h bare l) (map bare key) → Fits els l key
  fits_up l key h = record {
    size = sym (length_h bare key) ∙ h.size;
    meets = map_inj bare bare_inj _ _
        (shown_h hom l.outputs (plain els l.gates key) ∙ ap (at_outputs (ops_of K) (map (out_h bare) l.outputs)) (plain_h hom l.gates key)
        ∙ h.meets ∙ sym (targets_h hom l.outputs));
  }

  tapefor_up : (l : Circuit El) (t : Tape El) → TapeFor (lock_h bare l) (tape_h bare t) → TapeFor l t
  tapefor_up l t h = record {
    size1 = sym (length_h bare t.share1) ∙ h.size1;
    size2 = sym (length_h bare t.share2) ∙ h.size2;
    masked = λ i. sym (length_h bare (masks_on t i)) ∙ ap length (masks_on_h bare t i) ∙ h.masked i ∙ mus_h bare l.gates;
  }

  tapefor_down : (l : Circuit El) (t : Tape El) → TapeFor l t → TapeFor (lock_h bare l) (tape_h bare t)
  tapefor_down l t h = record {
    size1 = length_h bare t.share1 ∙ h.size1;
    size2 = length_h bare t.share2 ∙ h.size2;
    masked = λ i. sym (ap length (masks_on_h bare t i)) ∙ length_h bare (masks_on t i) ∙ h.masked i ∙ sym (mus_h bare l.gates);
  }

  viewfor_up : (l : Circuit El) (A : View El) → ViewFor (lock_h bare l) (view_h bare A) → ViewFor l A
  viewfor_up l A h = record {
    shared = sym (length_h bare A.wires) ∙ h.shared;
    masked = sym (length_h bare A.masks) ∙ h.masked ∙ mus_h bare l.gates;
    multiplied = sym (length_h bare A.products) ∙ h.multiplied ∙ mus_h bare l.gates;
  }

  viewfor_down : (l : Circuit El) (A : View El) → ViewFor l A → ViewFor (lock_h bare l) (view_h bare A)
  viewfor_down l A h = record {
    shared = length_h bare A.wires ∙ h.shared;
    masked = length_h bare A.masks ∙ h.masked ∙ sym (mus_h bare l.gates);
    multiplied = length_h bare A.products ∙ h.multiplied ∙ sym (mus_h bare l.gates);
  }

  abbrev out : (l : Circuit El) → Branch → View El → List El
  out l i A = at_outputs els l.outputs (rerun els i l.gates A)

  out_same : (l : Circuit El) (i : Branch) (A : View El) → map bare (out l i A) ≡ at_outputs (ops_of K) (map (out_h bare) l.outputs) (rerun (ops_of K) i (map (gate_h bare) l.gates) (view_h bare A))
  out_same l i A = shown_h hom l.outputs (rerun els i l.gates A) ∙ ap (at_outputs (ops_of K) (map (out_h bare) l.outputs)) (rerun_h hom i l.gates A)

  accepts_up : (l : Circuit El) (y : Branch → List (List ℕ)) (V : Branch → View El)
      → ((e : Branch) → Accepts (ops_of K) (lock_h bare l) y e (view_h bare (V e)) (view_h bare (V (next e))))
      → (e : Branch) → Accepts els l (λ i. out l i (V i)) e (V e) (V (next e))
  accepts_up l y V acc e = record {
    size_a = viewfor_up l (V e) (acc e).size_a;
    size_b = viewfor_up l (V (next e)) (acc e).size_b;
    sums = map_inj bare bare_inj _ _
        (sum_of_h hom (λ i. out l i (V i))
        ∙ ap (sum_of (ops_of K)) (fun_ext (λ i. out_same l i (V i) ∙ (acc i).gives_a))
        ∙ (acc e).sums ∙ sym (targets_h hom l.outputs));
    gives_a = refl;
    gives_b = refl;
    multiplies = map_inj bare bare_inj _ _ ((acc e).multiplies ∙ sym (due_h hom e (next e) l.gates (V e) (V (next e))));
  }

  pub sound_on : SoundOn K
  sound_on l lok y V vok acc =
      let l' = lock_up l lok in
      let W : (i : Branch) → (A : View El) × (view_h bare A ≡ V i) = λ i. view_up (V i) (vok i) in
      let acc' : (e : Branch) → Accepts (ops_of K) (lock_h bare l'.0) y e (view_h bare (W e).0) (view_h bare (W (next e)).0) =
      λ e. subst (λ (s : Circuit (List ℕ) × View (List ℕ) × View (List ℕ)). Accepts (ops_of K) s.0 y e s.1 s.2) (λ i. (sym l'.1 i, sym (W e).1 i, sym (W (next e)).1 i)) (acc e) in
      let fit = fits_down l'.0 (sum_of els (λ i. (W i).0.wires)) (sound laws l'.0 _ (λ i. (W i).0) (accepts_up l'.0 y (λ i. (W i).0) acc')) in
      let key : map bare (sum_of els (λ i. (W i).0.wires)) ≡ sum_of (ops_of K) (λ i. (V i).wires) =
      sum_of_h hom (λ i. (W i).0.wires) ∙ ap (sum_of (ops_of K)) (fun_ext (λ i. ap (λ R. R.wires) (W i).1)) in (
        subst (λ (s : Circuit (List ℕ) × List (List ℕ)). Fits (ops_of K) s.0 s.1) (λ i. (l'.1 i, key i)) fit,
        subst (AllByRecursion (Lawful K)) key (down (sum_of els (λ i. (W i).0.wires))),
      )

  accepts_down : (l : Circuit El) (y : Branch → List El) (e : Branch) (A B : View El) → Accepts els l y e A B
      → Accepts (ops_of K) (lock_h bare l) (λ i. map bare (y i)) e (view_h bare A) (view_h bare B)
  accepts_down l y e A B acc = record {
    size_a = viewfor_down l A acc.size_a;
    size_b = viewfor_down l B acc.size_b;
    sums = sym (sum_of_h hom y) ∙ ap (map bare) acc.sums ∙ targets_h hom l.outputs;
    gives_a = sym (out_same l e A) ∙ ap (map bare) acc.gives_a;
    gives_b = sym (out_same l (next e) B) ∙ ap (map bare) acc.gives_b;
    multiplies = ap (map bare) acc.multiplies ∙ due_h hom e (next e) l.gates A B;
  }

  abbrev Completes : Circuit (List ℕ) → List (List ℕ) → Tape (List ℕ) → Type 0
  Completes l key t = Fits (ops_of K) l key → TapeFor l t
      → (e : Branch) → Accepts (ops_of K) l (out_shares (ops_of K) l key t) e (view (ops_of K) l key t e) (view (ops_of K) l key t (next e)) × ViewLawful K (view (ops_of K) l key t e) × AllByRecursion (Lawful K) (out_shares (ops_of K) l key t e)

  complete_image : (l : Circuit El) (key : List El) (t : Tape El) → Completes (lock_h bare l) (map bare key) (tape_h bare t)
  complete_image l key t fits sized e =
      let acc = accepts_down l (out_shares els l key t) e _ _ (complete laws l key t (fits_up l key fits) (tapefor_up l t sized) e) in (
        subst (λ (s : (Branch → List (List ℕ)) × View (List ℕ) × View (List ℕ)). Accepts (ops_of K) (lock_h bare l) s.0 e s.1 s.2)
            (λ i. (fun_ext (out_shares_h hom l key t) i, view_of_h hom l key t e i, view_of_h hom l key t (next e) i)) acc,
        subst (ViewLawful K) (view_of_h hom l key t e) (view_down (view els l key t e)),
        subst (AllByRecursion (Lawful K)) (out_shares_h hom l key t e) (down (out_shares els l key t e)),
      )

  pub complete_on : CompleteOn K
  complete_on l lok key kok t tok =
      let l' = lock_up l lok in
      let k = up key kok in
      let s = tape_up t tok in
      subst (λ (z : Circuit (List ℕ) × List (List ℕ) × Tape (List ℕ)). Completes z.0 z.1 z.2) (λ i. (l'.1 i, k.1 i, s.1 i)) (complete_image l'.0 k.0 s.0)

  alike_down : (l : Circuit El) (key : List El) (t : Tape El) (e : Branch) (key' : List El) (u : Tape El) → Alike els l key t e key' u
      → Alike (ops_of K) (lock_h bare l) (map bare key) (tape_h bare t) e (map bare key') (tape_h bare u)
  alike_down l key t e key' u a = record {
    sized = tapefor_down l u a.sized;
    kept = λ i away. (
      sym (shares_on_h bare u i) ∙ ap (map bare) (a.kept i away).0 ∙ shares_on_h bare t i,
      sym (masks_on_h bare u i) ∙ ap (map bare) (a.kept i away).1 ∙ masks_on_h bare t i,
    );
    first = sym (view_of_h hom l key' u e) ∙ ap (view_h bare) a.first ∙ view_of_h hom l key t e;
    second = sym (view_of_h hom l key' u (next e)) ∙ ap (view_h bare) a.second ∙ view_of_h hom l key t (next e);
    outs = λ i. sym (out_shares_h hom l key' u i) ∙ ap (map bare) (a.outs i) ∙ out_shares_h hom l key t i;
  }

  alike_up : (l : Circuit El) (key : List El) (t : Tape El) (e : Branch) (key' : List El) (u : Tape El)
      → Alike (ops_of K) (lock_h bare l) (map bare key) (tape_h bare t) e (map bare key') (tape_h bare u)
      → Alike els l key t e key' u
  alike_up l key t e key' u a = record {
    sized = tapefor_up l u a.sized;
    kept = λ i away. (
      map_inj bare bare_inj _ _ (shares_on_h bare u i ∙ (a.kept i away).0 ∙ sym (shares_on_h bare t i)),
      map_inj bare bare_inj _ _ (masks_on_h bare u i ∙ (a.kept i away).1 ∙ sym (masks_on_h bare t i)),
    );
    first = view_inj bare bare_inj _ _ (view_of_h hom l key' u e ∙ a.first ∙ sym (view_of_h hom l key t e));
    second = view_inj bare bare_inj _ _ (view_of_h hom l key' u (next e) ∙ a.second ∙ sym (view_of_h hom l key t (next e)));
    outs = λ i. map_inj bare bare_inj _ _ (out_shares_h hom l key' u i ∙ a.outs i ∙ sym (out_shares_h hom l key t i));
  }

  abbrev Hiding : Circuit (List ℕ) → List (List ℕ) → Tape (List ℕ) → Branch → List (List ℕ) → Type 0
  Hiding l key t e key' = Fits (ops_of K) l key → TapeFor l t → Fits (ops_of K) l key'
      → (u : Tape (List ℕ)) × (TapeLawful K u × Alike (ops_of K) l key t e key' u)
      × ((u' : Tape (List ℕ)) → TapeLawful K u' → Alike (ops_of K) l key t e key' u' → u' ≡ u)

  hides_image : (l : Circuit El) (key : List El) (t : Tape El) (e : Branch) (key' : List El) → Hiding (lock_h bare l) (map bare key) (tape_h bare t) e (map bare key')
  hides_image l key t e key' fits sized fits' =
      let r = hides laws l key t e key' (fits_up l key fits) (tapefor_up l t sized) (fits_up l key' fits') in (
        tape_h bare r.0,
        (tape_down r.0, alike_down l key t e key' r.0 r.1),
        λ u' ok a.
            let z = tape_up u' ok in
            sym z.1 ∙ ap (tape_h bare) (r.2 z.0 (alike_up l key t e key' z.0 (subst (λ w. Alike (ops_of K) (lock_h bare l) (map bare key) (tape_h bare t) e (map bare key') w) (sym z.1) a))),
      )

  pub hides_on : HidesOn K
  hides_on l lok key kok t tok e key' kok' =
      let l' = lock_up l lok in
      let k = up key kok in
      let s = tape_up t tok in
      let k' = up key' kok' in
      subst (λ (z : Circuit (List ℕ) × List (List ℕ) × Tape (List ℕ) × List (List ℕ)). Hiding z.0 z.1 z.2 e z.3) (λ i. (l'.1 i, k.1 i, s.1 i, k'.1 i)) (hides_image l'.0 k.0 s.0 e k'.0)
