-- Every wire by its gate's equation.
use Rattle.std.proofs.Common.{◌≡◌, ℕ, suc, ◌<◌, List, [], ◌∷◌, ◌++◌, map, length, sym, refl, ap, ◌∙◌, ap₂, arith}
use Rattle.std.proofs.lemmas.List.{get_or_append_left, get_or_push}
use Rattle.kinds.specs.Kind.{Kind}
use Rattle.locks.specs.Circuit.{Gate, ac, mc, ad, mu, Circuit}
use Rattle.locks.specs.Encoding.{GatesFor, WellFormed}
use Rattle.locks.proofs.Spelled.{lock_well_formed}
use Rattle.theory.specs.Algebra.{Ops, ops_of}
use Rattle.theory.specs.Runs.{Branch, next, View, rest, read, head, value, plain, share, right, plus_constant, local, step, rerun, honest}
use Rattle.theory.specs.Branches.{Tape, masks_on, shares_of, TapeFor}
use Rattle.theory.specs.Keeper.{circuit_in, key_in, tape_in}
use Rattle.theory.specs.Rules.{product_wires}
use Rattle.theory.specs.Figures.{ValuesHold, GatesHold, Decomposed, FigureLaw}
use Rattle.theory.proofs.Lists.{length_snoc, shares_long}
use Rattle.theory.proofs.Groups.{counted}
use Rattle.theory.proofs.Parts.{tape_for}

-- gates read wires below their own
abbrev Below : {E : Type 0} → (own : ℕ) → List (Gate E) → Type 0
Below own [] = Unit {0}
Below own (ac a c ∷ gs) = (a < own) × Below (suc own) gs
Below own (mc a c ∷ gs) = (a < own) × Below (suc own) gs
Below own (ad a b ∷ gs) = (a < own) × (b < own) × Below (suc own) gs
Below own (mu a b ∷ gs) = (a < own) × (b < own) × Below (suc own) gs

below_for : (K : Kind) (own : ℕ) (gs : List (Gate (List ℕ))) → GatesFor K own gs → Below own gs
below_for K own [] f = tt
below_for K own (ac a c ∷ gs) f = (f.0.0, below_for K (suc own) gs f.1)
below_for K own (mc a c ∷ gs) f = (f.0.0, below_for K (suc own) gs f.1)
below_for K own (ad a b ∷ gs) f = (f.0.0, f.0.1, below_for K (suc own) gs f.1)
below_for K own (mu a b ∷ gs) f = (f.0.0, f.0.1, below_for K (suc own) gs f.1)

module _ {E : Type 0} (O : Ops E) where
  open O use {zer, add, neg, mul}

  read_front : (w : List E) (x : E) (a : ℕ) → a < length w → read O (w ++ (x ∷ [])) a ≡ read O w a
  read_front w x a h = get_or_append_left w (x ∷ []) zer a h

  read_last : (w : List E) (x : E) (n : ℕ) → length w ≡ n → read O (w ++ (x ∷ [])) n ≡ x
  read_last w x n h = get_or_push w x zer n h

  rerun_front : (i : Branch) (gs : List (Gate E)) (A : View E) (a : ℕ) → a < length A.wires → read O (rerun O i gs A) a ≡ read O A.wires a
  rerun_front i [] A a h = refl
  rerun_front i (g ∷ gs) A a h =
      let x = local O i A.wires (head O A.products) g in
      rerun_front i gs (step O i g A) a (omega (arith, length_snoc A.wires x)) ∙ read_front A.wires x a h

  plain_front : (gs : List (Gate E)) (w : List E) (a : ℕ) → a < length w → read O (plain O gs w) a ≡ read O w a
  plain_front [] w a h = refl
  plain_front (g ∷ gs) w a h = plain_front gs (w ++ (value O w g ∷ [])) a (omega (arith, length_snoc w (value O w g))) ∙ read_front w (value O w g) a h

  -- the honest views and wires, gate by gate
  abbrev seen : List (Gate E) → (w r : Branch → List E) → Branch → View E
  seen gs w r i = record { wires = w i; masks = r i; products = honest O gs w r i }

  abbrev made : Gate E → (w r : Branch → List E) → Branch → E
  made g w r j = right O g (w j) (r j) (w (next j)) (r (next j))

  abbrev more : Gate E → (w r : Branch → List E) → Branch → List E
  more g w r j = w j ++ (local O j (w j) (made g w r j) g ∷ [])

  step_honest : (g : Gate E) (gs : List (Gate E)) (w r : Branch → List E) (i : Branch) → step O i g (seen (g ∷ gs) w r i) ≡ seen gs (more g w r) (λ j. rest g (r j)) i
  step_honest (ac a c) gs w r i = refl
  step_honest (mc a c) gs w r i = refl
  step_honest (ad a b) gs w r i = refl
  step_honest (mu a b) gs w r i = refl

  module _ (W : Branch → List E) where
    abbrev EndsAs : List (Gate E) → (w r : Branch → List E) → Type 0
    EndsAs gs w r = (i : Branch) → W i ≡ rerun O i gs (seen gs w r i)

    later : (g : Gate E) (gs : List (Gate E)) (w r : Branch → List E) → EndsAs (g ∷ gs) w r → EndsAs gs (more g w r) (λ j. rest g (r j))
    later g gs w r e i = e i ∙ ap (rerun O i gs) (step_honest g gs w r i)

    longer : (g : Gate E) (w r : Branch → List E) (own : ℕ) → ((i : Branch) → length (w i) ≡ own) → (i : Branch) → length (more g w r i) ≡ suc own
    longer g w r own l i = length_snoc (w i) _ ∙ ap suc (l i)

    low : (gs : List (Gate E)) (w r : Branch → List E) (own : ℕ) → ((i : Branch) → length (w i) ≡ own) → EndsAs gs w r → (i : Branch) (a : ℕ) → a < own → read O (W i) a ≡ read O (w i) a
    low gs w r own l e i a h = ap (λ z. read O z a) (e i) ∙ rerun_front i gs (seen gs w r i) a (omega (arith, l i))

    here : (g : Gate E) (gs : List (Gate E)) (w r : Branch → List E) (own : ℕ) → ((i : Branch) → length (w i) ≡ own) → EndsAs (g ∷ gs) w r → (i : Branch) → read O (W i) own ≡ local O i (w i) (made g w r i) g
    here g gs w r own l e i =
        low gs (more g w r) (λ j. rest g (r j)) (suc own) (longer g w r own l) (later g gs w r e) i own (omega arith)
        ∙ read_last (w i) (local O i (w i) (made g w r i) g) own (l i)

    gates_hold : (gs : List (Gate E)) (w r : Branch → List E) (own : ℕ) → ((i : Branch) → length (w i) ≡ own) → EndsAs gs w r → Below own gs → GatesHold O W r own gs
    gates_hold [] w r own l e b = tt
    gates_hold (ac a c ∷ gs) w r own l e b = (
      (λ i. here (ac a c) gs w r own l e i ∙ ap (λ x. plus_constant O i x c) (sym (low (ac a c ∷ gs) w r own l e i a b.0))),
      gates_hold gs (more (ac a c) w r) r (suc own) (longer (ac a c) w r own l) (later (ac a c) gs w r e) b.1,
    )
    gates_hold (mc a c ∷ gs) w r own l e b = (
      (λ i. here (mc a c) gs w r own l e i ∙ ap (λ x. mul c x) (sym (low (mc a c ∷ gs) w r own l e i a b.0))),
      gates_hold gs (more (mc a c) w r) r (suc own) (longer (mc a c) w r own l) (later (mc a c) gs w r e) b.1,
    )
    gates_hold (ad a c ∷ gs) w r own l e b = (
      (λ i. here (ad a c) gs w r own l e i ∙ ap₂ add (sym (low (ad a c ∷ gs) w r own l e i a b.0)) (sym (low (ad a c ∷ gs) w r own l e i c b.1))),
      gates_hold gs (more (ad a c) w r) r (suc own) (longer (ad a c) w r own l) (later (ad a c) gs w r e) b.2,
    )
    gates_hold (mu a c ∷ gs) w r own l e b = (
      (λ i.
          let at = λ (j : Branch). sym (low (mu a c ∷ gs) w r own l e j a b.0) in
          let ct = λ (j : Branch). sym (low (mu a c ∷ gs) w r own l e j c b.1) in
          here (mu a c) gs w r own l e i ∙ (λ k. share O (at i k) (ct i k) (at (next i) k) (ct (next i) k) (head O (r i)) (head O (r (next i))))),
      gates_hold gs (more (mu a c) w r) (λ j. rest (mu a c) (r j)) (suc own) (longer (mu a c) w r own l) (later (mu a c) gs w r e) b.2,
    )

    products_are : (gs : List (Gate E)) (w r : Branch → List E) (own : ℕ) → ((i : Branch) → length (w i) ≡ own) → EndsAs gs w r → (i : Branch) → honest O gs w r i ≡ map (read O (W i)) (product_wires own gs)
    products_are [] w r own l e i = refl
    products_are (ac a c ∷ gs) w r own l e i = products_are gs (more (ac a c) w r) r (suc own) (longer (ac a c) w r own l) (later (ac a c) gs w r e) i
    products_are (mc a c ∷ gs) w r own l e i = products_are gs (more (mc a c) w r) r (suc own) (longer (mc a c) w r own l) (later (mc a c) gs w r e) i
    products_are (ad a c ∷ gs) w r own l e i = products_are gs (more (ad a c) w r) r (suc own) (longer (ad a c) w r own l) (later (ad a c) gs w r e) i
    products_are (mu a c ∷ gs) w r own l e i =
        ap₂ {C = List E} (λ x xs. x ∷ xs) (sym (here (mu a c) gs w r own l e i))
        (products_are gs (more (mu a c) w r) (λ j. rest (mu a c) (r j)) (suc own) (longer (mu a c) w r own l) (later (mu a c) gs w r e) i)

  decomposed : (l : Circuit E) (key : List E) (t : Tape E) → length key ≡ l.inputs → TapeFor l t → Below l.inputs l.gates → Decomposed O l key t
  decomposed l key t k f b =
      let long = shares_long O l key t k f in
      let W : Branch → List E = λ i. rerun O i l.gates (seen l.gates (shares_of O key t) (masks_on t) i) in
      record {
        wires = W;
        inputs = λ i j h. low W l.gates (shares_of O key t) (masks_on t) l.inputs long (λ i. refl) i j h;
        gates = gates_hold W l.gates (shares_of O key t) (masks_on t) l.inputs long (λ i. refl) b;
        shares = λ i. refl;
        masks = λ i. refl;
        products = products_are W l.gates (shares_of O key t) (masks_on t) l.inputs long (λ i. refl);
        outs = λ i. refl;
      }

  -- the plain run
  plain_low : (gs : List (Gate E)) (w : List E) (own : ℕ) (V : List E) → V ≡ plain O gs w → length w ≡ own → (a : ℕ) → a < own → read O V a ≡ read O w a
  plain_low gs w own V e l a h = ap (λ z. read O z a) e ∙ plain_front gs w a (omega arith)

  plain_here : (g : Gate E) (gs : List (Gate E)) (w : List E) (own : ℕ) (V : List E) → V ≡ plain O (g ∷ gs) w → length w ≡ own → read O V own ≡ value O w g
  plain_here g gs w own V e l = ap (λ z. read O z own) e ∙ plain_front gs (w ++ (value O w g ∷ [])) own (omega (arith, length_snoc w (value O w g))) ∙ read_last w (value O w g) own l

  values_hold : (gs : List (Gate E)) (w : List E) (own : ℕ) (V : List E) → V ≡ plain O gs w → length w ≡ own → Below own gs → ValuesHold O V own gs
  values_hold [] w own V e l b = tt
  values_hold (ac a c ∷ gs) w own V e l b = (
    plain_here (ac a c) gs w own V e l ∙ ap (λ x. add x c) (sym (plain_low (ac a c ∷ gs) w own V e l a b.0)),
    values_hold gs (w ++ (value O w (ac a c) ∷ [])) (suc own) V e (length_snoc w _ ∙ ap suc l) b.1,
  )
  values_hold (mc a c ∷ gs) w own V e l b = (
    plain_here (mc a c) gs w own V e l ∙ ap (λ x. mul c x) (sym (plain_low (mc a c ∷ gs) w own V e l a b.0)),
    values_hold gs (w ++ (value O w (mc a c) ∷ [])) (suc own) V e (length_snoc w _ ∙ ap suc l) b.1,
  )
  values_hold (ad a c ∷ gs) w own V e l b = (
    plain_here (ad a c) gs w own V e l ∙ ap₂ add (sym (plain_low (ad a c ∷ gs) w own V e l a b.0)) (sym (plain_low (ad a c ∷ gs) w own V e l c b.1)),
    values_hold gs (w ++ (value O w (ad a c) ∷ [])) (suc own) V e (length_snoc w _ ∙ ap suc l) b.2,
  )
  values_hold (mu a c ∷ gs) w own V e l b = (
    plain_here (mu a c) gs w own V e l ∙ ap₂ mul (sym (plain_low (mu a c ∷ gs) w own V e l a b.0)) (sym (plain_low (mu a c ∷ gs) w own V e l c b.1)),
    values_hold gs (w ++ (value O w (mu a c) ∷ [])) (suc own) V e (length_snoc w _ ∙ ap suc l) b.2,
  )

pub figure_law : FigureLaw
figure_law g narrow reads =
    let K = g.kind in
    let l = circuit_in g in
    let w : WellFormed K l = lock_well_formed K narrow g.lock l reads in
    let below : Below l.inputs l.gates = below_for K l.inputs l.gates w.gates_for in
    let long : length (key_in g) ≡ l.inputs = counted K l.inputs g.key in (
      decomposed (ops_of K) l (key_in g) (tape_in g) long (tape_for K l g.tape) below,
      record {
        inputs = λ j h. plain_low (ops_of K) l.gates (key_in g) l.inputs (plain (ops_of K) l.gates (key_in g)) refl long j h;
        gates = values_hold (ops_of K) l.gates (key_in g) l.inputs (plain (ops_of K) l.gates (key_in g)) refl long below;
      },
    )
