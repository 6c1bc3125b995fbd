-- Tests in order, and what each tells.
use Rattle.std.proofs.Common.{◌≡◌, ℕ, suc, Bool, true, false, cond, eqb, List, [], ◌∷◌, length, get_or, Some, None, Ok, Err, Option, Result, sym, refl, ap, ◌∙◌, ap₂, arith}
use Rattle.std.proofs.lemmas.Bool.Decides.{Decides-eqb}
use Rattle.std.proofs.lemmas.Slice.Eq.{bytes_eq-Decides}
use Rattle.std.specs.List.{AllByRecursion}
use Rattle.faults.specs.declared.Fault.{Fault}
use Rattle.faults.specs.declared.Reason.{Reason}
use Rattle.faults.specs.Outcomes.{check}
use Rattle.kinds.specs.Kind.{Kind, Lawful, same_row}
use Rattle.locks.specs.Circuit.{Gate, ac, mc, ad, mu, mus}
use Rattle.theory.specs.Algebra.{ops_of}
use Rattle.theory.specs.Runs.{Branch, View, tail, head, right, step, due}
use Rattle.theory.specs.Tests.{Verdict, both, first_at, later, unlawful, lawful_at, differ, unlike}
use Rattle.theory.specs.Verdict.{wrong_product}
use Rattle.theory.specs.Soundness.{FirstUnlike}
use Rattle.theory.specs.Rules.{product_wires}
use Rattle.theory.proofs.Unlikes.{later_none, none_same, same_none, some_first}

pub both_ok : (a b : Verdict) → both a b ≡ Ok tt → (a ≡ Ok tt) × (b ≡ Ok tt)
both_ok (Ok x) b h = (refl, h)
both_ok (Err f) b h = cc

pub both_fine : {a b : Verdict} → a ≡ Ok tt → b ≡ Ok tt → both a b ≡ Ok tt
both_fine p q = ap₂ both p q

pub check_fine : {A : Type 0} {b : Bool} (f : Fault) {r : Result A Fault} {x : A} → b ≡ true → r ≡ Ok x → check b f r ≡ Ok x
check_fine f p q = ap₂ (λ c s. check c f s) p q

pub first_none : (o : Option ℕ) (f : ℕ → Fault) → first_at o f ≡ Ok tt → o ≡ None
first_none None f h = refl
first_none (Some i) f h = cc

pub none_first : {o : Option ℕ} (f : ℕ → Fault) → o ≡ None → first_at o f ≡ Ok tt
none_first f h = ap (λ x. first_at x f) h

pub lawful_all : (K : Kind) (xs : List (List ℕ)) → unlawful K xs ≡ None → AllByRecursion (Lawful K) xs
lawful_all K [] h = tt
lawful_all K (x ∷ xs) h = go (lawful_all K xs) (K.lawful x) refl h
  where
    go : (unlawful K xs ≡ None → AllByRecursion (Lawful K) xs) → (b : Bool) → K.lawful x ≡ b → cond b (later (unlawful K xs)) (Some 0) ≡ None → Lawful K x × AllByRecursion (Lawful K) xs
    go ih true e k = (e, ih (later_none _ k))
    go ih false e k = cc

pub all_lawful : (K : Kind) (xs : List (List ℕ)) → AllByRecursion (Lawful K) xs → unlawful K xs ≡ None
all_lawful K [] h = refl
all_lawful K (x ∷ xs) h = ap₂ (λ b o. cond b (later o) (Some 0)) h.0 (all_lawful K xs h.1)

-- a lawful group passes, and only such a one
pub group_ok : (K : Kind) (r : Reason) (at : ℕ) (es : List (List ℕ)) → lawful_at K r at es ≡ Ok tt → AllByRecursion (Lawful K) es
group_ok K r at es h = lawful_all K es (first_none _ _ h)

pub ok_group : (K : Kind) (r : Reason) (at : ℕ) (es : List (List ℕ)) → AllByRecursion (Lawful K) es → lawful_at K r at es ≡ Ok tt
ok_group K r at es h = none_first _ (all_lawful K es h)

pub same_bytes : {xs ys : List ℕ} → xs ≡ ys → same_row xs ys ≡ true
same_bytes {xs} {ys} h = (bytes_eq-Decides xs ys).1 h

pub differ_same : (xs ys : List ℕ) → differ xs ys ≡ None → xs ≡ ys
differ_same = none_same eqb Decides-eqb

pub unlike_same : (xs ys : List (List ℕ)) → unlike xs ys ≡ None → xs ≡ ys
unlike_same = none_same same_row bytes_eq-Decides

pub same_unlike : {xs ys : List (List ℕ)} → xs ≡ ys → unlike xs ys ≡ None
same_unlike = same_none same_row bytes_eq-Decides

abbrev pub wire_of : List ℕ → Option ℕ → Option ℕ
wire_of ws None = None
wire_of ws (Some j) = Some (get_or ws j 0)

-- the first wrong product is the first at which the products differ from those due
pub wrong_is : (K : Kind) (i n : Branch) (own : ℕ) (gs : List (Gate (List ℕ))) (A B : View (List ℕ)) → length A.products ≡ mus gs
    → wrong_product K i n own gs A B ≡ wire_of (product_wires own gs) (unlike A.products (due (ops_of K) i n gs A B))
wrong_is K i n own [] A B h = go A.products refl
  where
    go : (ps : List (List ℕ)) → A.products ≡ ps → None ≡ wire_of [] (unlike A.products [])
    go [] e = ap (λ ps. wire_of [] (unlike ps [])) (sym e)
    go (p ∷ ps) e = cc (sym (ap length e) ∙ h)
wrong_is K i n own (ac a c ∷ gs) A B h = wrong_is K i n (suc own) gs (step (ops_of K) i (ac a c) A) (step (ops_of K) n (ac a c) B) h
wrong_is K i n own (mc a c ∷ gs) A B h = wrong_is K i n (suc own) gs (step (ops_of K) i (mc a c) A) (step (ops_of K) n (mc a c) B) h
wrong_is K i n own (ad a b ∷ gs) A B h = wrong_is K i n (suc own) gs (step (ops_of K) i (ad a b) A) (step (ops_of K) n (ad a b) B) h
wrong_is K i n own (mu a b ∷ gs) A B h = go (wrong_is K i n (suc own) gs (step (ops_of K) i (mu a b) A) (step (ops_of K) n (mu a b) B)) A.products refl
  where
    R : List ℕ
    R = right (ops_of K) (mu a b) A.wires A.masks B.wires B.masks

    D : List (List ℕ)
    D = due (ops_of K) i n gs (step (ops_of K) i (mu a b) A) (step (ops_of K) n (mu a b) B)

    W : Option ℕ
    W = wrong_product K i n (suc own) gs (step (ops_of K) i (mu a b) A) (step (ops_of K) n (mu a b) B)

    ws : List ℕ
    ws = product_wires (suc own) gs

    on : (c : Bool) (u : Option ℕ) → W ≡ wire_of ws u → cond c W (Some own) ≡ wire_of (own ∷ ws) (cond c (later u) (Some 0))
    on true None k = k
    on true (Some j) k = k
    on false u k = refl

    go : (length (tail A.products) ≡ mus gs → W ≡ wire_of ws (unlike (tail A.products) D)) → (ps : List (List ℕ)) → A.products ≡ ps → cond (same_row (head (ops_of K) A.products) R) W (Some own) ≡ wire_of (own ∷ ws) (unlike A.products (R ∷ D))
    go ih [] e = cc (sym (ap length e) ∙ h)
    go ih (p ∷ ps) e =
        let size : length (tail A.products) ≡ mus gs = ap (λ x. length (tail x)) e ∙ (cc (sym (ap length e) ∙ h)) in
        let k : W ≡ wire_of ws (unlike ps D) = ih size ∙ ap (λ x. wire_of ws (unlike (tail x) D)) e in
        ap (λ x. cond (same_row (head (ops_of K) x) R) W (Some own)) e ∙ on (same_row p R) (unlike ps D) k ∙ ap (λ x. wire_of (own ∷ ws) (unlike x (R ∷ D))) (sym e)

wire_none : (ws : List ℕ) (o : Option ℕ) → wire_of ws o ≡ None → o ≡ None
wire_none ws None h = refl
wire_none ws (Some j) h = cc

pub products_right : (K : Kind) (i n : Branch) (own : ℕ) (gs : List (Gate (List ℕ))) (A B : View (List ℕ)) → length A.products ≡ mus gs
    → wrong_product K i n own gs A B ≡ None → A.products ≡ due (ops_of K) i n gs A B
products_right K i n own gs A B h k = unlike_same _ _ (wire_none _ _ (sym (wrong_is K i n own gs A B h) ∙ k))

pub right_products : (K : Kind) (i n : Branch) (own : ℕ) (gs : List (Gate (List ℕ))) (A B : View (List ℕ)) → length A.products ≡ mus gs
    → A.products ≡ due (ops_of K) i n gs A B → wrong_product K i n own gs A B ≡ None
right_products K i n own gs A B h k = wrong_is K i n own gs A B h ∙ ap (wire_of (product_wires own gs)) (same_unlike k)

-- the first offset at which two lists of one length differ
pub differ_first : (xs ys : List ℕ) (o : ℕ) → length xs ≡ length ys → differ xs ys ≡ Some o → FirstUnlike xs ys o
differ_first xs ys o l h = let r = some_first eqb Decides-eqb 0 xs ys o l h in (r.0, omega (arith, r.0), r.1, r.2)
