-- Each call's tests are its rules.
use Rattle.std.proofs.Common.{◌≡◌, ℕ, zero, suc, ◌<◌, Bool, true, false, cond, ◌⊎◌, List, [], ◌∷◌, ◌++◌, length, get_or, take, Some, None, Ok, Err, Option, Result, sym, refl, ap, ◌∙◌, subst, ap₂, inl, inr, arith}
use Rattle.std.specs.List.{AllByRecursion}
use Rattle.faults.specs.declared.Fault.{Fault}
use Rattle.faults.specs.Outcomes.{check, and_then}
use Rattle.kinds.specs.Kind.{Kind, Lawful, same_row}
use Rattle.theory.specs.Tests.{Verdict, first_at, later, unlawful, unlike}
use Rattle.faults.specs.declared.Branch.{Branch}
use Rattle.theory.specs.declared.Extracted.{Extracted}
use Rattle.theory.specs.declared.PickFault.{PickFault}
use Rattle.theory.specs.Extraction.{beside, at_pick}
use Rattle.theory.specs.Rules.{Rule, AllKept, FirstBroken, Judged, must, all_lawful, all_equal, DifferFirst, beside_pick}
use Rattle.theory.proofs.Unlikes.{some_first, first_some}
use Rattle.std.proofs.lemmas.Slice.Eq.{bytes_eq-Decides}
use Rattle.theory.proofs.Checked as checked
use Rattle.theory.proofs.Checked.{lawful_all, unlike_same, same_unlike, same_bytes}

pub nothing_asked : {A F : Type 0} (a : A) → Judged {F = F} [] a (Ok a)
nothing_asked a = record { accepts = λ _. tt; accepted = λ _. refl; refuses = λ f h. cc; refused = λ f h. absurd h }

-- a plain condition, tested
pub tested : {A : Type 0} (P : Type 0) (b : Bool) (f : Fault) → (b ≡ true → P) → (P → b ≡ true) → (rs : List (Rule Fault)) (a : A) (v : Result A Fault) → Judged rs a v → Judged (must P f ∷ rs) a (check b f v)
tested P true f to from rs a v j = record {
  accepts = λ h. (to refl, j.accepts h);
  accepted = λ k. j.accepted k.1;
  refuses = λ g h. inr (to refl, j.refuses g h);
  refused = λ g h. elim h [ inl x ↦ absurd (x.0 (to refl)) | inr x ↦ j.refused g x.1 ];
}
tested P false f to from rs a v j = record {
  accepts = λ h. cc;
  accepted = λ k. cc (from k.0);
  refuses = λ g h. inl ((λ p. (cc (from p))), cc);
  refused = λ g h. elim h [ inl x ↦ ap Err (sym x.1) | inr x ↦ (cc (from x.0)) ];
}

-- one test after another
module _ {F : Type 0} (ss : List (Rule F)) where
  to_left : (rs : List (Rule F)) (f : F) → FirstBroken rs f → FirstBroken (rs ++ ss) f
  to_left [] f h = absurd h
  to_left (r ∷ rs) f (inl x) = inl x
  to_left (r ∷ rs) f (inr x) = inr (x.0, to_left rs f x.1)

  to_right : (rs : List (Rule F)) (f : F) → AllKept rs → FirstBroken ss f → FirstBroken (rs ++ ss) f
  to_right [] f h x = x
  to_right (r ∷ rs) f h x = inr (h.0, to_right rs f h.1 x)

  either : (rs : List (Rule F)) (f : F) → FirstBroken (rs ++ ss) f → (FirstBroken rs f) ⊎ (AllKept rs × FirstBroken ss f)
  either [] f h = inr (tt, h)
  either (r ∷ rs) f (inl x) = inl (inl x)
  either (r ∷ rs) f (inr x) = elim (either rs f x.1) [ inl y ↦ inl (inr (x.0, y)) | inr y ↦ inr ((x.0, y.0), y.1) ]

  both_kept : (rs : List (Rule F)) → AllKept rs → AllKept ss → AllKept (rs ++ ss)
  both_kept [] h x = x
  both_kept (r ∷ rs) h x = (h.0, both_kept rs h.1 x)

  each_kept : (rs : List (Rule F)) → AllKept (rs ++ ss) → AllKept rs × AllKept ss
  each_kept [] h = (tt, h)
  each_kept (r ∷ rs) h = let q = each_kept rs h.1 in ((h.0, q.0), q.1)

pub joined : {A F : Type 0} (rs ss : List (Rule F)) (v : Result (Unit {0}) F) (a : A) (w : Result A F) → Judged rs tt v → Judged ss a w → Judged (rs ++ ss) a (and_then v (λ _. w))
joined rs ss (Ok u) a w j k = record {
  accepts = λ h. both_kept ss rs (j.accepts refl) (k.accepts h);
  accepted = λ h. k.accepted (each_kept ss rs h).1;
  refuses = λ f h. to_right ss rs f (j.accepts refl) (k.refuses f h);
  refused = λ f h. elim (either ss rs f h) [ inl x ↦ (cc (j.refused f x)) | inr x ↦ k.refused f x.1 ];
}
joined rs ss (Err g) a w j k = record {
  accepts = λ h. cc;
  accepted = λ h. cc (j.accepted (each_kept ss rs h).0);
  refuses = λ f h. to_left ss rs f (j.refuses f cc);
  refused = λ f h. elim (either ss rs f h) [ inl x ↦ ap Err (cc (j.refused f x)) | inr x ↦ (cc (j.accepted x.0)) ];
}

-- a fault beside its pick
kept_beside : (e : Option Branch) (rs : List (Rule Fault)) → AllKept rs → AllKept (beside_pick e rs)
kept_beside e [] h = tt
kept_beside e (r ∷ rs) h = (h.0, kept_beside e rs h.1)

beside_kept : (e : Option Branch) (rs : List (Rule Fault)) → AllKept (beside_pick e rs) → AllKept rs
beside_kept e [] h = tt
beside_kept e (r ∷ rs) h = (h.0, beside_kept e rs h.1)

broken_beside : (e : Option Branch) (rs : List (Rule Fault)) (f : Fault) → FirstBroken rs f → FirstBroken (beside_pick e rs) (beside e f)
broken_beside e [] f h = absurd h
broken_beside e (r ∷ rs) f (inl x) = inl (f, x, refl)
broken_beside e (r ∷ rs) f (inr x) = inr (x.0, broken_beside e rs f x.1)

beside_broken : (e : Option Branch) (rs : List (Rule Fault)) (x : PickFault) → FirstBroken (beside_pick e rs) x → (f : Fault) × FirstBroken rs f × (x ≡ beside e f)
beside_broken e [] x h = absurd h
beside_broken e (r ∷ rs) x (inl y) = (y.0, inl y.1, y.2)
beside_broken e (r ∷ rs) x (inr y) = let q = beside_broken e rs x y.1 in (q.0, inr (y.0, q.1), q.2)

judged_beside : (e : Option Branch) (rs : List (Rule Fault)) (v : Verdict) → Judged rs tt v → Judged (beside_pick e rs) tt (at_pick e v)
judged_beside e rs (Ok u) j = record {
  accepts = λ h. kept_beside e rs (j.accepts refl);
  accepted = λ h. refl;
  refuses = λ x h. cc;
  refused = λ x h. cc (j.refused (beside_broken e rs x h).0 (beside_broken e rs x h).1);
}
judged_beside e rs (Err g) j = record {
  accepts = λ h. cc;
  accepted = λ h. cc (j.accepted (beside_kept e rs h));
  refuses = λ x h. subst (FirstBroken (beside_pick e rs)) (cc) (broken_beside e rs g (j.refuses g refl));
  refused = λ x h. let q = beside_broken e rs x h in ap (λ f. Err (beside e f)) (cc (j.refused q.0 q.1)) ∙ ap Err (sym q.2);
}

pub beside_joined : (e : Option Branch) (rs : List (Rule Fault)) (ss : List (Rule PickFault)) (v : Verdict) (a : Extracted) (w : Result Extracted PickFault)
    → Judged rs tt v → Judged ss a w → Judged (beside_pick e rs ++ ss) a (and_then (at_pick e v) (λ _. w))
beside_joined e rs ss v a w j k = joined (beside_pick e rs) ss (at_pick e v) a w (judged_beside e rs v j) k

-- the first wrong one of many
pub firsts : (P : Type 0) (B : ℕ → Type 0) (at : ℕ → Fault) (o : Option ℕ) → (o ≡ None → P) → (P → o ≡ None) → ((i : ℕ) → o ≡ Some i → B i) → ((i : ℕ) → B i → o ≡ Some i)
    → Judged (record { kept = P; broken = λ f. (i : ℕ) × B i × (f ≡ at i) } ∷ []) tt (first_at o at)
firsts P B at None to from first back = record {
  accepts = λ _. (to refl, tt);
  accepted = λ _. refl;
  refuses = λ f h. cc;
  refused = λ f h. elim h [ inl x ↦ (cc (back x.0 x.1)) | inr x ↦ absurd x.1 ];
}
firsts P B at (Some j) to from first back = record {
  accepts = λ h. cc;
  accepted = λ k. cc (sym (from k.0));
  refuses = λ f h. inl (j, first j refl, cc);
  refused = λ f h. elim h [
    | inl x ↦ (let same : j ≡ x.0 = cc (back x.0 x.1) in ap (λ i. Err (at i)) same ∙ ap Err (sym x.2))
    | inr x ↦ absurd x.1
  ];
}

-- unlawful elements
UnlawfulAt : Kind → List (List ℕ) → ℕ → Type 0
UnlawfulAt K es i = (i < length es) × AllByRecursion (Lawful K) (take i es) × (Lawful K (get_or es i []) → ⊥)

unlawful_first : (K : Kind) (es : List (List ℕ)) (i : ℕ) → unlawful K es ≡ Some i → UnlawfulAt K es i
unfolding UnlawfulAt
unlawful_first K [] i h = cc
unlawful_first K (e ∷ es) i h = go (unlawful_first K es) (K.lawful e) refl (unlawful K es) refl h
  where
    go : ((j : ℕ) → unlawful K es ≡ Some j → UnlawfulAt K es j) → (b : Bool) → K.lawful e ≡ b → (o : Option ℕ) → unlawful K es ≡ o → cond b (later o) (Some 0) ≡ Some i → UnlawfulAt K (e ∷ es) i
    go ih true l None eo k = cc
    go ih true l (Some j) eo k =
        let r = ih j eo in
        let at : suc j ≡ i = cc in
        subst (UnlawfulAt K (e ∷ es)) at (omega (arith, r.0), (l, r.1), r.2)
    go ih false l o eo k =
        let at : 0 ≡ i = cc in
        subst (UnlawfulAt K (e ∷ es)) at (omega arith, tt, λ x. cc)

first_unlawful : (K : Kind) (es : List (List ℕ)) (i : ℕ) → UnlawfulAt K es i → unlawful K es ≡ Some i
unfolding UnlawfulAt
first_unlawful K [] i h = absurd (omega (arith, h.0))
first_unlawful K (e ∷ es) zero h = go (K.lawful e) refl
  where
    go : (b : Bool) → K.lawful e ≡ b → cond b (later (unlawful K es)) (Some 0) ≡ Some 0
    go true l = absurd (h.2 l)
    go false l = refl
first_unlawful K (e ∷ es) (suc i) h =
    ap₂ (λ b o. cond b (later o) (Some 0)) h.1.0 (first_unlawful K es i (omega (arith, h.0), h.1.1, h.2))

pub elements : (K : Kind) (at : ℕ → Fault) (es : List (List ℕ)) → Judged (all_lawful K at es ∷ []) tt (first_at (unlawful K es) at)
unfolding UnlawfulAt
elements K at es =
    let j = firsts (AllByRecursion (Lawful K) es) (UnlawfulAt K es) at (unlawful K es) (lawful_all K es) (checked.all_lawful K es) (unlawful_first K es) (first_unlawful K es) in
    record {
      accepts = j.accepts;
      accepted = j.accepted;
      refuses = λ f h. elim (j.refuses f h) [ inl x ↦ inl (x.0, x.1.0, x.1.1, x.1.2, x.2) | inr x ↦ absurd x.1 ];
      refused = λ f h. elim h [ inl x ↦ j.refused f (inl (x.0, (x.1, x.2, x.3), x.4)) | inr x ↦ absurd x.1 ];
    }

-- rows that differ
pub equals : (at : ℕ → Fault) (xs ys : List (List ℕ)) → length xs ≡ length ys → Judged (all_equal at xs ys ∷ []) tt (first_at (unlike xs ys) at)
equals at xs ys l = firsts (xs ≡ ys) (DifferFirst [] xs ys) at (unlike xs ys) (unlike_same xs ys) same_unlike
    (λ i. some_first same_row bytes_eq-Decides [] xs ys i l) (λ i. first_some same_row bytes_eq-Decides [] xs ys i l)
