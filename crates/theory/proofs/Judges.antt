-- Verify, extract, promise, answer and drop are judged by their rules.
use Rattle.std.proofs.Common.{◌≡◌, ℕ, suc, ◌+◌, ◌*◌, ◌<◌, ◌≤◌, Bool, true, eqb, ltb, leb, List, [], ◌∷◌, ◌++◌, length, get_or, Some, None, Ok, Err, Option, Result, sym, refl, ap, ◌∙◌, subst, ap₂, inl, inr, ltb-true, ok_or}
use lib.ListN.{length-map}
use Rattle.std.proofs.lemmas.Bool.{eqb-true, eq-eqb, leb-true, le-leb, lt-ltb}
use Rattle.faults.specs.declared.Fault.{Fault}
use Rattle.faults.specs.declared.Reason.{Reason}
use Rattle.faults.specs.Numbers.{fault, fault_in}
use Rattle.faults.specs.Outcomes.{check, and_then}
use Rattle.kinds.specs.Kind.{Kind, same_row}
use Rattle.kinds.proofs.Same.{same_true}
use Rattle.locks.specs.Circuit.{Gate, ac, mc, ad, mu, Circuit, mus}
use Rattle.locks.specs.Reading.{lock_of}
use Rattle.seals.specs.Sealing.{Sealing}
use Rattle.theory.specs.declared.RoundState.{RoundState}
use Rattle.theory.specs.Algebra.{ops_of}
use Rattle.theory.specs.Runs.{Branch, one, two, three, next, View, sum, sum_of, at_outputs, targets, step, due}
use Rattle.theory.specs.Branches.{Tape}
use Rattle.theory.specs.Groups.{element_at}
use Rattle.theory.specs.Messages.{pick_byte, branch_of, view_of, length_of_view, shares_at, masks_at, products_at, outs_at, outs_in, picked_view, next_view, key_of, tape_of, tape_shares_at, tape_masks_at}
use Rattle.theory.specs.Tests.{both, first_at, lawful_at, unlike}
use Rattle.theory.specs.Verdict.{picked, wrong_product, verify_sizes, first_formed, view_formed, answer_formed, figure_holds, messages_right}
use Rattle.theory.specs.Extraction.{at_pick, extract_sizes, compared}
use Rattle.theory.specs.Keeper.{Keeper, Given, promise_sizes, key_right, tape_right, promise_result, state_of, open_by}
use Rattle.theory.specs.Rules.{Rule, Judged, must, all_equal, product_wires, IsPick, verify_size_rules, group_rule, view_rules, message_rules, extract_size_rules, beside_pick, promise_rules, RulesLaw}
use Rattle.theory.proofs.Checked.{same_bytes, wire_of, wrong_is}
use Rattle.theory.proofs.Groups.{counted}
use Rattle.theory.proofs.Lists.{length_sum}
use Rattle.theory.proofs.Parts.{view_for}
use Rattle.theory.proofs.Verdicts.{picked_byte, pick_branch}
use Rattle.theory.proofs.Judging.{nothing_asked, tested, joined, beside_joined, elements, equals}

length_due : (K : Kind) (i n : Branch) (gs : List (Gate (List ℕ))) (A B : View (List ℕ)) → length (due (ops_of K) i n gs A B) ≡ mus gs
length_due K i n [] A B = refl
length_due K i n (ac a c ∷ gs) A B = length_due K i n gs (step (ops_of K) i (ac a c) A) (step (ops_of K) n (ac a c) B)
length_due K i n (mc a c ∷ gs) A B = length_due K i n gs (step (ops_of K) i (mc a c) A) (step (ops_of K) n (mc a c) B)
length_due K i n (ad a b ∷ gs) A B = length_due K i n gs (step (ops_of K) i (ad a b) A) (step (ops_of K) n (ad a b) B)
length_due K i n (mu a b ∷ gs) A B = ap suc (length_due K i n gs (step (ops_of K) i (mu a b) A) (step (ops_of K) n (mu a b) B))

wire_first : (ws : List ℕ) (o : Option ℕ) (F : ℕ → Fault) → first_at o (λ i. F (get_or ws i 0)) ≡ first_at (wire_of ws o) F
wire_first ws None F = refl
wire_first ws (Some i) F = refl

by_le : {A : Type 0} (m n : ℕ) (f : Fault) (rs : List (Rule Fault)) (a : A) (v : Result A Fault) → Judged rs a v → Judged (must (m ≤ n) f ∷ rs) a (check (leb m n) f v)
by_le m n f rs a v j = tested (m ≤ n) (leb m n) f (leb-true m n) (le-leb m n) rs a v j

by_lt : {A : Type 0} (m n : ℕ) (f : Fault) (rs : List (Rule Fault)) (a : A) (v : Result A Fault) → Judged rs a v → Judged (must (m < n) f ∷ rs) a (check (ltb m n) f v)
by_lt m n f rs a v j = tested (m < n) (ltb m n) f (ltb-true m n) (lt-ltb m n) rs a v j

by_eq : {A : Type 0} (m n : ℕ) (f : Fault) (rs : List (Rule Fault)) (a : A) (v : Result A Fault) → Judged rs a v → Judged (must (m ≡ n) f ∷ rs) a (check (eqb m n) f v)
by_eq m n f rs a v j = tested (m ≡ n) (eqb m n) f (eqb-true m n) (eq-eqb m n) rs a v j

by_bytes : {A : Type 0} (x y : List ℕ) (f : Fault) (rs : List (Rule Fault)) (a : A) (v : Result A Fault) → Judged rs a v → Judged (must (x ≡ y) f ∷ rs) a (check (same_row x y) f v)
by_bytes x y f rs a v j = tested (x ≡ y) (same_row x y) f (same_true x y) same_bytes rs a v j

by_test : {A : Type 0} (b : Bool) (f : Fault) (rs : List (Rule Fault)) (a : A) (v : Result A Fault) → Judged rs a v → Judged (must (b ≡ true) f ∷ rs) a (check b f v)
by_test b f rs a v j = tested (b ≡ true) b f (λ h. h) (λ h. h) rs a v j

-- a rule that is broken for certain
never : {A : Type 0} (P : Type 0) (f : Fault) (a : A) → (P → ⊥) → Judged (must P f ∷ []) a (Err f)
never P f a wrong = record {
  accepts = λ h. cc;
  accepted = λ k. absurd (wrong k.0);
  refuses = λ g h. inl (wrong, cc);
  refused = λ g h. elim h [ inl x ↦ ap Err (sym x.1) | inr x ↦ absurd x.1 ];
}

no_pick : (pick : ℕ) → (IsPick pick → ⊥) → picked pick ≡ Err (fault Reason.WrongPick pick)
no_pick pick wrong = go (branch_of pick) refl
  where
    go : (o : Option Branch) → branch_of pick ≡ o → ok_or (branch_of pick) (fault Reason.WrongPick pick) ≡ Err (fault Reason.WrongPick pick)
    go None e = ap (λ o. ok_or o (fault Reason.WrongPick pick)) e
    go (Some b) e = absurd (wrong (b, pick_branch pick b e))

module _ (K : Kind) (S : Sealing) (l : Circuit (List ℕ)) where
  sizes_judged : (first answer work1 work2 : ℕ) → Judged (verify_size_rules K S l first answer work1 work2) tt (verify_sizes K S l first answer work1 work2)
  sizes_judged first answer work1 work2 =
      by_le _ _ _ _ _ _ (by_eq _ _ _ _ _ _ (by_eq _ _ _ _ _ _ (by_le _ _ _ _ _ _ (by_le _ _ _ _ _ _ (nothing_asked tt)))))

  group_judged : (r : Reason) (at : ℕ) (es : List (List ℕ)) → Judged (group_rule K S l r at es ∷ []) tt (lawful_at K r at es)
  group_judged r at es = elements K (λ i. fault r (at + element_at K i)) es

  view_judged : (at : ℕ) (A : View (List ℕ)) → Judged (view_rules K S l at A) tt (view_formed K S l at A)
  view_judged at A =
      joined _ _ _ tt _ (group_judged Reason.MalformedAnswer (at + shares_at K l) A.wires)
      (joined _ _ _ tt _ (group_judged Reason.MalformedAnswer (at + masks_at K l) A.masks) (group_judged Reason.MalformedAnswer (at + products_at K l) A.products))

  module _ (fm : List ℕ) (e : Branch) (an : List ℕ) where
    abbrev y : Branch → List (List ℕ)
    y = outs_in K l fm

    abbrev A : View (List ℕ)
    A = (view_of K l (picked_view K l an)).1

    abbrev B : View (List ℕ)
    B = (view_of K l (next_view K l an)).1

    y_long : (i : Branch) → length (outs_in K l fm i) ≡ length l.outputs
    y_long i = counted K (length l.outputs) _

    sums_long : length (sum_of (ops_of K) y) ≡ length (targets (ops_of K) l.outputs)
    sums_long =
        let two_long : length (sum (ops_of K) (y one) (y two)) ≡ length (y one) = length_sum (ops_of K) (y one) (y two) (y_long one ∙ sym (y_long two)) in
        length_sum (ops_of K) (sum (ops_of K) (y one) (y two)) (y three) (two_long ∙ y_long one ∙ sym (y_long three)) ∙ two_long ∙ y_long one ∙ sym (length-map l.outputs _)

    shares_long : (i : Branch) (w : List (List ℕ)) → length (at_outputs (ops_of K) l.outputs w) ≡ length (outs_in K l fm i)
    shares_long i w = length-map l.outputs _ ∙ sym (y_long i)

    products_judged : Judged (all_equal (λ i. fault_in e Reason.WrongProduct (get_or (product_wires l.inputs l.gates) i 0)) A.products (due (ops_of K) e (next e) l.gates A B) ∷ []) tt
        (first_at (wrong_product K e (next e) l.inputs l.gates A B) (λ w. fault_in e Reason.WrongProduct w))
    products_judged =
        let sized = (view_for K l (picked_view K l an)).multiplied in
        let ws = product_wires l.inputs l.gates in
        let D = due (ops_of K) e (next e) l.gates A B in
        subst (Judged (all_equal (λ i. fault_in e Reason.WrongProduct (get_or ws i 0)) A.products D ∷ []) tt)
        (wire_first ws (unlike A.products D) (λ w. fault_in e Reason.WrongProduct w)
        ∙ ap (λ o. first_at o (λ w. fault_in e Reason.WrongProduct w)) (sym (wrong_is K e (next e) l.inputs l.gates A B sized)))
        (equals (λ i. fault_in e Reason.WrongProduct (get_or ws i 0)) A.products D (sized ∙ sym (length_due K e (next e) l.gates A B)))

    messages_judged : Judged (message_rules K S l fm e an) tt (messages_right K S l fm e an)
    messages_judged =
        joined _ _ (first_formed K S l fm) tt _
        (by_test _ _ _ _ _ (joined _ _ _ tt _ (group_judged Reason.MalformedFirstMessage (outs_at K l one) (y one))
        (joined _ _ _ tt _ (group_judged Reason.MalformedFirstMessage (outs_at K l two) (y two)) (group_judged Reason.MalformedFirstMessage (outs_at K l three) (y three)))))
        (joined _ _ (answer_formed K S l e an) tt (figure_holds K S l fm e an)
        (by_test _ _ _ _ _ (by_eq _ _ _ _ _ _ (joined _ _ _ tt _ (view_judged 3 A) (view_judged (3 + length_of_view K l) B))))
        (joined _ _ _ tt _ (equals (λ i. fault Reason.MissedTarget i) (sum_of (ops_of K) y) (targets (ops_of K) l.outputs) sums_long)
        (by_bytes _ _ _ _ _ _ (by_bytes _ _ _ _ _ _
        (joined _ _ _ tt _ (equals (λ i. fault_in e Reason.WrongOutputShare i) _ (y e) (shares_long e _))
        (joined _ _ _ tt _ (equals (λ i. fault_in (next e) Reason.WrongOutputShare i) _ (y (next e)) (shares_long (next e) _)) products_judged))))))

  extract_judged : (first a1 a2 a3 work1 work2 key : ℕ) → Judged (extract_size_rules K S l first a1 a2 a3 work1 work2 key) tt (extract_sizes K S l first a1 a2 a3 work1 work2 key)
  extract_judged first a1 a2 a3 work1 work2 key =
      by_le _ _ _ _ _ _ (by_eq _ _ _ _ _ _ (by_eq _ _ _ _ _ _ (by_eq _ _ _ _ _ _ (by_eq _ _ _ _ _ _ (by_le _ _ _ _ _ _ (by_le _ _ _ _ _ _ (by_eq _ _ _ _ _ _ (nothing_asked tt))))))))

promise_judged : (k : Keeper) (g : Given) (l : Circuit (List ℕ)) → lock_of g.kind g.lock ≡ Ok l → Judged (promise_rules k g l) (suc (length k.table)) (promise_result k g)
promise_judged k g l reads =
    let K = g.kind in
    let t : Tape (List ℕ) = tape_of K l g.tape in
    let n = suc (length k.table) in
    let sizes : Judged _ tt (promise_sizes g l) = by_le _ _ _ _ _ _ (by_eq _ _ _ _ _ _ (by_eq _ _ _ _ _ _ (by_le _ _ _ _ _ _ (by_le _ _ _ _ _ _ (by_le _ _ _ _ _ _ (by_eq _ _ _ _ _ _ (nothing_asked tt))))))) in
    let key : Judged _ tt (key_right K l (key_of K l g.key)) =
    joined _ _ _ tt _ (elements K (λ i. fault Reason.UnlawfulKey i) (key_of K l g.key))
    (equals (λ i. fault Reason.KeyDoesNotFit i) _ (targets (ops_of K) l.outputs) (length-map l.outputs _ ∙ sym (length-map l.outputs _))) in
    let tape : Judged _ tt (tape_right K l t) =
    joined _ _ _ tt _ (elements K (λ i. fault Reason.UnlawfulTape (tape_shares_at K l one + element_at K i)) t.share1)
    (joined _ _ _ tt _ (elements K (λ i. fault Reason.UnlawfulTape (tape_shares_at K l two + element_at K i)) t.share2)
    (joined _ _ _ tt _ (elements K (λ i. fault Reason.UnlawfulTape (tape_masks_at K l one + element_at K i)) t.mask1)
    (joined _ _ _ tt _ (elements K (λ i. fault Reason.UnlawfulTape (tape_masks_at K l two + element_at K i)) t.mask2)
    (elements K (λ i. fault Reason.UnlawfulTape (tape_masks_at K l three + element_at K i)) t.mask3)))) in
    let rest : Judged _ n (check (eqb (length_of_view K l) k.view_size) (fault Reason.WrongSize 7) (check (ltb (length k.table) k.capacity) (fault Reason.KeeperFull k.capacity)
    (and_then (key_right K l (key_of K l g.key)) (λ _. and_then (tape_right K l t) (λ _. Ok n))))) =
    by_eq _ _ _ _ _ _ (by_lt _ _ _ _ _ _ (joined _ _ _ n _ key (joined _ _ _ n _ tape (nothing_asked n)))) in
    subst (λ R. Judged (promise_rules k g l) n (and_then R (λ l. and_then (promise_sizes g l) (λ _.
    check (eqb (length_of_view K l) k.view_size) (fault Reason.WrongSize 7) (check (ltb (length k.table) k.capacity) (fault Reason.KeeperFull k.capacity)
    (and_then (key_right K l (key_of K l g.key)) (λ _. and_then (tape_right K l (tape_of K l g.tape)) (λ _. Ok n))))))))
    (sym reads) (joined _ _ _ n _ sizes rest)

-- a round by its record
by_state : (r : ℕ) (o : Option RoundState)
    → Judged (must (o ≡ None → ⊥) (fault Reason.UnknownRound r) ∷ must (o ≡ Some RoundState.Promised) (fault Reason.SpentRound r) ∷ []) tt (open_by r o)
by_state r None = record {
  accepts = λ h. cc;
  accepted = λ k. absurd (k.0 refl);
  refuses = λ f h. inl ((λ p. p refl), cc);
  refused = λ f h. elim h [ inl x ↦ ap Err (sym x.1) | inr x ↦ absurd (x.0 refl) ];
}
by_state r (Some RoundState.Promised) = record {
  accepts = λ h. ((λ e. cc), (refl, tt));
  accepted = λ k. refl;
  refuses = λ f h. cc;
  refused = λ f h. elim h [ inl x ↦ absurd (x.0 (λ e. cc)) | inr x ↦ elim x.1 [ inl y ↦ absurd (y.0 refl) | inr y ↦ absurd y.1 ] ];
}
by_state r (Some RoundState.Answered) = record {
  accepts = λ h. cc;
  accepted = λ k. let z : ◌≡◌ {A = RoundState} RoundState.Answered RoundState.Promised = cc in other z;
  refuses = λ f h. inr ((λ e. cc), inl ((λ e. other cc), cc));
  refused = λ f h. elim h [ inl x ↦ absurd (x.0 (λ e. cc)) | inr x ↦ elim x.1 [ inl y ↦ ap Err (sym y.1) | inr y ↦ absurd y.1 ] ];
}
  where
    other : {X : Type 0} → RoundState.Answered ≡ RoundState.Promised → X
    other h = cc
by_state r (Some RoundState.Dropped) = record {
  accepts = λ h. cc;
  accepted = λ k. let z : ◌≡◌ {A = RoundState} RoundState.Dropped RoundState.Promised = cc in other z;
  refuses = λ f h. inr ((λ e. cc), inl ((λ e. other cc), cc));
  refused = λ f h. elim h [ inl x ↦ absurd (x.0 (λ e. cc)) | inr x ↦ elim x.1 [ inl y ↦ ap Err (sym y.1) | inr y ↦ absurd y.1 ] ];
}
  where
    other : {X : Type 0} → RoundState.Dropped ≡ RoundState.Promised → X
    other h = cc

pub rules_law : RulesLaw
rules_law = record {
  lock_first = λ K S lock f h. (
    (λ fm pick an work1 work2. ap (λ R. and_then R (λ l. both (verify_sizes K S l (length fm) (length an) work1 work2) (and_then (picked pick) (λ e. messages_right K S l fm e an)))) h),
    (λ fm an work1 work2 key. ap (λ R. and_then (at_pick None R) (λ l. and_then (at_pick None (extract_sizes K S l (length fm) (length (an one)) (length (an two)) (length (an three)) work1 work2 key)) (λ _.
        and_then (at_pick (Some one) (messages_right K S l fm one (an one))) (λ _. and_then (at_pick (Some two) (messages_right K S l fm two (an two))) (λ _. and_then (at_pick (Some three) (messages_right K S l fm three (an three))) (λ _. Ok (compared K S l an))))))) h),
    (λ k g a b. ap (λ R. and_then R (λ l. and_then (promise_sizes g l) (λ _.
        check (eqb (length_of_view g.kind l) k.view_size) (fault Reason.WrongSize 7) (check (ltb (length k.table) k.capacity) (fault Reason.KeeperFull k.capacity)
        (and_then (key_right g.kind l (key_of g.kind l g.key)) (λ _. and_then (tape_right g.kind l (tape_of g.kind l g.tape)) (λ _. Ok (suc (length k.table)))))))))
        (ap₂ lock_of a b ∙ h)),
  );
  verifying = λ K S lock l reads fm e an work1 work2.
      subst (λ R. Judged (verify_size_rules K S l (length fm) (length an) work1 work2 ++ message_rules K S l fm e an) tt
      (and_then R (λ l. both (verify_sizes K S l (length fm) (length an) work1 work2) (and_then (picked (pick_byte e)) (λ e. messages_right K S l fm e an))))) (sym reads)
      (joined _ _ _ tt _ (sizes_judged K S l (length fm) (length an) work1 work2)
      (subst (λ R. Judged (message_rules K S l fm e an) tt (and_then R (λ e. messages_right K S l fm e an))) (sym (picked_byte e)) (messages_judged K S l fm e an)));
  verifying_no_pick = λ K S lock l reads fm pick an work1 work2 wrong.
      subst (λ R. Judged (verify_size_rules K S l (length fm) (length an) work1 work2 ++ (must (IsPick pick) (fault Reason.WrongPick pick) ∷ [])) tt
      (and_then R (λ l. both (verify_sizes K S l (length fm) (length an) work1 work2) (and_then (picked pick) (λ e. messages_right K S l fm e an))))) (sym reads)
      (joined _ _ _ tt _ (sizes_judged K S l (length fm) (length an) work1 work2)
      (subst (λ R. Judged (must (IsPick pick) (fault Reason.WrongPick pick) ∷ []) tt (and_then R (λ e. messages_right K S l fm e an))) (sym (no_pick pick wrong)) (never (IsPick pick) (fault Reason.WrongPick pick) tt wrong)));
  extracting = λ K S lock l reads fm an work1 work2 key.
      subst (λ R. Judged (beside_pick None (extract_size_rules K S l (length fm) (length (an one)) (length (an two)) (length (an three)) work1 work2 key)
      ++ (beside_pick (Some one) (message_rules K S l fm one (an one)) ++ (beside_pick (Some two) (message_rules K S l fm two (an two)) ++ beside_pick (Some three) (message_rules K S l fm three (an three)))))
      (compared K S l an)
      (and_then (at_pick None R) (λ l. and_then (at_pick None (extract_sizes K S l (length fm) (length (an one)) (length (an two)) (length (an three)) work1 work2 key)) (λ _.
      and_then (at_pick (Some one) (messages_right K S l fm one (an one))) (λ _. and_then (at_pick (Some two) (messages_right K S l fm two (an two))) (λ _. and_then (at_pick (Some three) (messages_right K S l fm three (an three))) (λ _. Ok (compared K S l an)))))))) (sym reads)
      (beside_joined None _ _ _ (compared K S l an) _ (extract_judged K S l (length fm) (length (an one)) (length (an two)) (length (an three)) work1 work2 key)
      (beside_joined (Some one) _ _ _ (compared K S l an) _ (messages_judged K S l fm one (an one))
      (beside_joined (Some two) _ _ _ (compared K S l an) _ (messages_judged K S l fm two (an two))
      (beside_joined (Some three) _ [] _ (compared K S l an) _ (messages_judged K S l fm three (an three)) (nothing_asked (compared K S l an))))));
  promising = promise_judged;
  answering = λ k r e size.
      joined _ _ _ e _ (by_state r (state_of k.table r))
      (subst (λ R. Judged (must (size ≡ 3 + 2 * k.view_size) (fault Reason.WrongSize 1) ∷ []) e (and_then R (λ b. check (eqb size (3 + 2 * k.view_size)) (fault Reason.WrongSize 1) (Ok b)))) (sym (picked_byte e))
      (by_eq size (3 + 2 * k.view_size) (fault Reason.WrongSize 1) [] e (Ok e) (nothing_asked e)));
  answering_no_pick = λ k r pick size wrong e.
      joined _ _ _ e _ (by_state r (state_of k.table r))
      (subst (λ R. Judged (must (IsPick pick) (fault Reason.WrongPick pick) ∷ []) e (and_then R (λ b. check (eqb size (3 + 2 * k.view_size)) (fault Reason.WrongSize 1) (Ok b)))) (sym (no_pick pick wrong))
      (never (IsPick pick) (fault Reason.WrongPick pick) e wrong));
  dropping = λ k r. by_state r (state_of k.table r);
}
