-- A round ends once: by the table alone, whatever kinds and sealers are given.
use Rattle.std.proofs.Common.{◌≡◌, ℕ, zero, suc, ◌≤◌, Bool, true, false, cond, eqb, ltb, ◌⊎◌, List, [], ◌∷◌, ◌++◌, length, Some, None, Ok, Err, Option, Result, sym, refl, ap, ◌∙◌, inl, inr, arith, eqb-true}
use Rattle.std.proofs.lemmas.Bool.{eq-eqb}
use Rattle.faults.specs.declared.Fault.{Fault}
use Rattle.faults.specs.declared.Reason.{Reason}
use Rattle.faults.specs.Numbers.{fault}
use Rattle.faults.specs.Outcomes.{check, and_then}
use Rattle.faults.proofs.Passed.{then_ok}
use Rattle.locks.specs.Reading.{lock_of}
use Rattle.theory.specs.Messages.{length_of_view, key_of, tape_of}
use Rattle.theory.specs.declared.RoundState.{RoundState}
use Rattle.theory.specs.Runs.{Branch}
use Rattle.theory.specs.Tests.{left}
use Rattle.theory.specs.Keeper.{Keeper, made_from, Given, own_view_bytes, promise_sizes, key_right, tape_right, own_first, promise_result, kept, after_promise, state_of, with_state, open_by, answer_branch, ended, drop_result}
use Rattle.theory.specs.History.{Call, call_promise, call_answer, call_drop, promise_told, run, End, opened, let_go, noted, made, ends}
use Rattle.theory.proofs.Lists.{length_snoc}
use Rattle.theory.proofs.Stored.{is_spent, spent_of}
use Rattle.theory.proofs.Stores.{fate, spent_if, fate_marked}

through : {A : Type 0} (R : Result A Fault) (X : A → Result ℕ Fault) (n q : ℕ) → ((a : A) → X a ≡ Ok q → q ≡ n) → and_then R X ≡ Ok q → q ≡ n
through (Ok a) X n q h e = h a e
through (Err f) X n q h e = cc

past : (b : Bool) (f : Fault) (R : Result ℕ Fault) (n q : ℕ) → (R ≡ Ok q → q ≡ n) → check b f R ≡ Ok q → q ≡ n
past true f R n q h e = h e
past false f R n q h e = cc

-- an accepted promise gives the next number
pub promise_number : (k : Keeper) (g : Given) (q : ℕ) → promise_result k g ≡ Ok q → q ≡ suc (length k.table)
promise_number k g q =
    let n = suc (length k.table) in
    through (lock_of g.kind g.lock) _ n q (λ l.
    through (promise_sizes g l) _ n q (λ _.
    past (eqb (length_of_view g.kind l) k.view_size) (fault Reason.WrongSize 7) _ n q (past (ltb (length k.table) k.capacity) (fault Reason.KeeperFull k.capacity) _ n q
    (through (key_right g.kind l (key_of g.kind l g.key)) _ n q (λ _. through (tape_right g.kind l (tape_of g.kind l g.tape)) _ n q (λ _ e. cc))))))

length_with : (t : List RoundState) (r : ℕ) (n : RoundState) → length (with_state t r n) ≡ length t
length_with [] r n = refl
length_with (f ∷ t) zero n = refl
length_with (f ∷ t) (suc zero) n = refl
length_with (f ∷ t) (suc (suc r)) n = ap suc (length_with t (suc r) n)

pub ended_length : {A : Type 0} (k : Keeper) (r : ℕ) (s : RoundState) (R : Result A Fault) → length (left R (λ _. ended k r s) k).table ≡ length k.table
ended_length k r s (Ok a) = length_with k.table r s
ended_length k r s (Err f) = refl

module _ (L : ℕ) (store : List ℕ) where
  abbrev k0 : Keeper
  k0 = made_from L store

  -- rounds are numbered from 1 in the order of the accepted promises
  pub made_below : (H : List Call) (r : ℕ) (g : Given) → made L store H r ≡ Some g → r ≤ length (run k0 H).table
  made_below [] r g h = cc
  made_below (call_promise x ∷ H) r g h = go (made_below H r g) (promise_result (run k0 H) x) refl
    where
      k : Keeper
      k = run k0 H

      grown : (q : ℕ) → promise_result (run k0 H) x ≡ Ok q → length (after_promise (run k0 H) x).table ≡ suc (length (run k0 H).table)
      grown q e = ap (λ R. length (left R (λ r. kept (run k0 H) r (own_view_bytes x)) (run k0 H)).table) e ∙ length_snoc (run k0 H).table RoundState.Promised

      go : (made L store H r ≡ Some g → r ≤ length (run k0 H).table) → (R : Result ℕ Fault) → promise_result (run k0 H) x ≡ R → r ≤ length (after_promise (run k0 H) x).table
      go ih (Ok q) e = at (eqb r q) refl (ap (λ R. noted (promise_told R (own_first x)) x r (made L store H r)) (sym e) ∙ h)
        where
          at : (b : Bool) → eqb r q ≡ b → cond b (Some x) (made L store H r) ≡ Some g → r ≤ length (after_promise (run k0 H) x).table
          at true t y = let z : r ≡ q = eqb-true _ _ t in omega (arith, promise_number (run k0 H) x q e, grown q e)
          at false t y = omega (arith, ih y, grown q e)
      go ih (Err f) e =
          let same : length (after_promise (run k0 H) x).table ≡ length (run k0 H).table = ap (λ R. length (left R (λ r. kept (run k0 H) r (own_view_bytes x)) (run k0 H)).table) e in
          omega (arith, same, ih (ap (λ R. noted (promise_told R (own_first x)) x r (made L store H r)) (sym e) ∙ h))
  made_below (call_answer q e z ∷ H) r g h = omega (arith, made_below H r g h, ended_length (run k0 H) q RoundState.Answered (answer_branch (run k0 H) q e z))
  made_below (call_drop q ∷ H) r g h = omega (arith, made_below H r g h, ended_length (run k0 H) q RoundState.Dropped (drop_result (run k0 H) q))

  pub made_later : (c : Call) (H : List Call) (r : ℕ) (g : Given) → made L store H r ≡ Some g → made L store (c ∷ H) r ≡ Some g
  made_later (call_promise x) H r g h = go (promise_result (run k0 H) x) refl
    where
      go : (R : Result ℕ Fault) → promise_result (run k0 H) x ≡ R → made L store (call_promise x ∷ H) r ≡ Some g
      go (Ok q) e = ap (λ R. noted (promise_told R (own_first x)) x r (made L store H r)) e ∙ at (eqb r q) refl
        where
          at : (b : Bool) → eqb r q ≡ b → cond b (Some x) (made L store H r) ≡ Some g
          at true t = let z : r ≡ q = eqb-true _ _ t in absurd (omega (arith, made_below H r g h, promise_number (run k0 H) x q e))
          at false t = h
      go (Err f) e = ap (λ R. noted (promise_told R (own_first x)) x r (made L store H r)) e ∙ h
  made_later (call_answer q e z) H r g h = h
  made_later (call_drop q) H r g h = h

-- an open round is promised and not spent
open_fate : (r : ℕ) (o : Option RoundState) → open_by r o ≡ Ok tt → spent_of o ≡ Some false
open_fate r None h = cc
open_fate r (Some RoundState.Promised) h = refl
open_fate r (Some RoundState.Answered) h = cc
open_fate r (Some RoundState.Dropped) h = cc

answer_open : (k : Keeper) (r e z : ℕ) (b : Branch) → answer_branch k r e z ≡ Ok b → fate k.table r ≡ Some false
answer_open k r e z b h = open_fate r (state_of k.table r) (then_ok _ _ b h).1

state_kept : (t : List RoundState) (n : RoundState) (r : ℕ) → fate t r ≡ Some true → fate (t ++ (n ∷ [])) r ≡ Some true
state_kept [] n r h = cc
state_kept (x ∷ t) n zero h = cc
state_kept (x ∷ t) n (suc zero) h = h
state_kept (x ∷ t) n (suc (suc r)) h = state_kept t n (suc r) h

-- no ends, or one and then the round is spent
Ended : List End → Option Bool → Type 0
Ended es o = (es ≡ []) ⊎ ((length es ≡ 1) × (o ≡ Some true))

promise_keeps : (k : Keeper) (g : Given) (R : Result ℕ Fault) (r : ℕ) → fate k.table r ≡ Some true → fate (left R (λ q. kept k q (own_view_bytes g)) k).table r ≡ Some true
promise_keeps k g (Ok q) r h = state_kept k.table RoundState.Promised r h
promise_keeps k g (Err f) r h = h

-- another round's end
other_end : {A : Type 0} (k : Keeper) (r q : ℕ) (s : RoundState) → is_spent s ≡ true → (R : Result A Fault) → eqb r q ≡ false → fate (left R (λ _. ended k q s) k).table r ≡ fate k.table r
unfolding spent_if
other_end k r q s sp (Ok a) e = fate_marked k.table q s sp r ∙ ap (λ b. cond b (spent_if (fate k.table r)) (fate k.table r)) e
other_end k r q s sp (Err f) e = refl

-- its own
own_end : (k : Keeper) (r : ℕ) (s : RoundState) → is_spent s ≡ true → fate k.table r ≡ Some false → fate (with_state k.table r s) r ≡ Some true
unfolding spent_if
own_end k r s sp h =
    fate_marked k.table r s sp r ∙ ap (λ b. cond b (spent_if (fate k.table r)) (fate k.table r)) (eq-eqb r r refl) ∙ ap spent_if h

end_step : {A : Type 0} (k : Keeper) (r q : ℕ) (s : RoundState) → is_spent s ≡ true → (R : Result A Fault) → ((a : A) → R ≡ Ok a → fate k.table q ≡ Some false)
    → (E : A → End) (es : List End) → Ended es (fate k.table r)
    → (x : Bool) → eqb r q ≡ x → Ended (cond x (left R (λ a. E a ∷ es) es) es) (fate (left R (λ _. ended k q s) k).table r)
unfolding Ended
end_step k r q s sp R free E es (inl n) false e = inl n
end_step k r q s sp R free E es (inr n) false e = inr (n.0, other_end k r q s sp R e ∙ n.1)
end_step k r q s sp (Err f) free E es h true e = h
end_step k r q s sp (Ok a) free E es (inl n) true e =
    let same : r ≡ q = eqb-true _ _ e in
    inr (ap (λ z. suc (length z)) n, ap (fate (with_state k.table q s)) same ∙ own_end k q s sp (free a refl))
end_step k r q s sp (Ok a) free E es (inr n) true e =
    let same : r ≡ q = eqb-true _ _ e in
    let no : Some true ≡ Some false = sym n.1 ∙ ap (fate k.table) same ∙ free a refl in
    cc

module _ (L : ℕ) (store : List ℕ) where
  ended_once : (H : List Call) (r : ℕ) → Ended (ends L store H r) (fate (run (made_from L store) H).table r)
  unfolding Ended
  ended_once [] r = inl refl
  ended_once (call_promise g ∷ H) r =
      elim (ended_once H r) [ inl n ↦ inl n | inr n ↦ inr (n.0, promise_keeps (run (made_from L store) H) g (promise_result (run (made_from L store) H) g) r n.1) ]
  ended_once (call_answer q e z ∷ H) r =
      let k = run (made_from L store) H in
      end_step k r q RoundState.Answered refl (answer_branch k q e z) (λ b h. answer_open k q e z b h) (λ b. opened b) (ends L store H r) (ended_once H r) (eqb r q) refl
  ended_once (call_drop q ∷ H) r =
      let k = run (made_from L store) H in
      end_step k r q RoundState.Dropped refl (drop_result k q) (λ u h. open_fate q (state_of k.table q) h) (λ u. let_go) (ends L store H r) (ended_once H r) (eqb r q) refl

  pub once : (H : List Call) (r : ℕ) → length (ends L store H r) ≤ 1
  unfolding Ended
  once H r = elim (ended_once H r) [ inl n ↦ omega (arith, ap length n) | inr n ↦ omega (arith, n.0) ]
