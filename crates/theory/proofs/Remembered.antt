-- The keeper remembers what its accepted promises gave.
use Rattle.std.proofs.Common.{◌≡◌, ℕ, suc, ◌+◌, ◌*◌, Bool, true, false, cond, eqb, ltb, List, [], ◌∷◌, length, replicate, Some, None, Ok, Err, Option, Result, sym, refl, ap, ◌∙◌, ok_or}
use lib.ListN.{length-replicate}
use Rattle.faults.specs.declared.Fault.{Fault}
use Rattle.faults.specs.declared.Reason.{Reason}
use Rattle.faults.specs.Numbers.{fault}
use Rattle.faults.specs.Outcomes.{check, and_then}
use Rattle.locks.specs.Reading.{lock_of}
use Rattle.theory.specs.declared.RoundState.{RoundState}
use Rattle.theory.specs.Runs.{Branch}
use Rattle.theory.specs.Messages.{branch_of, length_of_view, key_of, tape_of}
use Rattle.theory.specs.Tests.{Verdict, left}
use Rattle.theory.specs.Verdict.{picked}
use Rattle.theory.specs.Store.{rounds_in}
use Rattle.theory.specs.Keeper.{Keeper, made_from, Given, promise_sizes, key_right, tape_right, own_first, own_view_bytes, kept, promise_result, answer_branch, drop_result, ended}
use Rattle.theory.specs.History.{Call, call_promise, call_answer, call_drop, Told, told_fault, promise_told, answer_from, drop_told, tells, run, End, opened, let_go, made, ends}
use Rattle.theory.specs.Remembering.{nameless, answer_of, answer_remembered, drop_remembered, promises, remembered, Remembers}
use Rattle.theory.proofs.Lists.{length_snoc}
use Rattle.theory.proofs.Pasts as pasts
use Rattle.theory.proofs.Pasts.{Shown, refused, promised, answered, dropped, answer_shows, drop_shows}
use Rattle.theory.proofs.Asks.{checks, told, outcome, history}
use Rattle.theory.proofs.Asked.{parsed_some, made_is}
use Rattle.theory.proofs.Onces.{ended_length}
use Rattle.theory.proofs.Hidings.{Lawfully, before, made_same, tied_here}

-- a promise goes by three numbers of the keeper
abbrev by_numbers : Given → (L n t : ℕ) → Result ℕ Fault
by_numbers g L n t =
    and_then (lock_of g.kind g.lock) (λ l.
    and_then (promise_sizes g l) (λ _.
    check (eqb (length_of_view g.kind l) L) (fault Reason.WrongSize 7)
    (check (ltb t n) (fault Reason.KeeperFull n)
    (and_then (key_right g.kind l (key_of g.kind l g.key)) (λ _.
    and_then (tape_right g.kind l (tape_of g.kind l g.tape)) (λ _.
    Ok (suc t)))))))

promise_numbers : (k : Keeper) (g : Given) (L n c : ℕ) → k.view_size ≡ L → k.capacity ≡ n → length k.table ≡ c → promise_result k g ≡ promise_result (nameless L n c) g
promise_numbers k g L n c a b d =
    let e : length k.table ≡ length (replicate c RoundState.Promised) = d ∙ sym (length-replicate c RoundState.Promised) in
    λ i. by_numbers g (a i) (b i) (e i)

kept_size : (k : Keeper) (v : Branch → List ℕ) (R : Result ℕ Fault) → (left R (λ r. kept k r v) k).view_size ≡ k.view_size
kept_size k v (Ok r) = refl
kept_size k v (Err f) = refl

kept_capacity : (k : Keeper) (v : Branch → List ℕ) (R : Result ℕ Fault) → (left R (λ r. kept k r v) k).capacity ≡ k.capacity
kept_capacity k v (Ok r) = refl
kept_capacity k v (Err f) = refl

ended_size : {A : Type 0} (k : Keeper) (r : ℕ) (s : RoundState) (R : Result A Fault) → (left R (λ _. ended k r s) k).view_size ≡ k.view_size
ended_size k r s (Ok a) = refl
ended_size k r s (Err f) = refl

ended_capacity : {A : Type 0} (k : Keeper) (r : ℕ) (s : RoundState) (R : Result A Fault) → (left R (λ _. ended k r s) k).capacity ≡ k.capacity
ended_capacity k r s (Ok a) = refl
ended_capacity k r s (Err f) = refl

kept_count : (k : Keeper) (v : Branch → List ℕ) (R : Result ℕ Fault) (n : ℕ) → length k.table ≡ n → length (left R (λ r. kept k r v) k).table ≡ left R (λ _. suc n) n
kept_count k v (Ok r) n h = length_snoc k.table RoundState.Promised ∙ ap suc h
kept_count k v (Err f) n h = h

abbrev any : List End → Bool
any [] = false
any (x ∷ es) = true

answer_any : (k : Keeper) (q : ℕ) (B : Result Branch Fault) (s : Shown) → answer_from k q B ≡ told s → (es : List End) → any (left B (λ b. opened b ∷ es) es) ≡ pasts.ends s (any es)
answer_any k q (Ok b) (refused f) h es = cc
answer_any k q (Ok b) (promised r m) h es = cc
answer_any k q (Ok b) (answered c x y) h es = refl
answer_any k q (Ok b) dropped h es = refl
answer_any k q (Err f) (refused e) h es = refl
answer_any k q (Err f) (promised r m) h es = refl
answer_any k q (Err f) (answered c x y) h es = cc
answer_any k q (Err f) dropped h es = cc

drop_any : (R : Verdict) (s : Shown) → drop_told R ≡ told s → (es : List End) → any (left R (λ _. let_go ∷ es) es) ≡ pasts.ends s (any es)
drop_any (Ok u) (refused f) h es = cc
drop_any (Ok u) (promised r m) h es = cc
drop_any (Ok u) (answered c x y) h es = refl
drop_any (Ok u) dropped h es = refl
drop_any (Err f) (refused e) h es = refl
drop_any (Err f) (promised r m) h es = refl
drop_any (Err f) (answered c x y) h es = cc
drop_any (Err f) dropped h es = cc

any_cond : (x : Bool) (es fs : List End) (b : Bool) → any es ≡ b → any (cond x es fs) ≡ cond x b (any fs)
any_cond true es fs b h = h
any_cond false es fs b h = refl

module _ (L : ℕ) (store : List ℕ) where
  abbrev k0 : Keeper
  k0 = made_from L store

  abbrev n : ℕ
  n = rounds_in L (length store)

  view_size_is : (H : List Call) → (run k0 H).view_size ≡ L
  view_size_is [] = refl
  view_size_is (call_promise g ∷ H) = kept_size (run k0 H) (own_view_bytes g) (promise_result (run k0 H) g) ∙ view_size_is H
  view_size_is (call_answer r e z ∷ H) = ended_size (run k0 H) r RoundState.Answered (answer_branch (run k0 H) r e z) ∙ view_size_is H
  view_size_is (call_drop r ∷ H) = ended_size (run k0 H) r RoundState.Dropped (drop_result (run k0 H) r) ∙ view_size_is H

  capacity_is : (H : List Call) → (run k0 H).capacity ≡ n
  capacity_is [] = refl
  capacity_is (call_promise g ∷ H) = kept_capacity (run k0 H) (own_view_bytes g) (promise_result (run k0 H) g) ∙ capacity_is H
  capacity_is (call_answer r e z ∷ H) = ended_capacity (run k0 H) r RoundState.Answered (answer_branch (run k0 H) r e z) ∙ capacity_is H
  capacity_is (call_drop r ∷ H) = ended_capacity (run k0 H) r RoundState.Dropped (drop_result (run k0 H) r) ∙ capacity_is H

  count_is : (H : List Call) → length (run k0 H).table ≡ promises L store H
  count_is [] = refl
  count_is (call_promise g ∷ H) = kept_count (run k0 H) (own_view_bytes g) (promise_result (run k0 H) g) (promises L store H) (count_is H)
  count_is (call_answer r e z ∷ H) = ended_length (run k0 H) r RoundState.Answered (answer_branch (run k0 H) r e z) ∙ count_is H
  count_is (call_drop r ∷ H) = ended_length (run k0 H) r RoundState.Dropped (drop_result (run k0 H) r) ∙ count_is H

  gone_same : (H : List Call) → Lawfully L store H → (r : ℕ) → any (ends L store H r) ≡ (history L store H).gone r
  gone_same [] ks r = refl
  gone_same (call_promise g ∷ H) ks r = gone_same H (before L store (call_promise g) H ks) r
  gone_same (call_answer q e z ∷ H) ks r =
      let ks' = before L store (call_answer q e z) H ks in
      let s = outcome L store H (call_answer q e z) in
      let one = answer_any (run k0 H) q (answer_branch (run k0 H) q e z) s (tied_here L store H ks' (call_answer q e z)) (ends L store H r) in
      any_cond (eqb r q) (left (answer_branch (run k0 H) q e z) (λ b. opened b ∷ ends L store H r) (ends L store H r)) (ends L store H r) (pasts.ends s (any (ends L store H r))) one
      ∙ ap (λ b. cond (eqb r q) (pasts.ends s b) b) (gone_same H ks' r)
  gone_same (call_drop q ∷ H) ks r =
      let ks' = before L store (call_drop q) H ks in
      let s = outcome L store H (call_drop q) in
      let one = drop_any (drop_result (run k0 H) q) s (tied_here L store H ks' (call_drop q)) (ends L store H r) in
      any_cond (eqb r q) (left (drop_result (run k0 H) q) (λ _. let_go ∷ ends L store H r) (ends L store H r)) (ends L store H r) (pasts.ends s (any (ends L store H r))) one
      ∙ ap (λ b. cond (eqb r q) (pasts.ends s b) b) (gone_same H ks' r)

  abbrev answer_case_of : Option Given → List End → Result Branch Fault → Bool → ℕ → Told
  answer_case_of None es b s r = told_fault (fault Reason.UnknownRound r)
  answer_case_of (Some g) (x ∷ es) b s r = told_fault (fault Reason.SpentRound r)
  answer_case_of (Some g) [] b s r = answer_of g s b

  case_is : (r e z : ℕ) (o : Option Given) (es : List End) → answer_case_of o es (picked e) (eqb z (3 + 2 * L)) r ≡ answer_remembered L r e z o es
  case_is r e z None es = refl
  case_is r e z (Some g) (x ∷ es) = refl
  case_is r e z (Some g) [] = refl

  answer_case : (r e z : ℕ) (o : Option Given) (es : List End) (b : Option Branch) (s : Bool)
      → told (answer_shows (checks L) n (3 + 2 * L) (parsed_some o) (any es) b s r e) ≡ answer_case_of o es (ok_or b (fault Reason.WrongPick e)) s r
  answer_case r e z None es b s = refl
  answer_case r e z (Some g) (x ∷ es) b s = refl
  answer_case r e z (Some g) [] None s = refl
  answer_case r e z (Some g) [] (Some b) false = refl
  answer_case r e z (Some g) [] (Some b) true = refl

  drop_case : (r : ℕ) (o : Option Given) (es : List End) → told (drop_shows (checks L) n (3 + 2 * L) (parsed_some o) (any es) r) ≡ drop_remembered r o es
  drop_case r None es = refl
  drop_case r (Some g) (x ∷ es) = refl
  drop_case r (Some g) [] = refl

  remembers_here : (H : List Call) → Lawfully L store H → (c : Call) → tells (run k0 H) c ≡ remembered L store H c
  remembers_here H ks (call_promise g) = ap (λ R. promise_told R (own_first g)) (promise_numbers (run k0 H) g L n (promises L store H) (view_size_is H) (capacity_is H) (count_is H))
  remembers_here H ks (call_answer r e z) =
      let found = made_is L store H r ∙ ap parsed_some (sym (made_same L store H ks r)) in
      let gone = sym (gone_same H ks r) in
      tied_here L store H ks (call_answer r e z)
      ∙ (λ i. told (answer_shows (checks L) n (3 + 2 * L) (found i) (gone i) (branch_of e) (eqb z (3 + 2 * L)) r e))
      ∙ answer_case r e z (made L store H r) (ends L store H r) (branch_of e) (eqb z (3 + 2 * L))
      ∙ case_is r e z (made L store H r) (ends L store H r)
  remembers_here H ks (call_drop r) =
      let found = made_is L store H r ∙ ap parsed_some (sym (made_same L store H ks r)) in
      let gone = sym (gone_same H ks r) in
      tied_here L store H ks (call_drop r)
      ∙ (λ i. told (drop_shows (checks L) n (3 + 2 * L) (found i) (gone i) r))
      ∙ drop_case r (made L store H r) (ends L store H r)

pub remembers : Remembers
remembers L store H ks c = remembers_here L store H ks c
