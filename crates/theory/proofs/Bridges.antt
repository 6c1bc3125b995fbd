-- What the calls on bytes give back and leave is what the parsed ones say.
use Rattle.std.proofs.Common.{◌≡◌, ℕ, suc, ◌+◌, ◌*◌, Bool, true, false, eqb, ltb, List, length, Some, None, Ok, Err, Option, Result, refl, ok_or}
use Rattle.faults.specs.declared.Fault.{Fault}
use Rattle.faults.specs.declared.Reason.{Reason}
use Rattle.faults.specs.Numbers.{fault}
use Rattle.faults.specs.Outcomes.{check, and_then}
use Rattle.locks.specs.Circuit.{Circuit}
use Rattle.locks.specs.Reading.{lock_of}
use Rattle.theory.specs.declared.RoundState.{RoundState}
use Rattle.theory.specs.Runs.{Branch}
use Rattle.theory.specs.Messages.{branch_of, view_bytes, length_of_view, key_of, tape_of, blind_in}
use Rattle.theory.specs.Tests.{Verdict, both, left}
use Rattle.theory.specs.Extraction.{read_circuit}
use Rattle.theory.specs.Keeper.{Keeper, Given, promise_sizes, key_right, tape_right, kept, state_of, open_by, ended}
use Rattle.theory.specs.History.{Call, call_promise, call_answer, call_drop, promise_told, drop_told, answer_from, tells, goes}
use Rattle.theory.proofs.Pasts.{Promise, Checks, message, opened_view, promise_shows}
use Rattle.theory.proofs.Stored.{spent_of, keep, lose, answers, drops, says, then}
use Rattle.theory.proofs.Asks.{parse_call, checks, first_of, told, given_tests}

-- the promise by the outcome of reading its lock
abbrev parse_with : Result (Circuit (List ℕ)) Fault → Given → Promise
parse_with R g = record {
  kind = g.kind;
  sealing = g.sealing;
  lock = read_circuit R;
  blind = blind_in g.kind (read_circuit R) g.tape;
  key = key_of g.kind (read_circuit R) g.key;
  tape = tape_of g.kind (read_circuit R) g.tape;
  tests = given_tests R g;
}

module _ (k : Keeper) (g : Given) where
  abbrev ck : Checks
  ck = checks k.view_size

  abbrev tested : (A : Verdict) (fits room : Bool) (B C : Verdict) → Result ℕ Fault
  tested A fits room B C =
      and_then A (λ _. check fits (fault Reason.WrongSize 7) (check room (fault Reason.KeeperFull k.capacity) (and_then B (λ _. and_then C (λ _. Ok (suc (length k.table)))))))

  abbrev result : Result (Circuit (List ℕ)) Fault → Result ℕ Fault
  result R =
      and_then R (λ l. tested (promise_sizes g l) (eqb (length_of_view g.kind l) k.view_size) (ltb (length k.table) k.capacity)
      (key_right g.kind l (key_of g.kind l g.key)) (tape_right g.kind l (tape_of g.kind l g.tape)))

  said_by : (A : Verdict) (fits room : Bool) (B C : Verdict) (p : Promise)
      → promise_told (tested A fits room B C) (first_of (message p))
      ≡ told (promise_shows ck k.capacity (3 + 2 * k.view_size) (both A (check fits (fault Reason.WrongSize 7) (Ok tt))) room (both B C) (suc (length k.table)) p)
  said_by (Err f) fits room B C p = refl
  said_by (Ok u) false room B C p = refl
  said_by (Ok u) true false B C p = refl
  said_by (Ok u) true true (Err f) C p = refl
  said_by (Ok u) true true (Ok v) (Err f) p = refl
  said_by (Ok u) true true (Ok v) (Ok w) p = refl

  kept_by : (A : Verdict) (fits room : Bool) (B C : Verdict) (p : Promise)
      → left (tested A fits room B C) (λ r. kept k r (λ i. view_bytes p.kind (opened_view p i))) k
      ≡ keep k (suc (length k.table)) p (promise_shows ck k.capacity (3 + 2 * k.view_size) (both A (check fits (fault Reason.WrongSize 7) (Ok tt))) room (both B C) (suc (length k.table)) p)
  kept_by (Err f) fits room B C p = refl
  kept_by (Ok u) false room B C p = refl
  kept_by (Ok u) true false B C p = refl
  kept_by (Ok u) true true (Err f) C p = refl
  kept_by (Ok u) true true (Ok v) (Err f) p = refl
  kept_by (Ok u) true true (Ok v) (Ok w) p = refl

  abbrev shown_with : Result (Circuit (List ℕ)) Fault → Rattle.theory.proofs.Pasts.Shown
  shown_with R =
      let p = parse_with R g in
      promise_shows ck k.capacity (3 + 2 * k.view_size) (ck.early p) (ltb (length k.table) k.capacity) (ck.late p) (suc (length k.table)) p

  promise_by : (R : Result (Circuit (List ℕ)) Fault) → promise_told (result R) (first_of (message (parse_with R g))) ≡ told (shown_with R)
  promise_by (Err f) = refl
  promise_by (Ok l) = said_by (promise_sizes g l) (eqb (length_of_view g.kind l) k.view_size) (ltb (length k.table) k.capacity) (key_right g.kind l (key_of g.kind l g.key)) (tape_right g.kind l (tape_of g.kind l g.tape)) (parse_with (Ok l) g)

  after_by : (R : Result (Circuit (List ℕ)) Fault)
      → left (result R) (λ r. kept k r (λ i. view_bytes g.kind (opened_view (parse_with R g) i))) k ≡ keep k (suc (length k.table)) (parse_with R g) (shown_with R)
  after_by (Err f) = refl
  after_by (Ok l) = kept_by (promise_sizes g l) (eqb (length_of_view g.kind l) k.view_size) (ltb (length k.table) k.capacity) (key_right g.kind l (key_of g.kind l g.key)) (tape_right g.kind l (tape_of g.kind l g.tape)) (parse_with (Ok l) g)

module _ (k : Keeper) (r e : ℕ) where
  abbrev branch_by : Option RoundState → Option Branch → Bool → Result Branch Fault
  branch_by o b s = and_then (open_by r o) (λ _. and_then (ok_or b (fault Reason.WrongPick e)) (λ b. check s (fault Reason.WrongSize 1) (Ok b)))

  answer_by : (o : Option RoundState) (b : Option Branch) (s : Bool) → answer_from k r (branch_by o b s) ≡ told (answers k (spent_of o) b s r e)
  answer_by None b s = refl
  answer_by (Some RoundState.Promised) None s = refl
  answer_by (Some RoundState.Promised) (Some b) false = refl
  answer_by (Some RoundState.Promised) (Some b) true = refl
  answer_by (Some RoundState.Answered) b s = refl
  answer_by (Some RoundState.Dropped) b s = refl

  lose_by : (o : Option RoundState) (b : Option Branch) (s : Bool) → left (branch_by o b s) (λ _. ended k r RoundState.Answered) k ≡ lose k r (answers k (spent_of o) b s r e)
  lose_by None b s = refl
  lose_by (Some RoundState.Promised) None s = refl
  lose_by (Some RoundState.Promised) (Some b) false = refl
  lose_by (Some RoundState.Promised) (Some b) true = refl
  lose_by (Some RoundState.Answered) b s = refl
  lose_by (Some RoundState.Dropped) b s = refl

drop_by : (r : ℕ) (o : Option RoundState) → drop_told (open_by r o) ≡ told (drops (spent_of o) r)
drop_by r None = refl
drop_by r (Some RoundState.Promised) = refl
drop_by r (Some RoundState.Answered) = refl
drop_by r (Some RoundState.Dropped) = refl

let_by : (k : Keeper) (r : ℕ) (o : Option RoundState) → left (open_by r o) (λ _. ended k r RoundState.Dropped) k ≡ lose k r (drops (spent_of o) r)
let_by k r None = refl
let_by k r (Some RoundState.Promised) = refl
let_by k r (Some RoundState.Answered) = refl
let_by k r (Some RoundState.Dropped) = refl

pub tells_by : (k : Keeper) (c : Call) → tells k c ≡ told (says (checks k.view_size) k (parse_call c))
tells_by k (call_promise g) = promise_by k g (lock_of g.kind g.lock)
tells_by k (call_answer r e z) = answer_by k r e (state_of k.table r) (branch_of e) (eqb z (3 + 2 * k.view_size))
tells_by k (call_drop r) = drop_by r (state_of k.table r)

pub goes_by : (k : Keeper) (c : Call) → goes k c ≡ then (checks k.view_size) k (parse_call c)
goes_by k (call_promise g) = after_by k g (lock_of g.kind g.lock)
goes_by k (call_answer r e z) = lose_by k r e (state_of k.table r) (branch_of e) (eqb z (3 + 2 * k.view_size))
goes_by k (call_drop r) = let_by k r (state_of k.table r)
