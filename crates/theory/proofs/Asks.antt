-- Calls on bytes, parsed; and what a history says of them, going by the earlier accepted ones.
use Rattle.std.proofs.Common.{◌≡◌, ℕ, ◌+◌, ◌*◌, cond, eqb, List, [], ◌∷◌, map, length, Some, None, Ok, Option, Result}
use Rattle.faults.specs.declared.Fault.{Fault}
use Rattle.faults.specs.declared.Reason.{Reason}
use Rattle.faults.specs.Numbers.{fault}
use Rattle.faults.specs.Outcomes.{check, and_then}
use Rattle.locks.specs.Circuit.{Circuit}
use Rattle.locks.specs.Reading.{lock_of}
use Rattle.theory.specs.Runs.{Branch}
use Rattle.theory.specs.Messages.{length_of_view, key_of, tape_of, blind_in, first_bytes, answer_bytes}
use Rattle.theory.specs.Tests.{Verdict, both}
use Rattle.theory.specs.Keeper.{Given, circuit_in, promise_sizes, key_right, tape_right}
use Rattle.theory.specs.Store.{rounds_in}
use Rattle.theory.specs.History.{Call, call_promise, call_answer, call_drop, Told, told_fault, told_round, told_answer, told_drop}
use Rattle.theory.specs.Hiding.{regiven}
use Rattle.theory.proofs.Pasts.{Promise, Checks, Move, promise, answer, drop, Message, Shown, refused, promised, answered, dropped, Past, shows, past, closed_of}

-- tests 1 to 7, but for the keeper's view length
abbrev pub given_tests : Result (Circuit (List ℕ)) Fault → Given → Verdict
given_tests r g = and_then r (λ l. promise_sizes g l)

abbrev pub parse : Given → Promise
parse g = record {
  kind = g.kind;
  sealing = g.sealing;
  lock = circuit_in g;
  blind = blind_in g.kind (circuit_in g) g.tape;
  key = key_of g.kind (circuit_in g) g.key;
  tape = tape_of g.kind (circuit_in g) g.tape;
  tests = given_tests (lock_of g.kind g.lock) g;
}

abbrev pub parse_call : Call → Move
parse_call (call_promise g) = promise (parse g)
parse_call (call_answer r e z) = answer r e z
parse_call (call_drop r) = drop r

-- a promise's tests: of the lock and the sizes; then of the values
abbrev pub checks : ℕ → Checks
checks long = record {
  early = λ p. both p.tests (check (eqb (length_of_view p.kind p.lock) long) (fault Reason.WrongSize 7) (Ok tt));
  late = λ p. both (key_right p.kind p.lock p.key) (tape_right p.kind p.lock p.tape);
}

abbrev pub first_of : Message → List ℕ
first_of m = first_bytes m.kind m.outs m.seals

abbrev pub told : Shown → Told
told (refused f) = told_fault f
told (promised r m) = told_round r (first_of m)
told (answered e a b) = told_answer (answer_bytes e a b)
told dropped = told_drop

abbrev pub parsed : List Call → List Move
parsed H = map parse_call H

abbrev pub noted : Shown → Given → ℕ → Option Given → Option Given
noted (refused f) g r o = o
noted (promised q m) g r o = cond (eqb r q) (Some g) o
noted (answered e a b) g r o = o
noted dropped g r o = o

-- only an accepted promise changes
abbrev pub other_call : (keys tapes : ℕ → List ℕ) → Call → Shown → Call
other_call keys tapes (call_promise g) (refused f) = call_promise g
other_call keys tapes (call_promise g) (promised r m) = call_promise (regiven keys tapes r g)
other_call keys tapes (call_promise g) (answered b x y) = call_promise g
other_call keys tapes (call_promise g) dropped = call_promise g
other_call keys tapes (call_answer r e z) s = call_answer r e z
other_call keys tapes (call_drop r) s = call_drop r

module _ (long : ℕ) (store : List ℕ) where
  abbrev pub history : List Call → Past
  history H = past (checks long) (rounds_in long (length store)) (3 + 2 * long) (parsed H)

  abbrev pub outcome : List Call → Call → Shown
  outcome H c = shows (checks long) (rounds_in long (length store)) (3 + 2 * long) (history H) (parse_call c)

  -- the r-th accepted promise
  abbrev pub made : List Call → ℕ → Option Given
  made [] r = None
  made (call_promise g ∷ H) r = noted (outcome H (call_promise g)) g r (made H r)
  made (call_answer q e z ∷ H) r = made H r
  made (call_drop q ∷ H) r = made H r

  abbrev pub Made : List Call → (ℕ → Given → Type 0) → Type 0
  Made H G = (r : ℕ) (g : Given) → made H r ≡ Some g → G r g

  abbrev pub replayed : (keys tapes : ℕ → List ℕ) → List Call → List Call
  replayed keys tapes [] = []
  replayed keys tapes (c ∷ H) = other_call keys tapes c (outcome H c) ∷ replayed keys tapes H

  -- the picks that a round was answered to, and its closed branch
  abbrev pub picks : List Call → ℕ → List Branch
  picks H r = (history H).opened r

  abbrev pub closed_in : List Call → ℕ → Branch
  closed_in H r = closed_of (picks H r)
