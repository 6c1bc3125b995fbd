-- After any history, what the keeper says is what the accepted promises' own values give: the store, the buffers and other rounds have no part in it.
use Rattle.std.specs.Prelude.{◌≡◌, ℕ, suc, ◌+◌, ◌*◌, Bool, true, false, List, [], ◌∷◌, length, replicate, Some, None, Ok, Err, Option, Result, ◌==◌}
use Rattle.faults.specs.declared.Fault.{Fault}
use Rattle.faults.specs.declared.Reason.{Reason}
use Rattle.faults.specs.Numbers.{fault}
use Rattle.kinds.specs.Kind.{Laws}
use Rattle.theory.specs.declared.RoundState.{RoundState}
use Rattle.theory.specs.Runs.{Branch}
use Rattle.theory.specs.Tests.{left}
use Rattle.theory.specs.Verdict.{picked}
use Rattle.theory.specs.Store.{rounds_in}
use Rattle.theory.specs.Keeper.{Keeper, made_from, Given, own_first, own_answer, promise_result}
use Rattle.theory.specs.History.{Call, call_promise, call_answer, call_drop, Told, told_fault, told_answer, told_drop, promise_told, tells, run, End, made, ends, Of}

-- a keeper of which nothing is known but its view length, its number of rounds, and how many are promised
abbrev pub nameless : (L n promises : ℕ) → Keeper
nameless L n promises = record { view_size = L; capacity = n; store = []; table = replicate promises RoundState.Promised }

abbrev pub answer_of : Given → (size_right : Bool) → Result Branch Fault → Told
answer_of g size_right (Err f) = told_fault f
answer_of g false (Ok b) = told_fault (fault Reason.WrongSize 1)
answer_of g true (Ok b) = told_answer (own_answer g b)

-- by the promise that made the round, and by what became of it
abbrev pub answer_remembered : (L r pick size : ℕ) → Option Given → List End → Told
answer_remembered L r pick size None es = told_fault (fault Reason.UnknownRound r)
answer_remembered L r pick size (Some g) (x ∷ es) = told_fault (fault Reason.SpentRound r)
answer_remembered L r pick size (Some g) [] = answer_of g (size == 3 + 2 * L) (picked pick)

abbrev pub drop_remembered : (r : ℕ) → Option Given → List End → Told
drop_remembered r None es = told_fault (fault Reason.UnknownRound r)
drop_remembered r (Some g) (x ∷ es) = told_fault (fault Reason.SpentRound r)
drop_remembered r (Some g) [] = told_drop

module _ (L : ℕ) (store : List ℕ) where
  -- how many promises were accepted
  abbrev pub promises : List Call → ℕ
  promises [] = 0
  promises (call_promise g ∷ H) = left (promise_result (run (made_from L store) H) g) (λ _. suc (promises H)) (promises H)
  promises (call_answer r e z ∷ H) = promises H
  promises (call_drop r ∷ H) = promises H

  abbrev pub remembered : List Call → Call → Told
  remembered H (call_promise g) = promise_told (promise_result (nameless L (rounds_in L (length store)) (promises H)) g) (own_first g)
  remembered H (call_answer r pick size) = answer_remembered L r pick size (made L store H r) (ends L store H r)
  remembered H (call_drop r) = drop_remembered r (made L store H r) (ends L store H r)

abbrev pub Remembers : Type 0
Remembers = (L : ℕ) (store : List ℕ) (H : List Call) → Of (made L store H) (λ r g. Laws g.kind)
    → (c : Call) → tells (run (made_from L store) H) c ≡ remembered L store H c
