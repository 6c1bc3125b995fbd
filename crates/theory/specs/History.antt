-- Histories: calls to one keeper with the values given, what each gives back, and what became of each round.
use Rattle.std.specs.Prelude.{◌≡◌, ℕ, cond, List, [], ◌∷◌, length, Some, None, Ok, Err, Option, Result, ◌==◌}
use Rattle.faults.specs.declared.Fault.{Fault}
use Rattle.theory.specs.Runs.{Branch, three, next}
use Rattle.theory.specs.Messages.{answer_bytes}
use Rattle.theory.specs.Tests.{Verdict, left}
use Rattle.theory.specs.Keeper.{Keeper, made_from, Given, own_first, promise_result, first_after, after_promise, kept_view, answer_branch, answer_result, answer_after, after_answer, drop_result, after_drop}

-- an answer is given a round, a pick and the length of its buffer
pub data Call : Type 0 where
  call_promise : Given → Call
  call_answer : (round pick size : ℕ) → Call
  call_drop : (round : ℕ) → Call

-- a fault; a round with its first message; an answer; nothing
pub data Told : Type 0 where
  told_fault : Fault → Told
  told_round : ℕ → List ℕ → Told
  told_answer : List ℕ → Told
  told_drop : Told

abbrev pub promise_told : Result ℕ Fault → (first : List ℕ) → Told
promise_told (Ok r) first = told_round r first
promise_told (Err f) first = told_fault f

abbrev pub answer_told : Verdict → (answer : List ℕ) → Told
answer_told (Ok u) answer = told_answer answer
answer_told (Err f) answer = told_fault f

abbrev pub drop_told : Verdict → Told
drop_told (Ok u) = told_drop
drop_told (Err f) = told_fault f

abbrev pub answer_from : Keeper → (r : ℕ) → Result Branch Fault → Told
answer_from k r (Ok b) = told_answer (answer_bytes b (kept_view k r b) (kept_view k r (next b)))
answer_from k r (Err f) = told_fault f

-- what a call gives back: its result, and what it wrote into the buffer
abbrev pub tells : Keeper → Call → Told
tells k (call_promise g) = promise_told (promise_result k g) (own_first g)
tells k (call_answer r pick size) = answer_from k r (answer_branch k r pick size)
tells k (call_drop r) = drop_told (drop_result k r)

-- the keeper afterwards
abbrev pub goes : Keeper → Call → Keeper
goes k (call_promise g) = after_promise k g
goes k (call_answer r pick size) = after_answer k r pick size
goes k (call_drop r) = after_drop k r

-- told is what stands in the buffers afterwards, whatever stood there before
pub record ToldLaw (k : Keeper) : Type 0 where
  pub of_promise : (g : Given) (out : List ℕ) → tells k (call_promise g) ≡ promise_told (promise_result k g) (first_after k g out)
  pub of_answer : (r pick : ℕ) (out : List ℕ) → tells k (call_answer r pick (length out)) ≡ answer_told (answer_result k r pick (length out)) (answer_after k r pick out)

-- a history has its latest call first
abbrev pub run : Keeper → List Call → Keeper
run k [] = k
run k (c ∷ H) = goes (run k H) c

abbrev pub all_told : Keeper → List Call → List Told
all_told k [] = []
all_told k (c ∷ H) = tells (run k H) c ∷ all_told k H

-- an accepted answer opens a branch and the one after it; an accepted drop lets the round go
pub data End : Type 0 where
  opened : Branch → End
  let_go : End

abbrev pub noted : Told → Given → ℕ → Option Given → Option Given
noted (told_fault f) g r o = o
noted (told_round q x) g r o = cond (r == q) (Some g) o
noted (told_answer x) g r o = o
noted told_drop g r o = o

-- by the view length and the store that the keeper is made from
module _ (L : ℕ) (store : List ℕ) where
  -- the accepted promise that made round r
  abbrev pub made : List Call → ℕ → Option Given
  made [] r = None
  made (call_promise g ∷ H) r = noted (tells (run (made_from L store) H) (call_promise g)) g r (made H r)
  made (call_answer q e z ∷ H) r = made H r
  made (call_drop q ∷ H) r = made H r

  -- the accepted answers and drops of round r, the latest first
  abbrev pub ends : List Call → ℕ → List End
  ends [] r = []
  ends (call_promise g ∷ H) r = ends H r
  ends (call_answer q e z ∷ H) r = cond (r == q) (left (answer_branch (run (made_from L store) H) q e z) (λ b. opened b ∷ ends H r) (ends H r)) (ends H r)
  ends (call_drop q ∷ H) r = cond (r == q) (left (drop_result (run (made_from L store) H) q) (λ _. let_go ∷ ends H r) (ends H r)) (ends H r)

-- what holds of each accepted promise, by its round
abbrev pub Of : (ℕ → Option Given) → (ℕ → Given → Type 0) → Type 0
Of made G = (r : ℕ) (g : Given) → made r ≡ Some g → G r g

-- the closed branch: the one that no accepted answer opened, and branch 3 where there was none
abbrev pub closed_by : List End → Branch
closed_by [] = three
closed_by (opened b ∷ es) = next (next b)
closed_by (let_go ∷ es) = closed_by es
