-- What is told is what stands in the buffers.
use Rattle.std.proofs.Common.{◌≡◌, ℕ, List, length, Ok, Err, Result, refl, ap}
use Rattle.faults.specs.declared.Fault.{Fault}
use Rattle.faults.specs.Outcomes.{map_ok}
use Rattle.theory.specs.Runs.{Branch, next}
use Rattle.theory.specs.Messages.{answer_bytes}
use Rattle.theory.specs.Tests.{Verdict, left}
use Rattle.theory.specs.Keeper.{Keeper, own_first, promise_result, kept_view, answer_branch}
use Rattle.theory.specs.History.{told_round, told_answer, promise_told, answer_told, answer_from, ToldLaw}

promise_left : (R : Result ℕ Fault) (x out : List ℕ) → promise_told R x ≡ promise_told R (left R (λ _. x) out)
promise_left (Ok r) x out = refl
promise_left (Err f) x out = refl

answer_left : (k : Keeper) (r : ℕ) (B : Result Branch Fault) (out : List ℕ)
    → answer_from k r B ≡ answer_told (map_ok (λ _. tt) B) (left B (λ b. answer_bytes b (kept_view k r b) (kept_view k r (next b))) out)
answer_left k r (Ok b) out = refl
answer_left k r (Err f) out = refl

pub told_law : (k : Keeper) → ToldLaw k
told_law k = record {
  of_promise = λ g out. promise_left (promise_result k g) (own_first g) out;
  of_answer = λ r pick out. answer_left k r (answer_branch k r pick (length out)) out;
}

-- what an accepted call told
pub promise_accepted : (R : Result ℕ Fault) (x : List ℕ) (r : ℕ) (y : List ℕ) → promise_told R x ≡ told_round r y → (R ≡ Ok r) × (x ≡ y)
promise_accepted (Ok q) x r y h = (let e : q ≡ r = cc in ap Ok e, cc)
promise_accepted (Err f) x r y h = cc

pub answer_accepted : (R : Verdict) (x y : List ℕ) → answer_told R x ≡ told_answer y → (R ≡ Ok tt) × (x ≡ y)
answer_accepted (Ok u) x y h = (refl, cc)
answer_accepted (Err f) x y h = cc
