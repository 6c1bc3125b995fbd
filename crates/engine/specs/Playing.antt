-- A whole round: promised by a keeper, answered at a pick, verified.
use Rattle.std.specs.Prelude.{ℕ, List, length}
use Rattle.faults.specs.Outcomes.{and_then}
use Rattle.theory.specs.Tests.{Verdict, both, left}
use Rattle.theory.specs.Verdict.{verified}
use Rattle.theory.specs.Keeper.{Keeper, Given, promise_result, first_after, after_promise, answer_result, answer_after, after_answer}

-- by the keeper, what the promise is given, the pick, and the first message and answer buffers
module _ (k : Keeper) (g : Given) (pick : ℕ) (first answer : List ℕ) where
  -- round r answered, and verified
  abbrev pub answered : (r : ℕ) → Verdict
  answered r =
      both (answer_result (after_promise k g) r pick (length answer))
      (verified g.kind g.sealing g.lock (first_after k g first) pick (answer_after (after_promise k g) r pick answer) g.work1 g.work2)

  -- the first refusal of promise, answer and verify
  abbrev pub played : Verdict
  played = and_then (promise_result k g) answered

  abbrev pub answer_left : List ℕ
  answer_left = left (promise_result k g) (λ r. answer_after (after_promise k g) r pick answer) answer

  abbrev pub keeper_left : Keeper
  keeper_left = left (promise_result k g) (λ r. after_answer (after_promise k g) r pick (length answer)) k
