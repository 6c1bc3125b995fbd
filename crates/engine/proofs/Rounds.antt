-- A whole round: what its three calls give together, and that an honest one is accepted.
use Rattle.std.proofs.Common.{◌≡◌, ℕ, ◌+◌, ◌*◌, ◌<◌, Bool, true, false, cond, eqb, List, [], ◌∷◌, length, Some, None, Ok, sym, ap, ◌∙◌, subst}
use Rattle.faults.specs.Outcomes.{and_then}
use Rattle.kinds.specs.Kind.{Laws}
use Rattle.theory.specs.Tests.{both}
use Rattle.theory.specs.Messages.{pick_byte}
use Rattle.theory.specs.Verdict.{verified}
use Rattle.theory.specs.Rules.{IsPick}
use Rattle.theory.specs.Store.{rounds_in}
use Rattle.theory.specs.Keeper.{Keeper, Given, made_from, promise_result, first_after, after_promise, answer_result, answer_after}
use Rattle.theory.specs.History.{Told, told_fault, told_round, told_answer, told_drop, call_promise, noted, made, Of, tells}
use Rattle.theory.specs.Completeness.{Honest}
use Rattle.theory.proofs.Hidings.{completeness}
use Rattle.engine.specs.Playing.{answered, played}

-- a list of calls with one promise has no other
only : (t : Told) (g h : Given) (r : ℕ) → noted t g r None ≡ Some h → g ≡ h
only (told_fault f) g h r e = cc
only (told_round q x) g h r e =
    let P : Bool → Type 0 = λ b. cond b (Some g) None ≡ Some h → g ≡ h in
    (elim (eqb r q) as P [ true ↦ (λ d. cc) | false ↦ (λ d. cc) ]) e
only (told_answer x) g h r e = cc
only told_drop g h r e = cc

module _ (k : Keeper) (g : Given) (pick : ℕ) (first answer : List ℕ) where
  -- the promise gave round r
  by_promise : (r : ℕ) → promise_result k g ≡ Ok r → answered k g pick first answer r ≡ played k g pick first answer
  by_promise r e = sym (ap (λ q. and_then q (answered k g pick first answer)) e)

  -- the answer was given
  by_answer : (r : ℕ) → answer_result (after_promise k g) r pick (length answer) ≡ Ok tt
      → verified g.kind g.sealing g.lock (first_after k g first) pick (answer_after (after_promise k g) r pick answer) g.work1 g.work2 ≡ answered k g pick first answer r
  by_answer r e =
      sym (ap (λ q. both q (verified g.kind g.sealing g.lock (first_after k g first) pick (answer_after (after_promise k g) r pick answer) g.work1 g.work2)) e)

-- an honest round is accepted
pub completes : (g : Given) (L : ℕ) (store : List ℕ) (pick : ℕ) (first answer : List ℕ)
    → length first ≡ g.first → Honest L g → 0 < rounds_in L (length store) → IsPick pick → length answer ≡ 3 + 2 * L → played (made_from L store) g pick first answer ≡ Ok tt
completes g L store pick first answer sized h room p long =
    let ks : Of (made L store (call_promise g ∷ [])) (λ r x. Laws x.kind)
    = λ r x d. subst (λ (y : Given). Laws y.kind) (only (tells (made_from L store) (call_promise g)) g x r d) h.kind_laws in
    let both_hold = completeness L store [] [] g ks h room in
    let c = both_hold.0 in
    let e = p.0 in
    let answers = c.answers both_hold.1 e answer long in
    let accepts = c.verifies both_hold.1 e first answer sized long g.work1 g.work2 h.work1_size h.work2_size in
    let at : answered (made_from L store) g (pick_byte e) first answer 1 ≡ Ok tt
    = sym (by_answer (made_from L store) g (pick_byte e) first answer 1 answers) ∙ accepts in
    sym (by_promise (made_from L store) g pick first answer 1 c.promises)
    ∙ subst (λ (x : ℕ). answered (made_from L store) g x first answer 1 ≡ Ok tt) (sym p.1) at
