-- Completeness: with a fitting key and a lawful tape, nothing refuses.
use Rattle.std.specs.Prelude.{◌≡◌, ℕ, suc, ◌+◌, ◌*◌, ◌<◌, ◌≤◌, List, ◌∷◌, ◌++◌, length, Some, Ok}
use Rattle.kinds.specs.Kind.{Laws}
use Rattle.locks.specs.Reading.{lock_of}
use Rattle.seals.specs.Sealing.{Sound}
use Rattle.theory.specs.declared.RoundState.{RoundState}
use Rattle.theory.specs.Runs.{Branch}
use Rattle.theory.specs.Lawfulness.{TapeLawful}
use Rattle.theory.specs.Messages.{pick_byte, length_of_view, length_of_tape, length_of_first, length_of_work, tape_of}
use Rattle.theory.specs.Verdict.{verified}
use Rattle.theory.specs.Keeper.{Keeper, made_from, Given, circuit_in, state_of, promise_result, first_after, answer_result, answer_after}
use Rattle.theory.specs.History.{Call, call_promise, run, made, Of}
use Rattle.theory.specs.Soundness.{KeyFits}

-- a promise with a lock that reads well, a fitting key, a lawful tape and right sizes, to a keeper of this view length
pub record Honest (L : ℕ) (g : Given) : Type 0 where
  pub kind_laws : Laws g.kind
  pub sealing_sound : Sound g.sealing
  pub reads : lock_of g.kind g.lock ≡ Ok (circuit_in g)
  pub key_fits : KeyFits g.kind (circuit_in g) g.key
  pub tape_size : length g.tape ≡ length_of_tape g.kind (circuit_in g)
  pub tape_lawful : TapeLawful g.kind (tape_of g.kind (circuit_in g) g.tape)
  pub views_fit : length_of_view g.kind (circuit_in g) ≡ L
  pub sealable : L ≤ g.sealing.longest
  pub work1_size : length_of_work g.kind (circuit_in g) ≤ g.work1
  pub work2_size : length_of_work g.kind (circuit_in g) ≤ g.work2
  pub work3_size : length_of_work g.kind (circuit_in g) ≤ g.work3
  pub first_size : g.first ≡ length_of_first g.kind (circuit_in g) g.sealing.size

-- k is the keeper before the promise, k' after any later calls; r is the round
pub record Completes (L : ℕ) (g : Given) (k k' : Keeper) (r : ℕ) : Type 0 where
  pub promises : promise_result k g ≡ Ok r
  -- while the round is neither answered nor dropped, each pick is answered, and the verifier accepts
  pub answers : state_of k'.table r ≡ Some RoundState.Promised → (e : Branch) (answer : List ℕ) → length answer ≡ 3 + 2 * L
      → answer_result k' r (pick_byte e) (length answer) ≡ Ok tt
  pub verifies : state_of k'.table r ≡ Some RoundState.Promised → (e : Branch) (first answer : List ℕ) → length first ≡ g.first → length answer ≡ 3 + 2 * L
      → (work1 work2 : ℕ) → length_of_work g.kind (circuit_in g) ≤ work1 → length_of_work g.kind (circuit_in g) ≤ work2
      → verified g.kind g.sealing g.lock (first_after k g first) (pick_byte e) (answer_after k' r (pick_byte e) answer) work1 work2 ≡ Ok tt

-- after any history H that leaves a round, and any calls after the promise; the kinds of accepted promises keep their laws
abbrev pub Completeness : Type 0
Completeness = (L : ℕ) (store : List ℕ) (H later : List Call) (g : Given)
    → Of (made L store (later ++ (call_promise g ∷ H))) (λ r h. Laws h.kind)
    → Honest L g
    → length (run (made_from L store) H).table < (run (made_from L store) H).capacity
    → Completes L g (run (made_from L store) H) (run (made_from L store) (later ++ (call_promise g ∷ H))) (suc (length (run (made_from L store) H).table))
    × (state_of (run (made_from L store) (call_promise g ∷ H)).table (suc (length (run (made_from L store) H).table)) ≡ Some RoundState.Promised)
