-- The verifier's word on an answer to a pick.
use Rattle.std.specs.Prelude.{◌≡◌, ℕ, ◌≤◌, List, length, Result, Some}
use Rattle.faults.specs.declared.Branch.{Branch}
use Rattle.faults.specs.Outcomes.{map_ok}
use Rattle.kinds.specs.Kind.{Kind}
use Rattle.locks.specs.Circuit.{Circuit}
use Rattle.seals.specs.Sealing.{Sealing}
use Rattle.theory.specs.declared.PickFault.{PickFault}
use Rattle.theory.specs.Extraction.{at_pick}
use Rattle.theory.specs.Messages.{length_of_view, length_of_first, length_of_answer, length_of_work}
use Rattle.theory.specs.Verdict.{messages_right}
use Rattle.verifier.specs.Shown.{Answered, answer_in}

-- the answer, where the verifier accepts it
abbrev pub accepted_at : Kind → Sealing → Circuit (List ℕ) → (fm : List ℕ) → Branch → (an : List ℕ) → Result Answered PickFault
accepted_at K S l fm e an = at_pick (Some e) (map_ok (λ _. answer_in K l e an) (messages_right K S l fm e an))

-- the lengths are those that the lock asks for
pub record Ready (K : Kind) (S : Sealing) (l : Circuit (List ℕ)) (fm an : List ℕ) (work1 work2 : ℕ) : Type 0 where
  pub sealable : length_of_view K l ≤ S.longest
  pub first_sized : length fm ≡ length_of_first K l S.size
  pub answer_sized : length an ≡ length_of_answer K l
  pub room : length_of_work K l ≤ work1
  pub next_room : length_of_work K l ≤ work2
