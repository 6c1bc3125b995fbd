-- What extract answers, and what it leaves in the key buffer.
use Rattle.std.specs.Prelude.{ℕ, List, [], length, Some, None, Ok, Err, Option, Result, ◌==◌, nat_le}
use Rattle.faults.specs.declared.Fault.{Fault}
use Rattle.faults.specs.declared.Reason.{Reason}
use Rattle.faults.specs.Numbers.{fault}
use Rattle.faults.specs.Outcomes.{check, and_then}
use Rattle.kinds.specs.Kind.{Kind}
use Rattle.locks.specs.Circuit.{Circuit}
use Rattle.locks.specs.Reading.{lock_of}
use Rattle.seals.specs.Sealing.{Sealing}
use Rattle.theory.specs.declared.Extracted.{Extracted}
use Rattle.theory.specs.declared.PickFault.{PickFault}
use Rattle.theory.specs.Algebra.{ops_of}
use Rattle.theory.specs.Runs.{Branch, one, two, three, next, sum_of}
use Rattle.theory.specs.Groups.{group_bytes}
use Rattle.theory.specs.Messages.{length_of_key, length_of_view, length_of_first, length_of_answer, length_of_work, view_of, picked_view, next_view}
use Rattle.theory.specs.Tests.{Verdict, differ}
use Rattle.theory.specs.Verdict.{messages_right}

-- one value for each branch
abbrev pub by_branch : {A : Type 0} → (a b c : A) → Branch → A
by_branch a b c one = a
by_branch a b c two = b
by_branch a b c three = c

-- the circuit that was read; where none was, an empty one that nothing uses
abbrev pub read_circuit : Result (Circuit (List ℕ)) Fault → Circuit (List ℕ)
read_circuit (Ok l) = l
read_circuit (Err f) = record { inputs = 0; gates = []; outputs = [] }

-- a fault beside the pick that it speaks of, if any
abbrev pub beside : Option Branch → Fault → PickFault
beside e f = record { pick = e; fault = f }

abbrev pub at_pick : {A : Type 0} → (pick : Option Branch) → Result A Fault → Result A PickFault
at_pick e (Ok a) = Ok a
at_pick e (Err f) = Err (beside e f)

-- the first differing offset of branch b's copies, or what comes after
abbrev pub or_collision : Option ℕ → Branch → Extracted → Extracted
or_collision None b x = x
or_collision (Some o) b x = Extracted.Collision b o

module _ (K : Kind) (S : Sealing) (l : Circuit (List ℕ)) where
  -- the verifier's sizes for three answers, then the key buffer's
  abbrev pub extract_sizes : (first answer1 answer2 answer3 work1 work2 key : ℕ) → Verdict
  extract_sizes first answer1 answer2 answer3 work1 work2 key =
      check (nat_le (length_of_view K l) S.longest) (fault Reason.WrongSize 0)
      (check (first == length_of_first K l S.size) (fault Reason.WrongSize 1)
      (check (answer1 == length_of_answer K l) (fault Reason.WrongSize 2)
      (check (answer2 == length_of_answer K l) (fault Reason.WrongSize 3)
      (check (answer3 == length_of_answer K l) (fault Reason.WrongSize 4)
      (check (nat_le (length_of_work K l) work1) (fault Reason.WrongSize 5)
      (check (nat_le (length_of_work K l) work2) (fault Reason.WrongSize 6)
      (check (key == length_of_key K l) (fault Reason.WrongSize 7) (Ok tt))))))))

  -- the two copies of a branch's view: in the answer that picks it, and in the answer that picks the branch before it
  abbrev pub copy : (Branch → List ℕ) → Branch → List ℕ
  copy an i = picked_view K l (an i)

  abbrev pub second_copy : (Branch → List ℕ) → Branch → List ℕ
  second_copy an i = next_view K l (an (next (next i)))

  -- the sums of the shares
  abbrev pub key_from : (Branch → List ℕ) → List (List ℕ)
  key_from an = sum_of (ops_of K) (λ i. (view_of K l (copy an i)).1.wires)

  -- the lowest branch whose copies differ; if there is none, the key
  abbrev pub compared : (Branch → List ℕ) → Extracted
  compared an =
      or_collision (differ (copy an one) (second_copy an one)) one
      (or_collision (differ (copy an two) (second_copy an two)) two
      (or_collision (differ (copy an three) (second_copy an three)) three Extracted.Key))

-- answers to picks 1, 2, 3; `work1`, `work2` and `key` are lengths
abbrev pub extracted : Kind → Sealing → (lock fm : List ℕ) (an : Branch → List ℕ) (work1 work2 key : ℕ) → Result Extracted PickFault
extracted K S lock fm an work1 work2 key =
    and_then (at_pick None (lock_of K lock)) (λ l.
    and_then (at_pick None (extract_sizes K S l (length fm) (length (an one)) (length (an two)) (length (an three)) work1 work2 key)) (λ _.
    and_then (at_pick (Some one) (messages_right K S l fm one (an one))) (λ _.
    and_then (at_pick (Some two) (messages_right K S l fm two (an two))) (λ _.
    and_then (at_pick (Some three) (messages_right K S l fm three (an three))) (λ _.
    Ok (compared K S l an))))))

-- the key buffer afterwards: written where the outcome is a key, else as it was
abbrev pub key_left : Result Extracted PickFault → (written old : List ℕ) → List ℕ
key_left (Ok Extracted.Key) written old = written
key_left (Ok (Extracted.Collision b o)) written old = old
key_left (Err f) written old = old

abbrev pub key_after : Kind → Sealing → (lock fm : List ℕ) (an : Branch → List ℕ) (work1 work2 : ℕ) (key : List ℕ) → List ℕ
key_after K S lock fm an work1 work2 key =
    key_left (extracted K S lock fm an work1 work2 (length key)) (group_bytes K (key_from K S (read_circuit (lock_of K lock)) an)) key
