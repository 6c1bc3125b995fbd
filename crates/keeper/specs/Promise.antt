-- The tests of a promise, and what it writes, for a lock with circuit l.
use Rattle.std.specs.Prelude.{◌≡◌, ◌≤◌, ℕ, suc, List, length, Ok, Result, ◌==◌, nat_le, nat_lt}
use Rattle.faults.specs.declared.Branch.{Branch}
use Rattle.faults.specs.declared.Fault.{Fault}
use Rattle.faults.specs.declared.Reason.{Reason}
use Rattle.faults.specs.Numbers.{fault}
use Rattle.faults.specs.Outcomes.{check, and_then}
use Rattle.kinds.specs.Kind.{Kind}
use Rattle.locks.specs.Circuit.{Circuit}
use Rattle.seals.specs.Sealing.{Sealing}
use Rattle.theory.specs.Tests.{Verdict, both}
use Rattle.theory.specs.Messages.{key_of, tape_of, length_of_key, length_of_view, length_of_tape, length_of_first, length_of_work}
use Rattle.theory.specs.Keeper.{Keeper, key_right, tape_right}
use Rattle.promises.specs.Drawn.{Drawn, Fitting, drawn_in, view_on, views_on, first_on}
use Rattle.keeper.specs.declared.tests.Lengths.{Lengths}

-- 7, but for the keeper's view length
abbrev pub sizes_right : Kind → Sealing → Circuit (List ℕ) → Lengths → Verdict
sizes_right K S l n =
    check (nat_le (length_of_view K l) S.longest) (fault Reason.WrongSize 0)
    (check (n.key == length_of_key K l) (fault Reason.WrongSize 1)
    (check (n.tape == length_of_tape K l) (fault Reason.WrongSize 2)
    (check (nat_le (length_of_work K l) n.work1) (fault Reason.WrongSize 3)
    (check (nat_le (length_of_work K l) n.work2) (fault Reason.WrongSize 4)
    (check (nat_le (length_of_work K l) n.work3) (fault Reason.WrongSize 5)
    (check (n.first == length_of_first K l S.size) (fault Reason.WrongSize 6) (Ok tt)))))))

-- the number of the next round
abbrev pub next_round : Keeper → Result ℕ Fault
next_round k = check (nat_lt (length k.table) k.capacity) (fault Reason.KeeperFull k.capacity) (Ok (suc (length k.table)))

-- the tests that look at no secret
abbrev pub tested : Keeper → Kind → Sealing → Circuit (List ℕ) → Lengths → Result ℕ Fault
tested k K S l n =
    and_then (sizes_right K S l n) (λ _. check (length_of_view K l == k.view_size) (fault Reason.WrongSize 7) (next_round k))

-- key, then tape
abbrev pub secrets_right : Kind → Circuit (List ℕ) → (key tape : List ℕ) → Verdict
secrets_right K l key tape = both (key_right K l (key_of K l key)) (tape_right K l (tape_of K l tape))

-- the tests of a promise as they follow one another in the code
abbrev pub promised_to : Keeper → Kind → Sealing → Circuit (List ℕ) → (key tape : List ℕ) → Lengths → Result ℕ Fault
promised_to k K S l key tape n = and_then (tested k K S l n) (λ r. and_then (secrets_right K l key tape) (λ _. Ok r))

abbrev pub lengths_of : (key tape work1 work2 work3 first : ℕ) → Lengths
lengths_of key tape work1 work2 work3 first = record { key = key; tape = tape; work1 = work1; work2 = work2; work3 = work3; first = first }

-- the round of a key and a tape in bytes
module _ (K : Kind) (l : Circuit (List ℕ)) (key tape : List ℕ) where
  abbrev pub views_for : Branch → List ℕ
  views_for = view_on K l (key_of K l key) (drawn_in K l tape)

  abbrev pub round_for : List ℕ
  round_for = views_on K l (key_of K l key) (drawn_in K l tape)

  abbrev pub first_for : Sealing → List ℕ
  first_for S = first_on K l (key_of K l key) (drawn_in K l tape) S

-- a key and a tape that were read for the lock, a view of L bytes, and buffers of these lengths
pub record Ready (K : Kind) (S : Sealing) (l : Circuit (List ℕ)) (L : ℕ) (key : List (List ℕ)) (tape : Drawn) (w1 w2 w3 first : ℕ) : Type 0 where
  pub fitting : Fitting l key tape
  pub long : length_of_view K l ≡ L
  pub short : length_of_view K l ≤ S.longest
  pub room1 : length_of_work K l ≤ w1
  pub room2 : length_of_work K l ≤ w2
  pub room3 : length_of_work K l ≤ w3
  pub sized : first ≡ length_of_first K l S.size
