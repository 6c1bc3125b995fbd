-- What the keeper's calls answer and leave, with all faults in their order.
use Rattle.std.specs.Prelude.{ℕ, zero, suc, ◌+◌, ◌*◌, List, [], ◌∷◌, ◌++◌, length, take, drop, replicate, Some, None, Ok, Err, Option, Result, ◌==◌, nat_le, nat_lt}
use Rattle.faults.specs.declared.Fault.{Fault}
use Rattle.faults.specs.declared.Reason.{Reason}
use Rattle.faults.specs.Numbers.{fault}
use Rattle.faults.specs.Outcomes.{check, and_then, map_ok}
use Rattle.kinds.specs.Kind.{Kind}
use Rattle.locks.specs.Circuit.{Circuit}
use Rattle.locks.specs.Reading.{lock_of}
use Rattle.seals.specs.Sealing.{Sealing}
use Rattle.theory.specs.declared.RoundState.{RoundState}
use Rattle.theory.specs.Algebra.{ops_of}
use Rattle.theory.specs.Runs.{Branch, one, two, three, next, at_outputs, plain, targets}
use Rattle.theory.specs.Branches.{Tape, view, out_shares}
use Rattle.theory.specs.Messages.{Blinded, view_bytes, length_of_key, length_of_view, length_of_tape, length_of_first, length_of_work, key_of, blind_in, tape_shares_at, tape_masks_at, tape_of, first_bytes, answer_bytes}
use Rattle.theory.specs.Tests.{Verdict, both, first_at, unlawful, lawful_at, unlike, left}
use Rattle.theory.specs.Verdict.{picked}
use Rattle.theory.specs.Extraction.{read_circuit}
use Rattle.theory.specs.Store.{rounds_in, round_length, round_at, view_at, put}

-- a keeper as its values: the length of its views, how many rounds it holds, its store, and the record of each round promised so far
pub record Keeper : Type 0 where
  pub view_size : ℕ
  pub capacity : ℕ
  pub store : List ℕ
  pub table : List RoundState

-- made from a view length and a store, which it leaves as it is
abbrev pub made_from : (L : ℕ) (store : List ℕ) → Keeper
made_from L store = record { view_size = L; capacity = rounds_in L (length store); store = store; table = [] }

-- what a promise is given: bytes, and the lengths of its work slices and of the first message buffer
pub record Given : Type 0 where
  pub kind : Kind
  pub sealing : Sealing
  pub lock : List ℕ
  pub key : List ℕ
  pub tape : List ℕ
  pub work1 : ℕ
  pub work2 : ℕ
  pub work3 : ℕ
  pub first : ℕ

abbrev pub given : Kind → Sealing → (lock key tape : List ℕ) (work1 work2 work3 first : ℕ) → Given
given K S lock key tape work1 work2 work3 first = record {
  kind = K;
  sealing = S;
  lock = lock;
  key = key;
  tape = tape;
  work1 = work1;
  work2 = work2;
  work3 = work3;
  first = first;
}

-- the promise's own values: circuit, key, tape, and the views, first message and answers that they give
module _ (g : Given) where
  abbrev pub circuit_in : Circuit (List ℕ)
  circuit_in = read_circuit (lock_of g.kind g.lock)

  abbrev pub key_in : List (List ℕ)
  key_in = key_of g.kind circuit_in g.key

  abbrev pub tape_in : Tape (List ℕ)
  tape_in = tape_of g.kind circuit_in g.tape

  abbrev pub own_view : Branch → Blinded
  own_view i = (blind_in g.kind circuit_in g.tape i, view (ops_of g.kind) circuit_in key_in tape_in i)

  abbrev pub own_view_bytes : Branch → List ℕ
  own_view_bytes i = view_bytes g.kind (own_view i)

  abbrev pub own_outs : Branch → List (List ℕ)
  own_outs i = out_shares (ops_of g.kind) circuit_in key_in tape_in i

  abbrev pub own_first : List ℕ
  own_first = first_bytes g.kind own_outs (λ i. g.sealing.seal (own_view_bytes i))

  abbrev pub own_answer : Branch → List ℕ
  own_answer e = answer_bytes e (own_view_bytes e) (own_view_bytes (next e))

  -- the sizes, but for the keeper's view length
  abbrev pub promise_sizes : Circuit (List ℕ) → Verdict
  promise_sizes l =
      check (nat_le (length_of_view g.kind l) g.sealing.longest) (fault Reason.WrongSize 0)
      (check (length g.key == length_of_key g.kind l) (fault Reason.WrongSize 1)
      (check (length g.tape == length_of_tape g.kind l) (fault Reason.WrongSize 2)
      (check (nat_le (length_of_work g.kind l) g.work1) (fault Reason.WrongSize 3)
      (check (nat_le (length_of_work g.kind l) g.work2) (fault Reason.WrongSize 4)
      (check (nat_le (length_of_work g.kind l) g.work3) (fault Reason.WrongSize 5)
      (check (g.first == length_of_first g.kind l g.sealing.size) (fault Reason.WrongSize 6) (Ok tt)))))))

-- lawful key elements, told by index; then every output wire has its target
abbrev pub key_right : Kind → Circuit (List ℕ) → (key : List (List ℕ)) → Verdict
key_right K l key =
    both (first_at (unlawful K key) (λ i. fault Reason.UnlawfulKey i))
    (first_at (unlike (at_outputs (ops_of K) l.outputs (plain (ops_of K) l.gates key)) (targets (ops_of K) l.outputs)) (λ i. fault Reason.KeyDoesNotFit i))

-- lawful tape elements, told by offset
abbrev pub tape_right : Kind → Circuit (List ℕ) → Tape (List ℕ) → Verdict
tape_right K l t =
    both (lawful_at K Reason.UnlawfulTape (tape_shares_at K l one) t.share1)
    (both (lawful_at K Reason.UnlawfulTape (tape_shares_at K l two) t.share2)
    (both (lawful_at K Reason.UnlawfulTape (tape_masks_at K l one) t.mask1)
    (both (lawful_at K Reason.UnlawfulTape (tape_masks_at K l two) t.mask2)
    (lawful_at K Reason.UnlawfulTape (tape_masks_at K l three) t.mask3))))

-- the round's number: lock, sizes, room in the keeper, key and tape are looked at in this order
abbrev pub promise_result : Keeper → Given → Result ℕ Fault
promise_result k g =
    and_then (lock_of g.kind g.lock) (λ l.
    and_then (promise_sizes g l) (λ _.
    check (length_of_view g.kind l == k.view_size) (fault Reason.WrongSize 7)
    (check (nat_lt (length k.table) k.capacity) (fault Reason.KeeperFull k.capacity)
    (and_then (key_right g.kind l (key_of g.kind l g.key)) (λ _.
    and_then (tape_right g.kind l (tape_of g.kind l g.tape)) (λ _.
    Ok (suc (length k.table))))))))

-- the first message buffer afterwards
abbrev pub first_after : Keeper → Given → (out : List ℕ) → List ℕ
first_after k g out = left (promise_result k g) (λ _. own_first g) out

-- the three views in the round's place, and a new record
abbrev pub kept : Keeper → (r : ℕ) → (views : Branch → List ℕ) → Keeper
kept k r views = record {
  view_size = k.view_size;
  capacity = k.capacity;
  store = put k.store (round_at k.view_size r) (views one ++ (views two ++ views three));
  table = k.table ++ (RoundState.Promised ∷ []);
}

abbrev pub after_promise : Keeper → Given → Keeper
after_promise k g = left (promise_result k g) (λ r. kept k r (own_view_bytes g)) k

-- the record of round r, from 1
abbrev pub state_of : List RoundState → ℕ → Option RoundState
state_of [] r = None
state_of (s ∷ t) zero = None
state_of (s ∷ t) (suc zero) = Some s
state_of (s ∷ t) (suc (suc r)) = state_of t (suc r)

abbrev pub with_state : List RoundState → ℕ → RoundState → List RoundState
with_state [] r n = []
with_state (s ∷ t) zero n = s ∷ t
with_state (s ∷ t) (suc zero) n = n ∷ t
with_state (s ∷ t) (suc (suc r)) n = s ∷ with_state t (suc r) n

-- only a promised round that was neither answered nor dropped is open
abbrev pub open_by : ℕ → Option RoundState → Verdict
open_by r None = Err (fault Reason.UnknownRound r)
open_by r (Some RoundState.Promised) = Ok tt
open_by r (Some RoundState.Answered) = Err (fault Reason.SpentRound r)
open_by r (Some RoundState.Dropped) = Err (fault Reason.SpentRound r)

abbrev pub round_open : Keeper → ℕ → Verdict
round_open k r = open_by r (state_of k.table r)

abbrev pub answer_size_for : Keeper → ℕ
answer_size_for k = 3 + 2 * k.view_size

-- the picked branch: round, pick and size are looked at in this order
abbrev pub answer_branch : Keeper → (r pick size : ℕ) → Result Branch Fault
answer_branch k r pick size =
    and_then (round_open k r) (λ _.
    and_then (picked pick) (λ b.
    check (size == answer_size_for k) (fault Reason.WrongSize 1) (Ok b)))

abbrev pub answer_result : Keeper → (r pick size : ℕ) → Verdict
answer_result k r pick size = map_ok (λ _. tt) (answer_branch k r pick size)

-- the view of a branch in round r, from the store
abbrev pub kept_view : Keeper → ℕ → Branch → List ℕ
kept_view k r i = take k.view_size (drop (view_at k.view_size r i) k.store)

-- the answer buffer afterwards
abbrev pub answer_after : Keeper → (r pick : ℕ) (out : List ℕ) → List ℕ
answer_after k r pick out = left (answer_branch k r pick (length out)) (λ b. answer_bytes b (kept_view k r b) (kept_view k r (next b))) out

-- the round's bytes zeroed, its record set
abbrev pub ended : Keeper → ℕ → RoundState → Keeper
ended k r s = record {
  view_size = k.view_size;
  capacity = k.capacity;
  store = put k.store (round_at k.view_size r) (replicate (round_length k.view_size) 0);
  table = with_state k.table r s;
}

abbrev pub after_answer : Keeper → (r pick size : ℕ) → Keeper
after_answer k r pick size = left (answer_branch k r pick size) (λ _. ended k r RoundState.Answered) k

abbrev pub drop_result : Keeper → ℕ → Verdict
drop_result k r = round_open k r

abbrev pub after_drop : Keeper → ℕ → Keeper
after_drop k r = left (drop_result k r) (λ _. ended k r RoundState.Dropped) k

-- a work slice after any call, accepted or refused
abbrev pub work_after : List ℕ → List ℕ
work_after work = replicate (length work) 0
