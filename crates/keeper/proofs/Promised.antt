-- A promise that passed its tests, and one whose lock was read.
use Rattle.std.proofs.Common.{◌≡◌, ℕ, suc, ◌≤◌, Bool, true, false, eqb, ltb, List, [], ◌∷◌, ◌++◌, length, Ok, Err, Result, sym, refl, ap, ◌∙◌, arith, subst}
use Rattle.faults.specs.declared.Fault.{Fault}
use Rattle.faults.specs.declared.Reason.{Reason}
use Rattle.faults.specs.Numbers.{fault}
use Rattle.faults.specs.Outcomes.{check, and_then, map_ok}
use Rattle.faults.proofs.Passed.{err_ok, err_same}
use Rattle.kinds.specs.Kind.{Kind}
use Rattle.locks.specs.Circuit.{Circuit}
use Rattle.locks.specs.Reading.{lock_of}
use Rattle.seals.specs.Sealing.{Sealing}
use Rattle.theory.specs.declared.RoundState.{RoundState}
use Rattle.theory.specs.Extraction.{read_circuit}
use Rattle.theory.specs.Keeper.{Keeper as Values, Given, given, key_right, tape_right, promise_result, first_after, after_promise, kept, own_view_bytes, own_first, promise_sizes}
use Rattle.theory.specs.Messages.{key_of, tape_of, length_of_view}
use Rattle.theory.specs.Store.{put, round_at}
use Rattle.theory.specs.Tests.{Verdict, both, left}
use Rattle.promises.specs.Drawn.{Drawn, Fitting, drawn_in, views_on, first_on}
use Rattle.keeper.specs.Model.{values_of, Placed}
use Rattle.keeper.specs.Promise.{tested, secrets_right, promised_to, lengths_of, views_for, first_for, Ready}
use Rattle.keeper.specs.declared.Keeper.{Keeper}
use Rattle.keeper.proofs.Rooms.{placed_in}
use Rattle.keeper.proofs.Tested.{Passing, passing, read_as, secrets_fit}

module _ (k : Keeper) (K : Kind) (S : Sealing) (l : Circuit (List ℕ)) (key tape : List ℕ) (w1 w2 w3 first r : ℕ)
    (h : tested (values_of k) K S l (lengths_of (length key) (length tape) w1 w2 w3 first) ≡ Ok r) where
  pub all_passed : Passing (values_of k) K S l (lengths_of (length key) (length tape) w1 w2 w3 first) r
  all_passed = passing (values_of k) K S l (lengths_of (length key) (length tape) w1 w2 w3 first) r h

  pub round_number : r ≡ suc (length k.records.items)
  round_number = sym all_passed.number

  pub round_within : r ≤ k.capacity
  round_within = omega (arith, all_passed.free, round_number)

  pub round_placed : Placed k.view_length r (length k.store.now)
  round_placed = placed_in k.capacity k.view_length r (length k.store.now) (k.short (omega (arith, round_within, round_number))) (omega (arith, round_number)) round_within k.few k.room

  -- the secrets were read too
  module _ (read : List (List ℕ) × Drawn) (is : ◌≡◌ {A = Result (List (List ℕ) × Drawn) Fault} (Ok read) (map_ok (λ _. (key_of K l key, drawn_in K l tape)) (secrets_right K l key tape))) where
    both_read : (secrets_right K l key tape ≡ Ok tt) × (read ≡ (key_of K l key, drawn_in K l tape))
    both_read = read_as read (key_of K l key, drawn_in K l tape) (secrets_right K l key tape) is

    pub round_ready : (w1' : ℕ) → w1' ≡ w1 → Ready K S l k.view_length read.0 read.1 w1' w2 w3 first
    round_ready w1' same = record {
      fitting = subst (λ (p : List (List ℕ) × Drawn). Fitting l p.0 p.1) (sym both_read.1) (secrets_fit K l key tape all_passed.tape);
      long = all_passed.long;
      short = all_passed.short;
      room1 = omega (arith, same, all_passed.room1);
      room2 = all_passed.room2;
      room3 = all_passed.room3;
      sized = all_passed.first;
    }

    pub result_is : Ok r ≡ promised_to (values_of k) K S l key tape (lengths_of (length key) (length tape) w1 w2 w3 first)
    result_is = λ i. and_then (sym h i) (λ n. and_then (sym both_read.0 i) (λ _. Ok n))

    pub kept_is : (store : List ℕ) (records : List RoundState) → store ≡ put k.store.now (round_at k.view_length r) (views_on K l read.0 read.1) → records ≡ k.records.items ++ (RoundState.Promised ∷ [])
        → record { view_size = k.view_length; capacity = k.capacity; store = store; table = records } ≡ kept (values_of k) r (views_for K l key tape)
    kept_is store records e t =
        (λ i. record { view_size = k.view_length; capacity = k.capacity; store = e i; table = t i })
        ∙ ap (λ (p : List (List ℕ) × Drawn). record { view_size = k.view_length; capacity = k.capacity; store = put k.store.now (round_at k.view_length r) (views_on K l p.0 p.1); table = k.records.items ++ (RoundState.Promised ∷ []) }) both_read.1

    pub shown_is : (out : List ℕ) → out ≡ first_on K l read.0 read.1 S → out ≡ first_for K l key tape S
    shown_is out e = e ∙ ap (λ (p : List (List ℕ) × Drawn). first_on K l p.0 p.1 S) both_read.1

  -- the secrets were refused
  pub refused_by : (e : Fault) → ◌≡◌ {A = Result (List (List ℕ) × Drawn) Fault} (Err e) (map_ok (λ _. (key_of K l key, drawn_in K l tape)) (secrets_right K l key tape))
      → Err e ≡ promised_to (values_of k) K S l key tape (lengths_of (length key) (length tape) w1 w2 w3 first)
  refused_by e is =
      refused (secrets_right K l key tape) is ∙ ap (λ (v : Result ℕ Fault). and_then v (λ n. and_then (secrets_right K l key tape) (λ _. Ok n))) (sym h)
    where
      refused : (v : Verdict) → ◌≡◌ {A = Result (List (List ℕ) × Drawn) Fault} (Err e) (map_ok (λ _. (key_of K l key, drawn_in K l tape)) v) → ◌≡◌ {A = Result ℕ Fault} (Err e) (and_then v (λ _. Ok r))
      refused (Ok x) q = err_ok q
      refused (Err f) q = ap Err (err_same q)

-- the tests, one behind the other, are those of the definition
last_tests : (v : Verdict) (a b : Bool) (d f : Fault) (n : ℕ) (key tape : Verdict)
    → and_then (and_then v (λ _. check a d (check b f (Ok n)))) (λ r. and_then (both key tape) (λ _. Ok r)) ≡ and_then v (λ _. check a d (check b f (and_then key (λ _. and_then tape (λ _. Ok n)))))
last_tests (Ok x) true true d f n (Ok y) tape = refl
last_tests (Ok x) true true d f n (Err e) tape = refl
last_tests (Ok x) true false d f n key tape = refl
last_tests (Ok x) false b d f n key tape = refl
last_tests (Err e) a b d f n key tape = refl

-- what a promise answers, once its lock is read
abbrev promised_for : Values → Given → Circuit (List ℕ) → Result ℕ Fault
promised_for k g l =
    and_then (promise_sizes g l) (λ _.
    check (eqb (length_of_view g.kind l) k.view_size) (fault Reason.WrongSize 7)
    (check (ltb (length k.table) k.capacity) (fault Reason.KeeperFull k.capacity)
    (and_then (key_right g.kind l (key_of g.kind l g.key)) (λ _.
    and_then (tape_right g.kind l (tape_of g.kind l g.tape)) (λ _.
    Ok (suc (length k.table)))))))

module _ (k : Values) (K : Kind) (S : Sealing) (bytes key tape : List ℕ) (w1 w2 w3 first : ℕ) where
  abbrev g : Given
  g = given K S bytes key tape w1 w2 w3 first

  module _ (l : Circuit (List ℕ)) (read : Ok l ≡ lock_of K bytes) where
    pub promised_is : promised_to k K S l key tape (lengths_of (length key) (length tape) w1 w2 w3 first) ≡ promise_result k g
    promised_is =
        last_tests _ (eqb (length_of_view K l) k.view_size) (ltb (length k.table) k.capacity) (fault Reason.WrongSize 7) (fault Reason.KeeperFull k.capacity) (suc (length k.table)) (key_right K l (key_of K l key)) (tape_right K l (tape_of K l tape))
        ∙ ap (λ (r : Result (Circuit (List ℕ)) Fault). and_then r (promised_for k g)) read

    circuit_is : l ≡ read_circuit (lock_of K bytes)
    circuit_is = ap read_circuit read

    pub after_is : (r : Result ℕ Fault) → r ≡ promise_result k g → left r (λ n. kept k n (views_for K l key tape)) k ≡ after_promise k g
    after_is r e = λ x. left (e x) (λ n. kept k n (views_for K (circuit_is x) key tape)) k

    pub first_is : (r : Result ℕ Fault) (out : List ℕ) → r ≡ promise_result k g → left r (λ _. first_for K l key tape S) out ≡ first_after k g out
    first_is r out e = λ x. left (e x) (λ _. first_for K (circuit_is x) key tape S) out

  -- a lock that is refused
  module _ (e : Fault) (read : Err e ≡ lock_of K bytes) where
    pub refused_is : Err e ≡ promise_result k g
    refused_is = ap (λ (r : Result (Circuit (List ℕ)) Fault). and_then r (promised_for k g)) read

    pub after_refused : k ≡ after_promise k g
    after_refused = ap (λ (r : Result ℕ Fault). left r (λ n. kept k n (own_view_bytes g)) k) refused_is

    pub first_refused : (out : List ℕ) → out ≡ first_after k g out
    first_refused out = ap (λ (r : Result ℕ Fault). left r (λ _. own_first g) out) refused_is
