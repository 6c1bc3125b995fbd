-- The tests of a promise: what they tell where they pass.
use Rattle.std.proofs.Common.{◌≡◌, ℕ, suc, ◌*◌, ◌<◌, ◌≤◌, eqb, ltb, List, length, drop, Ok, Err, sym, refl, ltb-true, eqb-true, leb-true, arith, length-drop}
use Rattle.std.proofs.lemmas.List.{length-take-le}
use Rattle.faults.specs.declared.Branch.{Branch}
use Rattle.faults.specs.declared.Branch.TheVariants.{One as one, Two as two, Three as three}
use Rattle.faults.specs.declared.Reason.{Reason}
use Rattle.faults.specs.Numbers.{fault}
use Rattle.faults.specs.Outcomes.{map_ok}
use Rattle.faults.proofs.Passed.{err_ok, ok_same, check_ok, then_ok}
use Rattle.kinds.specs.Kind.{Kind}
use Rattle.locks.specs.Circuit.{Circuit}
use Rattle.seals.specs.Sealing.{Sealing}
use Rattle.theory.specs.Tests.{Verdict}
use Rattle.theory.specs.Keeper.{Keeper as Values}
use Rattle.theory.specs.Messages.{key_of, length_of_key, length_of_view, length_of_tape, length_of_first, length_of_work}
use Rattle.theory.proofs.Groups.{counted}
use Rattle.theory.proofs.Parts.{tape_for}
use Rattle.promises.specs.Drawn.{Fitting, blind_on, drawn_in}
use Rattle.keeper.specs.Promise.{sizes_right, next_round, tested}
use Rattle.keeper.specs.declared.tests.Lengths.{Lengths}

-- what is known where the tests that look at no secret have passed, and r is the round
pub record Passing (k : Values) (K : Kind) (S : Sealing) (l : Circuit (List ℕ)) (n : Lengths) (r : ℕ) : Type 0 where
  pub short : length_of_view K l ≤ S.longest
  pub key : n.key ≡ length_of_key K l
  pub tape : n.tape ≡ length_of_tape K l
  pub room1 : length_of_work K l ≤ n.work1
  pub room2 : length_of_work K l ≤ n.work2
  pub room3 : length_of_work K l ≤ n.work3
  pub first : n.first ≡ length_of_first K l S.size
  pub long : length_of_view K l ≡ k.view_size
  pub free : length k.table < k.capacity
  pub number : suc (length k.table) ≡ r

pub passing : (k : Values) (K : Kind) (S : Sealing) (l : Circuit (List ℕ)) (n : Lengths) (r : ℕ) → tested k K S l n ≡ Ok r → Passing k K S l n r
passing k K S l n r h =
    let sizes = then_ok (sizes_right K S l n) _ r h in
    let a = check_ok _ _ _ tt sizes.1 in
    let b = check_ok _ _ _ tt a.1 in
    let c = check_ok _ _ _ tt b.1 in
    let d = check_ok _ _ _ tt c.1 in
    let e = check_ok _ _ _ tt d.1 in
    let f = check_ok _ _ _ tt e.1 in
    let last = check_ok _ _ _ tt f.1 in
    let view = check_ok (eqb (length_of_view K l) k.view_size) (fault Reason.WrongSize 7) (next_round k) r sizes.2 in
    let next = check_ok (ltb (length k.table) k.capacity) (fault Reason.KeeperFull k.capacity) (Ok (suc (length k.table))) r view.1 in
    record {
      short = leb-true (length_of_view K l) S.longest a.0;
      key = eqb-true n.key (length_of_key K l) b.0;
      tape = eqb-true n.tape (length_of_tape K l) c.0;
      room1 = leb-true (length_of_work K l) n.work1 d.0;
      room2 = leb-true (length_of_work K l) n.work2 e.0;
      room3 = leb-true (length_of_work K l) n.work3 f.0;
      first = eqb-true n.first (length_of_first K l S.size) last.0;
      long = eqb-true (length_of_view K l) k.view_size view.0;
      free = ltb-true (length k.table) k.capacity next.0;
      number = ok_same next.1;
    }

-- what was read where its tests passed
pub read_as : {A : Type 0} (a b : A) (v : Verdict) → Ok a ≡ map_ok (λ _. b) v → (v ≡ Ok tt) × (a ≡ b)
read_as a b (Ok x) h = (refl, ok_same h)
read_as a b (Err f) h = err_ok (sym h)

-- a key and a tape of the right lengths are of the lock
module _ (K : Kind) (l : Circuit (List ℕ)) (key tape : List ℕ) (long : length tape ≡ length_of_tape K l) where
  blind_long : (i : Branch) → length (blind_on (drawn_in K l tape) i) ≡ 32
  blind_long one = length-take-le 32 (drop (32 * 0) tape) (simp length-drop (omega (arith, long)))
  blind_long two = length-take-le 32 (drop (32 * 1) tape) (simp length-drop (omega (arith, long)))
  blind_long three = length-take-le 32 (drop (32 * 2) tape) (simp length-drop (omega (arith, long)))

  pub secrets_fit : Fitting l (key_of K l key) (drawn_in K l tape)
  secrets_fit = record { keyed = counted K l.inputs key; taped = tape_for K l tape; blinded = blind_long }
