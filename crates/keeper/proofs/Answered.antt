-- An answer: what its tests tell, its bytes, and what it leaves.
use Rattle.std.proofs.Common.{◌≡◌, ℕ, ◌+◌, ◌*◌, ◌≤◌, eqb, List, ◌∷◌, ◌++◌, take, drop, replicate, Ok, Result, sym, ap, ◌∙◌, arith, eqb-true}
use Rattle.faults.specs.declared.Fault.{Fault}
use Rattle.faults.specs.declared.Reason.{Reason}
use Rattle.faults.specs.Numbers.{fault}
use Rattle.faults.specs.Outcomes.{check}
use Rattle.faults.proofs.Passed.{check_ok, then_ok}
use Rattle.theory.specs.declared.RoundState.{RoundState}
use Rattle.faults.specs.declared.Branch.{Branch}
use Rattle.faults.specs.Branches.{next, behind, pick_byte, picked}
use Rattle.theory.specs.Messages.{answer_bytes}
use Rattle.theory.specs.Store.{put, round_at, round_length}
use Rattle.theory.specs.Tests.{left}
use Rattle.theory.specs.Keeper.{Keeper, round_open, answer_branch, answer_size_for, ended, with_state}
use Rattle.keeper.specs.Model.{view_in}

pub record Answering (k : Keeper) (r pick size : ℕ) (b : Branch) : Type 0 where
  pub opened : round_open k r ≡ Ok tt
  pub sized : size ≡ answer_size_for k

pub answering : (k : Keeper) (r pick size : ℕ) (b : Branch) → answer_branch k r pick size ≡ Ok b → Answering k r pick size b
answering k r pick size b h =
    let o = then_ok (round_open k r) _ b h in
    let p = then_ok (picked pick) (λ b. check (eqb size (answer_size_for k)) (fault Reason.WrongSize 1) (Ok b)) b o.2 in
    let s = check_ok (eqb size (answer_size_for k)) (fault Reason.WrongSize 1) (Ok p.0) b p.2 in
    record { opened = o.1; sized = eqb-true size (answer_size_for k) s.0 }

-- no more than two branches stand before one
pub two_before : (b : Branch) → behind b ≤ 2
two_before Branch.One = omega arith
two_before Branch.Two = omega arith
two_before Branch.Three = omega arith

pub answer_is : (b : Branch) (s : List ℕ) (start L number before after : ℕ) (x y : List ℕ) → number ≡ pick_byte b → before ≡ behind b → after ≡ behind (next b)
    → x ≡ take L (drop (start + L * before) s) → y ≡ take L (drop (start + L * after) s)
    → 65 ∷ 78 ∷ number ∷ (x ++ y) ≡ answer_bytes b (view_in s start L b) (view_in s start L (next b))
answer_is b s start L number before after x y n p q d e =
    let first : x ≡ view_in s start L b = d ∙ ap (λ (m : ℕ). take L (drop (start + L * m) s)) p in
    let second : y ≡ view_in s start L (next b) = e ∙ ap (λ (m : ℕ). take L (drop (start + L * m) s)) q in
    λ i. 65 ∷ 78 ∷ n i ∷ (first i ++ second i)

-- a round's end, in the keeper's values
pub ended_is : (k : Keeper) (r : ℕ) (s : RoundState) (view capacity : ℕ) (store : List ℕ) (table : List RoundState)
    → view ≡ k.view_size → capacity ≡ k.capacity
    → store ≡ put k.store (round_at k.view_size r) (replicate (round_length k.view_size) 0) → table ≡ with_state k.table r s
    → record { view_size = view; capacity = capacity; store = store; table = table } ≡ ended k r s
ended_is k r s view capacity store table v c e t = λ i. record { view_size = v i; capacity = c i; store = e i; table = t i }

pub left_as : {A B : Type 0} (r : Result A Fault) (a : A) (f : A → B) (o : B) → r ≡ Ok a → f a ≡ left r f o
left_as r a f o e = ap (λ x. left x f o) (sym e)
