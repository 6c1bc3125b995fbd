-- The keeper over its store, on parsed calls.
use Rattle.std.proofs.Common.{ℕ, suc, ◌+◌, ◌*◌, Bool, true, false, eqb, ltb, List, [], ◌∷◌, length, Some, None, Option}
use Rattle.faults.specs.declared.Reason.{Reason}
use Rattle.faults.specs.Numbers.{fault}
use Rattle.theory.specs.declared.RoundState.{RoundState}
use Rattle.theory.specs.Runs.{Branch, next}
use Rattle.theory.specs.Messages.{branch_of, view_bytes}
use Rattle.theory.specs.Keeper.{Keeper, kept, ended, kept_view, state_of}
use Rattle.theory.proofs.Pasts.{Promise, Checks, Move, promise, answer, drop, Shown, refused, promised, answered, dropped, opened_view, promise_shows}

-- answered or dropped
abbrev pub is_spent : RoundState → Bool
is_spent RoundState.Promised = false
is_spent RoundState.Answered = true
is_spent RoundState.Dropped = true

abbrev pub spent_of : Option RoundState → Option Bool
spent_of None = None
spent_of (Some s) = Some (is_spent s)

abbrev pub keep : Keeper → ℕ → Promise → Shown → Keeper
keep k r p (refused f) = k
keep k r p (promised q m) = kept k r (λ i. view_bytes p.kind (opened_view p i))
keep k r p (answered b x y) = k
keep k r p dropped = k

abbrev pub lose : Keeper → ℕ → Shown → Keeper
lose k r (refused f) = k
lose k r (promised q m) = k
lose k r (answered b x y) = ended k r RoundState.Answered
lose k r dropped = ended k r RoundState.Dropped

abbrev pub answers : Keeper → Option Bool → Option Branch → Bool → ℕ → ℕ → Shown
answers k None b s r e = refused (fault Reason.UnknownRound r)
answers k (Some true) b s r e = refused (fault Reason.SpentRound r)
answers k (Some false) None s r e = refused (fault Reason.WrongPick e)
answers k (Some false) (Some b) false r e = refused (fault Reason.WrongSize 1)
answers k (Some false) (Some b) true r e = answered b (kept_view k r b) (kept_view k r (next b))

abbrev pub drops : Option Bool → ℕ → Shown
drops None r = refused (fault Reason.UnknownRound r)
drops (Some true) r = refused (fault Reason.SpentRound r)
drops (Some false) r = dropped

module _ (ck : Checks) where
  abbrev pub says : Keeper → Move → Shown
  says k (promise p) = promise_shows ck k.capacity (3 + 2 * k.view_size) (ck.early p) (ltb (length k.table) k.capacity) (ck.late p) (suc (length k.table)) p
  says k (answer r e z) = answers k (spent_of (state_of k.table r)) (branch_of e) (eqb z (3 + 2 * k.view_size)) r e
  says k (drop r) = drops (spent_of (state_of k.table r)) r

  abbrev pub then : Keeper → Move → Keeper
  then k (promise p) = keep k (suc (length k.table)) p (says k (promise p))
  then k (answer r e z) = lose k r (says k (answer r e z))
  then k (drop r) = lose k r (says k (drop r))

  abbrev pub keeper_after : Keeper → List Move → Keeper
  keeper_after k [] = k
  keeper_after k (c ∷ h) = then (keeper_after k h) c

  abbrev pub all_said : Keeper → List Move → List Shown
  all_said k [] = []
  all_said k (c ∷ h) = says (keeper_after k h) c ∷ all_said k h
