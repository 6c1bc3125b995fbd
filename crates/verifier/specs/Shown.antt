-- What the types of messages show.
use Rattle.std.specs.Prelude.{◌≡◌, ℕ, ◌≤◌, List, length}
use Rattle.faults.specs.declared.Branch.{Branch}
use Rattle.faults.specs.declared.Branch.TheVariants.{One as one, Two as two, Three as three}
use Rattle.kinds.specs.Kind.{Kind}
use Rattle.locks.specs.Circuit.{Circuit}
use Rattle.seals.specs.Sealing.{Sealing}
use Rattle.theory.specs.Branches.{ViewFor}
use Rattle.theory.specs.Messages.{view_of, outs_in, seal_in, picked_view, next_view}
use Rattle.theory.specs.Runs.{View}

-- the elements of a view are tested alike for every sealer
abbrev pub unsealed : Sealing
unsealed = record { size = 0; longest = 0; seal = λ x. x }

-- a view that was read: its bytes, and its parts without the blind
pub record Opened : Type 0 where
  pub bytes : List ℕ
  pub parts : View (List ℕ)

-- the views of the picked branch and of the one after it
pub record Answered : Type 0 where
  pub branch : Branch
  pub picked : Opened
  pub following : Opened

-- a branch in a first message: its output shares and its seal
pub record Shown : Type 0 where
  pub outs : List (List ℕ)
  pub seal : List ℕ

pub record First : Type 0 where
  pub one_shown : Shown
  pub two_shown : Shown
  pub three_shown : Shown

abbrev pub shown_of : First → Branch → Shown
shown_of f one = f.one_shown
shown_of f two = f.two_shown
shown_of f three = f.three_shown

abbrev pub outs_of : First → Branch → List (List ℕ)
outs_of f i = (shown_of f i).outs

-- as many output shares as a lock has outputs
abbrev pub Counted : Circuit (List ℕ) → First → Type 0
Counted l f = (i : Branch) → length (outs_of f i) ≡ length l.outputs

-- in the bytes of messages for a circuit; seals have d bytes
module _ (K : Kind) (l : Circuit (List ℕ)) where
  abbrev pub opened_in : List ℕ → Opened
  opened_in xs = record { bytes = xs; parts = (view_of K l xs).1 }

  abbrev pub answer_in : Branch → List ℕ → Answered
  answer_in e an = record { branch = e; picked = opened_in (picked_view K l an); following = opened_in (next_view K l an) }

  abbrev pub shown_in : (d : ℕ) → List ℕ → Branch → Shown
  shown_in d fm i = record { outs = outs_in K l fm i; seal = seal_in K l d fm i }

  abbrev pub first_in : (d : ℕ) → List ℕ → First
  first_in d fm = record { one_shown = shown_in d fm one; two_shown = shown_in d fm two; three_shown = shown_in d fm three }

-- both messages, read for one lock
pub record Read : Type 0 where
  pub circuit : Circuit (List ℕ)
  pub first : First
  pub answer : Answered

-- they are of the lock, and the views short enough for the sealer
pub record Fitting (S : Sealing) (l : Circuit (List ℕ)) (f : First) (a : Answered) : Type 0 where
  pub counted : Counted l f
  pub sized : (i : Branch) → length (shown_of f i).seal ≡ S.size
  pub picked_for : ViewFor l a.picked.parts
  pub following_for : ViewFor l a.following.parts
  pub picked_short : length a.picked.bytes ≤ S.longest
  pub following_short : length a.following.bytes ≤ S.longest
