-- A tape that was read, and the round that it gives with a key.
use Rattle.std.specs.Prelude.{◌≡◌, ℕ, List, ◌++◌, length, take, drop}
use Rattle.faults.specs.declared.Branch.{Branch}
use Rattle.faults.specs.declared.Branch.TheVariants.{One as one, Two as two, Three as three}
use Rattle.kinds.specs.Kind.{Kind}
use Rattle.locks.specs.Circuit.{Circuit}
use Rattle.seals.specs.Sealing.{Sealing}
use Rattle.theory.specs.Algebra.{ops_of}
use Rattle.theory.specs.Branches.{Tape, TapeFor, view, out_shares}
use Rattle.theory.specs.Groups.{group_bytes}
use Rattle.theory.specs.Messages.{blind_in, tape_of, view_bytes, first_bytes}

-- its blinds, and the elements behind them
pub record Drawn : Type 0 where
  pub blind1 : List ℕ
  pub blind2 : List ℕ
  pub blind3 : List ℕ
  pub parts : Tape (List ℕ)

abbrev pub blind_on : Drawn → Branch → List ℕ
blind_on d one = d.blind1
blind_on d two = d.blind2
blind_on d three = d.blind3

-- in the bytes of a tape for a circuit
abbrev pub drawn_in : Kind → Circuit (List ℕ) → List ℕ → Drawn
drawn_in K l xs = record { blind1 = blind_in K l xs one; blind2 = blind_in K l xs two; blind3 = blind_in K l xs three; parts = tape_of K l xs }

-- a key and a tape that are of a circuit
pub record Fitting (l : Circuit (List ℕ)) (key : List (List ℕ)) (t : Drawn) : Type 0 where
  pub keyed : length key ≡ l.inputs
  pub taped : TapeFor l t.parts
  pub blinded : (i : Branch) → length (blind_on t i) ≡ 32

-- the round that they give: views, and the first message
module _ (K : Kind) (l : Circuit (List ℕ)) (key : List (List ℕ)) (t : Drawn) where
  abbrev pub view_on : Branch → List ℕ
  view_on i = view_bytes K (blind_on t i, view (ops_of K) l key t.parts i)

  abbrev pub views_on : List ℕ
  views_on = view_on one ++ (view_on two ++ view_on three)

  abbrev pub outs_on : Branch → List ℕ
  outs_on i = group_bytes K (out_shares (ops_of K) l key t.parts i)

  abbrev pub first_on : Sealing → List ℕ
  first_on S = first_bytes K (out_shares (ops_of K) l key t.parts) (λ i. S.seal (view_on i))

-- a branch's part of bytes that hold L for each of the three
abbrev pub third_of : (L : ℕ) → List ℕ → Branch → List ℕ
third_of L xs one = take L xs
third_of L xs two = take L (drop L xs)
third_of L xs three = drop L (drop L xs)
