-- Key and tape split into three branches: their views and output shares, and what a verifier checks of two of them.
use Rattle.std.specs.Prelude.{◌≡◌, List, [], length}
use Rattle.locks.specs.Circuit.{Circuit, mus}
use Rattle.theory.specs.Algebra.{Ops}
use Rattle.theory.specs.Runs.{Branch, one, two, three, next, View, less, sum_of, at_outputs, targets, rerun, due, honest}

-- a tape without its blinds
pub record Tape (E : Type 0) : Type 0 where
  pub share1 : List E
  pub share2 : List E
  pub mask1 : List E
  pub mask2 : List E
  pub mask3 : List E

-- what the tape has for a branch
abbrev pub shares_on : {E : Type 0} → Tape E → Branch → List E
shares_on t one = t.share1
shares_on t two = t.share2
shares_on t three = []

abbrev pub masks_on : {E : Type 0} → Tape E → Branch → List E
masks_on t one = t.mask1
masks_on t two = t.mask2
masks_on t three = t.mask3

pub record TapeFor {E : Type 0} (l : Circuit E) (t : Tape E) : Type 0 where
  pub size1 : length t.share1 ≡ l.inputs
  pub size2 : length t.share2 ≡ l.inputs
  pub masked : (i : Branch) → length (masks_on t i) ≡ mus l.gates

pub record ViewFor {E : Type 0} (l : Circuit E) (A : View E) : Type 0 where
  pub shared : length A.wires ≡ l.inputs
  pub masked : length A.masks ≡ mus l.gates
  pub multiplied : length A.products ≡ mus l.gates

module _ {E : Type 0} (O : Ops E) where
  -- branch 3's shares are the key minus the other two
  abbrev pub shares_of : List E → Tape E → Branch → List E
  shares_of key t one = t.share1
  shares_of key t two = t.share2
  shares_of key t three = less O (less O key t.share1) t.share2

  -- the keeper's views and output shares
  abbrev pub view : Circuit E → List E → Tape E → Branch → View E
  view l key t i = record {
    wires = shares_of key t i;
    masks = masks_on t i;
    products = honest O l.gates (shares_of key t) (masks_on t) i;
  }

  abbrev pub out_shares : Circuit E → List E → Tape E → Branch → List E
  out_shares l key t i = at_outputs O l.outputs (rerun O i l.gates (view l key t i))

  -- Figure 6, the verifier's checks, the seals aside, of output shares y, pick e, view A of branch e and view B of the branch after it:
  -- the shares of each output sum to its target, both branches give their output shares, and each product in A is right
  pub record Accepts (l : Circuit E) (y : Branch → List E) (e : Branch) (A B : View E) : Type 0 where
    pub size_a : ViewFor l A
    pub size_b : ViewFor l B
    pub sums : sum_of O y ≡ targets O l.outputs
    pub gives_a : at_outputs O l.outputs (rerun O e l.gates A) ≡ y e
    pub gives_b : at_outputs O l.outputs (rerun O (next e) l.gates B) ≡ y (next e)
    pub multiplies : A.products ≡ due O e (next e) l.gates A B
