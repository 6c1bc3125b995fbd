-- The linear decomposition, Figure 4 of the ZKBoo paper: every wire of every branch by its gate's equation; and the plain run likewise.
use Rattle.std.specs.Prelude.{◌≡◌, ℕ, suc, ◌<◌, ◌≤◌, List, [], ◌∷◌, map, Ok}
use Rattle.locks.specs.Circuit.{Gate, ac, mc, ad, mu, Circuit}
use Rattle.locks.specs.Reading.{lock_of}
use Rattle.theory.specs.Algebra.{Ops, ops_of}
use Rattle.theory.specs.Runs.{Branch, next, rest, read, head, plain, at_outputs, share, plus_constant}
use Rattle.theory.specs.Branches.{Tape, masks_on, shares_of, view, out_shares}
use Rattle.theory.specs.Keeper.{Given, circuit_in, key_in, tape_in}
use Rattle.theory.specs.Rules.{product_wires}

module _ {E : Type 0} (O : Ops E) where
  open O use {add, mul}

  -- the plain run's wires w
  abbrev pub ValueHolds : (w : List E) (own : ℕ) → Gate E → Type 0
  ValueHolds w own (ac a c) = read O w own ≡ add (read O w a) c
  ValueHolds w own (mc a c) = read O w own ≡ mul c (read O w a)
  ValueHolds w own (ad a b) = read O w own ≡ add (read O w a) (read O w b)
  ValueHolds w own (mu a b) = read O w own ≡ mul (read O w a) (read O w b)

  abbrev pub ValuesHold : (w : List E) (own : ℕ) → List (Gate E) → Type 0
  ValuesHold w own [] = Unit {0}
  ValuesHold w own (g ∷ gs) = ValueHolds w own g × ValuesHold w (suc own) gs

  -- the branches' wires W, where the gate writes wire `own` and its masks, if it has any, stand in front of m
  module _ (W : Branch → List E) where
    abbrev pub GateHolds : (m : Branch → List E) (own : ℕ) → Gate E → Branch → Type 0
    GateHolds m own (ac a c) i = read O (W i) own ≡ plus_constant O i (read O (W i) a) c
    GateHolds m own (mc a c) i = read O (W i) own ≡ mul c (read O (W i) a)
    GateHolds m own (ad a b) i = read O (W i) own ≡ add (read O (W i) a) (read O (W i) b)
    GateHolds m own (mu a b) i =
        read O (W i) own ≡ share O (read O (W i) a) (read O (W i) b) (read O (W (next i)) a) (read O (W (next i)) b) (head O (m i)) (head O (m (next i)))

    abbrev pub GatesHold : (m : Branch → List E) (own : ℕ) → List (Gate E) → Type 0
    GatesHold m own [] = Unit {0}
    GatesHold m own (g ∷ gs) = ((i : Branch) → GateHolds m own g i) × GatesHold (λ i. rest g (m i)) (suc own) gs

  -- of a circuit, a key and a tape
  pub record Decomposed (l : Circuit E) (key : List E) (t : Tape E) : Type 0 where
    pub wires : Branch → List E
    pub inputs : (i : Branch) (j : ℕ) → j < l.inputs → read O (wires i) j ≡ read O (shares_of O key t i) j
    pub gates : GatesHold wires (masks_on t) l.inputs l.gates
    -- a view holds the branch's shares, masks, and the values of the MU gates in their order
    pub shares : (i : Branch) → (view O l key t i).wires ≡ shares_of O key t i
    pub masks : (i : Branch) → (view O l key t i).masks ≡ masks_on t i
    pub products : (i : Branch) → (view O l key t i).products ≡ map (read O (wires i)) (product_wires l.inputs l.gates)
    pub outs : (i : Branch) → out_shares O l key t i ≡ at_outputs O l.outputs (wires i)

  pub record Plainly (l : Circuit E) (key : List E) : Type 0 where
    pub inputs : (j : ℕ) → j < l.inputs → read O (plain O l.gates key) j ≡ read O key j
    pub gates : ValuesHold (plain O l.gates key) l.inputs l.gates

-- of every promise whose lock reads well
abbrev pub FigureLaw : Type 0
FigureLaw = (g : Given) → g.kind.width ≤ 16 → lock_of g.kind g.lock ≡ Ok (circuit_in g)
    → Decomposed (ops_of g.kind) (circuit_in g) (key_in g) (tape_in g) × Plainly (ops_of g.kind) (circuit_in g) (key_in g)
