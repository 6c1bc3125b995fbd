-- The gates of a circuit, run plainly and by three branches (the linear decomposition of the ZKBoo paper's Figure 4).
use Rattle.std.specs.Prelude.{◌≡◌, ℕ, List, [], ◌∷◌, ◌++◌, map, length, slice_index_or}
use Rattle.locks.specs.Circuit.{Gate, ac, mc, ad, mu, Output, Circuit}
use Rattle.theory.specs.Algebra.{Ops}
pub use Rattle.faults.specs.declared.Branch.{Branch}
pub use Rattle.faults.specs.declared.Branch.TheVariants.{One as one, Two as two, Three as three}
pub use Rattle.faults.specs.Branches.{next}

-- a branch's view without its blind: its shares (which grow to all its wires as the gates run), masks, products
pub record View (E : Type 0) : Type 0 where
  pub wires : List E
  pub masks : List E
  pub products : List E

abbrev pub tail : {A : Type 0} → List A → List A
tail [] = []
tail (x ∷ xs) = xs

-- what is left of the masks or products behind a gate
abbrev pub rest : {E : Type 0} → Gate E → List E → List E
rest (ac a c) xs = xs
rest (mc a c) xs = xs
rest (ad a b) xs = xs
rest (mu a b) xs = tail xs

-- x in front, if the gate has a product
abbrev pub front : {E : Type 0} → Gate E → E → List E → List E
front (ac a c) x xs = xs
front (mc a c) x xs = xs
front (ad a b) x xs = xs
front (mu a b) x xs = x ∷ xs

module _ {E : Type 0} (O : Ops E) where
  open O use {zer, add, neg, mul}

  abbrev pub read : List E → ℕ → E
  read w a = slice_index_or w a zer

  abbrev pub head : List E → E
  head [] = zer
  head (x ∷ xs) = x

  -- element by element
  abbrev pub sum : List E → List E → List E
  sum [] ys = []
  sum (x ∷ xs) [] = []
  sum (x ∷ xs) (y ∷ ys) = add x y ∷ sum xs ys

  abbrev pub less : List E → List E → List E
  less [] ys = []
  less (x ∷ xs) [] = []
  less (x ∷ xs) (y ∷ ys) = add x (neg y) ∷ less xs ys

  abbrev pub sum_of : (Branch → List E) → List E
  sum_of f = sum (sum (f one) (f two)) (f three)

  -- what a gate writes on whole values
  abbrev pub value : List E → Gate E → E
  value w (ac a c) = add (read w a) c
  value w (mc a c) = mul c (read w a)
  value w (ad a b) = add (read w a) (read w b)
  value w (mu a b) = mul (read w a) (read w b)

  abbrev pub plain : List (Gate E) → List E → List E
  plain [] w = w
  plain (g ∷ gs) w = plain gs (w ++ (value w g ∷ []))

  -- the values at the outputs
  abbrev pub at_outputs : List (Output E) → List E → List E
  at_outputs outs w = map (λ u. read w u.wire) outs

  abbrev pub targets : List (Output E) → List E
  targets outs = map (λ u. u.target) outs

  pub record Fits (l : Circuit E) (key : List E) : Type 0 where
    pub size : length key ≡ l.inputs
    pub meets : at_outputs l.outputs (plain l.gates key) ≡ targets l.outputs

  -- product_i = a_i × b_i + a_n × b_i + a_i × b_n + r_i − r_n, with n the branch after i
  abbrev pub share : (ai bi an bn ri rn : E) → E
  share ai bi an bn ri rn = add (add (add (add (mul ai bi) (mul an bi)) (mul ai bn)) ri) (neg rn)

  -- the right product of an MU gate in branch i, with the wires and masks of the branch after it; no other gate has one
  abbrev pub right : Gate E → (wi ri wn rn : List E) → E
  right (ac a c) wi ri wn rn = zer
  right (mc a c) wi ri wn rn = zer
  right (ad a b) wi ri wn rn = zer
  right (mu a b) wi ri wn rn = share (read wi a) (read wi b) (read wn a) (read wn b) (head ri) (head rn)

  -- only branch 1 adds a constant
  abbrev pub plus_constant : Branch → E → E → E
  plus_constant one x c = add x c
  plus_constant two x c = x
  plus_constant three x c = x

  -- what a gate writes in branch i, where p is its product
  abbrev pub local : Branch → List E → E → Gate E → E
  local i w p (ac a c) = plus_constant i (read w a) c
  local i w p (mc a c) = mul c (read w a)
  local i w p (ad a b) = add (read w a) (read w b)
  local i w p (mu a b) = p

  -- a view one gate on: a product is taken from the view
  abbrev pub step : Branch → Gate E → View E → View E
  step i g A = record {
    wires = A.wires ++ (local i A.wires (head A.products) g ∷ []);
    masks = rest g A.masks;
    products = rest g A.products;
  }

  -- all wires of a branch, rerun from its view
  abbrev pub rerun : Branch → List (Gate E) → View E → List E
  rerun i [] A = A.wires
  rerun i (g ∷ gs) A = rerun i gs (step i g A)

  -- the right products of view A of branch i, with view B of the branch n after it
  abbrev pub due : (i n : Branch) → List (Gate E) → View E → View E → List E
  due i n [] A B = []
  due i n (g ∷ gs) A B =
      front g (right g A.wires A.masks B.wires B.masks) (due i n gs (step i g A) (step n g B))

  -- the products of the three branches, from shares and masks
  abbrev pub honest : List (Gate E) → (w r : Branch → List E) → Branch → List E
  honest [] w r i = []
  honest (g ∷ gs) w r i =
      let p : Branch → E = λ j. right g (w j) (r j) (w (next j)) (r (next j)) in
      front g (p i) (honest gs (λ j. w j ++ (local j (w j) (p j) g ∷ [])) (λ j. rest g (r j)) i)
