-- A view's parts as the code holds them, and the view that they say.
use Rattle.std.specs.Prelude.{ℕ, ◌+◌, ◌≤◌, List, length, drop}
use Rattle.std.specs.List.{AllByRecursion}
use Rattle.kinds.specs.Kind.{Kind, Lawful}
use Rattle.kinds.specs.Groups.{group_length}
use Rattle.faults.specs.declared.Reason.{Reason}
use Rattle.locks.specs.Circuit.{Gate, ac, mc, ad, mu, Circuit}
use Rattle.theory.specs.Runs.{View}
use Rattle.theory.specs.Groups.{group}
use Rattle.theory.specs.Messages.{shares_at, masks_at, products_at}
use Rattle.theory.specs.Tests.{Verdict, both, lawful_at}
use Rattle.branches.specs.Wires.{wires_in}
use Rattle.branches.specs.declared.views.ViewParts.{ViewParts}

-- how many products a gate has
abbrev pub has : Gate (List ℕ) → ℕ
has (ac a c) = 0
has (mc a c) = 0
has (ad a b) = 0
has (mu a b) = 1

-- p if the gate has a product, else zero
abbrev pub taken : Kind → Gate (List ℕ) → List ℕ → List ℕ
taken K (ac a c) p = K.zero
taken K (mc a c) p = K.zero
taken K (ad a b) p = K.zero
taken K (mu a b) p = p

-- the elements of a view that begins at an offset of a message, tested in their order
abbrev pub lawful_view_at : Kind → Circuit (List ℕ) → Reason → (at : ℕ) → View (List ℕ) → Verdict
lawful_view_at K l r at A =
    both (lawful_at K r (at + shares_at K l) A.wires)
    (both (lawful_at K r (at + masks_at K l) A.masks) (lawful_at K r (at + products_at K l) A.products))

module _ (K : Kind) where
  -- with k inputs and m products
  abbrev pub view_in : (k m : ℕ) → ViewParts → View (List ℕ)
  view_in k m v = record { wires = group K k v.shares.now; masks = group K m v.masks.now; products = group K m v.products.now }

  -- part of the way: `own` wires in the work space, q products behind
  abbrev pub view_at : (m : ℕ) → ViewParts → (own : ℕ) (work : List ℕ) (q : ℕ) → View (List ℕ)
  view_at m v own work q = record {
    wires = wires_in K own work;
    masks = drop q (group K m v.masks.now);
    products = drop q (group K m v.products.now);
  }

  -- masks and products are all there, and lawful
  pub record Opens (m : ℕ) (v : ViewParts) : Type 0 where
    pub masks_room : group_length K m ≤ length v.masks.now
    pub products_room : group_length K m ≤ length v.products.now
    pub masks_lawful : AllByRecursion (Lawful K) (group K m v.masks.now)
    pub products_lawful : AllByRecursion (Lawful K) (group K m v.products.now)
