-- Circuits, views and tapes whose elements are all lawful rows.
use Rattle.std.specs.Prelude.{ℕ, List}
use Rattle.std.specs.List.{AllByRecursion}
use Rattle.kinds.specs.Kind.{Kind, Lawful}
use Rattle.locks.specs.Circuit.{Gate, ac, mc, ad, mu, Circuit}
use Rattle.theory.specs.Runs.{View}
use Rattle.theory.specs.Branches.{Tape}

abbrev pub GateLawful : Kind → Gate (List ℕ) → Type 0
GateLawful K (ac a c) = Lawful K c
GateLawful K (mc a c) = Lawful K c
GateLawful K (ad a b) = Unit {0}
GateLawful K (mu a b) = Unit {0}

pub record CircuitLawful (K : Kind) (l : Circuit (List ℕ)) : Type 0 where
  pub constants : AllByRecursion (GateLawful K) l.gates
  pub aims : AllByRecursion (λ u. Lawful K u.target) l.outputs

pub record ViewLawful (K : Kind) (A : View (List ℕ)) : Type 0 where
  pub wires_lawful : AllByRecursion (Lawful K) A.wires
  pub masks_lawful : AllByRecursion (Lawful K) A.masks
  pub products_lawful : AllByRecursion (Lawful K) A.products

pub record TapeLawful (K : Kind) (t : Tape (List ℕ)) : Type 0 where
  pub share1_lawful : AllByRecursion (Lawful K) t.share1
  pub share2_lawful : AllByRecursion (Lawful K) t.share2
  pub mask1_lawful : AllByRecursion (Lawful K) t.mask1
  pub mask2_lawful : AllByRecursion (Lawful K) t.mask2
  pub mask3_lawful : AllByRecursion (Lawful K) t.mask3
