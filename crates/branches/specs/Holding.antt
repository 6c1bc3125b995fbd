-- A group of elements that stands in bytes, and nothing unlawful in it.
use Rattle.std.specs.Prelude.{◌≡◌, ℕ, List, length, None, Some, Option, Ok, Err, Result}
use Rattle.std.specs.List.{AllByRecursion}
use Rattle.kinds.specs.Kind.{Kind, Lawful}
use Rattle.kinds.specs.Groups.{group_length}
use Rattle.theory.specs.Groups.{group}

pub record Holds (K : Kind) (n : ℕ) (bytes : List ℕ) : Type 0 where
  pub sized : length bytes ≡ group_length K n
  pub lawful : AllByRecursion (Lawful K) (group K n bytes)

-- the rows, unless one is wrong
abbrev pub unless : {A : Type 0} → Option ℕ → A → Result A ℕ
unless None x = Ok x
unless (Some i) x = Err i
