-- Rows that grow in lent bytes, and how many find room there.
use Rattle.std.specs.Prelude.{ℕ, ◌*◌, ◌≤◌, List, length}
use Rattle.std.specs.List.{AllByRecursion}
use Rattle.kinds.specs.Kind.{Kind, Lawful}
use Rattle.branches.specs.Wires.{wires_in}

pub record Filled : Type 0 where
  pub rows : List (List ℕ)
  pub most : ℕ

-- the first n of `most` rows are written in the bytes
pub record Fills (K : Kind) (n most : ℕ) (bytes : List ℕ) : Type 0 where
  pub few : n ≤ most
  pub room : most * K.width ≤ length bytes
  pub lawful : AllByRecursion (Lawful K) (wires_in K n bytes)
