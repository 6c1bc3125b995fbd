-- Three accepted answers, and what they give.
use Rattle.std.specs.Prelude.{◌≡◌, ℕ, List, length}
use Rattle.faults.specs.declared.Branch.{Branch}
use Rattle.faults.specs.declared.Branch.TheVariants.{One as one, Two as two, Three as three}
use Rattle.kinds.specs.Kind.{Kind}
use Rattle.locks.specs.Circuit.{Circuit}
use Rattle.theory.specs.declared.Extracted.{Extracted}
use Rattle.theory.specs.Algebra.{ops_of}
use Rattle.theory.specs.Extraction.{by_branch, or_collision}
use Rattle.theory.specs.Runs.{sum_of}
use Rattle.theory.specs.Tests.{differ}
use Rattle.verifier.specs.Shown.{Answered, answer_in}

-- to picks 1, 2, 3
pub record Three : Type 0 where
  pub one_answer : Answered
  pub two_answer : Answered
  pub three_answer : Answered

-- in their bytes
abbrev pub three_in : Kind → Circuit (List ℕ) → (Branch → List ℕ) → Three
three_in K l an = record { one_answer = answer_in K l one (an one); two_answer = answer_in K l two (an two); three_answer = answer_in K l three (an three) }

abbrev pub shares_in : Three → Branch → List (List ℕ)
shares_in a = by_branch a.one_answer.picked.parts.wires a.two_answer.picked.parts.wires a.three_answer.picked.parts.wires

-- the two copies of a branch's view are of one length, and all branches have as many shares
pub record Alike (a b c : Answered) : Type 0 where
  pub one_long : length a.picked.bytes ≡ length c.following.bytes
  pub two_long : length b.picked.bytes ≡ length a.following.bytes
  pub three_long : length c.picked.bytes ≡ length b.following.bytes
  pub two_shared : length b.picked.parts.wires ≡ length a.picked.parts.wires
  pub three_shared : length c.picked.parts.wires ≡ length a.picked.parts.wires

-- the lowest branch whose copies differ; if there is none, a key
abbrev pub compared : Three → Extracted
compared a =
    or_collision (differ a.one_answer.picked.bytes a.three_answer.following.bytes) one
    (or_collision (differ a.two_answer.picked.bytes a.one_answer.following.bytes) two
    (or_collision (differ a.three_answer.picked.bytes a.two_answer.following.bytes) three Extracted.Key))

-- the sums of the shares in the views that the picks opened first
abbrev pub key_in : Kind → Three → List (List ℕ)
key_in K a = sum_of (ops_of K) (shares_in a)

-- the key buffer: written where the outcome is a key
abbrev pub key_written : Extracted → (written old : List ℕ) → List ℕ
key_written Extracted.Key written old = written
key_written (Extracted.Collision b o) written old = old
