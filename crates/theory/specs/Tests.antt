-- Tests in their order, and the first thing that is wrong.
use Rattle.std.specs.Prelude.{ℕ, suc, ◌+◌, Bool, cond, List, [], ◌∷◌, Some, None, Ok, Err, Option, Result, ◌==◌}
use Rattle.faults.specs.declared.Fault.{Fault}
use Rattle.faults.specs.declared.Reason.{Reason}
use Rattle.faults.specs.Numbers.{fault}
use Rattle.faults.specs.Outcomes.{and_then}
use Rattle.kinds.specs.Kind.{Kind, same_row}
use Rattle.theory.specs.Groups.{element_at}

-- no fault, or the first
abbrev pub Verdict : Type 0
Verdict = Result (Unit {0}) Fault

-- one test, then another
abbrev pub both : Verdict → Verdict → Verdict
both r s = and_then r (λ _. s)

-- a fault that tells which is the first wrong one
abbrev pub first_at : Option ℕ → (ℕ → Fault) → Verdict
first_at None f = Ok tt
first_at (Some i) f = Err (f i)

abbrev pub later : Option ℕ → Option ℕ
later None = None
later (Some i) = Some (suc i)

-- the first unlawful element
abbrev pub unlawful : Kind → List (List ℕ) → Option ℕ
unlawful K [] = None
unlawful K (x ∷ xs) = cond (K.lawful x) (later (unlawful K xs)) (Some 0)

-- a group whose bytes begin at an offset: an unlawful element is told by its own
abbrev pub lawful_at : Kind → Reason → (at : ℕ) → List (List ℕ) → Verdict
lawful_at K r at es = first_at (unlawful K es) (λ i. fault r (at + element_at K i))

-- the first place at which two lists differ, by a test of their elements
abbrev pub unlike_by : {A : Type 0} → (same : A → A → Bool) → (xs ys : List A) → Option ℕ
unlike_by same [] [] = None
unlike_by same [] (y ∷ ys) = Some 0
unlike_by same (x ∷ xs) [] = Some 0
unlike_by same (x ∷ xs) (y ∷ ys) = cond (same x y) (later (unlike_by same xs ys)) (Some 0)

-- of bytes, and of rows
abbrev pub differ : (xs ys : List ℕ) → Option ℕ
differ xs ys = unlike_by (λ x y. x == y) xs ys

abbrev pub unlike : (xs ys : List (List ℕ)) → Option ℕ
unlike xs ys = unlike_by same_row xs ys

-- what a call leaves in a buffer, a store or a table: new if it was accepted, else what stood there
abbrev pub left : {A B : Type 0} → Result A Fault → (A → B) → B → B
left (Ok a) new old = new a
left (Err e) new old = old
