-- The checks of a verdict one by one, as the code makes them.
use Rattle.std.specs.Prelude.{ℕ, Bool, List}
use Rattle.faults.specs.declared.Branch.{Branch}
use Rattle.faults.specs.declared.Reason.{Reason}
use Rattle.faults.specs.Numbers.{fault, fault_in}
use Rattle.faults.specs.Outcomes.{check}
use Rattle.kinds.specs.Kind.{Kind, same_row}
use Rattle.seals.specs.Sealing.{Sealing}
use Rattle.theory.specs.Algebra.{ops_of}
use Rattle.theory.specs.Runs.{next, sum_of, at_outputs, targets, rerun}
use Rattle.theory.specs.Tests.{Verdict, both, first_at, unlike}
use Rattle.theory.specs.Verdict.{wrong_product}
use Rattle.verifier.specs.Shown.{Opened, Read, shown_of, outs_of}

module _ (K : Kind) (m : Read) where
  abbrev pub targets_met : Verdict
  targets_met = first_at (unlike (sum_of (ops_of K) (outs_of m.first)) (targets (ops_of K) m.circuit.outputs)) (λ i. fault Reason.MissedTarget i)

  -- the wires of a branch give its output shares
  abbrev pub gives_shares : Branch → (wires : List (List ℕ)) → Verdict
  gives_shares i ws = first_at (unlike (at_outputs (ops_of K) m.circuit.outputs ws) (outs_of m.first i)) (λ j. fault_in i Reason.WrongOutputShare j)

  -- what is checked by running the two branches
  abbrev pub runs_hold : Verdict
  runs_hold =
      let e = m.answer.branch in
      let A = m.answer.picked.parts in
      let B = m.answer.following.parts in
      both (gives_shares e (rerun (ops_of K) e m.circuit.gates A))
      (both (gives_shares (next e) (rerun (ops_of K) (next e) m.circuit.gates B))
      (first_at (wrong_product K e (next e) m.circuit.inputs m.circuit.gates A B) (λ w. fault_in e Reason.WrongProduct w)))

-- the view of a branch is sealed by its seal
abbrev pub sealed : Sealing → Read → Branch → Opened → Bool
sealed S m i v = same_row (S.seal v.bytes) (shown_of m.first i).seal

-- a seal that is right, and then
abbrev pub after_seal : Sealing → Read → Branch → Opened → Verdict → Verdict
after_seal S m i v r = check (sealed S m i v) (fault_in i Reason.WrongSeal 0) r

abbrev pub figure_holds : Kind → Sealing → Read → Verdict
figure_holds K S m =
    let e = m.answer.branch in
    both (targets_met K m) (after_seal S m e m.answer.picked (after_seal S m (next e) m.answer.following (runs_hold K m)))
