-- Two branches run together, a gate at a time: what is left gives the whole.
use Rattle.std.proofs.Common.{◌≡◌, ℕ, ◌+◌, List, length, Ok, Err, Option, sym, ap, ◌∙◌}
use Rattle.std.specs.Option.{option_or}
use Rattle.faults.specs.declared.Branch.{Branch}
use Rattle.faults.specs.declared.Fault.{Fault}
use Rattle.faults.specs.declared.Reason.{Reason}
use Rattle.faults.specs.Numbers.{fault_in}
use Rattle.kinds.specs.Kind.{Kind}
use Rattle.locks.specs.Circuit.{Gate, Circuit}
use Rattle.locks.specs.Encoding.{GatesFor}
use Rattle.theory.specs.Algebra.{ops_of}
use Rattle.theory.specs.Runs.{next, rerun}
use Rattle.theory.specs.Tests.{Verdict, both, first_at}
use Rattle.theory.specs.Verdict.{wrong_product}
use Rattle.verifier.specs.Shown.{Read}
use Rattle.verifier.specs.Checks.{gives_shares, runs_hold}
use Rattle.verifier.specs.Running.{Running}

-- one branch on its way from where it started, with the gates gs left of all
pub record On (K : Kind) (l : Circuit (List ℕ)) (start : Running) (gs : List (Gate (List ℕ))) (r : Running) : Type 0 where
  pub branch : r.branch ≡ start.branch
  pub room : length r.view.wires + length gs ≡ r.most
  pub whole : l.inputs + length l.gates ≡ r.most
  pub runs : rerun (ops_of K) start.branch gs r.view ≡ rerun (ops_of K) start.branch l.gates start.view

-- two, and the first wrong wire
pub record Both (K : Kind) (l : Circuit (List ℕ)) (a b : Running) (gs : List (Gate (List ℕ))) (r s : Running) (wrong : Option ℕ) : Type 0 where
  pub fit : GatesFor K (length r.view.wires) gs
  pub first : On K l a gs r
  pub second : On K l b gs s
  pub told : option_or wrong (wrong_product K a.branch b.branch (length r.view.wires) gs r.view s.view) ≡ wrong_product K a.branch b.branch l.inputs l.gates a.view b.view

-- two tests and a third
module _ (a b r : Verdict) where
  pub second_fails : (x : Fault) → a ≡ Ok tt → b ≡ Err x → both a (both b r) ≡ Err x
  second_fails x h k = λ t. both (h t) (both (k t) r)

  pub third_left : a ≡ Ok tt → b ≡ Ok tt → both a (both b r) ≡ r
  third_left h k = λ t. both (h t) (both (k t) r)

-- what the runs tell: s and t in front of the gates, a and b behind them
module _ (K : Kind) (m : Read) (l : Circuit (List ℕ)) (i : Branch) (s t a b : Running) (w : Option ℕ)
    (is_l : l ≡ m.circuit) (is_i : i ≡ m.answer.branch) (s_branch : s.branch ≡ i) (t_branch : t.branch ≡ next i)
    (s_view : s.view ≡ m.answer.picked.parts) (t_view : t.view ≡ m.answer.following.parts)
    (a_branch : a.branch ≡ s.branch) (b_branch : b.branch ≡ t.branch)
    (a_runs : a.view.wires ≡ rerun (ops_of K) s.branch l.gates s.view) (b_runs : b.view.wires ≡ rerun (ops_of K) t.branch l.gates t.view)
    (told : w ≡ wrong_product K s.branch t.branch l.inputs l.gates s.view t.view) where
  s_is : s.branch ≡ m.answer.branch
  s_is = s_branch ∙ is_i

  t_is : t.branch ≡ next m.answer.branch
  t_is = t_branch ∙ ap next is_i

  pub runs_told : runs_hold K m ≡ both (gives_shares K m a.branch a.view.wires) (both (gives_shares K m b.branch b.view.wires) (first_at w (λ x. fault_in i Reason.WrongProduct x)))
  runs_told = sym (λ x. both
      (gives_shares K m ((a_branch ∙ s_is) x) ((a_runs ∙ (λ y. rerun (ops_of K) (s_is y) (is_l y).gates (s_view y))) x))
      (both (gives_shares K m ((b_branch ∙ t_is) x) ((b_runs ∙ (λ y. rerun (ops_of K) (t_is y) (is_l y).gates (t_view y))) x))
      (first_at ((told ∙ (λ y. wrong_product K (s_is y) (t_is y) (is_l y).inputs (is_l y).gates (s_view y) (t_view y))) x) (λ z. fault_in (is_i x) Reason.WrongProduct z))))
