-- One step of a walk over a lock's records, where so many are left.
use Rattle.std.proofs.Common.{◌≡◌, ℕ, suc, ◌<◌, true, List, ◌∷◌, length, is_ok as isOk, Ok, subst, sym, ap, ◌∙◌, arith}
use Rattle.kinds.specs.Kind.{Kind}
use Rattle.locks.specs.Circuit.{Gate, Output}
use Rattle.locks.specs.Reading.{gate_in, gate_size, output_in, output_size, gates_in, outputs_in}
use Rattle.locks.specs.Model.{Standing, behind}
use Rattle.branches.specs.Walks.{gates_at, outputs_at}
use Rattle.branches.proofs.Walked.{gate_walked, gate_first, others_walked, output_walked, output_first, other_outputs_walked}

-- n are left, one and m others
module _ (K : Kind) (n m : ℕ) (s : Standing) (e : n ≡ suc m) where
  module _ (walked : isOk (gates_in K n s.at s.rest) ≡ true) where
    some : isOk (gates_in K (suc m) s.at s.rest) ≡ true
    some = subst (λ (k : ℕ). isOk (gates_in K k s.at s.rest) ≡ true) e walked

    pub gate_next : isOk (gate_in K s.at s.rest) ≡ true
    gate_next = gate_walked K m s some

    module _ (g : Gate (List ℕ)) (is : gate_in K s.at s.rest ≡ Ok g) (t : Standing) (at : t ≡ behind (gate_size K g) s) where
      pub gates_walk_on : isOk (gates_in K m t.at t.rest) ≡ true
      gates_walk_on = subst (λ (t : Standing). isOk (gates_in K m t.at t.rest) ≡ true) (sym at) (others_walked K m s some g is)

      pub gates_step : gates_at K n s ≡ g ∷ gates_at K m t
      gates_step = ap (λ (k : ℕ). gates_at K k s) e ∙ gate_first K m s some g is ∙ ap (λ (t : Standing). g ∷ gates_at K m t) (sym at)

  module _ (walked : isOk (outputs_in K n s.at s.rest) ≡ true) where
    out_some : isOk (outputs_in K (suc m) s.at s.rest) ≡ true
    out_some = subst (λ (k : ℕ). isOk (outputs_in K k s.at s.rest) ≡ true) e walked

    pub output_next : isOk (output_in K s.at s.rest) ≡ true
    output_next = output_walked K m s out_some

    module _ (u : Output (List ℕ)) (is : output_in K s.at s.rest ≡ Ok u) (t : Standing) (at : t ≡ behind (output_size K) s) where
      pub outputs_walk_on : isOk (outputs_in K m t.at t.rest) ≡ true
      outputs_walk_on = subst (λ (t : Standing). isOk (outputs_in K m t.at t.rest) ≡ true) (sym at) (other_outputs_walked K m s out_some)

      pub outputs_step : outputs_at K n s ≡ u ∷ outputs_at K m t
      outputs_step = ap (λ (k : ℕ). outputs_at K k s) e ∙ output_first K m s out_some u is ∙ ap (λ (t : Standing). u ∷ outputs_at K m t) (sym at)

-- an iterator that shows what is left gave the first of it
pub shorter : {A : Type 0} (xs ys : List A) (x : A) → xs ≡ x ∷ ys → length ys < length xs
shorter xs ys x e = omega (arith, ap length e)
