-- A circuit that was read is lawful.
use Rattle.std.proofs.Common.{◌≡◌, ℕ, suc, ◌≤◌, List, [], ◌∷◌, Ok}
use Rattle.std.specs.List.{AllByRecursion}
use Rattle.kinds.specs.Kind.{Kind, Lawful}
use Rattle.locks.specs.Circuit.{Gate, ac, mc, ad, mu, Output, Circuit}
use Rattle.locks.specs.Reading.{lock_of}
use Rattle.locks.specs.Encoding.{GatesFor, OutputFor, WellFormed}
use Rattle.locks.proofs.Spelled.{lock_well_formed}
use Rattle.theory.specs.Lawfulness.{GateLawful, CircuitLawful}

constants_lawful : (K : Kind) (own : ℕ) (gs : List (Gate (List ℕ))) → GatesFor K own gs → AllByRecursion (GateLawful K) gs
constants_lawful K own [] f = tt
constants_lawful K own (ac a c ∷ gs) f = (f.0.1, constants_lawful K (suc own) gs f.1)
constants_lawful K own (mc a c ∷ gs) f = (f.0.1, constants_lawful K (suc own) gs f.1)
constants_lawful K own (ad a b ∷ gs) f = (tt, constants_lawful K (suc own) gs f.1)
constants_lawful K own (mu a b ∷ gs) f = (tt, constants_lawful K (suc own) gs f.1)

aims_lawful : (K : Kind) (wires : ℕ) (us : List (Output (List ℕ))) → AllByRecursion (OutputFor K wires) us → AllByRecursion (λ u. Lawful K u.target) us
aims_lawful K wires [] f = tt
aims_lawful K wires (u ∷ us) f = (f.0.1, aims_lawful K wires us f.1)

pub circuit_lawful : (K : Kind) → K.width ≤ 16 → (bs : List ℕ) (l : Circuit (List ℕ)) → lock_of K bs ≡ Ok l → CircuitLawful K l
circuit_lawful K narrow bs l h =
    let w : WellFormed K l = lock_well_formed K narrow bs l h in
    record { constants = constants_lawful K l.inputs l.gates w.gates_for; aims = aims_lawful K _ l.outputs w.outputs_for }
