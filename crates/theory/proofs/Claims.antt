-- What is proved of one round, before bytes, seals and histories.
use Rattle.std.proofs.Common.{◌≡◌, ℕ, ◌⊎◌, List, length}
use Rattle.std.specs.List.{AllByRecursion}
use Rattle.kinds.specs.Kind.{Kind, Laws, Lawful}
use Rattle.locks.specs.Circuit.{Circuit}
use Rattle.seals.specs.Sealing.{Sealing}
use Rattle.theory.specs.Algebra.{Ops, ops_of}
use Rattle.theory.specs.Runs.{Branch, next, View, sum_of, Fits}
use Rattle.theory.specs.Branches.{Tape, shares_on, masks_on, TapeFor, view, out_shares, Accepts}
use Rattle.theory.specs.Lawfulness.{CircuitLawful, ViewLawful, TapeLawful}
use Rattle.theory.specs.Messages.{Blinded, view_bytes}
use Rattle.theory.specs.Verdict.{Passes}

-- equal outside branch c
abbrev pub SameBut : {E : Type 0} → Branch → Tape E → Tape E → Type 0
SameBut c t u = (i : Branch) → (i ≡ c → ⊥) → (shares_on u i ≡ shares_on t i) × (masks_on u i ≡ masks_on t i)

module _ {E : Type 0} (O : Ops E) where
  -- u shows what t shows, at another key
  pub record Alike (l : Circuit E) (key : List E) (t : Tape E) (e : Branch) (key' : List E) (u : Tape E) : Type 0 where
    pub sized : TapeFor l u
    pub kept : SameBut (next (next e)) t u
    pub first : view O l key' u e ≡ view O l key t e
    pub second : view O l key' u (next e) ≡ view O l key t (next e)
    pub outs : (i : Branch) → out_shares O l key' u i ≡ out_shares O l key t i

  abbrev pub Sound : Type 0
  Sound = (l : Circuit E) (y : Branch → List E) (V : Branch → View E)
      → ((e : Branch) → Accepts O l y e (V e) (V (next e)))
      → Fits O l (sum_of O (λ i. (V i).wires))

  abbrev pub Complete : Type 0
  Complete = (l : Circuit E) (key : List E) (t : Tape E) → Fits O l key → TapeFor l t
      → (e : Branch) → Accepts O l (out_shares O l key t) e (view O l key t e) (view O l key t (next e))

  abbrev pub Hides : Type 0
  Hides = (l : Circuit E) (key : List E) (t : Tape E) (e : Branch) (key' : List E) → Fits O l key → TapeFor l t → Fits O l key'
      → (u : Tape E) × Alike l key t e key' u × ((u' : Tape E) → Alike l key t e key' u' → u' ≡ u)

module _ (K : Kind) where
  abbrev pub SoundOn : Type 0
  SoundOn = (l : Circuit (List ℕ)) → CircuitLawful K l → (y : Branch → List (List ℕ)) (V : Branch → View (List ℕ)) → ((i : Branch) → ViewLawful K (V i))
      → ((e : Branch) → Accepts (ops_of K) l y e (V e) (V (next e)))
      → Fits (ops_of K) l (sum_of (ops_of K) (λ i. (V i).wires)) × AllByRecursion (Lawful K) (sum_of (ops_of K) (λ i. (V i).wires))

  abbrev pub CompleteOn : Type 0
  CompleteOn = (l : Circuit (List ℕ)) → CircuitLawful K l → (key : List (List ℕ)) → AllByRecursion (Lawful K) key → (t : Tape (List ℕ)) → TapeLawful K t
      → Fits (ops_of K) l key → TapeFor l t
      → (e : Branch) → Accepts (ops_of K) l (out_shares (ops_of K) l key t) e (view (ops_of K) l key t e) (view (ops_of K) l key t (next e))
      × ViewLawful K (view (ops_of K) l key t e) × AllByRecursion (Lawful K) (out_shares (ops_of K) l key t e)

  abbrev pub HidesOn : Type 0
  HidesOn = (l : Circuit (List ℕ)) → CircuitLawful K l → (key : List (List ℕ)) → AllByRecursion (Lawful K) key → (t : Tape (List ℕ)) → TapeLawful K t
      → (e : Branch) (key' : List (List ℕ)) → AllByRecursion (Lawful K) key'
      → Fits (ops_of K) l key → TapeFor l t → Fits (ops_of K) l key'
      → (u : Tape (List ℕ)) × (TapeLawful K u × Alike (ops_of K) l key t e key' u)
      × ((u' : Tape (List ℕ)) → TapeLawful K u' → Alike (ops_of K) l key t e key' u' → u' ≡ u)

abbrev pub Extracts : Type 0
Extracts = (K : Kind) → Laws K → (S : Sealing) (l : Circuit (List ℕ)) → CircuitLawful K l
    → (y : Branch → List (List ℕ)) (z : Branch → List ℕ) (a b : Branch → Blinded)
    → ((e : Branch) → Passes K S l y z e (a e) (b e))
    → (Fits (ops_of K) l (sum_of (ops_of K) (λ i. (a i).1.wires)) × AllByRecursion (Lawful K) (sum_of (ops_of K) (λ i. (a i).1.wires)))
    ⊎ ((e : Branch) × (view_bytes K (b e) ≡ view_bytes K (a (next e)) → ⊥) × (S.seal (view_bytes K (b e)) ≡ S.seal (view_bytes K (a (next e)))))

abbrev pub AnswersPass : Type 0
AnswersPass = (K : Kind) → Laws K → (S : Sealing) (l : Circuit (List ℕ)) → CircuitLawful K l
    → (key : List (List ℕ)) → AllByRecursion (Lawful K) key → Fits (ops_of K) l key
    → (t : Tape (List ℕ)) → TapeLawful K t → TapeFor l t → (blind : Branch → List ℕ) → ((i : Branch) → length (blind i) ≡ 32)
    → (e : Branch)
    → Passes K S l (out_shares (ops_of K) l key t) (λ i. S.seal (view_bytes K (blind i, view (ops_of K) l key t i))) e
    (blind e, view (ops_of K) l key t e) (blind (next e), view (ops_of K) l key t (next e))
