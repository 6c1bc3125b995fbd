-- The extractor's two ways.
use Rattle.std.proofs.Common.{◌≡◌, ◌⊎◌, sym, refl, ◌∙◌, subst, inl, inr}
use mathlib.Core.List.{List-discrete}
use native.Mathlib.Decide.{ℕ_discrete}
use Rattle.std.specs.List.{AllByRecursion}
use Rattle.kinds.specs.Kind.{Lawful}
use Rattle.theory.specs.Algebra.{ops_of}
use Rattle.theory.specs.Runs.{Branch, one, two, three, next, sum_of, Fits}
use Rattle.theory.specs.Branches.{Accepts}
use Rattle.theory.specs.Messages.{view_bytes}
use Rattle.theory.proofs.Claims.{Extracts, AnswersPass}
use Rattle.theory.proofs.Lifted.{sound_on, complete_on}
use Rattle.theory.proofs.Parts.{same_views}

pub extracts : Extracts
extracts K laws S l lok y z a b pass = go (same one) (same two) (same three)
  where
    Goal : Type 0
    Goal = (Fits (ops_of K) l (sum_of (ops_of K) (λ i. (a i).1.wires)) × AllByRecursion (Lawful K) (sum_of (ops_of K) (λ i. (a i).1.wires)))
        ⊎ ((e : Branch) × (view_bytes K (b e) ≡ view_bytes K (a (next e)) → ⊥) × (S.seal (view_bytes K (b e)) ≡ S.seal (view_bytes K (a (next e)))))

    same : (e : Branch) → Dec (view_bytes K (b e) ≡ view_bytes K (a (next e)))
    same e = List-discrete ℕ_discrete (view_bytes K (b e)) (view_bytes K (a (next e)))

    unlike : (e : Branch) → (view_bytes K (b e) ≡ view_bytes K (a (next e)) → ⊥) → Goal
    unlike e n = inr (e, n, (pass e).seal_b ∙ sym (pass (next e)).seal_a)

    copy : (e : Branch) → view_bytes K (b e) ≡ view_bytes K (a (next e)) → b e ≡ a (next e)
    copy e h = same_views K l laws (b e) (a (next e)) (pass e).blind_b (pass (next e)).blind_a (pass e).accepts.size_b (pass (next e)).accepts.size_a (pass e).lawful_b (pass (next e)).lawful_a h

    key : ((e : Branch) → b e ≡ a (next e)) → Goal
    key h = inl (sound_on laws l lok y (λ i. (a i).1) (λ i. (pass i).lawful_a) (λ e. subst (λ w. Accepts (ops_of K) l y e (a e).1 w.1) (h e) (pass e).accepts))

    all : b one ≡ a two → b two ≡ a three → b three ≡ a one → (e : Branch) → b e ≡ a (next e)
    all p q r one = p
    all p q r two = q
    all p q r three = r

    go : Dec (view_bytes K (b one) ≡ view_bytes K (a two)) → Dec (view_bytes K (b two) ≡ view_bytes K (a three)) → Dec (view_bytes K (b three) ≡ view_bytes K (a one)) → Goal
    go (no n) q r = unlike one n
    go (yes p) (no n) r = unlike two n
    go (yes p) (yes q) (no n) = unlike three n
    go (yes p) (yes q) (yes r) = key (all (copy one p) (copy two q) (copy three r))

pub answers_pass : AnswersPass
answers_pass K laws S l lok key kok fits t tok sized blind long e =
    let c = complete_on laws l lok key kok t tok fits sized in
    record {
      blind_a = long e;
      blind_b = long (next e);
      lawful_a = (c e).1;
      lawful_b = (c (next e)).1;
      accepts = (c e).0;
      seal_a = refl;
      seal_b = refl;
    }
