-- What was read from messages whose tests passed, and what fits.
use Rattle.std.proofs.Common.{◌≡◌, ℕ, ◌+◌, ◌*◌, ◌≤◌, true, List, length, drop, slice_index, Ok, Err, Result, sym, refl, ap, ◌∙◌, subst, arith, length-drop, length-take}
use Rattle.std.specs.Prelude.{◌==◌}
use Rattle.std.proofs.lemmas.List.{length-take-le}
use Rattle.faults.specs.declared.Branch.{Branch}
use Rattle.faults.specs.declared.Branch.TheVariants.{One as one, Two as two, Three as three}
use Rattle.faults.specs.declared.Fault.{Fault}
use Rattle.faults.specs.Outcomes.{map_ok}
use Rattle.faults.proofs.Passed.{err_ok, ok_same}
use Rattle.kinds.specs.Kind.{Kind}
use Rattle.locks.specs.Circuit.{Circuit}
use Rattle.seals.specs.Sealing.{Sealing}
use Rattle.locks.specs.Reading.{marked}
use Rattle.theory.specs.Messages.{behind, pick_byte, view_of, seal_at, seal_in, length_of_first, length_of_answer, length_of_view, picked_view, next_view}
use Rattle.theory.specs.Tests.{Verdict, both}
use Rattle.theory.specs.Verdict.{first_formed, view_formed, answer_formed, messages_right, figure_holds as figure}
use Rattle.theory.proofs.Checked.{both_fine, check_fine}
use Rattle.theory.proofs.Groups.{counted}
use Rattle.theory.proofs.Parts.{view_for}
use Rattle.verifier.specs.Checks.{figure_holds}
use Rattle.verifier.specs.Shown.{unsealed, Opened, First, Answered, shown_of, opened_in, first_in, answer_in, Fitting}

-- one part that was read, and what its test said
pub passed : {A : Type 0} (a b : A) (v : Verdict) → Ok a ≡ map_ok (λ _. b) v → (v ≡ Ok tt) × (a ≡ b)
passed a b (Ok x) h = (refl, ok_same h)
passed a b (Err f) h = err_ok (sym h)

-- of each branch, from the three
each : (P : Branch → Type 0) → P one → P two → P three → (i : Branch) → P i
each P a b c one = a
each P a b c two = b
each P a b c three = c

behind_room : (i : Branch) (d : ℕ) → behind i * d + d ≤ 3 * d
behind_room one d = omega arith
behind_room two d = omega arith
behind_room three d = omega arith

module _ (K : Kind) (l : Circuit (List ℕ)) where
  seal_long : (d : ℕ) (fm : List ℕ) → length fm ≡ length_of_first K l d → (i : Branch) → length (seal_in K l d fm i) ≡ d
  seal_long d fm size i = length-take-le d (drop (seal_at K l d i) fm) (simp length-drop (omega (arith, size, behind_room i d)))

  pub fitting : (S : Sealing) (fm : List ℕ) (e : Branch) (an : List ℕ) → length_of_view K l ≤ S.longest → length fm ≡ length_of_first K l S.size → length an ≡ length_of_answer K l
      → Fitting S l (first_in K l S.size fm) (answer_in K l e an)
  fitting S fm e an short first answer = record {
    counted = each (λ i. length (shown_of (first_in K l S.size fm) i).outs ≡ length l.outputs) (counted K (length l.outputs) _) (counted K (length l.outputs) _) (counted K (length l.outputs) _);
    sized = each (λ i. length (shown_of (first_in K l S.size fm) i).seal ≡ S.size) (seal_long S.size fm first one) (seal_long S.size fm first two) (seal_long S.size fm first three);
    picked_for = view_for K l (picked_view K l an);
    following_for = view_for K l (next_view K l an);
    picked_short = simp (length-take, length-drop) (omega (arith, short));
    following_short = simp length-drop (omega (arith, short, answer));
  }

  -- of what was read
  pub fits : (S : Sealing) (fm : List ℕ) (e : Branch) (an : List ℕ) (f : First) (a : Answered) (v w : Verdict)
      → length_of_view K l ≤ S.longest → length fm ≡ length_of_first K l S.size → length an ≡ length_of_answer K l
      → Ok f ≡ map_ok (λ _. first_in K l S.size fm) v → Ok a ≡ map_ok (λ _. answer_in K l e an) w → Fitting S l f a
  fits S fm e an f a v w short first answer h k =
      subst (λ (x : First). Fitting S l x a) (sym (passed f _ v h).1) (subst (λ (x : Answered). Fitting S l (first_in K l S.size fm) x) (sym (passed a _ w k).1) (fitting S fm e an short first answer))

  -- an answer of two views that were read, x and y
  pub answer_read : (e : Branch) (an x y : List ℕ) (at : ℕ) (p f : Opened) → x ≡ picked_view K l an → y ≡ next_view K l an → at ≡ 3 + length_of_view K l
      → marked 65 78 an ≡ true → slice_index an 2 == pick_byte e ≡ true
      → Ok p ≡ map_ok (λ _. opened_in K l x) (view_formed K unsealed l 3 (view_of K l x).1) → Ok f ≡ map_ok (λ _. opened_in K l y) (view_formed K unsealed l at (view_of K l y).1)
      → ◌≡◌ {A = Result Answered Fault} (Ok (record { branch = e; picked = p; following = f })) (map_ok (λ _. answer_in K l e an) (answer_formed K unsealed l e an))
  answer_read e an x y at p f is_x is_y is_at mark pick h k =
      let a = passed p (opened_in K l x) (view_formed K unsealed l 3 (view_of K l x).1) h in
      let b = passed f (opened_in K l y) (view_formed K unsealed l at (view_of K l y).1) k in
      let fine = both_fine ((λ t. view_formed K unsealed l 3 (view_of K l (sym is_x t)).1) ∙ a.0) ((λ t. view_formed K unsealed l (sym is_at t) (view_of K l (sym is_y t)).1) ∙ b.0) in
      (λ t. Ok (record { branch = e; picked = (a.1 ∙ ap (opened_in K l) is_x) t; following = (b.1 ∙ ap (opened_in K l) is_y) t }))
      ∙ ap (map_ok (λ _. answer_in K l e an)) (sym (check_fine _ mark (check_fine _ pick fine)))

  -- the checks of what was read are those of the messages
  figure_told : (S : Sealing) (fm : List ℕ) (e : Branch) (an : List ℕ) → figure_holds K S (record { circuit = l; first = first_in K l S.size fm; answer = answer_in K l e an }) ≡ figure K S l fm e an
  figure_told S fm one an = refl
  figure_told S fm two an = refl
  figure_told S fm three an = refl

  pub messages_told : (S : Sealing) (fm : List ℕ) (e : Branch) (an : List ℕ) (f : First) (a : Answered) (r : Verdict)
      → Ok f ≡ map_ok (λ _. first_in K l S.size fm) (first_formed K S l fm) → Ok a ≡ map_ok (λ _. answer_in K l e an) (answer_formed K S l e an)
      → r ≡ figure_holds K S (record { circuit = l; first = f; answer = a }) → messages_right K S l fm e an ≡ r
  messages_told S fm e an f a r h k is =
      let p = passed f (first_in K l S.size fm) (first_formed K S l fm) h in
      let q = passed a (answer_in K l e an) (answer_formed K S l e an) k in
      (λ t. both (p.0 t) (both (q.0 t) (figure K S l fm e an)))
      ∙ sym (is ∙ (λ t. figure_holds K S (record { circuit = l; first = p.1 t; answer = q.1 t })) ∙ figure_told S fm e an)
