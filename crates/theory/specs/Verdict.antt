-- What verify answers, with all its faults in their order; and the same as a relation, Figure 6 of the ZKBoo paper.
use Rattle.std.specs.Prelude.{◌≡◌, ℕ, suc, ◌+◌, ◌≤◌, Bool, true, cond, List, [], ◌∷◌, length, Some, None, Ok, Option, ◌==◌, nat_le, slice_index, slice_index_or}
use Rattle.std.specs.List.{AllByRecursion}
use Rattle.faults.specs.declared.Reason.{Reason}
use Rattle.faults.specs.Numbers.{fault, fault_in}
use Rattle.faults.specs.Outcomes.{check, and_then}
use Rattle.kinds.specs.Kind.{Kind, Lawful, same_row}
use Rattle.locks.specs.Circuit.{Gate, ac, mc, ad, mu, Circuit}
use Rattle.locks.specs.Reading.{marked, lock_of}
use Rattle.seals.specs.Sealing.{Sealing}
use Rattle.theory.specs.Algebra.{ops_of}
use Rattle.theory.specs.Runs.{Branch, one, two, three, next, View, head, sum_of, at_outputs, targets, right, step, rerun}
use Rattle.theory.specs.Branches.{Accepts}
use Rattle.theory.specs.Lawfulness.{ViewLawful}
use Rattle.theory.specs.Messages.{pick_byte, Blinded, view_bytes, view_of, length_of_view, length_of_first, length_of_answer, length_of_work, shares_at, masks_at, products_at, outs_at, outs_in, seal_in, picked_view, next_view}
use Rattle.theory.specs.Tests.{Verdict, both, first_at, lawful_at, unlike}
pub use Rattle.faults.specs.Branches.{picked}

-- is p the product that the gate asks for? Gates without one ask for nothing
abbrev pub is_right : Kind → Gate (List ℕ) → (A B : View (List ℕ)) → Bool
is_right K (ac a c) A B = true
is_right K (mc a c) A B = true
is_right K (ad a b) A B = true
is_right K (mu a b) A B = same_row (head (ops_of K) A.products) (right (ops_of K) (mu a b) A.wires A.masks B.wires B.masks)

-- the first wire whose product in view A of branch i is wrong, with view B of the branch n after it; the first gate writes wire `own`
abbrev pub wrong_product : Kind → (i n : Branch) (own : ℕ) → List (Gate (List ℕ)) → (A B : View (List ℕ)) → Option ℕ
wrong_product K i n own [] A B = None
wrong_product K i n own (g ∷ gs) A B =
    cond (is_right K g A B) (wrong_product K i n (suc own) gs (step (ops_of K) i g A) (step (ops_of K) n g B)) (Some own)

module _ (K : Kind) (S : Sealing) (l : Circuit (List ℕ)) where
  -- the view within the sealer's longest message, and the buffers' sizes
  abbrev pub verify_sizes : (first answer work1 work2 : ℕ) → Verdict
  verify_sizes first answer work1 work2 =
      check (nat_le (length_of_view K l) S.longest) (fault Reason.WrongSize 0)
      (check (first == length_of_first K l S.size) (fault Reason.WrongSize 1)
      (check (answer == length_of_answer K l) (fault Reason.WrongSize 2)
      (check (nat_le (length_of_work K l) work1) (fault Reason.WrongSize 3)
      (check (nat_le (length_of_work K l) work2) (fault Reason.WrongSize 4) (Ok tt)))))

  -- the mark, then the elements of branches 1, 2, 3
  abbrev pub first_formed : (fm : List ℕ) → Verdict
  first_formed fm =
      check (marked 70 77 fm) (fault Reason.MalformedFirstMessage 0)
      (both (lawful_at K Reason.MalformedFirstMessage (outs_at K l one) (outs_in K l fm one))
      (both (lawful_at K Reason.MalformedFirstMessage (outs_at K l two) (outs_in K l fm two))
      (lawful_at K Reason.MalformedFirstMessage (outs_at K l three) (outs_in K l fm three))))

  -- the elements of a view that begins at an offset of the answer
  abbrev pub view_formed : (at : ℕ) → View (List ℕ) → Verdict
  view_formed at A =
      both (lawful_at K Reason.MalformedAnswer (at + shares_at K l) A.wires)
      (both (lawful_at K Reason.MalformedAnswer (at + masks_at K l) A.masks)
      (lawful_at K Reason.MalformedAnswer (at + products_at K l) A.products))

  -- the mark, the pick, then the elements of both views
  abbrev pub answer_formed : Branch → (an : List ℕ) → Verdict
  answer_formed e an =
      check (marked 65 78 an) (fault Reason.MalformedAnswer 0)
      (check (slice_index an 2 == pick_byte e) (fault Reason.MalformedAnswer 2)
      (both (view_formed 3 (view_of K l (picked_view K l an)).1)
      (view_formed (3 + length_of_view K l) (view_of K l (next_view K l an)).1)))

  -- output shares and targets, seals, reruns, products; of the views the picked one first
  abbrev pub figure_holds : (fm : List ℕ) → Branch → (an : List ℕ) → Verdict
  figure_holds fm e an =
      let y : Branch → List (List ℕ) = outs_in K l fm in
      let A : View (List ℕ) = (view_of K l (picked_view K l an)).1 in
      let B : View (List ℕ) = (view_of K l (next_view K l an)).1 in
      both (first_at (unlike (sum_of (ops_of K) y) (targets (ops_of K) l.outputs)) (λ i. fault Reason.MissedTarget i))
      (check (same_row (S.seal (picked_view K l an)) (seal_in K l S.size fm e)) (fault_in e Reason.WrongSeal 0)
      (check (same_row (S.seal (next_view K l an)) (seal_in K l S.size fm (next e))) (fault_in (next e) Reason.WrongSeal 0)
      (both (first_at (unlike (at_outputs (ops_of K) l.outputs (rerun (ops_of K) e l.gates A)) (y e)) (λ i. fault_in e Reason.WrongOutputShare i))
      (both (first_at (unlike (at_outputs (ops_of K) l.outputs (rerun (ops_of K) (next e) l.gates B)) (y (next e))) (λ i. fault_in (next e) Reason.WrongOutputShare i))
      (first_at (wrong_product K e (next e) l.inputs l.gates A B) (λ w. fault_in e Reason.WrongProduct w))))))

  -- all of it, of the messages alone
  abbrev pub messages_right : (fm : List ℕ) → Branch → (an : List ℕ) → Verdict
  messages_right fm e an = both (first_formed fm) (both (answer_formed e an) (figure_holds fm e an))

-- the verdict on a first message and an answer to a pick; `work1` and `work2` are the lengths of the work slices
abbrev pub verified : Kind → Sealing → (lock fm : List ℕ) (pick : ℕ) (an : List ℕ) (work1 work2 : ℕ) → Verdict
verified K S lock fm pick an work1 work2 =
    and_then (lock_of K lock) (λ l.
    both (verify_sizes K S l (length fm) (length an) work1 work2)
    (and_then (picked pick) (λ e. messages_right K S l fm e an)))

-- Figure 6, the checks with the seals: of output shares y and seals z, the views a and b of branch e and of the one after it
pub record Passes (K : Kind) (S : Sealing) (l : Circuit (List ℕ)) (y : Branch → List (List ℕ)) (z : Branch → List ℕ) (e : Branch) (a b : Blinded) : Type 0 where
  pub blind_a : length a.0 ≡ 32
  pub blind_b : length b.0 ≡ 32
  pub lawful_a : ViewLawful K a.1
  pub lawful_b : ViewLawful K b.1
  pub accepts : Accepts (ops_of K) l y e a.1 b.1
  pub seal_a : S.seal (view_bytes K a) ≡ z e
  pub seal_b : S.seal (view_bytes K b) ≡ z (next e)

-- the messages are well-formed and the checks of Figure 6 hold of what they say
pub record Accepted (K : Kind) (S : Sealing) (lock fm : List ℕ) (e : Branch) (an : List ℕ) (work1 work2 : ℕ) (l : Circuit (List ℕ)) : Type 0 where
  pub reads : lock_of K lock ≡ Ok l
  pub sealable : length_of_view K l ≤ S.longest
  pub first_size : length fm ≡ length_of_first K l S.size
  pub answer_size : length an ≡ length_of_answer K l
  pub work1_size : length_of_work K l ≤ work1
  pub work2_size : length_of_work K l ≤ work2
  pub first_mark : marked 70 77 fm ≡ true
  pub outs_lawful : (i : Branch) → AllByRecursion (Lawful K) (outs_in K l fm i)
  pub answer_mark : marked 65 78 an ≡ true
  pub answer_pick : slice_index_or an 2 0 ≡ pick_byte e
  pub passes : Passes K S l (outs_in K l fm) (seal_in K l S.size fm) e (view_of K l (picked_view K l an)) (view_of K l (next_view K l an))

-- verify accepts exactly when they are and do, for each pick
abbrev pub VerdictLaw : Type 0
VerdictLaw = (K : Kind) (S : Sealing) (lock fm : List ℕ) (pick : ℕ) (an : List ℕ) (work1 work2 : ℕ)
    → (verified K S lock fm pick an work1 work2 ≡ Ok tt → (e : Branch) × (pick ≡ pick_byte e) × ((l : Circuit (List ℕ)) × Accepted K S lock fm e an work1 work2 l))
    × ((e : Branch) (l : Circuit (List ℕ)) → pick ≡ pick_byte e → Accepted K S lock fm e an work1 work2 l → verified K S lock fm pick an work1 work2 ≡ Ok tt)
