-- The verdict is acceptance just when the checks hold.
use Rattle.std.proofs.Common.{◌≡◌, ℕ, zero, suc, ◌+◌, ◌≤◌, true, List, length, get_or, Some, None, Ok, Option, Result, sym, refl, ap, ◌∙◌, arith, length-drop, length-take, ok_or}
use Rattle.std.proofs.lemmas.Bool.{eqb-true, eq-eqb, leb-true, le-leb}
use Rattle.std.specs.List.{AllByRecursion}
use Rattle.faults.specs.declared.Fault.{Fault}
use Rattle.faults.specs.Outcomes.{and_then}
use Rattle.faults.proofs.Passed.{check_ok, then_ok}
use Rattle.kinds.specs.Kind.{Kind, Lawful}
use Rattle.kinds.proofs.Same.{same_true}
use Rattle.locks.specs.Circuit.{Circuit}
use Rattle.locks.specs.Reading.{marked, lock_of}
use Rattle.seals.specs.Sealing.{Sealing}
use Rattle.theory.specs.Runs.{Branch, one, two, three, next, View}
use Rattle.theory.specs.Lawfulness.{ViewLawful}
use Rattle.theory.specs.Messages.{pick_byte, branch_of, view_of, length_of_view, length_of_first, length_of_answer, length_of_work, outs_in, seal_in, picked_view, next_view}
use Rattle.theory.specs.Tests.{Verdict, both}
use Rattle.theory.specs.Verdict.{picked, verify_sizes, view_formed, messages_right, verified, Passes, Accepted, VerdictLaw}
use Rattle.theory.proofs.Checked.{both_ok, both_fine, check_fine, first_none, none_first, group_ok, ok_group, same_bytes, unlike_same, same_unlike, products_right, right_products}
use Rattle.theory.proofs.Parts.{view_written, view_for, blind_long}

pub branch_pick : (e : Branch) → branch_of (pick_byte e) ≡ Some e
branch_pick one = refl
branch_pick two = refl
branch_pick three = refl

pub picked_byte : (e : Branch) → picked (pick_byte e) ≡ Ok e
picked_byte one = refl
picked_byte two = refl
picked_byte three = refl

pub pick_branch : (n : ℕ) (e : Branch) → branch_of n ≡ Some e → n ≡ pick_byte e
pick_branch zero e h = cc
pick_branch (suc zero) e h = cc
pick_branch (suc (suc zero)) e h = cc
pick_branch (suc (suc (suc zero))) e h = cc
pick_branch (suc (suc (suc (suc n)))) e h = cc

branch_ok : (o : Option Branch) (f : Fault) (e : Branch) → ok_or o f ≡ Ok e → o ≡ Some e
branch_ok None f e h = cc
branch_ok (Some b) f e h = cc

pub pick_ok : (n : ℕ) (e : Branch) → picked n ≡ Ok e → n ≡ pick_byte e
pick_ok n e h = pick_branch n e (branch_ok (branch_of n) _ e h)

module _ (K : Kind) (S : Sealing) (l : Circuit (List ℕ)) where
  -- what no fault 7 says
  pub record Sized (fm an work1 work2 : ℕ) : Type 0 where
    pub sealable : length_of_view K l ≤ S.longest
    pub first_size : fm ≡ length_of_first K l S.size
    pub answer_size : an ≡ length_of_answer K l
    pub work1_size : length_of_work K l ≤ work1
    pub work2_size : length_of_work K l ≤ work2

  pub sized : (fm an work1 work2 : ℕ) → verify_sizes K S l fm an work1 work2 ≡ Ok tt → Sized fm an work1 work2
  sized fm an work1 work2 h =
      let a = check_ok _ _ _ _ h in
      let b = check_ok _ _ _ _ a.1 in
      let c = check_ok _ _ _ _ b.1 in
      let d = check_ok _ _ _ _ c.1 in
      let e = check_ok _ _ _ _ d.1 in
      record {
        sealable = leb-true _ _ a.0;
        first_size = eqb-true _ _ b.0;
        answer_size = eqb-true _ _ c.0;
        work1_size = leb-true _ _ d.0;
        work2_size = leb-true _ _ e.0;
      }

  pub size_fine : {fm an work1 work2 : ℕ} → Sized fm an work1 work2 → verify_sizes K S l fm an work1 work2 ≡ Ok tt
  size_fine s =
      check_fine _ (le-leb _ _ s.sealable) (check_fine _ (eq-eqb _ _ s.first_size) (check_fine _ (eq-eqb _ _ s.answer_size)
      (check_fine _ (le-leb _ _ s.work1_size) (check_fine _ (le-leb _ _ s.work2_size) refl))))

  view_lawful : (at : ℕ) (A : View (List ℕ)) → view_formed K S l at A ≡ Ok tt → ViewLawful K A
  view_lawful at A h =
      let a = both_ok _ _ h in
      let b = both_ok _ _ a.1 in
      record {
        wires_lawful = group_ok K _ _ A.wires a.0;
        masks_lawful = group_ok K _ _ A.masks b.0;
        products_lawful = group_ok K _ _ A.products b.1;
      }

  lawful_view : (at : ℕ) (A : View (List ℕ)) → ViewLawful K A → view_formed K S l at A ≡ Ok tt
  lawful_view at A h = both_fine (ok_group K _ _ A.wires h.wires_lawful) (both_fine (ok_group K _ _ A.masks h.masks_lawful) (ok_group K _ _ A.products h.products_lawful))

  module _ (fm : List ℕ) (e : Branch) (an : List ℕ) where
    abbrev y : Branch → List (List ℕ)
    y = outs_in K l fm

    abbrev z : Branch → List ℕ
    z = seal_in K l S.size fm

    abbrev va : List ℕ
    va = picked_view K l an

    abbrev vb : List ℕ
    vb = next_view K l an

    -- what no fault 15 to 20 says
    pub record Fair : Type 0 where
      pub first_mark : marked 70 77 fm ≡ true
      pub outs_lawful : (i : Branch) → AllByRecursion (Lawful K) (outs_in K l fm i)
      pub answer_mark : marked 65 78 an ≡ true
      pub answer_pick : get_or an 2 0 ≡ pick_byte e
      pub passes : Passes K S l y z e (view_of K l va) (view_of K l vb)

    pub long_a : length an ≡ length_of_answer K l → length va ≡ length_of_view K l
    long_a h = simp (length-take, length-drop) (omega arith)

    pub long_b : length an ≡ length_of_answer K l → length vb ≡ length_of_view K l
    long_b h = simp (length-drop) (omega arith)

    pub fair : length an ≡ length_of_answer K l → messages_right K S l fm e an ≡ Ok tt → Fair
    fair size h =
        let la = long_a size in
        let lb = long_b size in
        let a = both_ok _ _ h in
        let b = check_ok _ _ _ _ a.0 in
        let b2 = both_ok _ _ b.1 in
        let b3 = both_ok _ _ b2.1 in
        let c = both_ok _ _ a.1 in
        let d = check_ok _ _ _ _ c.0 in
        let d2 = check_ok _ _ _ _ d.1 in
        let d3 = both_ok _ _ d2.1 in
        let f = both_ok _ _ c.1 in
        let f2 = check_ok _ _ _ _ f.1 in
        let f3 = check_ok _ _ _ _ f2.1 in
        let f4 = both_ok _ _ f3.1 in
        let f5 = both_ok _ _ f4.1 in
        record {
          first_mark = b.0;
          outs_lawful = each (group_ok K _ _ (y one) b2.0) (group_ok K _ _ (y two) b3.0) (group_ok K _ _ (y three) b3.1);
          answer_mark = d.0;
          answer_pick = eqb-true _ _ d2.0;
          passes = record {
            blind_a = blind_long K l va la;
            blind_b = blind_long K l vb lb;
            lawful_a = view_lawful 3 _ d3.0;
            lawful_b = view_lawful (3 + length_of_view K l) _ d3.1;
            accepts = record {
              size_a = view_for K l va;
              size_b = view_for K l vb;
              sums = unlike_same _ _ (first_none _ _ f.0);
              gives_a = unlike_same _ _ (first_none _ _ f4.0);
              gives_b = unlike_same _ _ (first_none _ _ f5.0);
              multiplies = products_right K e (next e) l.inputs l.gates (view_of K l va).1 (view_of K l vb).1 (view_for K l va).multiplied (first_none _ _ f5.1);
            };
            seal_a = ap S.seal (view_written K l va la) ∙ same_true _ _ f2.0;
            seal_b = ap S.seal (view_written K l vb lb) ∙ same_true _ _ f3.0;
          };
        }
      where
        each : AllByRecursion (Lawful K) (y one) → AllByRecursion (Lawful K) (y two) → AllByRecursion (Lawful K) (y three) → (i : Branch) → AllByRecursion (Lawful K) (outs_in K l fm i)
        each a b c one = a
        each a b c two = b
        each a b c three = c

    pub fair_fine : length an ≡ length_of_answer K l → Fair → messages_right K S l fm e an ≡ Ok tt
    fair_fine size F =
        let la = long_a size in
        let lb = long_b size in
        let p = F.passes in
        let q = p.accepts in
        both_fine
        (check_fine _ F.first_mark
        (both_fine (ok_group K _ _ (y one) (F.outs_lawful one)) (both_fine (ok_group K _ _ (y two) (F.outs_lawful two)) (ok_group K _ _ (y three) (F.outs_lawful three)))))
        (both_fine
        (check_fine _ F.answer_mark (check_fine _ (eq-eqb _ _ F.answer_pick) (both_fine (lawful_view 3 _ p.lawful_a) (lawful_view (3 + length_of_view K l) _ p.lawful_b))))
        (both_fine (none_first _ (same_unlike q.sums))
        (check_fine _ (same_bytes (ap S.seal (sym (view_written K l va la)) ∙ p.seal_a))
        (check_fine _ (same_bytes (ap S.seal (sym (view_written K l vb lb)) ∙ p.seal_b))
        (both_fine (none_first _ (same_unlike q.gives_a))
        (both_fine (none_first _ (same_unlike q.gives_b))
        (none_first _ (right_products K e (next e) l.inputs l.gates (view_of K l va).1 (view_of K l vb).1 (view_for K l va).multiplied q.multiplies))))))))

pub accepted : (K : Kind) (S : Sealing) (lock fm : List ℕ) (pick : ℕ) (an : List ℕ) (work1 work2 : ℕ)
    → verified K S lock fm pick an work1 work2 ≡ Ok tt → (e : Branch) × (pick ≡ pick_byte e) × ((l : Circuit (List ℕ)) × Accepted K S lock fm e an work1 work2 l)
accepted K S lock fm pick an work1 work2 h =
    let r = then_ok (lock_of K lock) _ tt h in
    let l = r.0 in
    let p = both_ok _ _ r.2 in
    let s = sized K S l (length fm) (length an) work1 work2 p.0 in
    let q = then_ok (picked pick) _ tt p.1 in
    let F = fair K S l fm q.0 an s.answer_size q.2 in (
      q.0,
      pick_ok pick q.0 q.1,
      (
        l,
        record {
          reads = r.1;
          sealable = s.sealable;
          first_size = s.first_size;
          answer_size = s.answer_size;
          work1_size = s.work1_size;
          work2_size = s.work2_size;
          first_mark = F.first_mark;
          outs_lawful = F.outs_lawful;
          answer_mark = F.answer_mark;
          answer_pick = F.answer_pick;
          passes = F.passes;
        },
      ),
    )

pub fair_of : {K : Kind} {S : Sealing} {lock fm : List ℕ} {e : Branch} {an : List ℕ} {work1 work2 : ℕ} {l : Circuit (List ℕ)} → Accepted K S lock fm e an work1 work2 l → Fair K S l fm e an
fair_of a = record { first_mark = a.first_mark; outs_lawful = a.outs_lawful; answer_mark = a.answer_mark; answer_pick = a.answer_pick; passes = a.passes }

pub accepts : (K : Kind) (S : Sealing) (lock fm : List ℕ) (pick : ℕ) (an : List ℕ) (work1 work2 : ℕ) (e : Branch) (l : Circuit (List ℕ)) → pick ≡ pick_byte e → Accepted K S lock fm e an work1 work2 l
    → verified K S lock fm pick an work1 work2 ≡ Ok tt
accepts K S lock fm pick an work1 work2 e l eb a =
    let on-lock : Result (Circuit (List ℕ)) Fault → Verdict = λ r. and_then r (λ l. both (verify_sizes K S l (length fm) (length an) work1 work2) (and_then (picked pick) (λ e. messages_right K S l fm e an))) in
    ap on-lock a.reads
    ∙ both_fine (size_fine K S l (record { sealable = a.sealable; first_size = a.first_size; answer_size = a.answer_size; work1_size = a.work1_size; work2_size = a.work2_size }))
    (ap (λ o. and_then o (λ e. messages_right K S l fm e an)) (ap picked eb ∙ picked_byte e) ∙ fair_fine K S l fm e an a.answer_size (fair_of a))

pub verdict_law : VerdictLaw
verdict_law K S lock fm pick an work1 work2 = (accepted K S lock fm pick an work1 work2, λ e l. accepts K S lock fm pick an work1 work2 e l)
