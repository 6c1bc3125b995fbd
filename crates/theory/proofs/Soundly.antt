-- Soundness on bytes.
use Rattle.std.proofs.Common.{◌≡◌, ℕ, ◌<◌, Bool, true, false, eqb, leb, List, length, Some, None, Ok, Option, Result, sym, refl, ap, ◌∙◌, subst, ap₂, subst₂, inl, inr, arith}
use Rattle.std.proofs.lemmas.Bool.{eqb-false, eq-eqb, leb-false, le-leb}
use Rattle.std.specs.List.{AllByRecursion}
use Rattle.faults.specs.declared.Reason.{Reason}
use Rattle.faults.specs.Numbers.{fault}
use Rattle.faults.specs.Outcomes.{check, and_then}
use Rattle.kinds.specs.Kind.{Kind, Laws, Lawful}
use Rattle.locks.specs.Circuit.{Circuit}
use Rattle.locks.specs.Reading.{lock_of}
use Rattle.seals.specs.Sealing.{Sealing}
use Rattle.theory.specs.declared.Extracted.{Extracted}
use Rattle.theory.specs.declared.PickFault.{PickFault}
use Rattle.theory.specs.Algebra.{ops_of}
use Rattle.theory.specs.Runs.{Branch, one, two, three, next, Fits}
use Rattle.theory.specs.Groups.{group_bytes}
use Rattle.theory.specs.Messages.{pick_byte, view_of, length_of_key, length_of_view, length_of_first, length_of_answer, length_of_work, outs_in, seal_in, picked_view, next_view}
use Rattle.theory.specs.Tests.{Verdict, differ}
use Rattle.theory.specs.Verdict.{messages_right, verified, Accepted}
use Rattle.theory.specs.Extraction.{read_circuit, at_pick, or_collision, extract_sizes, copy, second_copy, key_from, compared, extracted, key_left, key_after}
use Rattle.theory.specs.Soundness.{KeyFits, SoundEnd, small_work1, small_work2, other_key, a_key, a_collision, Soundness}
use Rattle.theory.proofs.Checked.{differ_same, differ_first}
use Rattle.theory.proofs.Groups.{sized_as, read_whole}
use Rattle.theory.proofs.Parts.{view_written}
use Rattle.theory.proofs.Readings.{circuit_lawful}
use Rattle.theory.proofs.Verdicts.{accepted, fair_of, fair_fine, long_a, long_b}
use Rattle.theory.proofs.Extractor.{extracts}

pub same_pick : (e f : Branch) → pick_byte e ≡ pick_byte f → e ≡ f
same_pick one one h = refl
same_pick one two h = absurd (omega arith)
same_pick one three h = absurd (omega arith)
same_pick two one h = absurd (omega arith)
same_pick two two h = refl
same_pick two three h = absurd (omega arith)
same_pick three one h = absurd (omega arith)
same_pick three two h = absurd (omega arith)
same_pick three three h = refl

module _ (K : Kind) (laws : Laws K) (S : Sealing) (lock fm : List ℕ) (an : Branch → List ℕ) (w1 w2 : Branch → ℕ)
    (all : (e : Branch) → verified K S lock fm (pick_byte e) (an e) (w1 e) (w2 e) ≡ Ok tt) (work1 work2 : ℕ) (key : List ℕ)
    (l : Circuit (List ℕ)) (reads : lock_of K lock ≡ Ok l) where
  each : (e : Branch) → Accepted K S lock fm e (an e) (w1 e) (w2 e) l
  each e =
      let a = accepted K S lock fm (pick_byte e) (an e) (w1 e) (w2 e) (all e) in
      let pick : a.0 ≡ e = sym (same_pick e a.0 a.1) in
      let lock-is : a.2.0 ≡ l = cc (sym a.2.1.reads ∙ reads) in
      subst (λ x. Accepted K S lock fm e (an e) (w1 e) (w2 e) x) lock-is (subst (λ x. Accepted K S lock fm x (an e) (w1 e) (w2 e) a.2.0) pick a.2.1)

  fine : (e : Branch) → messages_right K S l fm e (an e) ≡ Ok tt
  fine e = fair_fine K S l fm e (an e) (each e).answer_size (fair_of (each e))

  size_of_picked : (e : Branch) → length (picked_view K l (an e)) ≡ length_of_view K l
  size_of_picked e = long_a K S l fm e (an e) (each e).answer_size

  size_of_next : (e : Branch) → length (next_view K l (an e)) ≡ length_of_view K l
  size_of_next e = long_b K S l fm e (an e) (each e).answer_size

  seal_a : (e : Branch) → S.seal (picked_view K l (an e)) ≡ seal_in K l S.size fm e
  seal_a e = ap S.seal (sym (view_written K l _ (size_of_picked e))) ∙ (each e).passes.seal_a

  seal_b : (e : Branch) → S.seal (next_view K l (an e)) ≡ seal_in K l S.size fm (next e)
  seal_b e = ap S.seal (sym (view_written K l _ (size_of_next e))) ∙ (each e).passes.seal_b

  abbrev End : Result Extracted PickFault → List ℕ → Type 0
  End = SoundEnd K S l an work1 work2 key

  abbrev found : List ℕ
  found = group_bytes K (key_from K S l an)

  the_key : ((e : Branch) → next_view K l (an e) ≡ picked_view K l (an (next e))) → KeyFits K l found
  the_key same =
      elim (extracts K laws S l (circuit_lawful K laws.most_width lock l reads) (outs_in K l fm) (seal_in K l S.size fm) (λ e. view_of K l (picked_view K l (an e))) (λ e. view_of K l (next_view K l (an e))) (λ e. (each e).passes)) [
        | inl h ↦ (
            let back = read_whole K laws l.inputs (key_from K S l an) h.1 h.0.size in
            record {
              size = sized_as K laws l.inputs (key_from K S l an) h.1 h.0.size;
              lawful = subst (AllByRecursion (Lawful K)) (sym back) h.1;
              fits = subst (Fits (ops_of K) l) (sym back) h.0;
            })
        | inr h ↦ absurd (h.1 (view_written K l _ (size_of_next h.0) ∙ same h.0 ∙ sym (view_written K l _ (size_of_picked (next h.0)))))
      ]

  lowest_one : (j : Branch) → pick_byte j < 1 → copy K S l an j ≡ second_copy K S l an j
  lowest_one one k = absurd (omega arith)
  lowest_one two k = absurd (omega arith)
  lowest_one three k = absurd (omega arith)

  lowest_two : copy K S l an one ≡ second_copy K S l an one → (j : Branch) → pick_byte j < 2 → copy K S l an j ≡ second_copy K S l an j
  lowest_two h one k = h
  lowest_two h two k = absurd (omega arith)
  lowest_two h three k = absurd (omega arith)

  lowest_three : copy K S l an one ≡ second_copy K S l an one → copy K S l an two ≡ second_copy K S l an two → (j : Branch) → pick_byte j < 3 → copy K S l an j ≡ second_copy K S l an j
  lowest_three h h' one k = h
  lowest_three h h' two k = h'
  lowest_three h h' three k = absurd (omega arith)

  on_copies : End (Ok (compared K S l an)) (key_left (Ok (compared K S l an)) found key)
  on_copies = go (differ (copy K S l an one) (second_copy K S l an one)) (differ (copy K S l an two) (second_copy K S l an two)) (differ (copy K S l an three) (second_copy K S l an three)) refl refl refl
    where
      go : (p q r : Option ℕ) → differ (copy K S l an one) (second_copy K S l an one) ≡ p → differ (copy K S l an two) (second_copy K S l an two) ≡ q → differ (copy K S l an three) (second_copy K S l an three) ≡ r
          → End (Ok (or_collision p one (or_collision q two (or_collision r three Extracted.Key)))) (key_left (Ok (or_collision p one (or_collision q two (or_collision r three Extracted.Key)))) found key)
      go (Some o) q r ep eq er = a_collision one o refl refl lowest_one (differ_first _ _ o (size_of_picked one ∙ sym (size_of_next three)) ep) (seal_a one ∙ sym (seal_b three))
      go None (Some o) r ep eq er = a_collision two o refl refl (lowest_two (differ_same _ _ ep)) (differ_first _ _ o (size_of_picked two ∙ sym (size_of_next one)) eq) (seal_a two ∙ sym (seal_b one))
      go None None (Some o) ep eq er = a_collision three o refl refl (lowest_three (differ_same _ _ ep) (differ_same _ _ eq)) (differ_first _ _ o (size_of_picked three ∙ sym (size_of_next two)) er) (seal_a three ∙ sym (seal_b two))
      go None None None ep eq er = a_key refl (the_key same)
        where
          same : (e : Branch) → next_view K l (an e) ≡ picked_view K l (an (next e))
          same one = sym (differ_same _ _ eq)
          same two = sym (differ_same _ _ er)
          same three = sym (differ_same _ _ ep)

  -- only the extractor's own buffers are left to refuse
  abbrev pub own_sizes : (b1 b2 b3 : Bool) → Verdict
  own_sizes b1 b2 b3 = check b1 (fault Reason.WrongSize 5) (check b2 (fault Reason.WrongSize 6) (check b3 (fault Reason.WrongSize 7) (Ok tt)))

  at_end : (b1 b2 b3 : Bool) → leb (length_of_work K l) work1 ≡ b1 → leb (length_of_work K l) work2 ≡ b2 → eqb (length key) (length_of_key K l) ≡ b3
      → End (and_then (at_pick None (own_sizes b1 b2 b3)) (λ _. Ok (compared K S l an))) (key_left (and_then (at_pick None (own_sizes b1 b2 b3)) (λ _. Ok (compared K S l an))) found key)
  at_end false b2 b3 e1 e2 e3 = small_work1 (leb-false _ _ e1) refl refl
  at_end true false b3 e1 e2 e3 = small_work2 (leb-false _ _ e2) refl refl
  at_end true true false e1 e2 e3 = other_key (eqb-false _ _ e3) refl refl
  at_end true true true e1 e2 e3 = on_copies

  sizes : extract_sizes K S l (length fm) (length (an one)) (length (an two)) (length (an three)) work1 work2 (length key)
      ≡ own_sizes (leb (length_of_work K l) work1) (leb (length_of_work K l) work2) (eqb (length key) (length_of_key K l))
  sizes =
      let p0 : leb (length_of_view K l) S.longest ≡ true = le-leb _ _ (each one).sealable in
      let p1 : eqb (length fm) (length_of_first K l S.size) ≡ true = eq-eqb _ _ (each one).first_size in
      let s : (e : Branch) → eqb (length (an e)) (length_of_answer K l) ≡ true = λ e. eq-eqb _ _ (each e).answer_size in
      λ i. check (p0 i) (fault Reason.WrongSize 0) (check (p1 i) (fault Reason.WrongSize 1) (check (s one i) (fault Reason.WrongSize 2) (check (s two i) (fault Reason.WrongSize 3) (check (s three i) (fault Reason.WrongSize 4)
      (own_sizes (leb (length_of_work K l) work1) (leb (length_of_work K l) work2) (eqb (length key) (length_of_key K l)))))))

  pub is : extracted K S lock fm an work1 work2 (length key)
      ≡ and_then (at_pick None (own_sizes (leb (length_of_work K l) work1) (leb (length_of_work K l) work2) (eqb (length key) (length_of_key K l)))) (λ _. Ok (compared K S l an))
  is =
      let tail : Circuit (List ℕ) → Result Extracted PickFault = λ l.
      and_then (at_pick None (extract_sizes K S l (length fm) (length (an one)) (length (an two)) (length (an three)) work1 work2 (length key))) (λ _.
      and_then (at_pick (Some one) (messages_right K S l fm one (an one))) (λ _. and_then (at_pick (Some two) (messages_right K S l fm two (an two))) (λ _. and_then (at_pick (Some three) (messages_right K S l fm three (an three))) (λ _. Ok (compared K S l an))))) in
      ap (λ r. and_then (at_pick None r) tail) reads
      ∙ (λ i. and_then (at_pick None (sizes i)) (λ _. and_then (at_pick (Some one) (fine one i)) (λ _. and_then (at_pick (Some two) (fine two i)) (λ _. and_then (at_pick (Some three) (fine three i)) (λ _. Ok (compared K S l an))))))

  reached : End (extracted K S lock fm an work1 work2 (length key)) (key_after K S lock fm an work1 work2 key)
  reached =
      subst₂ End (sym is) (sym (ap₂ (λ x c. key_left x (group_bytes K (key_from K S c an)) key) is (ap read_circuit reads)))
      (at_end _ _ _ refl refl refl)

pub soundness : Soundness
soundness K laws S lock fm an w1 w2 all work1 work2 key =
    let a = (accepted K S lock fm (pick_byte one) (an one) (w1 one) (w2 one) (all one)).2 in
    (a.0, a.1.reads, reached K laws S lock fm an w1 w2 all work1 work2 key a.0 a.1.reads)
