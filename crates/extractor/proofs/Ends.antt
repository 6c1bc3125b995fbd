-- How an extraction ends, by the first test that fails.
use Rattle.std.proofs.Common.{◌≡◌, ℕ, List, length, Ok, Err, Option, None, Some, Result, sym, refl, ap, ◌∙◌, subst}
use Rattle.faults.specs.declared.Branch.{Branch}
use Rattle.faults.specs.declared.Branch.TheVariants.{One as one, Two as two, Three as three}
use Rattle.faults.specs.declared.Fault.{Fault}
use Rattle.faults.specs.Outcomes.{and_then, map_ok}
use Rattle.kinds.specs.Kind.{Kind}
use Rattle.kinds.specs.Groups.{group_length}
use Rattle.locks.specs.Circuit.{Circuit}
use Rattle.locks.specs.Reading.{lock_of}
use Rattle.seals.specs.Sealing.{Sealing}
use Rattle.theory.specs.declared.Extracted.{Extracted}
use Rattle.theory.specs.declared.PickFault.{PickFault}
use Rattle.theory.specs.Extraction.{at_pick, extract_sizes, compared, key_from, key_left, key_after, extracted, read_circuit}
use Rattle.theory.specs.Groups.{group_bytes}
use Rattle.theory.specs.Messages.{length_of_key, length_of_answer, picked_view}
use Rattle.theory.specs.Tests.{Verdict}
use Rattle.theory.specs.Verdict.{messages_right}
use Rattle.theory.proofs.Parts.{view_for}
use Rattle.theory.proofs.Verdicts.{long_a, long_b}
use Rattle.verifier.specs.Shown.{Answered, answer_in}
use Rattle.extractor.specs.Accepted.{Three, three_in, Alike, key_in, key_written, compared as told}

-- what was made of a pick that passed, and of one that did not
pub taken : {A : Type 0} (e : Option Branch) (a b : A) (v : Verdict) → ◌≡◌ {A = Result A PickFault} (Ok a) (at_pick e (map_ok (λ _. b) v)) → (v ≡ Ok tt) × (a ≡ b)
taken e a b (Ok u) h = (refl, cc)
taken e a b (Err f) h = (cc, cc)

pub refused : {A : Type 0} (e : Option Branch) (b : A) (v : Verdict) (p : PickFault) → ◌≡◌ {A = Result A PickFault} (Err p) (at_pick e (map_ok (λ _. b) v)) → at_pick e v ≡ Err p
refused e b (Ok u) p h = cc
refused e b (Err f) p h = cc

was_read : (r : Result (Circuit (List ℕ)) Fault) (l : Circuit (List ℕ)) → Ok l ≡ at_pick None r → r ≡ Ok l
was_read (Ok m) l h = cc
was_read (Err f) l h = cc

module _ (K : Kind) (S : Sealing) (lock fm : List ℕ) (an : Branch → List ℕ) (work1 work2 : ℕ) (key : List ℕ) where
  abbrev whole : Result Extracted PickFault
  whole = extracted K S lock fm an work1 work2 (length key)

  -- a refusal leaves the key buffer
  pub key_stays : (p : PickFault) → whole ≡ Err p → key ≡ key_after K S lock fm an work1 work2 key
  key_stays p h = sym (ap (λ r. key_left r (group_bytes K (key_from K S (read_circuit (lock_of K lock)) an)) key) h)

  module _ (l : Circuit (List ℕ)) (read : Ok l ≡ at_pick None (lock_of K lock))
      (sized : Ok tt ≡ at_pick None (extract_sizes K S l (length fm) (length (an one)) (length (an two)) (length (an three)) work1 work2 (length key))) where
    abbrev taking : (i : Branch) → Result Extracted PickFault → Result Extracted PickFault
    taking i r = and_then (at_pick (Some i) (messages_right K S l fm i (an i))) (λ _. r)

    answers : whole ≡ taking one (taking two (taking three (Ok (compared K S l an))))
    answers =
        sym (λ t. and_then (read t) (λ m. and_then (at_pick None (extract_sizes K S m (length fm) (length (an one)) (length (an two)) (length (an three)) work1 work2 (length key))) (λ _.
        and_then (at_pick (Some one) (messages_right K S m fm one (an one))) (λ _. and_then (at_pick (Some two) (messages_right K S m fm two (an two))) (λ _. and_then (at_pick (Some three) (messages_right K S m fm three (an three))) (λ _. Ok (compared K S m an)))))))
        ∙ sym (λ t. and_then (sized t) (λ _. taking one (taking two (taking three (Ok (compared K S l an))))))

    goes : (i : Branch) (r : Result Extracted PickFault) → messages_right K S l fm i (an i) ≡ Ok tt → taking i r ≡ r
    goes i r h = ap (λ v. and_then (at_pick (Some i) v) (λ _. r)) h

    stops : (i : Branch) (r : Result Extracted PickFault) (p : PickFault) → at_pick (Some i) (messages_right K S l fm i (an i)) ≡ Err p → taking i r ≡ Err p
    stops i r p h = ap (λ v. and_then v (λ _. r)) h

    pub one_refused : (p : PickFault) → at_pick (Some one) (messages_right K S l fm one (an one)) ≡ Err p → whole ≡ Err p
    one_refused p h = answers ∙ stops one _ p h

    pub two_refused : (p : PickFault) → messages_right K S l fm one (an one) ≡ Ok tt → at_pick (Some two) (messages_right K S l fm two (an two)) ≡ Err p → whole ≡ Err p
    two_refused p a h = answers ∙ goes one _ a ∙ stops two _ p h

    pub three_refused : (p : PickFault) → messages_right K S l fm one (an one) ≡ Ok tt → messages_right K S l fm two (an two) ≡ Ok tt
        → at_pick (Some three) (messages_right K S l fm three (an three)) ≡ Err p → whole ≡ Err p
    three_refused p a b h = answers ∙ goes one _ a ∙ goes two _ b ∙ stops three _ p h

    -- three answers that were taken
    module _ (a b c : Answered) (is_a : (messages_right K S l fm one (an one) ≡ Ok tt) × (a ≡ answer_in K l one (an one)))
        (is_b : (messages_right K S l fm two (an two) ≡ Ok tt) × (b ≡ answer_in K l two (an two)))
        (is_c : (messages_right K S l fm three (an three) ≡ Ok tt) × (c ≡ answer_in K l three (an three))) where
      abbrev seen : Three
      seen = record { one_answer = a; two_answer = b; three_answer = c }

      are : seen ≡ three_in K l an
      are = λ t. record { one_answer = is_a.1 t; two_answer = is_b.1 t; three_answer = is_c.1 t }

      all_taken : whole ≡ Ok (compared K S l an)
      all_taken = answers ∙ goes one _ is_a.0 ∙ goes two _ is_b.0 ∙ goes three _ is_c.0

      pub given : (x : Extracted) → x ≡ told seen → Ok x ≡ whole
      given x h = ap Ok (h ∙ ap told are) ∙ sym all_taken

      written : (x : Extracted) → key_written x (group_bytes K (key_from K S l an)) key ≡ key_left (Ok x) (group_bytes K (key_from K S l an)) key
      written Extracted.Key = refl
      written (Extracted.Collision i o) = refl

      pub key_given : (x : Extracted) → x ≡ told seen → key_written x (group_bytes K (key_in K seen)) key ≡ key_after K S lock fm an work1 work2 key
      key_given x h =
          ap (λ (s : Three). key_written x (group_bytes K (key_in K s)) key) are
          ∙ written x
          ∙ ap (λ r. key_left (Ok x) (group_bytes K (key_from K S (read_circuit r) an)) key) (sym (was_read (lock_of K lock) l read))
          ∙ ap (λ r. key_left r (group_bytes K (key_from K S (read_circuit (lock_of K lock)) an)) key) (given x h)

      pub alike : length (an one) ≡ length_of_answer K l → length (an two) ≡ length_of_answer K l → length (an three) ≡ length_of_answer K l → Alike a b c
      alike x y z =
          subst (λ (s : Three). Alike s.one_answer s.two_answer s.three_answer) (sym are) (record {
            one_long = long_a K S l fm one (an one) x ∙ sym (long_b K S l fm three (an three) z);
            two_long = long_a K S l fm two (an two) y ∙ sym (long_b K S l fm one (an one) x);
            three_long = long_a K S l fm three (an three) z ∙ sym (long_b K S l fm two (an two) y);
            two_shared = (view_for K l (picked_view K l (an two))).shared ∙ sym (view_for K l (picked_view K l (an one))).shared;
            three_shared = (view_for K l (picked_view K l (an three))).shared ∙ sym (view_for K l (picked_view K l (an one))).shared;
          })

      pub key_room : length key ≡ length_of_key K l → length key ≡ group_length K (length a.picked.parts.wires)
      key_room h = h ∙ ap (group_length K) (sym (view_for K l (picked_view K l (an one))).shared) ∙ ap (λ (s : Answered). group_length K (length s.picked.parts.wires)) (sym is_a.1)
