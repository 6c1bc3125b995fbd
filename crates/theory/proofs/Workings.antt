-- The worked example over any sealer.
use Rattle.std.proofs.Common.{◌≡◌, ℕ, ◌+◌, ◌-◌, ◌*◌, ◌^◌, ◌<◌, ◌≤◌, Bool, true, false, eqb, List, [], ◌∷◌, length, take, replicate, Some, None, Ok, Err, Result, sym, refl, ap, ◌∙◌, subst, arith}
use Rattle.std.specs.List.{AllByRecursion}
use Rattle.faults.specs.declared.Fault.{Fault}
use Rattle.faults.specs.declared.Reason.{Reason}
use Rattle.faults.specs.Numbers.{fault, fault_in}
use Rattle.faults.specs.Outcomes.{check, and_then}
use Rattle.kinds.specs.Kind.{Laws, Lawful, same_row}
use Rattle.kinds.specs.Three.{word_kind}
use Rattle.kinds.specs.ModularLaws.{modular_laws}
use Rattle.locks.specs.Circuit.{Circuit}
use Rattle.locks.specs.Reading.{gates_from, outputs_from}
use Rattle.seals.specs.Sealing.{Sealing, Sound}
use Rattle.theory.specs.declared.Extracted.{Extracted}
use Rattle.theory.specs.Runs.{Branch, one, two, three}
use Rattle.theory.specs.Groups.{group, group_bytes, element_at}
use Rattle.theory.specs.Messages.{pick_byte, view_of, view_bytes, seal_in, seal_at}
use Rattle.theory.specs.Tests.{Verdict, left}
use Rattle.theory.specs.Verdict.{verify_sizes, verified}
use Rattle.theory.specs.Extraction.{key_left, extracted, key_after}
use Rattle.theory.specs.Store.{rounds_in}
use Rattle.theory.specs.Keeper.{made_from, Given, promise_sizes, own_view_bytes, own_outs, own_first, own_answer, promise_result, first_after, answer_result, answer_after}
use Rattle.theory.specs.History.{call_promise, Told, told_fault, told_round, told_answer, told_drop, tells, run, noted, made, Of}
use Rattle.theory.specs.Completeness.{Honest}
use Rattle.theory.specs.Hiding.{Outside}
use Rattle.theory.specs.Worked.{rows, worked_lock, worked_circuit, with_key, keeper, promised, forged_view, forged_outs, forged_first, forged_answer, WorkedBy, Worked}
use Rattle.theory.proofs.Checked.{same_bytes}
use Rattle.theory.proofs.Parts.{seals_read, first_length}
use Rattle.theory.proofs.Verdicts.{size_fine, accepts}
use Rattle.theory.proofs.Soundly.{is}
use Rattle.theory.proofs.Asks.{parse}
use Rattle.theory.proofs.Asked.{sizes_fine}
use Rattle.theory.proofs.Pasts.{Same, message}
use Rattle.theory.proofs.Outsides.{Fit, same_outside}
use Rattle.theory.proofs.Completely.{passed}
use Rattle.theory.proofs.Hidings.{completeness, answered_own}
use Rattle.theory.proofs.Examples.{last_four}

then_fine : {A : Type 0} (R : Verdict) (X : Result A Fault) → R ≡ Ok tt → and_then R (λ _. X) ≡ X
then_fine R X h = ap (λ r. and_then r (λ _. X)) h

check_true : {A : Type 0} (b : Bool) (f : Fault) (X : Result A Fault) → b ≡ true → check b f X ≡ X
check_true b f X h = ap (λ c. check c f X) h

noted_is : (t : Told) (g h : Given) (r : ℕ) → noted t g r None ≡ Some h → g ≡ h
noted_is (told_fault f) g h r e = cc
noted_is (told_round q x) g h r e = go (eqb r q) e
  where
    go : (b : Bool) → mathlib.Core.Bool.cond b (Some g) None ≡ Some h → g ≡ h
    go true k = cc
    go false k = cc
noted_is (told_answer x) g h r e = cc
noted_is told_drop g h r e = cc

word_laws : Laws word_kind
word_laws = modular_laws 2 4294967296 (omega arith) (omega arith)

module _ (S : Sealing) (sound : Sound S) (long : 48 ≤ S.longest) where
  -- the key fits and the tape is lawful
  honest_1 : Honest 48 (with_key S 3 4 50)
  unfolding gates_from outputs_from group group_bytes
  honest_1 = record {
    kind_laws = word_laws;
    sealing_sound = sound;
    reads = refl;
    key_fits = record { size = refl; lawful = (refl, (refl, tt)); fits = record { size = refl; meets = refl } };
    tape_size = refl;
    tape_lawful = record { share1_lawful = (refl, (refl, tt)); share2_lawful = (refl, (refl, tt)); mask1_lawful = (refl, tt); mask2_lawful = (refl, tt); mask3_lawful = (refl, tt) };
    views_fit = refl;
    sealable = long;
    work1_size = omega arith;
    work2_size = omega arith;
    work3_size = omega arith;
    first_size = refl;
  }

  honest_2 : Honest 48 (with_key S 1 12 54)
  unfolding gates_from outputs_from group group_bytes
  honest_2 = record {
    kind_laws = word_laws;
    sealing_sound = sound;
    reads = refl;
    key_fits = record { size = refl; lawful = (refl, (refl, tt)); fits = record { size = refl; meets = refl } };
    tape_size = refl;
    tape_lawful = record { share1_lawful = (refl, (refl, tt)); share2_lawful = (refl, (refl, tt)); mask1_lawful = (refl, tt); mask2_lawful = (refl, tt); mask3_lawful = (refl, tt) };
    views_fit = refl;
    sealable = long;
    work1_size = omega arith;
    work2_size = omega arith;
    work3_size = omega arith;
    first_size = refl;
  }

  abbrev store : List ℕ
  store = replicate 144 0

  alone : (g : Given) → Laws g.kind → Of (made 48 store (call_promise g ∷ [])) (λ r h. Laws h.kind)
  alone g laws r h e = subst (λ x. Laws x.kind) (noted_is (tells (made_from 48 store) (call_promise g)) g h r e) laws

  room : length (run (made_from 48 store) []).table < (run (made_from 48 store) []).capacity
  unfolding rounds_in
  room = omega arith

  fits_1 : promise_result (keeper S) (with_key S 3 4 50) ≡ Ok 1
  fits_1 = (completeness 48 store [] [] (with_key S 3 4 50) (alone (with_key S 3 4 50) word_laws) honest_1 room).0.promises

  fits_2 : promise_result (keeper S) (with_key S 1 12 54) ≡ Ok 1
  fits_2 = (completeness 48 store [] [] (with_key S 1 12 54) (alone (with_key S 1 12 54) word_laws) honest_2 room).0.promises

  fits_not : promise_result (keeper S) (with_key S 3 5 50) ≡ Err (fault Reason.KeyDoesNotFit 0)
  unfolding gates_from outputs_from group group_bytes rounds_in
  fits_not =
      then_fine (promise_sizes (with_key S 3 5 50) (worked_circuit 17)) (Err (fault Reason.KeyDoesNotFit 0))
      (sizes_fine (with_key S 3 5 50) (worked_circuit 17) (record {
        sealable = long;
        key_size = refl;
        tape_size = refl;
        work1_size = omega arith;
        work2_size = omega arith;
        work3_size = omega arith;
        first_size = refl;
      }))

  out_shares : (out : List ℕ) → take 14 (first_after (keeper S) (with_key S 3 4 50) out) ≡ 70 ∷ 77 ∷ rows (338 ∷ (2 ^ 32 - 75) ∷ (2 ^ 32 - 246) ∷ [])
  unfolding gates_from outputs_from group group_bytes
  out_shares out = ap (λ R. take 14 (left R (λ _. own_first (with_key S 3 4 50)) out)) fits_1

  answers : (out : List ℕ) → length out ≡ 99 → (e : Branch) → (answer_result (promised S) 1 (pick_byte e) (length out) ≡ Ok tt) × (answer_after (promised S) 1 (pick_byte e) out ≡ own_answer (with_key S 3 4 50) e)
  answers out z e =
      answered_own 48 store [] [] (with_key S 3 4 50) (alone (with_key S 3 4 50) word_laws) honest_1 room
      (completeness 48 store [] [] (with_key S 3 4 50) (alone (with_key S 3 4 50) word_laws) honest_1 room).1 e out z

  accepted : (e : Branch) → verified word_kind S (worked_lock 17) (own_first (with_key S 3 4 50)) (pick_byte e) (own_answer (with_key S 3 4 50) e) 16 16 ≡ Ok tt
  unfolding gates_from outputs_from
  accepted e = passed 48 (with_key S 3 4 50) honest_1 e 16 16 (omega arith) (omega arith)

  -- the two first messages agree outside the third seal
  alike : Same three (message (parse (with_key S 3 4 50))) (message (parse (with_key S 1 12 54)))
  unfolding gates_from outputs_from group group_bytes view_bytes
  alike = record { outs_same = outs; seals_same = seals }
    where
      outs : (i : Branch) → own_outs (with_key S 1 12 54) i ≡ own_outs (with_key S 3 4 50) i
      outs one = refl
      outs two = refl
      outs three = refl

      seals : (i : Branch) → (i ≡ three → ⊥) → S.seal (own_view_bytes (with_key S 1 12 54) i) ≡ S.seal (own_view_bytes (with_key S 3 4 50) i)
      seals one n = refl
      seals two n = refl
      seals three n = absurd (n refl)

  fit_1 : Fit word_kind (worked_circuit 17) S.size (message (parse (with_key S 3 4 50)))
  unfolding gates_from outputs_from group group_bytes
  fit_1 = record { sized = λ i. refl; ok = ok; sealed = λ i. sound.sized _ }
    where
      ok : (i : Branch) → AllByRecursion (Lawful word_kind) (own_outs (with_key S 3 4 50) i)
      ok one = (refl, tt)
      ok two = (refl, tt)
      ok three = (refl, tt)

  fit_2 : Fit word_kind (worked_circuit 17) S.size (message (parse (with_key S 1 12 54)))
  unfolding gates_from outputs_from group group_bytes
  fit_2 = record { sized = λ i. refl; ok = ok; sealed = λ i. sound.sized _ }
    where
      ok : (i : Branch) → AllByRecursion (Lawful word_kind) (own_outs (with_key S 1 12 54) i)
      ok one = (refl, tt)
      ok two = (refl, tt)
      ok three = (refl, tt)

  hidden_first : Outside (seal_at word_kind (worked_circuit 17) S.size three) S.size (own_first (with_key S 3 4 50)) (own_first (with_key S 1 12 54))
  hidden_first = same_outside word_kind (worked_circuit 17) word_laws S.size (message (parse (with_key S 3 4 50))) (message (parse (with_key S 1 12 54))) fit_1 fit_2 three alike

  extracts : extracted word_kind S (worked_lock 17) (own_first (with_key S 3 4 50)) (own_answer (with_key S 3 4 50)) 16 16 8 ≡ Ok Extracted.Key
  unfolding gates_from outputs_from group group_bytes view_of view_bytes
  extracts = is word_kind word_laws S (worked_lock 17) (own_first (with_key S 3 4 50)) (own_answer (with_key S 3 4 50)) (λ e. 16) (λ e. 16) accepted 16 16 (replicate 8 0) (worked_circuit 17) refl

  yields : (key : List ℕ) → length key ≡ 8 → key_after word_kind S (worked_lock 17) (own_first (with_key S 3 4 50)) (own_answer (with_key S 3 4 50)) 16 16 key ≡ rows (3 ∷ 4 ∷ [])
  unfolding gates_from outputs_from group group_bytes view_of view_bytes
  yields key z =
      ap (λ n. key_left (extracted word_kind S (worked_lock 17) (own_first (with_key S 3 4 50)) (own_answer (with_key S 3 4 50)) 16 16 n) (rows (3 ∷ 4 ∷ [])) key) z
      ∙ ap (λ R. key_left R (rows (3 ∷ 4 ∷ [])) key) extracts

  -- the forged first message
  abbrev c18 : Circuit (List ℕ)
  c18 = worked_circuit 18

  forged_long : (i : Branch) → length (S.seal (forged_view S i)) ≡ S.size
  forged_long i = sound.sized _

  forged_sized : (i : Branch) → length (forged_outs S i) ≡ 1
  forged_sized one = refl
  forged_sized two = refl
  forged_sized three = refl

  forged_lawful : (i : Branch) → AllByRecursion (Lawful word_kind) (forged_outs S i)
  forged_lawful one = (refl, tt)
  forged_lawful two = (refl, tt)
  forged_lawful three = (refl, tt)

  forged_seal : (i : Branch) → seal_in word_kind c18 S.size (forged_first S) i ≡ S.seal (forged_view S i)
  forged_seal i = seals_read word_kind c18 word_laws S.size (forged_outs S) (λ i. S.seal (forged_view S i)) forged_sized forged_lawful forged_long i

  first_size : length (forged_first S) ≡ 14 + 3 * S.size
  first_size = first_length word_kind c18 word_laws S.size (forged_outs S) (λ i. S.seal (forged_view S i)) forged_sized forged_lawful forged_long

  outs_read_lawful : (i : Branch) → AllByRecursion (Lawful word_kind) (Rattle.theory.specs.Messages.outs_in word_kind c18 (forged_first S) i)
  unfolding group group_bytes
  outs_read_lawful one = (refl, tt)
  outs_read_lawful two = (refl, tt)
  outs_read_lawful three = (refl, tt)

  forged_2 : verified word_kind S (worked_lock 18) (forged_first S) 2 (forged_answer S two) 16 16 ≡ Ok tt
  unfolding gates_from outputs_from group group_bytes view_of view_bytes
  forged_2 = accepts word_kind S (worked_lock 18) (forged_first S) 2 (forged_answer S two) 16 16 two c18 refl (record {
    reads = refl;
    sealable = long;
    first_size = first_size;
    answer_size = refl;
    work1_size = omega arith;
    work2_size = omega arith;
    first_mark = refl;
    outs_lawful = outs_read_lawful;
    answer_mark = refl;
    answer_pick = refl;
    passes = record {
      blind_a = refl;
      blind_b = refl;
      lawful_a = record { wires_lawful = (refl, (refl, tt)); masks_lawful = (refl, tt); products_lawful = (refl, tt) };
      lawful_b = record { wires_lawful = (refl, (refl, tt)); masks_lawful = (refl, tt); products_lawful = (refl, tt) };
      accepts = record {
        size_a = record { shared = refl; masked = refl; multiplied = refl };
        size_b = record { shared = refl; masked = refl; multiplied = refl };
        sums = refl;
        gives_a = refl;
        gives_b = refl;
        multiplies = refl;
      };
      seal_a = sym (forged_seal two);
      seal_b = sym (forged_seal three);
    };
  })

  forged_3 : verified word_kind S (worked_lock 18) (forged_first S) 3 (forged_answer S three) 16 16 ≡ Ok tt
  unfolding gates_from outputs_from group group_bytes view_of view_bytes
  forged_3 = accepts word_kind S (worked_lock 18) (forged_first S) 3 (forged_answer S three) 16 16 three c18 refl (record {
    reads = refl;
    sealable = long;
    first_size = first_size;
    answer_size = refl;
    work1_size = omega arith;
    work2_size = omega arith;
    first_mark = refl;
    outs_lawful = outs_read_lawful;
    answer_mark = refl;
    answer_pick = refl;
    passes = record {
      blind_a = refl;
      blind_b = refl;
      lawful_a = record { wires_lawful = (refl, (refl, tt)); masks_lawful = (refl, tt); products_lawful = (refl, tt) };
      lawful_b = record { wires_lawful = (refl, (refl, tt)); masks_lawful = (refl, tt); products_lawful = (refl, tt) };
      accepts = record {
        size_a = record { shared = refl; masked = refl; multiplied = refl };
        size_b = record { shared = refl; masked = refl; multiplied = refl };
        sums = refl;
        gives_a = refl;
        gives_b = refl;
        multiplies = refl;
      };
      seal_a = sym (forged_seal three);
      seal_b = sym (forged_seal one);
    };
  })

  forged_1 : verified word_kind S (worked_lock 18) (forged_first S) 1 (forged_answer S one) 16 16 ≡ Err (fault_in one Reason.WrongProduct 2)
  unfolding gates_from outputs_from group group_bytes element_at view_of view_bytes
  forged_1 =
      let s1 = same_row (S.seal (forged_view S one)) (seal_in word_kind c18 S.size (forged_first S) one) in
      let s2 = same_row (S.seal (forged_view S two)) (seal_in word_kind c18 S.size (forged_first S) two) in
      let last : Verdict = Err (fault_in one Reason.WrongProduct 2) in
      let more : Verdict = check s1 (fault_in one Reason.WrongSeal 0) (check s2 (fault_in two Reason.WrongSeal 0) last) in
      then_fine (verify_sizes word_kind S c18 (length (forged_first S)) (length (forged_answer S one)) 16 16) more
      (size_fine word_kind S c18 {work1 = 16} {work2 = 16} (record { sealable = long; first_size = first_size; answer_size = refl; work1_size = omega arith; work2_size = omega arith }))
      ∙ check_true s1 (fault_in one Reason.WrongSeal 0) (check s2 (fault_in two Reason.WrongSeal 0) last) (same_bytes (sym (forged_seal one)))
      ∙ check_true s2 (fault_in two Reason.WrongSeal 0) last (same_bytes (sym (forged_seal two)))

  pub by_sealer : WorkedBy S
  unfolding gates_from outputs_from group group_bytes view_bytes
  by_sealer = record {
    fits_1 = fits_1;
    fits_2 = fits_2;
    fits_not = fits_not;
    third_shares = refl;
    product_1 = refl;
    product_2 = refl;
    product_3 = refl;
    out_shares = out_shares;
    answers = λ out z. (answers out z one, answers out z two, answers out z three);
    accepted = (accepted one, accepted two, accepted three);
    hidden_first = hidden_first;
    hidden_answer = refl;
    no_other = last_four S;
    extracts = extracts;
    yields = yields;
    forged_1 = forged_1;
    forged_2 = forged_2;
    forged_3 = forged_3;
  }

pub worked : Worked
unfolding gates_from outputs_from rounds_in
worked = record {
  reads = refl;
  by_sealer = by_sealer;
  bits = (refl, refl, refl);
  residue_yes = refl;
  residue_no = refl;
  bit_no = refl;
  short = refl;
  longer = refl;
  empty = refl;
  rounds_0 = refl;
  rounds_1 = refl;
  rounds_64 = refl;
  rounds_most = refl;
  rounds_short = refl;
}
