-- Completeness on bytes.
use Rattle.std.proofs.Common.{◌≡◌, ℕ, suc, ◌+◌, ◌*◌, ◌<◌, ◌≤◌, Bool, true, false, eqb, ltb, List, [], ◌∷◌, ◌++◌, length, Some, None, Ok, Option, sym, refl, ap, ◌∙◌, subst}
use mathlib.Core.Path.{fun_ext}
use lib.ListN.{length-map}
use Rattle.std.proofs.lemmas.Bool.{eq-eqb, lt-ltb}
use Rattle.std.specs.List.{AllByRecursion}
use Rattle.kinds.specs.Kind.{Kind, Lawful, Laws}
use Rattle.locks.specs.Circuit.{Circuit}
use Rattle.theory.specs.Completeness.{Honest, Completes}
use Rattle.theory.specs.History.{Call, call_promise, call_answer, told_round, told_answer, tells, run}
use Rattle.theory.specs.Keeper.{after_promise, kept, own_view_bytes, Keeper, made_from, state_of, Given, circuit_in, answer_result, first_after, answer_after, promise_result}
use Rattle.theory.specs.Messages.{view_bytes, length_of_view, view_of, outs_in, seal_in, picked_view, next_view, pick_byte, answer_bytes, length_of_work}
use Rattle.theory.proofs.Tolds.{told_law, promise_accepted, answer_accepted}
use Rattle.theory.proofs.Stored.{spent_of}
use Rattle.theory.specs.Tests.{left}
use Rattle.theory.specs.Runs.{Branch, next}
use Rattle.theory.specs.Store.{rounds_in}
use Rattle.theory.specs.Verdict.{Passes, verified}
use Rattle.theory.specs.declared.RoundState.{RoundState}
use Rattle.theory.proofs.Asked.{sizes_fine, parse_stands, late_fine, views, views_long, run_is, tells_is, all_stand, long_fit}
use Rattle.theory.proofs.Asks.{given_tests, parse, parse_call, checks, told, parsed, history, Made, first_of}
use Rattle.theory.proofs.Checked.{both_fine, check_fine}
use Rattle.theory.proofs.Extractor.{answers_pass}
use Rattle.theory.proofs.Histories.{blank, earlier, newest}
use Rattle.theory.proofs.Parts.{view_read, answer_read, outs_read, seals_read, first_length, tape_for}
use Rattle.theory.proofs.Pasts.{Promise, promise, answer, promised, Stands, opened_view, message, round, promise_shows, answer_shows, shows, Values}
use Rattle.theory.proofs.Stored.{says, keeper_after}
use Rattle.theory.proofs.Stores.{Agrees, same, agrees, fate_by}
use Rattle.theory.proofs.Verdicts.{accepts, branch_pick}

held_open : (w : Option Promise) (g : Bool) → fate_by w g ≡ Some false → g ≡ false
held_open None g h = cc
held_open (Some p) g h = cc

module _ (long : ℕ) (g : Given) (o : Honest long g) where
  abbrev K : Kind
  K = g.kind

  abbrev l : Circuit (List ℕ)
  l = circuit_in g

  abbrev p : Promise
  p = parse g

  stands : Stands (parse g)
  stands = parse_stands g o.kind_laws

  tests_fine : (parse g).tests ≡ Ok tt
  tests_fine =
      ap (λ r. given_tests r g) o.reads
      ∙ sizes_fine g (circuit_in g) (record {
        sealable = subst (λ x. x ≤ g.sealing.longest) (sym o.views_fit) o.sealable;
        key_size = o.key_fits.size;
        tape_size = o.tape_size;
        work1_size = o.work1_size;
        work2_size = o.work2_size;
        work3_size = o.work3_size;
        first_size = o.first_size;
      })

  early_fine : (checks long).early p ≡ Ok tt
  early_fine = both_fine tests_fine (check_fine _ (eq-eqb _ _ o.views_fit) refl)

  the_values : (n size : ℕ) → Values (checks long) n size p
  the_values n size = record { key_lawful = o.key_fits.lawful; fits = o.key_fits.fits; tape_lawful = o.tape_lawful; tape_for = tape_for K l g.tape }

  late_is : (checks long).late p ≡ Ok tt
  late_is = late_fine long 0 0 p (the_values 0 0)

  abbrev fm : List ℕ
  fm = first_of (message p)

  outs_long : (i : Branch) → length ((message p).outs i) ≡ length l.outputs
  outs_long i = length-map l.outputs _

  outs_lawful : (i : Branch) → AllByRecursion (Lawful K) ((message p).outs i)
  outs_lawful i = (views long 0 0 p stands early_fine late_is i).2

  view_back : (i : Branch) → view_of K l (view_bytes p.kind (opened_view p i)) ≡ opened_view p i
  view_back i = let r = views long 0 0 p stands early_fine late_is i in view_read K l o.kind_laws (opened_view p i) ((stands.1 tests_fine).1 i) r.0 r.1

  view_length_is : (i : Branch) → length (view_bytes p.kind (opened_view p i)) ≡ length_of_view K l
  view_length_is i = views_long long 0 0 p stands early_fine late_is i ∙ sym o.views_fit

  pub passed : (e : Branch) (work1 work2 : ℕ) → length_of_work K l ≤ work1 → length_of_work K l ≤ work2
      → verified K g.sealing g.lock fm (pick_byte e) (answer_bytes e (view_bytes p.kind (opened_view p e)) (view_bytes p.kind (opened_view p (next e)))) work1 work2 ≡ Ok tt
  passed e work1 work2 w1 w2 =
      let an = answer_bytes e (view_bytes p.kind (opened_view p e)) (view_bytes p.kind (opened_view p (next e))) in
      let ar = answer_read K l e (view_bytes p.kind (opened_view p e)) (view_bytes p.kind (opened_view p (next e))) (view_length_is e) (view_length_is (next e)) in
      let d = g.sealing.size in
      let sl : (i : Branch) → length ((message p).seals i) ≡ d = λ i. o.sealing_sound.sized _ in
      let outs-is : (i : Branch) → outs_in K l fm i ≡ (message p).outs i = outs_read K l o.kind_laws d (message p).outs (message p).seals outs_long outs_lawful sl in
      let seals-is : (i : Branch) → seal_in K l d fm i ≡ (message p).seals i = seals_read K l o.kind_laws d (message p).outs (message p).seals outs_long outs_lawful sl in
      let a-is : view_of K l (picked_view K l an) ≡ opened_view p e = ap (view_of K l) ar.0 ∙ view_back e in
      let b-is : view_of K l (next_view K l an) ≡ opened_view p (next e) = ap (view_of K l) ar.1 ∙ view_back (next e) in
      let pass : Passes K g.sealing l (message p).outs (message p).seals e (opened_view p e) (opened_view p (next e)) =
      answers_pass K o.kind_laws g.sealing l (stands.1 tests_fine).0 p.key o.key_fits.lawful o.key_fits.fits p.tape o.tape_lawful (tape_for K l g.tape) p.blind (stands.1 tests_fine).1 e in
      accepts K g.sealing g.lock fm (pick_byte e) an work1 work2 e l refl (record {
        reads = o.reads;
        sealable = subst (λ x. x ≤ g.sealing.longest) (sym o.views_fit) o.sealable;
        first_size = first_length K l o.kind_laws d (message p).outs (message p).seals outs_long outs_lawful sl;
        answer_size = ar.2;
        work1_size = w1;
        work2_size = w2;
        first_mark = refl;
        outs_lawful = λ i. subst (AllByRecursion (Lawful K)) (sym (outs-is i)) (outs_lawful i);
        answer_mark = refl;
        answer_pick = refl;
        passes = subst (λ x. x) (λ i. Passes K g.sealing l (fun_ext (λ j. sym (outs-is j)) i) (fun_ext (λ j. sym (seals-is j)) i) e (sym a-is i) (sym b-is i)) pass;
      })

module _ (long : ℕ) (store : List ℕ) where
  abbrev n : ℕ
  n = rounds_in long (length store)

  abbrev size : ℕ
  size = 3 + 2 * long

  abbrev k0 : Keeper
  k0 = made_from long store

  abbrev at : List Call → Keeper
  at H = keeper_after (checks long) k0 (parsed H)

  -- a round stays through later calls
  stays : (later H : List Call) (r : ℕ) (p : Promise) → round (history long store H).made r ≡ Some p → round (history long store (later ++ H)).made r ≡ Some p
  stays [] H r p h = h
  stays (c ∷ later) H r p h = earlier (checks long) n size (λ _. []) (λ _. blank) (parse_call c) (parsed (later ++ H)) r p (stays later H r p h)

  module _ (H later : List Call) (g : Given) (ks : Made long store (later ++ (call_promise g ∷ H)) (λ r g. Laws g.kind)) (o : Honest long g)
      (room : length (run (made_from long store) H).table < (run (made_from long store) H).capacity) where
    abbrev all : List Call
    all = later ++ (call_promise g ∷ H)

    abbrev R : ℕ
    R = suc (length (run k0 H).table)

    stand_all : (r : ℕ) (p : Promise) → round (history long store all).made r ≡ Some p → Stands p
    stand_all = all_stand long store all ks

    stand_history : (r : ℕ) (p : Promise) → round (history long store H).made r ≡ Some p → Stands p
    stand_history r p k = stand_all r p (stays later (call_promise g ∷ H) r p (earlier (checks long) n size (λ _. []) (λ _. blank) (promise (parse g)) (parsed H) r p k))

    agree_history : Agrees (checks long) long store (long_fit long store) (at H) (history long store H)
    agree_history = agrees (checks long) long store (long_fit long store) (parsed H) stand_history

    agree_all : Agrees (checks long) long store (long_fit long store) (at all) (history long store all)
    agree_all = agrees (checks long) long store (long_fit long store) (parsed all) stand_all

    r_is : suc (length (at H).table) ≡ R
    r_is = ap (λ k. suc (length k.table)) (sym (run_is long store H))

    room_left : ltb (length (at H).table) (at H).capacity ≡ true
    room_left = lt-ltb _ _ (subst (λ k. length k.table < k.capacity) (run_is long store H) room)

    said : says (checks long) (at H) (promise (parse g)) ≡ promised (suc (length (at H).table)) (message (parse g))
    said = λ i. promise_shows (checks long) (at H).capacity (3 + 2 * (at H).view_size) (early_fine long g o i) (room_left i) (late_is long g o i) (suc (length (at H).table)) (parse g)

    promised_it : tells (run k0 H) (call_promise g) ≡ told_round R (first_of (message (parse g)))
    promised_it = tells_is long store H (call_promise g) ∙ ap told said ∙ ap (λ r. told_round r (first_of (message (parse g)))) r_is

    shown_history : shows (checks long) n size (history long store H) (promise (parse g)) ≡ promised (suc (length (history long store H).made)) (message (parse g))
    shown_history = sym (same (checks long) long store (long_fit long store) (at H) (history long store H) agree_history (promise (parse g))) ∙ said ∙ ap (λ r. promised (suc r) (message (parse g))) agree_history.count

    found : round (history long store all).made R ≡ Some (parse g)
    found =
        ap (round (history long store all).made) (sym r_is ∙ ap suc agree_history.count)
        ∙ stays later (call_promise g ∷ H) _ (parse g) (newest (checks long) n size (λ _. []) (λ _. blank) (parse g) (parsed H) (message (parse g)) shown_history)

    open_yet : state_of (run k0 all).table R ≡ Some RoundState.Promised → (history long store all).gone R ≡ false
    open_yet h = held_open _ _ (sym (agree_all.told R) ∙ ap (λ k. spent_of (state_of k.table R)) (sym (run_is long store all)) ∙ ap spent_of h)

    answered_it : state_of (run k0 all).table R ≡ Some RoundState.Promised → (e : Branch)
        → tells (run k0 all) (call_answer R (pick_byte e) size) ≡ told_answer (answer_bytes e (view_bytes (parse g).kind (opened_view (parse g) e)) (view_bytes (parse g).kind (opened_view (parse g) (next e))))
    answered_it h e =
        let free = open_yet h in
        let same_size : eqb size size ≡ true = eq-eqb size size refl in
        tells_is long store all (call_answer R (pick_byte e) size)
        ∙ ap told (same (checks long) long store (long_fit long store) (at all) (history long store all) agree_all (answer R (pick_byte e) size))
        ∙ (λ i. told (answer_shows (checks long) n size (found i) (free i) (branch_pick e i) (same_size i) R (pick_byte e)))

    unfoldable pub own : (e : Branch) → List ℕ
    own e = answer_bytes e (view_bytes (parse g).kind (opened_view (parse g) e)) (view_bytes (parse g).kind (opened_view (parse g) (next e)))

    -- the answer, by the buffer's length
    pub answer_is : state_of (run k0 all).table R ≡ Some RoundState.Promised → (e : Branch) (out : List ℕ) → length out ≡ size
        → (answer_result (run k0 all) R (pick_byte e) (length out) ≡ Ok tt) × (answer_after (run k0 all) R (pick_byte e) out ≡ own e)
    unfolding own
    answer_is h e out z =
        answer_accepted _ _ _ (sym ((told_law (run k0 all)).of_answer R (pick_byte e) out) ∙ ap (λ x. tells (run k0 all) (call_answer R (pick_byte e) x)) z ∙ answered_it h e)

    first_is : promise_result (run k0 H) g ≡ Ok R
    first_is = (promise_accepted _ _ R _ promised_it).0

    first_in : (out : List ℕ) → first_after (run k0 H) g out ≡ first_of (message (parse g))
    first_in out = (promise_accepted _ _ R _ (sym ((told_law (run k0 H)).of_promise g out) ∙ promised_it)).1

    pub completes : Completes long g (run k0 H) (run k0 all) R
    unfolding own
    completes = record {
      promises = first_is;
      answers = λ h e out z. (answer_is h e out z).0;
      verifies = λ h e first out zf z work1 work2 w1 w2.
          (λ i. verified g.kind g.sealing g.lock (first_in first i) (pick_byte e) ((answer_is h e out z).1 i) work1 work2)
          ∙ passed long g o e work1 work2 w1 w2;
    }

state_last : (t : List RoundState) (s : RoundState) → state_of (t ++ (s ∷ [])) (suc (length t)) ≡ Some s
state_last [] s = refl
state_last (x ∷ []) s = refl
state_last (x ∷ y ∷ t) s = state_last (y ∷ t) s

promised_state : (k : Keeper) (g : Given) (r : ℕ) → promise_result k g ≡ Ok r → state_of (after_promise k g).table (suc (length k.table)) ≡ Some RoundState.Promised
promised_state k g r h =
    ap (λ x. state_of (left x (λ r. kept k r (own_view_bytes g)) k).table (suc (length k.table))) h ∙ state_last k.table RoundState.Promised

pub completes_by_history : (L : ℕ) (store : List ℕ) (H later : List Call) (g : Given)
    → Made L store (later ++ (call_promise g ∷ H)) (λ r h. Laws h.kind)
    → Honest L g
    → length (run (made_from L store) H).table < (run (made_from L store) H).capacity
    → Completes L g (run (made_from L store) H) (run (made_from L store) (later ++ (call_promise g ∷ H))) (suc (length (run (made_from L store) H).table))
    × (state_of (run (made_from L store) (call_promise g ∷ H)).table (suc (length (run (made_from L store) H).table)) ≡ Some RoundState.Promised)
completes_by_history L store H later g ks o room =
    let c = completes L store H later g ks o room in
    (c, promised_state (run (made_from L store) H) g _ c.promises)
