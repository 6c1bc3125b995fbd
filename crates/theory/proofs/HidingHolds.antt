-- Hiding on bytes.
use Rattle.std.proofs.Common.{◌≡◌, ℕ, zero, suc, ◌+◌, ◌*◌, ◌<◌, ◌≤◌, Bool, true, false, cond, eqb, List, [], ◌∷◌, ◌++◌, map, length, take, drop as skip, Some, None, Ok, Option, sym, refl, ap, ◌∙◌, subst, ap₂, subst₂, arith}
use mathlib.Core.Path.{fun_ext}
use lib.ListN.{length-map}
use Rattle.std.proofs.lemmas.Bool.{eqb-true, eq-eqb}
use Rattle.std.specs.List.{AllByRecursion}
use Rattle.kinds.specs.Kind.{Kind, Lawful, Laws, Bytes}
use Rattle.locks.specs.Circuit.{Circuit, mus}
use Rattle.theory.specs.Algebra.{ops_of}
use Rattle.theory.specs.Branches.{Tape, TapeFor, shares_on, masks_on}
use Rattle.theory.specs.Groups.{group_bytes, group}
use Rattle.theory.specs.Hiding.{regiven, KeptTape, Outside, LikeTold, equal_told, but_closed, LikesTold, SameTold}
use Rattle.theory.specs.History.{Call, call_promise, call_answer, call_drop, told_round, told_answer, tells, run, all_told}
use Rattle.theory.specs.Keeper.{made_from, Given, circuit_in}
use Rattle.theory.specs.Lawfulness.{TapeLawful}
use Rattle.theory.specs.Messages.{view_bytes, behind, key_of, tape_of, length_of_tape, tape_bytes, blind_in, shares_in, masks_in, seal_at, answer_bytes}
use Rattle.theory.specs.Runs.{Branch, one, two, three, next, Fits}
use Rattle.theory.specs.Soundness.{KeyFits}
use Rattle.theory.specs.Store.{rounds_in}
use Rattle.theory.proofs.Asked.{sizes_fine, read_sizes, blind_32, tests, views, views_long, all_told_is, of_made, to_made, each_parsed, all_stand, long_fit, tells_is}
use Rattle.theory.proofs.Asks.{given_tests, parse, parse_call, checks, told, parsed, noted, history, outcome, made, Made, other_call, replayed, picks, closed_in, first_of}
use Rattle.theory.proofs.Basics.{append_inj}
use Rattle.theory.proofs.Checked.{both_ok}
use Rattle.theory.proofs.Claims.{SameBut}
use Rattle.theory.proofs.Groups.{all_append}
use Rattle.theory.proofs.Histories.{blank, round_below, hidden, Ready, ready, past_recast, keeps_recast, redone, like_message, like_answer, PromiseView, no_promise, yes_promise, promise_view, no_answer, yes_answer, answer_view, no_drop, yes_drop, drop_view, passed}
use Rattle.seals.specs.Sealing.{Sound}
use Rattle.locks.proofs.Fields.{bytes_drop}
use Rattle.theory.proofs.Groups.{in_bytes, no_bytes}
use Rattle.theory.specs.Messages.{tape_shares_at, tape_masks_at}
use Rattle.theory.proofs.Outsides.{Fit, same_outside, outside_same}
use Rattle.theory.proofs.Parts.{tape_for, tape_written, tape_read, tape_length, blinds_read, part_written}
use Rattle.theory.proofs.Pasts.{Promise, Move, promise, answer, drop, Message, Shown, promised, answered, Stands, opened_view, message, Past, round, redo, other, Like, equal, but_seal, Likes, shows, past, all_shown, recast, Each, Fine}
use Rattle.theory.proofs.Stored.{all_said, keeper_after}
use Rattle.theory.proofs.Stores.{all_same, same, agrees}

-- of the promise that made a round, the elements of other bytes
abbrev key_at : Option Given → List ℕ → List (List ℕ)
key_at None ks = []
key_at (Some g) ks = key_of g.kind (circuit_in g) ks

abbrev tape_at : Option Given → List ℕ → Tape (List ℕ)
tape_at None t = record { share1 = []; share2 = []; mask1 = []; mask2 = []; mask3 = [] }
tape_at (Some g) t = tape_of g.kind (circuit_in g) t

abbrev tape_out : Option Given → Tape (List ℕ) → List ℕ
tape_out None t = []
tape_out (Some g) t = tape_bytes g.kind (circuit_in g) (blind_in g.kind (circuit_in g) g.tape) t

bytes_take : (n : ℕ) (xs : List ℕ) → Bytes xs → Bytes (take n xs)
bytes_take zero xs h = tt
bytes_take (suc n) [] h = tt
bytes_take (suc n) (x ∷ xs) h = (h.0, bytes_take n xs h.1)

-- blinds of bytes and lawful elements are bytes
tape_in_bytes : (K : Kind) (l : Circuit (List ℕ)) → Laws K → (t : List ℕ) (u : Tape (List ℕ)) → Bytes t → TapeLawful K u → Bytes (tape_bytes K l (blind_in K l t) u)
tape_in_bytes K l keeps t u h ok =
    let B = λ (b : ℕ). b < 256 in
    let blind : (i : Branch) → Bytes (blind_in K l t i) = λ i. bytes_take 32 (skip (32 * behind i) t) (bytes_drop (32 * behind i) t h) in
    let j = in_bytes K keeps in
    all_append B (blind_in K l t one) _ (blind one) (all_append B (blind_in K l t two) _ (blind two) (all_append B (blind_in K l t three) _ (blind three)
    (all_append B (group_bytes K u.share1) _ (j u.share1 ok.share1_lawful) (all_append B (group_bytes K u.share2) _ (j u.share2 ok.share2_lawful)
    (all_append B (group_bytes K u.mask1) _ (j u.mask1 ok.mask1_lawful) (all_append B (group_bytes K u.mask2) _ (j u.mask2 ok.mask2_lawful) (j u.mask3 ok.mask3_lawful)))))))

round_bytes : {r q : ℕ} {x y : List ℕ} → told_round r x ≡ told_round q y → x ≡ y
round_bytes h = cc

round_number : {r q : ℕ} {x y : List ℕ} → told_round r x ≡ told_round q y → r ≡ q
round_number h = cc

module _ (long : ℕ) (store : List ℕ) where
  abbrev n : ℕ
  n = rounds_in long (length store)

  abbrev size : ℕ
  size = 3 + 2 * long

  made_here : (g : Given) (H : List Call) (m : Message) → outcome long store H (call_promise g) ≡ promised (suc (length (history long store H).made)) m
      → made long store (call_promise g ∷ H) (suc (length (history long store H).made)) ≡ Some g
  made_here g H m e =
      let R = suc (length (history long store H).made) in
      ap (λ s. noted s g R (made long store H R)) e ∙ ap (λ b. cond b (Some g) (made long store H R)) (eq-eqb R R refl)

  made_later : (c : Call) (H : List Call) (r : ℕ) (g : Given) → made long store H r ≡ Some g → made long store (c ∷ H) r ≡ Some g
  made_later (call_promise x) H r g h = go (promise_view (checks long) n size (λ _. []) (λ _. blank) (history long store H) (parse x))
    where
      below : r ≤ length (history long store H).made
      below = round_below (history long store H).made r (parse g) (of_made long store H r g h)

      at : (b : Bool) → eqb r (suc (length (history long store H).made)) ≡ b → cond b (Some x) (made long store H r) ≡ Some g
      at true e = let z : r ≡ suc (length (history long store H).made) = eqb-true _ _ e in absurd (omega (arith, below))
      at false e = h

      go : PromiseView (checks long) n size (λ _. []) (λ _. blank) (history long store H) (parse x) → made long store (call_promise x ∷ H) r ≡ Some g
      go (no_promise f e e') = ap (λ s. noted s x r (made long store H r)) e ∙ h
      go (yes_promise t e e') = ap (λ s. noted s x r (made long store H r)) e ∙ at (eqb r (suc (length (history long store H).made))) refl
  made_later (call_answer q e z) H r g h = h
  made_later (call_drop q) H r g h = h

  module _ (H : List Call) (ks : Made long store H (λ r g. Laws g.kind × Sound g.sealing))
      (keys : ℕ → List ℕ) (fits : Made long store H (λ r g. KeyFits g.kind (circuit_in g) (keys r))) where
    abbrev h : List Move
    h = parsed H

    keys_p : ℕ → List (List ℕ)
    keys_p r = key_at (made long store H r) (keys r)

    keys_is : (r : ℕ) (g : Given) → made long store H r ≡ Some g → keys_p r ≡ key_of g.kind (circuit_in g) (keys r)
    unfolding keys_p
    keys_is r g e = ap (λ o. key_at o (keys r)) e

    stand : Each (checks long) n size h (λ r p. Stands p)
    stand = all_stand long store H (λ r g k. (ks r g k).0)

    fit : Each (checks long) n size h (λ r p. AllByRecursion (Lawful p.kind) (keys_p r) × Fits (ops_of p.kind) p.lock (keys_p r))
    fit = each_parsed long store H (λ r p. AllByRecursion (Lawful p.kind) (keys_p r) × Fits (ops_of p.kind) p.lock (keys_p r))
        (λ r g k. subst (λ x. AllByRecursion (Lawful g.kind) x × Fits (ops_of g.kind) (circuit_in g) x) (sym (keys_is r g k)) ((fits r g k).lawful, (fits r g k).fits))

    abbrev cl : ℕ → Branch
    cl = closed_in long store H

    -- bytes ts and tapes tP are of one another
    record Linked (ts : ℕ → List ℕ) (t_p : ℕ → Tape (List ℕ)) (r : ℕ) (g : Given) : Type 0 where
      tape_is : tape_of g.kind (circuit_in g) (ts r) ≡ t_p r
      tape_size : length (ts r) ≡ length_of_tape g.kind (circuit_in g)
      blinds : (i : Branch) → blind_in g.kind (circuit_in g) (ts r) i ≡ blind_in g.kind (circuit_in g) g.tape i
      lawful : TapeLawful g.kind (t_p r)
      for : TapeFor (circuit_in g) (t_p r)

    module _ (ts : ℕ → List ℕ) (t_p : ℕ → Tape (List ℕ)) (link : Made long store H (Linked ts t_p)) where
      taped : Each (checks long) n size h (λ r p. TapeFor p.lock (t_p r) × TapeLawful p.kind (t_p r))
      taped = each_parsed long store H (λ r p. TapeFor p.lock (t_p r) × TapeLawful p.kind (t_p r)) (λ r g k. ((link r g k).for, (link r g k).lawful))

      is_ready : Ready (checks long) n size keys_p t_p h
      is_ready = ready (checks long) n size (tests long n size) h stand keys_p fit t_p taped

      stand_again : Each (checks long) n size h (λ r p. Stands (redo keys_p t_p r p))
      stand_again r p e = ((stand r p e).0, (stand r p e).1, (fit r p e).1.size, (taped r p e).0)

      -- the recast promise on bytes
      parse_again : (r : ℕ) (g : Given) → made long store H r ≡ Some g → (parse g).tests ≡ Ok tt → parse (regiven keys ts r g) ≡ redo keys_p t_p r (parse g)
      parse_again r g e t =
          let K = g.kind in
          let l = circuit_in g in
          let k = link r g e in
          let s = read_sizes g t in
          let blind-same = fun_ext k.blinds in
          let key-same : key_of K l (keys r) ≡ keys_p r = sym (keys_is r g e) in
          let tests_same : (parse (regiven keys ts r g)).tests ≡ (parse g).tests =
          ap (λ x. given_tests x (regiven keys ts r g)) s.0
          ∙ sizes_fine (regiven keys ts r g) l (record {
            sealable = s.1.sealable;
            key_size = (fits r g e).size;
            tape_size = k.tape_size;
            work1_size = s.1.work1_size;
            work2_size = s.1.work2_size;
            work3_size = s.1.work3_size;
            first_size = s.1.first_size;
          })
          ∙ sym t in
          λ i. record { kind = K; sealing = g.sealing; lock = l; blind = blind-same i; key = key-same i; tape = k.tape_is i; tests = tests_same i }

      recast_parsed : (H0 : List Call) → ((r : ℕ) (g : Given) → made long store H0 r ≡ Some g → made long store H r ≡ Some g)
          → parsed (replayed long store keys ts H0) ≡ recast (checks long) n size keys_p t_p (parsed H0)
      recast_parsed [] sub = refl
      recast_parsed (call_promise g ∷ H0) sub =
          ap₂ {C = List Move} (λ c cs. c ∷ cs) (go (promise_view (checks long) n size keys_p t_p (history long store H0) (parse g)))
          (recast_parsed H0 (λ r x k. sub r x (made_later (call_promise g) H0 r x k)))
        where
          go : PromiseView (checks long) n size keys_p t_p (history long store H0) (parse g)
              → parse_call (other_call keys ts (call_promise g) (outcome long store H0 (call_promise g))) ≡ other keys_p t_p (promise (parse g)) (outcome long store H0 (call_promise g))
          go (no_promise f e e') = ap (λ s. parse_call (other_call keys ts (call_promise g) s)) e ∙ ap (λ s. other keys_p t_p (promise (parse g)) s) (sym e)
          go (yes_promise t e e') =
              ap (λ s. parse_call (other_call keys ts (call_promise g) s)) e
              ∙ ap promise (parse_again _ g (sub _ g (made_here g H0 _ e)) (early_tests g t.0))
              ∙ ap (λ s. other keys_p t_p (promise (parse g)) s) (sym e)
            where
              early_tests : (g : Given) → (checks long).early (parse g) ≡ Ok tt → (parse g).tests ≡ Ok tt
              early_tests g h = (both_ok _ _ h).0
      recast_parsed (call_answer q e z ∷ H0) sub = ap {B = List Move} (λ cs. answer q e z ∷ cs) (recast_parsed H0 sub)
      recast_parsed (call_drop q ∷ H0) sub = ap {B = List Move} (λ cs. drop q ∷ cs) (recast_parsed H0 sub)

      told_first : all_told (made_from long store) H ≡ map told (all_shown (checks long) n size h)
      told_first = all_told_is long store H ∙ ap (map told) (all_same (checks long) long store (long_fit long store) h stand)

      told_again : all_told (made_from long store) (replayed long store keys ts H) ≡ map told (all_shown (checks long) n size (recast (checks long) n size keys_p t_p h))
      told_again =
          all_told_is long store (replayed long store keys ts H)
          ∙ ap (λ x. map told (all_said (checks long) (made_from long store) x)) (recast_parsed H (λ r g k. k))
          ∙ ap (map told) (all_same (checks long) long store (long_fit long store) (recast (checks long) n size keys_p t_p h) (keeps_recast (checks long) n size keys_p t_p Stands h is_ready stand_again))

      abbrev Both : Shown → Shown → Type 0
      Both s s' = (Like cl s s' → LikeTold (made long store H) (closed_in long store H) (told s) (told s')) × (LikeTold (made long store H) (closed_in long store H) (told s) (told s') → Like cl s s')

      both_same : (s s' : Shown) → s' ≡ s → Both s s'
      both_same s s' e = ((λ _. equal_told (ap told e)), (λ _. equal e))

      -- a lawful promise's first message
      message_fit : (p : Promise) (S : ℕ) → Stands p → (checks long).early p ≡ Ok tt → (checks long).late p ≡ Ok tt → ((x : List ℕ) → length (p.sealing.seal x) ≡ S) → Fit p.kind p.lock S (message p)
      message_fit p S st e t sl = record { sized = λ i. length-map p.lock.outputs _; ok = λ i. (views long n size p st e t i).2; sealed = λ i. sl _ }

      both_promised : (r : ℕ) (g : Given) → made long store H r ≡ Some g → (s' : Shown) → s' ≡ promised r (message (redo keys_p t_p r (parse g)))
          → Both (promised r (message (parse g))) s'
      both_promised r g e s' k' =
          let K = g.kind in
          let l = circuit_in g in
          let d = g.sealing.size in
          let p = parse g in
          let q = redo keys_p t_p r (parse g) in
          let found = of_made long store H r g e in
          let ok = passed (checks long) n size keys_p t_p h r p found in
          let again = is_ready r p found in
          let f : Fit K l d (message p) = message_fit p d (stand r p found) ok.0 ok.1 (ks r g e).1.sized in
          let f' : Fit K l d (message q) = message_fit q d (stand_again r p found) again.0 again.1 (ks r g e).1.sized in (
            (λ like. but_closed r g (first_of (message p)) (first_of (message q)) refl (ap told k') e
                (same_outside K l (ks r g e).0 d (message p) (message q) f f' (cl r) (like_message (checks long) n size keys_p t_p cl r (message p) (message q) _ s' refl k' like))),
            (λ like. but_seal r (message p) (message q) refl k' (outside_same K l (ks r g e).0 d (message p) (message q) f f' (cl r) (outside r g e (message p) (message q) s' k' like))),
          )
        where
          outside : (r : ℕ) (g : Given) → made long store H r ≡ Some g → (m m' : Message) (s' : Shown) → s' ≡ promised r m' → LikeTold (made long store H) (closed_in long store H) (told_round r (first_of m)) (told s')
              → Outside (seal_at g.kind (circuit_in g) g.sealing.size (cl r)) g.sealing.size (first_of m) (first_of m')
          outside r g e m m' s' k' (equal_told q) =
              let same : told_round r (first_of m') ≡ told_round r (first_of m) = sym (ap told k') ∙ q in
              let z : first_of m' ≡ first_of m = round_bytes same in
              let o = seal_at g.kind (circuit_in g) g.sealing.size (cl r) in
              record { long = ap length z; before = ap (take o) z; behind = ap (skip (o + g.sealing.size)) z }
          outside r g e m m' s' k' (but_closed r₀ g₀ x x' a b c o) =
              let a' : told_round r (first_of m) ≡ told_round r₀ x = a in
              let b' : told_round r (first_of m') ≡ told_round r₀ x' = sym (ap told k') ∙ b in
              let rs : r₀ ≡ r = sym (round_number a') in
              let gs : g₀ ≡ g = cc (sym c ∙ ap (made long store H) rs ∙ e) in
              subst₂ (λ y y'. Outside (seal_at g.kind (circuit_in g) g.sealing.size (cl r)) g.sealing.size y y') (sym (round_bytes a')) (sym (round_bytes b'))
              (subst (λ w. Outside (seal_at w.kind (circuit_in w) w.sealing.size (cl r)) w.sealing.size x x') gs
              (subst (λ w. Outside (seal_at g₀.kind (circuit_in g₀) g₀.sealing.size (cl w)) g₀.sealing.size x x') rs o))

      both_answered : (r : ℕ) (p : Promise) (b : Branch) → round (history long store H).made r ≡ Some p → (s' : Shown) → s' ≡ answered b (view_bytes (redo keys_p t_p r p).kind (opened_view (redo keys_p t_p r p) b)) (view_bytes (redo keys_p t_p r p).kind (opened_view (redo keys_p t_p r p) (next b)))
          → Both (answered b (view_bytes p.kind (opened_view p b)) (view_bytes p.kind (opened_view p (next b)))) s'
      both_answered r p b found s' k' =
          let q = redo keys_p t_p r p in
          let ok = passed (checks long) n size keys_p t_p h r p found in
          let again = is_ready r p found in
          let x = view_bytes p.kind (opened_view p b) in
          let y = view_bytes p.kind (opened_view p (next b)) in
          let x' = view_bytes q.kind (opened_view q b) in
          let y' = view_bytes q.kind (opened_view q (next b)) in
          let la : length (view_bytes q.kind (opened_view q b)) ≡ length (view_bytes p.kind (opened_view p b)) = views_long long n size q (stand_again r p found) again.0 again.1 b ∙ sym (views_long long n size p (stand r p found) ok.0 ok.1 b) in (
            (λ like. let e = like_answer (checks long) n size keys_p t_p cl b _ _ _ _ _ s' refl k' like in equal_told (ap told k' ∙ ap₂ (λ x y. told_answer (answer_bytes b x y)) e.0 e.1)),
            (λ like. let e = append_inj x' x y' y la (tails b x y x' y' (again_bytes b x y x' y' s' k' like)) in equal (k' ∙ ap₂ (answered b) e.0 e.1)),
          )
        where
          again_bytes : (b : Branch) (x y x' y' : List ℕ) (s' : Shown) → s' ≡ answered b x' y' → LikeTold (made long store H) (closed_in long store H) (told_answer (answer_bytes b x y)) (told s') → told_answer (answer_bytes b x' y') ≡ told_answer (answer_bytes b x y)
          again_bytes b x y x' y' s' k (equal_told q) = sym (ap told k) ∙ q
          again_bytes b x y x' y' s' k (but_closed r g w w' a c d o) = cc

          tails : (b : Branch) (x y x' y' : List ℕ) → told_answer (answer_bytes b x' y') ≡ told_answer (answer_bytes b x y) → x' ++ y' ≡ x ++ y
          tails b x y x' y' e = cc

      -- each call of H, with its recast
      both : (c : Call) (H0 : List Call) → ((r : ℕ) (g : Given) → made long store (c ∷ H0) r ≡ Some g → made long store H r ≡ Some g)
          → Both (outcome long store H0 c) (shows (checks long) n size (redone (checks long) n size keys_p t_p (history long store H0)) (other keys_p t_p (parse_call c) (outcome long store H0 c)))
      both (call_promise g) H0 sub =
          elim (promise_view (checks long) n size keys_p t_p P (parse g)) [
            | no_promise f k k' ↦ subst G (sym k) (both_same _ _ k')
            | yes_promise t k k' ↦ (
                let R = suc (length P.made) in
                let e = sub R g (made_here g H0 (message (parse g)) k) in
                subst G (sym k) (both_promised R g e _ (k' (is_ready R (parse g) (of_made long store H R g e)))))
          ]
        where
          P : Past
          P = history long store H0

          G : Shown → Type 0
          G s = Both s (shows (checks long) n size (redone (checks long) n size keys_p t_p P) (other keys_p t_p (promise (parse g)) s))
      both (call_answer r e z) H0 sub =
          elim (answer_view (checks long) n size keys_p t_p (history long store H0) r e z) [
            | no_answer f k k' ↦ both_same _ _ (k' ∙ sym k)
            | yes_answer p b found free k k' ↦ subst (λ s. Both s (shows (checks long) n size (redone (checks long) n size keys_p t_p (history long store H0)) (answer r e z))) (sym k)
                (both_answered r p b (found_later p found) _ k')
          ]
        where
          found_later : (p : Promise) → round (history long store H0).made r ≡ Some p → round (history long store H).made r ≡ Some p
          found_later p found = let f = to_made long store H0 r p found in of_made long store H r f.0 (sub r f.0 f.1) ∙ ap Some f.2
      both (call_drop r) H0 sub =
          elim (drop_view (checks long) n size keys_p t_p (history long store H0) r) [
            | no_drop f k k' ↦ both_same _ _ (k' ∙ sym k)
            | yes_drop p found k k' ↦ both_same _ _ (k' ∙ sym k)
          ]

      all_both : (H0 : List Call) → ((r : ℕ) (g : Given) → made long store H0 r ≡ Some g → made long store H r ≡ Some g)
          → (Likes cl (all_shown (checks long) n size (parsed H0)) (all_shown (checks long) n size (recast (checks long) n size keys_p t_p (parsed H0)))
          → LikesTold (made long store H) (closed_in long store H) (map told (all_shown (checks long) n size (parsed H0))) (map told (all_shown (checks long) n size (recast (checks long) n size keys_p t_p (parsed H0)))))
          × (LikesTold (made long store H) (closed_in long store H) (map told (all_shown (checks long) n size (parsed H0))) (map told (all_shown (checks long) n size (recast (checks long) n size keys_p t_p (parsed H0))))
          → Likes cl (all_shown (checks long) n size (parsed H0)) (all_shown (checks long) n size (recast (checks long) n size keys_p t_p (parsed H0))))
      all_both [] sub = ((λ x. x), (λ x. x))
      all_both (c ∷ H0) sub =
          let sub0 : (r : ℕ) (g : Given) → made long store H0 r ≡ Some g → made long store H r ≡ Some g = λ r g k. sub r g (made_later c H0 r g k) in
          let ready0 : Ready (checks long) n size keys_p t_p (parsed H0) =
          λ r p k. let f = to_made long store H0 r p k in is_ready r p (of_made long store H r f.0 (sub0 r f.0 f.1) ∙ ap Some f.2) in
          let b = subst (λ Q. Both (outcome long store H0 c) (shows (checks long) n size Q (other keys_p t_p (parse_call c) (outcome long store H0 c)))) (sym (past_recast (checks long) n size keys_p t_p (parsed H0) ready0)) (both c H0 sub) in
          let more = all_both H0 sub0 in
          ((λ x. (b.0 x.0, more.0 x.1)), (λ x. (b.1 x.0, more.1 x.1)))

      alike_told : Likes cl (all_shown (checks long) n size h) (all_shown (checks long) n size (recast (checks long) n size keys_p t_p h))
          → LikesTold (made long store H) (closed_in long store H) (all_told (made_from long store) H) (all_told (made_from long store) (replayed long store keys ts H))
      alike_told x = subst₂ (LikesTold (made long store H) (closed_in long store H)) (sym told_first) (sym told_again) ((all_both H (λ r g k. k)).0 x)

      alike_shown : LikesTold (made long store H) (closed_in long store H) (all_told (made_from long store) H) (all_told (made_from long store) (replayed long store keys ts H))
          → Likes cl (all_shown (checks long) n size h) (all_shown (checks long) n size (recast (checks long) n size keys_p t_p h))
      alike_shown x = (all_both H (λ r g k. k)).1 (subst₂ (LikesTold (made long store H) (closed_in long store H)) told_first told_again x)

    found_tapes : (tapes : ℕ → Tape (List ℕ)) × Fine (checks long) n size h keys_p tapes
        × ((tapes' : ℕ → Tape (List ℕ)) → Fine (checks long) n size h keys_p tapes' → Each (checks long) n size h (λ r p. (b : Branch) → (past (checks long) n size h).opened r ≡ b ∷ [] → tapes' r ≡ tapes r))
    found_tapes = hidden (checks long) n size (tests long n size) h stand keys_p fit

    t_p : ℕ → Tape (List ℕ)
    t_p = found_tapes.0

    out : ℕ → List ℕ
    out r = tape_out (made long store H r) (t_p r)

    out_is : (r : ℕ) (g : Given) → made long store H r ≡ Some g → out r ≡ tape_bytes g.kind (circuit_in g) (blind_in g.kind (circuit_in g) g.tape) (t_p r)
    unfolding out
    out_is r g e = ap (λ o. tape_out o (t_p r)) e

    tests_of : (r : ℕ) (g : Given) → made long store H r ≡ Some g → (parse g).tests ≡ Ok tt
    tests_of r g e = (both_ok _ _ (passed (checks long) n size keys_p t_p h r (parse g) (of_made long store H r g e)).0).0

    blinds_32 : (r : ℕ) (g : Given) → made long store H r ≡ Some g → (i : Branch) → length (blind_in g.kind (circuit_in g) g.tape i) ≡ 32
    blinds_32 r g e = blind_32 g.kind (circuit_in g) g.tape (read_sizes g (tests_of r g e)).1.tape_size

    link_out : Made long store H (Linked out t_p)
    unfolding t_p
    link_out r g e =
        let K = g.kind in
        let l = circuit_in g in
        let keeps = (ks r g e).0 in
        let bl = blinds_32 r g e in
        let kept = found_tapes.1.kept r (parse g) (of_made long store H r g e) in
        let is = out_is r g e in
        record {
          tape_is = ap (tape_of K l) is ∙ tape_read K l keeps (blind_in K l g.tape) (t_p r) bl kept.0 kept.1;
          tape_size = ap length is ∙ tape_length K l keeps (blind_in K l g.tape) (t_p r) bl kept.0 kept.1;
          blinds = λ i. ap (λ t. blind_in K l t i) is ∙ blinds_read K l keeps (blind_in K l g.tape) (t_p r) bl kept.0 kept.1 i;
          lawful = kept.1;
          for = kept.0;
        }

    -- the parts of bytes are the bytes of the parts of their tape
    shares_joined : (K : Kind) (l : Circuit (List ℕ)) (t : List ℕ) → length t ≡ length_of_tape K l → (i : Branch) → group_bytes K (shares_on (tape_of K l t) i) ≡ shares_in K l t i
    shares_joined K l t z one = part_written K l l.inputs (tape_shares_at K l one) t (omega arith)
    shares_joined K l t z two = part_written K l l.inputs (tape_shares_at K l two) t (omega arith)
    shares_joined K l t z three = no_bytes K

    masks_joined : (K : Kind) (l : Circuit (List ℕ)) (t : List ℕ) → length t ≡ length_of_tape K l → (i : Branch) → group_bytes K (masks_on (tape_of K l t) i) ≡ masks_in K l t i
    masks_joined K l t z one = part_written K l (mus l.gates) (tape_masks_at K l one) t (omega arith)
    masks_joined K l t z two = part_written K l (mus l.gates) (tape_masks_at K l two) t (omega arith)
    masks_joined K l t z three = part_written K l (mus l.gates) (tape_masks_at K l three) t (omega arith)

    kept_out : Made long store H (λ r g. KeptTape g.kind (circuit_in g) (cl r) g.tape (out r))
    unfolding t_p
    kept_out r g e =
        let K = g.kind in
        let l = circuit_in g in
        let k = link_out r g e in
        let kept = found_tapes.1.kept r (parse g) (of_made long store H r g e) in
        let was : length g.tape ≡ length_of_tape K l = (read_sizes g (tests_of r g e)).1.tape_size in
        record {
          size = k.tape_size;
          lawful = subst (TapeLawful K) (sym k.tape_is) k.lawful;
          as_bytes = λ by. subst Bytes (sym (out_is r g e)) (tape_in_bytes K l (ks r g e).0 g.tape (t_p r) by k.lawful);
          blinds = k.blinds;
          others = λ i away.
              let s = kept.2 i away in (
                sym (shares_joined K l (out r) k.tape_size i) ∙ ap (λ t. group_bytes K (shares_on t i)) k.tape_is ∙ ap (group_bytes K) s.0 ∙ shares_joined K l g.tape was i,
                sym (masks_joined K l (out r) k.tape_size i) ∙ ap (λ t. group_bytes K (masks_on t i)) k.tape_is ∙ ap (group_bytes K) s.1 ∙ masks_joined K l g.tape was i,
              );
        }

    fine_out : SameTold (made long store H) (closed_in long store H) (all_told (made_from long store) H) (λ ks ts. all_told (made_from long store) (replayed long store ks ts H)) keys out
    unfolding t_p
    fine_out = record { kept = kept_out; alike = alike_told out t_p link_out found_tapes.1.alike }

    module _ (ts : ℕ → List ℕ) (s : SameTold (made long store H) (closed_in long store H) (all_told (made_from long store) H) (λ ks ts. all_told (made_from long store) (replayed long store ks ts H)) keys ts) where
      t_q : ℕ → Tape (List ℕ)
      t_q r = tape_at (made long store H r) (ts r)

      t_q_is : (r : ℕ) (g : Given) → made long store H r ≡ Some g → t_q r ≡ tape_of g.kind (circuit_in g) (ts r)
      unfolding t_q
      t_q_is r g e = ap (λ o. tape_at o (ts r)) e

      link_ts : Made long store H (Linked ts t_q)
      link_ts r g e =
          let k = s.kept r g e in
          record {
            tape_is = sym (t_q_is r g e);
            tape_size = k.size;
            blinds = k.blinds;
            lawful = subst (TapeLawful g.kind) (sym (t_q_is r g e)) k.lawful;
            for = subst (TapeFor (circuit_in g)) (sym (t_q_is r g e)) (tape_for g.kind (circuit_in g) (ts r));
          }

      -- parts that are equal as bytes are equal as elements
      same_shares : (K : Kind) (l : Circuit (List ℕ)) (t u : List ℕ) (i : Branch) → shares_in K l u i ≡ shares_in K l t i → shares_on (tape_of K l u) i ≡ shares_on (tape_of K l t) i
      same_shares K l t u one e = ap (group K l.inputs) e
      same_shares K l t u two e = ap (group K l.inputs) e
      same_shares K l t u three e = refl

      same_masks : (K : Kind) (l : Circuit (List ℕ)) (t u : List ℕ) (i : Branch) → masks_in K l u i ≡ masks_in K l t i → masks_on (tape_of K l u) i ≡ masks_on (tape_of K l t) i
      same_masks K l t u one e = ap (group K (mus l.gates)) e
      same_masks K l t u two e = ap (group K (mus l.gates)) e
      same_masks K l t u three e = ap (group K (mus l.gates)) e

      fine_ts : Fine (checks long) n size h keys_p t_q
      fine_ts = record {
        kept = each_parsed long store H (λ r p. TapeFor p.lock (t_q r) × TapeLawful p.kind (t_q r) × SameBut (cl r) p.tape (t_q r)) (λ r g e.
            let k = link_ts r g e in (
              k.for,
              k.lawful,
              λ i away.
                  let o = (s.kept r g e).others i away in (
                    ap (λ t. shares_on t i) (t_q_is r g e) ∙ same_shares g.kind (circuit_in g) g.tape (ts r) i o.0,
                    ap (λ t. masks_on t i) (t_q_is r g e) ∙ same_masks g.kind (circuit_in g) g.tape (ts r) i o.1,
                  ),
            ));
        alike = alike_shown ts t_q link_ts s.alike;
      }

      only_one : Made long store H (λ r g. (b : Branch) → picks long store H r ≡ b ∷ [] → ts r ≡ out r)
      unfolding t_p
      only_one r g e b w =
          let K = g.kind in
          let l = circuit_in g in
          let k = s.kept r g e in
          let same : t_q r ≡ t_p r = found_tapes.2 t_q fine_ts r (parse g) (of_made long store H r g e) b w in
          sym (tape_written K l (ts r) k.size)
          ∙ (λ i. tape_bytes K l (fun_ext k.blinds i) ((sym (t_q_is r g e) ∙ same) i))
          ∙ sym (out_is r g e)

-- what is hidden, by what the history says
pub hidden_by : (long : ℕ) (store : List ℕ) (H : List Call) → Made long store H (λ r g. Laws g.kind × Sound g.sealing)
    → (keys : ℕ → List ℕ) → Made long store H (λ r g. KeyFits g.kind (circuit_in g) (keys r))
    → (tapes : ℕ → List ℕ) × SameTold (made long store H) (closed_in long store H) (all_told (made_from long store) H) (λ ks ts. all_told (made_from long store) (replayed long store ks ts H)) keys tapes
    × ((ts : ℕ → List ℕ) → SameTold (made long store H) (closed_in long store H) (all_told (made_from long store) H) (λ ks ts. all_told (made_from long store) (replayed long store ks ts H)) keys ts
    → Made long store H (λ r g. (b : Branch) → picks long store H r ≡ b ∷ [] → ts r ≡ tapes r))
hidden_by long store H ks keys fits = (out long store H ks keys fits, fine_out long store H ks keys fits, only_one long store H ks keys fits)

-- what the keeper tells is what its history says
pub tied : (long : ℕ) (store : List ℕ) (H : List Call) → Made long store H (λ r g. Laws g.kind) → (c : Call) → tells (run (made_from long store) H) c ≡ told (outcome long store H c)
tied long store H ks c =
    let ck = checks long in
    let st = all_stand long store H ks in
    tells_is long store H c
    ∙ ap told (same ck long store (long_fit long store) (keeper_after ck (made_from long store) (parsed H)) (history long store H) (agrees ck long store (long_fit long store) (parsed H) st) (parse_call c))
