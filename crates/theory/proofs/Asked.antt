-- Calls on bytes are calls of the history.
use Rattle.std.proofs.Common.{◌≡◌, ℕ, suc, ◌+◌, ◌*◌, ◌≤◌, Bool, true, false, cond, eqb, List, [], ◌∷◌, map, length, Some, None, Ok, Err, Option, Result, sym, refl, ap, ◌∙◌, subst, ap₂, arith, length-drop, length-take}
use Rattle.std.proofs.lemmas.Bool.{eqb-true, eq-eqb, leb-true, le-leb}
use Rattle.std.specs.List.{AllByRecursion}
use Rattle.faults.specs.declared.Fault.{Fault}
use Rattle.kinds.specs.Kind.{Kind, Lawful, Laws}
use Rattle.locks.specs.Circuit.{Circuit}
use Rattle.locks.specs.Reading.{lock_of}
use Rattle.theory.specs.Algebra.{ops_of}
use Rattle.theory.specs.Branches.{ViewFor, view, out_shares}
use Rattle.theory.specs.Extraction.{read_circuit}
use Rattle.theory.specs.History.{Call, call_promise, call_answer, call_drop, Told, tells, run, all_told}
use Rattle.theory.specs.Keeper.{Keeper, made_from, Given, circuit_in, promise_sizes}
use Rattle.theory.specs.Lawfulness.{ViewLawful}
use Rattle.theory.specs.Messages.{length_of_key, view_bytes, length_of_view, blind_in, length_of_tape, length_of_first, length_of_work}
use Rattle.theory.specs.Runs.{Branch, one, two, three}
use Rattle.theory.specs.Store.{rounds_in}
use Rattle.theory.proofs.Asks.{given_tests, parse, parse_call, checks, told, parsed, noted, history, made, Made}
use Rattle.theory.proofs.Bridges.{tells_by, goes_by}
use Rattle.faults.proofs.Passed.{check_ok}
use Rattle.theory.proofs.Checked.{first_none, none_first, lawful_all, all_lawful, unlike_same, same_unlike, both_ok, both_fine, check_fine, group_ok, ok_group}
use Rattle.theory.proofs.Groups.{counted}
use Rattle.theory.proofs.Histories.{blank, PromiseView, no_promise, yes_promise, promise_view}
use Rattle.theory.proofs.Lifted.{complete_on}
use Rattle.theory.proofs.Parts.{tape_is, tape_for, long_view}
use Rattle.theory.proofs.Pasts.{Promise, Checks, Move, promise, answer, drop, Shown, refused, promised, answered, dropped, Stands, opened_view, Past, round, note, Each, Values, Tests}
use Rattle.theory.proofs.Readings.{circuit_lawful}
use Rattle.theory.proofs.Stored.{keep, lose, says, then, keeper_after, all_said}

-- what no fault 1 to 7 of a promise says, but for the last
pub record Sizes (g : Given) (l : Circuit (List ℕ)) : Type 0 where
  pub sealable : length_of_view g.kind l ≤ g.sealing.longest
  pub key_size : length g.key ≡ length_of_key g.kind l
  pub tape_size : length g.tape ≡ length_of_tape g.kind l
  pub work1_size : length_of_work g.kind l ≤ g.work1
  pub work2_size : length_of_work g.kind l ≤ g.work2
  pub work3_size : length_of_work g.kind l ≤ g.work3
  pub first_size : g.first ≡ length_of_first g.kind l g.sealing.size

pub sizes : (g : Given) (l : Circuit (List ℕ)) → promise_sizes g l ≡ Ok tt → Sizes g l
sizes g l h =
    let a = check_ok _ _ _ _ h in
    let b = check_ok _ _ _ _ a.1 in
    let c = check_ok _ _ _ _ b.1 in
    let d = check_ok _ _ _ _ c.1 in
    let e = check_ok _ _ _ _ d.1 in
    let f = check_ok _ _ _ _ e.1 in
    let k = check_ok _ _ _ _ f.1 in
    record {
      sealable = leb-true _ _ a.0;
      key_size = eqb-true _ _ b.0;
      tape_size = eqb-true _ _ c.0;
      work1_size = leb-true _ _ d.0;
      work2_size = leb-true _ _ e.0;
      work3_size = leb-true _ _ f.0;
      first_size = eqb-true _ _ k.0;
    }

pub sizes_fine : (g : Given) (l : Circuit (List ℕ)) → Sizes g l → promise_sizes g l ≡ Ok tt
sizes_fine g l s =
    check_fine _ (le-leb _ _ s.sealable) (check_fine _ (eq-eqb _ _ s.key_size) (check_fine _ (eq-eqb _ _ s.tape_size)
    (check_fine _ (le-leb _ _ s.work1_size) (check_fine _ (le-leb _ _ s.work2_size) (check_fine _ (le-leb _ _ s.work3_size) (check_fine _ (eq-eqb _ _ s.first_size) refl))))))

-- a promise without a fault has read its lock
pub read_sizes : (g : Given) → (parse g).tests ≡ Ok tt → (lock_of g.kind g.lock ≡ Ok (circuit_in g)) × Sizes g (circuit_in g)
read_sizes g h = go (lock_of g.kind g.lock) refl h
  where
    go : (r : Result (Circuit (List ℕ)) Fault) → lock_of g.kind g.lock ≡ r → given_tests r g ≡ Ok tt → (r ≡ Ok (read_circuit r)) × Sizes g (read_circuit r)
    go (Err f) e k = cc
    go (Ok l) e k = (refl, sizes g l k)

pub blind_32 : (K : Kind) (l : Circuit (List ℕ)) (t : List ℕ) → length t ≡ length_of_tape K l → (i : Branch) → length (blind_in K l t i) ≡ 32
blind_32 K l t h one = simp (length-take, length-drop) (omega (arith, tape_is K l))
blind_32 K l t h two = simp (length-take, length-drop) (omega (arith, tape_is K l))
blind_32 K l t h three = simp (length-take, length-drop) (omega (arith, tape_is K l))

pub parse_stands : (g : Given) → Laws g.kind → Stands (parse g)
parse_stands g keeps = (
  keeps,
  (λ h. let r = read_sizes g h in (circuit_lawful g.kind keeps.most_width g.lock (circuit_in g) r.0, blind_32 g.kind (circuit_in g) g.tape r.1.tape_size)),
  counted g.kind _ _,
  tape_for g.kind (circuit_in g) g.tape,
)

module _ (long : ℕ) (n size : ℕ) where
  pub values : (p : Promise) → Stands p → (checks long).late p ≡ Ok tt → Values (checks long) n size p
  values p st h =
      let a = both_ok _ _ h in
      let b = both_ok _ _ a.0 in
      let c = both_ok _ _ a.1 in
      let d = both_ok _ _ c.1 in
      let e = both_ok _ _ d.1 in
      let f = both_ok _ _ e.1 in
      let K = p.kind in
      let t = p.tape in
      record {
        key_lawful = lawful_all K _ (first_none _ _ b.0);
        fits = record { size = st.2; meets = unlike_same _ _ (first_none _ _ b.1) };
        tape_lawful = record {
          share1_lawful = group_ok K _ _ t.share1 c.0;
          share2_lawful = group_ok K _ _ t.share2 d.0;
          mask1_lawful = group_ok K _ _ t.mask1 e.0;
          mask2_lawful = group_ok K _ _ t.mask2 f.0;
          mask3_lawful = group_ok K _ _ t.mask3 f.1;
        };
        tape_for = st.3;
      }

  pub late_fine : (p : Promise) → Values (checks long) n size p → (checks long).late p ≡ Ok tt
  late_fine p v =
      let o = v.tape_lawful in
      let K = p.kind in
      both_fine (both_fine (none_first _ (all_lawful K _ v.key_lawful)) (none_first _ (same_unlike v.fits.meets)))
      (both_fine (ok_group K _ _ _ o.share1_lawful) (both_fine (ok_group K _ _ _ o.share2_lawful) (both_fine (ok_group K _ _ _ o.mask1_lawful) (both_fine (ok_group K _ _ _ o.mask2_lawful) (ok_group K _ _ _ o.mask3_lawful)))))

  pub tests : Tests (checks long) n size
  tests = record {
    locks = λ p st h. (st.1 (both_ok _ _ h).0).0;
    blinds = λ p st h. (st.1 (both_ok _ _ h).0).1;
    passing = values;
    passed_by = late_fine;
    blind_to = λ p keys tapes r st h v. h;
  }

  -- an accepted promise's views
  pub views : (p : Promise) → Stands p → (checks long).early p ≡ Ok tt → (checks long).late p ≡ Ok tt → (i : Branch)
      → ViewFor p.lock (view (ops_of p.kind) p.lock p.key p.tape i) × ViewLawful p.kind (view (ops_of p.kind) p.lock p.key p.tape i) × AllByRecursion (Lawful p.kind) (out_shares (ops_of p.kind) p.lock p.key p.tape i)
  views p st e h i =
      let v = values p st h in
      let c = complete_on st.0 p.lock (st.1 (both_ok _ _ e).0).0 p.key v.key_lawful p.tape v.tape_lawful v.fits v.tape_for i in
      (c.0.size_a, c.1, c.2)

  pub views_long : (p : Promise) → Stands p → (checks long).early p ≡ Ok tt → (checks long).late p ≡ Ok tt → (i : Branch) → length (view_bytes p.kind (opened_view p i)) ≡ long
  views_long p st e h i =
      let a = both_ok _ _ e in
      let r = views p st e h i in
      long_view p.kind p.lock st.0 (opened_view p i) ((st.1 a.0).1 i) r.0 r.1 ∙ eqb-true _ _ (check_ok _ _ _ _ a.1).0

keep_long : (k : Keeper) (r : ℕ) (p : Promise) (s : Shown) → (keep k r p s).view_size ≡ k.view_size
keep_long k r p (refused f) = refl
keep_long k r p (promised q m) = refl
keep_long k r p (answered b x y) = refl
keep_long k r p dropped = refl

lose_long : (k : Keeper) (r : ℕ) (s : Shown) → (lose k r s).view_size ≡ k.view_size
lose_long k r (refused f) = refl
lose_long k r (promised q m) = refl
lose_long k r (answered b x y) = refl
lose_long k r dropped = refl

then_long : (ck : Checks) (k : Keeper) (c : Move) → (then ck k c).view_size ≡ k.view_size
then_long ck k (promise p) = keep_long k _ p (says ck k (promise p))
then_long ck k (answer r e z) = lose_long k r (says ck k (answer r e z))
then_long ck k (drop r) = lose_long k r (says ck k (drop r))

after_long : (ck : Checks) (k : Keeper) (h : List Move) → (keeper_after ck k h).view_size ≡ k.view_size
after_long ck k [] = refl
after_long ck k (c ∷ h) = then_long ck (keeper_after ck k h) c ∙ after_long ck k h

abbrev pub parsed_some : Option Given → Option Promise
parsed_some None = None
parsed_some (Some g) = Some (parse g)

module _ (long : ℕ) (store : List ℕ) where
  abbrev k0 : Keeper
  k0 = made_from long store

  abbrev n : ℕ
  n = rounds_in long (length store)

  abbrev size : ℕ
  size = 3 + 2 * long

  pub run_is : (H : List Call) → run k0 H ≡ keeper_after (checks long) k0 (parsed H)
  run_is [] = refl
  run_is (c ∷ H) =
      goes_by (run k0 H) c
      ∙ ap (λ k. then (checks k.view_size) k (parse_call c)) (run_is H)
      ∙ ap (λ x. then (checks x) (keeper_after (checks long) k0 (parsed H)) (parse_call c)) (after_long (checks long) k0 (parsed H))

  pub tells_is : (H : List Call) (c : Call) → tells (run k0 H) c ≡ told (says (checks long) (keeper_after (checks long) k0 (parsed H)) (parse_call c))
  tells_is H c =
      tells_by (run k0 H) c
      ∙ ap (λ k. told (says (checks k.view_size) k (parse_call c))) (run_is H)
      ∙ ap (λ x. told (says (checks x) (keeper_after (checks long) k0 (parsed H)) (parse_call c))) (after_long (checks long) k0 (parsed H))

  pub all_told_is : (H : List Call) → all_told k0 H ≡ map told (all_said (checks long) k0 (parsed H))
  all_told_is [] = refl
  all_told_is (c ∷ H) = ap₂ {C = List Told} (λ s ss. s ∷ ss) (tells_is H c) (all_told_is H)

  -- the accepted promises, by their rounds
  pub made_is : (H : List Call) (r : ℕ) → round (history long store H).made r ≡ parsed_some (made long store H r)
  made_is [] r = refl
  made_is (call_promise g ∷ H) r = go (made_is H r) (promise_view (checks long) n size (λ _. []) (λ _. blank) (history long store H) (parse g))
    where
      P : Past
      P = history long store H

      at : (b : Bool) → round (history long store H).made r ≡ parsed_some (made long store H r) → cond b (Some (parse g)) (round (history long store H).made r) ≡ parsed_some (cond b (Some g) (made long store H r))
      at true ih = refl
      at false ih = ih

      go : round (history long store H).made r ≡ parsed_some (made long store H r) → PromiseView (checks long) n size (λ _. []) (λ _. blank) (history long store H) (parse g)
          → round (history long store (call_promise g ∷ H)).made r ≡ parsed_some (made long store (call_promise g ∷ H) r)
      go ih (no_promise f e e') =
          ap (λ s. round (note s (parse g) (history long store H).made) r) e ∙ ih ∙ ap (λ s. parsed_some (noted s g r (made long store H r))) (sym e)
      go ih (yes_promise t e e') =
          ap (λ s. round (note s (parse g) (history long store H).made) r) e ∙ at (eqb r (suc (length (history long store H).made))) ih ∙ ap (λ s. parsed_some (noted s g r (made long store H r))) (sym e)
  made_is (call_answer q e z ∷ H) r = made_is H r
  made_is (call_drop q ∷ H) r = made_is H r

  pub of_made : (H : List Call) (r : ℕ) (g : Given) → made long store H r ≡ Some g → round (history long store H).made r ≡ Some (parse g)
  of_made H r g h = made_is H r ∙ ap parsed_some h

  pub to_made : (H : List Call) (r : ℕ) (p : Promise) → round (history long store H).made r ≡ Some p → (g : Given) × (made long store H r ≡ Some g) × (parse g ≡ p)
  to_made H r p h = go (made long store H r) refl (sym (made_is H r) ∙ h)
    where
      go : (o : Option Given) → made long store H r ≡ o → parsed_some o ≡ Some p → (g : Given) × (made long store H r ≡ Some g) × (parse g ≡ p)
      go None e k = cc
      go (Some g) e k = (g, e, cc)

  pub each_parsed : (H : List Call) (Q : ℕ → Promise → Type 0) → Made long store H (λ r g. Q r (parse g)) → Each (checks long) n size (parsed H) Q
  each_parsed H Q h r p k = let f = to_made H r p k in subst (Q r) f.2 (h r f.0 f.1)

  pub all_stand : (H : List Call) → Made long store H (λ r g. Laws g.kind) → Each (checks long) n size (parsed H) (λ r p. Stands p)
  all_stand H ks = each_parsed H (λ r p. Stands p) (λ r g k. parse_stands g (ks r g k))

  pub long_fit : (p : Promise) → Stands p → (checks long).early p ≡ Ok tt → (checks long).late p ≡ Ok tt → (i : Branch) → length (view_bytes p.kind (opened_view p i)) ≡ long
  long_fit = views_long long n size
