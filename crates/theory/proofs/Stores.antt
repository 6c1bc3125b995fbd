-- The keeper over its store shows what its history says.
use Rattle.std.proofs.Common.{◌≡◌, ℕ, zero, suc, ◌+◌, ◌*◌, ◌<◌, ◌≤◌, Bool, true, false, cond, T, eqb, ltb, ◌⊎◌, List, [], ◌∷◌, ◌++◌, length, take, drop as skip, replicate, Some, None, Ok, Option, sym, refl, ap, ◌∙◌, subst, ap₂, inl, inr, arith, ltb→lt, length-append, take_all, ltb-false, eqb-true}
use mathlib.Core.Path.{fun_ext}
use lib.ListN.{length-replicate}
use lib.Seq.{take-append_seam, drop-append_seam, drop-append-add}
use lib.Dec.{eqb-suc-suc, eqb-zero-suc, eqb-suc-zero}
use borrow.Author.Tests.{eqb-false}
use Rattle.theory.specs.Branches.{Tape}
use Rattle.theory.specs.Keeper.{Keeper, made_from, kept_view, state_of, with_state, ended}
use Rattle.theory.specs.Messages.{view_bytes, branch_of, behind}
use Rattle.theory.specs.Runs.{Branch, one, two, three, next}
use Rattle.theory.specs.Store.{rounds_in, put, round_at}
use Rattle.theory.specs.declared.RoundState.{RoundState}
use Rattle.theory.proofs.Basics.{either_way}
use Rattle.theory.proofs.Histories.{round_cases, round_below, blank, earlier, newest, no_promise, yes_promise, promise_view, no_answer, yes_answer, answer_view, no_drop, yes_drop, drop_view}
use Rattle.theory.proofs.Lists.{length_snoc}
use Rattle.theory.proofs.Pasts.{Promise, Checks, Move, promise, answer, drop, Message, Shown, promised, answered, opened_view, message, Past, round, after, promise_shows, answer_shows, drop_shows, shows, past, all_shown, Each, Stands}
use Rattle.theory.proofs.Places.{place_laws}
use Rattle.theory.proofs.Slices.{length_put, inside_put, behind_put, before_put, third_of}
use Rattle.theory.proofs.Stored.{keep, lose, answers, drops, says, then, keeper_after, all_said, is_spent, spent_of}

-- the table's word on a round: whether it is spent
abbrev pub fate_by : Option Promise → Bool → Option Bool
fate_by None g = None
fate_by (Some p) g = Some g

abbrev pub fate : List RoundState → ℕ → Option Bool
fate t q = spent_of (state_of t q)

unfoldable pub spent_if : Option Bool → Option Bool
spent_if None = None
spent_if (Some b) = Some true

pub fate_marked : (t : List RoundState) (r : ℕ) (n : RoundState) → is_spent n ≡ true → (q : ℕ) → fate (with_state t r n) q ≡ cond (eqb q r) (spent_if (fate t q)) (fate t q)
unfolding spent_if
fate_marked [] r n sp q = sym (either_way (eqb q r) None)
fate_marked (f ∷ t) zero n sp zero = sym (either_way (eqb 0 0) None)
fate_marked (f ∷ t) zero n sp (suc q) = ap (λ b. cond b (spent_if (fate (f ∷ t) (suc q))) (fate (f ∷ t) (suc q))) (sym (eqb-suc-zero q))
fate_marked (f ∷ t) (suc zero) n sp zero = refl
fate_marked (f ∷ t) (suc zero) n sp (suc zero) = ap Some sp
fate_marked (f ∷ t) (suc zero) n sp (suc (suc q)) = ap (λ b. cond b (spent_if (fate t (suc q))) (fate t (suc q))) (sym (eqb-suc-suc (suc q) 0 ∙ eqb-suc-zero q))
fate_marked (f ∷ t) (suc (suc r)) n sp zero = sym (either_way (eqb 0 (suc (suc r))) None)
fate_marked (f ∷ t) (suc (suc r)) n sp (suc zero) = ap (λ b. cond b (Some true) (Some (is_spent f))) (sym (eqb-suc-suc 0 (suc r) ∙ eqb-zero-suc r))
fate_marked (f ∷ t) (suc (suc r)) n sp (suc (suc q)) =
    fate_marked t (suc r) n sp (suc q) ∙ ap (λ b. cond b (spent_if (fate t (suc q))) (fate t (suc q))) (sym (eqb-suc-suc (suc q) (suc r)))

-- a new round at the end of the table
fate_more : (t : List RoundState) (q : ℕ) → fate (t ++ (RoundState.Promised ∷ [])) q ≡ cond (eqb q (suc (length t))) (Some false) (fate t q)
fate_more [] zero = refl
fate_more [] (suc zero) = refl
fate_more [] (suc (suc q)) = ap (λ b. cond b (Some false) None) (sym (eqb-suc-suc (suc q) 0 ∙ eqb-suc-zero q))
fate_more (f ∷ t) zero = ap (λ b. cond b (Some false) None) (sym (eqb-zero-suc (suc (length t))))
fate_more (f ∷ t) (suc zero) = ap (λ b. cond b (Some false) (Some (is_spent f))) (sym (eqb-suc-suc 0 (suc (length t)) ∙ eqb-zero-suc (length t)))
fate_more (f ∷ t) (suc (suc q)) = fate_more t (suc q) ∙ ap (λ b. cond b (Some false) (fate t (suc q))) (sym (eqb-suc-suc (suc q) (suc (length t))))

round_above : (ps : List Promise) (q : Promise) → round ps 0 ≡ Some q → ◌≡◌ {A = ℕ} 0 1
round_above [] q h = cc
round_above (p ∷ ps) q h = round_above ps q (ap (λ b. cond b (Some p) (round ps 0)) (sym (eqb-zero-suc (length ps))) ∙ h)

module _ (ck : Checks) (long : ℕ) (store : List ℕ)
    (fit : (p : Promise) → Stands p → ck.early p ≡ Ok tt → ck.late p ≡ Ok tt → (i : Branch) → length (view_bytes p.kind (opened_view p i)) ≡ long) where
  abbrev n : ℕ
  n = rounds_in long (length store)

  abbrev size : ℕ
  size = 3 + 2 * long

  pub record Agrees (k : Keeper) (P : Past) : Type 0 where
    pub long_is : k.view_size ≡ long
    pub room_is : k.capacity ≡ n
    pub count : length k.table ≡ length P.made
    pub told : (q : ℕ) → fate k.table q ≡ fate_by (round P.made q) (P.gone q)
    pub whole : length k.store ≡ length store
    pub views : (q : ℕ) (p : Promise) → round P.made q ≡ Some p → P.gone q ≡ false → (i : Branch) → kept_view k q i ≡ view_bytes p.kind (opened_view p i)
    pub within : length P.made ≤ n
    pub unused : (q : ℕ) → length P.made < q → P.gone q ≡ false

  answers_same : (k : Keeper) (P : Past) → Agrees k P → (r e z : ℕ) → says ck k (answer r e z) ≡ shows ck n size P (answer r e z)
  answers_same k P a r e z = go (round P.made r) (P.gone r) (branch_of e) (eqb z size) refl refl refl refl
    where
      go : (w : Option Promise) (g : Bool) (b : Option Branch) (s : Bool) → round P.made r ≡ w → P.gone r ≡ g → branch_of e ≡ b → eqb z size ≡ s
          → says ck k (answer r e z) ≡ shows ck n size P (answer r e z)
      go w g b s ew eg eb es =
          let f : fate k.table r ≡ fate_by w g = a.told r ∙ ap₂ fate_by ew eg in
          let t : eqb z (3 + 2 * k.view_size) ≡ s = ap (λ x. eqb z (3 + 2 * x)) a.long_is ∙ es in
          (λ i. answers k (f i) (eb i) (t i) r e) ∙ at w g b s ew eg ∙ (λ i. answer_shows ck n size (sym ew i) (sym eg i) (sym eb i) (sym es i) r e)
        where
          at : (w : Option Promise) (g : Bool) (b : Option Branch) (s : Bool) → round P.made r ≡ w → P.gone r ≡ g → answers k (fate_by w g) b s r e ≡ answer_shows ck n size w g b s r e
          at None g b s ew eg = refl
          at (Some p) true b s ew eg = refl
          at (Some p) false None s ew eg = refl
          at (Some p) false (Some b) false ew eg = refl
          at (Some p) false (Some b) true ew eg = ap₂ (answered b) (a.views r p ew eg b) (a.views r p ew eg (next b))

  drops_same : (k : Keeper) (P : Past) → Agrees k P → (r : ℕ) → says ck k (drop r) ≡ shows ck n size P (drop r)
  drops_same k P a r = ap (λ f. drops f r) (a.told r) ∙ at (round P.made r) (P.gone r)
    where
      at : (w : Option Promise) (g : Bool) → drops (fate_by w g) r ≡ drop_shows ck n size w g r
      at None g = refl
      at (Some p) true = refl
      at (Some p) false = refl

  promises_same : (k : Keeper) (P : Past) → Agrees k P → (p : Promise) → says ck k (promise p) ≡ shows ck n size P (promise p)
  promises_same k P a p =
      λ i. promise_shows ck (a.room_is i) (3 + 2 * a.long_is i) (ck.early p) (ltb (a.count i) (a.room_is i)) (ck.late p) (suc (a.count i)) p

  pub same : (k : Keeper) (P : Past) → Agrees k P → (c : Move) → says ck k c ≡ shows ck n size P c
  same k P a (promise p) = promises_same k P a p
  same k P a (answer r e z) = answers_same k P a r e z
  same k P a (drop r) = drops_same k P a r

  -- a round's place lies in the store
  place_in : (k : Keeper) (P : Past) → Agrees k P → (r : ℕ) → 1 ≤ r → r ≤ n → round_at k.view_size r + 3 * k.view_size ≤ length k.store
  place_in k P a r h b =
      let top : round_at long r + 3 * long ≤ length k.store = omega (arith, (place_laws long (length store)).within r h b, a.whole) in
      subst (λ x. round_at x r + 3 * x ≤ length k.store) (sym a.long_is) top

  -- a write to one round leaves the others
  other_round : (k : Keeper) (P : Past) → Agrees k P → (r q : ℕ) (x : List ℕ) → length x ≡ 3 * k.view_size → 1 ≤ r → r ≤ n → 1 ≤ q → (q < r) ⊎ (r < q) → (i : Branch)
      → take k.view_size (skip (round_at k.view_size q + k.view_size * behind i) (put k.store (round_at k.view_size r) x)) ≡ kept_view k q i
  other_round k P a r q x lx h b hq (inl c) i =
      let l = (place_laws k.view_size 0).apart q r hq c in
      let t = third_of k.view_size i in
      let w = place_in k P a r h b in
      before_put k.store (round_at k.view_size r) x (round_at k.view_size q + k.view_size * behind i) k.view_size (omega arith) (omega arith)
  other_round k P a r q x lx h b hq (inr c) i =
      let l = (place_laws k.view_size 0).apart r q h c in
      let w = place_in k P a r h b in
      behind_put k.store (round_at k.view_size r) x (round_at k.view_size q + k.view_size * behind i) k.view_size (omega arith) (omega arith)

  round_from : (ps : List Promise) (r : ℕ) (p : Promise) → round ps r ≡ Some p → 1 ≤ r
  round_from ps zero p h = let z : ◌≡◌ {A = ℕ} 0 1 = round_above ps p h in absurd (omega arith)
  round_from ps (suc r) p h = omega arith

  length_marked : (t : List RoundState) (r : ℕ) (n : RoundState) → length (with_state t r n) ≡ length t
  length_marked [] r n = refl
  length_marked (f ∷ t) zero n = refl
  length_marked (f ∷ t) (suc zero) n = refl
  length_marked (f ∷ t) (suc (suc r)) n = ap suc (length_marked t (suc r) n)

  apart : (q r : ℕ) → eqb q r ≡ false → (q < r) ⊎ (r < q)
  apart q r e = go (ltb q r) refl (ltb r q) refl
    where
      go : (x : Bool) → ltb q r ≡ x → (y : Bool) → ltb r q ≡ y → (q < r) ⊎ (r < q)
      go true u y w = inl (ltb→lt q r (subst T (sym u) tt))
      go false u true w = inr (ltb→lt r q (subst T (sym w) tt))
      go false u false w =
          let x : r ≤ q = ltb-false q r u in
          let y : q ≤ r = ltb-false r q w in
          let z : q ≡ r = omega arith in
          absurd (eqb-false q r e z)

  spend_agrees : (k : Keeper) (P : Past) → Agrees k P → (r : ℕ) (p : Promise) → round P.made r ≡ Some p
      → (st : RoundState) → is_spent st ≡ true → (op : ℕ → List Branch) → Agrees (ended k r st) (record { made = P.made; gone = λ q. cond (eqb q r) true (P.gone q); opened = op })
  unfolding spent_if
  spend_agrees k P a r p found st sp op = record {
    long_is = a.long_is;
    room_is = a.room_is;
    count = length_marked k.table r st ∙ a.count;
    told = λ q. fate_marked k.table r st sp q ∙ ap (λ f. cond (eqb q r) (spent_if f) f) (a.told q) ∙ tell (eqb q r) (round P.made q) (P.gone q);
    whole = length_put k.store (round_at k.view_size r) (replicate (3 * k.view_size) 0) (omega (arith, zeros, room)) ∙ a.whole;
    views = λ q p' f g i. stays q p' f (eqb q r) refl g i;
    within = a.within;
    unused = λ q h. free q h (eqb q r) refl;
  }
    where
      tell : (x : Bool) (w : Option Promise) (g : Bool) → cond x (spent_if (fate_by w g)) (fate_by w g) ≡ fate_by w (cond x true g)
      tell true None g = refl
      tell true (Some p) true = refl
      tell true (Some p) false = refl
      tell false w g = refl

      low : r ≤ length P.made
      low = round_below P.made r p found

      from : 1 ≤ r
      from = round_from P.made r p found

      zeros : length {A = ℕ} (replicate (3 * k.view_size) 0) ≡ 3 * k.view_size
      zeros = length-replicate (3 * k.view_size) 0

      top : r ≤ n
      top = omega (arith, low, a.within)

      room : round_at k.view_size r + 3 * k.view_size ≤ length k.store
      room = place_in k P a r from top

      stays : (q : ℕ) (p' : Promise) → round P.made q ≡ Some p' → (x : Bool) → eqb q r ≡ x → cond x true (P.gone q) ≡ false → (i : Branch) → kept_view (ended k r st) q i ≡ view_bytes p'.kind (opened_view p' i)
      stays q p' f true e g i = cc
      stays q p' f false e g i = other_round k P a r q (replicate (3 * k.view_size) 0) zeros from top (round_from P.made q p' f) (apart q r e) i ∙ a.views q p' f g i

      free : (q : ℕ) → length P.made < q → (x : Bool) → eqb q r ≡ x → cond x true (P.gone q) ≡ false
      free q h true e = let z : q ≡ r = eqb-true _ _ e in absurd (omega (arith, low))
      free q h false e = a.unused q h

  part : (m : ℕ) (x y z : List ℕ) → length x ≡ m → length y ≡ m → length z ≡ m → (i : Branch) (f : Branch → List ℕ) → f one ≡ x → f two ≡ y → f three ≡ z
      → take m (skip (m * behind i) (x ++ (y ++ z))) ≡ f i
  part m x y z hx hy hz one f p q r =
      let e : m * 0 ≡ 0 = omega arith in
      ap (λ j. take m (skip j (x ++ (y ++ z)))) e
      ∙ ap (λ j. take j (x ++ (y ++ z))) (sym hx) ∙ take-append_seam x (y ++ z) ∙ sym p
  part m x y z hx hy hz two f p q r =
      let e : m * 1 ≡ length x = omega arith in
      ap (λ j. take m (skip j (x ++ (y ++ z)))) e
      ∙ ap (take m) (drop-append_seam x (y ++ z))
      ∙ ap (λ j. take j (y ++ z)) (sym hy) ∙ take-append_seam y z ∙ sym q
  part m x y z hx hy hz three f p q r =
      let e : m * 2 ≡ length x + length y = omega arith in
      ap (λ j. take m (skip j (x ++ (y ++ z)))) e
      ∙ ap (take m) (drop-append-add x (y ++ z) (length y) ∙ drop-append_seam y z)
      ∙ take_all m z (omega arith) ∙ sym r

  promise_agrees : (k : Keeper) (P : Past) → Agrees k P → (p : Promise) (m : Message) → Stands p → ck.early p ≡ Ok tt → ck.late p ≡ Ok tt → ltb (length P.made) n ≡ true
      → Agrees (keep k (suc (length k.table)) p (promised (suc (length P.made)) m)) (record { made = p ∷ P.made; gone = P.gone; opened = P.opened })
  promise_agrees k P a p m kp early l room = record {
    long_is = a.long_is;
    room_is = a.room_is;
    count = length_snoc k.table RoundState.Promised ∙ ap suc a.count;
    told = λ q. fate_more k.table q ∙ ap₂ (λ c f. cond (eqb q (suc c)) (Some false) f) a.count (a.told q) ∙ tell q (eqb q (suc (length P.made))) refl;
    whole = length_put k.store (round_at k.view_size R) X (omega (arith, x_long, in_store)) ∙ a.whole;
    views = λ q p' f g i. stays q p' (round_cases p P.made q p' f) g i;
    within = top;
    unused = λ q h. a.unused q (omega arith);
  }
    where
      R : ℕ
      R = suc (length k.table)

      X : List ℕ
      X = view_bytes p.kind (opened_view p one) ++ (view_bytes p.kind (opened_view p two) ++ view_bytes p.kind (opened_view p three))

      each_long : (i : Branch) → length (view_bytes p.kind (opened_view p i)) ≡ k.view_size
      each_long i = fit p kp early l i ∙ sym a.long_is

      x_long : length X ≡ 3 * k.view_size
      x_long = length-append (view_bytes p.kind (opened_view p one)) (view_bytes p.kind (opened_view p two) ++ view_bytes p.kind (opened_view p three)) ∙ omega (arith, length-append (view_bytes p.kind (opened_view p two)) (view_bytes p.kind (opened_view p three)), each_long one, each_long two, each_long three)

      top : suc (length P.made) ≤ n
      top = ltb→lt (length P.made) n (subst T (sym room) tt)

      r_is : R ≡ suc (length P.made)
      r_is = ap suc a.count

      in_store : round_at k.view_size R + 3 * k.view_size ≤ length k.store
      in_store = place_in k P a R (omega (arith, r_is)) (omega (arith, r_is, top))

      tell : (q : ℕ) (x : Bool) → eqb q (suc (length P.made)) ≡ x → cond x (Some false) (fate_by (round P.made q) (P.gone q)) ≡ fate_by (cond x (Some p) (round P.made q)) (P.gone q)
      tell q true e = let z : q ≡ suc (length P.made) = eqb-true _ _ e in ap (fate_by (Some p)) (sym (a.unused q (omega arith)))
      tell q false e = refl

      stays : (q : ℕ) (p' : Promise) → ((q ≡ suc (length P.made)) × (p ≡ p')) ⊎ (round P.made q ≡ Some p') → P.gone q ≡ false → (i : Branch)
          → take k.view_size (skip (round_at k.view_size q + k.view_size * behind i) (put k.store (round_at k.view_size R) X)) ≡ view_bytes p'.kind (opened_view p' i)
      stays q p' (inl u) g i =
          ap (λ x. take k.view_size (skip (round_at k.view_size x + k.view_size * behind i) (put k.store (round_at k.view_size R) X))) (u.0 ∙ sym r_is)
          ∙ inside_put k.store (round_at k.view_size R) X (k.view_size * behind i) k.view_size (omega (arith, in_store)) (omega (arith, x_long, third_of k.view_size i))
          ∙ part k.view_size _ _ _ (each_long one) (each_long two) (each_long three) i (λ j. view_bytes p.kind (opened_view p j)) refl refl refl
          ∙ ap (λ x. view_bytes x.kind (opened_view x i)) u.1
      stays q p' (inr u) g i =
          let low = round_below P.made q p' u in
          let c : q < R = omega (arith, r_is) in
          other_round k P a R q X x_long (omega (arith, r_is)) (omega (arith, r_is, top)) (round_from P.made q p' u) (inl c) i
          ∙ a.views q p' u g i

  start : Agrees (made_from long store) (past ck n size [])
  start = record {
    long_is = refl;
    room_is = refl;
    count = refl;
    told = λ q. refl;
    whole = refl;
    views = λ q p f g i. cc;
    within = omega arith;
    unused = λ q h. refl;
  }

  abbrev no_keys : ℕ → List (List ℕ)
  no_keys r = []

  abbrev no_tapes : ℕ → Tape (List ℕ)
  no_tapes r = blank

  -- a refused call leaves the past as it is
  unspent : (P : Past) (r : ℕ) → P ≡ record { made = P.made; gone = λ q. cond (eqb q r) (P.gone q) (P.gone q); opened = λ q. cond (eqb q r) (P.opened q) (P.opened q) }
  unspent P r =
      let g = fun_ext (λ q. sym (either_way (eqb q r) (P.gone q))) in
      let o = fun_ext (λ q. sym (either_way (eqb q r) (P.opened q))) in
      λ i. record { made = P.made; gone = g i; opened = o i }

  step : (k : Keeper) (P : Past) → Agrees k P → (c : Move)
      → ((p : Promise) → c ≡ promise p → shows ck n size P (promise p) ≡ promised (suc (length P.made)) (message p) → Stands p)
      → Agrees (then ck k c) (after P c (shows ck n size P c))
  step k P a (promise p) ks =
      let G : Shown → Type 0 = λ s. Agrees (keep k (suc (length k.table)) p s) (after P (promise p) s) in
      subst (λ s. Agrees (keep k (suc (length k.table)) p s) (after P (promise p) (shows ck n size P (promise p)))) (sym (same k P a (promise p)))
      (elim (promise_view ck n size no_keys no_tapes P p) [
        | no_promise f e e' ↦ subst G (sym e) a
        | yes_promise t e e' ↦ subst G (sym e) (promise_agrees k P a p (message p) (ks p refl e) t.0 t.1 t.2)
      ])
  step k P a (answer r e z) ks =
      let G : Shown → Type 0 = λ s. Agrees (lose k r s) (after P (answer r e z) s) in
      subst (λ s. Agrees (lose k r s) (after P (answer r e z) (shows ck n size P (answer r e z)))) (sym (same k P a (answer r e z)))
      (elim (answer_view ck n size no_keys no_tapes P r e z) [
        | no_answer f t t' ↦ subst G (sym t) (subst (Agrees k) (unspent P r) a)
        | yes_answer p b found free t t' ↦ subst G (sym t) (spend_agrees k P a r p found RoundState.Answered refl (λ q. cond (eqb q r) (b ∷ P.opened q) (P.opened q)))
      ])
  step k P a (drop r) ks =
      let G : Shown → Type 0 = λ s. Agrees (lose k r s) (after P (drop r) s) in
      subst (λ s. Agrees (lose k r s) (after P (drop r) (shows ck n size P (drop r)))) (sym (same k P a (drop r)))
      (elim (drop_view ck n size no_keys no_tapes P r) [
        | no_drop f t t' ↦ subst G (sym t) (subst (Agrees k) (unspent P r) a)
        | yes_drop p found t t' ↦ subst G (sym t) (spend_agrees k P a r p found RoundState.Dropped refl (λ q. cond (eqb q r) (P.opened q) (P.opened q)))
      ])

  abbrev Lawful : List Move → Type 0
  Lawful h = Each ck n size h (λ r p. Stands p)

  lawful_before : (c : Move) (h : List Move) → Lawful (c ∷ h) → Lawful h
  lawful_before c h ks r p k = ks r p (earlier ck n size no_keys no_tapes c h r p k)

  pub agrees : (h : List Move) → Lawful h → Agrees (keeper_after ck (made_from long store) h) (past ck n size h)
  agrees [] ks = start
  agrees (c ∷ h) ks =
      step (keeper_after ck (made_from long store) h) (past ck n size h) (agrees h (lawful_before c h ks)) c
      (λ p e k. ks _ p (ap (λ d. round (past ck n size (d ∷ h)).made (suc (length (past ck n size h).made))) e ∙ newest ck n size no_keys no_tapes p h (message p) k))

  pub all_same : (h : List Move) → Lawful h → all_said ck (made_from long store) h ≡ all_shown ck n size h
  all_same [] ks = refl
  all_same (c ∷ h) ks = ap₂ {C = List Shown} (λ s ss. s ∷ ss) (same (keeper_after ck (made_from long store) h) (past ck n size h) (agrees h (lawful_before c h ks)) c) (all_same h (lawful_before c h ks))
