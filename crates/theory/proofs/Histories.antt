-- A history and its recast: the same calls are accepted, and the same is shown.
use Rattle.std.proofs.Common.{◌≡◌, ℕ, suc, ◌≤◌, Bool, true, false, cond, eqb, ltb, ◌⊎◌, List, [], ◌∷◌, length, Some, None, Ok, Err, Option, sym, refl, ap, ◌∙◌, subst, ap₂, inl, inr, arith, eqb-true}
use Rattle.std.proofs.lemmas.Bool.{eq-eqb}
use Rattle.std.specs.List.{AllByRecursion}
use Rattle.faults.specs.declared.Fault.{Fault}
use Rattle.kinds.specs.Kind.{Lawful, Laws}
use Rattle.theory.specs.Algebra.{ops_of}
use Rattle.theory.specs.Branches.{Tape, TapeFor, view, ViewFor}
use Rattle.theory.specs.Lawfulness.{CircuitLawful, TapeLawful, ViewLawful}
use Rattle.theory.specs.Messages.{view_bytes, branch_of}
use Rattle.theory.specs.Runs.{Branch, one, next, Fits}
use Rattle.theory.specs.Tests.{Verdict}
use Rattle.theory.proofs.Basics.{either_way}
use Rattle.theory.proofs.Claims.{SameBut, Alike}
use Rattle.theory.proofs.Lifted.{complete_on, hides_on}
use Rattle.theory.proofs.Parts.{same_views}
use Rattle.theory.proofs.Pasts.{Promise, Checks, Move, promise, answer, drop, Message, Shown, refused, promised, answered, dropped, opened_view, message, Past, round, note, ends, opens, after, redo, other, Same, Like, equal, but_seal, Likes, closed_of, promise_shows, answer_shows, drop_shows, shows, past, all_shown, recast, closed, Each, Fine, Once, Values, Tests, Hidden, Stands}
use Rattle.theory.proofs.Rounds.{not_closed}

pub round_here : (p : Promise) (ps : List Promise) → round (p ∷ ps) (suc (length ps)) ≡ Some p
round_here p ps = ap (λ b. cond b (Some p) (round ps (suc (length ps)))) (eq-eqb (suc (length ps)) _ refl)

-- the round is the latest, or an earlier one
pub round_cases : (p : Promise) (ps : List Promise) (r : ℕ) (q : Promise) → round (p ∷ ps) r ≡ Some q → ((r ≡ suc (length ps)) × (p ≡ q)) ⊎ (round ps r ≡ Some q)
round_cases p ps r q h = go (eqb r (suc (length ps))) refl h
  where
    go : (b : Bool) → eqb r (suc (length ps)) ≡ b → cond b (Some p) (round ps r) ≡ Some q → ((r ≡ suc (length ps)) × (p ≡ q)) ⊎ (round ps r ≡ Some q)
    go true e k = inl (eqb-true _ _ e, cc)
    go false e k = inr k

pub round_below : (ps : List Promise) (r : ℕ) (q : Promise) → round ps r ≡ Some q → r ≤ length ps
round_below [] r q h = cc
round_below (p ∷ ps) r q h = elim (round_cases p ps r q h) [ inl k ↦ omega (arith, k.0) | inr k ↦ omega (arith, round_below ps r q k) ]

pub round_later : (p : Promise) (ps : List Promise) (r : ℕ) (q : Promise) → round ps r ≡ Some q → round (p ∷ ps) r ≡ Some q
round_later p ps r q h = go (eqb r (suc (length ps))) refl
  where
    below : r ≤ length ps
    below = round_below ps r q h

    go : (b : Bool) → eqb r (suc (length ps)) ≡ b → cond b (Some p) (round ps r) ≡ Some q
    go true e = let z : r ≡ suc (length ps) = eqb-true _ _ e in absurd (omega (arith, below))
    go false e = h

round_note : (s : Shown) (p : Promise) (ps : List Promise) (r : ℕ) (q : Promise) → round ps r ≡ Some q → round (note s p ps) r ≡ Some q
round_note (refused f) p ps r q h = h
round_note (promised k m) p ps r q h = round_later p ps r q h
round_note (answered b x y) p ps r q h = h
round_note dropped p ps r q h = h

opt : {A B : Type 0} → (A → B) → Option A → Option B
opt f None = None
opt f (Some a) = Some (f a)

-- a round with an accepted answer is gone
gone_step : (x : Bool) (s : Shown) (o : List Branch) (g : Bool) → ((b : Branch) (bs : List Branch) → o ≡ b ∷ bs → g ≡ true)
    → (b : Branch) (bs : List Branch) → cond x (opens s o) o ≡ b ∷ bs → cond x (ends s g) g ≡ true
gone_step false s o g h b bs k = h b bs k
gone_step true (refused f) o g h b bs k = h b bs k
gone_step true (promised r m) o g h b bs k = h b bs k
gone_step true (answered c x y) o g h b bs k = refl
gone_step true dropped o g h b bs k = refl

module _ (ck : Checks) (n size : ℕ) where
  gone_opened : (h : List Move) (r : ℕ) (b : Branch) (bs : List Branch) → (past ck n size h).opened r ≡ b ∷ bs → (past ck n size h).gone r ≡ true
  gone_opened [] r b bs k = cc
  gone_opened (promise p ∷ h) r b bs k = gone_opened h r b bs k
  gone_opened (answer q e z ∷ h) r b bs k = gone_step (eqb r q) (shows ck n size (past ck n size h) (answer q e z)) _ _ (gone_opened h r) b bs k
  gone_opened (drop q ∷ h) r b bs k = gone_step (eqb r q) (shows ck n size (past ck n size h) (drop q)) _ _ (gone_opened h r) b bs k

  module _ (keys : ℕ → List (List ℕ)) (tapes : ℕ → Tape (List ℕ)) where
    redos : List Promise → List Promise
    redos [] = []
    redos (p ∷ ps) = redo keys tapes (suc (length ps)) p ∷ redos ps

    length_redos : (ps : List Promise) → length (redos ps) ≡ length ps
    unfolding redos
    length_redos [] = refl
    length_redos (p ∷ ps) = ap suc (length_redos ps)

    round_redos : (ps : List Promise) (r : ℕ) → round (redos ps) r ≡ opt (redo keys tapes r) (round ps r)
    unfolding redos opt
    round_redos [] r = refl
    round_redos (p ∷ ps) r =
        ap (λ k. cond (eqb r (suc k)) (Some (redo keys tapes (suc (length ps)) p)) (round (redos ps) r)) (length_redos ps)
        ∙ go (round_redos ps r) (eqb r (suc (length ps))) refl
      where
        go : round (redos ps) r ≡ opt (redo keys tapes r) (round ps r) → (b : Bool) → eqb r (suc (length ps)) ≡ b → cond b (Some (redo keys tapes (suc (length ps)) p)) (round (redos ps) r) ≡ opt (redo keys tapes r) (cond b (Some p) (round ps r))
        go ih true e = ap (λ k. Some (redo keys tapes k p)) (sym (eqb-true _ _ e))
        go ih false e = ih

    pub redone : Past → Past
    redone P = record { made = redos P.made; gone = P.gone; opened = P.opened }

    abbrev pub S : Past → Move → Shown
    S = shows ck n size

    pub data PromiseView (P : Past) (p : Promise) : Type 0 where
      no_promise : (f : Fault) → S P (promise p) ≡ refused f → S (redone P) (promise p) ≡ refused f → PromiseView P p
      yes_promise : (ck.early p ≡ Ok tt) × (ck.late p ≡ Ok tt) × (ltb (length P.made) n ≡ true) → S P (promise p) ≡ promised (suc (length P.made)) (message p)
          → ((ck.early (redo keys tapes (suc (length P.made)) p) ≡ Ok tt) × (ck.late (redo keys tapes (suc (length P.made)) p) ≡ Ok tt)
          → S (redone P) (promise (redo keys tapes (suc (length P.made)) p)) ≡ promised (suc (length P.made)) (message (redo keys tapes (suc (length P.made)) p)))
          → PromiseView P p

    pub promise_view : (P : Past) (p : Promise) → PromiseView P p
    unfolding redone
    promise_view P p = go (ck.early p) (ltb (length P.made) n) (ck.late p) refl refl refl
      where
        r : ℕ
        r = suc (length P.made)

        room : (b : Bool) → ltb (length P.made) n ≡ b → ltb (length (redos P.made)) n ≡ b
        room b e = ap (λ k. ltb k n) (length_redos P.made) ∙ e

        told : (o : Verdict) (b : Bool) (l : Verdict) → ck.early p ≡ o → ltb (length P.made) n ≡ b → ck.late p ≡ l → S P (promise p) ≡ promise_shows ck n size o b l (suc (length P.made)) p
        told o b l eo eb el = λ i. promise_shows ck n size (eo i) (eb i) (el i) (suc (length P.made)) p

        told' : (q : Promise) (o : Verdict) (b : Bool) (l : Verdict) → ck.early q ≡ o → ltb (length P.made) n ≡ b → ck.late q ≡ l → S (redone P) (promise q) ≡ promise_shows ck n size o b l (suc (length P.made)) q
        told' q o b l eo eb el = λ i. promise_shows ck n size (eo i) (room b eb i) (el i) (suc (length_redos P.made i)) q

        go : (o : Verdict) (b : Bool) (l : Verdict) → ck.early p ≡ o → ltb (length P.made) n ≡ b → ck.late p ≡ l → PromiseView P p
        go (Err f) b l eo eb el = no_promise f (told (Err f) b l eo eb el) (told' p (Err f) b l eo eb el)
        go (Ok u) false l eo eb el = no_promise _ (told (Ok u) false l eo eb el) (told' p (Ok u) false l eo eb el)
        go (Ok u) true (Err f) eo eb el = no_promise f (told (Ok u) true (Err f) eo eb el) (told' p (Ok u) true (Err f) eo eb el)
        go (Ok u) true (Ok v) eo eb el = yes_promise (eo, el, eb) (told (Ok u) true (Ok v) eo eb el) (λ k. told' (redo keys tapes (suc (length P.made)) p) (Ok u) true (Ok v) k.0 eb k.1)

    pub data AnswerView (P : Past) (r e z : ℕ) : Type 0 where
      no_answer : (f : Fault) → S P (answer r e z) ≡ refused f → S (redone P) (answer r e z) ≡ refused f → AnswerView P r e z
      yes_answer : (p : Promise) (b : Branch) → round P.made r ≡ Some p → P.gone r ≡ false
          → S P (answer r e z) ≡ answered b (view_bytes p.kind (opened_view p b)) (view_bytes p.kind (opened_view p (next b)))
          → S (redone P) (answer r e z) ≡ answered b (view_bytes (redo keys tapes r p).kind (opened_view (redo keys tapes r p) b)) (view_bytes (redo keys tapes r p).kind (opened_view (redo keys tapes r p) (next b)))
          → AnswerView P r e z

    pub answer_view : (P : Past) (r e z : ℕ) → AnswerView P r e z
    unfolding redone opt
    answer_view P r e z = go (round P.made r) (P.gone r) (branch_of e) (eqb z size) refl refl refl refl
      where
        told : (o : Option Promise) (g : Bool) (b : Option Branch) (s : Bool) → round P.made r ≡ o → P.gone r ≡ g → branch_of e ≡ b → eqb z size ≡ s
            → S P (answer r e z) ≡ answer_shows ck n size o g b s r e
        told o g b s eo eg eb es = λ i. answer_shows ck n size (eo i) (eg i) (eb i) (es i) r e

        told' : (o : Option Promise) (g : Bool) (b : Option Branch) (s : Bool) → round P.made r ≡ o → P.gone r ≡ g → branch_of e ≡ b → eqb z size ≡ s
            → S (redone P) (answer r e z) ≡ answer_shows ck n size (opt (redo keys tapes r) o) g b s r e
        told' o g b s eo eg eb es =
            let found : round (redos P.made) r ≡ opt (redo keys tapes r) o = round_redos P.made r ∙ ap (opt (redo keys tapes r)) eo in
            λ i. answer_shows ck n size (found i) (eg i) (eb i) (es i) r e

        go : (o : Option Promise) (g : Bool) (b : Option Branch) (s : Bool) → round P.made r ≡ o → P.gone r ≡ g → branch_of e ≡ b → eqb z size ≡ s → AnswerView P r e z
        go None g b s eo eg eb es = no_answer _ (told None g b s eo eg eb es) (told' None g b s eo eg eb es)
        go (Some p) true b s eo eg eb es = no_answer _ (told (Some p) true b s eo eg eb es) (told' (Some p) true b s eo eg eb es)
        go (Some p) false None s eo eg eb es = no_answer _ (told (Some p) false None s eo eg eb es) (told' (Some p) false None s eo eg eb es)
        go (Some p) false (Some b) false eo eg eb es = no_answer _ (told (Some p) false (Some b) false eo eg eb es) (told' (Some p) false (Some b) false eo eg eb es)
        go (Some p) false (Some b) true eo eg eb es = yes_answer p b eo eg (told (Some p) false (Some b) true eo eg eb es) (told' (Some p) false (Some b) true eo eg eb es)

    pub data DropView (P : Past) (r : ℕ) : Type 0 where
      no_drop : (f : Fault) → S P (drop r) ≡ refused f → S (redone P) (drop r) ≡ refused f → DropView P r
      yes_drop : (p : Promise) → round P.made r ≡ Some p → S P (drop r) ≡ dropped → S (redone P) (drop r) ≡ dropped → DropView P r

    pub drop_view : (P : Past) (r : ℕ) → DropView P r
    unfolding redone opt
    drop_view P r = go (round P.made r) (P.gone r) refl refl
      where
        told : (o : Option Promise) (g : Bool) → round P.made r ≡ o → P.gone r ≡ g → S P (drop r) ≡ drop_shows ck n size o g r
        told o g eo eg = λ i. drop_shows ck n size (eo i) (eg i) r

        told' : (o : Option Promise) (g : Bool) → round P.made r ≡ o → P.gone r ≡ g → S (redone P) (drop r) ≡ drop_shows ck n size (opt (redo keys tapes r) o) g r
        told' o g eo eg =
            let found : round (redos P.made) r ≡ opt (redo keys tapes r) o = round_redos P.made r ∙ ap (opt (redo keys tapes r)) eo in
            λ i. drop_shows ck n size (found i) (eg i) r

        go : (o : Option Promise) (g : Bool) → round P.made r ≡ o → P.gone r ≡ g → DropView P r
        go None g eo eg = no_drop _ (told None g eo eg) (told' None g eo eg)
        go (Some p) true eo eg = no_drop _ (told (Some p) true eo eg) (told' (Some p) true eo eg)
        go (Some p) false eo eg = yes_drop p eo (told (Some p) false eo eg) (told' (Some p) false eo eg)

    abbrev pub Pa : List Move → Past
    Pa = past ck n size

    abbrev pub Ea : List Move → (ℕ → Promise → Type 0) → Type 0
    Ea = Each ck n size

    -- the rounds of an earlier history are rounds of the later
    pub earlier : (c : Move) (h : List Move) (r : ℕ) (p : Promise) → round (Pa h).made r ≡ Some p → round (Pa (c ∷ h)).made r ≡ Some p
    earlier (promise q) h r p k = round_note (S (Pa h) (promise q)) q (Pa h).made r p k
    earlier (answer q e z) h r p k = k
    earlier (drop q) h r p k = k

    -- a promise that is accepted is the round just made
    pub newest : (p : Promise) (h : List Move) (m : Message) → S (Pa h) (promise p) ≡ promised (suc (length (Pa h).made)) m → round (Pa (promise p ∷ h)).made (suc (length (Pa h).made)) ≡ Some p
    newest p h m e = ap (λ s. round (note s p (Pa h).made) (suc (length (Pa h).made))) e ∙ round_here p (Pa h).made

    -- a round that is gone gets no more answers
    opened_kept : (c : Move) (P : Past) (q : ℕ) → P.gone q ≡ true → (after P c (S P c)).opened q ≡ P.opened q
    opened_kept (promise p) P q g = refl
    opened_kept (drop r) P q g =
        elim (drop_view P r) [
          | no_drop f e e' ↦ ap (λ s. cond (eqb q r) (opens s (P.opened q)) (P.opened q)) e ∙ either_way (eqb q r) (P.opened q)
          | yes_drop p found e e' ↦ ap (λ s. cond (eqb q r) (opens s (P.opened q)) (P.opened q)) e ∙ either_way (eqb q r) (P.opened q)
        ]
    opened_kept (answer r e z) P q g =
        elim (answer_view P r e z) [
          | no_answer f k k' ↦ ap (λ s. cond (eqb q r) (opens s (P.opened q)) (P.opened q)) k ∙ either_way (eqb q r) (P.opened q)
          | yes_answer p b found free k k' ↦ ap (λ s. cond (eqb q r) (opens s (P.opened q)) (P.opened q)) k ∙ go b (eqb q r) refl free
        ]
      where
        go : (b : Branch) (x : Bool) → eqb q r ≡ x → P.gone r ≡ false → cond x (b ∷ P.opened q) (P.opened q) ≡ P.opened q
        go b true t free = cc (ap P.gone (eqb-true _ _ t) ∙ free)
        go b false t free = refl

    abbrev pub PassesAgain : ℕ → Promise → Type 0
    PassesAgain r p = (ck.early (redo keys tapes r p) ≡ Ok tt) × (ck.late (redo keys tapes r p) ≡ Ok tt)

    one_step : (P : Past) (c : Move)
        → ((p : Promise) → c ≡ promise p → S P (promise p) ≡ promised (suc (length P.made)) (message p) → PassesAgain (suc (length P.made)) p)
        → after (redone P) (other keys tapes c (S P c)) (S (redone P) (other keys tapes c (S P c))) ≡ redone (after P c (S P c))
    unfolding redone redos
    one_step P (promise p) ready =
        let G : Shown → Type 0 = λ s. after (redone P) (other keys tapes (promise p) s) (S (redone P) (other keys tapes (promise p) s)) ≡ redone (after P (promise p) s) in
        elim (promise_view P p) [
          | no_promise f k k' ↦ subst G (sym k) (ap (after (redone P) (promise p)) k')
          | yes_promise l k k' ↦ subst G (sym k) (ap (after (redone P) (promise (redo keys tapes (suc (length P.made)) p))) (k' (ready p refl k)))
        ]
    one_step P (answer r e z) ready =
        let G : Shown → Type 0 = λ s. after (redone P) (answer r e z) (S (redone P) (answer r e z)) ≡ redone (after P (answer r e z) s) in
        elim (answer_view P r e z) [
          | no_answer f k k' ↦ subst G (sym k) (ap (after (redone P) (answer r e z)) k')
          | yes_answer p b found free k k' ↦ subst G (sym k) (ap (after (redone P) (answer r e z)) k')
        ]
    one_step P (drop r) ready =
        let G : Shown → Type 0 = λ s. after (redone P) (drop r) (S (redone P) (drop r)) ≡ redone (after P (drop r) s) in
        elim (drop_view P r) [
          | no_drop f k k' ↦ subst G (sym k) (ap (after (redone P) (drop r)) k')
          | yes_drop p found k k' ↦ subst G (sym k) (ap (after (redone P) (drop r)) k')
        ]

    abbrev pub Ready : List Move → Type 0
    Ready h = Ea h PassesAgain

    pub ready_now : (c : Move) (h : List Move) → Ready (c ∷ h) → (p : Promise) → c ≡ promise p → S (Pa h) (promise p) ≡ promised (suc (length (Pa h).made)) (message p) → PassesAgain (suc (length (Pa h).made)) p
    ready_now c h ready p e k = ready (suc (length (Pa h).made)) p (ap (λ d. round (Pa (d ∷ h)).made (suc (length (Pa h).made))) e ∙ newest p h (message p) k)

    pub past_recast : (h : List Move) → Ready h → Pa (recast ck n size keys tapes h) ≡ redone (Pa h)
    unfolding redone redos
    past_recast [] ready = refl
    past_recast (c ∷ h) ready =
        let d = other keys tapes c (S (Pa h) c) in
        ap (λ Q. after Q d (S Q d)) (past_recast h (λ r p k. ready r p (earlier c h r p k)))
        ∙ one_step (Pa h) c (ready_now c h ready)

    -- the kinds stay
    pub keeps_recast : (Q : Promise → Type 0) (h : List Move) → Ready h → Ea h (λ r p. Q (redo keys tapes r p)) → Ea (recast ck n size keys tapes h) (λ r p. Q p)
    unfolding redone opt
    keeps_recast Q h ready ks r q k = go (round (Pa h).made r) refl
      where
        at : opt (redo keys tapes r) (round (Pa h).made r) ≡ Some q
        at = sym (round_redos (Pa h).made r) ∙ ap (λ P. round P.made r) (sym (past_recast h ready)) ∙ k

        go : (w : Option Promise) → round (Pa h).made r ≡ w → Q q
        go None e = cc (ap (opt (redo keys tapes r)) (sym e) ∙ at)
        go (Some p) e = subst Q (cc (ap (opt (redo keys tapes r)) (sym e) ∙ at)) (ks r p e)

    abbrev Sames : (ℕ → Branch) → List Move → Type 0
    Sames cl h = Ea h (λ r p. Same (cl r) (message p) (message (redo keys tapes r p)))

    abbrev ViewsSame : ℕ → Promise → Branch → Type 0
    ViewsSame r p b = (view_bytes (redo keys tapes r p).kind (opened_view (redo keys tapes r p) b) ≡ view_bytes p.kind (opened_view p b)) × (view_bytes (redo keys tapes r p).kind (opened_view (redo keys tapes r p) (next b)) ≡ view_bytes p.kind (opened_view p (next b)))

    abbrev Opens : List Move → Type 0
    Opens h = Ea h (λ r p. (b : Branch) → (Pa h).opened r ≡ b ∷ [] → ViewsSame r p b)

    opens_earlier : (c : Move) (h : List Move) → Opens (c ∷ h) → Opens h
    opens_earlier c h o r p k b e = o r p (earlier c h r p k) b (opened_kept c (Pa h) r (gone_opened h r b [] e) ∙ e)

    -- the answer just accepted is the only one
    opened_now : (h : List Move) (r e z : ℕ) (b : Branch) (x y : List ℕ) → S (Pa h) (answer r e z) ≡ answered b x y → (Pa h).gone r ≡ false → (Pa (answer r e z ∷ h)).opened r ≡ b ∷ []
    opened_now h r e z b x y k free =
        ap (λ t. cond t (opens (S (Pa h) (answer r e z)) ((Pa h).opened r)) ((Pa h).opened r)) (eq-eqb r r refl)
        ∙ ap (λ s. opens s ((Pa h).opened r)) k
        ∙ ap {B = List Branch} (λ bs. b ∷ bs) (none_yet ((Pa h).opened r) refl)
      where
        none_yet : (bs : List Branch) → (Pa h).opened r ≡ bs → bs ≡ []
        none_yet [] q = refl
        none_yet (c ∷ bs) q = cc (gone_opened h r c bs q)

    like : (cl : ℕ → Branch) (c : Move) (h : List Move) → Ready (c ∷ h) → Sames cl (c ∷ h) → Opens (c ∷ h)
        → Like cl (S (Pa h) c) (S (redone (Pa h)) (other keys tapes c (S (Pa h) c)))
    like cl (promise p) h ready sames o =
        let G : Shown → Type 0 = λ s. Like cl s (S (redone (Pa h)) (other keys tapes (promise p) s)) in
        elim (promise_view (Pa h) p) [
          | no_promise f k k' ↦ subst G (sym k) (equal k')
          | yes_promise l k k' ↦ subst G (sym k)
              (but_seal (suc (length (Pa h).made)) (message p) (message (redo keys tapes (suc (length (Pa h).made)) p)) refl
              (k' (ready_now (promise p) h ready p refl k)) (sames (suc (length (Pa h).made)) p (newest p h (message p) k)))
        ]
    like cl (answer r e z) h ready sames o =
        elim (answer_view (Pa h) r e z) [
          | no_answer f k k' ↦ equal (k' ∙ sym k)
          | yes_answer p b found free k k' ↦
              let same = o r p found b (opened_now h r e z b _ _ k free) in
              equal (k' ∙ ap₂ (answered b) same.0 same.1 ∙ sym k)
        ]
    like cl (drop r) h ready sames o =
        elim (drop_view (Pa h) r) [ no_drop f k k' ↦ equal (k' ∙ sym k) | yes_drop p found k k' ↦ equal (k' ∙ sym k) ]

    likes : (cl : ℕ → Branch) (h : List Move) → Ready h → Sames cl h → Opens h → Likes cl (all_shown ck n size h) (all_shown ck n size (recast ck n size keys tapes h))
    likes cl [] ready sames o = tt
    likes cl (c ∷ h) ready sames o = (
      subst (λ Q. Like cl (S (Pa h) c) (S Q (other keys tapes c (S (Pa h) c)))) (sym (past_recast h (λ r p k. ready r p (earlier c h r p k)))) (like cl c h ready sames o),
      likes cl h (λ r p k. ready r p (earlier c h r p k)) (λ r p k. sames r p (earlier c h r p k)) (opens_earlier c h o),
    )

    -- back from what is shown: an answered view, a first message
    pub like_message : (cl : ℕ → Branch) (r : ℕ) (m m' : Message) (s s' : Shown) → s ≡ promised r m → s' ≡ promised r m' → Like cl s s' → Same (cl r) m m'
    like_message cl r m m' s s' k k' (equal e) =
        let q : m' ≡ m = cc in
        record { outs_same = λ i. ap (λ a. a.outs i) q; seals_same = λ i away. ap (λ a. a.seals i) q }
    like_message cl r m m' s s' k k' (but_seal r₀ m₀ m₀' e e' same) =
        let x : r₀ ≡ r = cc in
        let y : m₀ ≡ m = cc in
        let z : m₀' ≡ m' = cc in
        subst (λ a. Same (cl r) m a) z (subst (λ a. Same (cl r) a m₀') y (subst (λ a. Same (cl a) m₀ m₀') x same))

    pub like_answer : (cl : ℕ → Branch) (b : Branch) (x y x' y' : List ℕ) (s s' : Shown) → s ≡ answered b x y → s' ≡ answered b x' y' → Like cl s s' → (x' ≡ x) × (y' ≡ y)
    like_answer cl b x y x' y' s s' k k' (equal e) =
        let p : x' ≡ x = cc in
        let q : y' ≡ y = cc in
        (p, q)
    like_answer cl b x y x' y' s s' k k' (but_seal r₀ m₀ m₀' e e' same) = cc

    record Fresh (P : Past) (r e z q : ℕ) (b : Branch) : Type 0 where
      at : q ≡ r
      who : Promise
      found : round P.made r ≡ Some who
      free : P.gone r ≡ false
      says : S P (answer r e z) ≡ answered b (view_bytes who.kind (opened_view who b)) (view_bytes who.kind (opened_view who (next b)))
      says' : S (redone P) (answer r e z) ≡ answered b (view_bytes (redo keys tapes r who).kind (opened_view (redo keys tapes r who) b)) (view_bytes (redo keys tapes r who).kind (opened_view (redo keys tapes r who) (next b)))

    -- an opened round was open before, or is the one just answered
    answer_cases : (P : Past) (r e z q : ℕ) (b : Branch) (bs : List Branch) → (after P (answer r e z) (S P (answer r e z))).opened q ≡ b ∷ bs
        → (P.opened q ≡ b ∷ bs) ⊎ Fresh P r e z q b
    answer_cases P r e z q b bs t = go (answer_view P r e z)
      where
        at_x : (p : Promise) (c : Branch) → round P.made r ≡ Some p → P.gone r ≡ false
            → S P (answer r e z) ≡ answered c (view_bytes p.kind (opened_view p c)) (view_bytes p.kind (opened_view p (next c)))
            → S (redone P) (answer r e z) ≡ answered c (view_bytes (redo keys tapes r p).kind (opened_view (redo keys tapes r p) c)) (view_bytes (redo keys tapes r p).kind (opened_view (redo keys tapes r p) (next c)))
            → (x : Bool) → eqb q r ≡ x → cond x (c ∷ P.opened q) (P.opened q) ≡ b ∷ bs → (P.opened q ≡ b ∷ bs) ⊎ Fresh P r e z q b
        at_x p c found free k k' true u w =
            let same : c ≡ b = cc in
            inr (subst (λ d. Fresh P r e z q d) same (record { at = eqb-true _ _ u; who = p; found = found; free = free; says = k; says' = k' }))
        at_x p c found free k k' false u w = inl w

        go : AnswerView P r e z → (P.opened q ≡ b ∷ bs) ⊎ Fresh P r e z q b
        go (no_answer f k k') = inl (sym (either_way (eqb q r) (P.opened q)) ∙ ap (λ s. cond (eqb q r) (opens s (P.opened q)) (P.opened q)) (sym k) ∙ t)
        go (yes_answer p c found free k k') = at_x p c found free k k' (eqb q r) refl (ap (λ s. cond (eqb q r) (opens s (P.opened q)) (P.opened q)) (sym k) ∙ t)

    drop_opens : (P : Past) (r q : ℕ) → (after P (drop r) (S P (drop r))).opened q ≡ P.opened q
    drop_opens P r q =
        elim (drop_view P r) [
          | no_drop f e e' ↦ ap (λ s. cond (eqb q r) (opens s (P.opened q)) (P.opened q)) e ∙ either_way (eqb q r) (P.opened q)
          | yes_drop p found e e' ↦ ap (λ s. cond (eqb q r) (opens s (P.opened q)) (P.opened q)) e ∙ either_way (eqb q r) (P.opened q)
        ]

    opened_promised : (h : List Move) (q : ℕ) (b : Branch) (bs : List Branch) → (Pa h).opened q ≡ b ∷ bs → (p : Promise) × (round (Pa h).made q ≡ Some p)
    opened_promised [] q b bs t = cc
    opened_promised (promise p ∷ h) q b bs t = let k = opened_promised h q b bs t in (k.0, earlier (promise p) h q k.0 k.1)
    opened_promised (answer r e z ∷ h) q b bs t =
        elim (answer_cases (Pa h) r e z q b bs t) [
          | inl k ↦ opened_promised h q b bs k
          | inr f ↦ (f.who, ap (round (Pa h).made) f.at ∙ f.found)
        ]
    opened_promised (drop r ∷ h) q b bs t = opened_promised h q b bs (sym (drop_opens (Pa h) r q) ∙ t)

    once_only : (h : List Move) (q : ℕ) (b : Branch) (bs : List Branch) → (Pa h).opened q ≡ b ∷ bs → (Pa h).opened q ≡ b ∷ []
    once_only [] q b bs t = cc
    once_only (promise p ∷ h) q b bs t = once_only h q b bs t
    once_only (answer r e z ∷ h) q b bs t =
        elim (answer_cases (Pa h) r e z q b bs t) [
          | inl k ↦ opened_kept (answer r e z) (Pa h) q (gone_opened h q b bs k) ∙ once_only h q b bs k
          | inr f ↦ ap (λ x. (Pa (answer r e z ∷ h)).opened x) f.at ∙ opened_now h r e z b _ _ f.says f.free
        ]
    once_only (drop r ∷ h) q b bs t = drop_opens (Pa h) r q ∙ once_only h q b bs (sym (drop_opens (Pa h) r q) ∙ t)

    back_now : (cl : ℕ → Branch) (c : Move) (h : List Move) → Ready (c ∷ h)
        → Like cl (S (Pa h) c) (S (redone (Pa h)) (other keys tapes c (S (Pa h) c)))
        → Sames cl h → Opens h → Sames cl (c ∷ h) × Opens (c ∷ h)
    back_now cl (promise p) h ready l sames o = go (promise_view (Pa h) p)
      where
        R : ℕ
        R = suc (length (Pa h).made)

        go : PromiseView (Pa h) p → Sames cl (promise p ∷ h) × Opens (promise p ∷ h)
        go (no_promise f k k') = (
          (λ r q found. sames r q (ap (λ s. round (note s p (Pa h).made) r) (sym k) ∙ found)),
          (λ r q found. o r q (ap (λ s. round (note s p (Pa h).made) r) (sym k) ∙ found)),
        )
        go (yes_promise t k k') = ((λ r q found. first r q (cases r q found)), (λ r q found b u. second r q b u (cases r q found)))
          where
            cases : (r : ℕ) (q : Promise) → round (Pa (promise p ∷ h)).made r ≡ Some q → ((r ≡ suc (length (Pa h).made)) × (p ≡ q)) ⊎ (round (Pa h).made r ≡ Some q)
            cases r q found = round_cases p (Pa h).made r q (ap (λ s. round (note s p (Pa h).made) r) (sym k) ∙ found)

            here : Same (cl (suc (length (Pa h).made))) (message p) (message (redo keys tapes (suc (length (Pa h).made)) p))
            here = like_message cl _ _ _ _ _ k (k' (ready_now (promise p) h ready p refl k)) (subst (λ s. Like cl (S (Pa h) (promise p)) (S (redone (Pa h)) (other keys tapes (promise p) s))) k l)

            first : (r : ℕ) (q : Promise) → ((r ≡ suc (length (Pa h).made)) × (p ≡ q)) ⊎ (round (Pa h).made r ≡ Some q) → Same (cl r) (message q) (message (redo keys tapes r q))
            first r q (inl u) = subst (λ x. Same (cl r) (message x) (message (redo keys tapes r x))) u.1 (subst (λ x. Same (cl x) (message p) (message (redo keys tapes x p))) (sym u.0) here)
            first r q (inr u) = sames r q u

            second : (r : ℕ) (q : Promise) (b : Branch) → (Pa h).opened r ≡ b ∷ [] → ((r ≡ suc (length (Pa h).made)) × (p ≡ q)) ⊎ (round (Pa h).made r ≡ Some q) → ViewsSame r q b
            second r q b w (inl u) =
                let k = opened_promised h r b [] w in
                let low : r ≤ length (Pa h).made = round_below (Pa h).made r k.0 k.1 in
                absurd (omega (arith, u.0))
            second r q b w (inr u) = o r q u b w
    back_now cl (answer r e z) h ready l sames o = (sames, λ q p found b w. go q p found b (answer_cases (Pa h) r e z q b [] w))
      where
        go : (q : ℕ) (p : Promise) → round (Pa h).made q ≡ Some p → (b : Branch) → ((Pa h).opened q ≡ b ∷ []) ⊎ Fresh (Pa h) r e z q b → ViewsSame q p b
        go q p found b (inl k) = o q p found b k
        go q p found b (inr f) =
            let who : f.who ≡ p = cc (sym f.found ∙ ap (round (Pa h).made) (sym f.at) ∙ found) in
            subst (λ x. ViewsSame q x b) who (subst (λ x. ViewsSame x f.who b) (sym f.at) (like_answer cl b _ _ _ _ _ _ f.says f.says' l))
    back_now cl (drop r) h ready l sames o = (sames, λ q p found b w. o q p found b (sym (drop_opens (Pa h) r q) ∙ w))

    back : (cl : ℕ → Branch) (h : List Move) → Ready h → Likes cl (all_shown ck n size h) (all_shown ck n size (recast ck n size keys tapes h)) → Sames cl h × Opens h
    back cl [] ready l = ((λ r p k. cc), (λ r p k. cc))
    back cl (c ∷ h) ready l =
        let ready' : Ready h = λ r p k. ready r p (earlier c h r p k) in
        let before = back cl h ready' l.1 in
        back_now cl c h ready (subst (λ Q. Like cl (S (Pa h) c) (S Q (other keys tapes c (S (Pa h) c)))) (past_recast h ready') l.0) before.0 before.1

    -- the accepted promises passed their tests
    pub passed : (h : List Move) → Ea h (λ r p. (ck.early p ≡ Ok tt) × (ck.late p ≡ Ok tt))
    passed [] r p k = cc
    passed (promise q ∷ h) r p k = go (passed h r p) (promise_view (Pa h) q)
      where
        go : (round (Pa h).made r ≡ Some p → (ck.early p ≡ Ok tt) × (ck.late p ≡ Ok tt)) → PromiseView (Pa h) q → (ck.early p ≡ Ok tt) × (ck.late p ≡ Ok tt)
        go ih (no_promise f e e') = ih (ap (λ s. round (note s q (Pa h).made) r) (sym e) ∙ k)
        go ih (yes_promise l e e') =
            elim (round_cases q (Pa h).made r p (ap (λ s. round (note s q (Pa h).made) r) (sym e) ∙ k)) [
              | inl u ↦ (ap ck.early (sym u.1) ∙ l.0, ap ck.late (sym u.1) ∙ l.1)
              | inr u ↦ ih u
            ]
    passed (answer q e z ∷ h) r p k = passed h r p k
    passed (drop q ∷ h) r p k = passed h r p k

pub blank : Tape (List ℕ)
blank = record { share1 = []; share2 = []; mask1 = []; mask2 = []; mask3 = [] }

-- the pick that leaves the closed branch closed
abbrev pick_of : List Branch → Branch
pick_of [] = one
pick_of (b ∷ bs) = b

closed_pick : (bs : List Branch) → next (next (pick_of bs)) ≡ closed_of bs
closed_pick [] = refl
closed_pick (b ∷ bs) = refl

module _ (ck : Checks) (n size : ℕ) where
  pub once : Once ck n size
  once h r = go ((past ck n size h).opened r) refl
    where
      go : (bs : List Branch) → (past ck n size h).opened r ≡ bs → length ((past ck n size h).opened r) ≤ 1
      go [] e = omega (arith, ap length e)
      go (b ∷ bs) e = omega (arith, ap length (once_only ck n size (λ _. []) (λ _. blank) h r b bs e))

  module _ (tests : Tests ck n size) (h : List Move) (keeps : Each ck n size h (λ r p. Stands p))
      (keys : ℕ → List (List ℕ)) (fit : Each ck n size h (λ r p. AllByRecursion (Lawful p.kind) (keys r) × Fits (ops_of p.kind) p.lock (keys r))) where
    abbrev e_of : ℕ → Branch
    e_of r = pick_of ((past ck n size h).opened r)

    abbrev Hits : ℕ → Promise → Tape (List ℕ) → Type 0
    Hits r p t = Alike (ops_of p.kind) p.lock p.key p.tape (e_of r) (keys r) t

    abbrev Good : ℕ → Promise → Tape (List ℕ) → Type 0
    Good r p t = (TapeLawful p.kind t × Hits r p t) × ((t' : Tape (List ℕ)) → TapeLawful p.kind t' → Hits r p t' → t' ≡ t)

    lock_ok : Each ck n size h (λ r p. CircuitLawful p.kind p.lock)
    lock_ok r p k = tests.locks p (keeps r p k) (passed ck n size keys (λ _. blank) h r p k).0

    blinds : Each ck n size h (λ r p. (i : Branch) → length (p.blind i) ≡ 32)
    blinds r p k = tests.blinds p (keeps r p k) (passed ck n size keys (λ _. blank) h r p k).0

    values : Each ck n size h (λ r p. Values ck n size p)
    values r p k = tests.passing p (keeps r p k) (passed ck n size keys (λ _. blank) h r p k).1

    choose : (r : ℕ) (w : Option Promise) → round (past ck n size h).made r ≡ w → (t : Tape (List ℕ)) × ((p : Promise) → w ≡ Some p → Good r p t)
    choose r None k = (blank, λ p e. cc)
    choose r (Some q) k =
        let o = values r q k in
        let t = hides_on (keeps r q k).0 q.lock (lock_ok r q k) q.key o.key_lawful q.tape o.tape_lawful (e_of r) (keys r) (fit r q k).0 o.fits o.tape_for (fit r q k).1 in
        (t.0, λ p e. let is : q ≡ p = cc in subst (λ x. Good r x t.0) is (t.1, t.2))

    tapes : ℕ → Tape (List ℕ)
    tapes r = (choose r (round (past ck n size h).made r) refl).0

    good : Each ck n size h (λ r p. Good r p (tapes r))
    unfolding tapes
    good r p k = (choose r (round (past ck n size h).made r) refl).1 p k

    abbrev pub Taped : (ℕ → Tape (List ℕ)) → Type 0
    Taped ts = Each ck n size h (λ r p. TapeFor p.lock (ts r) × TapeLawful p.kind (ts r))

    -- the tests pass again
    again : (ts : ℕ → Tape (List ℕ)) → Taped ts → Each ck n size h (λ r p. Values ck n size (redo keys ts r p))
    again ts taped r p k = record { key_lawful = (fit r p k).0; fits = (fit r p k).1; tape_lawful = (taped r p k).1; tape_for = (taped r p k).0 }

    pub ready : (ts : ℕ → Tape (List ℕ)) → Taped ts → Each ck n size h (λ r p. (ck.early (redo keys ts r p) ≡ Ok tt) × (ck.late (redo keys ts r p) ≡ Ok tt))
    ready ts taped r p k =
        (tests.blind_to p keys ts r (keeps r p k) (passed ck n size keys (λ _. blank) h r p k).0 (again ts taped r p k), tests.passed_by (redo keys ts r p) (again ts taped r p k))

    -- an accepted promise's views are lawful and sized
    views_lawful : (p : Promise) → Laws p.kind → CircuitLawful p.kind p.lock → Values ck n size p → (i : Branch)
        → ViewFor p.lock (view (ops_of p.kind) p.lock p.key p.tape i) × ViewLawful p.kind (view (ops_of p.kind) p.lock p.key p.tape i)
    views_lawful p kp lok o i =
        let c = complete_on kp p.lock lok p.key o.key_lawful p.tape o.tape_lawful o.fits o.tape_for i in
        (c.0.size_a, c.1)

    abbrev cl : ℕ → Branch
    cl = closed ck n size h

    sames : Each ck n size h (λ r p. Same (cl r) (message p) (message (redo keys tapes r p)))
    sames r p k =
        let a = (good r p k).0.1 in
        record {
          outs_same = a.outs;
          seals_same = λ i away.
              ap (λ w. p.sealing.seal (view_bytes p.kind (p.blind i, w)))
              (not_closed (e_of r) i (λ j. view (ops_of p.kind) p.lock (keys r) (tapes r) j ≡ view (ops_of p.kind) p.lock p.key p.tape j)
              a.first a.second (λ c. away (c ∙ closed_pick ((past ck n size h).opened r))));
        }

    opening : Each ck n size h (λ r p. (b : Branch) → (past ck n size h).opened r ≡ b ∷ []
        → (view_bytes (redo keys tapes r p).kind (opened_view (redo keys tapes r p) b) ≡ view_bytes p.kind (opened_view p b)) × (view_bytes (redo keys tapes r p).kind (opened_view (redo keys tapes r p) (next b)) ≡ view_bytes p.kind (opened_view p (next b))))
    opening r p k b e =
        let a = (good r p k).0.1 in
        let at : e_of r ≡ b = ap pick_of e in (
          subst (λ c. view_bytes (redo keys tapes r p).kind (opened_view (redo keys tapes r p) c) ≡ view_bytes p.kind (opened_view p c)) at (λ i. view_bytes p.kind (p.blind (e_of r), a.first i)),
          subst (λ c. view_bytes (redo keys tapes r p).kind (opened_view (redo keys tapes r p) (next c)) ≡ view_bytes p.kind (opened_view p (next c))) at (λ i. view_bytes p.kind (p.blind (next (e_of r)), a.second i)),
        )

    fine : Fine ck n size h keys tapes
    fine = record {
      kept = λ r p k. ((good r p k).0.1.sized, (good r p k).0.0, subst (λ c. SameBut c p.tape (tapes r)) (closed_pick ((past ck n size h).opened r)) (good r p k).0.1.kept);
      alike = likes ck n size keys tapes cl h (ready tapes (λ r p k. ((good r p k).0.1.sized, (good r p k).0.0))) sames opening;
    }

    only : (tapes' : ℕ → Tape (List ℕ)) → Fine ck n size h keys tapes'
        → Each ck n size h (λ r p. (b : Branch) → (past ck n size h).opened r ≡ b ∷ [] → tapes' r ≡ tapes r)
    only ts other-fine r p k b e =
        let taped : Taped ts = λ r p k. ((other-fine.kept r p k).0, (other-fine.kept r p k).1) in
        let seen = back ck n size keys ts cl h (ready ts taped) other-fine.alike in
        let at : b ≡ e_of r = ap pick_of (sym e) in
        let new = views_lawful (redo keys ts r p) (keeps r p k).0 (lock_ok r p k) (again ts taped r p k) in
        let old = views_lawful p (keeps r p k).0 (lock_ok r p k) (values r p k) in
        let same : (i : Branch) → view_bytes (redo keys ts r p).kind (opened_view (redo keys ts r p) i) ≡ view_bytes p.kind (opened_view p i) → view (ops_of p.kind) p.lock (keys r) (ts r) i ≡ view (ops_of p.kind) p.lock p.key p.tape i =
        λ i w. ap (λ z. z.1) (same_views p.kind p.lock (keeps r p k).0 (opened_view (redo keys ts r p) i) (opened_view p i) (blinds r p k i) (blinds r p k i) (new i).0 (old i).0 (new i).1 (old i).1 w) in
        let views = seen.1 r p k b e in
        (good r p k).1 (ts r) (taped r p k).1 (record {
          sized = (taped r p k).0;
          kept = subst (λ c. SameBut c p.tape (ts r)) (sym (closed_pick ((past ck n size h).opened r))) (other-fine.kept r p k).2;
          first = subst (λ c. view (ops_of p.kind) p.lock (keys r) (ts r) c ≡ view (ops_of p.kind) p.lock p.key p.tape c) at (same b views.0);
          second = subst (λ c. view (ops_of p.kind) p.lock (keys r) (ts r) (next c) ≡ view (ops_of p.kind) p.lock p.key p.tape (next c)) at (same (next b) views.1);
          outs = (seen.0 r p k).outs_same;
        })

  pub hidden : Tests ck n size → Hidden ck n size
  hidden tests h keeps keys fit = (tapes tests h keeps keys fit, fine tests h keeps keys fit, only tests h keeps keys fit)
