-- Hiding, Completeness and what a keeper remembers, by what the keeper itself told.
use Rattle.std.proofs.Common.{◌≡◌, ℕ, suc, ◌+◌, ◌*◌, ◌<◌, Bool, true, false, cond, eqb, List, [], ◌∷◌, ◌++◌, length, Some, Ok, Err, Option, Result, sym, refl, ap, ◌∙◌, subst, ap₂}
use mathlib.Core.Path.{fun_ext}
use Rattle.faults.specs.declared.Fault.{Fault}
use Rattle.kinds.specs.Kind.{Laws}
use Rattle.theory.specs.Runs.{Branch, next}
use Rattle.theory.specs.Messages.{pick_byte, answer_bytes}
use Rattle.theory.specs.Tests.{Verdict, left}
use Rattle.theory.specs.declared.RoundState.{RoundState}
use Rattle.theory.specs.Keeper.{Keeper, made_from, Given, own_answer, kept_view, state_of, answer_branch, answer_result, answer_after, drop_result}
use Rattle.theory.specs.History.{Call, call_promise, call_answer, call_drop, told_answer, answer_from, drop_told, tells, run, all_told, End, opened, let_go, noted, made, ends, Of, closed_by}
use Rattle.theory.specs.Completeness.{Honest, Completeness}
use Rattle.theory.specs.Hiding.{other_call, replayed, SameTold, Hiding}
use Rattle.theory.proofs.Pasts.{Shown, refused, promised, answered, dropped, opens, closed_of}
use Rattle.theory.proofs.Asks as asks
use Rattle.theory.proofs.Asks.{told, outcome, picks}
use Rattle.theory.proofs.Soundly.{same_pick}
use Rattle.theory.proofs.Completely.{completes_by_history, own, answer_is}
use Rattle.theory.proofs.HidingHolds.{hidden_by, tied}
use Rattle.theory.proofs.Onces.{made_later, once}

noted_told : (s : Shown) (g : Given) (r : ℕ) (o : Option Given) → noted (told s) g r o ≡ asks.noted s g r o
noted_told (refused f) g r o = refl
noted_told (promised q m) g r o = refl
noted_told (answered b x y) g r o = refl
noted_told dropped g r o = refl

other_told : (keys tapes : ℕ → List ℕ) (c : Call) (s : Shown) → other_call keys tapes c (told s) ≡ asks.other_call keys tapes c s
other_told keys tapes (call_promise g) (refused f) = refl
other_told keys tapes (call_promise g) (promised q m) = refl
other_told keys tapes (call_promise g) (answered b x y) = refl
other_told keys tapes (call_promise g) dropped = refl
other_told keys tapes (call_answer r e z) s = refl
other_told keys tapes (call_drop r) s = refl

-- the branches that ends opened
abbrev opens_of : List End → List Branch
opens_of [] = []
opens_of (opened b ∷ es) = b ∷ opens_of es
opens_of (let_go ∷ es) = opens_of es

closed_opens : (es : List End) → closed_by es ≡ closed_of (opens_of es)
closed_opens [] = refl
closed_opens (opened b ∷ es) = refl
closed_opens (let_go ∷ es) = closed_opens es

-- an accepted answer opens what it shows
same_answer : (b c : Branch) (x y x' y' : List ℕ) → told_answer (answer_bytes b x y) ≡ told_answer (answer_bytes c x' y') → b ≡ c
same_answer b c x y x' y' h = same_pick b c cc

answer_opens : (k : Keeper) (q : ℕ) (B : Result Branch Fault) (s : Shown) → answer_from k q B ≡ told s → (es : List End)
    → opens_of (left B (λ b. opened b ∷ es) es) ≡ opens s (opens_of es)
answer_opens k q (Ok b) (refused f) h es = cc
answer_opens k q (Ok b) (promised r m) h es = cc
answer_opens k q (Ok b) (answered c x y) h es = ap {B = List Branch} (λ z. z ∷ opens_of es) (same_answer b c (kept_view k q b) (kept_view k q (next b)) x y h)
answer_opens k q (Ok b) dropped h es = cc
answer_opens k q (Err f) (refused e) h es = refl
answer_opens k q (Err f) (promised r m) h es = refl
answer_opens k q (Err f) (answered c x y) h es = cc
answer_opens k q (Err f) dropped h es = refl

drop_opens : (R : Verdict) (s : Shown) → drop_told R ≡ told s → (es : List End) → opens_of (left R (λ _. let_go ∷ es) es) ≡ opens s (opens_of es)
drop_opens (Ok u) (refused f) h es = refl
drop_opens (Ok u) (promised r m) h es = refl
drop_opens (Ok u) (answered c x y) h es = cc
drop_opens (Ok u) dropped h es = refl
drop_opens (Err f) (refused e) h es = refl
drop_opens (Err f) (promised r m) h es = refl
drop_opens (Err f) (answered c x y) h es = cc
drop_opens (Err f) dropped h es = refl

opens_cond : (x : Bool) (es fs : List End) (bs : List Branch) → opens_of es ≡ bs → opens_of (cond x es fs) ≡ cond x bs (opens_of fs)
opens_cond true es fs bs h = h
opens_cond false es fs bs h = refl

module _ (L : ℕ) (store : List ℕ) where
  abbrev k0 : Keeper
  k0 = made_from L store

  abbrev pub Lawfully : List Call → Type 0
  Lawfully H = Of (made L store H) (λ r g. Laws g.kind)

  pub before : (c : Call) (H : List Call) → Lawfully (c ∷ H) → Lawfully H
  before c H ks r g h = ks r g (made_later L store c H r g h)

  -- the accepted promises are those that the history says
  pub made_same : (H : List Call) → Lawfully H → (r : ℕ) → made L store H r ≡ asks.made L store H r
  made_same [] ks r = refl
  made_same (call_promise g ∷ H) ks r =
      let ks' = before (call_promise g) H ks in
      let t = tied L store H (λ q x e. ks' q x (made_same H ks' q ∙ e)) (call_promise g) in
      ap₂ (λ s o. noted s g r o) t (made_same H ks' r) ∙ noted_told (outcome L store H (call_promise g)) g r (asks.made L store H r)
  made_same (call_answer q e z ∷ H) ks r = made_same H (before (call_answer q e z) H ks) r
  made_same (call_drop q ∷ H) ks r = made_same H (before (call_drop q) H ks) r

  pub tied_here : (H : List Call) → Lawfully H → (c : Call) → tells (run k0 H) c ≡ told (outcome L store H c)
  tied_here H ks c = tied L store H (λ q x e. ks q x (made_same H ks q ∙ e)) c

  -- so are the picks
  pub opens_same : (H : List Call) → Lawfully H → (r : ℕ) → opens_of (ends L store H r) ≡ picks L store H r
  opens_same [] ks r = refl
  opens_same (call_promise g ∷ H) ks r = opens_same H (before (call_promise g) H ks) r
  opens_same (call_answer q e z ∷ H) ks r =
      let ks' = before (call_answer q e z) H ks in
      let s = outcome L store H (call_answer q e z) in
      let one = answer_opens (run k0 H) q (answer_branch (run k0 H) q e z) s (tied_here H ks' (call_answer q e z)) (ends L store H r) in
      opens_cond (eqb r q) (left (answer_branch (run k0 H) q e z) (λ b. opened b ∷ ends L store H r) (ends L store H r)) (ends L store H r) (opens s (opens_of (ends L store H r))) one
      ∙ ap (λ bs. cond (eqb r q) (opens s bs) bs) (opens_same H ks' r)
  opens_same (call_drop q ∷ H) ks r =
      let ks' = before (call_drop q) H ks in
      let s = outcome L store H (call_drop q) in
      let one = drop_opens (drop_result (run k0 H) q) s (tied_here H ks' (call_drop q)) (ends L store H r) in
      opens_cond (eqb r q) (left (drop_result (run k0 H) q) (λ _. let_go ∷ ends L store H r) (ends L store H r)) (ends L store H r) (opens s (opens_of (ends L store H r))) one
      ∙ ap (λ bs. cond (eqb r q) (opens s bs) bs) (opens_same H ks' r)

  replayed_same : (keys tapes : ℕ → List ℕ) (H : List Call) → Lawfully H → replayed L store keys tapes H ≡ asks.replayed L store keys tapes H
  replayed_same keys tapes [] ks = refl
  replayed_same keys tapes (c ∷ H) ks =
      let ks' = before c H ks in
      ap₂ {C = List Call} (λ d D. d ∷ D)
      (ap (other_call keys tapes c) (tied_here H ks' c) ∙ other_told keys tapes c (outcome L store H c))
      (replayed_same keys tapes H ks')

  module _ (H : List Call) (ks : Lawfully H) (keys : ℕ → List ℕ) where
    -- what is the same by the keeper's words and by the history's
    abbrev ByKeeper : (ℕ → List ℕ) → Type 0
    ByKeeper ts = SameTold (made L store H) (λ r. closed_by (ends L store H r)) (all_told k0 H) (λ xs ys. all_told k0 (replayed L store xs ys H)) keys ts

    abbrev ByHistory : (ℕ → List ℕ) → Type 0
    ByHistory ts = SameTold (asks.made L store H) (asks.closed_in L store H) (all_told k0 H) (λ xs ys. all_told k0 (asks.replayed L store xs ys H)) keys ts

    same_by : (ts : ℕ → List ℕ) → ByKeeper ts ≡ ByHistory ts
    same_by ts =
        let m : made L store H ≡ asks.made L store H = fun_ext (made_same H ks) in
        let c : (λ r. closed_by (ends L store H r)) ≡ asks.closed_in L store H = fun_ext (λ r. closed_opens (ends L store H r) ∙ ap closed_of (opens_same H ks r)) in
        λ i. SameTold (m i) (c i) (all_told k0 H) (λ xs ys. all_told k0 (replayed_same xs ys H ks i)) keys ts

pub hiding : Hiding
hiding L store H = (
  once L store H,
  λ ks keys fits.
      let lawful : Lawfully L store H = λ r g e. (ks r g e).0 in
      let m = made_same L store H lawful in
      let found = hidden_by L store H (λ r g e. ks r g (m r ∙ e)) keys (λ r g e. fits r g (m r ∙ e)) in
      let down : (ts : ℕ → List ℕ) → ByKeeper L store H lawful keys ts → ByHistory L store H lawful keys ts = λ ts. subst (λ X. X) (same_by L store H lawful keys ts) in
      let only : (ts : ℕ → List ℕ) → ByKeeper L store H lawful keys ts → Of (made L store H) (λ r g. (e : Branch) → ends L store H r ≡ opened e ∷ [] → ts r ≡ found.0 r) =
      λ ts s r g e b h. found.2 ts (down ts s) r g (sym (m r) ∙ e) b (sym (opens_same L store H lawful r) ∙ ap opens_of h) in
      record {
        some_tapes = (found.0, subst (λ X. X) (sym (same_by L store H lawful keys found.0)) found.1);
        one_tape = λ ts ts' s s' r g e b h. only ts s r g e b h ∙ sym (only ts' s' r g e b h);
      },
)

pub completeness : Completeness
completeness L store H later g ks o room =
    let all = later ++ (call_promise g ∷ H) in
    completes_by_history L store H later g (λ r x e. ks r x (made_same L store all ks r ∙ e)) o room

-- what an open round of an honest promise is answered with
pub answered_own : (L : ℕ) (store : List ℕ) (H later : List Call) (g : Given)
    → Of (made L store (later ++ (call_promise g ∷ H))) (λ r h. Laws h.kind) → Honest L g → length (run (made_from L store) H).table < (run (made_from L store) H).capacity
    → state_of (run (made_from L store) (later ++ (call_promise g ∷ H))).table (suc (length (run (made_from L store) H).table)) ≡ Some RoundState.Promised
    → (e : Branch) (out : List ℕ) → length out ≡ 3 + 2 * L
    → (answer_result (run (made_from L store) (later ++ (call_promise g ∷ H))) (suc (length (run (made_from L store) H).table)) (pick_byte e) (length out) ≡ Ok tt)
    × (answer_after (run (made_from L store) (later ++ (call_promise g ∷ H))) (suc (length (run (made_from L store) H).table)) (pick_byte e) out ≡ own_answer g e)
unfolding own
answered_own L store H later g ks o room h e out z =
    let all = later ++ (call_promise g ∷ H) in
    answer_is L store H later g (λ r x k. ks r x (made_same L store all ks r ∙ k)) o room h e out z
