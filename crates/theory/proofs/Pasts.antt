-- A history of parsed calls: what each shows, going by the earlier accepted ones.
use Rattle.std.proofs.Common.{◌≡◌, ℕ, suc, ◌≤◌, Bool, true, false, cond, eqb, ltb, List, [], ◌∷◌, length, Some, None, Ok, Err, Option}
use Rattle.faults.specs.Numbers.{fault}
use Rattle.faults.specs.declared.Fault.{Fault}
use Rattle.faults.specs.declared.Reason.{Reason}
use Rattle.kinds.specs.Kind.{Kind, Lawful, Laws}
use Rattle.locks.specs.Circuit.{Circuit}
use Rattle.seals.specs.Sealing.{Sealing}
use Rattle.std.specs.List.{AllByRecursion}
use Rattle.theory.proofs.Claims.{SameBut}
use Rattle.theory.specs.Algebra.{ops_of}
use Rattle.theory.specs.Branches.{Tape, TapeFor, view, out_shares}
use Rattle.theory.specs.Lawfulness.{CircuitLawful, TapeLawful}
use Rattle.theory.specs.Messages.{view_bytes, branch_of}
use Rattle.theory.specs.Runs.{Branch, three, next, View, Fits}
use Rattle.theory.specs.Tests.{Verdict}

-- one promise, with the values given
pub record Promise : Type 0 where
  pub kind : Kind
  pub sealing : Sealing
  pub lock : Circuit (List ℕ)
  pub blind : Branch → List ℕ
  pub key : List (List ℕ)
  pub tape : Tape (List ℕ)
  -- what tests 1 to 7 found, but for the last
  pub tests : Verdict

-- the kind keeps its laws, key and tape have the lock's sizes, and the tests pass no unlawful lock and no blind of another length
abbrev pub Stands : Promise → Type 0
Stands p = Laws p.kind × (p.tests ≡ Ok tt → CircuitLawful p.kind p.lock × ((i : Branch) → length (p.blind i) ≡ 32)) × (length p.key ≡ p.lock.inputs) × TapeFor p.lock p.tape

-- promise; answer to a round, a pick, into a buffer of so many bytes; drop of a round
pub data Move : Type 0 where
  promise : Promise → Move
  answer : (round pick size : ℕ) → Move
  drop : (round : ℕ) → Move

-- a first message
pub record Message : Type 0 where
  pub kind : Kind
  pub outs : Branch → List (List ℕ)
  pub seals : Branch → List ℕ

-- what a call shows
pub data Shown : Type 0 where
  refused : Fault → Shown
  promised : ℕ → Message → Shown
  answered : Branch → (first second : List ℕ) → Shown
  dropped : Shown

-- the view of a branch, with its blind
abbrev pub opened_view : Promise → Branch → List ℕ × View (List ℕ)
opened_view p i = (p.blind i, view (ops_of p.kind) p.lock p.key p.tape i)

abbrev pub message : Promise → Message
message p = record {
  kind = p.kind;
  outs = out_shares (ops_of p.kind) p.lock p.key p.tape;
  seals = λ i. p.sealing.seal (view_bytes p.kind (opened_view p i));
}

-- what the earlier accepted calls were: the promises, the latest first; the rounds answered or dropped; the picks that a round was answered to
pub record Past : Type 0 where
  pub made : List Promise
  pub gone : ℕ → Bool
  pub opened : ℕ → List Branch

-- the r-th accepted promise, from 1
abbrev pub round : List Promise → ℕ → Option Promise
round [] r = None
round (p ∷ ps) r = cond (eqb r (suc (length ps))) (Some p) (round ps r)

abbrev pub note : Shown → Promise → List Promise → List Promise
note (refused f) p ps = ps
note (promised r m) p ps = p ∷ ps
note (answered b x y) p ps = ps
note dropped p ps = ps

abbrev pub ends : Shown → Bool → Bool
ends (refused f) g = g
ends (promised r m) g = g
ends (answered b x y) g = true
ends dropped g = true

abbrev pub opens : Shown → List Branch → List Branch
opens (refused f) bs = bs
opens (promised r m) bs = bs
opens (answered b x y) bs = b ∷ bs
opens dropped bs = bs

-- the past with one more call
abbrev pub after : Past → Move → Shown → Past
after P (promise p) s = record { made = note s p P.made; gone = P.gone; opened = P.opened }
after P (answer r e z) s = record { made = P.made; gone = λ q. cond (eqb q r) (ends s (P.gone q)) (P.gone q); opened = λ q. cond (eqb q r) (opens s (P.opened q)) (P.opened q) }
after P (drop r) s = record { made = P.made; gone = λ q. cond (eqb q r) (ends s (P.gone q)) (P.gone q); opened = λ q. cond (eqb q r) (opens s (P.opened q)) (P.opened q) }

abbrev pub redo : (ℕ → List (List ℕ)) → (ℕ → Tape (List ℕ)) → ℕ → Promise → Promise
redo keys tapes r p = record { kind = p.kind; sealing = p.sealing; lock = p.lock; blind = p.blind; key = keys r; tape = tapes r; tests = p.tests }

-- an accepted promise gets its other key and tape
abbrev pub other : (ℕ → List (List ℕ)) → (ℕ → Tape (List ℕ)) → Move → Shown → Move
other keys tapes (promise p) (refused f) = promise p
other keys tapes (promise p) (promised r m) = promise (redo keys tapes r p)
other keys tapes (promise p) (answered b x y) = promise p
other keys tapes (promise p) dropped = promise p
other keys tapes (answer r e z) s = answer r e z
other keys tapes (drop r) s = drop r

-- equal but for the seal of branch c
pub record Same (c : Branch) (m m' : Message) : Type 0 where
  pub outs_same : (i : Branch) → m'.outs i ≡ m.outs i
  pub seals_same : (i : Branch) → (i ≡ c → ⊥) → m'.seals i ≡ m.seals i

-- shown alike, closed seals aside
pub data Like (closed : ℕ → Branch) (s s' : Shown) : Type 0 where
  equal : s' ≡ s → Like closed s s'
  but_seal : (r : ℕ) (m m' : Message) → s ≡ promised r m → s' ≡ promised r m' → Same (closed r) m m' → Like closed s s'

abbrev pub Likes : (ℕ → Branch) → List Shown → List Shown → Type 0
Likes closed [] [] = Unit {0}
Likes closed [] (s' ∷ ss') = ⊥
Likes closed (s ∷ ss) [] = ⊥
Likes closed (s ∷ ss) (s' ∷ ss') = Like closed s s' × Likes closed ss ss'

-- the closed branch: not opened by the answer; branch 3 where nothing was opened
abbrev pub closed_of : List Branch → Branch
closed_of [] = three
closed_of (b ∷ bs) = next (next b)

-- a promise's tests: of the lock and the sizes; then of the values
pub record Checks : Type 0 where
  pub early : Promise → Verdict
  pub late : Promise → Verdict

-- over the tests, the keeper's number of rounds and its answers' size
module _ (ck : Checks) (n size : ℕ) where
  abbrev pub promise_shows : Verdict → Bool → Verdict → ℕ → Promise → Shown
  promise_shows (Err f) room l r p = refused f
  promise_shows (Ok u) false l r p = refused (fault Reason.KeeperFull n)
  promise_shows (Ok u) true (Err f) r p = refused f
  promise_shows (Ok u) true (Ok v) r p = promised r (message p)

  abbrev pub answer_shows : Option Promise → Bool → Option Branch → Bool → ℕ → ℕ → Shown
  answer_shows None g b s r e = refused (fault Reason.UnknownRound r)
  answer_shows (Some p) true b s r e = refused (fault Reason.SpentRound r)
  answer_shows (Some p) false None s r e = refused (fault Reason.WrongPick e)
  answer_shows (Some p) false (Some b) false r e = refused (fault Reason.WrongSize 1)
  answer_shows (Some p) false (Some b) true r e = answered b (view_bytes p.kind (opened_view p b)) (view_bytes p.kind (opened_view p (next b)))

  abbrev pub drop_shows : Option Promise → Bool → ℕ → Shown
  drop_shows None g r = refused (fault Reason.UnknownRound r)
  drop_shows (Some p) true r = refused (fault Reason.SpentRound r)
  drop_shows (Some p) false r = dropped

  abbrev pub shows : Past → Move → Shown
  shows P (promise p) = promise_shows (ck.early p) (ltb (length P.made) n) (ck.late p) (suc (length P.made)) p
  shows P (answer r e z) = answer_shows (round P.made r) (P.gone r) (branch_of e) (eqb z size) r e
  shows P (drop r) = drop_shows (round P.made r) (P.gone r) r

  -- a history has its latest call first
  abbrev pub past : List Move → Past
  past [] = record { made = []; gone = λ q. false; opened = λ q. [] }
  past (c ∷ h) = after (past h) c (shows (past h) c)

  abbrev pub all_shown : List Move → List Shown
  all_shown [] = []
  all_shown (c ∷ h) = shows (past h) c ∷ all_shown h

  abbrev pub recast : (ℕ → List (List ℕ)) → (ℕ → Tape (List ℕ)) → List Move → List Move
  recast keys tapes [] = []
  recast keys tapes (c ∷ h) = other keys tapes c (shows (past h) c) ∷ recast keys tapes h

  abbrev pub closed : List Move → ℕ → Branch
  closed h r = closed_of ((past h).opened r)

  -- what holds of each accepted promise, by its round
  abbrev pub Each : List Move → (ℕ → Promise → Type 0) → Type 0
  Each h G = (r : ℕ) (p : Promise) → round (past h).made r ≡ Some p → G r p

  -- tapes that are changed only in each closed branch, and show the same
  pub record Fine (h : List Move) (keys : ℕ → List (List ℕ)) (tapes : ℕ → Tape (List ℕ)) : Type 0 where
    pub kept : Each h (λ r p. TapeFor p.lock (tapes r) × TapeLawful p.kind (tapes r) × SameBut (closed h r) p.tape (tapes r))
    pub alike : Likes (closed h) (all_shown h) (all_shown (recast keys tapes h))

  -- no round is answered twice
  abbrev pub Once : Type 0
  Once = (h : List Move) (r : ℕ) → length ((past h).opened r) ≤ 1

  -- the key and the tape are lawful, and the key fits
  pub record Values (p : Promise) : Type 0 where
    pub key_lawful : AllByRecursion (Lawful p.kind) p.key
    pub fits : Fits (ops_of p.kind) p.lock p.key
    pub tape_lawful : TapeLawful p.kind p.tape
    pub tape_for : TapeFor p.lock p.tape

  -- tests 1 to 7 pass no unlawful lock, and tests 12 to 14 pass just such values
  pub record Tests : Type 0 where
    pub locks : (p : Promise) → Stands p → ck.early p ≡ Ok tt → CircuitLawful p.kind p.lock
    pub blinds : (p : Promise) → Stands p → ck.early p ≡ Ok tt → (i : Branch) → length (p.blind i) ≡ 32
    pub passing : (p : Promise) → Stands p → ck.late p ≡ Ok tt → Values p
    pub passed_by : (p : Promise) → Values p → ck.late p ≡ Ok tt
    -- other lawful values have the same sizes
    pub blind_to : (p : Promise) (keys : ℕ → List (List ℕ)) (tapes : ℕ → Tape (List ℕ)) (r : ℕ) → Stands p → ck.early p ≡ Ok tt → Values (redo keys tapes r p) → ck.early (redo keys tapes r p) ≡ Ok tt

  abbrev pub Hidden : Type 0
  Hidden =
      (h : List Move) → Each h (λ r p. Stands p)
      → (keys : ℕ → List (List ℕ)) → Each h (λ r p. AllByRecursion (Lawful p.kind) (keys r) × Fits (ops_of p.kind) p.lock (keys r))
      → (tapes : ℕ → Tape (List ℕ)) × Fine h keys tapes
      × ((tapes' : ℕ → Tape (List ℕ)) → Fine h keys tapes' → Each h (λ r p. (b : Branch) → (past h).opened r ≡ b ∷ [] → tapes' r ≡ tapes r))
