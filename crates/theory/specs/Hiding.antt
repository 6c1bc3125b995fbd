-- Hiding: a history shows nothing of the keys beyond that they fit.
use Rattle.std.specs.Prelude.{◌≡◌, ℕ, ◌+◌, ◌≤◌, List, [], ◌∷◌, length, take, drop, Some, Option, ◌≢◌}
use Rattle.kinds.specs.Kind.{Kind, Laws, Bytes}
use Rattle.locks.specs.Circuit.{Circuit}
use Rattle.seals.specs.Sealing.{Sound}
use Rattle.theory.specs.Runs.{Branch}
use Rattle.theory.specs.Lawfulness.{TapeLawful}
use Rattle.theory.specs.Messages.{length_of_tape, blind_in, shares_in, masks_in, tape_of, seal_at}
use Rattle.theory.specs.Keeper.{made_from, Given, circuit_in}
use Rattle.theory.specs.History.{Call, call_promise, call_answer, call_drop, Told, told_fault, told_round, told_answer, told_drop, tells, run, all_told, End, opened, made, ends, Of, closed_by}
use Rattle.theory.specs.Soundness.{KeyFits}

-- the same promise with another key and tape
abbrev pub regiven : (keys tapes : ℕ → List ℕ) → ℕ → Given → Given
regiven keys tapes r g = record {
  kind = g.kind;
  sealing = g.sealing;
  lock = g.lock;
  key = keys r;
  tape = tapes r;
  work1 = g.work1;
  work2 = g.work2;
  work3 = g.work3;
  first = g.first;
}

-- only an accepted promise changes
abbrev pub other_call : (keys tapes : ℕ → List ℕ) → Call → Told → Call
other_call keys tapes (call_promise g) (told_fault f) = call_promise g
other_call keys tapes (call_promise g) (told_round r x) = call_promise (regiven keys tapes r g)
other_call keys tapes (call_promise g) (told_answer x) = call_promise g
other_call keys tapes (call_promise g) told_drop = call_promise g
other_call keys tapes (call_answer r e z) t = call_answer r e z
other_call keys tapes (call_drop r) t = call_drop r

-- the history with these keys and tapes in its accepted promises
abbrev pub replayed : (L : ℕ) (store : List ℕ) (keys tapes : ℕ → List ℕ) → List Call → List Call
replayed L store keys tapes [] = []
replayed L store keys tapes (c ∷ H) = other_call keys tapes c (tells (run (made_from L store) H) c) ∷ replayed L store keys tapes H

-- a lawful tape u with the blinds of t, which differs from t only in the shares and masks of branch c
pub record KeptTape (K : Kind) (l : Circuit (List ℕ)) (c : Branch) (t u : List ℕ) : Type 0 where
  pub size : length u ≡ length_of_tape K l
  pub lawful : TapeLawful K (tape_of K l u)
  pub as_bytes : Bytes t → Bytes u
  pub blinds : (i : Branch) → blind_in K l u i ≡ blind_in K l t i
  pub others : (i : Branch) → (i ≢ c) → (shares_in K l u i ≡ shares_in K l t i) × (masks_in K l u i ≡ masks_in K l t i)

-- equal outside d bytes at offset o
pub record Outside (o d : ℕ) (x x' : List ℕ) : Type 0 where
  pub long : length x' ≡ length x
  pub before : take o x' ≡ take o x
  pub behind : drop (o + d) x' ≡ drop (o + d) x

-- by the accepted promises and the closed branches
module _ (made : ℕ → Option Given) (closed : ℕ → Branch) where
  -- the same is given back, but for the closed seal of a first message
  pub data LikeTold (s s' : Told) : Type 0 where
    equal_told : s' ≡ s → LikeTold s s'
    but_closed : (r : ℕ) (g : Given) (x x' : List ℕ) → s ≡ told_round r x → s' ≡ told_round r x' → made r ≡ Some g
        → Outside (seal_at g.kind (circuit_in g) g.sealing.size (closed r)) g.sealing.size x x' → LikeTold s s'

  abbrev pub LikesTold : List Told → List Told → Type 0
  LikesTold [] [] = Unit {0}
  LikesTold [] (s' ∷ ss') = ⊥
  LikesTold (s ∷ ss) [] = ⊥
  LikesTold (s ∷ ss) (s' ∷ ss') = LikeTold s s' × LikesTold ss ss'

  -- tapes that are changed only in each closed branch, with which the same is given back
  pub record SameTold (shown : List Told) (again : (keys tapes : ℕ → List ℕ) → List Told) (keys tapes : ℕ → List ℕ) : Type 0 where
    pub kept : Of made (λ r g. KeptTape g.kind (circuit_in g) (closed r) g.tape (tapes r))
    pub alike : LikesTold shown (again keys tapes)

-- for any other fitting keys there are such tapes; and for a round that was answered, only one
pub record Hidden (made : ℕ → Option Given) (ends : ℕ → List End) (shown : List Told) (again : (keys tapes : ℕ → List ℕ) → List Told) (keys : ℕ → List ℕ) : Type 0 where
  pub some_tapes : (tapes : ℕ → List ℕ) × SameTold made (λ r. closed_by (ends r)) shown again keys tapes
  pub one_tape : (tapes tapes' : ℕ → List ℕ) → SameTold made (λ r. closed_by (ends r)) shown again keys tapes → SameTold made (λ r. closed_by (ends r)) shown again keys tapes'
      → Of made (λ r g. (e : Branch) → ends r ≡ opened e ∷ [] → tapes r ≡ tapes' r)

abbrev pub Hides : (made : ℕ → Option Given) (ends : ℕ → List End) (shown : List Told) (again : (keys tapes : ℕ → List ℕ) → List Told) → Type 0
Hides made ends shown again =
    Of made (λ r g. Laws g.kind × Sound g.sealing)
    → (keys : ℕ → List ℕ) → Of made (λ r g. KeyFits g.kind (circuit_in g) (keys r))
    → Hidden made ends shown again keys

-- for every history, from whatever view length and store: no round is answered twice, none after it was dropped; and it hides
abbrev pub Hiding : Type 0
Hiding = (L : ℕ) (store : List ℕ) (H : List Call)
    → ((r : ℕ) → length (ends L store H r) ≤ 1)
    × Hides (made L store H) (ends L store H) (all_told (made_from L store) H) (λ keys tapes. all_told (made_from L store) (replayed L store keys tapes H))
