-- Soundness: three accepted answers to one first message give a fitting key, or two views with one seal.
use Rattle.std.specs.Prelude.{◌≡◌, ℕ, ◌<◌, List, length, take, Ok, Err, Result, ◌≢◌, slice_index, None}
use Rattle.std.specs.List.{AllByRecursion}
use Rattle.faults.specs.declared.Reason.{Reason}
use Rattle.faults.specs.Numbers.{fault}
use Rattle.kinds.specs.Kind.{Kind, Laws, Lawful}
use Rattle.locks.specs.Circuit.{Circuit}
use Rattle.locks.specs.Reading.{lock_of}
use Rattle.seals.specs.Sealing.{Sealing}
use Rattle.theory.specs.declared.Extracted.{Extracted}
use Rattle.theory.specs.declared.PickFault.{PickFault}
use Rattle.theory.specs.Algebra.{ops_of}
use Rattle.theory.specs.Runs.{Branch, Fits}
use Rattle.theory.specs.Messages.{pick_byte, length_of_key, length_of_work, key_of}
use Rattle.theory.specs.Verdict.{verified}
use Rattle.theory.specs.Extraction.{beside, copy, second_copy, extracted, key_after}

-- these bytes are a key that fits
pub record KeyFits (K : Kind) (l : Circuit (List ℕ)) (ks : List ℕ) : Type 0 where
  pub size : length ks ≡ length_of_key K l
  pub lawful : AllByRecursion (Lawful K) (key_of K l ks)
  pub fits : Fits (ops_of K) l (key_of K l ks)

-- two byte lists differ, first at offset o
abbrev pub FirstUnlike : List ℕ → List ℕ → ℕ → Type 0
FirstUnlike xs ys o = (o < length xs) × (o < length ys) × (take o xs ≡ take o ys) × (slice_index xs o ≢ slice_index ys o)

module _ (K : Kind) (S : Sealing) (l : Circuit (List ℕ)) (an : Branch → List ℕ) (work1 work2 : ℕ) (key : List ℕ) where
  -- what may come of it: the outcome, and the key buffer afterwards
  pub data SoundEnd (outcome : Result Extracted PickFault) (after : List ℕ) : Type 0 where
    -- a work slice or the key buffer has a wrong size
    small_work1 : work1 < length_of_work K l → outcome ≡ Err (beside None (fault Reason.WrongSize 5)) → after ≡ key → SoundEnd outcome after
    small_work2 : work2 < length_of_work K l → outcome ≡ Err (beside None (fault Reason.WrongSize 6)) → after ≡ key → SoundEnd outcome after
    other_key : (length key ≢ length_of_key K l) → outcome ≡ Err (beside None (fault Reason.WrongSize 7)) → after ≡ key → SoundEnd outcome after
    -- a key is written, and it fits
    a_key : outcome ≡ Ok Extracted.Key → KeyFits K l after → SoundEnd outcome after
    -- the lowest branch whose two copies differ, where they first do; they have one seal
    a_collision : (i : Branch) (o : ℕ) → outcome ≡ Ok (Extracted.Collision i o) → after ≡ key
        → ((j : Branch) → pick_byte j < pick_byte i → copy K S l an j ≡ second_copy K S l an j)
        → FirstUnlike (copy K S l an i) (second_copy K S l an i) o
        → S.seal (copy K S l an i) ≡ S.seal (second_copy K S l an i)
        → SoundEnd outcome after

-- of every kind with the laws and every sealer; the verifier's work slices (w1, w2) and the extractor's may have any lengths
abbrev pub Soundness : Type 0
Soundness = (K : Kind) → Laws K → (S : Sealing) (lock fm : List ℕ) (an : Branch → List ℕ) (w1 w2 : Branch → ℕ)
    → ((e : Branch) → verified K S lock fm (pick_byte e) (an e) (w1 e) (w2 e) ≡ Ok tt)
    → (work1 work2 : ℕ) (key : List ℕ)
    → (l : Circuit (List ℕ)) × (lock_of K lock ≡ Ok l)
    × SoundEnd K S l an work1 work2 key (extracted K S lock fm an work1 work2 (length key)) (key_after K S lock fm an work1 work2 key)
