-- Keys, views, tapes, first messages and answers as bytes, and back.
use Rattle.std.specs.Prelude.{◌≡◌, ℕ, ◌+◌, ◌*◌, List, [], ◌∷◌, ◌++◌, length, take, drop}
use Rattle.std.specs.List.{AllByRecursion}
use Rattle.kinds.specs.Kind.{Kind, Laws, Lawful}
use Rattle.kinds.specs.Groups.{group_length}
use Rattle.locks.specs.Circuit.{Circuit, mus}
use Rattle.locks.specs.Lengths.{key_length, view_length, tape_length, first_length, answer_length, work_length}
use Rattle.theory.specs.Runs.{Branch, one, two, three, View}
use Rattle.theory.specs.Branches.{Tape, ViewFor, TapeFor}
use Rattle.theory.specs.Lawfulness.{ViewLawful, TapeLawful}
use Rattle.theory.specs.Groups.{group, group_bytes}
pub use Rattle.faults.specs.Branches.{behind, pick_byte, branch_of}

-- a view with its blind in front
abbrev pub Blinded : Type 0
Blinded = List ℕ × View (List ℕ)

unfoldable pub view_bytes : Kind → Blinded → List ℕ
view_bytes K v = v.0 ++ (group_bytes K v.1.wires ++ (group_bytes K v.1.masks ++ group_bytes K v.1.products))

-- of a lock with this circuit
module _ (K : Kind) (l : Circuit (List ℕ)) where
  abbrev pub length_of_key : ℕ
  length_of_key = key_length K l.inputs

  abbrev pub length_of_view : ℕ
  length_of_view = view_length K l.inputs (mus l.gates)

  abbrev pub length_of_tape : ℕ
  length_of_tape = tape_length K l.inputs (mus l.gates)

  -- with seals of d bytes
  abbrev pub length_of_first : ℕ → ℕ
  length_of_first d = first_length K (length l.outputs) d

  abbrev pub length_of_answer : ℕ
  length_of_answer = answer_length K l.inputs (mus l.gates)

  abbrev pub length_of_work : ℕ
  length_of_work = work_length K l.inputs (length l.gates)

  -- the groups in them
  abbrev pub shares_length : ℕ
  shares_length = group_length K l.inputs

  abbrev pub masks_length : ℕ
  masks_length = group_length K (mus l.gates)

  abbrev pub outs_length : ℕ
  outs_length = group_length K (length l.outputs)

  abbrev pub key_of : List ℕ → List (List ℕ)
  key_of xs = group K l.inputs xs

  -- where a view's shares, masks and products begin, behind its blind
  abbrev pub shares_at : ℕ
  shares_at = 32

  abbrev pub masks_at : ℕ
  masks_at = 32 + shares_length

  abbrev pub products_at : ℕ
  products_at = 32 + shares_length + masks_length

  unfoldable pub view_of : List ℕ → Blinded
  view_of xs = (
    take 32 xs,
    record {
      wires = group K l.inputs (drop shares_at xs);
      masks = group K (mus l.gates) (drop masks_at xs);
      products = group K (mus l.gates) (drop products_at xs);
    },
  )

  -- a tape's parts: three blinds, shares of branches 1 and 2, masks of branches 1, 2, 3
  abbrev pub blind_in : List ℕ → Branch → List ℕ
  blind_in xs i = take 32 (drop (32 * behind i) xs)

  abbrev pub tape_shares_at : Branch → ℕ
  tape_shares_at i = 96 + behind i * shares_length

  abbrev pub tape_masks_at : Branch → ℕ
  tape_masks_at i = 96 + 2 * shares_length + behind i * masks_length

  abbrev pub shares_in : List ℕ → Branch → List ℕ
  shares_in xs one = take shares_length (drop (tape_shares_at one) xs)
  shares_in xs two = take shares_length (drop (tape_shares_at two) xs)
  shares_in xs three = []

  abbrev pub masks_in : List ℕ → Branch → List ℕ
  masks_in xs i = take masks_length (drop (tape_masks_at i) xs)

  abbrev pub tape_of : List ℕ → Tape (List ℕ)
  tape_of xs = record {
    share1 = group K l.inputs (shares_in xs one);
    share2 = group K l.inputs (shares_in xs two);
    mask1 = group K (mus l.gates) (masks_in xs one);
    mask2 = group K (mus l.gates) (masks_in xs two);
    mask3 = group K (mus l.gates) (masks_in xs three);
  }

  abbrev pub tape_bytes : (Branch → List ℕ) → Tape (List ℕ) → List ℕ
  tape_bytes blind t =
      blind one ++ (blind two ++ (blind three ++ (group_bytes K t.share1 ++ (group_bytes K t.share2
      ++ (group_bytes K t.mask1 ++ (group_bytes K t.mask2 ++ group_bytes K t.mask3))))))

  -- where the output shares of a branch begin in a first message, and where its seal of d bytes
  abbrev pub outs_at : Branch → ℕ
  outs_at i = 2 + behind i * outs_length

  abbrev pub seal_at : ℕ → Branch → ℕ
  seal_at d i = 2 + 3 * outs_length + behind i * d

  abbrev pub outs_in : List ℕ → Branch → List (List ℕ)
  outs_in xs i = group K (length l.outputs) (drop (outs_at i) xs)

  abbrev pub seal_in : ℕ → List ℕ → Branch → List ℕ
  seal_in d xs i = take d (drop (seal_at d i) xs)

  -- an answer's two views: of the picked branch, and of the one after it
  abbrev pub picked_view : List ℕ → List ℕ
  picked_view xs = take length_of_view (drop 3 xs)

  abbrev pub next_view : List ℕ → List ℕ
  next_view xs = drop (3 + length_of_view) xs

-- FM, three branches' output shares, three seals
abbrev pub first_bytes : Kind → (outs : Branch → List (List ℕ)) (seals : Branch → List ℕ) → List ℕ
first_bytes K outs seals =
    70 ∷ 77 ∷ group_bytes K (outs one) ++ (group_bytes K (outs two) ++ (group_bytes K (outs three) ++ (seals one ++ (seals two ++ seals three))))

-- AN, the pick, two views
abbrev pub answer_bytes : Branch → (picked following : List ℕ) → List ℕ
answer_bytes e a b = 65 ∷ 78 ∷ pick_byte e ∷ a ++ b

-- the laws of views, tapes, first messages and answers: read as written, written as read
pub record MessageLaws (K : Kind) (l : Circuit (List ℕ)) : Type 0 where
  pub view_for : (xs : List ℕ) → ViewFor l (view_of K l xs).1
  pub view_written : (xs : List ℕ) → length xs ≡ length_of_view K l → view_bytes K (view_of K l xs) ≡ xs
  pub view_read : Laws K → (v : Blinded) → length v.0 ≡ 32 → ViewFor l v.1 → ViewLawful K v.1
      → (view_of K l (view_bytes K v) ≡ v) × (length (view_bytes K v) ≡ length_of_view K l)
  pub tape_for : (xs : List ℕ) → TapeFor l (tape_of K l xs)
  pub tape_written : (xs : List ℕ) → length xs ≡ length_of_tape K l → tape_bytes K l (blind_in K l xs) (tape_of K l xs) ≡ xs
  pub tape_read : Laws K → (blind : Branch → List ℕ) (t : Tape (List ℕ)) → ((i : Branch) → length (blind i) ≡ 32) → TapeFor l t → TapeLawful K t
      → (tape_of K l (tape_bytes K l blind t) ≡ t) × ((i : Branch) → blind_in K l (tape_bytes K l blind t) i ≡ blind i)
      × (length (tape_bytes K l blind t) ≡ length_of_tape K l)
  pub first_read : Laws K → (d : ℕ) (outs : Branch → List (List ℕ)) (seals : Branch → List ℕ)
      → ((i : Branch) → length (outs i) ≡ length l.outputs) → ((i : Branch) → AllByRecursion (Lawful K) (outs i)) → ((i : Branch) → length (seals i) ≡ d)
      → ((i : Branch) → outs_in K l (first_bytes K outs seals) i ≡ outs i) × ((i : Branch) → seal_in K l d (first_bytes K outs seals) i ≡ seals i)
      × (length (first_bytes K outs seals) ≡ length_of_first K l d)
  pub answer_read : (e : Branch) (a b : List ℕ) → length a ≡ length_of_view K l → length b ≡ length_of_view K l
      → (picked_view K l (answer_bytes e a b) ≡ a) × (next_view K l (answer_bytes e a b) ≡ b) × (length (answer_bytes e a b) ≡ length_of_answer K l)
