-- A small lock of words, worked through; and witnesses that the promises' premises can be met.
use Rattle.std.specs.Prelude.{◌≡◌, ℕ, ◌+◌, ◌-◌, ◌*◌, ◌%◌, ◌^◌, ◌<◌, ◌≤◌, true, false, List, [], ◌∷◌, ◌++◌, length, take, replicate, Some, Ok, Err}
use Rattle.faults.specs.declared.Reason.{Reason}
use Rattle.faults.specs.Numbers.{fault, fault_in}
use Rattle.kinds.specs.Kind.{Laws}
use Rattle.kinds.specs.Numbers.{four_bytes}
use Rattle.kinds.specs.Three.{bit_kind, word_kind, residue_kind}
use Rattle.locks.specs.Circuit.{Circuit, mu, ac}
use Rattle.locks.specs.Reading.{lock_of}
use Rattle.seals.specs.Sealing.{Sealing, Sound}
use Rattle.theory.specs.declared.Extracted.{Extracted}
use Rattle.theory.specs.declared.RoundState.{RoundState}
use Rattle.theory.specs.Algebra.{ops_of}
use Rattle.theory.specs.Runs.{Branch, one, two, three, next, honest}
use Rattle.theory.specs.Messages.{pick_byte, first_bytes, answer_bytes, seal_at}
use Rattle.theory.specs.Verdict.{verified}
use Rattle.theory.specs.Extraction.{extracted, key_after}
use Rattle.theory.specs.Store.{rounds_in}
use Rattle.theory.specs.Keeper.{Keeper, made_from, Given, given, circuit_in, own_view, own_view_bytes, own_first, own_answer, promise_result, first_after, state_of, answer_result, answer_after}
use Rattle.theory.specs.History.{Call, call_promise, call_answer, run, opened, made, ends}
use Rattle.theory.specs.Soundness.{KeyFits}
use Rattle.theory.specs.Completeness.{Honest}
use Rattle.theory.specs.Hiding.{Outside}

-- numbers modulo 2^32, as rows
abbrev pub row : ℕ → List ℕ
row n = four_bytes (n % 2 ^ 32)

abbrev pub rows : List ℕ → List ℕ
rows [] = []
rows (n ∷ ns) = row n ++ rows ns

-- two inputs, a product, 5 more, one output with a target
abbrev pub worked_lock : (target : ℕ) → List ℕ
worked_lock t =
    76 ∷ 75 ∷ 2 ∷ 0 ∷ 0 ∷ 0 ∷ 2 ∷ 0 ∷ 0 ∷ 0 ∷ 2 ∷ 0 ∷ 0 ∷ 0 ∷ 1 ∷
    77 ∷ 85 ∷ 0 ∷ 0 ∷ 0 ∷ 0 ∷ 0 ∷ 0 ∷ 0 ∷ 1 ∷
    65 ∷ 67 ∷ 0 ∷ 0 ∷ 0 ∷ 2 ∷ 0 ∷ 0 ∷ 0 ∷ 5 ∷
    79 ∷ 85 ∷ 0 ∷ 0 ∷ 0 ∷ 3 ∷ 0 ∷ 0 ∷ 0 ∷ t ∷ []

abbrev pub worked_circuit : (target : ℕ) → Circuit (List ℕ)
worked_circuit t = record { inputs = 2; gates = mu 0 1 ∷ ac 2 (row 5) ∷ []; outputs = record { wire = 3; target = row t } ∷ [] }

abbrev pub Every : (Branch → Type 0) → Type 0
Every P = P one × P two × P three

-- over any sealer: views have 48 bytes
module _ (S : Sealing) where
  -- a promise of the key (x, y) with shares (10, 20), (1, 2), masks 100, 7 and a third one
  abbrev pub with_mask : (x y : ℕ) (mask : List ℕ) → Given
  with_mask x y mask =
      given word_kind S (worked_lock 17) (rows (x ∷ y ∷ [])) (replicate 96 9 ++ (rows (10 ∷ 20 ∷ 1 ∷ 2 ∷ 100 ∷ 7 ∷ []) ++ mask)) 16 16 16 (14 + 3 * S.size)

  abbrev pub with_key : (x y mask : ℕ) → Given
  with_key x y mask = with_mask x y (row mask)

  -- a keeper of one round, before and after the promise of (3, 4)
  abbrev pub keeper : Keeper
  keeper = made_from 48 (replicate 144 0)

  abbrev pub promised : Keeper
  promised = run keeper (call_promise (with_key 3 4 50) ∷ [])

  -- the (3, 4) run with its first product one more, and all that follows from it made to match
  abbrev pub forged_view : Branch → List ℕ
  forged_view one = replicate 32 9 ++ rows (10 ∷ 20 ∷ 100 ∷ 334 ∷ [])
  forged_view two = own_view_bytes (with_key 3 4 50) two
  forged_view three = own_view_bytes (with_key 3 4 50) three

  abbrev pub forged_outs : Branch → List (List ℕ)
  forged_outs one = row 339 ∷ []
  forged_outs two = row (2 ^ 32 - 75) ∷ []
  forged_outs three = row (2 ^ 32 - 246) ∷ []

  abbrev pub forged_first : List ℕ
  forged_first = first_bytes word_kind forged_outs (λ i. S.seal (forged_view i))

  abbrev pub forged_answer : Branch → List ℕ
  forged_answer e = answer_bytes e (forged_view e) (forged_view (next e))

  pub record WorkedBy : Type 0 where
    -- keys (3, 4) and (1, 12) fit, (3, 5) does not
    pub fits_1 : promise_result keeper (with_key 3 4 50) ≡ Ok 1
    pub fits_2 : promise_result keeper (with_key 1 12 54) ≡ Ok 1
    pub fits_not : promise_result keeper (with_key 3 5 50) ≡ Err (fault Reason.KeyDoesNotFit 0)
    -- branch 3's shares, the products, the output shares
    pub third_shares : (own_view (with_key 3 4 50) three).1.wires ≡ row (2 ^ 32 - 8) ∷ row (2 ^ 32 - 18) ∷ []
    pub product_1 : (own_view (with_key 3 4 50) one).1.products ≡ row 333 ∷ []
    pub product_2 : (own_view (with_key 3 4 50) two).1.products ≡ row (2 ^ 32 - 75) ∷ []
    pub product_3 : (own_view (with_key 3 4 50) three).1.products ≡ row (2 ^ 32 - 246) ∷ []
    pub out_shares : (out : List ℕ) → take 14 (first_after keeper (with_key 3 4 50) out) ≡ 70 ∷ 77 ∷ rows (338 ∷ (2 ^ 32 - 75) ∷ (2 ^ 32 - 246) ∷ [])
    -- each pick is answered, and accepted
    pub answers : (out : List ℕ) → length out ≡ 99 → Every (λ e. (answer_result promised 1 (pick_byte e) (length out) ≡ Ok tt) × (answer_after promised 1 (pick_byte e) out ≡ own_answer (with_key 3 4 50) e))
    pub accepted : Every (λ e. verified word_kind S (worked_lock 17) (own_first (with_key 3 4 50)) (pick_byte e) (own_answer (with_key 3 4 50) e) 16 16 ≡ Ok tt)
    -- pick 1, key (1, 12): third mask 54 shows the same, and no other
    pub hidden_first : Outside (seal_at word_kind (worked_circuit 17) S.size three) S.size (own_first (with_key 3 4 50)) (own_first (with_key 1 12 54))
    pub hidden_answer : own_answer (with_key 1 12 54) one ≡ own_answer (with_key 3 4 50) one
    pub no_other : (a b c d : ℕ) → a < 256 → b < 256 → c < 256 → d < 256
        → own_answer (with_mask 1 12 (a ∷ b ∷ c ∷ d ∷ [])) one ≡ own_answer (with_key 3 4 50) one → a ∷ b ∷ c ∷ d ∷ [] ≡ row 54
    -- the three answers yield the key
    pub extracts : extracted word_kind S (worked_lock 17) (own_first (with_key 3 4 50)) (own_answer (with_key 3 4 50)) 16 16 8 ≡ Ok Extracted.Key
    pub yields : (key : List ℕ) → length key ≡ 8 → key_after word_kind S (worked_lock 17) (own_first (with_key 3 4 50)) (own_answer (with_key 3 4 50)) 16 16 key ≡ rows (3 ∷ 4 ∷ [])
    -- target 18, first product 334, first output share 339
    pub forged_1 : verified word_kind S (worked_lock 18) forged_first 1 (forged_answer one) 16 16 ≡ Err (fault_in one Reason.WrongProduct 2)
    pub forged_2 : verified word_kind S (worked_lock 18) forged_first 2 (forged_answer two) 16 16 ≡ Ok tt
    pub forged_3 : verified word_kind S (worked_lock 18) forged_first 3 (forged_answer three) 16 16 ≡ Ok tt

-- one MU of the bit kind: key (1, 1)
abbrev pub bit_shares : Branch → List (List ℕ)
bit_shares one = (1 ∷ []) ∷ (0 ∷ []) ∷ []
bit_shares two = (0 ∷ []) ∷ (1 ∷ []) ∷ []
bit_shares three = (0 ∷ []) ∷ (0 ∷ []) ∷ []

abbrev pub bit_masks : Branch → List (List ℕ)
bit_masks one = (1 ∷ []) ∷ []
bit_masks two = (0 ∷ []) ∷ []
bit_masks three = (1 ∷ []) ∷ []

abbrev pub bit_products : Branch → List (List ℕ)
bit_products one = (0 ∷ []) ∷ []
bit_products two = (1 ∷ []) ∷ []
bit_products three = (0 ∷ []) ∷ []

pub record Worked : Type 0 where
  pub reads : lock_of word_kind (worked_lock 17) ≡ Ok (worked_circuit 17)
  pub by_sealer : (S : Sealing) → Sound S → 48 ≤ S.longest → WorkedBy S
  pub bits : Every (λ e. honest (ops_of bit_kind) (mu 0 1 ∷ []) bit_shares bit_masks e ≡ bit_products e)
  pub residue_yes : residue_kind.lawful (127 ∷ 255 ∷ 255 ∷ 254 ∷ []) ≡ true
  pub residue_no : residue_kind.lawful (127 ∷ 255 ∷ 255 ∷ 255 ∷ []) ≡ false
  pub bit_no : bit_kind.lawful (2 ∷ []) ≡ false
  pub short : lock_of word_kind (take 35 (worked_lock 17)) ≡ Err (fault Reason.Truncated 35)
  pub longer : lock_of word_kind (worked_lock 17 ++ (0 ∷ [])) ≡ Err (fault Reason.TrailingBytes 45)
  pub empty : lock_of word_kind [] ≡ Err (fault Reason.Truncated 0)
  pub rounds_0 : rounds_in 48 143 ≡ 0
  pub rounds_1 : rounds_in 48 144 ≡ 1
  pub rounds_64 : rounds_in 48 9216 ≡ 64
  pub rounds_most : rounds_in 48 20000 ≡ 64
  pub rounds_short : rounds_in 32 9216 ≡ 0

-- the premises can be met: a sealer that adds bytes up, a bit lock of one product with target 0, and two of its keys
abbrev pub total : List ℕ → ℕ
total [] = 0
total (x ∷ xs) = x + total xs

abbrev pub adder : Sealing
adder = record { size = 4; longest = 65535; seal = λ x. four_bytes (total x) }

abbrev pub bit_lock : List ℕ
bit_lock = 76 ∷ 75 ∷ 1 ∷ 0 ∷ 0 ∷ 0 ∷ 2 ∷ 0 ∷ 0 ∷ 0 ∷ 1 ∷ 0 ∷ 0 ∷ 0 ∷ 1 ∷ 77 ∷ 85 ∷ 0 ∷ 0 ∷ 0 ∷ 0 ∷ 0 ∷ 0 ∷ 0 ∷ 1 ∷ 79 ∷ 85 ∷ 0 ∷ 0 ∷ 0 ∷ 2 ∷ 0 ∷ []

abbrev pub bit_given : Given
bit_given = given bit_kind adder bit_lock (0 ∷ 1 ∷ []) (replicate 96 7 ++ (1 ∷ 0 ∷ 1 ∷ 1 ∷ 0 ∷ 1 ∷ 1 ∷ [])) 3 3 3 17

abbrev pub bit_keeper : Keeper
bit_keeper = made_from 36 (replicate 108 0)

abbrev pub bit_history : List Call
bit_history = call_answer 1 2 75 ∷ call_promise bit_given ∷ []

pub record Witness : Type 0 where
  pub laws : Laws bit_kind
  pub sound : Sound adder
  pub honest_one : Honest 36 bit_given
  pub room_left : length (run bit_keeper []).table < (run bit_keeper []).capacity
  pub still_open : state_of (run bit_keeper (call_promise bit_given ∷ [])).table 1 ≡ Some RoundState.Promised
  pub three_accepted : Every (λ e. verified bit_kind adder bit_lock (own_first bit_given) (pick_byte e) (own_answer bit_given e) 3 3 ≡ Ok tt)
  pub is_made : made 36 (replicate 108 0) bit_history 1 ≡ Some bit_given
  pub is_opened : ends 36 (replicate 108 0) bit_history 1 ≡ opened two ∷ []
  pub other_fits : KeyFits bit_kind (circuit_in bit_given) (1 ∷ 0 ∷ [])
