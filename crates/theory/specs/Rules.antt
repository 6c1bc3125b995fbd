-- Which condition each fault of each call stands for: the rules in their order, as statements. A call is accepted exactly when all rules
-- are kept; it refuses by the fault of the first that is broken.
use Rattle.std.specs.Prelude.{◌≡◌, ℕ, suc, ◌+◌, ◌*◌, ◌<◌, ◌≤◌, true, ◌⊎◌, List, [], ◌∷◌, ◌++◌, length, take, Some, None, Ok, Err, Result, ◌≢◌, slice_index, slice_index_or, Option}
use Rattle.std.specs.List.{AllByRecursion}
use Rattle.faults.specs.declared.Fault.{Fault}
use Rattle.faults.specs.declared.Reason.{Reason}
use Rattle.faults.specs.Numbers.{fault, fault_in}
use Rattle.kinds.specs.Kind.{Kind, Lawful}
use Rattle.locks.specs.Circuit.{Gate, ac, mc, ad, mu, Circuit}
use Rattle.locks.specs.Reading.{marked, lock_of}
use Rattle.seals.specs.Sealing.{Sealing}
use Rattle.theory.specs.declared.RoundState.{RoundState}
use Rattle.theory.specs.declared.PickFault.{PickFault}
use Rattle.theory.specs.Algebra.{ops_of}
use Rattle.theory.specs.Runs.{Branch, one, two, three, next, View, sum_of, at_outputs, plain, targets, rerun, due}
use Rattle.theory.specs.Branches.{Tape}
use Rattle.theory.specs.Groups.{element_at}
use Rattle.theory.specs.Messages.{pick_byte, view_of, length_of_key, length_of_view, length_of_tape, length_of_first, length_of_answer, length_of_work, shares_at, masks_at, products_at, outs_at, outs_in, seal_in, picked_view, next_view, key_of, tape_of, tape_shares_at, tape_masks_at}
use Rattle.theory.specs.Verdict.{verified}
use Rattle.theory.specs.Extraction.{beside, compared, extracted}
use Rattle.theory.specs.Keeper.{Keeper, Given, promise_result, state_of, answer_branch, drop_result}

-- what the rule asks, and by which fault it is broken
pub record Rule (F : Type 0) : Type 1 where
  pub kept : Type 0
  pub broken : F → Type 0

abbrev pub AllKept : {F : Type 0} → List (Rule F) → Type 0
AllKept [] = Unit {0}
AllKept (r ∷ rs) = r.kept × AllKept rs

-- a rule is broken by this fault, and all before it are kept
abbrev pub FirstBroken : {F : Type 0} → List (Rule F) → F → Type 0
FirstBroken [] f = ⊥
FirstBroken (r ∷ rs) f = (r.broken f) ⊎ (r.kept × FirstBroken rs f)

pub record Judged {A F : Type 0} (rs : List (Rule F)) (a : A) (v : Result A F) : Type 0 where
  pub accepts : v ≡ Ok a → AllKept rs
  pub accepted : AllKept rs → v ≡ Ok a
  pub refuses : (f : F) → v ≡ Err f → FirstBroken rs f
  pub refused : (f : F) → FirstBroken rs f → v ≡ Err f

-- a plain condition and its fault
abbrev pub must : {F : Type 0} → Type 0 → F → Rule F
must P f = record { kept = P; broken = λ g. (P → ⊥) × (g ≡ f) }

-- all elements are lawful; the first unlawful one tells its place
abbrev pub all_lawful : Kind → (ℕ → Fault) → List (List ℕ) → Rule Fault
all_lawful K at es = record {
  kept = AllByRecursion (Lawful K) es;
  broken = λ f. (i : ℕ) × (i < length es) × AllByRecursion (Lawful K) (take i es) × (Lawful K (slice_index_or es i []) → ⊥) × (f ≡ at i);
}

-- two lists differ first at a place; d stands behind their ends
abbrev pub DifferFirst : {A : Type 0} → (d : A) (xs ys : List A) → ℕ → Type 0
DifferFirst d xs ys i = (i < length xs) × (take i xs ≡ take i ys) × (slice_index_or xs i d ≢ slice_index_or ys i d)

-- two lists of rows are equal; the first difference tells its place
abbrev pub all_equal : (ℕ → Fault) → (xs ys : List (List ℕ)) → Rule Fault
all_equal at xs ys = record { kept = xs ≡ ys; broken = λ f. (i : ℕ) × DifferFirst [] xs ys i × (f ≡ at i) }

-- the wires of the MU gates, where the first gate writes wire `own`
abbrev pub product_wires : {E : Type 0} → (own : ℕ) → List (Gate E) → List ℕ
product_wires own [] = []
product_wires own (ac a c ∷ gs) = product_wires (suc own) gs
product_wires own (mc a c ∷ gs) = product_wires (suc own) gs
product_wires own (ad a b ∷ gs) = product_wires (suc own) gs
product_wires own (mu a b ∷ gs) = own ∷ product_wires (suc own) gs

-- a pick is 1, 2 or 3
abbrev pub IsPick : ℕ → Type 0
IsPick pick = (e : Branch) × (pick ≡ pick_byte e)

module _ (K : Kind) (S : Sealing) (l : Circuit (List ℕ)) where
  abbrev pub verify_size_rules : (first answer work1 work2 : ℕ) → List (Rule Fault)
  verify_size_rules first answer work1 work2 =
      must (length_of_view K l ≤ S.longest) (fault Reason.WrongSize 0)
      ∷ must (first ≡ length_of_first K l S.size) (fault Reason.WrongSize 1)
      ∷ must (answer ≡ length_of_answer K l) (fault Reason.WrongSize 2)
      ∷ must (length_of_work K l ≤ work1) (fault Reason.WrongSize 3)
      ∷ must (length_of_work K l ≤ work2) (fault Reason.WrongSize 4)
      ∷ []

  abbrev pub group_rule : Reason → (at : ℕ) → List (List ℕ) → Rule Fault
  group_rule r at es = all_lawful K (λ i. fault r (at + element_at K i)) es

  abbrev pub view_rules : (at : ℕ) → View (List ℕ) → List (Rule Fault)
  view_rules at A =
      group_rule Reason.MalformedAnswer (at + shares_at K l) A.wires
      ∷ group_rule Reason.MalformedAnswer (at + masks_at K l) A.masks
      ∷ group_rule Reason.MalformedAnswer (at + products_at K l) A.products
      ∷ []

  abbrev pub message_rules : (fm : List ℕ) → Branch → (an : List ℕ) → List (Rule Fault)
  message_rules fm e an =
      let y : Branch → List (List ℕ) = outs_in K l fm in
      let A : View (List ℕ) = (view_of K l (picked_view K l an)).1 in
      let B : View (List ℕ) = (view_of K l (next_view K l an)).1 in
      must (marked 70 77 fm ≡ true) (fault Reason.MalformedFirstMessage 0)
      ∷ group_rule Reason.MalformedFirstMessage (outs_at K l one) (y one)
      ∷ group_rule Reason.MalformedFirstMessage (outs_at K l two) (y two)
      ∷ group_rule Reason.MalformedFirstMessage (outs_at K l three) (y three)
      ∷ must (marked 65 78 an ≡ true) (fault Reason.MalformedAnswer 0)
      ∷ must (slice_index an 2 ≡ pick_byte e) (fault Reason.MalformedAnswer 2)
      ∷ view_rules 3 A ++ (view_rules (3 + length_of_view K l) B ++ (
      all_equal (λ i. fault Reason.MissedTarget i) (sum_of (ops_of K) y) (targets (ops_of K) l.outputs)
      ∷ must (S.seal (picked_view K l an) ≡ seal_in K l S.size fm e) (fault_in e Reason.WrongSeal 0)
      ∷ must (S.seal (next_view K l an) ≡ seal_in K l S.size fm (next e)) (fault_in (next e) Reason.WrongSeal 0)
      ∷ all_equal (λ i. fault_in e Reason.WrongOutputShare i) (at_outputs (ops_of K) l.outputs (rerun (ops_of K) e l.gates A)) (y e)
      ∷ all_equal (λ i. fault_in (next e) Reason.WrongOutputShare i) (at_outputs (ops_of K) l.outputs (rerun (ops_of K) (next e) l.gates B)) (y (next e))
      ∷ all_equal (λ i. fault_in e Reason.WrongProduct (slice_index (product_wires l.inputs l.gates) i)) A.products (due (ops_of K) e (next e) l.gates A B)
      ∷ []))

  abbrev pub extract_size_rules : (first answer1 answer2 answer3 work1 work2 key : ℕ) → List (Rule Fault)
  extract_size_rules first answer1 answer2 answer3 work1 work2 key =
      must (length_of_view K l ≤ S.longest) (fault Reason.WrongSize 0)
      ∷ must (first ≡ length_of_first K l S.size) (fault Reason.WrongSize 1)
      ∷ must (answer1 ≡ length_of_answer K l) (fault Reason.WrongSize 2)
      ∷ must (answer2 ≡ length_of_answer K l) (fault Reason.WrongSize 3)
      ∷ must (answer3 ≡ length_of_answer K l) (fault Reason.WrongSize 4)
      ∷ must (length_of_work K l ≤ work1) (fault Reason.WrongSize 5)
      ∷ must (length_of_work K l ≤ work2) (fault Reason.WrongSize 6)
      ∷ must (key ≡ length_of_key K l) (fault Reason.WrongSize 7)
      ∷ []

-- the same rules, with the pick beside each fault
abbrev pub beside_pick : Option Branch → List (Rule Fault) → List (Rule PickFault)
beside_pick e [] = []
beside_pick e (r ∷ rs) = record { kept = r.kept; broken = λ x. (f : Fault) × (r.broken f) × (x ≡ beside e f) } ∷ beside_pick e rs

abbrev pub promise_rules : Keeper → Given → Circuit (List ℕ) → List (Rule Fault)
promise_rules k g l =
    let K = g.kind in
    let key = key_of K l g.key in
    let t : Tape (List ℕ) = tape_of K l g.tape in
    must (length_of_view K l ≤ g.sealing.longest) (fault Reason.WrongSize 0)
    ∷ must (length g.key ≡ length_of_key K l) (fault Reason.WrongSize 1)
    ∷ must (length g.tape ≡ length_of_tape K l) (fault Reason.WrongSize 2)
    ∷ must (length_of_work K l ≤ g.work1) (fault Reason.WrongSize 3)
    ∷ must (length_of_work K l ≤ g.work2) (fault Reason.WrongSize 4)
    ∷ must (length_of_work K l ≤ g.work3) (fault Reason.WrongSize 5)
    ∷ must (g.first ≡ length_of_first K l g.sealing.size) (fault Reason.WrongSize 6)
    ∷ must (length_of_view K l ≡ k.view_size) (fault Reason.WrongSize 7)
    ∷ must (length k.table < k.capacity) (fault Reason.KeeperFull k.capacity)
    ∷ all_lawful K (λ i. fault Reason.UnlawfulKey i) key
    ∷ all_equal (λ i. fault Reason.KeyDoesNotFit i) (at_outputs (ops_of K) l.outputs (plain (ops_of K) l.gates key)) (targets (ops_of K) l.outputs)
    ∷ all_lawful K (λ i. fault Reason.UnlawfulTape (tape_shares_at K l one + element_at K i)) t.share1
    ∷ all_lawful K (λ i. fault Reason.UnlawfulTape (tape_shares_at K l two + element_at K i)) t.share2
    ∷ all_lawful K (λ i. fault Reason.UnlawfulTape (tape_masks_at K l one + element_at K i)) t.mask1
    ∷ all_lawful K (λ i. fault Reason.UnlawfulTape (tape_masks_at K l two + element_at K i)) t.mask2
    ∷ all_lawful K (λ i. fault Reason.UnlawfulTape (tape_masks_at K l three + element_at K i)) t.mask3
    ∷ []

-- a round that was promised, and neither answered nor dropped
abbrev pub round_rules : Keeper → (r : ℕ) → List (Rule Fault)
round_rules k r =
    must (state_of k.table r ≢ None) (fault Reason.UnknownRound r)
    ∷ must (state_of k.table r ≡ Some RoundState.Promised) (fault Reason.SpentRound r)
    ∷ []

pub record RulesLaw : Type 0 where
  -- a lock that is refused refuses every call that reads one
  pub lock_first : (K : Kind) (S : Sealing) (lock : List ℕ) (f : Fault) → lock_of K lock ≡ Err f
      → ((fm : List ℕ) (pick : ℕ) (an : List ℕ) (work1 work2 : ℕ) → verified K S lock fm pick an work1 work2 ≡ Err f)
      × ((fm : List ℕ) (an : Branch → List ℕ) (work1 work2 key : ℕ) → extracted K S lock fm an work1 work2 key ≡ Err (beside None f))
      × ((k : Keeper) (g : Given) → g.kind ≡ K → g.lock ≡ lock → promise_result k g ≡ Err f)
  pub verifying : (K : Kind) (S : Sealing) (lock : List ℕ) (l : Circuit (List ℕ)) → lock_of K lock ≡ Ok l → (fm : List ℕ) (e : Branch) (an : List ℕ) (work1 work2 : ℕ)
      → Judged (verify_size_rules K S l (length fm) (length an) work1 work2 ++ message_rules K S l fm e an) tt (verified K S lock fm (pick_byte e) an work1 work2)
  pub verifying_no_pick : (K : Kind) (S : Sealing) (lock : List ℕ) (l : Circuit (List ℕ)) → lock_of K lock ≡ Ok l → (fm : List ℕ) (pick : ℕ) (an : List ℕ) (work1 work2 : ℕ) → (IsPick pick → ⊥)
      → Judged (verify_size_rules K S l (length fm) (length an) work1 work2 ++ (must (IsPick pick) (fault Reason.WrongPick pick) ∷ [])) tt (verified K S lock fm pick an work1 work2)
  pub extracting : (K : Kind) (S : Sealing) (lock : List ℕ) (l : Circuit (List ℕ)) → lock_of K lock ≡ Ok l → (fm : List ℕ) (an : Branch → List ℕ) (work1 work2 key : ℕ)
      → Judged (beside_pick None (extract_size_rules K S l (length fm) (length (an one)) (length (an two)) (length (an three)) work1 work2 key)
      ++ (beside_pick (Some one) (message_rules K S l fm one (an one)) ++ (beside_pick (Some two) (message_rules K S l fm two (an two)) ++ beside_pick (Some three) (message_rules K S l fm three (an three)))))
      (compared K S l an) (extracted K S lock fm an work1 work2 key)
  pub promising : (k : Keeper) (g : Given) (l : Circuit (List ℕ)) → lock_of g.kind g.lock ≡ Ok l → Judged (promise_rules k g l) (suc (length k.table)) (promise_result k g)
  pub answering : (k : Keeper) (r : ℕ) (e : Branch) (size : ℕ)
      → Judged (round_rules k r ++ (must (size ≡ 3 + 2 * k.view_size) (fault Reason.WrongSize 1) ∷ [])) e (answer_branch k r (pick_byte e) size)
  pub answering_no_pick : (k : Keeper) (r pick size : ℕ) → (IsPick pick → ⊥) → (e : Branch)
      → Judged (round_rules k r ++ (must (IsPick pick) (fault Reason.WrongPick pick) ∷ [])) e (answer_branch k r pick size)
  pub dropping : (k : Keeper) (r : ℕ) → Judged (round_rules k r) tt (drop_result k r)
