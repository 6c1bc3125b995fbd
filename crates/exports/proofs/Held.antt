-- A keeper's state between calls: what a call over it tells and leaves, and what the next call finds.
use Rattle.std.proofs.Common.{◌≡◌, ℕ, ◌≤◌, Bool, true, false, cond, leb, List, [], ◌∷◌, map, length, take, drop, Some, None, Ok, Err, Option, Result, sym, refl, ap, ◌∙◌, subst, arith, length-take, take_all, le-leb, leb-true}
use Rattle.std.proofs.lemmas.List.{length-map}
use lib.Seq.{take-append_seam}
use Rattle.faults.specs.declared.Fault.{Fault}
use Rattle.theory.specs.declared.RoundState.{RoundState}
use Rattle.theory.specs.Records.{record_number}
use Rattle.theory.specs.Store.{rounds_in}
use Rattle.theory.specs.Tests.{left}
use Rattle.theory.specs.Keeper.{Keeper, made_from}
use Rattle.keeper.specs.Model.{resumed_from}
use Rattle.exports.specs.declared.told.KeeperState.{KeeperState}
use Rattle.exports.specs.declared.told.Refusal.{Refusal}
use Rattle.std.specs.Option.{option_map, option_map_or, option_and_then}
use Rattle.exports.specs.Outcomes.{told_by}
use Rattle.exports.specs.State.{state_numbered, states_in, numbers_over, table_in, keeper_of, keeper_in, state_told}
use Rattle.exports.specs.Kept.{Keeps}
use Rattle.exports.specs.Keeping.{Leaves, told_in, store_in, state_in, next_in}

-- as many records as numbers
long_as : (ns : List ℕ) (t : List RoundState) → Some t ≡ states_in ns → length t ≡ length ns
unfolding states_in
long_as [] t e = let d : t ≡ [] = cc in ap length d
long_as (n ∷ ns) t e = go (λ u. long_as ns u) (state_numbered n) (states_in ns) refl e
  where
    go : ((u : List RoundState) → Some u ≡ states_in ns → length u ≡ length ns) → (x : Option RoundState) (y : Option (List RoundState)) → states_in ns ≡ y → Some t ≡ option_and_then (λ s. option_map (λ u. s ∷ u) y) x → length t ≡ length (n ∷ ns)
    go more None y d f = cc
    go more (Some s) None d f = cc
    go more (Some s) (Some u) d f =
        let g : t ≡ s ∷ u = cc in
        let l = more u (sym d) in
        ap length g ∙ omega arith

-- as many records as rounds, at most
few_held : (s : KeeperState) (n : ℕ) (t : List RoundState) → Some t ≡ table_in s n → length t ≤ rounds_in s.view_length n
unfolding table_in
few_held s n t e = go (leb s.promised (rounds_in s.view_length n)) refl e
  where
    go : (b : Bool) → leb s.promised (rounds_in s.view_length n) ≡ b → Some t ≡ cond b (states_in (take s.promised s.records)) None → length t ≤ rounds_in s.view_length n
    go false d f = cc
    go true d f =
        let h : s.promised ≤ rounds_in s.view_length n = leb-true s.promised (rounds_in s.view_length n) d in
        let l : length t ≡ length (take s.promised s.records) = long_as (take s.promised s.records) t f in
        omega (arith, length-take s.promised s.records)

pub opened : (s : KeeperState) (store : List ℕ) (t : List RoundState) → Some t ≡ table_in s (length store) → keeper_in s store ≡ Some (resumed_from s.view_length t store)
unfolding keeper_in
opened s store t e =
    let f : take (rounds_in s.view_length (length store)) t ≡ t = take_all (rounds_in s.view_length (length store)) t (few_held s (length store) t e) in
    ap (option_map (keeper_of s store)) (sym e)
    ∙ ap (λ (l : List RoundState). Some (keeper_of s store l)) (sym f)

pub unopened : (s : KeeperState) (store : List ℕ) → None ≡ table_in s (length store) → keeper_in s store ≡ None
unfolding keeper_in
unopened s store e = ap (option_map (keeper_of s store)) (sym e)

-- numbers tell their records
told_back : (t : List RoundState) → states_in (map record_number t) ≡ Some t
unfolding states_in
told_back [] = refl
told_back (s ∷ t) = ap (option_and_then (λ s. option_map (λ u. s ∷ u) (states_in (map record_number t)))) (back s) ∙ ap (option_map (λ u. s ∷ u)) (told_back t)
  where
    back : (s : RoundState) → state_numbered (record_number s) ≡ Some s
    back RoundState.Promised = refl
    back RoundState.Answered = refl
    back RoundState.Dropped = refl

-- the records of a state that was saved
front_told : (t : List RoundState) (ns : List ℕ) → take (length t) (numbers_over t ns) ≡ map record_number t
front_told t ns = ap (λ (n : ℕ). take n (numbers_over t ns)) (sym (length-map t record_number)) ∙ take-append_seam (map record_number t) (drop (length t) ns)

table_told : (s : KeeperState) (t : List RoundState) (n : ℕ) → length t ≤ rounds_in s.view_length n → table_in (state_told t s) n ≡ Some t
unfolding table_in
table_told s t n h =
    ap (λ (b : Bool). cond b (states_in (take (length t) (numbers_over t s.records))) None) (le-leb (length t) (rounds_in s.view_length n) h)
    ∙ ap states_in (front_told t s.records) ∙ told_back t

-- the state that was saved stands for the keeper
pub next_is : (s : KeeperState) (store store' : List ℕ) (k : Keeper) → k.view_size ≡ s.view_length → k.capacity ≡ rounds_in s.view_length (length store) → length k.table ≤ k.capacity
    → store' ≡ k.store → length store' ≡ length store → keeper_in (state_told k.table s) store' ≡ Some k
unfolding keeper_in
next_is s store store' k view room few same long =
    let cap-is : rounds_in s.view_length (length store') ≡ k.capacity = ap (rounds_in s.view_length) long ∙ sym room in
    let h : length k.table ≤ rounds_in s.view_length (length store') = omega arith in
    ap (option_map (keeper_of s store')) (table_told s k.table (length store') h)
    ∙ (λ i. Some (record { view_size = sym view i; capacity = cap-is i; store = same i; table = k.table }))

-- its store is the one beside the state
store_of : (s : KeeperState) (store : List ℕ) (k : Keeper) → keeper_in s store ≡ Some k → k.store ≡ store
unfolding keeper_in
store_of s store k e = go (table_in s (length store)) e
  where
    go : (o : Option (List RoundState)) → option_map (keeper_of s store) o ≡ Some k → k.store ≡ store
    go None d = cc
    go (Some t) d = let f : keeper_of s store t ≡ k = cc in sym (ap (λ (x : Keeper). x.store) f)

-- what a call over a state tells and leaves
pub record Carried {A : Type 0} (s : KeeperState) (store : List ℕ) (result : Keeper → Result A Fault) (after : Keeper → Keeper) (told : Result A Refusal) (s' : KeeperState) (store' : List ℕ) : Type 0 where
  pub outcome : told ≡ told_in s store result
  pub store_is : store' ≡ store_in s store after
  pub state_is : s' ≡ state_in s store result after
  pub next : keeper_in s' store' ≡ next_in s store after

module _ {A : Type 0} (s : KeeperState) (store : List ℕ) (result : Keeper → Result A Fault) (after : Keeper → Keeper) where
  -- a state that is none of a keeper
  pub none_carried : keeper_in s store ≡ None → Carried s store result after (Err Refusal.BadKeeper) s store
  unfolding told_in store_in state_in next_in
  none_carried e = record {
    outcome = sym (ap (λ (o : Option Keeper). option_map_or (λ k. told_by (result k)) o (Err Refusal.BadKeeper)) e);
    store_is = sym (ap (λ (o : Option Keeper). option_map_or (λ k. (after k).store) o store) e);
    state_is = sym (ap (λ (o : Option Keeper). option_map_or (λ k. left (result k) (λ _. state_told (after k).table s) s) o s) e);
    next = e ∙ sym (ap (option_map after) e);
  }

  module _ (k : Keeper) (e : keeper_in s store ≡ Some k) (view : k.view_size ≡ s.view_length) (room : k.capacity ≡ rounds_in s.view_length (length store)) where
    next_found : (r : Result A Fault) (s' : KeeperState) (store' : List ℕ) → Keeps k r (after k) → Leaves s r (after k) s' store' → length store' ≡ length store → keeper_in s' store' ≡ Some (after k)
    next_found (Ok a) s' store' keeps leaves long =
        ap (λ (x : KeeperState). keeper_in x store') leaves.state_is
        ∙ next_is s store store' (after k) (keeps.view ∙ view) (keeps.room ∙ room) leaves.few leaves.store_is long
    next_found (Err f) s' store' keeps leaves long =
        let same : after k ≡ k = keeps.refused f refl in
        (λ i. keeper_in (leaves.state_is i) ((leaves.store_is ∙ ap (λ (x : Keeper). x.store) same) i)) ∙ first ∙ ap (λ (x : Keeper). Some x) (sym same)
      where
        first : keeper_in s k.store ≡ Some k
        first = subst (λ (l : List ℕ). keeper_in s l ≡ Some k) (sym (store_of s store k e)) e

    pub carried : (r : Result A Fault) (s' : KeeperState) (store' : List ℕ) → r ≡ result k → Keeps k (result k) (after k) → Leaves s r (after k) s' store' → length store' ≡ length store → Carried s store result after (told_by r) s' store'
    unfolding told_in store_in state_in next_in
    carried r s' store' d keeps leaves long = record {
      outcome = ap told_by d ∙ sym (ap (λ (o : Option Keeper). option_map_or (λ k. told_by (result k)) o (Err Refusal.BadKeeper)) e);
      store_is = leaves.store_is ∙ sym (ap (λ (o : Option Keeper). option_map_or (λ k. (after k).store) o store) e);
      state_is =
          leaves.state_is ∙ ap (λ (x : Result A Fault). left x (λ _. state_told (after k).table s) s) d
          ∙ sym (ap (λ (o : Option Keeper). option_map_or (λ k. left (result k) (λ _. state_told (after k).table s) s) o s) e);
      next = next_found r s' store' (subst (λ (x : Result A Fault). Keeps k x (after k)) (sym d) keeps) leaves long ∙ sym (ap (option_map after) e);
    }

-- no round promised yet
pub made_is : (L : ℕ) (ns store : List ℕ) → keeper_in (record { view_length = L; promised = 0; records = ns }) store ≡ Some (made_from L store)
unfolding keeper_in table_in states_in
made_is L ns store =
    ap (λ (b : Bool). option_map (keeper_of (record { view_length = L; promised = 0; records = ns }) store) (cond b (Some []) None)) (le-leb 0 (rounds_in L (length store)) (omega arith))
