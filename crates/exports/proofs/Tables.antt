-- Records read from their numbers, and written as numbers.
use Rattle.std.proofs.Common.{◌≡◌, ℕ, zero, suc, ◌+◌, ◌<◌, ◌≤◌, Bool, true, false, cond, leb, List, [], ◌∷◌, ◌++◌, map, length, get_or, take, drop, set, Some, None, Option, sym, refl, ap, ◌∙◌, append_assoc, append-nil, add-one, arith, drop_of_length-le, drop-cons, le-leb}
use borrow.Author.Tests.{lt-leb}
use Rattle.theory.specs.declared.RoundState.{RoundState}
use Rattle.theory.specs.Records.{record_number}
use Rattle.theory.specs.Store.{rounds_in}
use Rattle.exports.specs.declared.told.KeeperState.{KeeperState}
use Rattle.std.specs.Option.{option_map, option_and_then}
use Rattle.exports.specs.State.{state_numbered, states_in, table_in}

-- records, then those of the numbers left
abbrev pub joined : List RoundState → Option (List RoundState) → Option (List RoundState)
joined t (Some u) = Some (t ++ u)
joined t None = None

-- one number more
one : (ns : List ℕ) (i : ℕ) → i < length ns → states_in (drop i ns) ≡ option_and_then (λ s. option_map (λ t. s ∷ t) (states_in (drop (suc i) ns))) (state_numbered (get_or ns i 0))
unfolding states_in
one ns i h = ap states_in (drop-cons ns i 0 h)

after : (ns : List ℕ) (i : ℕ) (o : Option RoundState) → i < length ns → state_numbered (get_or ns i 0) ≡ o
    → states_in (drop i ns) ≡ option_and_then (λ s. option_map (λ t. s ∷ t) (states_in (drop (suc i) ns))) o
after ns i o h e = one ns i h ∙ ap (option_and_then (λ s. option_map (λ t. s ∷ t) (states_in (drop (suc i) ns)))) e

pub read_next : (ns : List ℕ) (t : List RoundState) (i : ℕ) (s : RoundState) (x : Option (List RoundState)) → i < length ns
    → state_numbered (get_or ns i 0) ≡ Some s → x ≡ joined t (states_in (drop i ns)) → x ≡ joined (t ++ (s ∷ [])) (states_in (drop (i + 1) ns))
read_next ns t i s x h e inv = rw add-one (inv ∙ ap (joined t) (after ns i (Some s) h e) ∙ go (states_in (drop (suc i) ns)))
  where
    go : (y : Option (List RoundState)) → joined t (option_map (λ t. s ∷ t) y) ≡ joined (t ++ (s ∷ [])) y
    go (Some u) = ap (λ (l : List RoundState). Some l) (sym (append_assoc t (s ∷ []) u))
    go None = refl

-- a number that is no record's
pub read_none : (ns : List ℕ) (t : List RoundState) (i : ℕ) (x : Option (List RoundState)) → i < length ns
    → state_numbered (get_or ns i 0) ≡ None → x ≡ joined t (states_in (drop i ns)) → x ≡ None
read_none ns t i x h e inv = inv ∙ ap (joined t) (after ns i None h e)

pub read_end : (ns : List ℕ) (t : List RoundState) (i : ℕ) (x : Option (List RoundState)) → length ns ≤ i → x ≡ joined t (states_in (drop i ns)) → x ≡ Some t
unfolding states_in
read_end ns t i x k inv = inv ∙ ap (λ (l : List ℕ). joined t (states_in l)) (drop_of_length-le ns k) ∙ ap (λ (l : List RoundState). Some l) (append-nil t)

-- one record more
over_next : (t : List RoundState) (ns : List ℕ) (i : ℕ) (d : RoundState) → i < length t → length t ≤ length ns
    → set (map record_number (take i t) ++ drop i ns) i (record_number (get_or t i d)) ≡ map record_number (take (suc i) t) ++ drop (suc i) ns
over_next [] ns i d h k = absurd (omega arith)
over_next (x ∷ t) [] i d h k = absurd (omega arith)
over_next (x ∷ t) (n ∷ ns) zero d h k = refl
over_next (x ∷ t) (n ∷ ns) (suc i) d h k = ap (λ (l : List ℕ). record_number x ∷ l) (over_next t ns i d (omega arith) (omega arith))

pub write_next : (t : List RoundState) (ns now : List ℕ) (i : ℕ) (d : RoundState) (v : ℕ) → i < length t → length t ≤ length ns → v ≡ record_number (get_or t i d)
    → now ≡ map record_number (take i t) ++ drop i ns → set now i v ≡ map record_number (take (i + 1) t) ++ drop (i + 1) ns
write_next t ns now i d v h k e inv = rw add-one ((λ j. set (inv j) i (e j)) ∙ over_next t ns i d h k)

-- more rounds promised than the store holds, or not
pub none_held : (s : KeeperState) (n r : ℕ) → r ≡ rounds_in s.view_length n → r < s.promised → None ≡ table_in s n
unfolding table_in
none_held s n r e h =
    let f : leb s.promised (rounds_in s.view_length n) ≡ false = lt-leb s.promised (rounds_in s.view_length n) (omega arith) in
    sym (ap (λ (b : Bool). cond b (states_in (take s.promised s.records)) None) f)

pub held : (s : KeeperState) (n r : ℕ) → r ≡ rounds_in s.view_length n → s.promised ≤ r → states_in (take s.promised s.records) ≡ table_in s n
unfolding table_in
held s n r e h =
    let f : leb s.promised (rounds_in s.view_length n) ≡ true = le-leb s.promised (rounds_in s.view_length n) (omega arith) in
    sym (ap (λ (b : Bool). cond b (states_in (take s.promised s.records)) None) f)
