-- A fault tells the first broken rule.
use Rattle.std.proofs.Common.{◌≡◌, ℕ, zero, suc, ◌+◌, ◌<◌, ◌≤◌, Bool, true, false, ltb, leb, ◌⊎◌, List, [], ◌∷◌, ◌++◌, length, take, drop, Some, None, Ok, Err, Option, Result, sym, refl, ap, ◌∙◌, subst, inl, inr, ⊎_elim, append_assoc, add-zero, arith, length-append, length-drop}
use Rattle.std.specs.List.{flat_map}
use Rattle.std.proofs.lemmas.List.{take-append-drop}
use Rattle.std.proofs.lemmas.Bool.{ltb-false, leb-true, leb-false}
use Rattle.faults.specs.declared.Reason.{Reason}
use Rattle.faults.specs.declared.Fault.{Fault}
use Rattle.faults.specs.Numbers.{fault}
use Rattle.faults.specs.Outcomes.{check, and_then, map_ok}
use Rattle.faults.proofs.Passed.{err_ok, err_same}
use Rattle.kinds.specs.Kind.{Kind, Lawful, Bytes}
use Rattle.locks.specs.Circuit.{Gate, ac, mc, ad, mu, mus}
use Rattle.locks.specs.Limits.{longest_view}
use Rattle.locks.specs.Lengths.{view_length}
use Rattle.locks.specs.Reading.{GateMark, gate_mark, gate_size, wire_and_row, two_wires, gate_body, gate_in, wire_right, wire_and_row_right, two_wires_right, gate_right, counted, in_front, gates_from}
use Rattle.locks.specs.Encoding.{gate_bytes, GateFor, GatesFor}
use Rattle.locks.specs.Refusing.{first_letter, second_letter, letters, record_size, InFront, RowBroken, WiresBroken, FieldsBroken, GateBroken, gate_cut, gate_unmarked, gate_short, gate_field, gate_view}
use Rattle.locks.proofs.Fields.{bytes_drop, begins_so, gate_marked}
use Rattle.locks.proofs.Spelled.{gate_stands, wire_below, right_for, counted_is}
use Rattle.locks.proofs.Written.{gate_long}

-- a refused test
pub check_err : {A : Type 0} (b : Bool) (e : Fault) (r : Result A Fault) (f : Fault) → check b e r ≡ Err f → ((b ≡ false) × (e ≡ f)) ⊎ ((b ≡ true) × (r ≡ Err f))
check_err true e r f h = inr (refl, h)
check_err false e r f h = inl (refl, err_same h)

pub then_refused : {A B : Type 0} (r : Result A Fault) (k : A → Result B Fault) (f : Fault) → and_then r k ≡ Err f → (r ≡ Err f) ⊎ ((a : A) × (r ≡ Ok a) × (k a ≡ Err f))
then_refused (Ok a) k f h = inr (a, refl, h)
then_refused (Err e) k f h = inl (ap Err (err_same h))

pub map_refused : {A B : Type 0} (g : A → B) (r : Result A Fault) (f : Fault) → map_ok g r ≡ Err f → r ≡ Err f
map_refused g (Ok a) f h = err_ok (sym h)
map_refused g (Err e) f h = ap Err (err_same h)

-- the mark of bytes that begin so
letters_mark : (m : GateMark) (ys : List ℕ) → gate_mark (letters m ++ ys) ≡ Some m
letters_mark GateMark.AddConstant ys = refl
letters_mark GateMark.MultiplyConstant ys = refl
letters_mark GateMark.Add ys = refl
letters_mark GateMark.Multiply ys = refl

no_mark : (xs : List ℕ) → gate_mark xs ≡ None → (m : GateMark) → take 2 xs ≡ letters m → ⊥
no_mark xs e m h =
    let has : gate_mark xs ≡ Some m = ap gate_mark (sym (take-append-drop 2 xs) ∙ ap (λ t. t ++ drop 2 xs) h) ∙ letters_mark m (drop 2 xs) in
    cc

module _ (K : Kind) where
  pub row_short : (at : ℕ) (xs : List ℕ) (f : Fault) → 2 ≤ length xs → wire_and_row K at (drop 2 xs) ≡ Err f → (length xs < 6 + K.width) × (fault Reason.Truncated at ≡ f)
  row_short at xs f two h =
      ⊎_elim (λ p. (omega (arith, leb-false (4 + K.width) (length (drop 2 xs)) p.0, length-drop 2 xs, two), p.1)) (λ p. err_ok (sym p.1))
      (check_err (leb (4 + K.width) (length (drop 2 xs))) _ _ f h)

  wires_short : (at : ℕ) (xs : List ℕ) (f : Fault) → 2 ≤ length xs → two_wires at (drop 2 xs) ≡ Err f → (length xs < 10) × (fault Reason.Truncated at ≡ f)
  wires_short at xs f two h =
      ⊎_elim (λ p. (omega (arith, leb-false 8 (length (drop 2 xs)) p.0, length-drop 2 xs, two), p.1)) (λ p. err_ok (sym p.1))
      (check_err (leb 8 (length (drop 2 xs))) _ _ f h)

  -- the body of a record whose mark is known
  body_broken : (m : GateMark) (at : ℕ) (xs : List ℕ) (f : Fault) → 2 ≤ length xs → gate_body K at (Some m) (drop 2 xs) ≡ Err f
      → (length xs < record_size K m) × (fault Reason.Truncated at ≡ f)
  body_broken GateMark.AddConstant at xs f two h = row_short at xs f two (map_refused _ (wire_and_row K at (drop 2 xs)) f h)
  body_broken GateMark.MultiplyConstant at xs f two h = row_short at xs f two (map_refused _ (wire_and_row K at (drop 2 xs)) f h)
  body_broken GateMark.Add at xs f two h = wires_short at xs f two (map_refused _ (two_wires at (drop 2 xs)) f h)
  body_broken GateMark.Multiply at xs f two h = wires_short at xs f two (map_refused _ (two_wires at (drop 2 xs)) f h)

  record_broken : (k own q at : ℕ) (xs : List ℕ) (f : Fault) → gate_in K at xs ≡ Err f → GateBroken K k own q at xs f
  record_broken k own q at xs f h =
      ⊎_elim (λ p. subst (GateBroken K k own q at xs) p.1 (gate_cut (leb-false 2 (length xs) p.0)))
      (λ p. go (leb-true 2 (length xs) p.0) (gate_mark xs) refl p.1)
      (check_err (leb 2 (length xs)) (fault Reason.Truncated at) (gate_body K at (gate_mark xs) (drop 2 xs)) f h)
    where
      go : 2 ≤ length xs → (m : Option GateMark) → gate_mark xs ≡ m → gate_body K at m (drop 2 xs) ≡ Err f → GateBroken K k own q at xs f
      go two None e b = subst (GateBroken K k own q at xs) (err_same b) (gate_unmarked two (no_mark xs e))
      go two (Some m) e b = let p = body_broken m at xs f two b in subst (GateBroken K k own q at xs) p.1 (gate_short m (begins_so (first_letter m) (second_letter m) xs (gate_marked xs m e) two) p.0)

  wire_broken : (own place a : ℕ) (f : Fault) → wire_right own place a ≡ Err f → (own ≤ a) × (f ≡ fault Reason.WireTooHigh place)
  wire_broken own place a f h =
      ⊎_elim (λ p. (ltb-false a own p.0, sym p.1)) (λ p. err_ok (sym p.1)) (check_err (ltb a own) (fault Reason.WireTooHigh place) (Ok tt) f h)

  pub row_broken : (own at a : ℕ) (c : List ℕ) (f : Fault) → wire_and_row_right K at own a c ≡ Err f → RowBroken K own at a c f
  row_broken own at a c f h =
      ⊎_elim (λ e. inl (wire_broken own (at + 2) a f e))
      (λ p. inr (⊎_elim (λ q. (wire_below K own (at + 2) a p.0 p.1, q.0, sym q.1)) (λ q. err_ok (sym q.1)) (check_err (K.lawful c) (fault Reason.UnlawfulConstant (at + 6)) (Ok tt) f p.2)))
      (then_refused (wire_right own (at + 2) a) _ f h)

  wires_broken : (own at a b : ℕ) (f : Fault) → two_wires_right at own a b ≡ Err f → WiresBroken K own at a b f
  wires_broken own at a b f h =
      ⊎_elim (λ e. inl (wire_broken own (at + 2) a f e))
      (λ p. let w = wire_broken own (at + 6) b f p.2 in inr (wire_below K own (at + 2) a p.0 p.1, w.0, w.1))
      (then_refused (wire_right own (at + 2) a) _ f h)

  fields_broken : (own at : ℕ) (g : Gate (List ℕ)) (f : Fault) → gate_right K at own g ≡ Err f → FieldsBroken K own at g f
  fields_broken own at (ac a c) f h = row_broken own at a c f h
  fields_broken own at (mc a c) f h = row_broken own at a c f h
  fields_broken own at (ad a b) f h = wires_broken own at a b f h
  fields_broken own at (mu a b) f h = wires_broken own at a b f h

  count_broken : (k own q at : ℕ) (xs : List ℕ) (g : Gate (List ℕ)) (f : Fault) → InFront (gate_bytes g) xs → GateFor K own g → counted K at k q g ≡ Err f → GateBroken K k own q at xs f
  count_broken k own q at xs (ac a c) f s r h = err_ok (sym h)
  count_broken k own q at xs (mc a c) f s r h = err_ok (sym h)
  count_broken k own q at xs (ad a b) f s r h = err_ok (sym h)
  count_broken k own q at xs (mu a b) f s r h =
      ⊎_elim (λ p. subst (GateBroken K k own q at xs) p.1 (gate_view a b s r (leb-false (view_length K k (q + 1)) longest_view p.0))) (λ p. err_ok (sym p.1))
      (check_err (leb (view_length K k (q + 1)) longest_view) (fault Reason.OutsideLimits at) (Ok (q + 1)) f h)

  module _ (sized : (x : List ℕ) → Lawful K x → length x ≡ K.width) where
    -- gates that are right, and the one that is not
    pub record GatesBroken (k n own q at : ℕ) (xs : List ℕ) (f : Fault) : Type 0 where
      pub before : List (Gate (List ℕ))
      pub rest : List ℕ
      pub fewer : length before < n
      pub for : GatesFor K own before
      pub spelled : flat_map gate_bytes before ++ rest ≡ xs
      pub broken : GateBroken K k (own + length before) (q + mus before) (at + length (flat_map gate_bytes before)) rest f

    none_before : (k n own q at : ℕ) (xs : List ℕ) (f : Fault) → GateBroken K k own q at xs f → GatesBroken k (suc n) own q at xs f
    none_before k n own q at xs f b = record {
      before = [];
      rest = xs;
      fewer = omega arith;
      for = tt;
      spelled = refl;
      broken = subst (λ w. GateBroken K k w (q + 0) (at + 0) xs f) (sym (add-zero own)) (subst (λ p. GateBroken K k own p (at + 0) xs f) (sym (add-zero q)) (subst (λ p. GateBroken K k own q p xs f) (sym (add-zero at)) b));
    }

    one_before : (k n own q at p : ℕ) (xs : List ℕ) (f : Fault) (g : Gate (List ℕ)) → GateFor K own g → gate_bytes g ++ drop (gate_size K g) xs ≡ xs → counted K at k q g ≡ Ok p
        → GatesBroken k n (suc own) p (at + gate_size K g) (drop (gate_size K g) xs) f → GatesBroken k (suc n) own q at xs f
    one_before k n own q at p xs f g r s c b = record {
      before = g ∷ b.before;
      rest = b.rest;
      fewer = let h = b.fewer in omega arith;
      for = (r, b.for);
      spelled = append_assoc (gate_bytes g) (flat_map gate_bytes b.before) b.rest ∙ ap (λ t. gate_bytes g ++ t) b.spelled ∙ s;
      broken =
          let own_is : suc own + length b.before ≡ own + suc (length b.before) = omega arith in
          let long : length (gate_bytes g ++ flat_map gate_bytes b.before) ≡ gate_size K g + length (flat_map gate_bytes b.before) = length-append (gate_bytes g) (flat_map gate_bytes b.before) ∙ ap (λ j. j + length (flat_map gate_bytes b.before)) (gate_long K sized own g r) in
          let at-is : at + gate_size K g + length (flat_map gate_bytes b.before) ≡ at + length (gate_bytes g ++ flat_map gate_bytes b.before) = omega (arith, long) in
          subst (λ w. GateBroken K k w (q + mus (g ∷ b.before)) (at + length (gate_bytes g ++ flat_map gate_bytes b.before)) b.rest f) own_is
          (subst (λ m. GateBroken K k (suc own + length b.before) m (at + length (gate_bytes g ++ flat_map gate_bytes b.before)) b.rest f) (counted_is K at k q g b.before p c).0
          (subst (λ j. GateBroken K k (suc own + length b.before) (p + mus b.before) j b.rest f) at-is b.broken));
    }

    pub gates_broken : (k n own q at : ℕ) (xs : List ℕ) (f : Fault) → Bytes xs → gates_from K k n own q at xs ≡ Err f → GatesBroken k n own q at xs f
    unfolding gates_from
    gates_broken k zero own q at xs f by h = err_ok (sym h)
    gates_broken k (suc n) own q at xs f by h =
        ⊎_elim (λ e. none_before k n own q at xs f (record_broken k own q at xs f e))
        (λ a. let stands = gate_stands K at xs a.0 a.1 in
        ⊎_elim (λ e. none_before k n own q at xs f (gate_field a.0 f (drop (gate_size K a.0) xs, stands.spelled by) (fields_broken own at a.0 f e)))
        (λ b. let r = right_for K at own a.0 b.0 b.1 in
        ⊎_elim (λ e. none_before k n own q at xs f (count_broken k own q at xs a.0 f (drop (gate_size K a.0) xs, stands.spelled by) r e))
        (λ c. one_before k n own q at c.0 xs f a.0 r (stands.spelled by) c.1
        (gates_broken k n (suc own) c.0 (at + gate_size K a.0) (drop (gate_size K a.0) xs) f (bytes_drop (gate_size K a.0) xs by) (map_refused (in_front a.0) _ f c.2)))
        (then_refused (counted K at k q a.0) _ f b.2))
        (then_refused (gate_right K at own a.0) _ f a.2))
        (then_refused (gate_in K at xs) _ f h)
