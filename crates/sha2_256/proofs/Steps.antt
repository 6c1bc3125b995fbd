-- The definitions of `specs/`, one step on.
use Rattle.std.proofs.Common.{◌≡◌, ℕ, zero, suc, take, drop, add-zero, ◌+◌, ◌-◌, ◌<◌, ◌≤◌, List, [], ◌∷◌, ◌++◌, map, length, get_or, sym, refl, ap, ◌∙◌, add-one, arith, le-ltb, lt-ltb}
use Rattle.std.specs.List.{range_with_len}
use Rattle.std.proofs.lemmas.List.FromFn.{get_or-map-range_with_len}
use Rattle.parts.specs.Words.{be32_at}
use Rattle.std.proofs.lemmas.List.{length-drop, get_or-drop}
use Rattle.std.proofs.lemmas.List.Sums.{fold_more}
use Rattle.sha2_256.specs.Keyed.{keyed_round, keyed_rounds}
use Rattle.sha2_256.specs.Sha256.{◌⊞◌, ch, maj, Σ0, Σ1, σ0, σ1, k, grow, schedule, turned, round, rounds}

pub rounds_more : (t : ℕ) (w s : List ℕ) → rounds (t + 1) w s ≡ round (get_or k t 0) (get_or w t 0) (rounds t w s)
unfolding rounds
rounds_more t w s = rw add-one refl

pub schedule_none : (m : List ℕ) → schedule 0 m ≡ []
unfolding schedule
schedule_none m = refl

pub schedule_more : (t : ℕ) (m : List ℕ) → schedule (t + 1) m ≡ grow t m (schedule t m)
unfolding schedule
schedule_more t m = rw (add-one t) refl

-- below 16 the words of the block, and then four words back
pub schedule_early : (t : ℕ) (m : List ℕ) → t < 16 → schedule (t + 1) m ≡ schedule t m ++ be32_at m t ∷ []
schedule_early t m h = rw (schedule_more t m, lt-ltb t 16 h) refl

pub schedule_late : (t : ℕ) (m : List ℕ) → 16 ≤ t →
    schedule (t + 1) m ≡
    schedule t m ++
    (σ1 (get_or (schedule t m) (t - 2) 0) ⊞ get_or (schedule t m) (t - 7) 0 ⊞ σ0 (get_or (schedule t m) (t - 15) 0) ⊞
    get_or (schedule t m) (t - 16) 0) ∷ []
schedule_late t m h = rw (schedule_more t m, le-ltb t 16 h) refl

-- the word of a round with its constant, added before the round
pub keyed_at : (v w : List ℕ) → v ≡ map (λ t. get_or k t 0 ⊞ get_or w t 0) (range_with_len 0 64) → (t : ℕ) → t < 64 → get_or v t 0 ≡ get_or k t 0 ⊞ get_or w t 0
keyed_at v w e t h =
    ap (λ (x : List ℕ). get_or x t 0) e ∙ get_or-map-range_with_len (λ t. get_or k t 0 ⊞ get_or w t 0) 0 64 t t 0 h (omega arith)

regrouped : (x y z : ℕ) → (x ⊞ y) ⊞ z ≡ x ⊞ (y ⊞ z)
regrouped x y z = omega arith

-- a round by the sum of its constant and its word
keyed_is_round : (s : List ℕ) (kt wt : ℕ) → keyed_round s (kt ⊞ wt) ≡ round kt wt s
keyed_is_round s kt wt =
    ap (λ (t1 : ℕ). turned t1 (Σ0 (get_or s 0 0) ⊞ maj (get_or s 0 0) (get_or s 1 0) (get_or s 2 0)) s)
    (sym (regrouped ((get_or s 7 0 ⊞ Σ1 (get_or s 4 0)) ⊞ ch (get_or s 4 0) (get_or s 5 0) (get_or s 6 0)) kt wt))

-- m rounds after the first t
pub rounds_on : (v w s : List ℕ) → v ≡ map (λ t. get_or k t 0 ⊞ get_or w t 0) (range_with_len 0 64) → (t m : ℕ) → t + m ≤ 64 →
    keyed_rounds (rounds t w s) (take m (drop t v)) ≡ rounds (t + m) w s
rounds_on v w s e t zero h = rw add-zero refl
rounds_on v w s e t (suc m) h =
    let r = rounds_on v w s e t m (omega arith) in
    let l : m < length (drop t v) = simp length-drop (rw e (omega arith)) in
    let f = fold_more keyed_round (rounds t w s) (drop t v) m 0 l in
    let x : get_or (drop t v) m 0 ≡ get_or k (t + m) 0 ⊞ get_or w (t + m) 0 = get_or-drop t v m 0 ∙ keyed_at v w e (t + m) (omega arith) in
    let y = keyed_is_round (rounds (t + m) w s) (get_or k (t + m) 0) (get_or w (t + m) 0) in
    let z = rounds_more (t + m) w s in
    let n = add-one m in
    let q : t + suc m ≡ t + m + 1 = omega arith in
    rw q (cc)
