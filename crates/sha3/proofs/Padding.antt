-- Blocks, padding and output of the sponge.
use Rattle.std.specs.Prelude.{◌≡◌, ℕ, ◌+◌, ◌-◌, ◌*◌, ◌/◌, ◌%◌, ◌<◌, ◌≤◌, true, false, List, [], ◌∷◌, ◌++◌, length, take, drop, replicate, bit_or, nat_eq, slice_index, slice_set, map, refl}
use Rattle.std.proofs.Common.{◌∙◌, get_or, inl, inr, arith}
use Rattle.std.specs.Int.Bits.{xor_zero_r}
use Rattle.std.specs.List.{range_with_len, flat_map}
use Rattle.std.proofs.lemmas.List.FromFn.{fill_by_all}
use Rattle.std.proofs.lemmas.Bool.{cases_lt, eq-eqb, ne_eqb}
use Rattle.std.proofs.lemmas.List.{append_assoc, get_or_append_left, get_or-append_right, get_or-drop, length-append, length-drop, length-replicate, get_or_past, take_all, set_at, get_or_at, replicate_more}
use Rattle.parts.specs.Words.{le64}
use Rattle.parts.specs.Blocks.{written, over_blocks}
use Rattle.parts.proofs.Written.{blank, marked}
use Rattle.parts.proofs.Chained.{blocks_whole}
use Rattle.sha3.specs.Sha3.{absorbed, padding, padded, sha3_256_of}
use Rattle.sha3.proofs.Shapes.{added_at}

-- past the block nothing is added
pub added_past : (a p : List ℕ) (k : ℕ) → length p ≡ 136 → 17 ≤ k → added_at a p k ≡ slice_index a k
added_past a p k e h =
    rw (
      get_or_past p (8 * k) 0 (omega arith),
      get_or_past p (8 * k + 1) 0 (omega arith),
      get_or_past p (8 * k + 2) 0 (omega arith),
      get_or_past p (8 * k + 3) 0 (omega arith),
      get_or_past p (8 * k + 4) 0 (omega arith),
      get_or_past p (8 * k + 5) 0 (omega arith),
      get_or_past p (8 * k + 6) 0 (omega arith),
      get_or_past p (8 * k + 7) 0 (omega arith),
    ) (xor_zero_r (slice_index a k))

-- the last byte of the block
last_byte : (p : List ℕ) (y : ℕ) → length p ≡ 135 → slice_set (p ++ y ∷ []) 135 (bit_or (slice_index (p ++ y ∷ []) 135) 128) ≡ p ++ bit_or y 128 ∷ []
last_byte p y e = rw (get_or_at p y [] 0 135 e) (set_at p y [] (bit_or y 128) 135 e)

short : (rest : List ℕ) (total : ℕ) → length rest ≡ total % 136 → length rest < 135 →
    slice_set (rest ++ 6 ∷ blank (135 - length rest)) 135 (bit_or (slice_index (rest ++ 6 ∷ blank (135 - length rest)) 135) 128) ≡ rest ++ padding total
unfolding padding
short rest total e h =
    let a : 135 - length rest ≡ (134 - length rest) + 1 = omega arith in
    let b : blank (134 - length rest) ++ 0 ∷ [] ≡ blank ((134 - length rest) + 1) = replicate_more (134 - length rest) 0 in
    let n : length (rest ++ 6 ∷ blank (134 - length rest)) ≡ 135 = simp (length-append, length-replicate) (omega arith) in
    let d = append_assoc rest (6 ∷ blank (134 - length rest)) (0 ∷ []) in
    let f : rest ++ 6 ∷ blank (135 - length rest) ≡ (rest ++ 6 ∷ blank (134 - length rest)) ++ 0 ∷ [] = cc in
    let g = last_byte (rest ++ 6 ∷ blank (134 - length rest)) 0 n in
    let i = append_assoc rest (6 ∷ blank (134 - length rest)) (128 ∷ []) in
    let j : nat_eq (total % 136) 135 ≡ false = ne_eqb (total % 136) 135 (omega arith) in
    rw (f, g, j, ← e) i

full : (rest : List ℕ) (total : ℕ) → length rest ≡ total % 136 → length rest ≡ 135 →
    slice_set (rest ++ 6 ∷ blank (135 - length rest)) 135 (bit_or (slice_index (rest ++ 6 ∷ blank (135 - length rest)) 135) 128) ≡ rest ++ padding total
unfolding padding
full rest total e h =
    let a : 135 - length rest ≡ 0 = omega arith in
    let j : nat_eq (total % 136) 135 ≡ true = eq-eqb (total % 136) 135 (omega arith) in
    rw (a, j) (last_byte rest 6 h)

pub padded_tail : (rest first : List ℕ) (total : ℕ) → length rest ≡ total % 136 → first ≡ written (blank 136) 0 rest →
    slice_set (slice_set first (length rest) 6) 135 (bit_or (slice_index (slice_set first (length rest) 6) 135) 128) ≡ rest ++ padding total
padded_tail rest first total e f =
    rw (marked rest first 136 6 (omega arith) f)
    (elim (cases_lt (length rest) 135) [ inl l ↦ short rest total e l | inr g ↦ full rest total e (omega arith) ])

pub length_padding : (n : ℕ) → length (padding n) ≡ 136 - n % 136
unfolding padding
length_padding n =
    elim (cases_lt (n % 136) 135) [
      | inl l ↦ let j : nat_eq (n % 136) 135 ≡ false = ne_eqb (n % 136) 135 (omega arith) in rw j (simp (length-append, length-replicate) (omega arith))
      | inr g ↦ let j : nat_eq (n % 136) 135 ≡ true = eq-eqb (n % 136) 135 (omega arith) in rw j (omega arith)
    ]

-- s from the message's own blocks, s' from the last one
pub whole : (m tail s s' out : List ℕ) (q : ℕ) → q ≡ length m / 136 → s ≡ over_blocks absorbed 136 (replicate 25 0) q m →
    tail ≡ drop (136 * q) m ++ padding (length m) → s' ≡ over_blocks absorbed 136 s 1 tail → out ≡ flat_map le64 (take 4 s') → out ≡ sha3_256_of m
unfolding padded sha3_256_of
whole m tail s s' out q eq e t f o =
    let size : length (m ++ padding (length m)) / 136 ≡ q + 1 = simp (length-append, length_padding) (omega arith) in
    let n : length tail ≤ 136 = rw t (simp (length-append, length-drop, length_padding) (omega arith)) in
    let all = take_all 136 tail n in
    let w = blocks_whole absorbed 136 (replicate 25 0) m (padding (length m)) tail q 1 (omega arith) (all ∙ t) in
    cc

-- the lanes of a block added, and those past it as they were
pub mixed : (a p mixed : List ℕ) → length a ≡ 25 → length p ≡ 136 → length mixed ≡ 17 →
    ((k : ℕ) → k < 17 → get_or mixed k 0 ≡ added_at a p k) → mixed ++ drop 17 a ≡ map (added_at a p) (range_with_len 0 25)
mixed a p m ea ep em h =
    fill_by_all (added_at a p) (m ++ drop 17 a) 25 0 (simp (length-append, length-drop) (omega arith)) (λ k l. elim (cases_lt k 17) [
      | inl b ↦ get_or_append_left m (drop 17 a) 0 k (omega arith) ∙ h k b
      | inr b ↦ get_or-append_right m (drop 17 a) 17 k 0 em b ∙ get_or-drop 17 a (k - 17) 0 ∙
          (let e : 17 + (k - 17) ≡ k = omega arith in rw (e, added_past a p k ep b) refl)
    ])
