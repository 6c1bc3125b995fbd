-- Blocks taken in, of a message and of what follows it.
use Rattle.std.proofs.Common.{◌≡◌, ℕ, zero, suc, ◌+◌, ◌-◌, ◌*◌, ◌/◌, ◌<◌, ◌≤◌, List, ◌++◌, length, take, drop, sym, refl, ap, ◌∙◌, add-zero, add-suc, mul-one, mul-suc, mul-add, add-one, arith}
use Rattle.std.proofs.Math.Nat.{mul-div-le, mul-add-div}
use Rattle.std.proofs.lemmas.Nat.{div-mul-add}
use Rattle.std.proofs.lemmas.List.{length-append, length-drop, take_at, drop_at, take-append-le, drop-append-le, drop-drop, drop-take, take-take}
use Rattle.parts.specs.Blocks.{over_blocks}

-- one more chunk b, cut off the front of what is left of p after i of them
pub chunk_more : (size : ℕ) (p b rest rest' : List ℕ) (i : ℕ) → rest ≡ drop (size * i) p → rest ≡ b ++ rest' → length b ≡ size → size * i ≤ length p →
    (b ≡ take size (drop (size * i) p)) × (rest' ≡ drop (size * (i + 1)) p) × (size * (i + 1) ≤ length p)
chunk_more size p b rest rest' i r c n w =
    let k : size * (i + 1) ≡ size * i + size = rw mul-add (rw mul-one refl) in
    let t = take_at b rest' size n in
    let d = drop_at b rest' size n in
    let m = drop-drop size (size * i) p in
    let l : length p - size * i ≡ size + length rest' = sym (length-drop (size * i) p) ∙ ap length (sym r ∙ c) ∙ length-append b rest' ∙ ap (λ (x : ℕ). x + length rest') n in
    (cc, cc, rw k (omega arith))

-- no chunk more
pub chunks_end : (size : ℕ) (p rest : List ℕ) (i : ℕ) → rest ≡ drop (size * i) p → length rest < size → size * i ≤ length p → length p / size ≡ i
chunks_end size p rest i r h w =
    let l : length p ≡ i * size + length rest = rw r (simp length-drop (omega arith)) in
    rw l (div-mul-add i size (length rest) h)

module _ (step : List ℕ → List ℕ → List ℕ) (size : ℕ) where
  pub blocks_none : (start p : List ℕ) → over_blocks step size start 0 p ≡ start
  unfolding over_blocks
  blocks_none start p = refl

  -- one more block b, cut off the front of what is left
  pub blocks_more : (start p s s' b rest rest' : List ℕ) (i : ℕ) → s ≡ over_blocks step size start i p → s' ≡ step s b → rest ≡ drop (size * i) p →
      rest ≡ b ++ rest' → length b ≡ size → size * i ≤ length p →
      (s' ≡ over_blocks step size start (i + 1) p) × (rest' ≡ drop (size * (i + 1)) p) × (size * (i + 1) ≤ length p)
  unfolding over_blocks
  blocks_more start p s s' b rest rest' i e f r c n w =
      let g : over_blocks step size start (i + 1) p ≡ step (over_blocks step size start i p) (take size (drop (size * i) p)) = rw add-one refl in
      let k = chunk_more size p b rest rest' i r c n w in
      (cc, k.1, k.2)

  -- no block more
  pub blocks_end : (start p s rest : List ℕ) (i : ℕ) → s ≡ over_blocks step size start i p → rest ≡ drop (size * i) p → length rest < size →
      size * i ≤ length p → s ≡ over_blocks step size start (length p / size) p
  blocks_end start p s rest i e r h w = e ∙ ap (λ (k : ℕ). over_blocks step size start k p) (sym (chunks_end size p rest i r h w))

  -- what follows the blocks doesn't matter
  pub blocks_front : (start m x : List ℕ) (n : ℕ) → size * n ≤ length m → over_blocks step size start n (m ++ x) ≡ over_blocks step size start n m
  unfolding over_blocks
  blocks_front start m x zero h = refl
  blocks_front start m x (suc n) h =
      let e = mul-suc size n in
      let a : size * n ≤ length m = omega arith in
      let b : size ≤ length (drop (size * n) m) = simp length-drop (omega arith) in
      let d = drop-append-le (size * n) m x a in
      let f = take-append-le size (drop (size * n) m) x b in
      let g = blocks_front start m x n a in
      cc

  -- n blocks more, from a buffer that begins with the rest of p
  pub blocks_rest : (start p tail : List ℕ) (q n : ℕ) → take (size * n) tail ≡ take (size * n) (drop (size * q) p) →
      over_blocks step size (over_blocks step size start q p) n tail ≡ over_blocks step size start (q + n) p
  unfolding over_blocks
  blocks_rest start p tail q zero h = rw add-zero refl
  blocks_rest start p tail q (suc n) h =
      let rest : List ℕ = drop (size * q) p in
      let e = mul-suc size n in
      let h' : take (size * n + size) tail ≡ take (size * n + size) rest = rw e at h in
      let le : size * n ≤ size * n + size = omega arith in
      let a = ap (take (size * n)) h' in
      let front : take (size * n) tail ≡ take (size * n) rest =
      sym (take-take (size * n) (size * n + size) tail le) ∙ a ∙ take-take (size * n) (size * n + size) rest le in
      let block : take size (drop (size * n) tail) ≡ take size (drop (size * n) rest) =
      sym (drop-take (size * n) size tail) ∙ ap (drop (size * n)) h' ∙ drop-take (size * n) size rest in
      let d : drop (size * n) rest ≡ drop (size * (q + n)) p = drop-drop (size * n) (size * q) p ∙ ap (λ (k : ℕ). drop k p) (sym (mul-add size q n)) in
      let g = blocks_rest start p tail q n front in
      rw add-suc (cc)

  -- a message and what follows it: q blocks from the message, and n from a buffer that holds the rest of it and what follows
  pub blocks_whole : (start m x tail : List ℕ) (q n : ℕ) → size * q ≤ length m → take (size * n) tail ≡ drop (size * q) m ++ x →
      over_blocks step size (over_blocks step size start q m) n tail ≡ over_blocks step size start (q + n) (m ++ x)
  blocks_whole start m x tail q n h e =
      let a = blocks_front start m x q h in
      let d = drop-append-le (size * q) m x h in
      let f : take (size * n) tail ≡ drop (size * q) (m ++ x) = e ∙ sym d in
      let g = ap (take (size * n)) f in
      let k = take-take (size * n) (size * n) tail (omega arith) in
      let r = blocks_rest start (m ++ x) tail q n (sym k ∙ g) in
      cc

  -- the blocks of a message, and then those of what is left of it and what follows
  pub blocks_joined : (start m x tail : List ℕ) → 0 < size → tail ≡ drop (size * (length m / size)) m ++ x →
      over_blocks step size (over_blocks step size start (length m / size) m) (length tail / size) tail ≡
      over_blocks step size start (length (m ++ x) / size) (m ++ x)
  blocks_joined start m x tail h e =
      let q : ℕ = length m / size in
      let whole : size * q ≤ length m = mul-div-le (length m) size in
      let d : tail ≡ drop (size * q) (m ++ x) = e ∙ sym (drop-append-le (size * q) m x whole) in
      let l : length (m ++ x) ≡ size * q + length tail = rw d (simp (length-append, length-drop) (omega arith)) in
      let n : length (m ++ x) / size ≡ q + length tail / size = rw l (mul-add-div h q (length tail)) in
      let f = blocks_front start m x q whole in
      let r = blocks_rest start (m ++ x) tail q (length tail / size) (ap (take (size * (length tail / size))) d) in
      cc
