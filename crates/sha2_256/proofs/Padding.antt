-- The padded tail in its buffer.
use Rattle.std.specs.Prelude.{◌≡◌, ℕ, ◌+◌, ◌-◌, ◌*◌, ◌/◌, ◌%◌, List, ◌∷◌, ◌++◌, length, take, slice_set, refl}
use Rattle.std.proofs.Common.{sym, ap, ◌∙◌, arith}
use Rattle.std.proofs.lemmas.List.{append_assoc, length-append, length-replicate, replicate-append-replicate, take_at}
use Rattle.parts.specs.Words.{be64}
use Rattle.parts.specs.Blocks.{written}
use Rattle.parts.proofs.Written.{blank, marked}
use Rattle.sha2_256.specs.Sha256.{zeros, padding}

pub length_padding : (n : ℕ) → length (padding n) ≡ 9 + zeros n
unfolding padding
length_padding n = simp (length-append, length-replicate) (omega arith)

-- a buffer with the byte 128 after `rest`, and blank from there on, once `bits` are written as the last 8 of its first `size` bytes
tail_bytes : (rest a bits more : List ℕ) (z y size : ℕ) → a ≡ rest ++ 128 ∷ blank (z + y) → length bits ≡ 8 → size ≡ length rest + 9 + z →
    take size (take (size - 8) a ++ (bits ++ more)) ≡ rest ++ (128 ∷ blank z ++ bits)
tail_bytes rest a bits more z y size e eight s =
    let split : blank (z + y) ≡ blank z ++ blank y = sym (replicate-append-replicate z y 0) in
    let whole : a ≡ (rest ++ 128 ∷ blank z) ++ blank y = e ∙ rw (split, append_assoc) refl in
    let n : length (rest ++ 128 ∷ blank z) ≡ size - 8 = simp (length-append, length-replicate) (omega arith) in
    let p : take (size - 8) a ≡ rest ++ 128 ∷ blank z = ap (take (size - 8)) whole ∙ take_at (rest ++ 128 ∷ blank z) (blank y) (size - 8) n in
    let q : length ((rest ++ 128 ∷ blank z) ++ bits) ≡ size = simp length-append (omega (arith, n, length-append rest (128 ∷ blank z))) in
    rw (p, ← append_assoc (rest ++ 128 ∷ blank z) bits more) (take_at ((rest ++ 128 ∷ blank z) ++ bits) more size q ∙ append_assoc rest (128 ∷ blank z) bits)

-- the buffer after the copy of the last bytes, `first`, and after the write of the length, `last`
pub padded_tail : (rest first last bits : List ℕ) (total : ℕ) → length rest ≡ total % 64 → first ≡ written (blank 128) 0 rest →
    last ≡ written (slice_set first (length rest) 128) (64 * ((length rest + 72) / 64) - 8) bits → bits ≡ be64 (8 * total) →
    take (64 * ((length rest + 72) / 64)) last ≡ rest ++ padding total
unfolding padding
padded_tail rest first last bits total e f l b =
    let y : 127 - length rest ≡ zeros total + (127 - length rest - zeros total) = omega arith in
    let m : slice_set first (length rest) 128 ≡ rest ++ 128 ∷ blank (zeros total + (127 - length rest - zeros total)) =
    rw y at (marked rest first 128 128 (omega arith) f) in
    let t =
    tail_bytes rest (slice_set first (length rest) 128) bits _ (zeros total) (127 - length rest - zeros total) (64 * ((length rest + 72) / 64)) m
    (ap length b) (omega arith) in
    ap (take (64 * ((length rest + 72) / 64))) l ∙ t ∙ ap (λ (x : List ℕ). rest ++ (128 ∷ blank (zeros total) ++ x)) b
