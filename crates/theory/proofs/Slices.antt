-- Parts of a store, read after a write.
use Rattle.std.proofs.Common.{◌≡◌, ℕ, ◌+◌, ◌-◌, ◌*◌, ◌≤◌, List, ◌++◌, length, take, drop as skip, sym, refl, ap, ◌∙◌, arith, length-append, length-drop, length-take, take-take, drop-drop, take_at, drop_at}
use lib.Seq.{drop-append-add, drop-append-le, take-append-le}
use Rattle.std.proofs.lemmas.List.{drop-take, length-take-le}
use Rattle.theory.specs.Messages.{behind}
use Rattle.theory.specs.Runs.{Branch, one, two, three}
use Rattle.theory.specs.Store.{put, PutLaw}

pub length_put : (s : List ℕ) (a : ℕ) (x : List ℕ) → a + length x ≤ length s → length (put s a x) ≡ length s
length_put s a x h = simp (length-append, length-take, length-drop) (omega arith)

-- behind the front of the write
skip_put : (s : List ℕ) (a : ℕ) (x : List ℕ) (b : ℕ) → a ≤ length s → skip (a + b) (put s a x) ≡ skip b (x ++ skip (a + length x) s)
skip_put s a x b h = ap (λ k. skip (k + b) (put s a x)) (sym (length-take-le a s h)) ∙ drop-append-add (take a s) (x ++ skip (a + length x) s) b

pub inside_put : (s : List ℕ) (a : ℕ) (x : List ℕ) (b m : ℕ) → a ≤ length s → b + m ≤ length x → take m (skip (a + b) (put s a x)) ≡ take m (skip b x)
inside_put s a x b m h k =
    ap (take m) (skip_put s a x b h ∙ drop-append-le b x (skip (a + length x) s) (omega arith))
    ∙ take-append-le m (skip b x) (skip (a + length x) s) (simp length-drop (omega arith))

pub behind_put : (s : List ℕ) (a : ℕ) (x : List ℕ) (b m : ℕ) → a ≤ length s → a + length x ≤ b → take m (skip b (put s a x)) ≡ take m (skip b s)
behind_put s a x b m h k =
    let c = b - (a + length x) in
    let e : b ≡ a + (length x + c) = omega arith in
    let f : a + length x + c ≡ b = omega arith in
    ap (take m)
    (ap (λ j. skip j (put s a x)) e
    ∙ skip_put s a x (length x + c) h
    ∙ drop-append-add x (skip (a + length x) s) c
    ∙ drop-drop c (a + length x) s
    ∙ ap (λ j. skip j s) f)

pub before_put : (s : List ℕ) (a : ℕ) (x : List ℕ) (b m : ℕ) → a ≤ length s → b + m ≤ a → take m (skip b (put s a x)) ≡ take m (skip b s)
before_put s a x b m h k =
    ap (take m) (drop-append-le b (take a s) (x ++ skip (a + length x) s) (simp length-take (omega arith)))
    ∙ take-append-le m (skip b (take a s)) (x ++ skip (a + length x) s) (simp (length-drop, length-take) (omega arith))
    ∙ (let e : a ≡ b + (a - b) = omega arith in ap (take m) (ap (λ j. skip b (take j s)) e ∙ drop-take b (a - b) s) ∙ take-take m (a - b) (skip b s) (omega arith))

-- a view lies in its round
pub third_of : (long : ℕ) (i : Branch) → long * behind i + long ≤ 3 * long
third_of long one = omega arith
third_of long two = omega arith
third_of long three = omega arith

pub put_law : (s : List ℕ) (a : ℕ) (x : List ℕ) → a + length x ≤ length s → PutLaw s a x
put_law s a x h =
    let front : length (take a s) ≡ a = length-take-le a s (omega arith) in
    record {
      same_length = length_put s a x h;
      before = take_at (take a s) (x ++ skip (a + length x) s) a front;
      written = ap (take (length x)) (drop_at (take a s) (x ++ skip (a + length x) s) a front) ∙ take_at x (skip (a + length x) s) (length x) refl;
      behind_it = skip_put s a x (length x) (omega arith) ∙ drop_at x (skip (a + length x) s) (length x) refl;
    }
