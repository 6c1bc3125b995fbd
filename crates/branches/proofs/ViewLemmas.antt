-- The parts of a view, as the code cuts them.
use Rattle.std.proofs.Common.{◌≡◌, ℕ, ◌+◌, ◌-◌, ◌*◌, ◌≤◌, List, length, take, drop, ap, ◌∙◌, arith, length-drop}
use Rattle.std.proofs.lemmas.List.{length-take-le}
use Rattle.std.specs.List.{between}
use Rattle.kinds.specs.Kind.{Kind}
use Rattle.locks.specs.Circuit.{Circuit, mus}
use Rattle.locks.specs.Lengths.{view_length}
use Rattle.locks.proofs.Steps.{to_end}
use Rattle.theory.specs.Runs.{View}
use Rattle.theory.specs.Groups.{group}
use Rattle.theory.specs.Messages.{view_of, masks_at, products_at, picked_view, next_view}

-- what is left behind an offset
pub part_room : (at need : ℕ) (xs : List ℕ) → at + need ≤ length xs → need ≤ length (between at (length xs) xs)
part_room at need xs h = omega (arith, ap length (to_end xs at) ∙ length-drop at xs)

abbrev cut : Kind → (k m a b : ℕ) → List ℕ → View (List ℕ)
cut K k m a b xs = record { wires = group K k (between 32 (length xs) xs); masks = group K m (between a (length xs) xs); products = group K m (between b (length xs) xs) }

pub cut_view : (K : Kind) (l : Circuit (List ℕ)) (xs : List ℕ) (m a b : ℕ) → m ≡ mus l.gates → a ≡ masks_at K l → b ≡ products_at K l
    → cut K l.inputs m a b xs ≡ (view_of K l xs).1
unfolding view_of
cut_view K l xs m a b em ea eb =
    let k = l.inputs in
    (λ t. record { wires = group K k (to_end xs 32 t); masks = group K m (to_end xs a t); products = group K m (to_end xs b t) })
    ∙ (λ t. record { wires = group K k (drop 32 xs); masks = group K (em t) (drop (ea t) xs); products = group K (em t) (drop (eb t) xs) })

-- the two views in an answer
pub record Cut (K : Kind) (l : Circuit (List ℕ)) (an : List ℕ) (m long : ℕ) : Type 0 where
  pub picked : between 3 (3 + long) an ≡ picked_view K l an
  pub following : between (3 + long) (length an) an ≡ next_view K l an
  pub picked_size : length (between 3 (3 + long) an) ≡ view_length K l.inputs m
  pub following_size : length (between (3 + long) (length an) an) ≡ view_length K l.inputs m

pub answer_cut : (K : Kind) (l : Circuit (List ℕ)) (an : List ℕ) (m long : ℕ) → m ≡ mus l.gates → long ≡ view_length K l.inputs m
    → length an ≡ 3 + 2 * view_length K l.inputs m → Cut K l an m long
answer_cut K l an m long em el size =
    let whole : long ≡ view_length K l.inputs (mus l.gates) = el ∙ ap (view_length K l.inputs) em in
    let n : 3 + long - 3 ≡ long = omega arith in
    let fits : long ≤ length (drop 3 an) = simp length-drop (omega (arith, el, size)) in
    let behind : between (3 + long) (length an) an ≡ drop (3 + long) an = to_end an (3 + long) in
    record {
      picked = ap (λ (j : ℕ). take j (drop 3 an)) (n ∙ whole);
      following = behind ∙ ap (λ (j : ℕ). drop (3 + j) an) whole;
      picked_size = ap (λ (j : ℕ). length (take j (drop 3 an))) n ∙ length-take-le long (drop 3 an) fits ∙ el;
      following_size = ap length behind ∙ length-drop (3 + long) an ∙ omega (arith, el, size);
    }
