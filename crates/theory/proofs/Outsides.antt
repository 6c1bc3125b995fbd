-- First messages that agree outside a seal.
use Rattle.std.proofs.Common.{◌≡◌, ℕ, ◌+◌, ◌-◌, ◌*◌, ◌≤◌, List, [], ◌∷◌, ◌++◌, length, take, drop as skip, sym, refl, ap, ◌∙◌, ap₂, append_assoc, append-nil, arith, length-append, take-take, drop-drop, take_at, drop_at}
use Rattle.std.proofs.lemmas.List.{drop-take}
use Rattle.std.specs.List.{AllByRecursion}
use Rattle.kinds.specs.Kind.{Kind, Lawful, Laws}
use Rattle.locks.specs.Circuit.{Circuit}
use Rattle.theory.specs.Groups.{group_bytes, group}
use Rattle.theory.specs.Hiding.{Outside}
use Rattle.theory.specs.Messages.{behind, outs_length, outs_in, seal_at, seal_in, first_bytes}
use Rattle.theory.specs.Runs.{Branch, one, two, three}
use Rattle.theory.proofs.Groups.{fronted, sized_as}
use Rattle.theory.proofs.Parts.{skip_front, outs_read, seals_read, first_length}
use Rattle.theory.proofs.Pasts.{Message, Same}

pieces : (o d : ℕ) (x P z Q : List ℕ) → x ≡ P ++ (z ++ Q) → length P ≡ o → length z ≡ d → (take o x ≡ P) × (skip (o + d) x ≡ Q)
pieces o d x P z Q e hp hz = (ap (take o) e ∙ take_at P (z ++ Q) o hp, ap (skip (o + d)) e ∙ skip_front o d P (z ++ Q) hp ∙ drop_at z Q d hz)

slice_left : (a b o : ℕ) (x y : List ℕ) → a + b ≤ o → take o y ≡ take o x → take b (skip a y) ≡ take b (skip a x)
slice_left a b o x y h k = sym (inner y) ∙ ap (λ t. take b (skip a t)) k ∙ inner x
  where
    inner : (z : List ℕ) → take b (skip a (take o z)) ≡ take b (skip a z)
    inner z =
        let e : o ≡ a + (o - a) = omega arith in
        ap (λ j. take b (skip a (take j z))) e ∙ ap (take b) (drop-take a (o - a) z) ∙ take-take b (o - a) (skip a z) (omega arith)

slice_right : (a o : ℕ) (x y : List ℕ) → o ≤ a → skip o y ≡ skip o x → skip a y ≡ skip a x
slice_right a o x y h k = sym (outer y) ∙ ap (skip (a - o)) k ∙ outer x
  where
    outer : (z : List ℕ) → skip (a - o) (skip o z) ≡ skip a z
    outer z = let e : o + (a - o) ≡ a = omega arith in drop-drop (a - o) o z ∙ ap (λ j. skip j z) e

-- messages of one lock, lawful and sized
pub record Fit (K : Kind) (l : Circuit (List ℕ)) (d : ℕ) (m : Message) : Type 0 where
  pub sized : (i : Branch) → length (m.outs i) ≡ length l.outputs
  pub ok : (i : Branch) → AllByRecursion (Lawful K) (m.outs i)
  pub sealed : (i : Branch) → length (m.seals i) ≡ d

module _ (K : Kind) (l : Circuit (List ℕ)) (keeps : Laws K) (d : ℕ) (m m' : Message) (f : Fit K l d m) (f' : Fit K l d m') where
  abbrev ml : ℕ
  ml = outs_length K l

  abbrev front : Message → List ℕ
  front a = 70 ∷ 77 ∷ group_bytes K (a.outs one) ++ (group_bytes K (a.outs two) ++ group_bytes K (a.outs three))

  long_front : (a : Message) → Fit K l d a → length (front a) ≡ 2 + 3 * ml
  long_front a g =
      let lo : (i : Branch) → length (group_bytes K (a.outs i)) ≡ ml = λ i. sized_as K keeps (length l.outputs) (a.outs i) (g.ok i) (g.sized i) in
      simp length-append (omega (arith, lo one, lo two, lo three))

  at_one : (a : Message) → first_bytes K a.outs a.seals ≡ front a ++ (a.seals one ++ (a.seals two ++ a.seals three))
  at_one a = simp append_assoc

  at_two : (a : Message) → first_bytes K a.outs a.seals ≡ (front a ++ a.seals one) ++ (a.seals two ++ a.seals three)
  at_two a = simp append_assoc

  at_three : (a : Message) → first_bytes K a.outs a.seals ≡ (front a ++ (a.seals one ++ a.seals two)) ++ (a.seals three ++ [])
  at_three a =
      let e : first_bytes K a.outs a.seals ≡ (front a ++ (a.seals one ++ a.seals two)) ++ a.seals three =
      at_one a ∙ ap (λ t. front a ++ t) (sym (append_assoc (a.seals one) (a.seals two) (a.seals three))) ∙ sym (append_assoc (front a) (a.seals one ++ a.seals two) (a.seals three)) in
      e ∙ ap (λ t. (front a ++ (a.seals one ++ a.seals two)) ++ t) (sym (append-nil (a.seals three)))

  both_long : length (first_bytes K m'.outs m'.seals) ≡ length (first_bytes K m.outs m.seals)
  both_long = first_length K l keeps d m'.outs m'.seals f'.sized f'.ok f'.sealed ∙ sym (first_length K l keeps d m.outs m.seals f.sized f.ok f.sealed)

  from_pieces : (o : ℕ) (P z Q P' z' Q' : List ℕ) → first_bytes K m.outs m.seals ≡ P ++ (z ++ Q) → length P ≡ o → length z ≡ d → first_bytes K m'.outs m'.seals ≡ P' ++ (z' ++ Q') → length P' ≡ o → length z' ≡ d
      → P' ≡ P → Q' ≡ Q → Outside o d (first_bytes K m.outs m.seals) (first_bytes K m'.outs m'.seals)
  from_pieces o P z Q P' z' Q' e hp hz e' hp' hz' p q =
      let a = pieces o d (first_bytes K m.outs m.seals) P z Q e hp hz in
      let b = pieces o d (first_bytes K m'.outs m'.seals) P' z' Q' e' hp' hz' in
      record { long = both_long; before = b.0 ∙ p ∙ sym a.0; behind = b.1 ∙ q ∙ sym a.1 }

  fronts : (c : Branch) → Same c m m' → front m' ≡ front m
  fronts c s = λ i. 70 ∷ 77 ∷ group_bytes K (s.outs_same one i) ++ (group_bytes K (s.outs_same two i) ++ group_bytes K (s.outs_same three i))

  apart : (c : Branch) → Same c m m' → (i : Branch) → (behind i ≡ behind c → ⊥) → m'.seals i ≡ m.seals i
  apart c s i n = s.seals_same i (λ e. n (ap behind e))

  fl : length (front m) ≡ 2 + 3 * ml
  fl = long_front m f

  fl' : length (front m') ≡ 2 + 3 * ml
  fl' = long_front m' f'

  pub same_outside : (c : Branch) → Same c m m' → Outside (seal_at K l d c) d (first_bytes K m.outs m.seals) (first_bytes K m'.outs m'.seals)
  same_outside one s =
      from_pieces _ (front m) (m.seals one) _ (front m') (m'.seals one) _ (at_one m) (omega (arith, fl)) (f.sealed one) (at_one m') (omega (arith, fl')) (f'.sealed one)
      (fronts one s) (ap₂ (λ x y. x ++ y) (apart one s two (λ e. omega arith)) (apart one s three (λ e. omega arith)))
  same_outside two s =
      from_pieces _ (front m ++ m.seals one) (m.seals two) _ (front m' ++ m'.seals one) (m'.seals two) _
      (at_two m) (length-append (front m) (m.seals one) ∙ omega (arith, fl, f.sealed one)) (f.sealed two)
      (at_two m') (length-append (front m') (m'.seals one) ∙ omega (arith, fl', f'.sealed one)) (f'.sealed two)
      (ap₂ (λ x y. x ++ y) (fronts two s) (apart two s one (λ e. omega arith))) (apart two s three (λ e. omega arith))
  same_outside three s =
      from_pieces _ (front m ++ (m.seals one ++ m.seals two)) (m.seals three) [] (front m' ++ (m'.seals one ++ m'.seals two)) (m'.seals three) []
      (at_three m) (length-append (front m) (m.seals one ++ m.seals two) ∙ omega (arith, fl, length-append (m.seals one) (m.seals two), f.sealed one, f.sealed two)) (f.sealed three)
      (at_three m') (length-append (front m') (m'.seals one ++ m'.seals two) ∙ omega (arith, fl', length-append (m'.seals one) (m'.seals two), f'.sealed one, f'.sealed two)) (f'.sealed three)
      (λ i. fronts three s i ++ (apart three s one (λ e. omega arith) i ++ apart three s two (λ e. omega arith) i)) refl

  outs_back : (i : Branch) → outs_in K l (first_bytes K m'.outs m'.seals) i ≡ outs_in K l (first_bytes K m.outs m.seals) i → m'.outs i ≡ m.outs i
  outs_back i e = sym (outs_read K l keeps d m'.outs m'.seals f'.sized f'.ok f'.sealed i) ∙ e ∙ outs_read K l keeps d m.outs m.seals f.sized f.ok f.sealed i

  seals_back : (i : Branch) → seal_in K l d (first_bytes K m'.outs m'.seals) i ≡ seal_in K l d (first_bytes K m.outs m.seals) i → m'.seals i ≡ m.seals i
  seals_back i e = sym (seals_read K l keeps d m'.outs m'.seals f'.sized f'.ok f'.sealed i) ∙ e ∙ seals_read K l keeps d m.outs m.seals f.sized f.ok f.sealed i

  outs_left : (o : ℕ) → 2 + 3 * ml ≤ o → take o (first_bytes K m'.outs m'.seals) ≡ take o (first_bytes K m.outs m.seals) → (i : Branch) → outs_in K l (first_bytes K m'.outs m'.seals) i ≡ outs_in K l (first_bytes K m.outs m.seals) i
  outs_left o h k i =
      sym (fronted K (length l.outputs) (skip (2 + behind i * ml) (first_bytes K m'.outs m'.seals)))
      ∙ ap (group K (length l.outputs)) (slice_left (2 + behind i * ml) ml o (first_bytes K m.outs m.seals) (first_bytes K m'.outs m'.seals) (within i) k)
      ∙ fronted K (length l.outputs) (skip (2 + behind i * ml) (first_bytes K m.outs m.seals))
    where
      within : (i : Branch) → 2 + behind i * ml + ml ≤ o
      within one = omega arith
      within two = omega arith
      within three = omega arith

  pub outside_same : (c : Branch) → Outside (seal_at K l d c) d (first_bytes K m.outs m.seals) (first_bytes K m'.outs m'.seals) → Same c m m'
  outside_same c u = record {
    outs_same = λ i. outs_back i (outs_left (seal_at K l d c) (omega (arith)) u.before i);
    seals_same = λ i away. seals_back i (go i c u away);
  }
    where
      left : (i c : Branch) → seal_at K l d i + d ≤ seal_at K l d c → Outside (seal_at K l d c) d (first_bytes K m.outs m.seals) (first_bytes K m'.outs m'.seals) → seal_in K l d (first_bytes K m'.outs m'.seals) i ≡ seal_in K l d (first_bytes K m.outs m.seals) i
      left i c h u = slice_left (seal_at K l d i) d (seal_at K l d c) (first_bytes K m.outs m.seals) (first_bytes K m'.outs m'.seals) h u.before

      right : (i c : Branch) → seal_at K l d c + d ≤ seal_at K l d i → Outside (seal_at K l d c) d (first_bytes K m.outs m.seals) (first_bytes K m'.outs m'.seals) → seal_in K l d (first_bytes K m'.outs m'.seals) i ≡ seal_in K l d (first_bytes K m.outs m.seals) i
      right i c h u = ap (take d) (slice_right (seal_at K l d i) (seal_at K l d c + d) (first_bytes K m.outs m.seals) (first_bytes K m'.outs m'.seals) h u.behind)

      go : (i c : Branch) → Outside (seal_at K l d c) d (first_bytes K m.outs m.seals) (first_bytes K m'.outs m'.seals) → (i ≡ c → ⊥) → seal_in K l d (first_bytes K m'.outs m'.seals) i ≡ seal_in K l d (first_bytes K m.outs m.seals) i
      go one one u n = absurd (n refl)
      go one two u n = left one two (omega arith) u
      go one three u n = left one three (omega arith) u
      go two one u n = right two one (omega arith) u
      go two two u n = absurd (n refl)
      go two three u n = left two three (omega arith) u
      go three one u n = right three one (omega arith) u
      go three two u n = right three two (omega arith) u
      go three three u n = absurd (n refl)
