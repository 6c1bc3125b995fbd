-- Rows that grow in bytes.
use Rattle.std.proofs.Common.{◌≡◌, ℕ, zero, suc, ◌+◌, ◌*◌, ◌<◌, ◌≤◌, List, [], ◌∷◌, ◌++◌, length, take, drop, sym, refl, ap, ◌∙◌, subst, add-one, mul-le-mul_right, arith, length-append, length-drop}
use Rattle.std.specs.List.{AllByRecursion}
use Rattle.kinds.specs.Kind.{Kind, Laws, Lawful}
use Rattle.kinds.specs.Groups.{group_length}
use Rattle.theory.specs.Groups.{group, group_bytes}
use Rattle.theory.proofs.Groups.{read_written}
use Rattle.branches.specs.Wires.{wires_in}
use Rattle.branches.specs.Filled.{Fills}
use Rattle.branches.proofs.RowLemmas.{all_snoc}

module _ (K : Kind) where
  -- row n is written behind the first n
  module _ (n m : ℕ) (bs bs' row : List ℕ) (e : m ≡ n + 1) (added : wires_in K (suc n) bs' ≡ wires_in K n bs ++ (row ∷ [])) where
    pub grown : wires_in K m bs' ≡ wires_in K n bs ++ (row ∷ [])
    grown = ap (λ (k : ℕ). wires_in K k bs') (e ∙ add-one n) ∙ added

    pub fills_more : (most : ℕ) → n < most → Fills K n most bs → length bs' ≡ length bs → Lawful K row → Fills K m most bs'
    fills_more most below f same l = record {
      few = omega (arith, e, below);
      room = omega (arith, f.room, same);
      lawful = subst (AllByRecursion (Lawful K)) (sym grown) (all_snoc (Lawful K) (wires_in K n bs) row f.lawful l);
    }

  -- there is room for one more
  pub room_for : (n most : ℕ) (bs : List ℕ) → n < most → Fills K n most bs → suc n * K.width ≤ length bs
  room_for n most bs below f = let h : suc n * K.width ≤ most * K.width = mul-le-mul_right K.width below in omega (arith, h, f.room)

  -- today a group's elements lie as wires do
  pub wires_of_group : (n : ℕ) (bs : List ℕ) → wires_in K n bs ≡ group K n bs
  unfolding wires_in group
  wires_of_group zero bs = refl
  wires_of_group (suc n) bs = ap (λ (l : List (List ℕ)). take K.width bs ∷ l) (wires_of_group n (drop K.width bs))

  -- the bytes of a group are copied to the front
  module _ (laws : Laws K) (es : List (List ℕ)) (n most : ℕ) (work bytes written : List ℕ) (all : AllByRecursion (Lawful K) es)
      (count : n ≡ length es) (is : bytes ≡ group_bytes K es) (copied : written ≡ bytes) where
    pub copied_rows : wires_in K n (written ++ drop (length bytes) work) ≡ es
    copied_rows =
        wires_of_group n (written ++ drop (length bytes) work)
        ∙ ap (λ (k : ℕ). group K k (written ++ drop (length bytes) work)) count
        ∙ ap (λ (bs : List ℕ). group K (length es) (bs ++ drop (length bytes) work)) (copied ∙ is)
        ∙ read_written K laws es (drop (length bytes) work) all

    pub copied_fills : length es ≤ most → most * K.width ≤ length work → length bytes ≤ length work → Fills K n most (written ++ drop (length bytes) work)
    copied_fills few room fits =
        let long : length (written ++ drop (length bytes) work) ≡ length written + length (drop (length bytes) work) = length-append written (drop (length bytes) work) in
        record {
          few = omega (arith, count, few);
          room = omega (arith, long, length-drop (length bytes) work, ap length copied, room, fits);
          lawful = subst (AllByRecursion (Lawful K)) (sym copied_rows) all;
        }

    pub copied_fit : length es ≤ most → most * K.width ≤ length work → length bytes ≡ group_length K (length es) → length bytes ≤ length work
    copied_fit few room sized = let m : length es * K.width ≤ most * K.width = mul-le-mul_right K.width few in omega (arith, m, room, sized)
