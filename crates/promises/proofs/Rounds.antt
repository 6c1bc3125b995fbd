-- A round's views and first message from what was written.
use Rattle.std.proofs.Common.{◌≡◌, ℕ, ◌-◌, List, ◌∷◌, [], ◌++◌, length, take, drop, sym, refl, ap, ◌∙◌, subst, append_assoc, take_at, drop_at}
use Rattle.std.specs.List.{AllByRecursion}
use Rattle.faults.specs.declared.Branch.{Branch}
use Rattle.faults.specs.declared.Branch.TheVariants.{One as one, Two as two, Three as three}
use Rattle.kinds.specs.Kind.{Kind, Laws, Lawful}
use Rattle.locks.specs.Circuit.{Circuit, mus}
use Rattle.locks.proofs.Steps.{to_end}
use Rattle.theory.specs.Algebra.{ops_of}
use Rattle.theory.specs.Branches.{shares_of, masks_on as drawn_masks, view}
use Rattle.theory.specs.Groups.{group, group_bytes}
use Rattle.theory.specs.Messages.{view_bytes}
use Rattle.theory.specs.Runs.{View, honest, rerun, at_outputs}
use Rattle.theory.proofs.Groups.{read_written}
use Rattle.promises.specs.Drawn.{Drawn, blind_on, Fitting, view_on, outs_on, third_of}
use Rattle.promises.specs.Running.{Running, Trio, started, wires_on, masks_on, Starts, honest_view}
use Rattle.promises.proofs.Fills.{length_less}

-- of each branch, from the three
pub each : (P : Branch → Type 0) → P one → P two → P three → (i : Branch) → P i
each P a b c one = a
each P a b c two = b
each P a b c three = c

-- as many third shares as inputs; they stand behind the third blind
third_long : (K : Kind) (l : Circuit (List ℕ)) (key : List (List ℕ)) (t : Drawn) → Fitting l key t → length (shares_of (ops_of K) key t.parts three) ≡ l.inputs
third_long K l key t f =
    let a = length_less K key t.parts.share1 (f.taped.size1 ∙ sym f.keyed) in
    length_less K _ t.parts.share2 (f.taped.size2 ∙ sym f.keyed ∙ sym a) ∙ a ∙ f.keyed

third_there : (K : Kind) → Laws K → (n : ℕ) (front blind masks : List ℕ) (shares : List (List ℕ)) → front ≡ blind ++ (group_bytes K shares ++ masks) → length blind ≡ 32 → n ≡ length shares → AllByRecursion (Lawful K) shares
    → group K n (take (length front - 32) (drop 32 front)) ≡ shares
third_there K laws n front blind masks shares is long count good =
    (λ x. group K (count x) (to_end front 32 x))
    ∙ ap (λ (bs : List ℕ). group K (length shares) (drop 32 bs)) is
    ∙ ap (group K (length shares)) (drop_at blind (group_bytes K shares ++ masks) 32 long)
    ∙ read_written K laws shares masks good

-- the third shares, read from the front that was written
module _ (K : Kind) (laws : Laws K) (l : Circuit (List ℕ)) (key : List (List ℕ)) (t : Drawn) (n : ℕ) (front : List ℕ) (f : Fitting l key t) (count : n ≡ l.inputs)
    (is : front ≡ t.blind3 ++ (group_bytes K (shares_of (ops_of K) key t.parts three) ++ group_bytes K t.parts.mask3)) (good : AllByRecursion (Lawful K) (shares_of (ops_of K) key t.parts three)) where
  pub third_read : group K n (take (length front - 32) (drop 32 front)) ≡ shares_of (ops_of K) key t.parts three
  third_read = third_there K laws n front t.blind3 (group_bytes K t.parts.mask3) (shares_of (ops_of K) key t.parts three) is (f.blinded three) (count ∙ sym (third_long K l key t f)) good

  pub third_lawful : AllByRecursion (Lawful K) (group K n (take (length front - 32) (drop 32 front)))
  third_lawful = subst (AllByRecursion (Lawful K)) (sym third_read) good

pub starts_of : (l : Circuit (List ℕ)) (r : Running) (shares masks : List (List ℕ)) → r ≡ started l shares masks → length shares ≡ l.inputs → length masks ≡ mus l.gates → Starts l r
starts_of l r shares masks is shared masked = subst (Starts l) (sym is) (record { wired = shared; room = refl; masked = masked })

-- three branches that started with a key's and a tape's shares and masks
module _ (K : Kind) (l : Circuit (List ℕ)) (key : List (List ℕ)) (t : Drawn) (s : Trio)
    (W : (i : Branch) → wires_on s i ≡ shares_of (ops_of K) key t.parts i) (R : (i : Branch) → masks_on s i ≡ drawn_masks t.parts i) where
  view_is : (i : Branch) → honest_view K l.gates s i ≡ view (ops_of K) l key t.parts i
  view_is i = λ x. record { wires = W i x; masks = R i x; products = honest (ops_of K) l.gates (λ j. W j x) (λ j. R j x) i }

  pub outs_are : (i : Branch) (wires : List (List ℕ)) → wires ≡ rerun (ops_of K) i l.gates (honest_view K l.gates s i) → group_bytes K (at_outputs (ops_of K) l.outputs wires) ≡ outs_on K l key t i
  outs_are i wires e = ap (λ (ws : List (List ℕ)). group_bytes K (at_outputs (ops_of K) l.outputs ws)) (e ∙ ap (rerun (ops_of K) i l.gates) (view_is i))

  pub view_written : (i : Branch) (front products : List ℕ) → front ≡ blind_on t i ++ (group_bytes K (shares_of (ops_of K) key t.parts i) ++ group_bytes K (drawn_masks t.parts i))
      → products ≡ group_bytes K (honest (ops_of K) l.gates (wires_on s) (masks_on s) i) → front ++ products ≡ view_on K l key t i
  unfolding view_bytes
  view_written i front products f p =
      let b = blind_on t i in
      let sh = group_bytes K (shares_of (ops_of K) key t.parts i) in
      let m = group_bytes K (drawn_masks t.parts i) in
      let is = p ∙ ap (λ (v : View (List ℕ)). group_bytes K v.products) (view_is i) in
      let q = group_bytes K (view (ops_of K) l key t.parts i).products in
      (λ x. f x ++ is x) ∙ append_assoc b (sh ++ m) q ∙ ap (λ (r : List ℕ). b ++ r) (append_assoc sh m q)

-- each third of three parts of one length
pub third_is : (L : ℕ) (a b c : List ℕ) → length a ≡ L → length b ≡ L → (third_of L (a ++ (b ++ c)) one ≡ a) × (third_of L (a ++ (b ++ c)) two ≡ b) × (third_of L (a ++ (b ++ c)) three ≡ c)
third_is L a b c la lb =
    let d = drop_at a (b ++ c) L la in
    (take_at a (b ++ c) L la, ap (take L) d ∙ take_at b c L lb, ap (drop L) d ∙ drop_at b c L lb)

pub first_written : (mark outs seals a b c d : List ℕ) → mark ≡ 70 ∷ 77 ∷ [] → outs ≡ a ++ (b ++ c) → seals ≡ d → mark ++ (outs ++ seals) ≡ 70 ∷ 77 ∷ a ++ (b ++ (c ++ d))
first_written mark outs seals a b c d m o s =
    (λ x. m x ++ (o x ++ s x)) ∙ ap (λ (r : List ℕ). 70 ∷ 77 ∷ r) (append_assoc a (b ++ c) d ∙ ap (λ (r : List ℕ). a ++ r) (append_assoc b c d))
