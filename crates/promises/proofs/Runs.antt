-- Three branches run together, a gate at a time: what is left gives the whole.
use Rattle.std.proofs.Common.{◌≡◌, ℕ, suc, ◌+◌, List, [], ◌∷◌, length, set, sym, refl, ap, ◌∙◌, subst, arith, length-append}
use Rattle.faults.specs.declared.Branch.{Branch}
use Rattle.faults.specs.declared.Branch.TheVariants.{One as one, Two as two, Three as three}
use Rattle.kinds.specs.Kind.{Kind, Lawful}
use Rattle.kinds.specs.Groups.{group_length}
use Rattle.locks.specs.Circuit.{Gate, Circuit, ac, mc, ad, mu, mus}
use Rattle.locks.specs.Encoding.{GatesFor}
use Rattle.locks.specs.Model.{gate_of}
use Rattle.locks.specs.declared.records.GateRecord.{GateRecord}
use Rattle.theory.specs.Algebra.{ops_of}
use Rattle.theory.specs.Groups.{group}
use Rattle.theory.specs.Runs.{View, step, rerun, honest, front}
use Rattle.promises.specs.Running.{Running, Trio, of_branch, wires_on, masks_on, due_on, gate_on, stepped, Takes, Starts, Ends, honest_view}
use Rattle.promises.proofs.Fills.{Fills, fill_start, fill_next}

abbrev pub honest_on : Kind → List (Gate (List ℕ)) → Trio → Branch → List (List ℕ)
honest_on K gs t i = honest (ops_of K) gs (wires_on t) (masks_on t) i

-- one branch, with the gates gs left of all
pub record On (K : Kind) (l : Circuit (List ℕ)) (start : Trio) (i : Branch) (gs : List (Gate (List ℕ))) (t : Trio) : Type 0 where
  pub fit : GatesFor K (length (wires_on t i)) gs
  pub room : length (wires_on t i) + length gs ≡ (of_branch t i).most
  pub whole : l.inputs + length l.gates ≡ (of_branch t i).most
  pub runs : rerun (ops_of K) i gs (honest_view K gs t i) ≡ rerun (ops_of K) i l.gates (honest_view K l.gates start i)

pub record Runs (K : Kind) (l : Circuit (List ℕ)) (start : Trio) (gs : List (Gate (List ℕ))) (t : Trio) (m made : ℕ) (out1 out2 out3 : List ℕ) : Type 0 where
  pub on : (i : Branch) → On K l start i gs t
  pub fills1 : Fills K m made out1 (honest_on K gs t one) (honest_on K l.gates start one)
  pub fills2 : Fills K m made out2 (honest_on K gs t two) (honest_on K l.gates start two)
  pub fills3 : Fills K m made out3 (honest_on K gs t three) (honest_on K l.gates start three)

-- the first gate of those that are left
module _ (K : Kind) (g : Gate (List ℕ)) (gs : List (Gate (List ℕ))) (t : Trio) where
  -- as functions of the branch
  wires_next : (i : Branch) → wires_on (stepped K g t) i ≡ (gate_on K i g (due_on K g t i) (of_branch t i)).wires
  wires_next one = refl
  wires_next two = refl
  wires_next three = refl

  masks_next : (i : Branch) → masks_on (stepped K g t) i ≡ (gate_on K i g (due_on K g t i) (of_branch t i)).masks
  masks_next one = refl
  masks_next two = refl
  masks_next three = refl

  most_next : (i : Branch) → (of_branch (stepped K g t) i).most ≡ (of_branch t i).most
  most_next one = refl
  most_next two = refl
  most_next three = refl

  pub honest_next : (i : Branch) → honest_on K (g ∷ gs) t i ≡ front g (due_on K g t i) (honest_on K gs (stepped K g t) i)
  honest_next i = λ x. front g (due_on K g t i) (honest (ops_of K) gs (λ j. sym (wires_next j) x) (λ j. sym (masks_next j) x) i)

  -- the view one gate on, where p is the gate's product and ps are the others
  view_step : (h : Gate (List ℕ)) (i : Branch) (p : List ℕ) (ps : List (List ℕ)) (r : Running)
      → ◌≡◌ {A = View (List ℕ)} (step (ops_of K) i h (record { wires = r.wires; masks = r.masks; products = front h p ps })) (record { wires = (gate_on K i h p r).wires; masks = (gate_on K i h p r).masks; products = ps })
  view_step (ac a c) i p ps r = refl
  view_step (mc a c) i p ps r = refl
  view_step (ad a b) i p ps r = refl
  view_step (mu a b) i p ps r = refl

  pub view_next : (i : Branch) → step (ops_of K) i g (honest_view K (g ∷ gs) t i) ≡ honest_view K gs (stepped K g t) i
  view_next i =
      ap (λ (ps : List (List ℕ)). step (ops_of K) i g (record { wires = wires_on t i; masks = masks_on t i; products = ps })) (honest_next i)
      ∙ view_step g i (due_on K g t i) (honest_on K gs (stepped K g t) i) (of_branch t i)
      ∙ (λ x. record { wires = sym (wires_next i) x; masks = sym (masks_next i) x; products = honest_on K gs (stepped K g t) i })

  pub longer : (i : Branch) → length (wires_on (stepped K g t) i) ≡ suc (length (wires_on t i))
  longer i = ap length (wires_next i) ∙ simp length-append (omega arith)

  module _ (l : Circuit (List ℕ)) (start : Trio) (i : Branch) (o : On K l start i (g ∷ gs) t) where
    pub takes : Takes K g (of_branch t i)
    takes = record { fit = o.fit.0; room = omega (arith, o.room) }

    pub on_next : On K l start i gs (stepped K g t)
    on_next = record {
      fit = subst (λ (n : ℕ). GatesFor K n gs) (sym (longer i)) o.fit.1;
      room = omega (arith, o.room, longer i, most_next i);
      whole = o.whole ∙ sym (most_next i);
      runs = ap (rerun (ops_of K) i gs) (sym (view_next i)) ∙ o.runs;
    }

-- before the first gate, and behind the last
pub starting : (K : Kind) (l : Circuit (List ℕ)) (t : Trio) (i : Branch) → Starts l (of_branch t i) → GatesFor K l.inputs l.gates → On K l t i l.gates t
starting K l t i s fit = record {
  fit = subst (λ (n : ℕ). GatesFor K n l.gates) (sym s.wired) fit;
  room = omega (arith, s.wired, s.room);
  whole = sym s.room;
  runs = refl;
}

pub ending : (K : Kind) (l : Circuit (List ℕ)) (start : Trio) (i : Branch) (gs : List (Gate (List ℕ))) (t : Trio) → gs ≡ [] → On K l start i gs t
    → (wires_on t i ≡ rerun (ops_of K) i l.gates (honest_view K l.gates start i)) × Ends l (of_branch t i)
ending K l start i gs t none o =
    (ap (λ (hs : List (Gate (List ℕ))). rerun (ops_of K) i hs (honest_view K hs t i)) (sym none) ∙ o.runs, omega (arith, o.room, o.whole, ap length none))

-- as many products as gates that have one
pub length_honest : (K : Kind) (gs : List (Gate (List ℕ))) (W R : Branch → List (List ℕ)) (i : Branch) → length (honest (ops_of K) gs W R i) ≡ mus gs
length_honest K [] W R i = refl
length_honest K (ac a c ∷ gs) W R i = length_honest K gs _ _ i
length_honest K (mc a c ∷ gs) W R i = length_honest K gs _ _ i
length_honest K (ad a b ∷ gs) W R i = length_honest K gs _ _ i
length_honest K (mu a b ∷ gs) W R i = ap suc (length_honest K gs _ _ i)

-- no product, no change of products
no_product : (r : GateRecord) → ((a b : ℕ) → r ≡ GateRecord.Multiply a b → ⊥) → (p : List ℕ) (ps : List (List ℕ)) → front (gate_of r) p ps ≡ ps
no_product (GateRecord.AddConstant a c) n p ps = refl
no_product (GateRecord.MultiplyConstant a c) n p ps = refl
no_product (GateRecord.Add a b) n p ps = refl
no_product (GateRecord.Multiply a b) n p ps = absurd (n a b refl)

-- one gate on, of those that are left
module _ (K : Kind) (l : Circuit (List ℕ)) (start : Trio) (gate : GateRecord) (all gs : List (Gate (List ℕ))) (t t' : Trio) (m made : ℕ) (o1 o2 o3 : List ℕ)
    (split : all ≡ gate_of gate ∷ gs) (stepped-is : t' ≡ stepped K (gate_of gate) t) (r : Runs K l start all t m made o1 o2 o3) where
  abbrev g : Gate (List ℕ)
  g = gate_of gate

  on_now : (i : Branch) → On K l start i (gate_of gate ∷ gs) t
  on_now i = subst (λ (hs : List (Gate (List ℕ))). On K l start i hs t) split (r.on i)

  pub run_on : (i : Branch) → On K l start i gs t'
  run_on i = subst (On K l start i gs) (sym stepped-is) (on_next K (gate_of gate) gs t l start i (on_now i))

  left_now : (i : Branch) → honest_on K all t i ≡ front g (due_on K g t i) (honest_on K gs t' i)
  left_now i =
      ap (λ (hs : List (Gate (List ℕ))). honest_on K hs t i) split
      ∙ honest_next K (gate_of gate) gs t i
      ∙ ap (λ (s : Trio). front (gate_of gate) (due_on K (gate_of gate) t i) (honest_on K gs s i)) (sym stepped-is)

  -- a gate without a product
  pub run_plain_gate : ((a b : ℕ) → gate ≡ GateRecord.Multiply a b → ⊥) → Runs K l start gs t' m made o1 o2 o3
  run_plain_gate n =
      let left : (i : Branch) → honest_on K all t i ≡ honest_on K gs t' i = λ i. left_now i ∙ no_product gate n (due_on K (gate_of gate) t i) (honest_on K gs t' i) in
      record {
        on = run_on;
        fills1 = subst (λ (ps : List (List ℕ)). Fills K m made o1 ps (honest_on K l.gates start one)) (left one) r.fills1;
        fills2 = subst (λ (ps : List (List ℕ)). Fills K m made o2 ps (honest_on K l.gates start two)) (left two) r.fills2;
        fills3 = subst (λ (ps : List (List ℕ)). Fills K m made o3 ps (honest_on K l.gates start three)) (left three) r.fills3;
      }

  -- a gate with one
  module _ (a b : ℕ) (is : gate ≡ GateRecord.Multiply a b) where
    with_product : (i : Branch) (p : List ℕ) → p ≡ due_on K g t i → honest_on K all t i ≡ p ∷ honest_on K gs t' i
    with_product i p due =
        left_now i ∙ (λ x. front (gate_of (is x)) (sym due x) (honest_on K gs t' i))

    filled : (i : Branch) (o o' p : List ℕ) → p ≡ due_on K g t i → Fills K m made o (honest_on K all t i) (honest_on K l.gates start i)
        → group K m o' ≡ set (group K m o) made p → length o' ≡ length o → Lawful K p → Fills K m (made + 1) o' (honest_on K gs t' i) (honest_on K l.gates start i)
    filled i o o' p due f put same good = fill_next K m made o p (honest_on K all t i) (honest_on K gs t' i) (honest_on K l.gates start i) (with_product i p due) f (made + 1) o' refl put same good

    pub run_product : (p1 p2 p3 o1' o2' o3' : List ℕ) → p1 ≡ due_on K g t one → p2 ≡ due_on K g t two → p3 ≡ due_on K g t three
        → group K m o1' ≡ set (group K m o1) made p1 → group K m o2' ≡ set (group K m o2) made p2 → group K m o3' ≡ set (group K m o3) made p3
        → length o1' ≡ length o1 → length o2' ≡ length o2 → length o3' ≡ length o3 → Lawful K p1 → Lawful K p2 → Lawful K p3
        → Runs K l start gs t' m (made + 1) o1' o2' o3'
    run_product p1 p2 p3 o1' o2' o3' d1 d2 d3 e1 e2 e3 s1 s2 s3 g1 g2 g3 = record {
      on = run_on;
      fills1 = filled one o1 o1' p1 d1 r.fills1 e1 s1 g1;
      fills2 = filled two o2 o2' p2 d2 r.fills2 e2 s2 g2;
      fills3 = filled three o3 o3' p3 d3 r.fills3 e3 s3 g3;
    }

pub run_start : (K : Kind) (l : Circuit (List ℕ)) (t : Trio) (gs : List (Gate (List ℕ))) (m : ℕ) (o1 o2 o3 : List ℕ) → gs ≡ l.gates → m ≡ mus l.gates → ((i : Branch) → Starts l (of_branch t i)) → GatesFor K l.inputs l.gates
    → length o1 ≡ group_length K (mus l.gates) → length o2 ≡ group_length K (mus l.gates) → length o3 ≡ group_length K (mus l.gates) → Runs K l t gs t m 0 o1 o2 o3
run_start K l t gs m o1 o2 o3 e count starts fit s1 s2 s3 =
    let fills : (i : Branch) (o : List ℕ) → length o ≡ group_length K (mus l.gates) → Fills K m 0 o (honest_on K l.gates t i) (honest_on K l.gates t i) =
    λ i o s. fill_start K m 0 o (honest_on K l.gates t i) refl (length_honest K l.gates (wires_on t) (masks_on t) i ∙ sym count) (s ∙ ap (group_length K) (sym count)) in
    subst (λ (hs : List (Gate (List ℕ))). Runs K l t hs t m 0 o1 o2 o3) (sym e) (record {
      on = λ i. starting K l t i (starts i) fit;
      fills1 = fills one o1 s1;
      fills2 = fills two o2 s2;
      fills3 = fills three o3 s3;
    })

pub none_left : (K : Kind) (gs : List (Gate (List ℕ))) (t : Trio) (i : Branch) → gs ≡ [] → honest_on K gs t i ≡ []
none_left K gs t i e = ap (λ (hs : List (Gate (List ℕ))). honest_on K hs t i) e
