-- The parts of a tape as bytes, for a circuit.
use Rattle.std.specs.Prelude.{◌≡◌, ℕ, List, length}
use Rattle.faults.specs.declared.Branch.TheVariants.{One as one, Two as two, Three as three}
use Rattle.kinds.specs.Kind.{Kind}
use Rattle.locks.specs.Circuit.{Circuit, mus}
use Rattle.theory.specs.Groups.{group}
use Rattle.theory.specs.Messages.{shares_length, masks_length, blind_in, shares_in, masks_in}
use Rattle.promises.specs.declared.tape.Tape.{Tape}
use Rattle.promises.specs.Drawn.{Drawn}

-- where they lie in its bytes
pub record Cut (K : Kind) (l : Circuit (List ℕ)) (xs : List ℕ) (t : Tape) : Type 0 where
  pub blind1 : t.blind1.now ≡ blind_in K l xs one
  pub blind2 : t.blind2.now ≡ blind_in K l xs two
  pub blind3 : t.blind3.now ≡ blind_in K l xs three
  pub share1 : t.share1.now ≡ shares_in K l xs one
  pub share2 : t.share2.now ≡ shares_in K l xs two
  pub mask1 : t.mask1.now ≡ masks_in K l xs one
  pub mask2 : t.mask2.now ≡ masks_in K l xs two
  pub mask3 : t.mask3.now ≡ masks_in K l xs three

pub record Sized (K : Kind) (l : Circuit (List ℕ)) (t : Tape) : Type 0 where
  pub blind1 : length t.blind1.now ≡ 32
  pub blind2 : length t.blind2.now ≡ 32
  pub blind3 : length t.blind3.now ≡ 32
  pub share1 : length t.share1.now ≡ shares_length K l
  pub share2 : length t.share2.now ≡ shares_length K l
  pub mask1 : length t.mask1.now ≡ masks_length K l
  pub mask2 : length t.mask2.now ≡ masks_length K l
  pub mask3 : length t.mask3.now ≡ masks_length K l

-- its blinds, and the elements in the other parts
abbrev pub drawn_of : Kind → Circuit (List ℕ) → Tape → Drawn
drawn_of K l t = record {
  blind1 = t.blind1.now;
  blind2 = t.blind2.now;
  blind3 = t.blind3.now;
  parts = record {
    share1 = group K l.inputs t.share1.now;
    share2 = group K l.inputs t.share2.now;
    mask1 = group K (mus l.gates) t.mask1.now;
    mask2 = group K (mus l.gates) t.mask2.now;
    mask3 = group K (mus l.gates) t.mask3.now;
  };
}
