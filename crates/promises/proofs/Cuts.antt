-- The parts that a tape is cut into: their lengths, and what they give.
use Rattle.std.proofs.Common.{◌≡◌, ℕ, ◌+◌, ◌≤◌, List, length, take, drop, ap, ◌∙◌, arith, length-drop}
use Rattle.std.proofs.lemmas.List.{length-take-le}
use Rattle.faults.specs.declared.Branch.TheVariants.{One as one, Two as two, Three as three}
use Rattle.kinds.specs.Kind.{Kind}
use Rattle.locks.specs.Circuit.{Circuit, mus}
use Rattle.theory.specs.Groups.{group}
use Rattle.theory.specs.Messages.{length_of_tape, shares_length, masks_length, tape_shares_at, tape_masks_at}
use Rattle.promises.specs.declared.tape.Tape.{Tape}
use Rattle.promises.specs.Drawn.{drawn_in}
use Rattle.promises.specs.Tapes.{Cut, Sized, drawn_of}

part_long : (xs : List ℕ) (at n : ℕ) → at + n ≤ length xs → length (take n (drop at xs)) ≡ n
part_long xs at n h = length-take-le n (drop at xs) (simp length-drop (omega (arith, h)))

module _ (K : Kind) (l : Circuit (List ℕ)) (xs : List ℕ) (t : Tape) (c : Cut K l xs t) where
  pub cut_sized : length xs ≡ length_of_tape K l → Sized K l t
  cut_sized long = record {
    blind1 = ap length c.blind1 ∙ part_long xs 0 32 (omega (arith, long));
    blind2 = ap length c.blind2 ∙ part_long xs 32 32 (omega (arith, long));
    blind3 = ap length c.blind3 ∙ part_long xs 64 32 (omega (arith, long));
    share1 = ap length c.share1 ∙ part_long xs (tape_shares_at K l one) (shares_length K l) (omega (arith, long));
    share2 = ap length c.share2 ∙ part_long xs (tape_shares_at K l two) (shares_length K l) (omega (arith, long));
    mask1 = ap length c.mask1 ∙ part_long xs (tape_masks_at K l one) (masks_length K l) (omega (arith, long));
    mask2 = ap length c.mask2 ∙ part_long xs (tape_masks_at K l two) (masks_length K l) (omega (arith, long));
    mask3 = ap length c.mask3 ∙ part_long xs (tape_masks_at K l three) (masks_length K l) (omega (arith, long));
  }

  pub cut_drawn : drawn_of K l t ≡ drawn_in K l xs
  cut_drawn = λ i. record {
    blind1 = c.blind1 i;
    blind2 = c.blind2 i;
    blind3 = c.blind3 i;
    parts = record {
      share1 = group K l.inputs (c.share1 i);
      share2 = group K l.inputs (c.share2 i);
      mask1 = group K (mus l.gates) (c.mask1 i);
      mask2 = group K (mus l.gates) (c.mask2 i);
      mask3 = group K (mus l.gates) (c.mask3 i);
    };
  }
