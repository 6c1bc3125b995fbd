-- The worked example, by computation where no seal enters.
use Rattle.std.proofs.Common.{◌≡◌, ℕ, ◌+◌, ◌-◌, ◌*◌, ◌/◌, ◌%◌, ◌^◌, ◌<◌, [], ◌∷◌, drop, sym, refl, ap, ◌∙◌, mod-lt, arith}
use Rattle.kinds.specs.Numbers.{number_of, four_bytes}
use Rattle.kinds.specs.BitLaws.{bit_laws}
use Rattle.kinds.specs.ModularLaws.{number_four}
use Rattle.locks.specs.Reading.{gates_from, outputs_from}
use Rattle.seals.specs.Sealing.{Sealing, Sound}
use Rattle.theory.specs.Runs.{one}
use Rattle.theory.specs.Groups.{group, group_bytes, element_at}
use Rattle.theory.specs.Messages.{view_of, view_bytes}
use Rattle.theory.specs.Store.{rounds_in, round_at}
use Rattle.theory.specs.Keeper.{own_answer}
use Rattle.theory.specs.Worked.{row, with_mask, with_key, adder, total, Witness}

-- the third mask of the (1, 12) run: its second product tells it
pub last_four : (S : Sealing) (a b c d : ℕ) → a < 256 → b < 256 → c < 256 → d < 256 → own_answer (with_mask S 1 12 (a ∷ b ∷ c ∷ d ∷ [])) one ≡ own_answer (with_key S 3 4 50) one → a ∷ b ∷ c ∷ d ∷ [] ≡ row 54
unfolding gates_from outputs_from group group_bytes view_bytes
last_four S a b c d ha hb hc hd e =
    let u : ℕ = a * 16777216 + b * 65536 + c * 256 + d in
    let m : ℕ = (2 ^ 32 - u) % 2 ^ 32 in
    let back : number_of (four_bytes m) ≡ m = number_four m (mod-lt (2 ^ 32 - u) (omega arith)) in
    let n : ℕ = (4294967275 + number_of (four_bytes m)) % 2 ^ 32 in
    let same : four_bytes n ≡ row 4294967221 = ap (drop 95) e in
    let n-is : n ≡ 4294967221 = sym (number_four n (mod-lt (4294967275 + number_of (four_bytes m)) (omega arith))) ∙ ap number_of same in
    let p : a ≡ 0 = omega (arith, n-is, back) in
    let q : b ≡ 0 = omega (arith, n-is, back) in
    let r : c ≡ 0 = omega (arith, n-is, back) in
    let s : d ≡ 54 = omega (arith, n-is, back) in
    λ i. p i ∷ q i ∷ r i ∷ s i ∷ []

adder_sound : Sound adder
adder_sound = record {
  some_size = omega arith;
  most_size = omega arith;
  sized = λ m. refl;
  bytes = λ m. (mod-lt (total m / 16777216) (omega arith), (mod-lt (total m / 65536) (omega arith), (mod-lt (total m / 256) (omega arith), (mod-lt (total m) (omega arith), tt))));
}

pub witness : Witness
unfolding gates_from outputs_from group group_bytes element_at view_of view_bytes rounds_in round_at
witness = record {
  laws = bit_laws;
  sound = adder_sound;
  honest_one = record {
    kind_laws = bit_laws;
    sealing_sound = adder_sound;
    reads = refl;
    key_fits = record { size = refl; lawful = (refl, (refl, tt)); fits = record { size = refl; meets = refl } };
    tape_size = refl;
    tape_lawful = record { share1_lawful = (refl, (refl, tt)); share2_lawful = (refl, (refl, tt)); mask1_lawful = (refl, tt); mask2_lawful = (refl, tt); mask3_lawful = (refl, tt) };
    views_fit = refl;
    sealable = omega arith;
    work1_size = omega arith;
    work2_size = omega arith;
    work3_size = omega arith;
    first_size = refl;
  };
  room_left = omega arith;
  still_open = refl;
  three_accepted = (refl, refl, refl);
  is_made = refl;
  is_opened = refl;
  other_fits = record { size = refl; lawful = (refl, (refl, tt)); fits = record { size = refl; meets = refl } };
}
