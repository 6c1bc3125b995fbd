use Rattle.std.proofs.Common.{rules}
use Rattle.faults.specs.declared.Branch.TheVariants.{Three as three}
use Rattle.promises.proofs.fronts.write_third_front.Goals as goal

pub split_at_mut-blind_place-requires : goal.split_at_mut-blind_place-requires
split_at_mut-blind_place-requires g c = let b = c.requires.fitting.blinded three in search rules

pub split_at_mut-shares_place-requires : goal.split_at_mut-shares_place-requires
split_at_mut-shares_place-requires g c = let b = c.requires.fitting.blinded three in search rules

pub copy_from_slice-requires-2 : goal.copy_from_slice-requires-2
copy_from_slice-requires-2 g c =
    let b = c.requires.fitting.blinded three in
    let m = c.requires.fitting.taped.masked three in
    search rules
