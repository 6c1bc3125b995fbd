use Rattle.std.proofs.Common.{◌≡◌, ◌+◌, ◌-◌, length, arith}
use Rattle.std.proofs.lemmas.List.{drop-drop}
use Rattle.parts.proofs.put.Goals as goal

pub returns : goal.returns
returns c =
    let e : (c.args.at + length c.args.src.now) - c.args.at ≡ length c.args.src.now = omega arith in
    let d = drop-drop (length c.args.src.now) c.args.at c.args.dst.now in
    cc
