use Rattle.std.proofs.Common.{ℕ, Bool, not, eqb, rules, ◌∙◌}
use Rattle.std.proofs.lemmas.Iterator.{YieldsList-from_slice, YieldsList-from_zip}
use Rattle.std.proofs.lemmas.Iterator.Search.{position_from_yields_List}
use Rattle.branches.proofs.Firsts.{differ_position}
use Rattle.branches.proofs.bytes.first_difference.Goals as goal

pub returns : goal.returns
returns c =
    let xs = c.args.left.now in
    let ys = c.args.right.now in
    let unlike : ℕ × ℕ → Bool = λ p. not (eqb p.0 p.1) in
    let pairs = YieldsList-from_zip {s = c.zip.result} (YieldsList-from_slice xs (search rules)) (YieldsList-from_slice ys (search rules)) in
    position_from_yields_List unlike c.position.new.self _ c.position.result c.position.ensures.ran pairs (λ x b q k. search rules)
    ∙ differ_position xs ys c.requires
