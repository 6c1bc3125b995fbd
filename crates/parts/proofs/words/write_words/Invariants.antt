use Rattle.std.proofs.Common.{◌≡◌, ◌*◌, take}
use Rattle.std.specs.List.{flat_map}
use Rattle.parts.proofs.words.write_words.Given as goal

abbrev pub invariant-loop-t : goal.invariant-loop-t
invariant-loop-t g l = take (g.W.Word.SIZE * l.t) l.out ≡ flat_map g.W.Word.spelled (take l.t l.words)
