use Rattle.std.proofs.Common.{◌<◌, ◌≤◌, length, sym, ◌∙◌, arith}
use Rattle.theory.specs.Algebra.{ops_of}
use Rattle.theory.specs.Runs.{read}
use Rattle.theory.specs.Groups.{group}
use Rattle.theory.proofs.Groups.{counted}
use Rattle.branches.proofs.Firsts.{first_passed, first_failed, unlawful_here, unlawful_end}
use Rattle.branches.proofs.groups.first_unlawful.Goals as goal

pub returns-then-not-is_lawful : goal.returns-then-not-is_lawful
returns-then-not-is_lawful g c =
    let kind = g.K.ElementKind.kind in
    let xs = group kind c.args.n c.args.bytes.now in
    let i = c.loop-i.i in
    let lt : c.loop-i.i < length (group g.K.ElementKind.kind c.args.n c.args.bytes.now) = omega (arith, counted g.K.ElementKind.kind c.args.n c.args.bytes.now, c.loop-i-test.true) in
    first_failed i (kind.lawful (read (ops_of kind) xs i)) _ _ (unlawful_here kind xs i lt) (sym c.is_lawful.ensures ∙ c.if-not-is_lawful.true) ∙ c.loop-i.invariant

pub loop-i-preserved : goal.loop-i-preserved
loop-i-preserved g c =
    let kind = g.K.ElementKind.kind in
    let xs = group kind c.args.n c.args.bytes.now in
    let i = c.loop-i.i in
    let lt : c.loop-i.i < length (group g.K.ElementKind.kind c.args.n c.args.bytes.now) = omega (arith, counted g.K.ElementKind.kind c.args.n c.args.bytes.now, c.loop-i-test.true) in
    first_passed i (kind.lawful (read (ops_of kind) xs i)) _ _ (unlawful_here kind xs i lt) (sym c.is_lawful.ensures ∙ c.if-not-is_lawful.false) ∙ c.loop-i.invariant

pub returns : goal.returns
returns g c =
    let kind = g.K.ElementKind.kind in
    let xs = group kind c.args.n c.args.bytes.now in
    let past : length (group g.K.ElementKind.kind c.args.n c.args.bytes.now) ≤ c.loop-i.i = omega (arith, counted g.K.ElementKind.kind c.args.n c.args.bytes.now, c.loop-i-test.false) in
    sym (unlawful_end kind xs c.loop-i.i past) ∙ c.loop-i.invariant
