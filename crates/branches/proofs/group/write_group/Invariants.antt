use Rattle.std.proofs.Common.{◌≡◌, ℕ, ◌<◌}
use Rattle.theory.specs.Algebra.{ops_of}
use Rattle.theory.specs.Runs.{read}
use Rattle.theory.specs.Groups.{group}
use Rattle.branches.proofs.group.write_group.Given as goal

abbrev pub invariant-loop-i : goal.invariant-loop-i
invariant-loop-i g l =
    let kind = g.K.ElementKind.kind in
    (k : ℕ) → k < l.i → (x : g.row.K.Denot) × g.F.Fn.post l.element (k, tt) x × (read (ops_of kind) (group kind l.n l.bytes) k ≡ g.K.ElementKind.row x)
