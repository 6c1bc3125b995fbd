use Rattle.std.proofs.Common.{ℕ, ◌+◌, ◌-◌, ◌*◌, length, drop, ap, ◌∙◌}
use Rattle.locks.specs.Model.{start_of}
use Rattle.locks.proofs.Steps.{to_end}
use Rattle.branches.proofs.walk.outputs_reader.Goals as goal

pub returns : goal.returns
returns g c =
    let xs = c.args.lock.records.now in
    let m = c.args.lock.outputs in
    c.over.ensures ∙ ap start_of (to_end xs _ ∙ ap (λ (w : ℕ). drop (length xs - m * (6 + w)) xs) (c.WIDTH.ensures ∙ g.met.K.ElementKind.width_is))
