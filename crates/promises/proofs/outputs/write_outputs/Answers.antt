use Rattle.std.proofs.Common.{◌∷◌, List, ℕ, length, sym, ap, ◌∙◌, subst, set}
use Rattle.std.specs.List.{AllByRecursion}
use Rattle.std.specs.Iterator.Adapters.{enumerate_source, enumerate_count}
use Rattle.locks.specs.Circuit.{Output}
use Rattle.locks.specs.Encoding.{OutputFor}
use Rattle.theory.specs.Algebra.{ops_of}
use Rattle.theory.specs.Groups.{group}
use Rattle.theory.specs.Runs.{at_outputs}
use Rattle.promises.proofs.Fills.{fill_next, fill_end}
use Rattle.promises.proofs.outputs.write_outputs.Goals as goal

pub loop-j-preserved : goal.loop-j-preserved
loop-j-preserved g c =
    let K = g.K.ElementKind.kind in
    let rows = c.args.wires.now.rows in
    let s = c.in-Some.ensures.steps in
    let all = subst (AllByRecursion (OutputFor K (length rows))) s.0 c.loop-j.invariant.0 in
    let row = g.K.ElementKind.row c.wire.result in
    let left = enumerate_source c.next.new.self in
    let split = ap (λ (us : List (Output (List ℕ))). at_outputs (ops_of K) us rows) s.0 ∙ ap (λ (x : List ℕ). x ∷ at_outputs (ops_of K) left rows) (sym c.wire.ensures) in
    (all.1, fill_next K _ (enumerate_count c.loop-j.j-iterator) c.loop-j.out row _ _ _ split c.loop-j.invariant.1 _ _ s.2 (c.put_element.ensures.put ∙ ap (λ (j : ℕ). set (group K c.output_count-count.result c.loop-j.out) j row) s.1) c.put_element.auto.bytes (g.met.K.ElementKind.lawful c.wire.result))

pub returns : goal.returns
returns g c =
    let K = g.K.ElementKind.kind in
    fill_end K _ _ c.loop-j.out _ _ (ap (λ (us : List (Output (List ℕ))). at_outputs (ops_of K) us c.args.wires.now.rows) c.in-None.ensures.steps.0.0) c.loop-j.invariant.1
