use Rattle.std.proofs.Common.{ℕ, List, None, Err, length, ap, ◌∙◌}
use Rattle.faults.specs.Numbers.{fault}
use Rattle.faults.specs.declared.Reason.{Reason}
use Rattle.theory.specs.Algebra.{ops_of}
use Rattle.theory.specs.Groups.{group}
use Rattle.theory.specs.Runs.{at_outputs, targets, plain}
use Rattle.theory.specs.Tests.{unlike, unlawful}
use Rattle.theory.proofs.Groups.{counted}
use Rattle.branches.specs.Holding.{unless}
use Rattle.promises.proofs.Reading.{key_is, key_told, key_fits}
use Rattle.promises.proofs.key.read_key.Goals as goal

pub run_plain-requires-clause-counted : goal.run_plain-requires-clause-counted
run_plain-requires-clause-counted g c =
    ap length (key_is _ c.in-Ok.key _ None (λ i. fault Reason.UnlawfulKey i) (λ i. fault Reason.KeyDoesNotFit i) c.in-Ok.ensures)
    ∙ counted g.K.ElementKind.kind c.input_count.result c.args.bytes.now ∙ c.input_count.ensures.count

pub returns-in-Some : goal.returns-in-Some
returns-in-Some g c =
    let K = g.K.ElementKind.kind in
    let O = ops_of K in
    let l = c.args.lock.now in
    let read = c.in-Ok.ensures ∙ ap (λ (n : ℕ). unless (unlawful K (group K n c.args.bytes.now)) (group K n c.args.bytes.now)) c.input_count.ensures.count in
    let is = key_is (group K l.inputs c.args.bytes.now) c.in-Ok.key (unlawful K (group K l.inputs c.args.bytes.now)) None (λ i. fault Reason.UnlawfulKey i) (λ i. fault Reason.KeyDoesNotFit i) read in
    let e = c.in-Some.ensures ∙ ap (λ (rows : List (List ℕ)). unlike (at_outputs O l.outputs rows) (targets O l.outputs)) (c.run_plain.ensures.wires ∙ ap (plain O l.gates) is) in
    ap Err c.at-in-Some.ensures ∙ key_told (group K l.inputs c.args.bytes.now) c.in-Ok.key (unlawful K (group K l.inputs c.args.bytes.now)) _ (λ i. fault Reason.UnlawfulKey i) (λ i. fault Reason.KeyDoesNotFit i) read c.in-Some.i e

pub returns-in-None : goal.returns-in-None
returns-in-None g c =
    let K = g.K.ElementKind.kind in
    let O = ops_of K in
    let l = c.args.lock.now in
    let read = c.in-Ok.ensures ∙ ap (λ (n : ℕ). unless (unlawful K (group K n c.args.bytes.now)) (group K n c.args.bytes.now)) c.input_count.ensures.count in
    let is = key_is (group K l.inputs c.args.bytes.now) c.in-Ok.key (unlawful K (group K l.inputs c.args.bytes.now)) None (λ i. fault Reason.UnlawfulKey i) (λ i. fault Reason.KeyDoesNotFit i) read in
    let e = c.in-None.ensures ∙ ap (λ (rows : List (List ℕ)). unlike (at_outputs O l.outputs rows) (targets O l.outputs)) (c.run_plain.ensures.wires ∙ ap (plain O l.gates) is) in
    key_fits (group K l.inputs c.args.bytes.now) c.in-Ok.key (unlawful K (group K l.inputs c.args.bytes.now)) _ (λ i. fault Reason.UnlawfulKey i) (λ i. fault Reason.KeyDoesNotFit i) read e
