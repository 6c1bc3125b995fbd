use Rattle.std.proofs.Common.{◌∙◌}
use Rattle.faults.specs.declared.Branch.TheVariants.{One as one, Two as two, Three as three}
use Rattle.promises.proofs.Fills.{fill_end}
use Rattle.promises.proofs.Runs.{run_start, run_product, run_plain_gate, none_left, ending}
use Rattle.promises.proofs.run.Trio.run.Goals as goal

pub loop-gate-init : goal.loop-gate-init
loop-gate-init g c =
    run_start g.K.ElementKind.kind c.args.lock.now c.args.self.now c.into_iter-gate-iterator.result c.product_count-count.result c.args.products1.now c.args.products2.now c.args.products3.now
    (c.into_iter-gate-iterator.ensures.into_iter_gives ∙ c.gates-gate-items.ensures.gates) c.product_count-count.ensures.count c.requires.starts c.gates-gate-items.ensures.fit
    c.requires.sized1 c.requires.sized2 c.requires.sized3

pub loop-gate-preserved-in-Multiply : goal.loop-gate-preserved-in-Multiply
loop-gate-preserved-in-Multiply g c =
    let made = c.step-product1.ensures in
    run_product g.K.ElementKind.kind c.args.lock.now c.args.self.now c.in-Some.gate c.loop-gate.gate-iterator c.next.new.self c.loop-gate.self c.step-product1.new.self
    c.product_count-count.result c.loop-gate.made c.loop-gate.products1 c.loop-gate.products2 c.loop-gate.products3 c.in-Some.ensures.steps made.stepped c.loop-gate.invariant
    c.in-Multiply.left c.in-Multiply.right c.in-Multiply.is _ _ _ c.put_element.new.bytes c.put_element-in-Multiply.new.bytes c.put_element-in-Multiply-2.new.bytes made.first made.second made.third
    c.put_element.ensures.put c.put_element-in-Multiply.ensures.put c.put_element-in-Multiply-2.ensures.put
    c.put_element.auto.bytes c.put_element-in-Multiply.auto.bytes c.put_element-in-Multiply-2.auto.bytes
    (g.met.K.ElementKind.lawful c.step-product1.result.0) (g.met.K.ElementKind.lawful c.step-product1.result.1) (g.met.K.ElementKind.lawful c.step-product1.result.2)

pub loop-gate-preserved : goal.loop-gate-preserved
loop-gate-preserved g c =
    run_plain_gate g.K.ElementKind.kind c.args.lock.now c.args.self.now c.in-Some.gate c.loop-gate.gate-iterator c.next.new.self c.loop-gate.self c.step-product1.new.self
    c.product_count-count.result c.loop-gate.made c.loop-gate.products1 c.loop-gate.products2 c.loop-gate.products3 c.in-Some.ensures.steps c.step-product1.ensures.stepped c.loop-gate.invariant c.in_default.not-Multiply

pub returns : goal.returns
returns g c =
    let K = g.K.ElementKind.kind in
    let inv = c.loop-gate.invariant in
    let e = c.in-None.ensures.steps.0 in
    record {
      products1 = fill_end K _ _ c.loop-gate.products1 _ _ (none_left K c.loop-gate.gate-iterator c.loop-gate.self one e) inv.fills1;
      products2 = fill_end K _ _ c.loop-gate.products2 _ _ (none_left K c.loop-gate.gate-iterator c.loop-gate.self two e) inv.fills2;
      products3 = fill_end K _ _ c.loop-gate.products3 _ _ (none_left K c.loop-gate.gate-iterator c.loop-gate.self three e) inv.fills3;
      wires = λ i. (ending K c.args.lock.now c.args.self.now i c.loop-gate.gate-iterator c.loop-gate.self e (inv.on i)).0;
      ends = λ i. (ending K c.args.lock.now c.args.self.now i c.loop-gate.gate-iterator c.loop-gate.self e (inv.on i)).1;
    }
