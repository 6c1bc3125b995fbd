use Rattle.std.proofs.Common.{◌≡◌, ◌++◌, length, sym, ap, ◌∙◌, rules}
use Rattle.faults.specs.declared.Branch.{Branch}
use Rattle.faults.specs.declared.Branch.TheVariants.{One as one, Two as two, Three as three}
use Rattle.theory.specs.Algebra.{ops_of}
use Rattle.theory.specs.Branches.{shares_of, masks_on as drawn_masks}
use Rattle.theory.specs.Groups.{group_bytes}
use Rattle.theory.specs.Messages.{length_of_view}
use Rattle.promises.specs.Drawn.{Drawn, view_on}
use Rattle.promises.specs.Running.{Running, Starts, of_branch, wires_on, masks_on}
use Rattle.theory.proofs.Groups.{counted}
use Rattle.promises.proofs.Rounds.{each, third_read, third_lawful, starts_of, outs_are, view_written}
use Rattle.promises.proofs.round.write_views.Goals as goal

pub write_front-requires : goal.write_front-requires
write_front-requires g c =
    let a = c.requires.fitting.blinded one in
    let b = c.requires.fitting.blinded two in
    let m = c.requires.fitting.taped.masked one in
    let n = c.requires.fitting.taped.masked two in
    search rules

pub write_front-requires-2 : goal.write_front-requires-2
write_front-requires-2 g c =
    let a = c.requires.fitting.blinded one in
    let b = c.requires.fitting.blinded two in
    let m = c.requires.fitting.taped.masked one in
    let n = c.requires.fitting.taped.masked two in
    search rules

pub lawful-third_shares-requires-clause-lawful : goal.lawful-third_shares-requires-clause-lawful
lawful-third_shares-requires-clause-lawful g c =
    third_lawful g.K.ElementKind.kind g.met.K.ElementKind.laws c.args.lock.now c.args.key.now c.args.tape.now c.input_count.result c.write_third_front.new.front
    c.requires.fitting c.input_count.ensures.count c.write_third_front.ensures.front c.write_third_front.ensures.lawful

pub start-trio-requires-clause-shared : goal.start-trio-requires-clause-shared
start-trio-requires-clause-shared g c =
    ap length c.lawful-third_shares.ensures ∙ counted g.K.ElementKind.kind c.input_count.result _ ∙ c.input_count.ensures.count

pub run-requires-clause-starts : goal.run-requires-clause-starts
run-requires-clause-starts g c =
    let l = c.args.lock.now in
    let t = c.args.tape.now.parts in
    let f = c.requires.fitting.taped in
    let long = ap length c.lawful-third_shares.ensures ∙ counted g.K.ElementKind.kind c.input_count.result _ ∙ c.input_count.ensures.count in
    each (λ i. Starts l (of_branch c.start-trio.result i))
    (starts_of l c.start-trio.result.first t.share1 t.mask1 c.start-trio.ensures.first f.size1 (f.masked one))
    (starts_of l c.start-trio.result.second t.share2 t.mask2 c.start-trio.ensures.second f.size2 (f.masked two))
    (starts_of l c.start-trio.result.third c.lawful-third_shares.result t.mask3 c.start-trio.ensures.third long (f.masked three))

pub returns : goal.returns
returns g c =
    let K = g.K.ElementKind.kind in
    let l = c.args.lock.now in
    let key = c.args.key.now in
    let t = c.args.tape.now in
    let s = c.start-trio.result in
    let there = third_read g.K.ElementKind.kind g.met.K.ElementKind.laws c.args.lock.now c.args.key.now c.args.tape.now c.input_count.result c.write_third_front.new.front
    c.requires.fitting c.input_count.ensures.count c.write_third_front.ensures.front c.write_third_front.ensures.lawful in
    let W : (i : Branch) → wires_on c.start-trio.result i ≡ shares_of (ops_of g.K.ElementKind.kind) c.args.key.now c.args.tape.now.parts i =
    each (λ i. wires_on c.start-trio.result i ≡ shares_of (ops_of g.K.ElementKind.kind) c.args.key.now c.args.tape.now.parts i)
    (ap (λ (r : Running). r.wires) c.start-trio.ensures.first) (ap (λ (r : Running). r.wires) c.start-trio.ensures.second) (ap (λ (r : Running). r.wires) c.start-trio.ensures.third ∙ c.lawful-third_shares.ensures ∙ there) in
    let R : (i : Branch) → masks_on c.start-trio.result i ≡ drawn_masks c.args.tape.now.parts i =
    each (λ i. masks_on c.start-trio.result i ≡ drawn_masks c.args.tape.now.parts i)
    (ap (λ (r : Running). r.masks) c.start-trio.ensures.first) (ap (λ (r : Running). r.masks) c.start-trio.ensures.second) (ap (λ (r : Running). r.masks) c.start-trio.ensures.third) in
    let f1 = c.write_front.ensures ∙ (λ x. c.tape.inside.blind1.now ++ (c.bytes.ensures.bytes x ++ c.bytes-2.ensures.bytes x)) ∙ ap (λ (d : Drawn). d.blind1 ++ (group_bytes K d.parts.share1 ++ group_bytes K d.parts.mask1)) c.tape.view_is in
    let f2 = c.write_front-2.ensures ∙ (λ x. c.tape.inside.blind2.now ++ (c.bytes-3.ensures.bytes x ++ c.bytes-4.ensures.bytes x)) ∙ ap (λ (d : Drawn). d.blind2 ++ (group_bytes K d.parts.share2 ++ group_bytes K d.parts.mask2)) c.tape.view_is in
    let v1 = view_written K l key t s W R one c.write_front.new.front c.run.new.products1 f1 c.run.ensures.products1 in
    let v2 = view_written K l key t s W R two c.write_front-2.new.front c.run.new.products2 f2 c.run.ensures.products2 in
    let v3 = view_written K l key t s W R three c.write_third_front.new.front c.run.new.products3 c.write_third_front.ensures.front c.run.ensures.products3 in
    let o = λ (i : Branch). outs_are K l key t s W R i (wires_on c.run.new.self i) (c.run.ensures.wires i) in
    let n1 : length (c.write_front.new.front ++ c.run.new.products1) ≡ length_of_view g.K.ElementKind.kind c.args.lock.now = search rules in
    let n2 : length (c.write_front-2.new.front ++ c.run.new.products2) ≡ length_of_view g.K.ElementKind.kind c.args.lock.now = search rules in
    let n3 : length (c.write_third_front.new.front ++ c.run.new.products3) ≡ length_of_view g.K.ElementKind.kind c.args.lock.now = search rules in
    record {
      views = λ x. v1 x ++ (v2 x ++ v3 x);
      each = each (λ i. length (view_on K l key t i) ≡ length_of_view K l) (sym (ap length v1) ∙ n1) (sym (ap length v2) ∙ n2) (sym (ap length v3) ∙ n3);
      outs = c.write_outputs.ensures ∙ (λ x. o one x ++ (o two x ++ o three x));
    }
