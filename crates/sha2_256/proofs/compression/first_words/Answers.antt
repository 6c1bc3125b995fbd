use Rattle.std.proofs.Common.{◌≡◌, ◌<◌, length, sym, ◌∙◌, arith}
use Rattle.std.proofs.lemmas.List.{take_more_set, take_at, take_all}
use Rattle.sha2_256.proofs.Steps.{schedule_none, schedule_early}
use Rattle.sha2_256.proofs.compression.first_words.Goals as goal

pub loop-t-init : goal.loop-t-init
loop-t-init c = sym (schedule_none c.args.block.now)

pub loop-t-preserved : goal.loop-t-preserved
loop-t-preserved c =
    let h : c.loop-t.t < length c.loop-t.word-items = omega arith in
    let a = take_more_set c.loop-t.word-items c.loop-t.t c.read.result h in
    let b = schedule_early c.loop-t.t c.args.block.now (omega arith) in
    cc

pub returns : goal.returns
returns c =
    let e : c.loop-t.t ≡ 16 = omega arith in
    let a = take_all 16 c.loop-t.word-items (omega arith) in
    take_at c.loop-t.word-items _ 16 c.loop-t.auto.word-items ∙ (cc)
