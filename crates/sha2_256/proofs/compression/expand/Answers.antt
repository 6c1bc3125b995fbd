use Rattle.std.proofs.Common.{◌≡◌, ◌-◌, ◌<◌, length, arith}
use Rattle.std.proofs.lemmas.List.{length-set, take_more_set, get_or-take, take_all}
use Rattle.sha2_256.proofs.Steps.{schedule_late}
use Rattle.sha2_256.proofs.compression.expand.Goals as goal

pub loop-t-preserved : goal.loop-t-preserved
loop-t-preserved c =
    let t = c.loop-t.t in
    let w = c.loop-t.w in
    let h : t < length w = omega arith in
    let b = schedule_late t c.args.block.now (omega arith) in
    let g2 = get_or-take t w (t - 2) 0 (omega arith) in
    let g7 = get_or-take t w (t - 7) 0 (omega arith) in
    let g15 = get_or-take t w (t - 15) 0 (omega arith) in
    let g16 = get_or-take t w (t - 16) 0 (omega arith) in
    (simp length-set c.loop-t.invariant.0, simp take_more_set (cc))

pub returns : goal.returns
returns c =
    let e : c.loop-t.t ≡ 64 = omega arith in
    let a = take_all c.loop-t.t c.loop-t.w (omega arith) in
    cc
