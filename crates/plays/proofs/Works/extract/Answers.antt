use Rattle.std.proofs.Common.{rules, ◌≡◌, length, vec_len}
use Rattle.plays.proofs.Works.extract.Goals as goal

pub returns : goal.returns
returns g c =
    let one : length c.as_mut_slice-work1.result.now ≡ vec_len c.args.self.now.one = search rules in
    let two : length c.as_mut_slice-work2.result.now ≡ vec_len c.args.self.now.two = search rules in
    rw (← one, ← two) c.extract.ensures.outcome
