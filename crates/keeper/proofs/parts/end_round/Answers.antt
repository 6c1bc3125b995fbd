use Rattle.std.proofs.Common.{◌≡◌, ℕ, ◌+◌, ◌*◌, ◌≤◌, length, replicate, ap, ◌∙◌, arith}
use lib.ListN.{length-replicate}
use Rattle.theory.specs.Store.{put}
use Rattle.keeper.proofs.Rooms.{put_mid_lem, long}
use Rattle.keeper.proofs.parts.end_round.Goals as goal

pub returns : goal.returns
returns c =
    let at = c.round_start-start.result in
    let n = 3 * c.args.view_length in
    let room : c.round_start-start.result + 3 * c.args.view_length ≤ length c.args.store.now = omega (arith, c.round_start-start.ensures, c.requires.placed.room) in
    let zeros : c.clear.new.work ≡ replicate (3 * c.args.view_length) 0 = c.clear.ensures ∙ ap (λ (m : ℕ). replicate m 0) (long c.round_start-start.result (3 * c.args.view_length) c.args.store.now room) in
    put_mid_lem c.round_start-start.result (3 * c.args.view_length) c.args.store.now c.clear.new.work (replicate (3 * c.args.view_length) 0) zeros (length-replicate (3 * c.args.view_length) 0)
    ∙ ap (λ (m : ℕ). put c.args.store.now m (replicate (3 * c.args.view_length) 0)) c.round_start-start.ensures
