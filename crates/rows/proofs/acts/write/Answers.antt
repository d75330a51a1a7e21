use Rattle.std.proofs.Common.{◌≡◌, ◌+◌, ◌-◌, length, arith}
use Rattle.rows.proofs.Overs.{put_mid_over}
use Rattle.rows.proofs.acts.write.Goals as goal

pub returns : goal.returns
returns g c =
    let at = c.args.place in
    let w = c.args.part.now in
    let k : (at + length w) - at ≡ length w = omega arith in
    put_mid_over at ((at + length w) - at) c.args.all.now c.copy_from_slice.new.self w c.copy_from_slice.ensures.after k
