use Rattle.std.proofs.Common.{◌+◌, ◌≤◌, arith, ap, length, length-take}
use Rattle.hexframe.proofs.Holding.{held-more}
use Rattle.hexframe.proofs.bytes.Bytes.extend.Goals as goal

pub invariant_of-self : goal.invariant_of-self
invariant_of-self g c =
    let b = c.self.inside in
    let is = c.self.invariant in
    let room : b.count + length c.args.more.now ≤ g.row.N = omega (arith, length-take b.count b.places, ap length c.self.view_is, is.few, is.places, c.requires) in
    rw c.copy_from_slice.ensures.after (held-more is c.args.more.now room)
