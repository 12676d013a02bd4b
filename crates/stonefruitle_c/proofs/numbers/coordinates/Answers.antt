-- A corner's two numbers are the next two of the list.
use Rattle.std.proofs.Common.{◌≡◌, ◌∙◌, refl, ap, arith, rules, pos, ◌++◌, ◌+◌, ◌*◌, ◌-◌, length, get_or, set, replicate, append-nil}
use mir.Syntax.{w64}
use mir.Val.{to_z, of_z}
use Rattle.whole.proofs.Padding.{filled, filled-all, filled-step}
use Rattle.plane.specs.Edges.{corner}
use Rattle.stonefruitle_c.specs.Numbers.{coordinates}
use Rattle.stonefruitle_c.proofs.Listing.{coordinates-x, coordinates-y, coordinates-length}
use Rattle.stonefruitle_c.proofs.numbers.coordinates.Goals as goal

pub loop-k-preserved : goal.loop-k-preserved
loop-k-preserved c =
    let cs = c.args.o.corners in
    let l = coordinates cs in
    let k = c.loop-k.k in
    let x : to_z w64 (of_z w64 (corner cs k).x) ≡ (corner cs k).x = search rules in
    let y : to_z w64 (of_z w64 (corner cs k).y) ≡ (corner cs k).y = search rules in
    let whole : length l ≡ 32 = omega (arith, coordinates-length cs, c.requires.places) in
    let first : set c.loop-k.all (2 * k) (get_or l (2 * k) (pos 0)) ≡ filled l (pos 0) 32 (2 * k + 1) = rw (c.loop-k.invariant) (filled-step l (pos 0) 32 (2 * k) (omega arith) (omega arith)) in
    let second : set (filled l (pos 0) 32 (2 * k + 1)) (2 * k + 1) (get_or l (2 * k + 1) (pos 0)) ≡ filled l (pos 0) 32 (2 * k + 1 + 1) = filled-step l (pos 0) 32 (2 * k + 1) (omega arith) (omega arith) in
    let next : 2 * k + 1 + 1 ≡ 2 * (k + 1) = omega arith in
    rw (x, y, ← coordinates-x cs k, ← coordinates-y cs k, first, second, next) refl

pub returns : goal.returns
returns c =
    let l = coordinates c.args.o.corners in
    let whole : length l ≡ 32 = omega (arith, coordinates-length c.args.o.corners, c.requires.places) in
    let end : 2 * c.loop-k.k ≡ length l = omega arith in
    let full : 32 - length l ≡ 0 = omega arith in
    c.loop-k.invariant ∙ ap (filled l (pos 0) 32) end ∙ filled-all l (pos 0) 32 ∙ ap (λ n. l ++ replicate n (pos 0)) full ∙ append-nil l
