-- What the machine makes of a limit times a speed, and of a number turned round: both fit, so they are those of the numbers.
use mathlib.Core.Path.{◌≡◌, ◌∙◌, ap}
use mathlib.Core.List.{[], ◌∷◌}
use lib.IntN.{ℤ, pos, nat_abs, neg_ℤ, ◌-ℤ◌, ◌*ℤ◌}
use mir.Syntax.{w64}
use mir.Val.{SFits, to_z, of_z}
use mir.Facts.{to_z-of_z}
use Rattle.whole.specs.Within.{Within}
use Rattle.whole.proofs.Bound.{bounds, fits}
use Rattle.whole.proofs.Casts.{limit-within, limit-times}
use Rattle.whole.proofs.Ring.{reps, by-ring}
use Rattle.span.specs.Lead.{Limited}

pub limit-product : (z w : ℤ) → Limited z → Within 1500000000 w → to_z w64 (of_z w64 (to_z w64 (of_z w64 z) *ℤ to_z w64 (of_z w64 w))) ≡ pos (nat_abs z) *ℤ w
limit-product z w h k =
    let t = limit-within z h in
    limit-times z w (fits (search bounds depth 12) tt) (fits (search bounds depth 12) tt) h.0 (fits (search bounds depth 12) tt)

pub negative : (z : ℤ) → Within 1500000000 z → to_z w64 (of_z w64 (pos 0 -ℤ to_z w64 (of_z w64 z))) ≡ neg_ℤ z
negative z h =
    let f : SFits w64 z = fits (search bounds depth 12) tt in
    let g : SFits w64 (pos 0 -ℤ to_z w64 (of_z w64 z)) = fits (search bounds depth 12) tt in
    to_z-of_z g ∙ ap (λ x. pos 0 -ℤ x) (to_z-of_z f) ∙ by-ring (z ∷ []) (search reps depth 12) (search reps depth 12) tt

pub ruleset products = (limit-product, negative, to_z-of_z)
