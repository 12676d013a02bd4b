-- Sides below A's count are those of A's own edges, the others those of B's, counted on from A's last.
use Rattle.std.proofs.Common.{arith, ◌≡◌, sym, ◌∙◌, ap, ℕ, ◌-◌, ◌<◌, ◌≤◌}
use Rattle.plane.specs.Point.{side}
use Rattle.plane.specs.Edges.{edge}
use Rattle.outline.specs.Held.{corners_held}
use Rattle.outline.specs.Tested.{interval, own_side}
use Rattle.outline.specs.declared.OwnSide.{OwnSide}
use Rattle.outline.specs.declared.Interval.{Interval}
use Rattle.outline.proofs.Places.{held-length}
use Rattle.outline.proofs.HeldSizes.{held-side}
use Rattle.moves.specs.HeldMove.{Fit, move_held}
use Rattle.moves.specs.declared.HeldMove.{HeldMove}
use Rattle.verdict.specs.Projections.{projections}
use Rattle.verdict.specs.declared.spans.Projections.{Projections}
use Rattle.verdict.proofs.SideOf.{side-of-a, side-of-b}
use Rattle.verdict.proofs.FitSpans.{side_count-is}
use Rattle.verdict.proofs.spans.on_side.Given.{Over}
use Rattle.verdict.proofs.spans.on_side.Goals as goal
use Rattle.verdict.proofs.spans.on_side.Goals.{Joined-k-m, then-k-m, else-k-m}

-- the side that one outline gives as its own, with the interval of the other across from it
module _ (m : HeldMove) (f : Fit m) (k : ℕ) (own : OwnSide) (across : Interval) where
  of-a : k < m.a.count → own ≡ own_side (corners_held m.a) k → across ≡ interval own.d (corners_held m.b) → ◌≡◌ {A = Projections} (record { d = own.d; a = own.on; b = across }) (projections (move_held m) k)
  of-a h is met =
      let A = corners_held m.a in
      let B = corners_held m.b in
      ap (λ b. record { d = own.d; a = own.on; b = b }) met
      ∙ ap (λ x. record { d = x.d; a = x.on; b = interval x.d B }) is
      ∙ ap (λ d. record { d = d; a = interval d A; b = interval d B }) (sym (side-of-a (move_held m) k (omega (arith, held-length m.a f.held_a.kept))))

  of-b : m.a.count ≤ k → own ≡ own_side (corners_held m.b) (k - m.a.count) → across ≡ interval own.d (corners_held m.a) → ◌≡◌ {A = Projections} (record { d = own.d; a = across; b = own.on }) (projections (move_held m) k)
  of-b h is met =
      let A = corners_held m.a in
      let B = corners_held m.b in
      let count = held-length m.a f.held_a.kept in
      ap (λ a. record { d = own.d; a = a; b = own.on }) met
      ∙ ap (λ x. record { d = x.d; a = interval x.d A; b = x.on }) is
      ∙ ap (λ d. record { d = d; a = interval d A; b = interval d B }) (sym (side-of-b (move_held m) k (omega (arith, count)) ∙ ap (λ n. side (edge B (k - n))) count))

pub project-requires-clause-direction : goal.project-requires-clause-direction
project-requires-clause-direction g c = rw c.own_side-own.ensures (held-side c.args.m.now.a c.requires.fit.held_a c.args.k c.if-k-m.true)

pub project-requires-else-k-m-clause-direction : goal.project-requires-else-k-m-clause-direction
project-requires-else-k-m-clause-direction g c =
    let m = c.args.m.now in
    rw c.own_side-own-else-k-m.ensures (held-side m.b c.requires.fit.held_b (c.args.k - m.a.count) (omega (arith, side_count-is m c.requires.fit)))

module _ (g : Over) (c : Joined-k-m g) where
  joined : c.if-k-m.side ≡ projections (move_held c.args.m.now) c.args.k
  joined =
      elim c.if-k-m.branch [
        | then-k-m w ↦ w.side-is ∙ of-a c.args.m.now c.requires.fit c.args.k w.own_side-own.result w.project.result w.if-k-m.true w.own_side-own.ensures w.project.ensures
        | else-k-m w ↦ w.side-is ∙ of-b c.args.m.now c.requires.fit c.args.k w.own_side-own-else-k-m.result w.project-else-k-m.result w.if-k-m.false w.own_side-own-else-k-m.ensures w.project-else-k-m.ensures
      ]

pub work-requires : goal.work-requires
work-requires g c = rw (joined g c) c.requires.work

pub returns : goal.returns
returns g c = rw (joined g c.before) at c.work.ensures
