-- The tests are made in the order of the reasons; each answer is the one that their outcomes give.
use Rattle.std.proofs.Common.{◌≡◌, sym, ◌∙◌, ap, true, false, ◌&&◌, arith, rules, length, w64, to_z, of_z, Err}
use Rattle.whole.proofs.Flags.{and-false, and-true}
use Rattle.outline.specs.Refusal.{counted, placed}
use Rattle.outline.specs.Held.{Held, corners_held}
use Rattle.outline.specs.declared.Refusal.TheVariants.{FirstUnsound, SecondUnsound}
use Rattle.outline.proofs.Naming.{name-yes, name-no}
use Rattle.outline.proofs.Places.{held-name-small}
use Rattle.outline.proofs.Ranges.{counted-yes}
use Rattle.outline.proofs.Testing.{padded-held}
use Rattle.moves.specs.HeldMove.{move_held, held_move}
use Rattle.moves.specs.Refusal.{limited}
use Rattle.moves.specs.declared.HeldMove.{HeldMove}
use Rattle.moves.proofs.Refusing.{refusal-limit, refusal-speed, refusal-place, refusal-first, refusal-second, refusal-none}
use Rattle.moves.proofs.refusals.check.Goals as goal
use Rattle.moves.proofs.refusals.check.Goals.{then-not-is_placed-via-then-not-is_placed, then-not-is_placed-via-else-not-is_placed+then-not-is_placed-2}

-- the count of an outline whose unused places are zero is the length of its corners
module _ (m : HeldMove) (is : m ≡ held_move (move_held m)) (ha : counted m.a.count ≡ true) (hb : counted m.b.count ≡ true) where
  count-a : counted (length (move_held m).a) ≡ true
  count-a = ap counted (sym (ap (λ x. x.a.count) is)) ∙ ha

  count-b : counted (length (move_held m).b) ≡ true
  count-b = ap counted (sym (ap (λ x. x.b.count) is)) ∙ hb

  held-a : placed (corners_held m.a) ≡ true → Held m.a
  held-a = padded-held m.a (ap (λ x. x.a) is) (counted-yes _ ha).1

  held-b : placed (corners_held m.b) ≡ true → Held m.b
  held-b = padded-held m.b (ap (λ x. x.b) is) (counted-yes _ hb).1

pub returns-then-not-is_limited : goal.returns-then-not-is_limited
returns-then-not-is_limited c =
    let m = c.args.m in
    let read : to_z w64 (of_z w64 m.limit) ≡ m.limit = search rules in
    let h = c.requires in
    sym (refusal-limit (move_held m) (count-a m h.padded h.counted_a h.counted_b) (count-b m h.padded h.counted_a h.counted_b) (sym (c.if-not-is_limited.ensures ∙ ap limited read)))

pub returns-then-not-are_near : goal.returns-then-not-are_near
returns-then-not-are_near c =
    let m = c.args.m in
    let read : to_z w64 (of_z w64 m.limit) ≡ m.limit = search rules in
    let h = c.requires in
    sym (refusal-speed (move_held m) (count-a m h.padded h.counted_a h.counted_b) (count-b m h.padded h.counted_a h.counted_b) (sym (c.if-not-is_limited.ensures ∙ ap limited read)) (sym c.if-not-are_near.ensures))

pub returns-then-not-is_placed : goal.returns-then-not-is_placed
returns-then-not-is_placed c =
    let m = c.args.m in
    let read : to_z w64 (of_z w64 m.limit) ≡ m.limit = search rules in
    let h = c.requires in
    let p : (placed (corners_held m.a) && placed (corners_held m.b)) ≡ false = elim c.then-not-is_placed.branch [
      | then-not-is_placed-via-then-not-is_placed w ↦ sym (and-false _ _ (sym w.if-not-is_placed.ensures))
      | then-not-is_placed-via-else-not-is_placed+then-not-is_placed-2 w ↦ sym (and-true _ _ (sym w.if-not-is_placed.ensures)) ∙ sym w.if-not-is_placed-2.ensures
    ] in
    sym (refusal-place (move_held m) (count-a m h.padded h.counted_a h.counted_b) (count-b m h.padded h.counted_a h.counted_b) (sym (c.if-not-is_limited.ensures ∙ ap limited read)) (sym c.if-not-are_near.ensures) p)

pub bad_edge-requires : goal.bad_edge-requires
bad_edge-requires c =
    let h = c.requires in
    held-a c.args.m h.padded h.counted_a h.counted_b (sym c.if-not-is_placed.ensures)

pub overflow_cast-result : goal.overflow_cast-result
overflow_cast-result c =
    let h = c.requires in
    let held = held-a c.args.m h.padded h.counted_a h.counted_b (sym c.if-not-is_placed.ensures) in
    omega (arith, held-name-small c.args.m.a held.kept c.in-Some.edge (sym c.in-Some.ensures))

pub returns-in-Some : goal.returns-in-Some
returns-in-Some c =
    let m = c.args.m in
    let read : to_z w64 (of_z w64 m.limit) ≡ m.limit = search rules in
    let h = c.requires in
    let e = name-yes (corners_held m.a) c.in-Some.edge (sym c.in-Some.ensures) in
    ap (λ k. Err (FirstUnsound k)) e.1 ∙ sym (refusal-first (move_held m) (count-a m h.padded h.counted_a h.counted_b) (count-b m h.padded h.counted_a h.counted_b) (sym (c.if-not-is_limited.ensures ∙ ap limited read)) (sym c.if-not-are_near.ensures) (sym c.if-not-is_placed.ensures) (sym c.if-not-is_placed-2.ensures) e.0)

pub bad_edge-requires-2 : goal.bad_edge-requires-2
bad_edge-requires-2 c =
    let h = c.requires in
    held-b c.args.m h.padded h.counted_a h.counted_b (sym c.if-not-is_placed-2.ensures)

-- the count of A, which the edit edge_of_a_with_nine puts in the place of the edge, would fit too: that it is no edge of B is told below
pub overflow_cast-result-in-Some-bad_edge : goal.overflow_cast-result-in-Some-bad_edge
overflow_cast-result-in-Some-bad_edge c =
    let h = c.requires in
    let held = held-b c.args.m h.padded h.counted_a h.counted_b (sym c.if-not-is_placed-2.ensures) in
    omega (arith, counted-yes _ h.counted_a, held-name-small c.args.m.b held.kept c.in-Some-bad_edge.edge (sym c.in-Some-bad_edge.ensures))

pub returns-in-Some-bad_edge : goal.returns-in-Some-bad_edge
returns-in-Some-bad_edge c =
    let m = c.args.m in
    let read : to_z w64 (of_z w64 m.limit) ≡ m.limit = search rules in
    let h = c.requires in
    let e = name-yes (corners_held m.b) c.in-Some-bad_edge.edge (sym c.in-Some-bad_edge.ensures) in
    ap (λ k. Err (SecondUnsound k)) e.1 ∙ sym (refusal-second (move_held m) (count-a m h.padded h.counted_a h.counted_b) (count-b m h.padded h.counted_a h.counted_b) (sym (c.if-not-is_limited.ensures ∙ ap limited read)) (sym c.if-not-are_near.ensures) (sym c.if-not-is_placed.ensures) (sym c.if-not-is_placed-2.ensures) (name-no (corners_held m.a) (sym c.in_default.ensures)) e.0)

pub returns : goal.returns
returns c =
    let m = c.args.m in
    let read : to_z w64 (of_z w64 m.limit) ≡ m.limit = search rules in
    let h = c.requires in
    sym (refusal-none (move_held m) (count-a m h.padded h.counted_a h.counted_b) (count-b m h.padded h.counted_a h.counted_b) (sym (c.if-not-is_limited.ensures ∙ ap limited read)) (sym c.if-not-are_near.ensures) (sym c.if-not-is_placed.ensures) (sym c.if-not-is_placed-2.ensures) (name-no (corners_held m.a) (sym c.in_default.ensures)) (name-no (corners_held m.b) (sym c.in_default-bad_edge.ensures)))
