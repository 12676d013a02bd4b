-- Bytes as they are held by value: N places, cleared to zero beforehand, and the count of those used.
--   Held N b      at most N are used, and the unused ones are zero
--   held N l      the places that hold the bytes l
--   held-take     nothing else is held: what is used gives the places back
use Rattle.std.specs.Prelude.{◌≡◌, ℕ, ◌-◌, ◌≤◌, List, ◌++◌, length, take, drop, replicate}
use Rattle.std.proofs.Common.{arith, length-take, take-append-drop}
use Rattle.whole.specs.Padded.{padded}
use Rattle.hexframe.specs.declared.bytes.Bytes.TheInside.{Inside}

pub record Held (N : ℕ) (b : Inside N) : Type 0 where
  pub few : b.count ≤ N
  pub places : length b.places ≡ N
  pub unused : drop b.count b.places ≡ replicate (N - b.count) 0

abbrev pub held : (N : ℕ) → List ℕ → Inside N
held N l = record { places = padded N 0 l; count = length l }

pub held-take : (N : ℕ) (b : Inside N) → Held N b → held N (take b.count b.places) ≡ b
held-take N b h =
    let n : length (take b.count b.places) ≡ b.count = omega (arith, length-take b.count b.places, h.few, h.places) in
    let e : take b.count b.places ++ replicate (N - length (take b.count b.places)) 0 ≡ b.places = rw (n, ← h.unused) (take-append-drop b.count b.places) in
    λ j. record { places = e j; count = n j }
