-- Bytes stored behind those that are used leave the rest unused.
use Rattle.std.proofs.Common.{◌≡◌, ◌∙◌, ℕ, ◌+◌, ◌-◌, ◌≤◌, List, ◌++◌, length, take, drop, replicate, arith, ap, sym, length-take, length-append, append_assoc}
use borrow.Rule.Slice.PartMut.{put_mid}
use Rattle.std.proofs.lemmas.List.{drop-replicate, drop_at, length-replicate}
use Rattle.hexframe.specs.Held.{Held}
use Rattle.hexframe.specs.declared.bytes.Bytes.TheInside.{Inside}

module _ {N : ℕ} {b : Inside N} (is : Held N b) (more : List ℕ) (room : b.count + length more ≤ N) where
  abbrev used : List ℕ
  used = take b.count b.places ++ more

  used-length : length used ≡ b.count + length more
  used-length = omega (arith, length-append (take b.count b.places) more, length-take b.count b.places, is.few, is.places)

  rest : drop (b.count + length more - b.count) (drop b.count b.places) ≡ replicate (N - (b.count + length more)) 0
  rest =
      let fewer : N - b.count - (b.count + length more - b.count) ≡ N - (b.count + length more) = omega arith in
      ap (drop (b.count + length more - b.count)) is.unused ∙ drop-replicate (b.count + length more - b.count) (N - b.count) 0 ∙ ap (λ (n : ℕ). replicate n 0) fewer

  -- the places afterwards
  stored : put_mid b.count (b.count + length more - b.count) b.places more ≡ used ++ replicate (N - (b.count + length more)) 0
  stored = ap (λ (r : List ℕ). take b.count b.places ++ (more ++ r)) rest ∙ sym (append_assoc (take b.count b.places) more (replicate (N - (b.count + length more)) 0))

  pub held-more : Held N (record { places = put_mid b.count (b.count + length more - b.count) b.places more; count = b.count + length more })
  held-more =
      let zeros : List ℕ = replicate (N - (b.count + length more)) 0 in
      record {
        few = room;
        places = rw stored (omega (arith, length-append used zeros, used-length, length-replicate {A = ℕ} (N - (b.count + length more)) 0));
        unused = rw stored (drop_at used zeros (b.count + length more) used-length);
      }
