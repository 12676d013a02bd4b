-- Refusals by their numbers, and answers by whether they are one.
use Rattle.std.proofs.Common.{◌≡◌, refl, ℕ, Bool, true, false, cond, eqb, arith, None, Some, Ok, Err, ◌≢◌}
use borrow.Author.Tests.{eq-eqb, ne_eqb}
use Rattle.outline.specs.Refusal.{number_in, edge_in, plain, unless, refusal_of}
use Rattle.outline.specs.declared.Refusal.{Refusal}

-- a refusal that is given by its number alone has that number, and carries no edge
pub number-plain : (r : ℕ) → number_in (plain r) ≡ r
number-plain r = grind arith

pub edge-plain : (r : ℕ) → edge_in (plain r) ≡ None
edge-plain r = grind arith

module _ {A : Type 0} (r : ℕ) (why : Refusal) (x : A) where
  pub unless-none : r ≡ 0 → unless r why x ≡ Ok x
  unless-none e = simp (eq-eqb r 0 e)

  pub unless-some : r ≢ 0 → unless r why x ≡ Err why
  unless-some n = simp (ne_eqb r 0 n)

  -- what an answer says of the number
  pub unless-ok : {y : A} → unless r why x ≡ Ok y → (r ≡ 0) × (y ≡ x)
  unless-ok e = (grind arith, grind arith)

  pub unless-err : {e : Refusal} → unless r why x ≡ Err e → (r ≢ 0) × (e ≡ why)
  unless-err e = ((λ z. grind arith), grind arith)

  pub unless-refusal : refusal_of (unless r why x) ≡ cond (eqb r 0) None (Some why)
  unless-refusal = go (eqb r 0)
    where
      go : (t : Bool) → refusal_of (cond t (Ok x) (Err why)) ≡ cond t None (Some why)
      go true = refl
      go false = refl
