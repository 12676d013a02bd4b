use Rattle.std.proofs.Common.{sym, ◌∙◌, arith}
use Rattle.whole.proofs.Indices.{every-true, every-false}
use Rattle.whole.proofs.search.every.Goals as goal

pub returns-then-not-test : goal.returns-then-not-test
returns-then-not-test g c = λ t same.
    let k = c.loop-k.k in
    sym (every-false t c.args.n k c.loop-k-test.true (sym (same k c.loop-k-test.true _ c.test.ensures) ∙ c.if-not-test.true))

pub returns : goal.returns
returns g c = λ t same. sym (every-true t c.args.n (λ m l. sym (same m l _ (c.loop-k.invariant m (omega arith)))))
