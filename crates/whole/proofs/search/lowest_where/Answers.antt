use Rattle.std.proofs.Common.{sym, ◌∙◌, arith}
use Rattle.whole.proofs.Indices.{lowest_if-is, lowest_if-none}
use Rattle.whole.proofs.search.lowest_where.Goals as goal

pub returns-then-test : goal.returns-then-test
returns-then-test g c = λ t same.
    let k = c.loop-k.k in
    sym (lowest_if-is t c.args.n k c.loop-k-test.true (sym (same k c.loop-k-test.true _ c.test.ensures) ∙ c.if-test.true) (λ m l. sym (same m (omega arith) _ (c.loop-k.invariant m l))))

pub returns : goal.returns
returns g c = λ t same. sym (lowest_if-none t c.args.n (λ m l. sym (same m l _ (c.loop-k.invariant m (omega arith)))))
