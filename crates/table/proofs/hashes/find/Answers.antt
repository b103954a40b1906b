-- `table::hashes::find` meets its contract. The loop keeps that no number before the one it is at passes the test.
use Prim.Native.Nat.{◌+◌}
use native.Mathlib.Omega.{arith}
use lib.ListN.{length}
use Rattle.table.proofs.PlaceLaws.{rest-inside, rest-here, rest-before, rest-none, none-to, none-over, first-some, first-none}
use Rattle.table.proofs.hashes.find.Goals as goal

pub loop-k-init : goal.loop-k-init
loop-k-init g c = (omega arith, c.requires.from_bound, λ j a b e. absurd (omega arith))

pub overflow_add-i : goal.overflow_add-i
overflow_add-i g c = omega (arith, rest-inside c.args.hashes.now _ c.loop-k.from c.loop-k.invariant.1 c.place_of.ensures c.in-Some.is)

pub test-requires : goal.test-requires
test-requires g c =
    c.requires.can_test (c.loop-k.from + c.in-Some.k) (rest-inside c.args.hashes.now _ c.loop-k.from c.loop-k.invariant.1 c.place_of.ensures c.in-Some.is)

pub returns-then-test : goal.returns-then-test
returns-then-test g c =
    let h = c.args.hashes.now in
    let f = c.loop-k.from in
    let b = c.loop-k.invariant.1 in
    let e = c.place_of.ensures in
    first-some (λ i r. goal.F-post g c.args.test i r) h c.args.hash c.args.from (f + c.in-Some.k) (omega arith) (rest-inside h _ f b e c.in-Some.is) (rest-here h _ f b e c.in-Some.is)
    c.if-test.ensures (none-to (λ i r. goal.F-post g c.args.test i r) h c.args.hash c.args.from f (f + c.in-Some.k) c.loop-k.invariant.2 (rest-before h _ f b e c.in-Some.is))

pub overflow_add-from : goal.overflow_add-from
overflow_add-from g c = omega (arith, rest-inside c.args.hashes.now _ c.loop-k.from c.loop-k.invariant.1 c.place_of.ensures c.in-Some.is)

pub loop-k-smaller : goal.loop-k-smaller
loop-k-smaller g c = omega (arith, rest-inside c.args.hashes.now _ c.loop-k.from c.loop-k.invariant.1 c.place_of.ensures c.in-Some.is)

pub loop-k-preserved : goal.loop-k-preserved
loop-k-preserved g c =
    let h = c.args.hashes.now in
    let f = c.loop-k.from in
    let b = c.loop-k.invariant.1 in
    let e = c.place_of.ensures in (
      omega arith,
      omega (arith, rest-inside h _ f b e c.in-Some.is),
      none-over (λ i r. goal.F-post g c.args.test i r) h c.args.hash c.args.from f (f + c.in-Some.k) c.loop-k.invariant.2 (rest-before h _ f b e c.in-Some.is) c.if-test.ensures,
    )

pub returns : goal.returns
returns g c =
    let h = c.args.hashes.now in
    first-none (λ i r. goal.F-post g c.args.test i r) h c.args.hash c.args.from
    (none-to (λ i r. goal.F-post g c.args.test i r) h c.args.hash c.args.from c.loop-k.from (length h) c.loop-k.invariant.2
    (rest-none h _ c.loop-k.from c.loop-k.invariant.1 c.place_of.ensures c.in_default.is))
