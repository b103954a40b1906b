-- `publishing::publish` meets its contract: a law of PublishLaws for each refusal, and the graph's stretch for the page.
use Prim.Native.Nat.{ℕ, ◌<◌}
use native.Mathlib.Omega.{arith}
use Rattle.std.specs.Prelude.{Err}
use Rattle.definitions.specs.Result.{OrRefusal}
use mathlib.Core.Path.{◌≡◌, sym, ap, ◌∙◌}
use mathlib.Core.List.{List, []}
use mathlib.Core.Bool.{true}
use borrow.Author.Rules.{rules}
use Rattle.definitions.specs.Limits.{term_limit}
use Rattle.definitions.specs.Lists.{is_in}
use Rattle.definitions.specs.Calls.{Lent, lengths_of, both_tables_fit}
use Rattle.laws.proofs.Tests.{true_is}
use Rattle.lengths.specs.Lent.{lent_of}
use Rattle.lengths.proofs.TableLaws.{both-fit}
use Rattle.publishing.proofs.PublishLaws.{wrong-length, not_sound, not-fetched, of-page, ranks-unread, below-count}
use Rattle.publishing.proofs.PublishLaws.{Passed, has-passed, graphs-few, terms-few, listed-is, Stretch, graph-stretch}
use Rattle.publishing.proofs.publish.Goals as goal

pub returns-then-not-both_fit : goal.returns-then-not-both_fit
returns-then-not-both_fit c =
    let lent_at : Lent = lent_of [] c.args.terms.now c.args.schema.now c.args.script.now c.args.table.now c.args.store.now in
    λ ranks. ranks-unread ranks [] _ _ _ _ _ _ _ _
    ∙ wrong-length lent_at c.args.saved c.args.graph c.args.out.now (sym c.both_fit.ensures ∙ c.if-not-both_fit.true)

pub sound-requires : goal.sound-requires
sound-requires c =
    let lent_at : Lent = lent_of [] c.args.terms.now c.args.schema.now c.args.script.now c.args.table.now c.args.store.now in
    let fits : both_tables_fit (lengths_of lent_at) ≡ true = sym c.both_fit.ensures ∙ c.if-not-both_fit.false in
    let w = both-fit (lengths_of lent_at) (true_is _ fits) in record { table_len = w.0; store_len = w.1; keys_len = search rules; leasts_len = search rules }

pub returns-in_err-entered : goal.returns-in_err-entered
returns-in_err-entered c =
    let lent_at : Lent = lent_of [] c.args.terms.now c.args.schema.now c.args.script.now c.args.table.now c.args.store.now in
    let fits : both_tables_fit (lengths_of lent_at) ≡ true = sym c.both_fit.ensures ∙ c.if-not-both_fit.false in
    λ ranks. ranks-unread ranks [] _ _ _ _ _ _ _ _ ∙ not_sound lent_at c.args.saved c.args.graph c.args.out.now fits (c.in_err-entered.ensures [])
    ∙ ap (λ (r : OrRefusal ℕ). record { returned = r; page = c.args.out.now }) (let e : ◌≡◌ {A = OrRefusal ℕ} (Err c.in_err-entered.field-0.0) c.from_residual.result = sym (search rules) in e)

pub is_listed-requires : goal.is_listed-requires
is_listed-requires c =
    let lent_at : Lent = lent_of [] c.args.terms.now c.args.schema.now c.args.script.now c.args.table.now c.args.store.now in
    let fits : both_tables_fit (lengths_of lent_at) ≡ true = sym c.both_fit.ensures ∙ c.if-not-both_fit.false in
    let keys : List ℕ = c.sound.new.keys in
    let leasts : List ℕ = c.sound.new.leasts in
    let passed : Passed lent_at c.args.saved c.in_ok-entered.entered keys leasts =
    has-passed lent_at c.args.saved fits (λ k. omega (arith, c.type_inv.table k)) (c.in_ok-entered.ensures []) in
    record { graphs_le_graph_limit = graphs-few passed; count_le_term_limit = terms-few passed }

pub returns-then-not-is_listed : goal.returns-then-not-is_listed
returns-then-not-is_listed c =
    let lent_at : Lent = lent_of [] c.args.terms.now c.args.schema.now c.args.script.now c.args.table.now c.args.store.now in
    let fits : both_tables_fit (lengths_of lent_at) ≡ true = sym c.both_fit.ensures ∙ c.if-not-both_fit.false in
    let keys : List ℕ = c.sound.new.keys in
    let leasts : List ℕ = c.sound.new.leasts in
    let passed : Passed lent_at c.args.saved c.in_ok-entered.entered keys leasts =
    has-passed lent_at c.args.saved fits (λ k. omega (arith, c.type_inv.table k)) (c.in_ok-entered.ensures []) in
    let w = passed in
    λ ranks. ranks-unread ranks [] _ _ _ _ _ _ _ _
    ∙ not-fetched lent_at c.args.saved c.args.graph c.args.out.now w.fits w.found w.passes
    (sym (listed-is w c.args.graph c.is_listed.ensures) ∙ c.if-not-is_listed.true)

pub overflow_mul-first : goal.overflow_mul-first
overflow_mul-first c =
    let lent_at : Lent = lent_of [] c.args.terms.now c.args.schema.now c.args.script.now c.args.table.now c.args.store.now in
    let fits : both_tables_fit (lengths_of lent_at) ≡ true = sym c.both_fit.ensures ∙ c.if-not-both_fit.false in
    let keys : List ℕ = c.sound.new.keys in
    let leasts : List ℕ = c.sound.new.leasts in
    let passed : Passed lent_at c.args.saved c.in_ok-entered.entered keys leasts =
    has-passed lent_at c.args.saved fits (λ k. omega (arith, c.type_inv.table k)) (c.in_ok-entered.ensures []) in
    let small : c.args.graph < term_limit =
    let b : c.args.graph < c.in_ok-entered.entered.count = below-count _ _ _ c.is_listed.ensures c.if-not-is_listed.false in
    omega (arith, b, terms-few passed) in
    omega (arith, small)

pub overflow_add-last : goal.overflow_add-last
overflow_add-last c =
    let lent_at : Lent = lent_of [] c.args.terms.now c.args.schema.now c.args.script.now c.args.table.now c.args.store.now in
    let fits : both_tables_fit (lengths_of lent_at) ≡ true = sym c.both_fit.ensures ∙ c.if-not-both_fit.false in
    let keys : List ℕ = c.sound.new.keys in
    let leasts : List ℕ = c.sound.new.leasts in
    let passed : Passed lent_at c.args.saved c.in_ok-entered.entered keys leasts =
    has-passed lent_at c.args.saved fits (λ k. omega (arith, c.type_inv.table k)) (c.in_ok-entered.ensures []) in
    let small : c.args.graph < term_limit =
    let b : c.args.graph < c.in_ok-entered.entered.count = below-count _ _ _ c.is_listed.ensures c.if-not-is_listed.false in
    omega (arith, b, terms-few passed) in
    omega (arith, small)

pub lower-low-requires : goal.lower-low-requires
lower-low-requires c =
    let lent_at : Lent = lent_of [] c.args.terms.now c.args.schema.now c.args.script.now c.args.table.now c.args.store.now in
    let fits : both_tables_fit (lengths_of lent_at) ≡ true = sym c.both_fit.ensures ∙ c.if-not-both_fit.false in
    let keys : List ℕ = c.sound.new.keys in
    let leasts : List ℕ = c.sound.new.leasts in
    let passed : Passed lent_at c.args.saved c.in_ok-entered.entered keys leasts =
    has-passed lent_at c.args.saved fits (λ k. omega (arith, c.type_inv.table k)) (c.in_ok-entered.ensures []) in
    let w = passed in record { n_in_bounds = (w.finds.lent 0).stored.room; keys_value = (w.finds.lent 0).stored.rises }

pub upper-high-requires : goal.upper-high-requires
upper-high-requires c =
    let lent_at : Lent = lent_of [] c.args.terms.now c.args.schema.now c.args.script.now c.args.table.now c.args.store.now in
    let fits : both_tables_fit (lengths_of lent_at) ≡ true = sym c.both_fit.ensures ∙ c.if-not-both_fit.false in
    let keys : List ℕ = c.sound.new.keys in
    let leasts : List ℕ = c.sound.new.leasts in
    let passed : Passed lent_at c.args.saved c.in_ok-entered.entered keys leasts =
    has-passed lent_at c.args.saved fits (λ k. omega (arith, c.type_inv.table k)) (c.in_ok-entered.ensures []) in
    let w = passed in record { n_in_bounds = (w.finds.lent 0).stored.room; keys_value = (w.finds.lent 0).stored.rises }

pub slice_bounds-publish_keys-count : goal.slice_bounds-publish_keys-count
slice_bounds-publish_keys-count c =
    let lent_at : Lent = lent_of [] c.args.terms.now c.args.schema.now c.args.script.now c.args.table.now c.args.store.now in
    let fits : both_tables_fit (lengths_of lent_at) ≡ true = sym c.both_fit.ensures ∙ c.if-not-both_fit.false in
    let keys : List ℕ = c.sound.new.keys in
    let leasts : List ℕ = c.sound.new.leasts in
    let passed : Passed lent_at c.args.saved c.in_ok-entered.entered keys leasts =
    has-passed lent_at c.args.saved fits (λ k. omega (arith, c.type_inv.table k)) (c.in_ok-entered.ensures []) in
    let own : Stretch c.args.table.now keys c.args.graph c.lower-low.result c.upper-high.result passed.found.state.store =
    graph-stretch passed c.args.graph c.lower-low.ensures.splits c.upper-high.ensures.splits in
    omega (arith, own.ordered)

pub slice_bounds-keys-start : goal.slice_bounds-keys-start
slice_bounds-keys-start c =
    let lent_at : Lent = lent_of [] c.args.terms.now c.args.schema.now c.args.script.now c.args.table.now c.args.store.now in
    let fits : both_tables_fit (lengths_of lent_at) ≡ true = sym c.both_fit.ensures ∙ c.if-not-both_fit.false in
    let keys : List ℕ = c.sound.new.keys in
    let leasts : List ℕ = c.sound.new.leasts in
    let passed : Passed lent_at c.args.saved c.in_ok-entered.entered keys leasts =
    has-passed lent_at c.args.saved fits (λ k. omega (arith, c.type_inv.table k)) (c.in_ok-entered.ensures []) in
    let own : Stretch c.args.table.now keys c.args.graph c.lower-low.result c.upper-high.result passed.found.state.store =
    graph-stretch passed c.args.graph c.lower-low.ensures.splits c.upper-high.ensures.splits in
    omega (arith, own.ordered, own.within)

pub slice_bounds-keys-end : goal.slice_bounds-keys-end
slice_bounds-keys-end c =
    let lent_at : Lent = lent_of [] c.args.terms.now c.args.schema.now c.args.script.now c.args.table.now c.args.store.now in
    let fits : both_tables_fit (lengths_of lent_at) ≡ true = sym c.both_fit.ensures ∙ c.if-not-both_fit.false in
    let keys : List ℕ = c.sound.new.keys in
    let leasts : List ℕ = c.sound.new.leasts in
    let passed : Passed lent_at c.args.saved c.in_ok-entered.entered keys leasts =
    has-passed lent_at c.args.saved fits (λ k. omega (arith, c.type_inv.table k)) (c.in_ok-entered.ensures []) in
    let own : Stretch c.args.table.now keys c.args.graph c.lower-low.result c.upper-high.result passed.found.state.store =
    graph-stretch passed c.args.graph c.lower-low.ensures.splits c.upper-high.ensures.splits in
    omega (arith, own.ordered, own.within)

pub publish_keys-requires : goal.publish_keys-requires
publish_keys-requires c =
    let lent_at : Lent = lent_of [] c.args.terms.now c.args.schema.now c.args.script.now c.args.table.now c.args.store.now in
    let fits : both_tables_fit (lengths_of lent_at) ≡ true = sym c.both_fit.ensures ∙ c.if-not-both_fit.false in
    let keys : List ℕ = c.sound.new.keys in
    let leasts : List ℕ = c.sound.new.leasts in
    let passed : Passed lent_at c.args.saved c.in_ok-entered.entered keys leasts =
    has-passed lent_at c.args.saved fits (λ k. omega (arith, c.type_inv.table k)) (c.in_ok-entered.ensures []) in
    let own : Stretch c.args.table.now keys c.args.graph c.lower-low.result c.upper-high.result passed.found.state.store =
    graph-stretch passed c.args.graph c.lower-low.ensures.splits c.upper-high.ensures.splits in
    let w = own in record { keys_value = w.inside; keys_len_bound = w.few }

pub returns : goal.returns
returns c =
    let lent_at : Lent = lent_of [] c.args.terms.now c.args.schema.now c.args.script.now c.args.table.now c.args.store.now in
    let fits : both_tables_fit (lengths_of lent_at) ≡ true = sym c.both_fit.ensures ∙ c.if-not-both_fit.false in
    let keys : List ℕ = c.sound.new.keys in
    let leasts : List ℕ = c.sound.new.leasts in
    let passed : Passed lent_at c.args.saved c.in_ok-entered.entered keys leasts =
    has-passed lent_at c.args.saved fits (λ k. omega (arith, c.type_inv.table k)) (c.in_ok-entered.ensures []) in
    let listed : is_in c.args.graph passed.found.state.store.fetched ≡ true = sym (listed-is passed c.args.graph c.is_listed.ensures) ∙ c.if-not-is_listed.false in
    let own : Stretch c.args.table.now keys c.args.graph c.lower-low.result c.upper-high.result passed.found.state.store =
    graph-stretch passed c.args.graph c.lower-low.ensures.splits c.upper-high.ensures.splits in
    let w = passed in
    λ ranks. ranks-unread ranks [] _ _ _ _ _ _ _ _
    ∙ (of-page lent_at c.args.saved c.args.graph c.args.out.now w.fits w.found w.passes listed own.page ∙ c.publish_keys.ensures)
