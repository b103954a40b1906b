-- A law of EnteringLaws for each refusal, and the lines of what was entered.
use native.Mathlib.Omega.{arith}
use mathlib.Core.Path.{◌≡◌, refl, sym, ◌∙◌}
use lib.ListN.{length}
use Rattle.definitions.specs.Limits.{variable_limit, graph_limit, depth_limit}
use Rattle.definitions.specs.Calls.{Lent, lengths_of, lengths_fit}
use Rattle.laws.proofs.Tests.{is_true}
use Rattle.layout.proofs.ReadLaws.{read_none, read_some}
use Rattle.lengths.specs.Lent.{lent_of}
use Rattle.lengths.proofs.TableLaws.{fit-ranks}
use Rattle.entry.proofs.PassedLaws.{length-mapped, stack-low, script-short}
use Rattle.output.proofs.WritingLaws.{written_as}
use Rattle.saved_tuples.proofs.EnteringLaws.{no-saved, not_in, bad-now, lends-now, lines_now}
use borrow.Author.Rules.{rules}
use Rattle.saved_tuples.proofs.put_entered.Goals as goal

pub read_saved-read-requires : goal.read_saved-read-requires
read_saved-read-requires c =
    c.requires.saved_len

pub unread_refusal-requires : goal.unread_refusal-requires
unread_refusal-requires c =
    let lent_at : Lent = lent_of c.args.ranks.now c.args.terms.now c.args.schema.now c.args.script.now c.args.table.now c.args.store.now in
    fit-ranks (lengths_of lent_at) refl (is_true (lengths_fit lent_at) c.requires.t)

pub put_refused-requires : goal.put_refused-requires
put_refused-requires c =
    c.requires.line_room_in_bounds

pub returns-then-not-read : goal.returns-then-not-read
returns-then-not-read c =
    record { written = written_as c.put_refused.ensures.written (no-saved _ _ _ c.args.tuples.now (read_none _ _ c.read_saved-read.ensures c.if-not-read.true) c.unread_refusal.ensures); upper_bound = omega (arith, c.put_refused.ensures.upper_bound, c.requires.line_room_in_bounds) }

pub put_refused-requires-in-Err : goal.put_refused-requires-in-Err
put_refused-requires-in-Err c =
    c.requires.line_room_in_bounds

pub returns-in-Err : goal.returns-in-Err
returns-in-Err c =
    record {
      written = written_as c.put_refused-in-Err.ensures.written
          (not_in _ _ _ c.args.tuples.now c.requires.t _ (read_some _ _ c.read_saved-read.ensures c.if-not-read.false) c.in-Err.ensures);
      upper_bound = omega (arith, c.put_refused-in-Err.ensures.upper_bound, c.requires.line_room_in_bounds);
    }

pub put_refused-requires-then-not-is_date_time : goal.put_refused-requires-then-not-is_date_time
put_refused-requires-then-not-is_date_time c =
    c.requires.line_room_in_bounds

pub returns-then-not-is_date_time : goal.returns-then-not-is_date_time
returns-then-not-is_date_time c =
    let x = c.in-Ok.ensures in record {
      written = written_as c.put_refused-then-not-is_date_time.ensures.written
          (bad-now _ _ _ c.args.tuples.now c.requires.t _ (read_some _ _ c.read_saved-read.ensures c.if-not-read.false)
          x.0 x.1 (sym c.is_date_time.ensures ∙ c.if-not-is_date_time.true));
      upper_bound = omega (arith, c.put_refused-then-not-is_date_time.ensures.upper_bound, c.requires.line_room_in_bounds);
    }

pub canonical_control-clean-requires : goal.canonical_control-clean-requires
canonical_control-clean-requires c =
    let x = c.in-Ok.ensures in stack-low _ _ _ _ _ _ _ x.0 x.1

pub fill_ends-requires : goal.fill_ends-requires
fill_ends-requires c =
    let x = c.in-Ok.ensures in
    record { script_in_bounds = script-short _ _ _ _ _ _ _ x.0 x.1; ends_len_bound = omega arith }

pub invariant_of-view : goal.invariant_of-view
invariant_of-view c = record { ends_lent = c.fill_ends.ensures }

pub put_lines-requires : goal.put_lines-requires
put_lines-requires c =
    let marks : length c.read_saved-read.result.saved.control.bound ≡ variable_limit = search rules in
    let graphs : length c.read_saved-read.result.saved.store.fetched ≡ graph_limit = search rules in
    let levels : length c.read_saved-read.result.saved.control.items ≡ depth_limit = search (length-mapped, rules) in
    let x = c.in-Ok.ensures in record {
      lends = lends-now _ _ _ _ _ _ _ x.0 x.1 _ _ _ x.2 marks graphs levels _ c.canonical_control-clean.ensures c.args.clock
          (sym c.is_date_time.ensures ∙ c.if-not-is_date_time.false);
      tuple_width_in_bounds = c.requires.tuple_width_in_bounds;
      line_room_in_bounds = c.requires.line_room_in_bounds;
    }

pub returns : goal.returns
returns c =
    let marks : length c.read_saved-read.result.saved.control.bound ≡ variable_limit = search rules in
    let graphs : length c.read_saved-read.result.saved.store.fetched ≡ graph_limit = search rules in
    let levels : length c.read_saved-read.result.saved.control.items ≡ depth_limit = search (length-mapped, rules) in
    let x = c.in-Ok.ensures in record {
      written = lines_now _ _ _ _ _ _ _ x.0 x.1 _ _ _ x.2 marks graphs levels _ c.canonical_control-clean.ensures c.args.clock
          (sym c.is_date_time.ensures ∙ c.if-not-is_date_time.false) _ (read_some _ _ c.read_saved-read.ensures c.if-not-read.false) c.args.tuples.now c.put_lines.ensures.written;
      upper_bound = c.put_lines.ensures.upper_bound;
    }
