-- The demands and requests, held together with the code. The definitions of the calls say what each call gives: answer, saved run and both tables, on refusals too,
-- and at the C interface the number returned and every lent buffer. The first sixteen fields say that the code gives exactly that: they are the contracts of the
-- calls and of the exports, met. The others say what follows from the definitions.
use Rattle.std.specs.Prelude.{Ok}
use mathlib.Core.Path.{◌≡◌}
use mathlib.Core.List.{List}
use lib.ListN.{length}
use Prim.Native.Nat.{ℕ}
use Rattle.definitions.specs.Calls.{Lent, load}
use Rattle.definitions.specs.Limits.{saved_width}
use Rattle.loading.proofs.load.Statement as load-call
use Rattle.loading.proofs.load.Met as load-met
use Rattle.running.proofs.run.Statement as run_call_lem
use Rattle.running.proofs.run.Met as run-met
use Rattle.paging.proofs.page.Statement as page-call
use Rattle.paging.proofs.page.Met as page-met
use Rattle.card_calls.proofs.total.total.Statement as total-call
use Rattle.card_calls.proofs.total.total.Met as total-met
use Rattle.numbers.proofs.read_number.Statement as number-call
use Rattle.numbers.proofs.read_number.Met as number-met
use Rattle.card_calls.proofs.suggest.suggest.Statement as suggest-call
use Rattle.card_calls.proofs.suggest.suggest.Met as suggest-met
use Rattle.gathering.proofs.gather.Statement as schema-call
use Rattle.gathering.proofs.gather.Met as schema-met
use Rattle.publishing.proofs.publish.Statement as publish-call
use Rattle.publishing.proofs.publish.Met as publish-met
use Rattle.exports.proofs.willetcoffer_load.Statement as load-export
use Rattle.exports.proofs.willetcoffer_load.Met as load-export-met
use Rattle.exports.proofs.willetcoffer_run.Statement as run-export
use Rattle.exports.proofs.willetcoffer_run.Met as run-export-met
use Rattle.exports.proofs.willetcoffer_page.Statement as page-export
use Rattle.exports.proofs.willetcoffer_page.Met as page-export-met
use Rattle.exports.proofs.willetcoffer_total.Statement as total-export
use Rattle.exports.proofs.willetcoffer_total.Met as total-export-met
use Rattle.exports.proofs.willetcoffer_number.Statement as number-export
use Rattle.exports.proofs.willetcoffer_number.Met as number-export-met
use Rattle.exports.proofs.willetcoffer_suggest.Statement as suggest-export
use Rattle.exports.proofs.willetcoffer_suggest.Met as suggest-export-met
use Rattle.exports.proofs.willetcoffer_schema.Statement as schema-export
use Rattle.exports.proofs.willetcoffer_schema.Met as schema-export-met
use Rattle.exports.proofs.willetcoffer_publish.Statement as publish-export
use Rattle.exports.proofs.willetcoffer_publish.Met as publish-export-met
use Rattle.theorems.specs.Hosts.{HostCall}
use Rattle.theorems.specs.Demand1.{Demand1}
use Rattle.theorems.specs.Demand2.{Demand2}
use Rattle.theorems.specs.Demand3.{Demand3}
use Rattle.theorems.specs.ExportRefusals.{ExportRefusals}
use Rattle.theorems.specs.OnBytes.{ExportCall, OnBytes}
use Rattle.theorems.specs.ExactSteps.{OnceLoad, ExactSteps}
use Rattle.theorems.specs.OneOrder.{OneOrder}
use Rattle.theorems.specs.Truths.{Truths}
use Rattle.theorems.specs.Alphabets.{Alphabets}
use Rattle.theorems.specs.NumberTexts.{NumberTexts}
use Rattle.theorems.specs.OneType.{OneTypes}
use Rattle.theorems.specs.PageSchema.{PageSchemas}
use Rattle.theorems.specs.Publishing.{Publishing}
use Rattle.theorems.proofs.Demand1.{demand-1}
use Rattle.theorems.proofs.Demand2.{demand-2}
use Rattle.theorems.proofs.Demand3.{demand-3}
use Rattle.theorems.proofs.ExportRefusals.{export-refusals}
use Rattle.theorems.proofs.OnBytes.{on-bytes}
use Rattle.theorems.proofs.ExactSteps.{exact-steps}
use Rattle.theorems.proofs.OneOrder.{one-order-of-quads}
use Rattle.theorems.proofs.Truths.{truths}
use Rattle.theorems.proofs.Alphabets.{alphabets}
use Rattle.theorems.proofs.NumberTexts.{number-texts}
use Rattle.theorems.proofs.OneType.{one-types}
use Rattle.theorems.proofs.PageSchema.{page-schemas}
use Rattle.theorems.proofs.Publishing.{publishing}

pub record Demands (M : Type 1) : Type 2 where
  -- the code of each call does what the call's definition says
  pub loads : load-call.statement M
  pub runs : run_call_lem.statement M
  pub pages : page-call.statement M
  pub totals : total-call.statement M
  pub numbers : number-call.statement M
  pub suggestions : suggest-call.statement M
  pub schemas : schema-call.statement M
  pub publishes : publish-call.statement M
  -- and that of each export what the definition on bytes says
  pub load_exports : load-export.statement M
  pub run_exports : run-export.statement M
  pub page_exports : page-export.statement M
  pub total_exports : total-export.statement M
  pub number_exports : number-export.statement M
  pub suggest_exports : suggest-export.statement M
  pub schema_exports : schema-export.statement M
  pub publish_exports : publish-export.statement M
  -- refusals, of the calls and at the C interface
  pub first : Demand1
  pub first_on_bytes : ExportRefusals
  -- typing, runs and pages
  pub second : Demand2
  -- the whole list of calls after the load of an accepted script
  pub third : (l : Lent) → (load l).returned.answer ≡ Ok tt → (calls : List HostCall) → Demand3 l calls
  pub third_on_bytes : (l : Lent) → (load l).returned.answer ≡ Ok tt → (saved : List ℕ) → length saved ≡ saved_width
      → (calls : List ExportCall) → OnBytes l saved calls
  -- Ask 12: how long a script with no each block takes, of the calls and on bytes
  pub exact : (l : Lent) (o : OnceLoad l) → ExactSteps l o.read.root
  -- Ask 5: what the tables of not, and and or keep
  pub tables : Truths
  -- Ask 10: the terms by number and the set of quads decide both tables
  pub one_order : OneOrder
  -- Ask 9: less on strings under any club's ranks
  pub alphabets : Alphabets
  -- Ask 1: which texts are numbers, and that str's texts read back
  pub number_texts : NumberTexts
  -- Ask 13: the type that is named would do, and no lower one; none is named only if none would do
  pub one_types : OneTypes
  -- Ask 7: what a schema call leaves is a schema, each datatype the least that meets what is asked
  pub page_schemas : PageSchemas
  -- Ask 11: a published page is read as the graph's triples, taken in again it changes nothing, it fits, and the same triples give the same bytes
  pub publishing : Publishing

pub demands : {M : Type 1} → Demands M
demands =
    record {
      loads = load-met.met;
      runs = run-met.met;
      pages = page-met.met;
      totals = total-met.met;
      numbers = number-met.met;
      suggestions = suggest-met.met;
      schemas = schema-met.met;
      publishes = publish-met.met;
      load_exports = load-export-met.met;
      run_exports = run-export-met.met;
      page_exports = page-export-met.met;
      total_exports = total-export-met.met;
      number_exports = number-export-met.met;
      suggest_exports = suggest-export-met.met;
      schema_exports = schema-export-met.met;
      publish_exports = publish-export-met.met;
      first = demand-1;
      first_on_bytes = export-refusals;
      second = demand-2;
      third = demand-3;
      third_on_bytes = on-bytes;
      exact = exact-steps;
      tables = truths;
      one_order = one-order-of-quads;
      alphabets = alphabets;
      number_texts = number-texts;
      one_types = one-types;
      page_schemas = page-schemas;
      publishing = publishing;
    }
