-- One name for each file of specs/ that opens its definitions, and one that opens all: for closed examples, which compute.
-- Written by tools/opened.py.
use Rattle.definitions.specs.Lists as Lists
use Rattle.definitions.specs.Alphabet as Alphabet
use Rattle.definitions.specs.Ascii as Ascii
use Rattle.definitions.specs.Bytes as Bytes
use Rattle.definitions.specs.Types as Types
use Rattle.definitions.specs.Terms as Terms
use Rattle.definitions.specs.Gathering as Gathering
use Rattle.definitions.specs.Text as Text
use Rattle.definitions.specs.Reading as Reading
use Rattle.definitions.specs.Scope as Scope
use Rattle.definitions.specs.Total as Total
use Rattle.definitions.specs.Typing as Typing
use Rattle.definitions.specs.Suggest as Suggest
use Rattle.definitions.specs.Calendar as Calendar
use Rattle.definitions.specs.Outcome as Outcome
use Rattle.definitions.specs.Truth as Truth
use Rattle.definitions.specs.Values as Values
use Rattle.definitions.specs.Numerals as Numerals
use Rattle.definitions.specs.Evaluate as Evaluate
use Rattle.definitions.specs.Evaluated as Evaluated
use Rattle.definitions.specs.Search as Search
use Rattle.definitions.specs.Machine as Machine
use Rattle.definitions.specs.Publish as Publish
use Rattle.definitions.specs.Saved as Saved
use Rattle.definitions.specs.Sound as Sound
use Rattle.definitions.specs.Result as Result
use Rattle.definitions.specs.Calls as Calls
use Rattle.definitions.specs.CallList as CallList
use Rattle.definitions.specs.Exports as Exports
use Rattle.definitions.specs.Printer as Printer

unfoldable pub open_lists : Unit {0}
unfolding Lists.find
open_lists = tt

unfoldable pub open_alphabet : Unit {0}
unfolding Alphabet.below Alphabet.occurs Alphabet.is_alphabet Alphabet.built_in
open_alphabet = tt

unfoldable pub open_ascii : Unit {0}
unfolding Ascii.ascii
open_ascii = tt

unfoldable pub open_bytes : Unit {0}
unfolding Bytes.little Bytes.little_bytes Bytes.signed Bytes.unsigned Bytes.filled Bytes.unfilled Bytes.provided Bytes.onward Bytes.in_front Bytes.records_from Bytes.records
open_bytes = tt

unfoldable pub open_types : Unit {0}
unfolding Types.datatype_name
open_types = tt

unfoldable pub open_terms : Unit {0}
unfolding Terms.field_text Terms.uri_text Terms.within_limits Terms.term_of_body Terms.body_of Terms.slot_of Terms.entry_record Terms.schema_records Terms.body_at Terms.uri_at
    Terms.read_term Terms.read_entry Terms.read_triple Terms.read_terms Terms.read_schema Terms.read_page Terms.same_number Terms.same_term Terms.datatype_in Terms.sort_of
open_terms = tt

unfoldable pub open_gathering : Unit {0}
unfolding Gathering.named Gathering.asks_of_uri Gathering.asks Gathering.askings Gathering.asked_of Gathering.meets Gathering.least_that Gathering.least_asked
    Gathering.with_subject Gathering.subjects_after Gathering.gathered_of Gathering.gathered
open_gathering = tt

unfoldable pub open_text : Unit {0}
unfolding Text.no_literal Text.atom_of Text.pieces_of Text.pattern_of_text Text.pattern_of Text.some_cut Text.is_atom Text.one_byte Text.made_of Text.accepts Text.without_star
    Text.range_of_text Text.language_range_of Text.goes_on Text.matches
open_text = tt

unfoldable pub open_reading : Unit {0}
unfolding Reading.and_then Reading.one_of Reading.two_of Reading.four_of Reading.read_name Reading.read_expr Reading.with_body Reading.read_cond Reading.read_query
    Reading.written_of Reading.binder_at Reading.binders_at Reading.with_binders Reading.read_script Reading.parsed
open_reading = tt

unfoldable pub open_scope : Unit {0}
unfolding Scope.in_name Scope.in_expr Scope.in_cond Scope.in_query Scope.is_free Scope.binders_of Scope.in_scope
open_scope = tt

unfoldable pub open_total : Unit {0}
unfolding Total.script_records Total.has_each Total.total_of
open_total = tt

unfoldable pub open_typing : Unit {0}
unfolding Typing.name_has Typing.expr_has Typing.cond_typed Typing.property_typed Typing.query_typed Typing.script_typed Typing.written_in Typing.written_types Typing.each_with
    Typing.assignments Typing.those Typing.typings Typing.above Typing.first_above Typing.judge Typing.verdict
open_typing = tt

unfoldable pub open_suggest : Unit {0}
unfolding Suggest.lowest_type Suggest.lowest_in Suggest.would_do Suggest.suggestion
open_suggest = tt

unfoldable pub open_calendar : Unit {0}
unfolding Calendar.is_leap Calendar.year_length Calendar.month_lengths Calendar.month_from Calendar.year_from Calendar.date_of Calendar.digits Calendar.date_text Calendar.time_text
    Calendar.date_time_text
open_calendar = tt

unfoldable pub open_outcome : Unit {0}
unfolding Outcome.◌>>=◌ Outcome.◌>>◌ Outcome.demand
open_outcome = tt

unfoldable pub open_truth : Unit {0}
unfolding Truth.not_truth Truth.and_truth Truth.or_truth Truth.is_true
open_truth = tt

unfoldable pub open_values : Unit {0}
unfolding Values.value_of Values.number_in Values.lifted Values.lifted₂ Values.sum Values.difference Values.absolute Values.short_digits Values.natural_text Values.sign_text
    Values.integer_text Values.fraction_text Values.decimal_text Values.text_of Values.rank_in Values.before Values.string_before Values.paired Values.present Values.same_tagged
    Values.equal_pair Values.less_pair Values.string_in Values.truth_in
open_values = tt

unfoldable pub open_numerals : Unit {0}
unfolding Numerals.is_digit Numerals.leading Numerals.after_sign Numerals.digits_at Numerals.fraction_at Numerals.exponent_at Numerals.numeral_of Numerals.natural_of
    Numerals.with_sign Numerals.integer_term Numerals.decimal_term Numerals.term_of
open_numerals = tt

unfoldable pub open_evaluate : Unit {0}
unfolding Evaluate.stored Evaluate.named Evaluate.property_datatype Evaluate.expression Evaluate.condition Evaluate.query
open_evaluate = tt

unfoldable pub open_evaluated : Unit {0}
unfolding Evaluated.cond_records Evaluated.query_records
open_evaluated = tt

unfoldable pub open_search : Unit {0}
unfolding Search.fitting Search.each_in_front Search.tuples Search.after Search.first Search.bind Search.answer
open_search = tt

unfoldable pub open_machine : Unit {0}
unfolding Machine.loaded Machine.enter_named Machine.enter_once Machine.enter_each Machine.act Machine.next_of Machine.go_on Machine.look Machine.run Machine.numbered
    Machine.with_properties Machine.quad_before Machine.in_order Machine.with_quad Machine.store Machine.well_typed Machine.take_one Machine.take_all Machine.joined Machine.taken
    Machine.with_page Machine.in_limits
open_machine = tt

unfoldable pub open_publish : Unit {0}
unfolding Publish.uri_of Publish.triple_of Publish.triples_in Publish.triples_of Publish.triple_bytes Publish.with_record Publish.rising_once Publish.page_of Publish.published
open_publish = tt

unfoldable pub open_saved : Unit {0}
unfolding Saved.slots Saved.term_table Saved.slot_term Saved.terms_from Saved.terms_in Saved.quad_bytes Saved.quad_table Saved.quads_from Saved.quads_in Saved.place_from
    Saved.place_in Saved.last_tuple Saved.stack_from Saved.saved_item Saved.saved_items Saved.bindings_in Saved.held_control Saved.held_store Saved.saved_control Saved.saved_store
    Saved.held
open_saved = tt

unfoldable pub open_sound : Unit {0}
unfolding Sound.begins_with Sound.quad_sound Sound.free_bound Sound.last_sound Sound.item_sound Sound.stack_sound Sound.store_sound Sound.control_sound Sound.state_sound
open_sound = tt

unfoldable pub open_result : Unit {0}
unfolding Result.◌>>=◌ Result.◌>>◌ Result.require Result.given
open_result = tt

unfoldable pub open_calls : Unit {0}
unfolding Calls.record_tests Calls.sizes_fit Calls.script_tests Calls.read_tests Calls.constants_of Calls.types_of Calls.type_tests Calls.check Calls.reported_types
    Calls.tables_fit Calls.load_tests Calls.load_result Calls.load Calls.checked_of Calls.sound_in Calls.entry_tests Calls.run_in Calls.run_tests Calls.ran_of Calls.run_result
    Calls.run_call Calls.page_in Calls.take_in Calls.page_tests Calls.page_result Calls.page_call Calls.total_result Calls.total Calls.number_call Calls.suggest_answer
    Calls.suggest_for Calls.suggest_result Calls.suggest Calls.schema_tests Calls.written Calls.schema_result Calls.schema_call Calls.publish_in Calls.publish_tests
    Calls.publish_result Calls.publish_call
open_calls = tt

unfoldable pub open_call_list : Unit {0}
unfolding CallList.run_done CallList.page_done CallList.machine_call CallList.machine_calls
open_call_list = tt

unfoldable pub open_exports : Unit {0}
unfolding Exports.words Exports.items_bytes Exports.saved_bytes Exports.words_from Exports.items_from Exports.items_good Exports.saved_from Exports.run_report Exports.count_report
    Exports.record_after Exports.suggest_report Exports.schema_report Exports.load_export Exports.run_export Exports.page_export Exports.total_export Exports.number_export
    Exports.suggest_export Exports.schema_export Exports.publish_export
open_exports = tt

unfoldable pub open_printer : Unit {0}
unfolding Printer.entry_body Printer.end_from Printer.terms_end Printer.schema_end Printer.line Printer.type_name Printer.type_lines Printer.bound_count Printer.printed_result
    Printer.printed
open_printer = tt

unfoldable pub opened : Unit {0}
unfolding open_lists open_alphabet open_ascii open_bytes open_types open_terms open_gathering open_text open_reading open_scope open_total open_typing open_suggest open_calendar
    open_outcome open_truth open_values open_numerals open_evaluate open_evaluated open_search open_machine open_publish open_saved open_sound open_result open_calls open_call_list
    open_exports open_printer
opened = tt
