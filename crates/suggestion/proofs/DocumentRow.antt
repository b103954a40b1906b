-- Document 02's row for Ask 13: `$p $o` with `p:speed $o`, variables numbered $g 0, $s 1, $p 2, $o 3. The definition lists some 40,000 assignments for it;
-- the tables give the same at once.
use Rattle.std.specs.Prelude.{Ok}
use Prim.Native.Nat.{ℕ}
use mathlib.Core.Path.{◌≡◌, refl, ap, sym, ◌∙◌}
use mathlib.Core.List.{List, [], ◌∷◌, ◌++◌}
use mathlib.Core.Bool.{false}
use mathlib.Core.Option.{none, some}
use Rattle.definitions.specs.Limits.{text_width}
use Rattle.definitions.specs.Bytes.{filled}
use Rattle.definitions.specs.Ascii.{ascii}
use Rattle.definitions.specs.Types.{decimal, range}
use Rattle.definitions.specs.Terms.{Term, Sort}
use Rattle.definitions.specs.Tree.{Name, var, const, Query, Binder, Script, success, block}
use Rattle.definitions.specs.Scope.{variables}
use Rattle.definitions.specs.Typing.{Written, no_greatest, written_types}
use Rattle.definitions.specs.Suggest.{lowest_in}
use Rattle.definitions.specs.Result.{passed}
use Rattle.definitions.specs.Calls.{Parsed, read_tests, constants_of, suggest_answer, suggest_result, suggest}
use Rattle.definitions.specs.declared.Suggested.TheVariants as Suggests
use Rattle.definitions.proofs.Opened.{open_lists, open_bytes, open_ascii, open_terms, open_text, open_reading, open_scope, open_typing, open_suggest, open_machine, open_result, open_calls}
use Rattle.laws.specs.Lists.{up_from}
use Rattle.laws.specs.Sorts.{least}
use Rattle.laws.proofs.Check.{variable-count}
use Rattle.facts.specs.Demands.{query_demands, script_demands}
use Rattle.facts.specs.UnionFind.{climb, root_in, merge_in}
use Rattle.facts.specs.Tables.{fresh, at_most, as_property, at_least, edge, impossible, related, place, node_at, noted, all_noted}
use Rattle.facts.specs.Infer.{all_below, apart, settled, tight, decided, best, best_types, read_off, tables_of}
use Rattle.with_type.specs.WithType.{flagged, leaves, at_most_type, with_type}
use Rattle.lowest_type.specs.Does.{does_in}
use Rattle.suggestion.proofs.SuggestLaws.{lowest-is, suggested-as}

schema : List ℕ
schema = 0x21 ∷ filled text_width (ascii "p:speed") ++ (3 ∷ [])

pattern_on : (property : List ℕ) → List ℕ
pattern_on p = 0x61 ∷ 0x31 ∷ 0 ∷ 0x31 ∷ 1 ∷ p ++ (0x31 ∷ 3 ∷ [])

script : List ℕ
script = 0x73 ∷ 0 ∷ 4 ∷ 0 ∷ 0 ∷ 1 ∷ 0 ∷ 2 ∷ 0 ∷ 3 ∷ 0 ∷ 0x62 ∷ pattern_on (0x31 ∷ 2 ∷ []) ++ (pattern_on (0x32 ∷ 0 ∷ 0 ∷ []) ++ (0x71 ∷ []))

-- the tables at work
open_tables : Unit {0}
unfolding script_demands query_demands up_from fresh as_property at_most at_least edge impossible related place node_at noted all_noted climb root_in merge_in
    all_below apart settled tight decided best best_types read_off least flagged leaves at_most_type with_type does_in
open_tables = tt

opened : ℕ → Binder
opened x = record { variable = x; written = none }

pattern_with : (property : Name) → Query
pattern_with p = Query.pattern (var 0) (var 1) p (var 3)

root : Script
root = block 0 false (opened 0 ∷ opened 1 ∷ opened 2 ∷ opened 3 ∷ []) (Query.both (pattern_with (var 2)) (pattern_with (const 0))) (success 31)

found : Parsed
found = record { schema = record { property = ascii "p:speed"; datatype = decimal } ∷ []; terms = Term.uri (ascii "p:speed") ∷ []; root = root }

reads : read_tests [] schema script ≡ passed found
unfolding schema pattern_on script opened pattern_with root found open_lists open_bytes open_ascii open_terms open_text open_reading open_scope open_machine open_result open_calls
reads = refl

abbrev constants : ℕ → Sort
constants = constants_of found.schema found.terms

abbrev ws : List Written
ws = written_types root

-- refusal 9 as it is
no-greatest : read_off (tables_of constants ws root) ws ≡ no_greatest
unfolding opened pattern_with root found open_terms open_ascii open_scope open_typing open_calls open_tables
no-greatest = refl

lowest : lowest_in ws (does_in (tables_of constants ws root) ws) variables ≡ some (record { variable = 2; type = range decimal })
unfolding opened pattern_with root found open_terms open_ascii open_scope open_typing open_calls open_tables open_suggest open_lists
lowest = refl

-- it is variable 2, code 11
document-row : suggest [] schema script ≡ Ok (Suggests.Named 2 11)
unfolding suggest suggest_result suggest_answer found
document-row =
    ap suggest_result reads
    ∙ suggested-as constants ws (variable-count root) root no_greatest no-greatest
    ∙ ap suggest_answer (sym (lowest-is constants ws (variable-count root) root) ∙ lowest)
