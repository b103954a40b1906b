-- The definitions at work, by computation: each of the eight faults, reached by a script past refusal 7 that is not well typed.
use Prim.Native.Nat.{ℕ}
use mathlib.Core.Path.{◌≡◌, refl}
use mathlib.Core.List.{List, [], ◌∷◌, ◌++◌, map}
use mathlib.Core.Option.{Option, some}
use lib.IntN.{pos}
use lib.ListN.{length, replicate}
use Rattle.definitions.specs.Ascii.{ascii}
use Rattle.definitions.specs.Bytes.{onward, provided}
use Rattle.definitions.specs.Types.{Datatype, plain}
use Rattle.definitions.specs.Terms.{Term, Schema}
use Rattle.definitions.specs.Reading.{parsed}
use Rattle.definitions.specs.Scope.{in_scope}
use Rattle.definitions.specs.Typing.{verdict, written_types, Verdict, no_typing}
use Rattle.definitions.specs.Calls.{constants_of}
use Rattle.definitions.specs.Outcome.{Outcome, fault, graph_no_uri, subject_no_uri, property_not_in_schema, object_not_of_datatype, from_named_no_uri, text_test_on_no_string}
use Rattle.definitions.specs.Outcome.{arithmetic_on_no_number, nothing_in_common}
use Rattle.definitions.specs.Machine.{Run, run, loaded, with_properties}
use Rattle.definitions.proofs.Opened.{opened}

-- p:speed, a decimal
schema : Schema
schema = record { property = ascii "p:speed"; datatype = Datatype.decimal } ∷ []

-- 0 a URI, 1 the integer 3, 2 a string, 3 p:speed
terms : List Term
terms = with_properties schema (Term.uri (ascii "c:club") ∷ Term.integer (pos 3) ∷ Term.string [] (ascii "fast") ∷ [])

-- what a script past refusal 7 comes to, and its verdict
outcome : List ℕ → Option (Outcome Run × Verdict)
outcome script =
    onward (parsed (length terms) script) (λ root. provided (in_scope root) (some (
      run (record { schema = schema; ranks = []; clock = pos 0 }) (λ v. plain Datatype.any_uri) 10 (loaded terms root),
      verdict (constants_of schema terms) (written_types root) root,
    )))

constant : ℕ → List ℕ
constant n = 0x32 ∷ n ∷ 0 ∷ []

once : (query : List ℕ) → List ℕ
once q = 0x73 ∷ 0 ∷ 0 ∷ replicate 8 0 ++ (q ++ (0x71 ∷ []))

pattern : (graph subject property object : ℕ) → List ℕ
pattern g s p o = 0x61 ∷ constant g ++ (constant s ++ (constant p ++ constant o))

-- the last three are reached although the other part decides: all parts are evaluated
eight-faults :
    map outcome (
    once (pattern 1 0 3 1)
    ∷ once (pattern 0 1 3 1)
    ∷ once (pattern 0 0 0 1)
    ∷ once (pattern 0 0 3 2)
    ∷ (0x72 ∷ constant 1 ++ (0x71 ∷ []))
    ∷ once (0x64 ∷ 0x52 ∷ 0x51 ∷ 0x55 ∷ replicate 16 0 ++ constant 1)
    ∷ once (0x63 ∷ 0x65 ∷ 0x64 ∷ 0x57 ∷ 0x43 ∷ constant 2 ++ constant 1)
    ∷ once (0x64 ∷ 0x53 ∷ 0x50 ∷ 0x58 ∷ constant 1 ++ constant 2)
    ∷ []
    )
    ≡ map (λ x. some (fault x, no_typing)) (
    graph_no_uri ∷ subject_no_uri ∷ property_not_in_schema ∷ object_not_of_datatype ∷ from_named_no_uri ∷ text_test_on_no_string ∷ arithmetic_on_no_number ∷ nothing_in_common ∷ []
    )
unfolding schema terms outcome constant once pattern opened
eight-faults = refl
