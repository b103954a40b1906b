-- The definitions at work, by computation: a run over a store that changes between two steps.
use Prim.Native.Nat.{ℕ}
use mathlib.Core.Path.{◌≡◌, refl}
use mathlib.Core.List.{List, [], ◌∷◌}
use mathlib.Core.Bool.{cond}
use mathlib.Core.Option.{Option, some}
use lib.Dec.{eqb}
use lib.IntN.{pos}
use lib.ListN.{length}
use Rattle.definitions.specs.Ascii.{ascii}
use Rattle.definitions.specs.Bytes.{onward}
use Rattle.definitions.specs.Types.{Datatype, Ty, plain}
use Rattle.definitions.specs.Terms.{Term, Schema}
use Rattle.definitions.specs.Tree.{Script}
use Rattle.definitions.specs.Reading.{parsed}
use Rattle.definitions.specs.Outcome.{Outcome, ok, ◌>>=◌}
use Rattle.definitions.specs.Evaluate.{Setting, Quad}
use Rattle.definitions.specs.Machine.{Control, State, run, last_of, loaded, with_properties}
use Rattle.definitions.specs.declared.RunState.{RunState}
use Rattle.definitions.specs.declared.RunState.TheVariants.{Ended}
use Rattle.definitions.proofs.Opened.{opened}

-- p:speed, a decimal
schema : Schema
schema = record { property = ascii "p:speed"; datatype = Datatype.decimal } ∷ []

-- 0 c:club, 1 l:1, 2 l:2, 3 the integer 3, 4 p:speed
terms : List Term
terms = with_properties schema (Term.uri (ascii "c:club") ∷ Term.uri (ascii "l:1") ∷ Term.uri (ascii "l:2") ∷ Term.integer (pos 3) ∷ [])

goes : (subject : ℕ) → Quad
goes s = record { graph = 0; subject = s; property = 4; object = 3 }

-- each $0 $1 where { c:club: $0 p:speed $1 }: success
script : List ℕ
script =
    0x73 ∷ 1 ∷ 2 ∷ 0 ∷ 0 ∷ 1 ∷ 0 ∷ 0 ∷ 0 ∷ 0 ∷ 0
    ∷ 0x61 ∷ 0x32 ∷ 0 ∷ 0 ∷ 0x31 ∷ 0 ∷ 0x32 ∷ 4 ∷ 0 ∷ 0x31 ∷ 1
    ∷ 0x71 ∷ []

setting : Setting
setting = record { schema = schema; ranks = []; clock = pos 0 }

types : ℕ → Ty
types v = cond (eqb v 0) (plain Datatype.any_uri) (plain Datatype.decimal)

over : List Quad → Control → State
over quads control = record { control = control; store = record { terms = terms; quads = quads; fetched = 0 ∷ [] } }

-- the first answer and its script are two steps over both quads; then so many steps over other quads, and how they end
goes_on : List Quad → Script → Outcome (ℕ × RunState)
goes_on quads root =
    let begun = over (goes 1 ∷ goes 2 ∷ []) (loaded terms root).control in
    run setting types 2 begun >>= λ first.
    run setting types 10 (over quads (last_of begun first.passed).control) >>= λ rest.
    ok (length rest.passed, rest.ending)

outcomes : Option (Outcome (ℕ × RunState) × Outcome (ℕ × RunState))
outcomes = onward (parsed (length terms) script) (λ root. some (goes_on (goes 1 ∷ goes 2 ∷ []) root, goes_on [] root))

-- Answers are looked for in the store of that moment: the second answer, its script and the end of the block; the end alone, where no quad is left.
answers_of_now : outcomes ≡ some (ok (3, Ended), ok (1, Ended))
unfolding schema terms goes script setting types over goes_on outcomes opened
answers_of_now = refl
