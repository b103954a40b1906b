-- Document 02, Ask 5: what the tables of not, and and or keep.
--
--   Booleans become true, false or unknown: a comparison holding no value is unknown, not of unknown is unknown, and is false if either side is false, or is
--   true if either side is true, otherwise an unknown side makes them unknown. A filter holds only on true.
use Rattle.std.specs.Prelude.{◌≡◌, List, Bool, true, false, not, ◌&&◌, ◌||◌}
use Rattle.definitions.specs.Terms.{Term}
use Rattle.definitions.specs.Tree.{Cond, Query}
use Rattle.definitions.specs.Outcome.{Outcome, ok, ◌>>=◌}
use Rattle.definitions.specs.Truth.{not_truth, and_truth, or_truth}
use Rattle.definitions.specs.Evaluate.{Setting, Bindings, Quad, condition, query}
use Rattle.definitions.specs.declared.Truth.{Truth}
use Rattle.definitions.specs.declared.Truth.TheVariants.{Unknown}

module _ (σ : Setting) (terms : List Term) (quads : List Quad) (β : Bindings) where
  -- document 01's boolean, true or false: a test holds or it does not
  unfoldable pub two_valued : Cond → Outcome Bool
  two_valued Cond.no = ok false
  two_valued Cond.yes = ok true
  two_valued (Cond.or c d) = do
    a ← two_valued c
    b ← two_valued d
    ok (a || b)
  two_valued (Cond.and c d) = do
    a ← two_valued c
    b ← two_valued d
    ok (a && b)
  two_valued (Cond.not c) = do
    a ← two_valued c
    ok (not a)
  two_valued (Cond.regex p e) = query σ terms quads β (Query.filter (Cond.regex p e))
  two_valued (Cond.lang_matches r e) = query σ terms quads β (Query.filter (Cond.lang_matches r e))
  two_valued (Cond.equal e f) = query σ terms quads β (Query.filter (Cond.equal e f))
  two_valued (Cond.less e f) = query σ terms quads β (Query.filter (Cond.less e f))

  -- no test in it holds no value
  abbrev pub NothingUnknown : Cond → Type 0
  NothingUnknown Cond.no = Unit {0}
  NothingUnknown Cond.yes = Unit {0}
  NothingUnknown (Cond.or c d) = NothingUnknown c × NothingUnknown d
  NothingUnknown (Cond.and c d) = NothingUnknown c × NothingUnknown d
  NothingUnknown (Cond.not c) = NothingUnknown c
  NothingUnknown (Cond.regex p e) = condition σ terms quads β (Cond.regex p e) ≡ ok Unknown → ⊥
  NothingUnknown (Cond.lang_matches r e) = condition σ terms quads β (Cond.lang_matches r e) ≡ ok Unknown → ⊥
  NothingUnknown (Cond.equal e f) = condition σ terms quads β (Cond.equal e f) ≡ ok Unknown → ⊥
  NothingUnknown (Cond.less e f) = condition σ terms quads β (Cond.less e f) ≡ ok Unknown → ⊥

pub record Truths : Type 0 where
  pub and_either_way : (a b : Truth) → and_truth a b ≡ and_truth b a
  pub or_either_way : (a b : Truth) → or_truth a b ≡ or_truth b a
  pub and_of_three : (a b c : Truth) → and_truth (and_truth a b) c ≡ and_truth a (and_truth b c)
  pub or_of_three : (a b c : Truth) → or_truth (or_truth a b) c ≡ or_truth a (or_truth b c)
  -- De Morgan
  pub not_and : (a b : Truth) → not_truth (and_truth a b) ≡ or_truth (not_truth a) (not_truth b)
  pub not_or : (a b : Truth) → not_truth (or_truth a b) ≡ and_truth (not_truth a) (not_truth b)
  pub not_twice : (a : Truth) → not_truth (not_truth a) ≡ a
  -- where no comparison holds no value a filter holds exactly when document 01's did
  pub as_before : (σ : Setting) (terms : List Term) (quads : List Quad) (β : Bindings) (c : Cond) → NothingUnknown σ terms quads β c
      → query σ terms quads β (Query.filter c) ≡ two_valued σ terms quads β c
  -- and whatever no comparison holds: a filter that holds held before
  pub held_before : (σ : Setting) (terms : List Term) (quads : List Quad) (β : Bindings) (c : Cond) → query σ terms quads β (Query.filter c) ≡ ok true
      → two_valued σ terms quads β c ≡ ok true
