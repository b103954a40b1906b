-- Document 02, Ask 11: a graph's triples as the records of a page, in rising order of their bytes, each once.
use Rattle.std.specs.Prelude.{ℕ, ◌+◌, List, [], ◌∷◌, ◌++◌, map, Bool, cond}
use Rattle.std.proofs.Math.Option.{Option, none, some}
use Rattle.std.proofs.Math.ListN.{get_elem?}
use Rattle.definitions.specs.Limits.{text_width}
use Rattle.definitions.specs.Lists.{keep}
use Rattle.definitions.specs.Bytes.{same_bytes, filled, onward}
use Rattle.definitions.specs.Types.{Datatype}
use Rattle.definitions.specs.Terms.{Term, Text, Triple, datatype, term_kind, body_of}
use Rattle.definitions.specs.Values.{before}
use Rattle.definitions.specs.Evaluate.{Quad}
use Rattle.definitions.specs.Machine.{Store, of_graph}

-- ── the triples of a graph ──────────────────────────────────────────────────────────────────

-- the text of a URI, none of another term
unfoldable pub uri_of : Term → Option Text
uri_of (Term.uri u) = some u
uri_of (Term.string g t) = none
uri_of (Term.integer n) = none
uri_of (Term.decimal n) = none
uri_of (Term.date_time n) = none

-- what a quad's numbers say; none where a number is no term's, or a subject or property no URI, which no sound store has
unfoldable pub triple_of : List Term → Quad → Option Triple
triple_of terms q =
    onward (onward (get_elem? terms q.subject) uri_of) (λ x.
    onward (onward (get_elem? terms q.property) uri_of) (λ p.
    onward (get_elem? terms q.object) (λ o. some (record { subject = x; property = p; object = o }))))

unfoldable pub triples_in : List Term → List Quad → List Triple
triples_in terms [] = []
triples_in terms (q ∷ qs) = elim (triple_of terms q) [ none ↦ triples_in terms qs | some r ↦ r ∷ triples_in terms qs ]

unfoldable pub triples_of : (graph : ℕ) → Store → List Triple
triples_of g s = triples_in s.terms (keep (of_graph g) s.quads)

-- ── their records ───────────────────────────────────────────────────────────────────────────

-- 81 to 85 for an object of kinds 11 to 15
abbrev pub page_kind : Datatype → ℕ
page_kind d = term_kind d + 0x70

-- subject URI body, property URI body, object body
unfoldable pub triple_bytes : Triple → List ℕ
triple_bytes r =
    page_kind (datatype r.object) ∷ (filled text_width r.subject ++ (filled text_width r.property ++ body_of r.object))

-- the order of records: the first byte that differs decides
abbrev pub bytes_before : List ℕ → List ℕ → Bool
bytes_before a b = before (λ n. n) a b

-- a record put in its place, once
unfoldable pub with_record : List ℕ → List (List ℕ) → List (List ℕ)
with_record r [] = r ∷ []
with_record r (x ∷ xs) = cond (bytes_before r x) (r ∷ (x ∷ xs)) (cond (same_bytes r x) (x ∷ xs) (x ∷ with_record r xs))

unfoldable pub rising_once : List (List ℕ) → List (List ℕ)
rising_once [] = []
rising_once (r ∷ rs) = with_record r (rising_once rs)

-- one after the other
unfoldable pub page_of : List (List ℕ) → List ℕ
page_of [] = []
page_of (r ∷ rs) = r ++ page_of rs

-- ── the page ────────────────────────────────────────────────────────────────────────────────

unfoldable pub published : (graph : ℕ) → Store → List ℕ
published g s = page_of (rising_once (map triple_bytes (triples_of g s)))
