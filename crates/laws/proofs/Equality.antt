-- The tests of equality are equality: of bytes, numbers, terms and quads.
use Prim.Native.Nat.{ℕ}
use mathlib.Core.Path.{◌≡◌, refl, ap, ap₂}
use mathlib.Core.List.{List, [], ◌∷◌}
use mathlib.Core.Bool.{Bool}
use lib.Dec.{T, eqb, eqb→eq, eqb_refl}
use lib.IntN.{ℤ, pos, negsuc}
use Rattle.definitions.specs.Bytes.{same_bytes}
use Rattle.definitions.specs.Types.{Datatype, same_datatype, datatype_code}
use Rattle.definitions.specs.Terms.{Term, Text, datatype, term_tag, term_text, term_number, same_number, same_term}
use Rattle.definitions.specs.Evaluate.{Quad, same_quad}
use Rattle.laws.proofs.Tests.{and_left, and_right, and_make}
use Rattle.laws.proofs.All.{conj-all, all-conj}
use Rattle.laws.proofs.Order.{same-datatype}

pub same_bytes_lem : (a b : List ℕ) → T (same_bytes a b) → a ≡ b
same_bytes_lem [] [] h = refl
same_bytes_lem [] (b ∷ t) h = absurd h
same_bytes_lem (a ∷ s) [] h = absurd h
same_bytes_lem (a ∷ s) (b ∷ t) h =
    ap₂ ◌∷◌ (eqb→eq a b (and_left (eqb a b) (same_bytes s t) h)) (same_bytes_lem s t (and_right (eqb a b) (same_bytes s t) h))

pub bytes-refl : (a : List ℕ) → T (same_bytes a a)
bytes-refl [] = tt
bytes-refl (a ∷ s) = and_make (eqb a a) (same_bytes s s) (eqb_refl a) (bytes-refl s)

pub same_number_lem : (a b : ℤ) → T (same_number a b) → a ≡ b
unfolding same_number
same_number_lem (pos a) (pos b) h = ap pos (eqb→eq a b h)
same_number_lem (pos a) (negsuc b) h = absurd h
same_number_lem (negsuc a) (pos b) h = absurd h
same_number_lem (negsuc a) (negsuc b) h = ap negsuc (eqb→eq a b h)

pub number-refl : (a : ℤ) → T (same_number a a)
unfolding same_number
number-refl (pos a) = eqb_refl a
number-refl (negsuc a) = eqb_refl a

-- ── terms ───────────────────────────────────────────────────────────────────────────────────

-- a term from its parts
term_from : Datatype → (tag text : Text) → ℤ → Term
term_from Datatype.any_uri g t n = Term.uri t
term_from Datatype.string g t n = Term.string g t
term_from Datatype.integer g t n = Term.integer n
term_from Datatype.decimal g t n = Term.decimal n
term_from Datatype.date_time g t n = Term.date_time n

from_parts : (a : Term) → term_from (datatype a) (term_tag a) (term_text a) (term_number a) ≡ a
unfolding term_from
from_parts (Term.uri u) = refl
from_parts (Term.string g t) = refl
from_parts (Term.integer n) = refl
from_parts (Term.decimal n) = refl
from_parts (Term.date_time n) = refl

abbrev term_tests : Term → Term → List Bool
term_tests a b =
    same_datatype (datatype a) (datatype b)
    ∷ same_bytes (term_tag a) (term_tag b)
    ∷ same_bytes (term_text a) (term_text b)
    ∷ same_number (term_number a) (term_number b)
    ∷ []

pub same-term : (a b : Term) → T (same_term a b) → a ≡ b
unfolding same_term
same-term a b h =
    let (kinds, (tags, (texts, (numbers, u)))) = conj-all (term_tests a b) h in
    let e₀ = same-datatype (datatype a) (datatype b) kinds in
    let e₁ = same_bytes_lem (term_tag a) (term_tag b) tags in
    let e₂ = same_bytes_lem (term_text a) (term_text b) texts in
    let e₃ = same_number_lem (term_number a) (term_number b) numbers in
    cc (from_parts a, from_parts b, e₀, e₁, e₂, e₃)

pub term-refl : (a : Term) → T (same_term a a)
unfolding same_term
term-refl a =
    all-conj (term_tests a a) (eqb_refl (datatype_code (datatype a)), (bytes-refl (term_tag a), (bytes-refl (term_text a), (number-refl (term_number a), tt))))

-- ── quads ───────────────────────────────────────────────────────────────────────────────────

abbrev quad_tests : Quad → Quad → List Bool
quad_tests a b = eqb a.graph b.graph ∷ eqb a.subject b.subject ∷ eqb a.property b.property ∷ eqb a.object b.object ∷ []

pub same-quad : (a b : Quad) → T (same_quad a b) → a ≡ b
same-quad a b h =
    let (graphs, (subjects, (properties, (objects, u)))) = conj-all (quad_tests a b) h in
    let e₀ = eqb→eq a.graph b.graph graphs in
    let e₁ = eqb→eq a.subject b.subject subjects in
    let e₂ = eqb→eq a.property b.property properties in
    let e₃ = eqb→eq a.object b.object objects in
    λ i. record { graph = e₀ i; subject = e₁ i; property = e₂ i; object = e₃ i }

pub quad-refl : (a : Quad) → T (same_quad a a)
quad-refl a = all-conj (quad_tests a a) (eqb_refl a.graph, (eqb_refl a.subject, (eqb_refl a.property, (eqb_refl a.object, tt))))
