-- Laws of a page record's datatypes: what its property asks, and what its object is.
use Prim.Native.Nat.{ℕ, ◌+◌, ◌-◌}
use native.Mathlib.Omega.{arith}
use mathlib.Core.Path.{◌≡◌, refl, ap, ap₂, sym, ◌∙◌}
use mathlib.Core.List.{List}
use mathlib.Core.Bool.{true, false}
use mathlib.Core.Option.{Option, none, some}
use lib.ListN.{take, drop}
use Rattle.definitions.specs.Limits.{text_width, property_offset, object_offset}
use Rattle.definitions.specs.Bytes.{part}
use Rattle.definitions.specs.Types.{Datatype, datatype_code, plain, leq_datatype}
use Rattle.definitions.specs.Terms.{Term, Schema, Triple, datatype, body_width, term_of_body, uri_text, of_page_kind, kind_rows, datatype_in, Sort, has, sort_of, has_type}
use Rattle.definitions.specs.Terms.{read_schema, is_integer, is_decimal, is_date_time}
use Rattle.definitions.specs.Machine.{object_fits, well_typed}
use Rattle.laws.specs.ReadAnswers.{is_some}
use Rattle.laws.specs.Records.{TripleAt}
use Rattle.laws.proofs.Options.{some_is, some-not-none, onward-inv}
use Rattle.laws.proofs.TestEquations.{datatype-equal, datatype-equal2}
use Rattle.laws.proofs.Reading.{row-keys}
use Rattle.laws.proofs.Valid.{string-inv, number-inv}
use Rattle.fields.specs.Answers.{code_of, schema_code}
use Rattle.codes.specs.TypeCodes.{code_leq}

pub property-uri : (page : List ℕ) (at next : ℕ) (x : Triple) → TripleAt page at x next
    → is_some (uri_text (take (at + object_offset - (at + property_offset)) (drop (at + property_offset) page))) ≡ true
property-uri page at next x r =
    let n : at + object_offset - (at + property_offset) ≡ text_width = omega arith in
    rw n (ap is_some r.property)

-- an object's kind alone says which datatypes it has
has-plain : (S : Schema) (t : Term) (d : Datatype) → leq_datatype (datatype t) d ≡ has_type S t (plain d)
unfolding sort_of
has-plain S (Term.uri u) d = go (datatype_in S u)
  where
    go : (o : Option Datatype) → leq_datatype Datatype.any_uri d ≡ has (Sort.uri o) (plain d)
    go none = datatype-equal (leq_datatype Datatype.any_uri) (λ d. has (Sort.uri none) (plain d)) tt d
    go (some e) = datatype-equal2 (λ e d. leq_datatype Datatype.any_uri d) (λ e d. has (Sort.uri (some e)) (plain d)) tt e d
has-plain S (Term.string g t) d = refl
has-plain S (Term.integer n) d = refl
has-plain S (Term.decimal n) d = refl
has-plain S (Term.date_time n) d = refl

codes-fit : (S : Schema) (o : Option Datatype) (t : Term) → code_leq (datatype_code (datatype t)) (code_of o) ≡ object_fits S o t
unfolding code_of
codes-fit S none t = datatype-equal (λ d. code_leq (datatype_code d) 0) (λ d. false) tt (datatype t)
codes-fit S (some d) t = datatype-equal2 (λ e d. code_leq (datatype_code e) (datatype_code d)) leq_datatype tt (datatype t) d ∙ has-plain S t d

-- a body of a datatype is a term of it
says-datatype : (d : Datatype) (b : List ℕ) (t : Term) → term_of_body d b ≡ some t → datatype t ≡ d
unfolding term_of_body
says-datatype Datatype.any_uri b t e = let u = onward-inv (uri_text b) (λ u. some (Term.uri u)) e in ap datatype (sym (some_is u.2))
says-datatype Datatype.string b t e = ap datatype (string-inv b t e).2
says-datatype Datatype.decimal b t e = ap datatype (number-inv is_decimal Term.decimal b t e).0
says-datatype Datatype.date_time b t e = ap datatype (number-inv is_date_time Term.date_time b t e).0
says-datatype Datatype.integer b t e = ap datatype (number-inv is_integer Term.integer b t e).0

module _ (schema page : List ℕ) (S : Schema) (at next : ℕ) (x : Triple) (e : read_schema schema ≡ some S) (r : TripleAt page at x next) where
  pub typed-is : (wanted given : ℕ) → wanted ≡ schema_code (read_schema schema) (uri_text (take (at + object_offset - (at + property_offset)) (drop (at + property_offset) page)))
      → given ≡ datatype_code r.datatype → code_leq given wanted ≡ well_typed S x
  unfolding schema_code well_typed
  typed-is wanted given f g =
      let n : at + object_offset - (at + property_offset) ≡ text_width = omega arith in
      let u : uri_text (take (at + object_offset - (at + property_offset)) (drop (at + property_offset) page)) ≡ some x.property = rw n r.property in
      let w : wanted ≡ code_of (datatype_in S x.property) = f ∙ ap₂ schema_code e u in
      let d = says-datatype r.datatype (part page (at + object_offset) (body_width r.datatype)) x.object r.object in
      ap₂ code_leq (g ∙ ap datatype_code (sym d)) w ∙ codes-fit S (datatype_in S x.property) x.object

  -- where the property has no entry
  pub untyped : schema_code (read_schema schema) (uri_text (take (at + object_offset - (at + property_offset)) (drop (at + property_offset) page))) ≡ 0 → false ≡ well_typed S x
  untyped z = sym (datatype-equal (λ d. code_leq (datatype_code d) 0) (λ d. false) tt r.datatype) ∙ typed-is 0 (datatype_code r.datatype) (sym z) refl

-- the codes of the five kinds
pub code_is : (k : ℕ) (key : ℕ) (d : Datatype) → k ≡ key → of_page_kind key ≡ some d → (e : Datatype) → of_page_kind k ≡ some e → datatype_code d ≡ datatype_code e
code_is k key d q h e f = ap datatype_code (some_is (sym h ∙ (ap of_page_kind (sym q) ∙ f)))

pub code-last : (k : ℕ) → (k ≡ 0x81 → ⊥) → (k ≡ 0x82 → ⊥) → (k ≡ 0x83 → ⊥) → (k ≡ 0x84 → ⊥) → (e : Datatype) → of_page_kind k ≡ some e → 4 ≡ datatype_code e
code-last k a b c d e =
    row-keys (λ j o. k ≡ j → o ≡ some e → 4 ≡ datatype_code e) k (kind_rows 0x80) none
    ((λ q f. absurd (a q)), ((λ q f. absurd (b q)), ((λ q f. absurd (c q)), ((λ q f. absurd (d q)), ((λ q f. ap datatype_code (some_is f)), tt)))))
    (λ q f. absurd (some-not-none f refl)) refl
