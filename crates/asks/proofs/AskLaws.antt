-- Laws of what a record asks, for each way through the code.
use Prim.Native.Nat.{ℕ, ◌+◌, ◌-◌, ◌≤◌, ◌<◌}
use native.Mathlib.Omega.{arith}
use mathlib.Core.Path.{◌≡◌, refl, sym, ap, ap₂, subst, ◌∙◌}
use mathlib.Core.List.{List, [], ◌∷◌, ◌++◌}
use mathlib.Core.Bool.{Bool, true, false, cond, not, ◌&&◌, and_assoc}
use mathlib.Core.Option.{Option, none, some}
use lib.Dec.{T, eqb, leb, leb→le}
use lib.ListN.{length, take, drop, replicate, get_elem?}
use borrow.Author.Tests.{not-true, not-false}
use Rattle.definitions.specs.Limits.{text_width, property_offset, object_offset}
use Rattle.definitions.specs.Ascii.{ascii}
use Rattle.definitions.specs.Lists.{every}
use Rattle.definitions.specs.Bytes.{byte, part, same_bytes, all_zero, filled, provided}
use Rattle.definitions.specs.Types.{Datatype, any_uri, string, decimal, date_time, integer, datatype_code, datatype_name}
use Rattle.definitions.specs.Terms.{Text, Term, Triple, uri_byte, is_integer, is_decimal, is_date_time, term_kind, kind_rows, of_page_kind, body_width, uri_text, term_of_body}
use Rattle.definitions.specs.Gathering.{named, named_or_uri, asks_of_uri, asks}
use Rattle.laws.specs.Records.{TripleAt}
use Rattle.laws.specs.Valid.{ValidURI}
use Rattle.laws.proofs.Tests.{and_left, and_right, true_is}
use Rattle.laws.proofs.Options.{some_is, some-not-none, onward-inv}
use Rattle.laws.proofs.Equality.{same_bytes_lem}
use Rattle.laws.proofs.Reading.{row-keys}
use Rattle.laws.proofs.TestEquations.{eqb_swap}
use Rattle.laws.proofs.Valid.{string-inv, number-inv}
use Rattle.laws.proofs.Slots.{uri-of}
use Rattle.std.specs.Prelude.{Some, None}
use Rattle.fields.specs.Answers.{code_of, code_if}
use Rattle.fields.proofs.NumberLaws.{code-some, code-none}
use Rattle.fields.proofs.PartLaws.{rest_part, some-part}
use Rattle.fields.proofs.SameLaws.{same-uris, compared}

-- ── a field compared with a text ────────────────────────────────────────────────────────────

field-zeros : (bs : List ℕ) → same_bytes bs (replicate (length bs) 0) ≡ all_zero bs
field-zeros [] = refl
field-zeros (b ∷ bs) = ap₂ ◌&&◌ (eqb_swap b 0) (field-zeros bs)

same-front : (field text : List ℕ) (k : ℕ) → length field ≡ length text + k
    → same_bytes field (text ++ replicate k 0) ≡ (same_bytes (take (length text) field) text && all_zero (drop (length text) field))
same-front field [] k e =
    let n : k ≡ length field = omega arith in
    ap (λ (n : ℕ). same_bytes field (replicate n 0)) n ∙ field-zeros field
same-front [] (t ∷ text) k e = absurd (omega arith)
same-front (b ∷ field) (t ∷ text) k e =
    ap (λ r. eqb b t && r) (same-front field text k (omega arith))
    ∙ sym (and_assoc (eqb b t) (same_bytes (take (length text) field) text) (all_zero (drop (length text) field)))

module _ (field text : List ℕ) (l : length field ≡ text_width) (m : length text ≤ text_width) {r : Bool} (e : r ≡ same_bytes (take (length text) field) text) where
  whole : same_bytes field (filled text_width text) ≡ (r && all_zero (drop (length text) field))
  unfolding filled
  whole =
      same-front field text (text_width - length text) (omega arith)
      ∙ ap (λ t. t && all_zero (drop (length text) field)) (sym e)

  pub text-not : not r ≡ true → false ≡ same_bytes field (filled text_width text)
  text-not h = sym (whole ∙ ap (λ t. t && all_zero (drop (length text) field)) (not-true r h))

  pub text-rest : not r ≡ false → {z : Bool} → z ≡ all_zero (part field (length text) (length field - length text)) → z ≡ same_bytes field (filled text_width text)
  text-rest h q =
      q ∙ ap all_zero (rest_part field (length text))
      ∙ sym (whole ∙ ap (λ t. t && all_zero (drop (length text) field)) (not-false r h))

-- a URI field is a text where its URI is
abbrev good : Text → Bool
good t = every uri_byte t && (leb (length t) text_width && leb 1 (length t))

pub text-is : (field : List ℕ) (u t : Text) → uri_text field ≡ some u → T (good t) → {r : Bool} → r ≡ same_bytes field (filled text_width t) → r ≡ same_bytes u t
text-is field u t e g {r} q =
    let sizes = and_right (every uri_byte t) (leb (length t) text_width && leb 1 (length t)) g in
    let v : ValidURI t = (
      record {
        good = and_left (every uri_byte t) (leb (length t) text_width && leb 1 (length t)) g;
        fits = leb→le (length t) text_width (and_left (leb (length t) text_width) (leb 1 (length t)) sizes);
      },
      leb→le 1 (length t) (and_right (leb (length t) text_width) (leb 1 (length t)) sizes),
    ) in
    same-uris field (filled text_width t) u t e (uri-of t v) (compared field (filled text_width t) r q)

-- ── a range ─────────────────────────────────────────────────────────────────────────────────

named-of : (d : Datatype) → named (datatype_name d) ≡ some d
unfolding named datatype_name ascii
named-of any_uri = refl
named-of string = refl
named-of decimal = refl
named-of date_time = refl
named-of integer = refl

module _ (u : Text) where
  pub range-named : (d : Datatype) → same_bytes u (datatype_name d) ≡ true → datatype_code d ≡ datatype_code (named_or_uri (named u))
  range-named d e =
      let is = same_bytes_lem u (datatype_name d) (true_is (same_bytes u (datatype_name d)) e) in
      ap (λ (o : Option Datatype). datatype_code (named_or_uri o)) (sym (named-of d) ∙ ap named (sym is))

  pub range_other : same_bytes u (datatype_name string) ≡ false → same_bytes u (datatype_name decimal) ≡ false → same_bytes u (datatype_name date_time) ≡ false
      → same_bytes u (datatype_name integer) ≡ false → 1 ≡ datatype_code (named_or_uri (named u))
  unfolding named
  range_other a b c d = rw (a, b, c, d) (go (same_bytes u (datatype_name any_uri)))
    where
      go : (t : Bool) → 1 ≡ datatype_code (named_or_uri (get_elem? (cond t (any_uri ∷ []) []) 0))
      go true = refl
      go false = refl

-- ── a record ────────────────────────────────────────────────────────────────────────────────

page-kind : (k : ℕ) (d : Datatype) → of_page_kind k ≡ some d → 0x70 + term_kind d ≡ k
page-kind k d =
    row-keys (λ k o. o ≡ some d → 0x70 + term_kind d ≡ k) k (kind_rows 0x80) none (is, (is, (is, (is, (is, tt))))) (λ e. absurd (some-not-none e refl))
  where
    is : {c : Datatype} → some c ≡ some d → 0x70 + term_kind d ≡ 0x70 + term_kind c
    is e = ap (λ (d : Datatype). 0x70 + term_kind d) (sym (some_is e))

-- an object that is no URI asks nothing
literal-asks : (p : Text) (d : Datatype) (b : List ℕ) (t : Term) → (term_kind d ≡ 0x11 → ⊥) → term_of_body d b ≡ some t → 0 ≡ code_of (asks p t)
unfolding term_of_body asks code_of
literal-asks p Datatype.any_uri b t n e = absurd (n refl)
literal-asks p Datatype.string b t n e = rw (string-inv b t e).2
literal-asks p Datatype.decimal b t n e = rw (number-inv is_decimal Term.decimal b t e).0
literal-asks p Datatype.date_time b t n e = rw (number-inv is_date_time Term.date_time b t e).0
literal-asks p Datatype.integer b t n e = rw (number-inv is_integer Term.integer b t e).0

-- as the code answers it
positive : (d : Datatype) → 0 < datatype_code d
positive any_uri = omega arith
positive string = omega arith
positive decimal = omega arith
positive date_time = omega arith
positive integer = omega arith

pub asks-none : {k : ℕ} → 0 ≡ k → None ≡ code_if k
asks-none {k} e = code-none k (sym e)

pub asks-some : {c k : ℕ} → 0 < c → c ≡ k → Some c ≡ code_if k
asks-some {c} {k} h e = ap Some e ∙ code-some k (omega arith)

module _ (page : List ℕ) (at next : ℕ) (x : Triple) (h : TripleAt page at x next) where
  pub no-uri : (byte page at ≡ 0x81 → ⊥) → 0 ≡ code_of (asks x.property x.object)
  no-uri n =
      literal-asks x.property h.datatype (part page (at + object_offset) (body_width h.datatype)) x.object
      (λ e. n (omega (arith, e, page-kind (byte page at) h.datatype h.kind))) h.object

  module _ (k : byte page at ≡ 0x81) where
    pub is-uri : h.datatype ≡ any_uri
    is-uri = some_is (sym h.kind ∙ ap (λ (k : ℕ). of_page_kind k) k)

    pub uri-inside : at + object_offset + text_width ≤ length page
    uri-inside = omega (arith, h.ends, h.fits, ap body_width is-uri)

    object_of : (u : Text) × (uri_text (part page (at + object_offset) text_width) ≡ some u) × (x.object ≡ Term.uri u)
    unfolding term_of_body
    object_of =
        let e = subst (λ (d : Datatype). term_of_body d (part page (at + object_offset) (body_width d)) ≡ some x.object) is-uri h.object in
        let i = onward-inv (uri_text (part page (at + object_offset) text_width)) (λ u. some (Term.uri u)) e in
        (i.0, i.1, sym (some_is i.2))

    asks_of : asks x.property x.object ≡ asks_of_uri x.property object_of.0
    unfolding asks
    asks_of = ap (asks x.property) object_of.2

    -- the fields as the code hands them on
    property-uri : uri_text (part page (at + property_offset) (at + object_offset - (at + property_offset))) ≡ some x.property
    property-uri = let e : at + object_offset - (at + property_offset) ≡ text_width = omega arith in rw e h.property

    object-uri : uri_text (part page (at + object_offset) (at + object_offset + text_width - (at + object_offset))) ≡ some object_of.0
    object-uri = ap uri_text (some-part page (at + object_offset) text_width) ∙ object_of.1

    module _ {r : Bool} (e : r ≡ same_bytes (part page (at + property_offset) (at + object_offset - (at + property_offset))) (filled text_width (ascii "rdfs:range"))) where
      ranged : r ≡ same_bytes x.property (ascii "rdfs:range")
      ranged =
          text-is (part page (at + property_offset) (at + object_offset - (at + property_offset))) x.property (ascii "rdfs:range") property-uri (unfold ascii in tt) e

      pub range-asks : r ≡ true → {c : ℕ}
          → ((u : Text) → uri_text (part page (at + object_offset) (at + object_offset + text_width - (at + object_offset))) ≡ some u → c ≡ datatype_code (named_or_uri (named u)))
          → Some c ≡ code_if (code_of (asks x.property x.object))
      range-asks q {c} f = asks-some (omega (arith, f object_of.0 object-uri, positive (named_or_uri (named object_of.0)))) (f object_of.0 object-uri ∙ sym (ap code_of asks_of ∙ here x.property object_of.0 (sym ranged ∙ q)))
        where
          here : (p u : Text) → same_bytes p (ascii "rdfs:range") ≡ true → code_of (asks_of_uri p u) ≡ datatype_code (named_or_uri (named u))
          here p u e = unfold asks_of_uri code_of in rw (asks_of_uri, e)

      module _ (no : r ≡ false) where
        kind-asks : asks x.property x.object
            ≡ provided (same_bytes x.property (ascii "rdf:type") && same_bytes object_of.0 (ascii "owl:ObjectProperty")) (some any_uri)
        kind-asks = asks_of ∙ here x.property object_of.0 (sym ranged ∙ no)
          where
            here : (p u : Text) → same_bytes p (ascii "rdfs:range") ≡ false
                → asks_of_uri p u ≡ provided (same_bytes p (ascii "rdf:type") && same_bytes u (ascii "owl:ObjectProperty")) (some any_uri)
            here p u e = unfold asks_of_uri in rw (asks_of_uri, e)

        module _ {t : Bool} (f : t ≡ same_bytes (part page (at + property_offset) (at + object_offset - (at + property_offset))) (filled text_width (ascii "rdf:type"))) where
          kinded : t ≡ same_bytes x.property (ascii "rdf:type")
          kinded =
              text-is (part page (at + property_offset) (at + object_offset - (at + property_offset))) x.property (ascii "rdf:type") property-uri (unfold ascii in tt) f

          pub no_kind : not t ≡ true → 0 ≡ code_of (asks x.property x.object)
          unfolding code_of provided
          no_kind q =
              sym (ap code_of (kind-asks ∙ ap (λ (b : Bool). provided (b && same_bytes object_of.0 (ascii "owl:ObjectProperty")) (some any_uri)) (sym kinded ∙ not-true t q)))

          kind-told : not t ≡ false → {o : Bool}
              → o ≡ same_bytes (part page (at + object_offset) (at + object_offset + text_width - (at + object_offset))) (filled text_width (ascii "owl:ObjectProperty"))
              → code_of (provided o (some any_uri)) ≡ code_of (asks x.property x.object)
          kind-told q {o} g =
              let is = text-is (part page (at + object_offset) (at + object_offset + text_width - (at + object_offset))) object_of.0 (ascii "owl:ObjectProperty") object-uri
              (unfold ascii in tt) g in
              sym (ap code_of (kind-asks ∙ (λ i. provided ((sym kinded ∙ not-false t q) i && sym is i) (some any_uri))))

          module _ (q : not t ≡ false) {o : Bool}
              (g : o ≡ same_bytes (part page (at + object_offset) (at + object_offset + text_width - (at + object_offset))) (filled text_width (ascii "owl:ObjectProperty"))) where
            pub kind-yes : o ≡ true → 1 ≡ code_of (asks x.property x.object)
            unfolding code_of provided
            kind-yes y = ap (λ (b : Bool). code_of (provided b (some any_uri))) (sym y) ∙ kind-told q g

            pub kind-no : o ≡ false → 0 ≡ code_of (asks x.property x.object)
            unfolding code_of provided
            kind-no y = ap (λ (b : Bool). code_of (provided b (some any_uri))) (sym y) ∙ kind-told q g
