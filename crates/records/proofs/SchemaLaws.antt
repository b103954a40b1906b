-- Laws of the schema's datatypes and of least types.
use Prim.Native.Nat.{ℕ, ◌+◌, ◌-◌, ◌<◌, ◌≤◌}
use mathlib.Core.Bool.{Bool, true, false, cond}
use mathlib.Core.List.{List, ◌∷◌}
use mathlib.Core.Option.{Option, none, some}
use mathlib.Core.Path.{◌≡◌, refl, sym, ap, ap₂, ◌∙◌, subst}
use native.Mathlib.Omega.{arith}
use lib.Dec.{eqb}
use lib.ListN.{length, drop}
use borrow.Author.Tests.{ne_eqb}
use Rattle.definitions.specs.Limits.{text_width, slot_width, entry_width, uri_width}
use Rattle.definitions.specs.Bytes.{byte, part, same_bytes, all_zero, provided}
use Rattle.definitions.specs.Types.{Datatype, datatype_code, datatype_of_code, datatype_rows, type_code}
use Rattle.definitions.specs.Terms.{Text, Term, Entry, Schema, Sort, term_kind, body_width, uri_text, of_term_kind, term_of_body, body_of, slot_of, read_term, read_entry, datatype_in, sort_of}
use Rattle.definitions.specs.Terms.{is_integer, is_decimal, is_date_time}
use Rattle.definitions.specs.Saved.{slot_term}
use Rattle.laws.proofs.Options.{some_is, some-not-none, onward-inv, provided-inv}
use Rattle.laws.proofs.Bytes.{AreBytes}
use Rattle.laws.proofs.Reading.{row-keys}
use Rattle.laws.specs.Sorts.{least}
use Rattle.laws.proofs.Slots.{kind-inv, slot-inv}
use Rattle.laws.proofs.Valid.{uri-inv, string-inv, number-inv}
use Rattle.laws.specs.Records.{EntryAt, TermAt, records_at}
use Rattle.laws.proofs.RecordsAt.{entry-inv, term-inv, entry-forward, at-end}
use Rattle.laws.specs.ReadAnswers.{is_some}
use Rattle.fields.specs.Answers.{code_of, schema_code, least_code}
use Rattle.table.specs.Hashes.{uri_slot}
use Rattle.laws.proofs.ReadAnswers.{is-some}
use Rattle.fields.proofs.PartLaws.{some-part}
use Rattle.records.proofs.ListLaws.{good-one, here, rest, all_of}
use Rattle.fields.proofs.SameLaws.{Compared, same-uris, entry-ends}

-- ── the datatype of a property ──────────────────────────────────────────────────────────────

code-inv : (k : ℕ) (d : Datatype) → datatype_of_code k ≡ some d → datatype_code d ≡ k
code-inv k d = row-keys (λ k o. o ≡ some d → datatype_code d ≡ k) k datatype_rows none (is, (is, (is, (is, (is, tt))))) (λ e. absurd (some-not-none e refl))
  where
    is : {c : Datatype} → some c ≡ some d → datatype_code d ≡ datatype_code c
    is e = ap datatype_code (sym (some_is e))

positive : (d : Datatype) → 0 < datatype_code d
positive Datatype.any_uri = omega arith
positive Datatype.string = omega arith
positive Datatype.decimal = omega arith
positive Datatype.date_time = omega arith
positive Datatype.integer = omega arith

module _ (s : List ℕ) (at : ℕ) (u : List ℕ) (v : is_some (uri_text u) ≡ true) where
  pub code-end : length s ≤ at → schema_code (records_at read_entry s at) (uri_text u) ≡ 0
  unfolding schema_code datatype_in code_of
  code-end h = rw (at-end read_entry entry-forward s at h, (is-some (uri_text u) v).1)

  module _ (g : is_some (records_at read_entry s at) ≡ true) (h : at < length s) where
    good : is_some (read_entry s at) ≡ true
    good = good-one read_entry entry-forward s at g h

    first : Entry
    first = (here read_entry entry-forward s at g h (entry-ends s at good)).0

    others : Schema
    others = (rest read_entry entry-forward s at g h (entry-ends s at good)).0

    all_first : records_at read_entry s at ≡ some (first ∷ others)
    unfolding first others
    all_first = all_of read_entry entry-forward s at g h (entry-ends s at good)

    first_holds : EntryAt s at first (at + entry_width)
    unfolding first
    first_holds = let e = here read_entry entry-forward s at g h (entry-ends s at good) in entry-inv s at e.0 (at + entry_width) e.1

    -- an entry's datatype has a code
    pub code-high : 0 < byte s (at + 1 + text_width)
    code-high =
        let e : at + uri_width ≡ at + 1 + text_width = omega arith in
        omega (arith, positive first.datatype, code-inv (byte s (at + uri_width)) first.datatype first_holds.datatype, ap (byte s) e)

    module _ {r : Bool} (c : Compared (part s (at + 1) (at + 1 + text_width - (at + 1))) u r) where
      same : (t : Text) → uri_text u ≡ some t → r ≡ same_bytes first.property t
      same t e =
          let d : Compared (part s (at + 1) text_width) u r = rw (some-part s (at + 1) text_width) at c in
          same-uris (part s (at + 1) text_width) u first.property t first_holds.property e d

      pub code_here : r ≡ true → byte s (at + 1 + text_width) ≡ schema_code (records_at read_entry s at) (uri_text u)
      unfolding schema_code datatype_in code_of
      code_here q =
          let t = is-some (uri_text u) v in
          let e : at + 1 + text_width ≡ at + uri_width = omega arith in
          rw (all_first, t.1, sym (same t.0 t.1) ∙ q, e) (sym (code-inv (byte s (at + uri_width)) first.datatype first_holds.datatype))

      pub code-rest : r ≡ false → schema_code (records_at read_entry s at) (uri_text u) ≡ schema_code (records_at read_entry s (at + entry_width)) (uri_text u)
      unfolding schema_code datatype_in others
      code-rest q =
          let t = is-some (uri_text u) v in
          let o = (rest read_entry entry-forward s at g h (entry-ends s at good)).1 in
          rw (all_first, o, t.1, sym (same t.0 t.1) ∙ q)

-- ── the least type of a slot's term ─────────────────────────────────────────────────────────

-- what a slot's term is, by its kind
module _ (slot : List ℕ) (g : is_some (slot_term slot) ≡ true) where
  pub term : (t : Term) × (slot_term slot ≡ some t)
  term = is-some (slot_term slot) g

  pub slot-holds : (n : ℕ) × TermAt slot 0 term.0 n
  unfolding slot_term
  slot-holds =
      let r = onward-inv (read_term slot 0) (λ r. provided (all_zero (drop r.1 slot)) (some r.0)) term.1 in
      let p = provided-inv (all_zero (drop r.0.1 slot)) (some r.0.0) r.2 in
      (r.0.1, subst (λ (t : Term). TermAt slot 0 t r.0.1) (some_is p.1) (term-inv slot 0 r.0.0 r.0.1 r.1))

  kind-is : term_kind slot-holds.1.datatype ≡ byte slot 0
  kind-is = kind-inv (byte slot 0) slot-holds.1.datatype slot-holds.1.kind

  -- at a datatype
  of-datatype : (d : Datatype) → slot-holds.1.datatype ≡ d → term_of_body d (part slot 1 (body_width d)) ≡ some term.0
  of-datatype d e = subst (λ (d : Datatype). term_of_body d (part slot 1 (body_width d)) ≡ some term.0) e slot-holds.1.body

  datatype-at : (k : ℕ) (d : Datatype) → of_term_kind k ≡ some d → byte slot 0 ≡ k → slot-holds.1.datatype ≡ d
  datatype-at k d e q = some_is (sym slot-holds.1.kind ∙ ap (λ (k : ℕ). of_term_kind k) q ∙ e)

  -- a URI's
  module _ (q : byte slot 0 ≡ 0x11) where
    uri-of : (u : Text) × (uri_text (part slot 1 text_width) ≡ some u) × (term.0 ≡ Term.uri u)
    unfolding term_of_body
    uri-of =
        let i = onward-inv (uri_text (part slot 1 text_width)) (λ u. some (Term.uri u)) (of-datatype Datatype.any_uri (datatype-at 0x11 Datatype.any_uri refl q)) in
        (i.0, i.1, sym (some_is i.2))

    pub uri-field : is_some (uri_text (part slot 1 text_width)) ≡ true
    uri-field = rw uri-of.1

    -- the slot is that of its field
    pub uri-slot : length slot ≡ slot_width → AreBytes slot → slot ≡ uri_slot (part slot 1 text_width)
    unfolding slot_of body_of
    uri-slot l b =
        sym (slot-inv slot term.0 l b term.1).0
        ∙ ap slot_of uri-of.2
        ∙ ap uri_slot (uri-inv (part slot 1 text_width) uri-of.0 uri-of.1).0.whole

-- a literal has its own datatype
literal-code : (S : Schema) (d : Datatype) (b : List ℕ) (t : Term) → (datatype_code d ≡ 1 → ⊥) → term_of_body d b ≡ some t → type_code (least (sort_of S t)) ≡ datatype_code d
unfolding term_of_body least sort_of
literal-code S Datatype.any_uri b t n e = absurd (n refl)
literal-code S Datatype.string b t n e = rw (string-inv b t e).2
literal-code S Datatype.decimal b t n e = rw (number-inv is_decimal Term.decimal b t e).0
literal-code S Datatype.date_time b t n e = rw (number-inv is_date_time Term.date_time b t e).0
literal-code S Datatype.integer b t n e = rw (number-inv is_integer Term.integer b t e).0

uri-code : (o : Option Datatype) → type_code (least (Sort.uri o)) ≡ cond (eqb (code_of o) 0) 1 (8 + code_of o)
unfolding least code_of
uri-code none = refl
uri-code (some Datatype.any_uri) = refl
uri-code (some Datatype.string) = refl
uri-code (some Datatype.decimal) = refl
uri-code (some Datatype.date_time) = refl
uri-code (some Datatype.integer) = refl

uri-type : (S : Schema) (u : Text) {t : Term} {o : Option Schema} {p : Option Text} → t ≡ Term.uri u → o ≡ some S → p ≡ some u
    → type_code (least (sort_of S t)) ≡ cond (eqb (schema_code o p) 0) 1 (8 + schema_code o p)
unfolding sort_of schema_code
uri-type S u e f g = rw (e, f, g) (uri-code (datatype_in S u))

module _ (o : Option Schema) (f : is_some o ≡ true) (slot : List ℕ) (g : is_some (slot_term slot) ≡ true) where
  schema : (S : Schema) × (o ≡ some S)
  schema = is-some o f

  least-is : least_code o (slot_term slot) ≡ type_code (least (sort_of schema.0 (term slot g).0))
  unfolding least_code
  least-is = ap₂ least_code schema.1 (term slot g).1

  pub least-literal : (k : ℕ) (d : Datatype) → byte slot 0 ≡ k → of_term_kind k ≡ some d → (datatype_code d ≡ 1 → ⊥) → datatype_code d ≡ least_code o (slot_term slot)
  least-literal k d q e n =
      sym (least-is ∙ literal-code schema.0 d (part slot 1 (body_width d)) (term slot g).0 n (of-datatype slot g d (datatype-at slot g k d e q)))

  -- the last kind
  pub least-last : (byte slot 0 ≡ 0x11 → ⊥) → (byte slot 0 ≡ 0x12 → ⊥) → (byte slot 0 ≡ 0x13 → ⊥) → (byte slot 0 ≡ 0x14 → ⊥) → 4 ≡ least_code o (slot_term slot)
  least-last a b c d = least-literal 0x15 Datatype.date_time (go (slot-holds slot g).1.datatype (kind-is slot g)) refl (λ e. omega arith)
    where
      go : (x : Datatype) → term_kind x ≡ byte slot 0 → byte slot 0 ≡ 0x15
      go Datatype.any_uri e = absurd (a (sym e))
      go Datatype.string e = absurd (b (sym e))
      go Datatype.decimal e = absurd (d (sym e))
      go Datatype.date_time e = sym e
      go Datatype.integer e = absurd (c (sym e))

  -- a URI
  module _ (q : byte slot 0 ≡ 0x11) where
    uri-least : least_code o (slot_term slot) ≡ cond (eqb (schema_code o (uri_text (part slot 1 text_width))) 0) 1 (8 + schema_code o (uri_text (part slot 1 text_width)))
    uri-least = least-is ∙ let u = uri-of slot g q in uri-type schema.0 u.0 u.2 schema.1 u.1

    module _ {d : ℕ} (e : d ≡ schema_code o (uri_text (part slot 1 text_width))) where
      pub no-schema-uri : d ≡ 0 → 1 ≡ least_code o (slot_term slot)
      no-schema-uri z = sym (uri-least ∙ rw (← e, z))

      pub schema-uri : (d ≡ 0 → ⊥) → 8 + d ≡ least_code o (slot_term slot)
      schema-uri n = sym (uri-least ∙ rw (← e, ne_eqb d 0 n))

-- a code is small
pub code-small : (o : Option Schema) (u : Option Text) → schema_code o u ≤ 5
unfolding schema_code
code-small none u = omega arith
code-small (some S) none = omega arith
code-small (some S) (some u) = go (datatype_in S u)
  where
    go : (d : Option Datatype) → code_of d ≤ 5
    go none = unfold code_of in omega arith
    go (some Datatype.any_uri) = unfold code_of in omega arith
    go (some Datatype.string) = unfold code_of in omega arith
    go (some Datatype.decimal) = unfold code_of in omega arith
    go (some Datatype.date_time) = unfold code_of in omega arith
    go (some Datatype.integer) = unfold code_of in omega arith
