-- The value of a term that stands in a slot.
use Prim.Native.Nat.{ℕ, ◌+◌, ◌-◌, ◌≤◌}
use mathlib.Core.Bool.{Bool, true, false, cond, ◌&&◌}
use mathlib.Core.List.{List, [], ◌++◌, append-nil}
use mathlib.Core.Option.{none, some}
use mathlib.Core.Path.{◌≡◌, refl, sym, ap, ap₂, ◌∙◌, subst}
use native.Mathlib.Omega.{arith}
use lib.Dec.{T, eqb, leb}
use lib.IntN.{ℤ, pos}
use lib.ListN.{length, take, drop, replicate, length-drop, drop_of_length-le}
use lib.Seq.{take-take, take-length, drop-drop, take_all}
use mir.Syntax.{w64}
use mir.Val.{SFits, to_z, of_z}
use mir.Facts.{to_z-of_z}
use borrow.Author.Tests.{ne_eqb}
use Rattle.definitions.specs.Limits.{text_width, tag_width, number_width, slot_width}
use Rattle.definitions.specs.Lists.{every}
use Rattle.definitions.specs.Bytes.{byte, part, signed, little, filled, unfilled, same_bytes, all_zero, provided, onward}
use Rattle.definitions.specs.Types.{Datatype}
use Rattle.definitions.specs.Terms.{Term, Text, field_text, uri_text, uri_byte, text_byte, tag_byte, is_integer, is_decimal, is_date_time, within_limits, of_term_kind, body_width, body_at, term_of_body, read_term}
use Rattle.definitions.specs.Saved.{slot_term}
use Rattle.definitions.specs.Values.{value_of, Value as Meant}
use Rattle.laws.proofs.Bytes.{part_length}
use Rattle.laws.proofs.Tests.{and_left, and_right}
use Rattle.laws.proofs.Options.{some_is, some-not-none, same_some, provided-inv, onward-inv}
use Rattle.laws.proofs.Equality.{same_bytes_lem}
use Rattle.laws.proofs.Valid.{number-inv, body-at-inv}
use Rattle.values.specs.declared.Value.{Value}
use Rattle.values.specs.Meaning.{meaning, where?, Field}
use Rattle.values.specs.NumberKinds.{held}
use Rattle.values.specs.Means.{Holds}
use Rattle.values.proofs.ArithmeticLaws.{held-good, held-integer, held-decimal, date_time-decimal, zero-tag, zero-text}
use Rattle.fields.proofs.PartLaws.{some-part, part-long}
use Rattle.matching.proofs.FieldLaws.{field-text, every-wider, between-wider}

-- ── parts ───────────────────────────────────────────────────────────────────────────────────

-- an array that a copy has filled whole
pub copied : (s : List ℕ) (at n : ℕ) (new : List ℕ) → new ≡ part s at (at + n - at) → new ≡ part s at n
copied s at n new e = e ∙ some-part s at n

-- ── fields ──────────────────────────────────────────────────────────────────────────────────

pub field-good : (ok : ℕ → Bool) (width : ℕ) (f : List ℕ) {t : Text} → field_text ok width f ≡ some t → length f ≡ width → Field ok width f
unfolding field_text
field-good ok width f e l =
    let p = (provided-inv (every ok (unfilled f) && same_bytes (filled width (unfilled f)) f) (some (unfilled f)) e).0 in
    record {
      size = l;
      bytes = and_left (every ok (unfilled f)) (same_bytes (filled width (unfilled f)) f) p;
      whole = same_bytes_lem (filled width (unfilled f)) f (and_right (every ok (unfilled f)) (same_bytes (filled width (unfilled f)) f) p);
    }

pub uri-good : (f : List ℕ) (u : Text) → uri_text f ≡ some u → length f ≡ text_width → Field text_byte text_width f × (unfilled f ≡ u)
unfolding uri_text
uri-good f u e l =
    let o = onward-inv (field_text uri_byte text_width f) (λ t. provided (leb 1 (length t)) (some t)) e in
    let p = provided-inv (leb 1 (length o.0)) (some o.0) o.2 in
    let g = field-good uri_byte text_width f o.1 l in (
      record {
        size = g.size;
        bytes = every-wider uri_byte text_byte (λ b. between-wider 0x21 0x7E 0x20 0x7E b (omega arith) (omega arith)) (unfilled f) g.bytes;
        whole = g.whole;
      },
      field-text uri_byte text_width f o.1 ∙ some_is p.1,
    )

-- ── what a slot holds ───────────────────────────────────────────────────────────────────────

pub record Slot (f : List ℕ) (t : Term) : Type 0 where
  pub datatype : Datatype
  pub kind : of_term_kind (byte f 0) ≡ some datatype
  pub body : term_of_body datatype (part f 1 (body_width datatype)) ≡ some t

slot-inv : (f : List ℕ) (t : Term) → slot_term f ≡ some t → Slot f t
unfolding slot_term read_term
slot-inv f t e =
    let o = onward-inv (read_term f 0) (λ r. provided (all_zero (drop r.1 f)) (some r.0)) e in
    let p = provided-inv (all_zero (drop o.0.1 f)) (some o.0.0) o.2 in
    let d = onward-inv (of_term_kind (byte f 0)) (λ d. body_at d f (0 + 1)) o.1 in
    let b = body-at-inv d.0 f 1 o.0.0 o.0.1 d.2 in
    record { datatype = d.0; kind = d.1; body = b.1 ∙ ap some (some_is p.1) }

-- the body of a kind
body-of : (f : List ℕ) (t : Term) (d : Datatype) → of_term_kind (byte f 0) ≡ some d → slot_term f ≡ some t → term_of_body d (part f 1 (body_width d)) ≡ some t
body-of f t d k e = let s = slot-inv f t e in subst (λ x. term_of_body x (part f 1 (body_width x)) ≡ some t) (same_some s.kind k) s.body

-- the last of the kinds
last-kind : (n : ℕ) (d : Datatype) → (n ≡ 17 → ⊥) → (n ≡ 18 → ⊥) → (n ≡ 19 → ⊥) → (n ≡ 20 → ⊥) → of_term_kind n ≡ some d → d ≡ Datatype.date_time
last-kind n d a b c x e = go (eqb n 21) (rw (ne_eqb n 17 a, ne_eqb n 18 b, ne_eqb n 19 c, ne_eqb n 20 x) at e)
  where
    go : (t : Bool) → cond t (some Datatype.date_time) none ≡ some d → d ≡ Datatype.date_time
    go true h = sym (some_is h)
    go false h = absurd (some-not-none h refl)

-- ── values ──────────────────────────────────────────────────────────────────────────────────

pub number-held : (k : ℕ) (r : Value) (n : ℤ) (v : ℕ) (b : List ℕ) → SFits w64 n → n ≡ signed v → v ≡ little b → r ≡ held k (where? true (to_z w64 (of_z w64 n))) → r ≡ held k (some (signed (little b)))
number-held k r n v b fits en ev e = e ∙ ap (λ z. held k (some z)) (to_z-of_z fits ∙ (en ∙ ap signed ev))

module _ (f : List ℕ) (size : length f ≡ slot_width) where
  pub uri-holds : byte f 0 ≡ 17 → (x : List ℕ) → x ≡ part f 1 text_width → (t : Term) → slot_term f ≡ some t
      → Holds (record { kind = 1; present = true; number = pos 0; tag = replicate tag_width 0; text = x }) (value_of t)
  unfolding term_of_body value_of meaning within_limits
  uri-holds k x ex t e =
      let o = onward-inv (uri_text (part f 1 text_width)) (λ u. some (Term.uri u)) (body-of f t Datatype.any_uri (ap of_term_kind k) e) in
      let g = uri-good (part f 1 text_width) o.0 o.1 (part_length f 1 text_width (omega arith)) in
      rw (ex, ← some_is o.2)
      (record {
        good = record { number = tt; integer = λ z. absurd (omega arith); date_time = λ z. absurd (omega arith); tag = zero-tag; text = g.0 };
        is = ap Meant.uri g.1;
      })

  tag-part : part (part f 1 (tag_width + text_width)) 0 tag_width ≡ part f 1 tag_width
  tag-part = take-take tag_width (tag_width + text_width) (drop 1 f) (omega arith)

  text-part : part (part f 1 (tag_width + text_width)) tag_width text_width ≡ part f (1 + tag_width) text_width
  text-part = ap (λ l. take text_width (drop tag_width l)) (take_all (tag_width + text_width) (drop 1 f) (omega (arith, length-drop 1 f))) ∙ ap (take text_width) (drop-drop tag_width 1 f)

  pub string-holds : byte f 0 ≡ 18 → (x y : List ℕ) → x ≡ part f 1 tag_width → y ≡ part f (1 + tag_width) text_width → (t : Term) → slot_term f ≡ some t
      → Holds (record { kind = 2; present = true; number = pos 0; tag = x; text = y }) (value_of t)
  unfolding term_of_body value_of meaning within_limits
  string-holds k x y ex ey t e =
      let tag = part (part f 1 (tag_width + text_width)) 0 tag_width in
      let text = part (part f 1 (tag_width + text_width)) tag_width text_width in
      let g = onward-inv (field_text tag_byte tag_width tag) (λ g. onward (field_text text_byte text_width text) (λ u. some (Term.string g u))) (body-of f t Datatype.string (ap of_term_kind k) e) in
      let u = onward-inv (field_text text_byte text_width text) (λ u. some (Term.string g.0 u)) g.2 in
      rw (ex ∙ sym tag-part, ey ∙ sym text-part, ← some_is u.2)
      (record {
        good = record {
          number = tt;
          integer = λ z. absurd (omega arith);
          date_time = λ z. absurd (omega arith);
          tag = field-good tag_byte tag_width tag g.1 (ap length tag-part ∙ part_length f 1 tag_width (omega arith));
          text = field-good text_byte text_width text u.1 (ap length text-part ∙ part_length f (1 + tag_width) text_width (omega arith));
        };
        is = ap₂ (λ a b. Meant.string (some (record { tag = a; text = b }))) (field-text tag_byte tag_width tag g.1) (field-text text_byte text_width text u.1);
      })

  module _ (r : Value) (t : Term) (e : slot_term f ≡ some t) where
    pub integer-holds : byte f 0 ≡ 19 → r ≡ held 5 (some (signed (little (part f 1 number_width)))) → Holds r (value_of t)
    unfolding term_of_body value_of
    integer-holds k h =
        let i = number-inv is_integer Term.integer (part f 1 number_width) t (body-of f t Datatype.integer (ap of_term_kind k) e) in
        let z = signed (little (part f 1 number_width)) in
        rw (h, i.0) (record { good = held-good 5 (some z) (λ q. omega arith) (λ m q. subst (λ w. T (is_integer w)) (some_is q) i.1); is = held-integer (some z) })

    pub decimal-holds : byte f 0 ≡ 20 → r ≡ held 3 (some (signed (little (part f 1 number_width)))) → Holds r (value_of t)
    unfolding term_of_body value_of
    decimal-holds k h =
        let i = number-inv is_decimal Term.decimal (part f 1 number_width) t (body-of f t Datatype.decimal (ap of_term_kind k) e) in
        let z = signed (little (part f 1 number_width)) in
        rw (h, i.0) (record { good = held-good 3 (some z) (λ q. omega arith) (λ m q. subst (λ w. T (is_decimal w)) (some_is q) i.1); is = held-decimal (some z) })

    pub date_time-holds : (byte f 0 ≡ 17 → ⊥) → (byte f 0 ≡ 18 → ⊥) → (byte f 0 ≡ 19 → ⊥) → (byte f 0 ≡ 20 → ⊥) → r ≡ held 4 (some (signed (little (part f 1 number_width)))) → Holds r (value_of t)
    unfolding term_of_body value_of held meaning
    date_time-holds a b c d h =
        let s = slot-inv f t e in
        let k : of_term_kind (byte f 0) ≡ some Datatype.date_time = s.kind ∙ ap some (last-kind (byte f 0) s.datatype a b c d s.kind) in
        let i = number-inv is_date_time Term.date_time (part f 1 number_width) t (body-of f t Datatype.date_time k e) in
        rw (h, i.0)
        (record {
          good = record { number = date_time-decimal (signed (little (part f 1 number_width))) i.1; integer = λ z. absurd (omega arith); date_time = λ z. i.1; tag = zero-tag; text = zero-text };
          is = refl;
        })
