-- Values made of plain data.
use Prim.Native.Nat.{ℕ}
use mathlib.Core.Bool.{Bool, true, false, cond, not}
use mathlib.Core.List.{List, ◌++◌}
use mathlib.Core.Option.{none, some}
use mathlib.Core.Path.{◌≡◌, refl, sym, ap, ap₂, ◌∙◌, subst}
use native.Mathlib.Omega.{arith}
use lib.Dec.{T}
use lib.IntN.{ℤ, pos}
use lib.ListN.{length, drop, replicate}
use borrow.Author.Tests.{not-true, not-false}
use mir.Syntax.{w64}
use mir.Val.{SFits, to_z, of_z}
use mir.Facts.{to_z-of_z}
use Rattle.definitions.specs.Limits.{text_width, tag_width}
use Rattle.definitions.specs.Bytes.{filled, unfilled}
use Rattle.definitions.specs.Terms.{Text, field_text, uri_text, text_byte, tag_byte, within_limits, is_integer, is_decimal, is_date_time}
use Rattle.definitions.specs.Values.{Value as Meant}
use Rattle.laws.specs.ReadAnswers.{is_some}
use Rattle.laws.proofs.ReadAnswers.{is-some, is_none}
use Rattle.fields.proofs.PartLaws.{drop-replicate}
use Rattle.laws.proofs.Tests.{true_is}
use Rattle.laws.proofs.Options.{onward-some, onward-none}
use Rattle.values.specs.declared.Value.{Value}
use Rattle.values.specs.Meaning.{meaning, where?}
use Rattle.cases.specs.Made.{tagged_in, or_empty, uri_in}
use Rattle.values.specs.NumberKinds.{held, in_kind}
use Rattle.values.specs.Means.{Holds, plain_string}
use Rattle.values.proofs.ArithmeticLaws.{held-good, held-integer, held-decimal, where-inv, zero-tag, zero-text}
use Rattle.matching.proofs.FieldLaws.{field-text}
use Rattle.term_values.proofs.SlotLaws.{field-good, uri-good}

-- ── numbers ─────────────────────────────────────────────────────────────────────────────────

-- a number that is no value outside its kind's limits lies within them
limit : (k : ℕ) (m n : ℤ) → where? (in_kind k m) m ≡ some n → T (in_kind k n)
limit k m n e = let h = where-inv (in_kind k m) m n e in subst (λ z. T (in_kind k z)) h.1 h.0

module _ (n : ℤ) (fits : SFits w64 n) (r : Value) where
  pub integer-made : r ≡ held 5 (where? (is_integer (to_z w64 (of_z w64 n))) (to_z w64 (of_z w64 n))) → Holds r (Meant.integer (where? (is_integer n) n))
  integer-made e =
      let h : r ≡ held 5 (where? (is_integer n) n) = e ∙ ap (λ z. held 5 (where? (is_integer z) z)) (to_z-of_z fits) in
      record { good = rw h (held-good 5 (where? (is_integer n) n) (λ q. omega arith) (limit 5 n)); is = ap meaning h ∙ held-integer (where? (is_integer n) n) }

  pub decimal-made : r ≡ held 3 (where? (is_decimal (to_z w64 (of_z w64 n))) (to_z w64 (of_z w64 n))) → Holds r (Meant.decimal (where? (is_decimal n) n))
  decimal-made e =
      let h : r ≡ held 3 (where? (is_decimal n) n) = e ∙ ap (λ z. held 3 (where? (is_decimal z) z)) (to_z-of_z fits) in
      record { good = rw h (held-good 3 (where? (is_decimal n) n) (λ q. omega arith) (limit 3 n)); is = ap meaning h ∙ held-decimal (where? (is_decimal n) n) }

module _ (n : ℤ) (fits : SFits w64 n) (b : Bool) (test : b ≡ is_date_time (to_z w64 (of_z w64 n))) where
  in-time : b ≡ is_date_time n
  in-time = test ∙ ap is_date_time (to_z-of_z fits)

  pub time-good : b ≡ true → T (is_date_time (to_z w64 (of_z w64 n)))
  time-good e = rw (to_z-of_z fits) (true_is (is_date_time n) (sym in-time ∙ e))

  pub time-made : (r : Value) → b ≡ true → Holds r (Meant.date_time (to_z w64 (of_z w64 n))) → Holds r (Meant.date_time (cond (is_date_time n) n (pos 0)))
  time-made r e h = rw (sym in-time ∙ e) (subst (λ z. Holds r (Meant.date_time z)) (to_z-of_z fits) h)

  pub time-other : (r : Value) → b ≡ false → Holds r (Meant.date_time (pos 0)) → Holds r (Meant.date_time (cond (is_date_time n) n (pos 0)))
  time-other r e h = rw (sym in-time ∙ e) h

-- ── texts ───────────────────────────────────────────────────────────────────────────────────

no-string : Holds (plain_string false (replicate text_width 0)) (Meant.string none)
unfolding meaning within_limits
no-string = record { good = record { number = tt; integer = λ z. absurd (omega arith); date_time = λ z. absurd (omega arith); tag = zero-tag; text = zero-text }; is = refl }

module _ (tag text : List ℕ) where
  pub bad-tag : (b : Bool) → b ≡ is_some (field_text tag_byte tag_width tag) → not b ≡ true → Holds (plain_string false (replicate text_width 0)) (Meant.string (tagged_in tag text))
  unfolding tagged_in
  bad-tag b e h = rw (onward-none _ (is_none (field_text tag_byte tag_width tag) (sym e ∙ not-true b h))) no-string

  module _ (g : Bool) (eg : g ≡ is_some (field_text tag_byte tag_width tag)) (hg : not g ≡ false) where
    tagged : (t : Text) × (field_text tag_byte tag_width tag ≡ some t)
    tagged = is-some (field_text tag_byte tag_width tag) (sym eg ∙ not-false g hg)

    pub bad-text : (b : Bool) → b ≡ is_some (field_text text_byte text_width text) → not b ≡ true → Holds (plain_string false (replicate text_width 0)) (Meant.string (tagged_in tag text))
    unfolding tagged_in
    bad-text b e h = rw (onward-some _ tagged.1, onward-none _ (is_none (field_text text_byte text_width text) (sym e ∙ not-true b h))) no-string

    pub string-made : length tag ≡ tag_width → length text ≡ text_width → (b : Bool) → b ≡ is_some (field_text text_byte text_width text) → not b ≡ false
        → Holds (record { kind = 2; present = true; number = pos 0; tag = tag; text = text }) (Meant.string (tagged_in tag text))
    unfolding tagged_in meaning within_limits
    string-made lg lt b e h =
        let t = is-some (field_text text_byte text_width text) (sym e ∙ not-false b h) in
        rw (onward-some _ tagged.1, onward-some _ t.1)
        (record {
          good = record {
            number = tt;
            integer = λ z. absurd (omega arith);
            date_time = λ z. absurd (omega arith);
            tag = field-good tag_byte tag_width tag tagged.1 lg;
            text = field-good text_byte text_width text t.1 lt;
          };
          is = ap₂ (λ x y. Meant.string (some (record { tag = x; text = y }))) (field-text tag_byte tag_width tag tagged.1) (field-text text_byte text_width text t.1);
        })

module _ (text : List ℕ) (b : Bool) (e : b ≡ is_some (uri_text text)) where
  pub bad-uri : not b ≡ true → Holds (record { kind = 1; present = true; number = pos 0; tag = replicate tag_width 0; text = replicate text_width 0 }) (Meant.uri (uri_in text))
  unfolding meaning within_limits uri_in or_empty unfilled
  bad-uri h =
      rw (is_none (uri_text text) (sym e ∙ not-true b h))
      (record { good = record { number = tt; integer = λ z. absurd (omega arith); date_time = λ z. absurd (omega arith); tag = zero-tag; text = zero-text }; is = refl })

  pub uri-made : length text ≡ text_width → not b ≡ false → Holds (record { kind = 1; present = true; number = pos 0; tag = replicate tag_width 0; text = text }) (Meant.uri (uri_in text))
  unfolding meaning within_limits uri_in or_empty
  uri-made l h =
      let t = is-some (uri_text text) (sym e ∙ not-false b h) in
      let g = uri-good text t.0 t.1 l in
      rw t.1
      (record {
        good = record { number = tt; integer = λ z. absurd (omega arith); date_time = λ z. absurd (omega arith); tag = zero-tag; text = g.0 };
        is = ap Meant.uri g.1;
      })

-- ── a field that a text is copied into ──────────────────────────────────────────────────────

pub field-filled : (width : ℕ) (text field : List ℕ) → field ≡ text ++ drop (length text) (replicate width 0) → field ≡ filled width text
unfolding filled
field-filled width text field e = e ∙ ap (λ (l : List ℕ). text ++ l) (drop-replicate (length text) width)
