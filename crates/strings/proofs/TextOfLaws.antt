-- str of every kind.
use Prim.Native.Nat.{ℕ}
use mathlib.Core.Bool.{Bool, true, false}
use mathlib.Core.List.{List, []}
use mathlib.Core.Path.{◌≡◌, refl, ap, ◌∙◌}
use mir.Syntax.{w64}
use mir.Val.{to_z, of_z}
use Rattle.definitions.specs.Limits.{text_width}
use Rattle.definitions.specs.Bytes.{unfilled}
use Rattle.definitions.specs.Terms.{Text, text_byte, within_limits}
use Rattle.definitions.specs.Calendar.{date_time_text}
use Rattle.definitions.specs.Values.{text_of, integer_text, decimal_text, Value as Meant}
use Rattle.values.specs.declared.Value.{Value}
use Rattle.strings.specs.declared.line.Line.{Line}
use Rattle.values.specs.Meaning.{meaning, where?, Field, Good}
use Rattle.values.specs.Means.{Holds, plain_string}
use Rattle.strings.specs.Lines.{Written}
use Rattle.values.proofs.ArithmeticLaws.{plain, zero-tag}
use Rattle.values.proofs.KindLaws.{integer-means, decimal-means, date_time-means, string-means, uri-means}
use Rattle.strings.proofs.TextLaws.{written-text, written-field}

-- a string with no tag and a text
plain-good : (p : Bool) (b : List ℕ) → Field text_byte text_width b → Good (plain_string p b)
unfolding within_limits
plain-good p b f = record { number = tt; integer = λ e. tt; date_time = λ e. tt; tag = zero-tag; text = f }

plain-means : (p : Bool) (b : List ℕ) (t : Text) → unfilled b ≡ t → meaning (plain_string p b) ≡ Meant.string (where? p (record { tag = []; text = t }))
unfolding meaning unfilled
plain-means p b t e = ap (λ u. Meant.string (where? p (record { tag = []; text = u }))) e

made : (r : Value) (p : Bool) (b : List ℕ) (t : Text) (m : Meant) → r ≡ plain_string p b → Field text_byte text_width b → unfilled b ≡ t → where? p (record { tag = []; text = t })
    ≡ text_of m → Holds r (Meant.string (text_of m))
made r p b t m e f u same = rw e (record { good = plain-good p b f; is = plain-means p b t u ∙ ap Meant.string same })

module _ (v : Value) (g : Good v) (r : Value) where
  pub str-string : v.kind ≡ 2 → r ≡ plain_string v.present v.text → Holds r (Meant.string (text_of (meaning v)))
  unfolding text_of
  str-string k e = made r v.present v.text (unfilled v.text) (meaning v) e g.text refl (rw (string-means v k) (go v.present))
    where
      go : (p : Bool) → where? p (record { tag = []; text = unfilled v.text }) ≡ text_of (Meant.string (where? p (record { tag = unfilled v.tag; text = unfilled v.text })))
      go true = refl
      go false = refl

  pub str-uri : (v.kind ≡ 5 → ⊥) → (v.kind ≡ 3 → ⊥) → (v.kind ≡ 4 → ⊥) → (v.kind ≡ 2 → ⊥) → r ≡ plain_string true v.text → Holds r (Meant.string (text_of (meaning v)))
  unfolding text_of
  str-uri n₅ n₃ n₄ n₂ e = made r true v.text (unfilled v.text) (meaning v) e g.text refl (rw (uri-means v n₅ n₃ n₄ n₂))

  module _ (line : Line) where
    pub str-integer : v.kind ≡ 5 → Written line (integer_text (to_z w64 (of_z w64 v.number))) → r ≡ plain_string v.present line.bytes → Holds r (Meant.string (text_of (meaning v)))
    unfolding text_of
    str-integer k w e =
        made r v.present line.bytes (integer_text v.number) (meaning v) e (written-field w) (written-text w ∙ ap integer_text (plain v.number g.number))
        (rw (integer-means v k) (go v.present))
      where
        go : (p : Bool) → where? p (record { tag = []; text = integer_text v.number }) ≡ text_of (Meant.integer (where? p v.number))
        go true = refl
        go false = refl

    pub str-decimal : v.kind ≡ 3 → Written line (decimal_text (to_z w64 (of_z w64 v.number))) → r ≡ plain_string v.present line.bytes → Holds r (Meant.string (text_of (meaning v)))
    unfolding text_of
    str-decimal k w e =
        made r v.present line.bytes (decimal_text v.number) (meaning v) e (written-field w) (written-text w ∙ ap decimal_text (plain v.number g.number))
        (rw (decimal-means v k) (go v.present))
      where
        go : (p : Bool) → where? p (record { tag = []; text = decimal_text v.number }) ≡ text_of (Meant.decimal (where? p v.number))
        go true = refl
        go false = refl

    pub str-date_time : v.kind ≡ 4 → Written line (date_time_text (to_z w64 (of_z w64 v.number))) → r ≡ plain_string true line.bytes → Holds r (Meant.string (text_of (meaning v)))
    unfolding text_of
    str-date_time k w e =
        made r true line.bytes (date_time_text v.number) (meaning v) e (written-field w) (written-text w ∙ ap date_time_text (plain v.number g.number)) (rw (date_time-means v k))
