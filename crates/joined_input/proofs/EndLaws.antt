-- Records of some kinds, one after the other: where they end.
use Prim.Native.Nat.{ℕ, zero, suc, ◌+◌, ◌≤◌, ◌<◌}
use native.Mathlib.Omega.{arith}
use mathlib.Core.Path.{◌≡◌, refl, sym, ap, ◌∙◌}
use mathlib.Core.List.{List}
use mathlib.Core.Option.{Option, none, some}
use lib.ListN.{length, get_or-eq_default}
use borrow.Author.Tests.{ne_eqb}
use Rattle.definitions.specs.Limits.{tag_width, text_width}
use Rattle.definitions.specs.Types.{Datatype}
use Rattle.definitions.specs.Bytes.{byte, past}
use Rattle.definitions.specs.Printer.{term_body, entry_body, end_from}
use Rattle.fields.specs.Answers.{width_of}

module _ (width : ℕ → Option ℕ) (s : List ℕ) where
  end_none : (left at : ℕ) → width (byte s at) ≡ none → end_from width left s at ≡ at
  unfolding end_from
  end_none zero at e = refl
  end_none (suc left) at e = rw (end_from, e)

  end-some : (left at n : ℕ) → width (byte s at) ≡ some n → end_from width (suc left) s at ≡ end_from width left s (past at n)
  unfolding end_from
  end-some left at n e = rw (end_from, e)

  -- the end r is still to be found from an offset on
  pub record Ends (r at : ℕ) : Type 0 where
    pub left : ℕ
    pub enough : length s ≤ at + left
    pub rest : r ≡ end_from width left s at

  pub ends-start : (at : ℕ) → Ends (end_from width (length s) s at) at
  ends-start at = record { left = length s; enough = omega arith; rest = refl }

  -- a kind of none of them, or the end of the bytes
  pub ends-here : {r at : ℕ} → width (byte s at) ≡ none → Ends r at → at ≡ r
  ends-here {r} {at} e h = sym (h.rest ∙ end_none h.left at e)

  pub ends-out : {r at : ℕ} → width 0 ≡ none → length s ≤ at → Ends r at → at ≡ r
  ends-out {r} {at} e l h = ends-here (ap width (get_or-eq_default s 0 {n = at} l) ∙ e) h

  -- one of them
  pub ends_next : {r at n next : ℕ} → width (byte s at) ≡ some n → at < length s → Ends r at → next ≡ past at n → Ends r next
  ends_next {r} {at} {n} {next} e l h k = go h.left h.enough h.rest
    where
      go : (left : ℕ) → length s ≤ at + left → r ≡ end_from width left s at → Ends r next
      go zero enough rest = absurd (omega arith)
      go (suc left) enough rest =
          record { left = left; enough = omega arith; rest = rest ∙ (end-some left at n e ∙ ap (end_from width left s) (sym k)) }

-- ── the widths ──────────────────────────────────────────────────────────────────────────────

pub width-none : (o : Option Datatype) → width_of o ≡ 0 → term_body o ≡ none
unfolding width_of
width-none none e = refl
width-none (some Datatype.any_uri) e = absurd (omega arith)
width-none (some Datatype.string) e = absurd (omega arith)
width-none (some Datatype.decimal) e = absurd (omega arith)
width-none (some Datatype.date_time) e = absurd (omega arith)
width-none (some Datatype.integer) e = absurd (omega arith)

pub width_some : (o : Option Datatype) → (width_of o ≡ 0 → ⊥) → term_body o ≡ some (width_of o)
unfolding width_of
width_some none h = absurd (h refl)
width_some (some d) h = refl

pub width_few : (o : Option Datatype) → width_of o ≤ tag_width + text_width
unfolding width_of
width_few none = omega arith
width_few (some Datatype.any_uri) = omega arith
width_few (some Datatype.string) = omega arith
width_few (some Datatype.decimal) = omega arith
width_few (some Datatype.date_time) = omega arith
width_few (some Datatype.integer) = omega arith

pub entry-none : (k : ℕ) → (k ≡ 0x21 → ⊥) → entry_body k ≡ none
unfolding entry_body
entry-none k h = rw (entry_body, ne_eqb k 0x21 h)

pub entry-some : (k : ℕ) → k ≡ 0x21 → entry_body k ≡ some (text_width + 1)
unfolding entry_body
entry-some k e = rw e

pub entry_zero : entry_body 0 ≡ none
unfolding entry_body
entry_zero = refl
