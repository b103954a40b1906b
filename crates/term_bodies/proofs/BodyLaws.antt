-- Laws of bodies, by the kind of their record.
use Prim.Native.Nat.{ℕ, ◌+◌, ◌-◌, ◌<◌, ◌≤◌}
use mathlib.Core.Bool.{Bool, true, false, not, ◌&&◌}
use mathlib.Core.List.{List}
use mathlib.Core.Option.{none}
use mathlib.Core.Path.{◌≡◌, sym, ap, ◌∙◌}
use native.Mathlib.Omega.{arith}
use lib.Dec.{eqb, eqb→eq}
use lib.IntN.{ℤ}
use lib.ListN.{length, take}
use lib.Seq.{take_all}
use borrow.Author.Tests.{ne_eqb, not-true, not-false}
use Rattle.definitions.specs.Limits.{text_width, tag_width, number_width}
use Rattle.definitions.specs.Bytes.{part, little, signed, onward}
use Rattle.definitions.specs.Terms.{Term, field_text, uri_text, text_byte, tag_byte, within_limits, of_term_kind, number_term, term_of_body}
use Rattle.laws.proofs.Ranges.{every_in}
use Rattle.laws.specs.ReadAnswers.{is_some}
use Rattle.fields.specs.Answers.{width_of, body_term}
use Rattle.laws.proofs.ReadAnswers.{provided-is, is-some-map, is-some-both}

-- ── kinds ───────────────────────────────────────────────────────────────────────────────────

pub kind-numbers : (k : ℕ) → 0x13 ≤ k → k ≤ 0x15 → number_width ≡ width_of (of_term_kind k)
unfolding width_of
kind-numbers k l h = eqb→eq number_width (width_of (of_term_kind k)) (every_in (λ j. eqb number_width (width_of (of_term_kind j))) 0x13 3 tt k l (omega arith))

-- no term's kind
module _ (k : ℕ) where
  pub kind-others : (k ≡ 0x11 → ⊥) → (k ≡ 0x12 → ⊥) → (k ≡ 0x13 → ⊥) → (k ≡ 0x14 → ⊥) → (k ≡ 0x15 → ⊥) → of_term_kind k ≡ none
  kind-others a b c d e = rw (ne_eqb k 0x11 a, ne_eqb k 0x12 b, ne_eqb k 0x13 c, ne_eqb k 0x14 d, ne_eqb k 0x15 e)

  pub kind-below : (k ≡ 0x11 → ⊥) → (k ≡ 0x12 → ⊥) → k < 0x13 → of_term_kind k ≡ none
  kind-below a b h = kind-others a b (λ e. omega arith) (λ e. omega arith) (λ e. omega arith)

  pub kind-above : 0x15 < k → of_term_kind k ≡ none
  kind-above h = kind-others (λ e. omega arith) (λ e. omega arith) (λ e. omega arith) (λ e. omega arith) (λ e. omega arith)

-- ── the term of a body ──────────────────────────────────────────────────────────────────────

-- at a kind
width-at : {l k : ℕ} (n : ℕ) → l ≡ width_of (of_term_kind k) → k ≡ n → l ≡ width_of (of_term_kind n)
width-at n e q = e ∙ ap (λ (k : ℕ). width_of (of_term_kind k)) q

module _ (k : ℕ) (b : List ℕ) (l : length b ≡ width_of (of_term_kind k)) where
  pub none_of : of_term_kind k ≡ none → false ≡ is_some (body_term (of_term_kind k) b)
  unfolding body_term onward
  none_of e = rw e

  pub uri-long : k ≡ 0x11 → length b ≡ text_width
  unfolding width_of
  uri-long q = width-at 0x11 l q

  pub string-long : k ≡ 0x12 → length b ≡ tag_width + text_width
  unfolding width_of
  string-long q = width-at 0x12 l q

  pub uri-is : {r : Bool} → k ≡ 0x11 → r ≡ is_some (uri_text b) → r ≡ is_some (body_term (of_term_kind k) b)
  unfolding body_term onward term_of_body
  uri-is q e = rw q (e ∙ sym (is-some-map (uri_text b) (λ u. Term.uri u)))

  string-tests : k ≡ 0x12 → is_some (body_term (of_term_kind k) b) ≡ (is_some (field_text tag_byte tag_width (take tag_width b)) && is_some (field_text text_byte text_width (part b tag_width text_width)))
  unfolding body_term onward term_of_body
  string-tests q = rw q (is-some-both (field_text tag_byte tag_width (take tag_width b)) (field_text text_byte text_width (part b tag_width text_width)) (λ g t. Term.string g t))

  pub tag-bad : {g : Bool} → k ≡ 0x12 → g ≡ is_some (field_text tag_byte tag_width (take tag_width b)) → not g ≡ true → false ≡ is_some (body_term (of_term_kind k) b)
  tag-bad {g} q e h = sym (string-tests q ∙ rw (sym e ∙ not-true g h))

  pub string-is : {g r : Bool} → k ≡ 0x12 → g ≡ is_some (field_text tag_byte tag_width (take tag_width b)) → not g ≡ false
      → r ≡ is_some (field_text text_byte text_width (part b tag_width (length b - tag_width))) → r ≡ is_some (body_term (of_term_kind k) b)
  string-is {g} q e h f =
      let n : length b - tag_width ≡ text_width = omega (arith, string-long q) in
      rw n at f ∙ sym (string-tests q ∙ rw (sym e ∙ not-false g h))

  -- a kind n of numbers
  module _ (n : ℕ) (q : k ≡ n) (w : width_of (of_term_kind n) ≡ number_width) where
    pub number-long : length b ≡ number_width
    number-long = width-at n l q ∙ w

    pub number_is : {r : Bool} (low high v : ℕ) (make : ℤ → Term) → body_term (of_term_kind n) b ≡ number_term (within_limits low high) make b
        → v ≡ little (part b 0 number_width) → r ≡ within_limits low high (signed v) → r ≡ is_some (body_term (of_term_kind k) b)
    number_is low high v make m e f =
        let all : part b 0 number_width ≡ b = take_all number_width b (omega (arith, number-long)) in
        let v-is : v ≡ little b = e ∙ ap little all in
        let z : ℤ = signed (little b) in
        f ∙ ap (λ (v : ℕ). within_limits low high (signed v)) v-is ∙ sym (rw (q, m) (provided-is (within_limits low high z) (make z)))
