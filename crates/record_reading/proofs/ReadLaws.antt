-- Laws of records at an offset, for each way through the code.
use Rattle.std.specs.Prelude.{Some, None}
use Rattle.std.specs.Bool.{then_some}
use Rattle.std.specs.declared.option.Option as Answer
use Prim.Native.Nat.{ℕ, ◌+◌, ◌-◌, ◌<◌, ◌≤◌}
use mathlib.Core.Bool.{Bool, true, false, not, and-false}
use mathlib.Core.List.{List}
use mathlib.Core.Option.{Option, none, some}
use mathlib.Core.Path.{◌≡◌, refl, sym, ap, ◌∙◌}
use mathlib.Core.Logic.{◌⊎◌, inl, ⊎_elim}
use native.Mathlib.Omega.{arith}
use lib.Dec.{leb, eqb}
use lib.ListN.{length, get_or-eq_default}
use borrow.Author.Tests.{le-leb, lt-leb, eq-eqb, ne_eqb, eqb-true, eqb-false, leb-true, not-true, not-false}
use Rattle.definitions.specs.Limits.{text_width, entry_width}
use Rattle.definitions.specs.Bytes.{Got, byte, part, provided, onward}
use Rattle.definitions.specs.Types.{Datatype, datatype_of_code}
use Rattle.definitions.specs.Terms.{Text, Triple, body_width, term_of_body, body_at, uri_text, uri_at, of_term_kind, of_page_kind, read_term, read_entry, read_triple}
use Rattle.laws.proofs.Ranges.{every_in, split}
use Rattle.laws.proofs.Tests.{is_true, true_is}
use Rattle.laws.proofs.Options.{provided-yes, onward-some}
use Rattle.laws.specs.ReadAnswers.{is_some, next_of}
use Rattle.fields.specs.Answers.{has_room, width_of, body_term, body_from}
use Rattle.laws.proofs.ReadAnswers.{is_none, is-some, none-ends, leaf-ends, next-lost, next-got, next_map}
use Rattle.fields.proofs.PartLaws.{some-part}

-- ── room ────────────────────────────────────────────────────────────────────────────────────

pub same-order : (a b c d : ℕ) → (a ≤ b → c ≤ d) → (b < a → d < c) → leb a b ≡ leb c d
same-order a b c d f g = ⊎_elim (λ h. le-leb a b h ∙ sym (le-leb c d (f h))) (λ h. lt-leb a b h ∙ sym (lt-leb c d (g h))) (split a b)

module _ (s : List ℕ) (at width : ℕ) where
  pub room-none : length s < at → false ≡ has_room s at width
  unfolding has_room
  room-none h = sym (lt-leb (at + width) (length s) (omega arith))

  pub room-left : at ≤ length s → leb width (length s - at) ≡ has_room s at width
  unfolding has_room
  room-left h = same-order width (length s - at) (at + width) (length s) (λ e. omega arith) (λ e. omega arith)

  pub room_fits : {room : Bool} → room ≡ has_room s at width → not room ≡ false → at + width ≤ length s
  unfolding has_room
  room_fits {room} e h = leb-true (at + width) (length s) (sym e ∙ not-false room h)

-- ── a URI body ──────────────────────────────────────────────────────────────────────────────

module _ (s : List ℕ) (at : ℕ) {room : Bool} (e : room ≡ has_room s at text_width) where
  pub uri-short : not room ≡ true → None ≡ next_of (uri_at s at)
  unfolding has_room uri_at provided
  uri-short h = none-ends (rw (sym e ∙ not-true room h))

  module _ (h : not room ≡ false) {r : Bool} (f : r ≡ is_some (uri_text (part s at (at + text_width - at)))) where
    uri-test : is_some (uri_text (part s at text_width)) ≡ r
    uri-test = sym (rw (some-part s at text_width) at f)

    uri-bad : not r ≡ true → None ≡ next_of (uri_at s at)
    unfolding has_room uri_at provided onward
    uri-bad g = none-ends (rw (sym e ∙ not-false room h, is_none (uri_text (part s at text_width)) (uri-test ∙ not-true r g)))

    uri-next : not r ≡ false → Some (at + text_width) ≡ next_of (uri_at s at)
    unfolding has_room uri_at provided onward
    uri-next g =
        let u = is-some (uri_text (part s at text_width)) (uri-test ∙ not-false r g) in
        leaf-ends {a = u.0} (provided-yes (onward (uri_text (part s at text_width)) (λ u. some (u, at + text_width))) (sym e ∙ not-false room h) ∙ onward-some (λ u. some (u, at + text_width)) u.1)

    pub uri-read : then_some r (at + text_width) ≡ next_of (uri_at s at)
    uri-read = go r refl
      where
        go : (t : Bool) → r ≡ t → then_some t (at + text_width) ≡ next_of (uri_at s at)
        go true q = uri-next (ap not q)
        go false q = uri-bad (ap not q)

-- ── a body of a kind ────────────────────────────────────────────────────────────────────────

no-width : (d : Datatype) → body_width d ≡ 0 → ⊥
no-width Datatype.any_uri e = omega arith
no-width Datatype.string e = omega arith
no-width Datatype.decimal e = omega arith
no-width Datatype.date_time e = omega arith
no-width Datatype.integer e = omega arith

pub body-none : (o : Option Datatype) (s : List ℕ) (at : ℕ) {w : ℕ} → w ≡ width_of o → w ≡ 0 → None ≡ next_of (body_from o s at)
unfolding width_of body_from onward
body-none none s at e z = none-ends refl
body-none (some d) s at e z = absurd (no-width d (sym e ∙ z))

module _ (s : List ℕ) (at : ℕ) {w : ℕ} {room : Bool} (e : room ≡ has_room s at w) where
  pub body-short : (o : Option Datatype) → w ≡ width_of o → not room ≡ true → None ≡ next_of (body_from o s at)
  unfolding has_room width_of body_from onward body_at provided
  body-short none q h = none-ends refl
  body-short (some d) q h = none-ends (rw (← q, sym e ∙ not-true room h))

  module _ (h : not room ≡ false) {r : Bool} where
    body-test : (d : Datatype) → w ≡ body_width d → r ≡ is_some (term_of_body d (part s at (at + w - at))) → is_some (term_of_body d (part s at (body_width d))) ≡ r
    body-test d q f = sym (rw (some-part s at w, q) at f)

    body-bad : (o : Option Datatype) → w ≡ width_of o → r ≡ is_some (body_term o (part s at (at + w - at))) → not r ≡ true → None ≡ next_of (body_from o s at)
    unfolding has_room width_of body_term body_from onward body_at provided
    body-bad none q f g = none-ends refl
    body-bad (some d) q f g =
        let fits : leb (at + body_width d) (length s) ≡ true = rw q at (sym e ∙ not-false room h) in
        none-ends (rw (fits, is_none (term_of_body d (part s at (body_width d))) (body-test d q f ∙ not-true r g)))

    body-next : (o : Option Datatype) → w ≡ width_of o → r ≡ is_some (body_term o (part s at (at + w - at))) → not r ≡ false → Some (at + w) ≡ next_of (body_from o s at)
    unfolding has_room width_of body_term body_from onward body_at provided
    body-next none q f g = absurd (true_is false (sym f ∙ not-false r g))
    body-next (some d) q f g =
        let fits : leb (at + body_width d) (length s) ≡ true = rw q at (sym e ∙ not-false room h) in
        let t = is-some (term_of_body d (part s at (body_width d))) (body-test d q f ∙ not-false r g) in
        ap (λ n. Some (at + n)) q
        ∙ leaf-ends {a = t.0}
        (provided-yes (onward (term_of_body d (part s at (body_width d))) (λ t. some (t, at + body_width d))) fits ∙ onward-some (λ t. some (t, at + body_width d)) t.1)

    pub body-read : (o : Option Datatype) → w ≡ width_of o → r ≡ is_some (body_term o (part s at (at + w - at))) → then_some r (at + w) ≡ next_of (body_from o s at)
    body-read o q f = go r refl
      where
        go : (t : Bool) → r ≡ t → then_some t (at + w) ≡ next_of (body_from o s at)
        go true g = body-next o q f (ap not g)
        go false g = body-bad o q f (ap not g)

-- ── a term record ───────────────────────────────────────────────────────────────────────────

byte-out : (s : List ℕ) (at : ℕ) → length s ≤ at → byte s at ≡ 0
byte-out s at h = get_or-eq_default s 0 {n = at} h

pub term-out : (s : List ℕ) (at : ℕ) → length s ≤ at → None ≡ next_of (read_term s at)
unfolding read_term onward
term-out s at h = none-ends (rw (byte-out s at h))

pub term_is : (s : List ℕ) (at : ℕ) → body_from (of_term_kind (byte s at)) s (at + 1) ≡ read_term s at
unfolding read_term body_from
term_is s at = refl

-- ── a schema record ─────────────────────────────────────────────────────────────────────────

pub code-some : (k : ℕ) → 1 ≤ k → k ≤ 5 → (d : Datatype) × (datatype_of_code k ≡ some d)
code-some k l h = is-some (datatype_of_code k) (is_true (is_some (datatype_of_code k)) (every_in (λ j. is_some (datatype_of_code j)) 1 5 tt k l (omega arith)))

pub code-none : (k : ℕ) → (k < 1) ⊎ (5 < k) → datatype_of_code k ≡ none
code-none k h = rw (
  other 1 (omega arith) (omega arith),
  other 2 (omega arith) (omega arith),
  other 3 (omega arith) (omega arith),
  other 4 (omega arith) (omega arith),
  other 5
      (omega arith) (omega arith),
)
  where
    other : (n : ℕ) → 1 ≤ n → n ≤ 5 → eqb k n ≡ false
    other n l u = ne_eqb k n (λ e. ⊎_elim (λ a. omega arith) (λ a. omega arith) h)

module _ (s : List ℕ) (at : ℕ) {room : Bool} (e : room ≡ has_room s at entry_width) where
  pub entry-short : not room ≡ true → None ≡ next_of (read_entry s at)
  unfolding has_room read_entry provided
  entry-short h = none-ends (rw (sym e ∙ not-true room h, and-false))

  module _ (h : not room ≡ false) where
    pub entry-kind : (byte s at ≡ 0x21 → ⊥) → None ≡ next_of (read_entry s at)
    unfolding has_room read_entry provided
    entry-kind n = none-ends (rw (ne_eqb (byte s at) 0x21 n))

    module _ (k : byte s at ≡ 0x21) {r : Bool} (f : r ≡ is_some (uri_text (part s (at + 1) (at + 1 + text_width - (at + 1))))) where
      entry-test : is_some (uri_text (part s (at + 1) text_width)) ≡ r
      entry-test = sym (rw (some-part s (at + 1) text_width) at f)

      uri-room : leb (at + 1 + text_width) (length s) ≡ true
      uri-room = le-leb (at + 1 + text_width) (length s) (omega (arith, room_fits s at entry_width e h))

      pub entry-uri : not r ≡ true → None ≡ next_of (read_entry s at)
      unfolding has_room read_entry uri_at provided onward
      entry-uri g = none-ends (rw (k, sym e ∙ not-false room h, uri-room, is_none (uri_text (part s (at + 1) text_width)) (entry-test ∙ not-true r g)))

      module _ (g : not r ≡ false) where
        u : (u : Text) × (uri_text (part s (at + 1) text_width) ≡ some u)
        u = is-some (uri_text (part s (at + 1) text_width)) (entry-test ∙ not-false r g)

        pub entry-code : (byte s (at + 1 + text_width) < 1) ⊎ (5 < byte s (at + 1 + text_width)) → None ≡ next_of (read_entry s at)
        unfolding has_room read_entry uri_at provided onward
        entry-code c = none-ends (rw (k, sym e ∙ not-false room h, uri-room, u.1, code-none (byte s (at + 1 + text_width)) c))

        pub entry_next : 1 ≤ byte s (at + 1 + text_width) → byte s (at + 1 + text_width) ≤ 5 → Some (at + 1 + text_width + 1) ≡ next_of (read_entry s at)
        unfolding has_room read_entry uri_at provided onward
        entry_next l c =
            let d = code-some (byte s (at + 1 + text_width)) l c in
            leaf-ends {a = record { property = u.0; datatype = d.0 }} (rw (k, sym e ∙ not-false room h, uri-room, u.1, d.1))

-- ── a page record ───────────────────────────────────────────────────────────────────────────

shifted : (k n : ℕ) → 0x70 ≤ k → (t : Bool) → eqb k (n + 0x70) ≡ t → eqb (k - 0x70) n ≡ t
shifted k n h true e = eq-eqb (k - 0x70) n (omega (arith, eqb-true k (n + 0x70) e))
shifted k n h false e = ne_eqb (k - 0x70) n (λ q. eqb-false k (n + 0x70) e (omega arith))

-- the object's kind is the page record's less 70
object-kind : (k : ℕ) → 0x70 ≤ k → of_term_kind (k - 0x70) ≡ of_page_kind k
object-kind k h = rw (this 0x11, this 0x12, this 0x13, this 0x14, this 0x15)
  where
    this : (n : ℕ) → eqb (k - 0x70) n ≡ eqb k (n + 0x70)
    this n = shifted k n h (eqb k (n + 0x70)) refl

page-none : (k : ℕ) → (k < 0x81) ⊎ (0x85 < k) → of_page_kind k ≡ none
page-none k h =
    rw (
      other 0x81 (omega arith) (omega arith),
      other 0x82 (omega arith) (omega arith),
      other 0x83 (omega arith) (omega arith),
      other 0x84 (omega arith) (omega arith),
      other 0x85
          (omega arith) (omega arith),
    )
  where
    other : (n : ℕ) → 0x81 ≤ n → n ≤ 0x85 → eqb k n ≡ false
    other n l u = ne_eqb k n (λ e. ⊎_elim (λ a. omega arith) (λ a. omega arith) h)

-- what follows the kind of a page record
triple_from : List ℕ → ℕ → Datatype → Got Triple
triple_from s at d =
    onward (uri_at s at) (λ x.
    onward (uri_at s x.1) (λ p.
    onward (body_at d s p.1) (λ o. some (record { subject = x.0; property = p.0; object = o.0 }, o.1))))

module _ (s : List ℕ) (at : ℕ) where
  pub triple-kind : (byte s at < 0x81) ⊎ (0x85 < byte s at) → None ≡ next_of (read_triple s at)
  unfolding read_triple onward
  triple-kind h = none-ends (rw (page-none (byte s at) h))

  pub triple-out : length s ≤ at → None ≡ next_of (read_triple s at)
  triple-out h = triple-kind (inl (omega (arith, byte-out s at h)))

  -- of any kind
  triple-lost : ((d : Datatype) → triple_from s (at + 1) d ≡ none) → (o : Option Datatype) → onward o (triple_from s (at + 1)) ≡ none
  unfolding onward
  triple-lost h none = refl
  triple-lost h (some d) = h d

  pub triple-subject : {r : Answer.Option ℕ} → r ≡ next_of (uri_at s (at + 1)) → r ≡ None → None ≡ next_of (read_triple s at)
  unfolding read_triple triple_from onward
  triple-subject e m = none-ends (triple-lost (λ d. rw (next-lost (uri_at s (at + 1)) (sym e ∙ m))) (of_page_kind (byte s at)))

  module _ {r : Answer.Option ℕ} {x : ℕ} (e : r ≡ next_of (uri_at s (at + 1))) (m : r ≡ Some x) where
    subject : (u : Text) × (uri_at s (at + 1) ≡ some (u, x))
    subject = next-got (uri_at s (at + 1)) (sym e ∙ m)

    pub triple-property : {q : Answer.Option ℕ} → q ≡ next_of (uri_at s x) → q ≡ None → None ≡ next_of (read_triple s at)
    unfolding read_triple triple_from onward
    triple-property f n = none-ends (triple-lost (λ d. rw (subject.1, next-lost (uri_at s x) (sym f ∙ n))) (of_page_kind (byte s at)))

    module _ {q : Answer.Option ℕ} {p : ℕ} (f : q ≡ next_of (uri_at s x)) (n : q ≡ Some p) where
      property : (u : Text) × (uri_at s x ≡ some (u, p))
      property = next-got (uri_at s x) (sym f ∙ n)

      object-next : (o : Option Datatype) → next_of (onward o (triple_from s (at + 1))) ≡ next_of (body_from o s p)
      unfolding triple_from body_from onward next_of
      object-next none = refl
      object-next (some d) = rw (subject.1, property.1) (next_map (body_at d s p) (λ o. record { subject = subject.0; property = property.0; object = o.0 }))

      pub triple-object : {t : Answer.Option ℕ} → 0x81 ≤ byte s at → t ≡ next_of (body_from (of_term_kind (byte s at - 0x70)) s p) → t ≡ next_of (read_triple s at)
      unfolding read_triple triple_from
      triple-object l g = (rw (object-kind (byte s at) (omega arith)) at g) ∙ sym (object-next (of_page_kind (byte s at)))
