-- Terms and their bytes: bodies, and the slots of the term table; each there and back, for valid terms.
use Prim.Native.Nat.{ℕ, suc, ◌+◌, ◌-◌, ◌^◌, ◌≤◌, ◌<◌}
use mathlib.Core.Bool.{Bool, true, false}
use mathlib.Core.List.{List, ◌∷◌, ◌++◌}
use mathlib.Core.Option.{none, some}
use mathlib.Core.Path.{◌≡◌, refl, sym, ap, ap₂, subst, ◌∙◌}
use native.Mathlib.Omega.{arith}
use lib.Dec.{T, leb, eqb, le→leb}
use lib.ListN.{length, take, drop, replicate, length-append, length-take, length-drop, take-append-drop}
use lib.Seq.{take_at, drop_at, take_all, drop-drop, drop-cons}
use lib.IntN.{ℤ}
use lib.Signed.{mag}
use borrow.Author.Tests.{le-leb}
use Rattle.definitions.specs.Limits.{text_width, tag_width, number_width, slot_width, integer_limit, decimal_limit, seconds_before, seconds_after}
use Rattle.definitions.specs.Bytes.{same_bytes, byte, part, little, little_bytes, signed, unsigned, all_zero, filled, provided, onward}
use Rattle.definitions.specs.Types.{Datatype}
use Rattle.definitions.specs.Terms.{Text, Term, uri_byte, text_byte, tag_byte, uri_text, is_integer, is_decimal, is_date_time, datatype, term_kind, kind_rows, of_term_kind}
use Rattle.definitions.specs.Terms.{body_width, number_term, term_of_body, body_of, record_of, slot_of, body_at, read_term, same_term}
use Rattle.definitions.specs.Saved.{slot_term}
use Rattle.laws.proofs.TestEquations.{both_ways}
use Rattle.laws.proofs.Tests.{is_true}
use Rattle.laws.proofs.Options.{some_is, some-not-none, onward-inv, provided-holds, provided-inv}
use Rattle.laws.proofs.Reading.{row-keys}
use Rattle.laws.proofs.Equality.{same-term, term-refl, same_bytes_lem, bytes-refl}
use Rattle.laws.proofs.Bytes.{AreBytes, part_bytes, little-length, little-of, bytes_of, little-small}
use Rattle.laws.proofs.Bytes.{signed-unsigned, unsigned_signed, unsigned_small, within-limits}
use Rattle.laws.proofs.Bytes.{all-zero, zeros, filled-length, no_zero, field_of}
use Rattle.laws.specs.Valid.{ValidURI, Valid}
use Rattle.laws.proofs.Valid.{uri-inv, string-inv, number-inv, body-valid, body-at-inv}

-- ── numbers ─────────────────────────────────────────────────────────────────────────────────

-- a number that 8 bytes hold
pub number_of : (ok : ℤ → Bool) (make : ℤ → Term) (n : ℤ) → mag n < 2 ^ 63 → T (ok n)
    → number_term ok make (little_bytes number_width (unsigned n)) ≡ some (make n)
number_of ok make n m h =
    let u = unsigned n in
    let e : signed (little (little_bytes number_width u)) ≡ n = ap signed (little-of number_width u (unsigned_small n m)) ∙ signed-unsigned n m in
    rw e (provided-holds (ok n) h refl)

pub number-bytes : (b : List ℕ) → length b ≡ number_width → AreBytes b → little_bytes number_width (unsigned (signed (little b))) ≡ b
number-bytes b l h =
    let small : little b < 256 ^ number_width = subst (λ (w : ℕ). little b < 256 ^ w) l (little-small b h) in
    ap (little_bytes number_width) (unsigned_signed (little b) small) ∙ subst (λ (w : ℕ). little_bytes w (little b) ≡ b) l (bytes_of b h)

-- ── bodies ──────────────────────────────────────────────────────────────────────────────────

pub body-length : (t : Term) → Valid t → length (body_of t) ≡ body_width (datatype t)
unfolding body_of
body-length (Term.uri u) v = filled-length text_width u v.0.fits
body-length (Term.string g t) v =
    length-append (filled tag_width g) (filled text_width t) ∙ ap₂ ◌+◌ (filled-length tag_width g v.0.fits) (filled-length text_width t v.1.fits)
body-length (Term.integer n) v = little-length number_width (unsigned n)
body-length (Term.decimal n) v = little-length number_width (unsigned n)
body-length (Term.date_time n) v = little-length number_width (unsigned n)

pub uri-of : (u : Text) → ValidURI u → uri_text (filled text_width u) ≡ some u
unfolding uri_text onward
uri-of u v = rw (field_of uri_byte (no_zero uri_byte tt) text_width u v.0.good) (provided-holds (leb 1 (length u)) (le→leb 1 (length u) v.1) refl)

-- a term, written and read
pub body-of : (t : Term) → Valid t → term_of_body (datatype t) (body_of t) ≡ some t
unfolding term_of_body body_of onward
body-of (Term.uri u) v = rw (uri-of u v)
body-of (Term.string g t) v =
    let tag = filled tag_width g in
    let text = filled text_width t in
    let l = filled-length tag_width g v.0.fits in
    let e₀ : part (tag ++ text) 0 tag_width ≡ tag = take_at tag text tag_width l in
    let e₁ : part (tag ++ text) tag_width text_width ≡ text =
    ap (take text_width) (drop_at tag text tag_width l) ∙ take_all text_width text (omega (arith, filled-length text_width t v.1.fits)) in
    rw (e₀, e₁, field_of tag_byte (no_zero tag_byte tt) tag_width g v.0.good, field_of text_byte (no_zero text_byte tt) text_width t v.1.good)
body-of (Term.integer n) v = number_of is_integer Term.integer n (within-limits integer_limit integer_limit n (omega arith) (omega arith) v) v
body-of (Term.decimal n) v = number_of is_decimal Term.decimal n (within-limits decimal_limit decimal_limit n (omega arith) (omega arith) v) v
body-of (Term.date_time n) v = number_of is_date_time Term.date_time n (within-limits seconds_before seconds_after n (omega arith) (omega arith) v) v

-- a body, read and written
pub record BodyOf (d : Datatype) (b : List ℕ) (t : Term) : Type 0 where
  pub kind : datatype t ≡ d
  pub bytes : body_of t ≡ b
  pub valid : Valid t

module _ (b : List ℕ) (t : Term) where
  uri-body : length b ≡ text_width → term_of_body Datatype.any_uri b ≡ some t → (datatype t ≡ Datatype.any_uri) × (body_of t ≡ b)
  unfolding term_of_body body_of
  uri-body l e =
      let u = onward-inv (uri_text b) (λ u. some (Term.uri u)) e in
      subst (λ (t : Term). (datatype t ≡ Datatype.any_uri) × (body_of t ≡ b)) (some_is u.2) (refl, (uri-inv b u.0 u.1).0.whole)

  string-body : length b ≡ tag_width + text_width → term_of_body Datatype.string b ≡ some t → (datatype t ≡ Datatype.string) × (body_of t ≡ b)
  unfolding body_of
  string-body l e =
      let s = string-inv b t e in
      let rest : part b tag_width text_width ≡ drop tag_width b = take_all text_width (drop tag_width b) (omega (arith, length-drop tag_width b)) in
      let whole : filled tag_width s.0 ++ filled text_width s.1 ≡ b = ap₂ ◌++◌ s.3.whole (s.4.whole ∙ rest) ∙ take-append-drop tag_width b in
      rw s.2 (refl, whole)

  number-body : (ok : ℤ → Bool) (make : ℤ → Term) (d : Datatype) → ((n : ℤ) → datatype (make n) ≡ d)
      → ((n : ℤ) → body_of (make n) ≡ little_bytes number_width (unsigned n))
      → length b ≡ number_width → AreBytes b → number_term ok make b ≡ some t → (datatype t ≡ d) × (body_of t ≡ b)
  number-body ok make d kind bytes l h e =
      let n = number-inv ok make b t e in
      rw n.0 (kind (signed (little b)), bytes (signed (little b)) ∙ number-bytes b l h)

  body-parts : (d : Datatype) → length b ≡ body_width d → AreBytes b → term_of_body d b ≡ some t → (datatype t ≡ d) × (body_of t ≡ b)
  unfolding term_of_body body_of
  body-parts Datatype.any_uri l h e = uri-body l e
  body-parts Datatype.string l h e = string-body l e
  body-parts Datatype.decimal l h e = number-body is_decimal Term.decimal Datatype.decimal (λ n. refl) (λ n. refl) l h e
  body-parts Datatype.date_time l h e = number-body is_date_time Term.date_time Datatype.date_time (λ n. refl) (λ n. refl) l h e
  body-parts Datatype.integer l h e = number-body is_integer Term.integer Datatype.integer (λ n. refl) (λ n. refl) l h e

  pub body-inv : (d : Datatype) → length b ≡ body_width d → AreBytes b → term_of_body d b ≡ some t → BodyOf d b t
  body-inv d l h e =
      let p = body-parts d l h e in
      record { kind = p.0; bytes = p.1; valid = body-valid d b t (omega arith) e }

-- ── kinds ───────────────────────────────────────────────────────────────────────────────────

pub kind-of : (d : Datatype) → of_term_kind (term_kind d) ≡ some d
kind-of Datatype.any_uri = refl
kind-of Datatype.string = refl
kind-of Datatype.decimal = refl
kind-of Datatype.date_time = refl
kind-of Datatype.integer = refl

pub kind-not-zero : (d : Datatype) → eqb (term_kind d) 0 ≡ false
kind-not-zero Datatype.any_uri = refl
kind-not-zero Datatype.string = refl
kind-not-zero Datatype.decimal = refl
kind-not-zero Datatype.date_time = refl
kind-not-zero Datatype.integer = refl

pub kind-inv : (k : ℕ) (d : Datatype) → of_term_kind k ≡ some d → term_kind d ≡ k
kind-inv k d = row-keys (λ k o. o ≡ some d → term_kind d ≡ k) k (kind_rows 0x10) none (is, (is, (is, (is, (is, tt))))) (λ e. absurd (some-not-none e refl))
  where
    is : {c : Datatype} → some c ≡ some d → term_kind d ≡ term_kind c
    is e = ap term_kind (sym (some_is e))

pub width_fits : (d : Datatype) → suc (body_width d) ≤ slot_width
width_fits Datatype.any_uri = omega arith
width_fits Datatype.string = omega arith
width_fits Datatype.decimal = omega arith
width_fits Datatype.date_time = omega arith
width_fits Datatype.integer = omega arith

-- ── slots ───────────────────────────────────────────────────────────────────────────────────

pub slot-length : (t : Term) → Valid t → length (slot_of t) ≡ slot_width
unfolding slot_of
slot-length t v = filled-length slot_width (record_of t) (omega (arith, body-length t v, width_fits (datatype t)))

-- a slot of a kind, a body of its width and zeros
read-slot : (d : Datatype) (b rest : List ℕ) (t : Term) → length b ≡ body_width d → term_of_body d b ≡ some t → T (all_zero rest)
    → slot_term (term_kind d ∷ (b ++ rest)) ≡ some t
unfolding slot_term read_term body_at onward provided
read-slot d b rest t l e z =
    let s = term_kind d ∷ (b ++ rest) in
    let w : 1 + body_width d ≡ suc (body_width d) = omega arith in
    let fits : leb (1 + body_width d) (length s) ≡ true = le-leb (1 + body_width d) (length s) (omega (arith, length-append b rest)) in
    let body : take (body_width d) (b ++ rest) ≡ b = take_at b rest (body_width d) l in
    let after : drop (1 + body_width d) s ≡ rest = rw w (drop_at b rest (body_width d) l) in
    rw (kind-of d, fits, body, e, after, is_true (all_zero rest) z)

-- a term, written and read
pub slot-of : (t : Term) → Valid t → slot_term (slot_of t) ≡ some t
unfolding slot_of filled
slot-of t v =
    let n = slot_width - length (record_of t) in
    read-slot (datatype t) (body_of t) (replicate n 0) t (body-length t v) (body-of t v) (all-zero n)

-- a slot that is a term's kind, its body and zeros
written-slot : (slot : List ℕ) (t : Term) (w : ℕ) → length slot ≡ slot_width → suc w ≤ slot_width
    → term_kind (datatype t) ≡ byte slot 0 → body_of t ≡ part slot 1 w → T (all_zero (drop (1 + w) slot)) → slot_of t ≡ slot
unfolding slot_of filled
written-slot slot t w l fits kind body z =
    let rest = drop w (drop 1 slot) in
    let none_left : T (all_zero rest) = subst (λ (s : List ℕ). T (all_zero s)) (sym (drop-drop w 1 slot)) z in
    let m = slot_width - length (record_of t) in
    let count : m ≡ length rest = omega (arith, ap length body, length-take w (drop 1 slot), length-drop w (drop 1 slot), length-drop 1 slot) in
    let e : replicate m 0 ≡ rest = ap (λ (n : ℕ). replicate n 0) count ∙ sym (zeros rest none_left) in
    let parts : record_of t ++ replicate m 0 ≡ byte slot 0 ∷ (part slot 1 w ++ rest) = λ i. kind i ∷ (body i ++ e i) in
    parts ∙ (ap (λ s. byte slot 0 ∷ s) (take-append-drop w (drop 1 slot)) ∙ sym (drop-cons slot 0 0 (omega arith)))

-- a slot, read and written
pub slot-inv : (slot : List ℕ) (t : Term) → length slot ≡ slot_width → AreBytes slot → slot_term slot ≡ some t → (slot_of t ≡ slot) × Valid t
unfolding slot_term read_term
slot-inv slot t l h e =
    let r = onward-inv (read_term slot 0) (λ r. provided (all_zero (drop r.1 slot)) (some r.0)) e in
    let p = provided-inv (all_zero (drop r.0.1 slot)) (some r.0.0) r.2 in
    let d = onward-inv (of_term_kind (byte slot 0)) (λ d. body_at d slot 1) r.1 in
    let w = body_width d.0 in
    let b = body-at-inv d.0 slot 1 r.0.0 r.0.1 d.2 in
    let size : length (part slot 1 w) ≡ w = omega (arith, length-take w (drop 1 slot), length-drop 1 slot, b.0) in
    let x = body-inv (part slot 1 w) t d.0 size (part_bytes slot 1 w h) (b.1 ∙ p.1) in
    let z = subst (λ (n : ℕ). T (all_zero (drop n slot))) b.2 p.0 in
    (written-slot slot t w l (width_fits d.0) (ap term_kind x.kind ∙ kind-inv (byte slot 0) d.0 d.1) x.bytes z, x.valid)

-- ── slots are equal where the terms are ─────────────────────────────────────────────────────

module _ (a b : Term) (va : Valid a) (vb : Valid b) where
  pub slot-one : slot_of a ≡ slot_of b → a ≡ b
  slot-one e = some_is (sym (slot-of a va) ∙ (ap slot_term e ∙ slot-of b vb))

  pub same-slots : same_bytes (slot_of a) (slot_of b) ≡ same_term a b
  same-slots = both_ways (same_bytes (slot_of a) (slot_of b)) (same_term a b)
      (λ h. rw (slot-one (same_bytes_lem (slot_of a) (slot_of b) h)) (term-refl b))
      (λ h. rw (same-term a b h) (bytes-refl (slot_of b)))
