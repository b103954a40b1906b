-- Laws of a body whose term joins the term table.
use Prim.Native.Nat.{ℕ, ◌<◌}
use native.Mathlib.Omega.{arith}
use mathlib.Core.Path.{◌≡◌, ap, ap₂, sym, ◌∙◌}
use mathlib.Core.List.{List, ◌∷◌}
use mathlib.Core.Option.{some}
use lib.ListN.{length}
use Rattle.definitions.specs.Limits.{slot_width}
use Rattle.definitions.specs.Bytes.{filled}
use Rattle.definitions.specs.Terms.{Term, datatype, term_kind, body_of, slot_of}
use Rattle.definitions.specs.Machine.{numbered}
use Rattle.definitions.specs.Saved.{slot_term, terms_in}
use Rattle.laws.proofs.Bytes.{AreBytes}
use Rattle.laws.proofs.Numbering.{all-numbered}
use Rattle.laws.proofs.Slots.{slot-of, slot-length, body-inv, kind-inv, width_fits}
use Rattle.laws.specs.Valid.{Valid}
use Rattle.laws.specs.ReadAnswers.{is_some}
use Rattle.table.specs.Table.{HeldTerms, GoodSlot, number_in, with_term, table_of}
use Rattle.records.specs.declared.Joined.{Joined}
use Rattle.records.proofs.NumberingLaws.{held-terms, held-width, held-joined}
use Rattle.pages.specs.Page.{BodyIs, Joins}

-- the slot of a body
module _ (k : ℕ) (body : List ℕ) (t : Term) (b : BodyIs k body t) (bytes : AreBytes body) where
  said : (datatype t ≡ b.datatype) × (body_of t ≡ body) × Valid t
  said = let x = body-inv body t b.datatype b.width bytes b.says in (x.kind, x.bytes, x.valid)

  body-slot : filled slot_width (k ∷ body) ≡ slot_of t
  unfolding slot_of
  body-slot =
      let x = said in
      let kind : k ≡ term_kind (datatype t) = sym (ap term_kind x.0 ∙ kind-inv k b.datatype b.kind) in
      λ i. filled slot_width (kind i ∷ sym x.1 i)

  body-valid : Valid t
  body-valid = said.2

  pub body-short : length body < slot_width
  body-short = omega (arith, b.width, width_fits b.datatype)

  pub slot-is-good : (slot : List ℕ) → slot ≡ filled slot_width (k ∷ body) → GoodSlot slot
  slot-is-good slot e =
      record {
        width = ap length (e ∙ body-slot) ∙ slot-length t body-valid;
        good = ap (λ (s : List ℕ). is_some (slot_term s)) (e ∙ body-slot) ∙ ap is_some (slot-of t body-valid);
      }

  module _ {table : List ℕ} {n : ℕ} (ts : List Term) (h : HeldTerms table n ts) {slot : List ℕ} (s : slot ≡ filled slot_width (k ∷ body)) where
    of-slot : slot_term slot ≡ some t
    of-slot = ap slot_term (s ∙ body-slot) ∙ slot-of t body-valid

    with-term : with_term (slot_term slot) (terms_in table) ≡ (numbered t ts).terms
    unfolding with_term
    with-term = ap₂ with_term of-slot (held-terms table n ts h)

    pub joins : (r : Joined) {after : List ℕ} → r.number ≡ number_in (slot_term slot) (terms_in table) → r.terms ≡ length (with_term (slot_term slot) (terms_in table))
        → after ≡ table_of (with_term (slot_term slot) (terms_in table)) → length after ≡ length table → Joins ts t r after
    unfolding number_in
    joins r e f g w =
        record {
          is = e ∙ ap₂ number_in of-slot (held-terms table n ts h);
          count = f ∙ ap length with-term;
          width = w ∙ held-width table n ts h;
          held = λ few.
              held-joined (numbered t ts).terms (all-numbered Valid t ts h.valid body-valid) r.terms (f ∙ ap length with-term) few (g ∙ ap table_of with-term);
        }
