-- Laws of a page record: a good one lies within the page, and ends where the definition says.
use Rattle.std.specs.Prelude.{Some}
use Prim.Native.Nat.{ℕ, ◌+◌, ◌-◌, ◌≤◌}
use mathlib.Core.Bool.{true}
use mathlib.Core.List.{List}
use mathlib.Core.Option.{none, some}
use mathlib.Core.Path.{◌≡◌, refl, ap, ◌∙◌}
use native.Mathlib.Omega.{arith}
use lib.ListN.{length}
use Rattle.definitions.specs.Limits.{object_offset}
use Rattle.definitions.specs.Bytes.{byte}
use Rattle.definitions.specs.Types.{Datatype}
use Rattle.definitions.specs.Terms.{Triple, body_width, of_term_kind, of_page_kind, kind_rows, read_triple}
use Rattle.laws.specs.Records.{TripleAt}
use Rattle.laws.specs.ReadAnswers.{is_some, next_of}
use Rattle.laws.proofs.Options.{some-not-none}
use Rattle.laws.proofs.Reading.{row-keys}
use Rattle.laws.proofs.RecordsAt.{triple-inv}
use Rattle.laws.proofs.ReadAnswers.{is-some, leaf-ends}
use Rattle.fields.specs.Answers.{width_of}

-- the kind of a page record is an object's kind and 0x70
pub page-kind : (k : ℕ) (d : Datatype) → of_page_kind k ≡ some d → (0x81 ≤ k) × (of_term_kind (k - 0x70) ≡ some d)
page-kind k d =
    row-keys (λ k o. o ≡ some d → (0x81 ≤ k) × (of_term_kind (k - 0x70) ≡ some d)) k (kind_rows 0x80) none
    ((λ e. (omega arith, e)), ((λ e. (omega arith, e)), ((λ e. (omega arith, e)), ((λ e. (omega arith, e)), ((λ e. (omega arith, e)), tt)))))
    (λ e. absurd (some-not-none e refl))

module _ (page : List ℕ) (at next : ℕ) (x : Triple) (r : TripleAt page at x next) where
  pub record-ends : at + object_offset ≤ length page
  record-ends = omega (arith, r.ends, r.fits)

  pub kind-high : 0x81 ≤ byte page at
  kind-high = (page-kind (byte page at) r.datatype r.kind).0

  end_is : (w : ℕ) → w ≡ width_of (of_term_kind (byte page at - 0x70)) → at + object_offset + w ≡ next
  unfolding width_of
  end_is w e =
      let d : w ≡ body_width r.datatype = e ∙ ap width_of (page-kind (byte page at) r.datatype r.kind).1 in
      omega (arith, r.ends)

-- as the code finds them
module _ (page : List ℕ) (at : ℕ) (g : is_some (read_triple page at) ≡ true) where
  found : (r : Triple × ℕ) × (read_triple page at ≡ some r)
  found = is-some (read_triple page at) g

  holds : TripleAt page at found.0.0 found.0.1
  holds = triple-inv page at found.0.0 found.0.1 found.1

  pub triple-inside : at + object_offset ≤ length page
  triple-inside = record-ends page at found.0.1 found.0.0 holds

  pub triple-kind : 0x81 ≤ byte page at
  triple-kind = kind-high page at found.0.1 found.0.0 holds

  module _ {w : ℕ} (e : w ≡ width_of (of_term_kind (byte page at - 0x70))) where
    end : at + object_offset + w ≡ found.0.1
    end = end_is page at found.0.1 found.0.0 holds w e

    pub triple-ends : Some (at + object_offset + w) ≡ next_of (read_triple page at)
    triple-ends = rw end (leaf-ends found.1)

    pub triple-fits : at + object_offset + w ≤ length page
    triple-fits = omega (arith, end, holds.fits)
