-- Tuples one after the other, each with its line, for the block on top.
use Prim.Native.Nat.{ℕ, zero, suc, ◌+◌, ◌*◌, ◌/◌}
use native.Mathlib.Omega.{arith}
use native.Mathlib.Numerals.{add-one}
use mathlib.Core.Path.{◌≡◌, refl, sym, ap, subst, ◌∙◌}
use mathlib.Core.List.{List, ◌++◌, append_assoc, append-nil}
use mathlib.Core.Bool.{Bool}
use mathlib.Core.Option.{none}
use lib.ListN.{length}
use Rattle.definitions.specs.Limits.{pair_limit}
use Rattle.definitions.specs.Ascii.{ascii}
use Rattle.definitions.specs.Bytes.{byte, signed}
use Rattle.definitions.specs.Tree.{Script, success, from_named, block, sequence, Binder, Query}
use Rattle.definitions.specs.Scope.{variables_of}
use Rattle.definitions.specs.Evaluate.{query}
use Rattle.definitions.specs.Evaluated.{query_records}
use Rattle.definitions.specs.Search.{Tuple, bind}
use Rattle.definitions.specs.Exports.{words_from}
use Rattle.definitions.specs.Printer.{line}
use Rattle.definitions.specs.declared.SavedControl.{SavedControl}
use Rattle.laws.specs.ScriptReads.{ReadsAs}
use Rattle.query.specs.declared.Context.{Context}
use Rattle.search.specs.Trying.{tuple_fits}
use Rattle.search.specs.declared.Tried.{Tried}
use Rattle.std.specs.Prelude.{Option as Maybe}
use Rattle.acts.specs.Steps.{Top, on_top}
use Rattle.acts.proofs.StepLaws.{top, blocked}
use Rattle.acts.proofs.TopLaws.{no_item}
use Rattle.answers.specs.Lends.{Lends, setting, typing, TriesNow}
use Rattle.output.specs.Written.{Written}
use Rattle.output.proofs.WritingLaws.{written_none, written_as, written_then}
use Rattle.evaluator_input.specs.Input.{tuple_width, tuples_from, tuples_in}
use Rattle.tuples.specs.Asking.{asked_by, asked_on, tuple_line, tuple_lines, asked_lines}
use Rattle.tuple_lines.specs.TriedLine.{tried_line}
use Rattle.tuples.specs.Lines.{sound_here, TuplesWritten, lines_here}
use Rattle.tuples.proofs.LineLaws.{line-is}

-- ── tuples in bytes ─────────────────────────────────────────────────────────────────────────

-- one more
tuples-more : (f : Tuple → List ℕ) (s : List ℕ) (k at : ℕ)
    → tuple_lines f (tuples_from (suc k) s at) ≡ tuple_lines f (tuples_from k s at) ++ f (words_from pair_limit s (at + tuple_width * k))
unfolding tuples_from tuple_lines
tuples-more f s zero at =
    let e : at ≡ at + tuple_width * 0 = omega arith in
    append-nil (f (words_from pair_limit s at)) ∙ ap (λ (m : ℕ). f (words_from pair_limit s m)) e
tuples-more f s (suc k) at =
    let e : at + tuple_width + tuple_width * k ≡ at + tuple_width * suc k = omega arith in
    let first = f (words_from pair_limit s at) in
    let rest = tuple_lines f (tuples_from k s (at + tuple_width)) in
    ap (λ (l : List ℕ). first ++ l) (tuples-more f s k (at + tuple_width) ∙ ap (λ (m : ℕ). rest ++ f (words_from pair_limit s m)) e)
    ∙ sym (append_assoc first rest (f (words_from pair_limit s (at + tuple_width * suc k))))

-- ── with the block on top ───────────────────────────────────────────────────────────────────

module _ {script ranks table quads leasts : List ℕ} {x : Context} {run : SavedControl} (w : Lends script ranks table quads leasts x run) where
  module _ {at : ℕ} (t : Top w.here at) where
    line-here : (tuple : Tuple) (r : Maybe Tried) → TriesNow w t tuple r → (each : Bool) (bs : List Binder) (q : Query) (c : Script) → t.item.script ≡ block at each bs q c
        → tried_line r ≡ tuple_line (sound_here w) ranks (signed x.clock) (record { variables = variables_of bs; query = q }) tuple
    unfolding tuple_line
    line-here tuple r h each bs q c is =
        let s = w.here.state in
        let β = bind (variables_of bs) tuple s.control.bindings in
        let p = h each bs q c is in
        line-is r (tuple_fits w.here.checked.schema (typing w) s.store.terms (variables_of bs) tuple) (query (setting w) s.store.terms s.store.quads β q)
        (query_records (setting w) s.store.terms s.store.quads β q) p.0 p.1

    pub tuples-none : (tuples old : List ℕ) → TuplesWritten w t 0 tuples old old 0
    unfolding tuples_from tuple_lines
    tuples-none tuples old each bs q c is = written_none old 0

    pub tuples-next : (tuples : List ℕ) (k : ℕ) {old mid new : List ℕ} {e r : ℕ} → TuplesWritten w t k tuples old mid e → {tuple : Tuple} → tuple ≡ words_from pair_limit tuples (tuple_width * k)
        → (y : Maybe Tried) → TriesNow w t tuple y → Written (tried_line y) mid new e r → TuplesWritten w t (k + 1) tuples old new r
    tuples-next tuples k h {tuple} f y g z each bs q c is =
        let line = tuple_line (sound_here w) ranks (signed x.clock) (record { variables = variables_of bs; query = q }) in
        let from : tuple_width * k ≡ 0 + tuple_width * k = omega arith in
        let one : tried_line y ≡ line (words_from pair_limit tuples (0 + tuple_width * k)) =
        line-here tuple y g each bs q c is ∙ ap line (f ∙ ap (words_from pair_limit tuples) from) in
        written_as (written_then (h each bs q c is) z (omega arith))
        (ap (λ (l : List ℕ). tuple_lines line (tuples_from k tuples 0) ++ l) one
        ∙ (sym (tuples-more line tuples k 0) ∙ ap (λ (m : ℕ). tuple_lines line (tuples_from m tuples 0)) (sym (add-one k))))

    pub tuples-all : (tuples : List ℕ) (k m : ℕ) {old new : List ℕ} {r : ℕ} → k ≡ m → TuplesWritten w t k tuples old new r → TuplesWritten w t m tuples old new r
    tuples-all tuples k m {old} {new} {r} e h = subst (λ (n : ℕ). TuplesWritten w t n tuples old new r) e h

    -- the item on top asks what its block asks, where it is one
    asks : asked_on w.here.state.control.stack ≡ asked_by t.item.script
    unfolding asked_on
    asks = ap asked_on t.stack

    pub block_here : byte script at ≡ 0x73 → (tuples : List ℕ) {old new : List ℕ} {r : ℕ} → TuplesWritten w t (length tuples / tuple_width) tuples old new r
        → Written (lines_here w tuples) old new 0 r
    unfolding asked_by asked_lines
    block_here k tuples h =
        let b = blocked (on_top w.here t) k in
        let e = asks ∙ ap asked_by b.is in
        written_as (h b.reads.each b.reads.binders b.reads.query b.reads.body b.is)
        (sym (ap (asked_lines (sound_here w) ranks (signed x.clock) (tuples_in tuples)) e))

    pub other-here : (byte script at ≡ 0x73 → ⊥) → (tuples : List ℕ) → line (ascii "no block") ≡ lines_here w tuples
    unfolding asked_by asked_lines
    other-here k tuples = sym (ap (asked_lines (sound_here w) ranks (signed x.clock) (tuples_in tuples)) (asks ∙ go t.item.script (top (on_top w.here t)).is))
      where
        go : (c : Script) → ReadsAs script x.loaded (top (on_top w.here t)).left at c (top (on_top w.here t)).ends → asked_by c ≡ none
        go (success o) r = refl
        go (from_named o y c) r = refl
        go (block o each bs q c) r = absurd (k r.kind)
        go (sequence o c d) r = refl

  pub none_here : run.height ≡ 0 → (tuples : List ℕ) → line (ascii "no block") ≡ lines_here w tuples
  unfolding asked_on asked_lines
  none_here e tuples = sym (ap (λ (stack : List _). asked_lines (sound_here w) ranks (signed x.clock) (tuples_in tuples) (asked_on stack)) (no_item w.here e))
