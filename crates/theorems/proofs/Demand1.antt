-- Demand 1, proved: each call's tests follow the table of its rules.
use Rattle.definitions.specs.declared.Refusal.TheVariants.{WrongLength, BadTerm, TermTwice, BadEntry, PropertyTwice, BadScript, OutOfScope, NoTyping, NoGreatest, Unsound, BadRun, NoGraph, BadPage, NoRoom, BadNumberText, NoSuchNumber, TooManyEntries, BadRanks, NotFetched, ShortBuffer}
use Rattle.std.specs.Prelude.{Ok, Err}
use Rattle.definitions.specs.Result.{OrRefusal}
use Prim.Native.Nat.{ℕ}
use native.Mathlib.Omega.{arith}
use mathlib.Core.Path.{◌≡◌, refl, sym, ap, subst, ◌∙◌}
use mathlib.Core.List.{List, [], ◌∷◌, ◌++◌}
use mathlib.Core.Bool.{Bool, true, false, not, ◌&&◌, ◌||◌}
use mathlib.Core.Option.{Option, none, some}
use lib.Dec.{eqb, leb}
use lib.ListN.{length, get_elem?}
use lib.IntN.{ℤ}
use Rattle.definitions.specs.Limits.{entry_limit, budget_limit, schema_width}
use Rattle.definitions.specs.Lists.{every, some?, distinct, is_empty, is_in}
use Rattle.definitions.specs.Alphabet.{is_alphabet}
use Rattle.definitions.specs.Bytes.{onward}
use Rattle.definitions.specs.Types.{Ty}
use Rattle.definitions.specs.Terms.{Term, Schema, same_term, same_property, is_date_time, read_terms, read_schema}
use Rattle.definitions.specs.Gathering.{Gathered, gathered}
use Rattle.definitions.specs.Tree.{Script}
use Rattle.definitions.specs.Reading.{parsed}
use Rattle.definitions.specs.Scope.{in_scope}
use Rattle.definitions.specs.Total.{total_of}
use Rattle.definitions.specs.Numerals.{numeral_of, term_of}
use Rattle.definitions.specs.Typing.{written_types, typings, above, Verdict, greatest, first_above, judge, verdict, no_typing, no_greatest}
use Rattle.definitions.specs.Suggest.{Suggestion, suggestion}
use Rattle.definitions.specs.Outcome as Outcomes
use Rattle.definitions.specs.Machine.{with_properties, taken, with_page, in_limits}
use Rattle.definitions.specs.Result.{Result, refused, passed, ◌>>=◌, ◌>>◌, require, given}
use Rattle.definitions.specs.Calls.{record_tests, sizes_fit, script_tests, Parsed, read_tests}
use Rattle.definitions.specs.Calls.{Checked, constants_of, types_of, type_tests, check, Lent, lengths_fit, load_tests, load_result, load, sound_in, entry_tests}
use Rattle.definitions.specs.Calls.{run_in, Running, run_tests, ran_of, run_result, run_call}
use Rattle.definitions.specs.Calls.{is_graph, page_in, take_in, Taking, page_tests, page_result, page_call, total_result, total, number_call, schema_tests, schema_result, schema_call}
use Rattle.definitions.specs.Calls.{suggest_answer, suggest_for, suggest_result, suggest, lengths_of, both_tables_fit, publish_in, publish_tests, publish_result, publish_call}
use Rattle.definitions.specs.Numbers.{answer_number, refusal_number}
use Rattle.definitions.specs.declared.Refusal.{Refusal}
use Rattle.definitions.specs.Publish.{published}
use Rattle.definitions.specs.declared.SavedRun.{SavedRun}
use Rattle.definitions.specs.declared.Suggested.{Suggested}
use Rattle.definitions.specs.declared.Suggested.TheVariants as Suggests
use Rattle.laws.proofs.Results.{by-bind, by_after}
use Rattle.theorems.proofs.CallsPassed.{run-passed, run-fine, run-gives}
use Rattle.theorems.specs.Demand1.{first_broken, is_there, if_there, read_rules, load_rules, run_rules, page_rules, number_rules, schema_rules, suggest_rules, publish_rules}
use Rattle.theorems.specs.Demand1.{LoadRefuses, RunRefuses, PageRefuses, TotalRefuses, NumberRefuses, SchemaRefuses, SuggestRefuses, PublishRefuses, Demand1}

-- ── the proof: tests follow a table ─────────────────────────────────────────────────────────

-- tests refuse with the number of the first rule broken, or pass where none is
data Follows {A : Type 0} : Result A → List (ℕ × Bool) → Type 0 where
  refuses : {r : Refusal} {rules : List (ℕ × Bool)} → refusal_number r ≡ first_broken rules → (refusal_number r ≡ 0 → ⊥) → Follows (refused r) rules
  passes : {a : A} {rules : List (ℕ × Bool)} → first_broken rules ≡ 0 → Follows (passed a) rules

-- a rule that is kept leaves the tests after it to the rest of the table
kept : {A : Type 0} {m : Result A} {n : ℕ} {rules : List (ℕ × Bool)} → Follows m rules → Follows m ((n, true) ∷ rules)
unfolding first_broken
kept (refuses e h) = refuses e h
kept (passes e) = passes e

broken : {A : Type 0} (r : Refusal) {rules : List (ℕ × Bool)} → (refusal_number r ≡ 0 → ⊥) → Follows {A = A} (refused r) ((refusal_number r, false) ∷ rules)
unfolding first_broken
broken n h = refuses refl h

end : {A : Type 0} {a : A} → Follows (passed a) []
unfolding first_broken
end = passes refl

rule : {A : Type 0} (r : Refusal) → (refusal_number r ≡ 0 → ⊥) → (t : Bool) {m : Result A} {rules : List (ℕ × Bool)} → Follows m rules
    → Follows (require r t >> m) ((refusal_number r, t) ∷ rules)
unfolding require ◌>>◌
rule n h true k = kept k
rule n h false k = broken n h

there : {A B : Type 0} (r : Refusal) → (refusal_number r ≡ 0 → ⊥) → (o : Option A) {f : A → Result B} {rules : List (ℕ × Bool)}
    → ((a : A) → o ≡ some a → Follows (f a) rules) → Follows (given r o >>= f) ((refusal_number r, is_there o) ∷ rules)
unfolding given ◌>>=◌ is_there
there n h none k = broken n h
there n h (some a) k = kept (k a refl)

-- tests that stand together
module _ {A B C : Type 0} {rules : List (ℕ × Bool)} where
  regroup : (m : Result A) (f : A → Result B) (k : B → Result C) → Follows (m >>= λ a. f a >>= k) rules → Follows ((m >>= f) >>= k) rules
  regroup m f k h = by-bind (λ (x : Result C). Follows x rules) m f k h

  together : (m : Result A) (n : Result B) (k : B → Result C) → Follows (m >> (n >>= k)) rules → Follows ((m >> n) >>= k) rules
  together m n k h = by_after (λ (x : Result C). Follows x rules) m n k h

-- two tests with one number
rule-there : {A B C : Type 0} (r : Refusal) → (refusal_number r ≡ 0 → ⊥) → (t : Bool) (o : Option A) (f : A → Result B) (k : B → Result C) {rules : List (ℕ × Bool)}
    → ((a : A) → o ≡ some a → Follows (f a >>= k) rules) → Follows (require r t >> ((given r o >>= f) >>= k)) ((refusal_number r, t && is_there o) ∷ rules)
unfolding require ◌>>◌
rule-there n h true o f k g = regroup (given n o) f k (there n h o g)
rule-there n h false o f k g = broken n h

-- what goes on without a test
then-passes : {A B : Type 0} {m : Result A} {rules : List (ℕ × Bool)} (f : A → B) → Follows m rules → Follows (m >>= λ a. passed (f a)) rules
unfolding ◌>>=◌
then-passes f (refuses e h) = refuses e h
then-passes f (passes e) = passes e

-- ── the proof: 2 to 7 ───────────────────────────────────────────────────────────────────────

-- and what goes on with what was read
read-follows : {B : Type 0} (terms schema script : List ℕ) (k : Parsed → Result B) (rules : List (ℕ × Bool))
    → ((listed : List Term) (S : Schema) (root : Script) → read_terms terms ≡ some listed → read_schema schema ≡ some S
    → parsed (length (with_properties S listed)) script ≡ some root → Follows (k (record { schema = S; terms = with_properties S listed; root = root })) rules)
    → Follows (read_tests terms schema script >>= k) (read_rules terms schema script ++ rules)
unfolding read_tests record_tests script_tests onward if_there ◌>>=◌
read-follows terms schema script k rules more =
    regroup (record_tests terms schema) _ _
    (regroup (given BadTerm (read_terms terms)) _ _
    (there BadTerm (λ e. omega (arith, e)) (read_terms terms) λ listed e₂. rw e₂
    (together (require TermTwice (distinct same_term listed)) _ _
    (rule TermTwice (λ e. omega (arith, e)) (distinct same_term listed)
    (regroup (given BadEntry (read_schema schema)) _ _
    (there BadEntry (λ e. omega (arith, e)) (read_schema schema) λ S e₄. rw e₄
    (together (require PropertyTwice (distinct same_property S)) _ _
    (rule PropertyTwice (λ e. omega (arith, e)) (distinct same_property S)
    (let ts = with_properties S listed in
    regroup (script_tests ts S script) _ _
    (together (require BadScript (sizes_fit ts S script)) _ _
    (rule-there BadScript (λ e. omega (arith, e)) (sizes_fit ts S script) (parsed (length ts) script) _ _ λ root e₆. rw e₆
    (together (require OutOfScope (in_scope root)) _ _
    (rule OutOfScope (λ e. omega (arith, e)) (in_scope root) (more listed S root e₂ e₄ e₆))))))))))))))

-- ── the proof: load ─────────────────────────────────────────────────────────────────────────

-- refusal 9: of some typings, the first above all
above-follows : {B : Type 0} (f : List Ty → B) (Γs all : List (List Ty))
    → Follows (types_of (first_above Γs all) >>= λ Γ. passed (f Γ)) ((9, some? (λ Γ. every (above Γ) all) Γs) ∷ [])
unfolding first_above types_of ◌>>=◌
above-follows f [] all = broken NoGreatest (λ e. omega (arith, e))
above-follows {B} f (Γ ∷ Γs) all = go (every (above Γ) all) (above-follows f Γs all)
  where
    go : (b : Bool) → Follows (types_of (first_above Γs all) >>= λ Γ. passed (f Γ)) ((9, some? (λ Γ. every (above Γ) all) Γs) ∷ [])
        → Follows (types_of (elim b as (λ c. Verdict) [ true ↦ greatest Γ | false ↦ first_above Γs all ]) >>= λ Γ. passed (f Γ))
        ((9, b || some? (λ Γ. every (above Γ) all) Γs) ∷ [])
    go true h = kept end
    go false h = h

judge-follows : {B : Type 0} (f : List Ty → B) (Γs : List (List Ty))
    → Follows (types_of (judge Γs) >>= λ Γ. passed (f Γ)) ((8, not (is_empty Γs)) ∷ (9, some? (λ Γ. every (above Γ) Γs) Γs) ∷ [])
unfolding judge types_of ◌>>=◌
judge-follows f [] = broken NoTyping (λ e. omega (arith, e))
judge-follows f (Γ ∷ Γs) = kept (above-follows f (Γ ∷ Γs) (Γ ∷ Γs))

load-follows : (l : Lent) → Follows (load_tests l) (load_rules (lengths_fit l) l)
unfolding load_tests check type_tests onward if_there verdict ◌>>=◌
load-follows l =
    rule WrongLength (λ e. omega (arith, e)) (lengths_fit l)
    (rule BadRanks (λ e. omega (arith, e)) (is_alphabet l.ranks)
    (read-follows l.terms l.schema l.script type_tests _ λ listed S root e₂ e₄ e₆.
    let ts = with_properties S listed in
    rw (e₂, e₄, e₆) (judge-follows (λ Γ. record { schema = S; terms = ts; root = root; types = Γ }) (typings (constants_of S ts) (written_types root) root))))

load-refuses : (l : Lent) (r : Result Checked) → Follows r (load_rules (lengths_fit l) l) → load_tests l ≡ r → LoadRefuses l
unfolding load load_result
load-refuses l (refused n) (refuses e h) q = record { number = rw q e; keeps = λ k. rw q (refl, refl); answers = λ z. absurd (h (e ∙ z)) }
load-refuses l (passed c) (passes e) q = record { number = rw q (sym e); keeps = λ k. absurd (k e); answers = λ z. rw q refl }

-- ── the proof: run ──────────────────────────────────────────────────────────────────────────

module _ (l : Lent) (saved : SavedRun) (budget : ℕ) (now : ℤ) where
  run-follows : Follows (run_tests l saved budget now) (run_rules (lengths_fit l) l.ranks (sound_in l saved) budget now)
  unfolding run_tests entry_tests run_in
  run-follows =
      together (require WrongLength (lengths_fit l)) _ _
      (rule WrongLength (λ e. omega (arith, e)) (lengths_fit l)
      (together (require BadRanks (is_alphabet l.ranks)) _ _
      (rule BadRanks (λ e. omega (arith, e)) (is_alphabet l.ranks)
      (there Unsound (λ e. omega (arith, e)) (sound_in l saved) λ x e₁₀.
      then-passes (λ o. record { checked = x.checked; state = x.state; run = o })
      (rule BadRun (λ e. omega (arith, e)) (leb budget budget_limit && is_date_time now) end)))))

  run-refuses : (r : Result Running) → Follows r (run_rules (lengths_fit l) l.ranks (sound_in l saved) budget now)
      → run_tests l saved budget now ≡ r → RunRefuses l saved budget now
  unfolding run_call run_result Outcomes.◌>>=◌ ran_of
  run-refuses (refused n) (refuses e h) q =
      record {
        ran = record { answer = Err n; saved = saved };
        given = rw q refl;
        number = e;
        keeps = λ k. refl;
        answers = λ z. absurd (h (e ∙ z));
      }
  run-refuses (passed x) (passes e) q =
      let f = run-fine l saved budget now x (run-passed l saved budget now x q) in
      let r = f.0 in
      record {
        ran = ran_of x.checked x.state r;
        given = run-gives l saved budget now x q r f.1;
        number = sym e;
        keeps = λ k. absurd (k e);
        answers = λ z. (length r.passed, r.ending, refl);
      }

-- ── the proof: page ─────────────────────────────────────────────────────────────────────────

module _ (l : Lent) (saved : SavedRun) (g : ℕ) (page : List ℕ) where
  page-follows : Follows (page_tests l saved g page) (page_rules (lengths_fit l) l.ranks (sound_in l saved) g page)
  unfolding page_tests entry_tests take_in if_there
  page-follows =
      together (require WrongLength (lengths_fit l)) _ _
      (rule WrongLength (λ e. omega (arith, e)) (lengths_fit l)
      (together (require BadRanks (is_alphabet l.ranks)) _ _
      (rule BadRanks (λ e. omega (arith, e)) (is_alphabet l.ranks)
      (there Unsound (λ e. omega (arith, e)) (sound_in l saved) λ x e₁₀. rw e₁₀
      (then-passes (λ k. record { checked = x.checked; taken = k })
      (rule NoGraph (λ e. omega (arith, e)) (is_graph (get_elem? x.state.store.terms g))
      (there BadPage (λ e. omega (arith, e)) (page_in page) λ rs e₁₃. rw e₁₃
      (rule NoRoom (λ e. omega (arith, e)) (in_limits (with_page g (taken x.checked.schema g rs x.state.store) x.state.store)) end))))))))

  page-refuses : (r : Result Taking) → Follows r (page_rules (lengths_fit l) l.ranks (sound_in l saved) g page)
      → page_tests l saved g page ≡ r → PageRefuses l saved g page
  unfolding page_call page_result
  page-refuses (refused n) (refuses e h) q = record { number = rw q e; keeps = λ k. rw q (refl, refl, refl); answers = λ z. absurd (h (e ∙ z)) }
  page-refuses (passed x) (passes e) q = record { number = rw q (sym e); keeps = λ k. absurd (k e); answers = λ z. (x.taken.skipped, rw q refl) }

-- ── the proof: total ────────────────────────────────────────────────────────────────────────

no_more : {A : Type 0} {rules : List (ℕ × Bool)} (m : Result A) → Follows (m >>= passed) rules → Follows m rules
unfolding ◌>>=◌
no_more (refused n) h = h
no_more (passed a) h = h

module _ (terms schema script : List ℕ) where
  total-refuses : (r : Result Parsed) → Follows r (read_rules terms schema script) → read_tests terms schema script ≡ r → TotalRefuses terms schema script
  unfolding total total_result
  total-refuses (refused n) (refuses e h) q = record { number = rw q e; answers = λ z. absurd (h (e ∙ z)) }
  total-refuses (passed x) (passes e) q = record { number = rw q (sym e); answers = λ z. (total_of x.root, rw q refl) }

-- ── the proof: number ───────────────────────────────────────────────────────────────────────

number-follows : (text : List ℕ) → Follows (number_call text) (number_rules text)
unfolding number_call if_there
number-follows text =
    there BadNumberText (λ e. omega (arith, e)) (numeral_of text) λ n e. rw e (no_more (given NoSuchNumber (term_of n)) (there NoSuchNumber (λ e. omega (arith, e)) (term_of n) (λ t k. end)))

number-refuses : (text : List ℕ) (r : Result Term) → Follows r (number_rules text) → number_call text ≡ r → NumberRefuses text
number-refuses text (refused n) (refuses e h) q = record { number = rw q e; answers = λ z. absurd (h (e ∙ z)) }
number-refuses text (passed t) (passes e) q = record { number = rw q (sym e); answers = λ z. (t, q) }

-- ── the proof: suggest ──────────────────────────────────────────────────────────────────────

follows-refused : {A : Type 0} {r : Refusal} {rules : List (ℕ × Bool)} → Follows {A = A} (refused r) rules → (refusal_number r ≡ first_broken rules) × (refusal_number r ≡ 0 → ⊥)
follows-refused (refuses e h) = (e, h)

follows-passed : {A : Type 0} {a : A} {rules : List (ℕ × Bool)} → Follows (passed a) rules → first_broken rules ≡ 0
follows-passed (passes e) = e

module _ (terms schema script : List ℕ) where
  -- 8, over what was read
  typed : Parsed → Result (Unit {0})
  typed x = require NoTyping (not (is_empty (typings (constants_of x.schema x.terms) (written_types x.root) x.root))) >> passed tt

  suggest-follows : Follows (read_tests terms schema script >>= typed) (suggest_rules terms schema script)
  unfolding typed onward if_there
  suggest-follows =
      read-follows terms schema script typed _ λ listed S root e₂ e₄ e₆.
      let ts = with_properties S listed in
      rw (e₂, e₄, e₆) (rule NoTyping (λ e. omega (arith, e)) (not (is_empty (typings (constants_of S ts) (written_types root) root))) end)

  -- an answer that is no refusal
  Answered : OrRefusal Suggested → Type 0
  Answered a = (answer_number a ≡ 0) × ((r : Refusal) → a ≡ Err r → ⊥)

  named-answered : (o : Option Suggestion) → Answered (suggest_answer o)
  unfolding Answered suggest_answer
  named-answered none = (refl, λ n e. let z : ◌≡◌ {A = ℕ} 0 1 = cc in omega arith)
  named-answered (some w) = (refl, λ n e. let z : ◌≡◌ {A = ℕ} 0 1 = cc in omega arith)

  abbrev told : Option Suggestion → Verdict → OrRefusal Suggested
  told o v = elim v [ no_typing ↦ Err NoTyping | no_greatest ↦ suggest_answer o | greatest Γ ↦ Ok Suggests.Accepted ]

  above-answered : (o : Option Suggestion) (Γs all : List (List Ty)) → Answered (told o (first_above Γs all))
  unfolding first_above Answered
  above-answered o [] all = named-answered o
  above-answered o (Γ ∷ Γs) all = go (every (above Γ) all) (above-answered o Γs all)
    where
      go : (b : Bool) → Answered (told o (first_above Γs all)) → Answered (told o (elim b as (λ c. Verdict) [ true ↦ greatest Γ | false ↦ first_above Γs all ]))
      go true h = (refl, λ n e. let z : ◌≡◌ {A = ℕ} 0 1 = cc in omega arith)
      go false h = h

  suggest-refuses : (r : Result Parsed) → Follows (r >>= typed) (suggest_rules terms schema script) → read_tests terms schema script ≡ r → SuggestRefuses terms schema script
  unfolding suggest suggest_result suggest_for verdict judge typed Answered require ◌>>=◌ ◌>>◌
  suggest-refuses (refused n) (refuses e h) q = record { number = rw q e; answers = λ z. absurd (h (e ∙ z)) }
  suggest-refuses (passed x) f q = go Γs refl f
    where
      Γs : List (List Ty)
      Γs = typings (constants_of x.schema x.terms) (written_types x.root) x.root

      best : Option Suggestion
      best = suggestion (constants_of x.schema x.terms) (written_types x.root) x.root

      says : (Δs : List (List Ty)) → Γs ≡ Δs → suggest terms schema script ≡ told best (judge Δs)
      says Δs e = ap suggest_result q ∙ ap (λ (Δs : List (List Ty)). told best (judge Δs)) e

      go : (Δs : List (List Ty)) → Γs ≡ Δs → Follows (typed x) (suggest_rules terms schema script) → SuggestRefuses terms schema script
      go [] e f =
          let k = follows-refused (subst (λ (Δs : List (List Ty)). Follows (require NoTyping (not (is_empty Δs)) >> passed tt) (suggest_rules terms schema script)) e f) in
          record { number = ap answer_number (says [] e) ∙ k.0; answers = λ z. absurd (k.1 (k.0 ∙ z)) }
      go (Δ ∷ Δs) e f =
          let k = follows-passed (subst (λ (Δs : List (List Ty)). Follows (require NoTyping (not (is_empty Δs)) >> passed tt) (suggest_rules terms schema script)) e f) in
          let w = above-answered best (Δ ∷ Δs) (Δ ∷ Δs) in
          record { number = ap answer_number (says (Δ ∷ Δs) e) ∙ (w.0 ∙ sym k); answers = λ z n r. w.1 n (sym (says (Δ ∷ Δs) e) ∙ r) }

-- ── the proof: a schema out of a page ───────────────────────────────────────────────────────

module _ (page schema : List ℕ) where
  schema-follows : Follows (schema_tests page schema) (schema_rules (eqb (length schema) schema_width) page)
  unfolding schema_tests if_there
  schema-follows =
      rule WrongLength (λ e. omega (arith, e)) (eqb (length schema) schema_width)
      (there BadPage (λ e. omega (arith, e)) (page_in page) λ rs e₁₃. rw e₁₃
      (rule TooManyEntries (λ e. omega (arith, e)) (leb (length (gathered rs).entries) entry_limit) end))

  schema-refuses : (r : Result Gathered) → Follows r (schema_rules (eqb (length schema) schema_width) page) → schema_tests page schema ≡ r → SchemaRefuses page schema
  unfolding schema_call schema_result
  schema-refuses (refused n) (refuses e h) q = record { number = rw q e; keeps = λ k. rw q refl; answers = λ z. absurd (h (e ∙ z)) }
  schema-refuses (passed g) (passes e) q = record { number = rw q (sym e); keeps = λ k. absurd (k e); answers = λ z. (length g.entries, g.left_out, rw q refl) }

-- ── the proof: publish ──────────────────────────────────────────────────────────────────────

module _ (l : Lent) (saved : SavedRun) (g : ℕ) (buffer : List ℕ) where
  abbrev publish_table : List (ℕ × Bool)
  publish_table = publish_rules (both_tables_fit (lengths_of l)) (sound_in l saved) g (length buffer)

  publish-follows : Follows (publish_tests l saved g (length buffer)) publish_table
  unfolding publish_tests publish_in if_there
  publish-follows =
      rule WrongLength (λ e. omega (arith, e)) (both_tables_fit (lengths_of l))
      (there Unsound (λ e. omega (arith, e)) (sound_in l saved) λ x e₁₀. rw e₁₀
      (rule NotFetched (λ e. omega (arith, e)) (is_in g x.state.store.fetched)
      (rule ShortBuffer (λ e. omega (arith, e)) (leb (length (published g x.state.store)) (length buffer)) end)))

  publish-refuses : (r : Result (List ℕ)) → Follows r publish_table → publish_tests l saved g (length buffer) ≡ r → PublishRefuses l saved g buffer
  unfolding publish_call publish_result
  publish-refuses (refused n) (refuses e h) q = record { number = rw q e; keeps = λ k. rw q refl; answers = λ z. absurd (h (e ∙ z)) }
  publish-refuses (passed page) (passes e) q = record { number = rw q (sym e); keeps = λ k. absurd (k e); answers = λ z. (length page, rw q refl) }

-- ── the theorem ─────────────────────────────────────────────────────────────────────────────

pub demand-1 : Demand1
demand-1 = record {
  load = λ l. load-refuses l (load_tests l) (load-follows l) refl;
  run = λ l saved budget now. run-refuses l saved budget now (run_tests l saved budget now) (run-follows l saved budget now) refl;
  page = λ l saved g page. page-refuses l saved g page (page_tests l saved g page) (page-follows l saved g page) refl;
  total = λ terms schema script.
      let r = read_tests terms schema script in
      total-refuses terms schema script r (no_more r (read-follows terms schema script passed [] (λ listed S root e₂ e₄ e₆. end))) refl;
  number = λ text. number-refuses text (number_call text) (number-follows text) refl;
  suggest = λ terms schema script. suggest-refuses terms schema script (read_tests terms schema script) (suggest-follows terms schema script) refl;
  schema = λ page schema. schema-refuses page schema (schema_tests page schema) (schema-follows page schema) refl;
  publish = λ l saved g buffer. publish-refuses l saved g buffer (publish_tests l saved g (length buffer)) (publish-follows l saved g buffer) refl;
}
