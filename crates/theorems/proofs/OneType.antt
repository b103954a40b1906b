-- One written type that would do, proved.
use Rattle.definitions.specs.Numbers.{refusal_number}
use Rattle.definitions.specs.declared.Refusal.{Refusal}
use Rattle.definitions.specs.declared.Refusal.TheVariants.{WrongLength, BadTerm, TermTwice, BadEntry, PropertyTwice, BadScript, OutOfScope, NoTyping, NoGreatest, BadRanks}
use Rattle.std.specs.Prelude.{Ok, Err}
use Rattle.definitions.specs.Result.{OrRefusal}
use Prim.Native.Nat.{ℕ, zero, suc, ◌+◌, ◌<◌}
use native.Mathlib.Omega.{arith}
use mathlib.Core.Path.{◌≡◌, refl, sym, ap, ap₂, subst, ◌∙◌}
use mathlib.Core.Logic.{⊎_elim, ◌↔◌}
use mathlib.Core.List.{List, [], ◌∷◌}
use mathlib.Core.Bool.{Bool, true, false, not, ◌&&◌}
use mathlib.Core.Option.{Option, none, some}
use lib.Dec.{T, eqb, leb, ltb, eqb→eq, ltb→lt}
use lib.ListN.{length, get_or, set, length-set}
use borrow.Author.Tests.{eq-eqb}
use Rattle.definitions.specs.Limits.{variable_limit, term_limit, entry_limit, script_limit, depth_limit}
use Rattle.definitions.specs.Lists.{every, distinct, is_in}
use Rattle.definitions.specs.Bytes.{byte, provided, onward}
use Rattle.definitions.specs.Alphabet.{is_alphabet}
use Rattle.definitions.specs.Types.{Ty, type_code, type_of_code}
use Rattle.definitions.specs.Terms.{Term, Schema, Sort, same_term, same_property, read_terms, read_schema}
use Rattle.definitions.specs.Tree.{Script}
use Rattle.definitions.specs.Reading.{written_of, read_script, parsed}
use Rattle.definitions.specs.Scope.{variables, variables_of, is_free, binders_of, in_scope}
use Rattle.definitions.specs.Typing.{Written, unbound, undecided, fixed, is_open, annotated, written_in, written_types, Verdict, no_typing, no_greatest, greatest, verdict}
use Rattle.definitions.specs.Suggest.{Suggestion, is_accepted, would_do, suggestion}
use Rattle.definitions.specs.Machine.{with_properties}
use Rattle.definitions.specs.Result.{Result, refused, passed, ◌>>=◌, ◌>>◌, require, given}
use Rattle.definitions.specs.Calls.{Listed, record_tests, sizes_fit, script_tests, Parsed, read_tests, Checked, constants_of, types_of, type_tests, check}
use Rattle.definitions.specs.Calls.{Lent, lengths_fit, load_tests, load_result, load, suggest_answer, suggest_for, suggest_result, suggest}
use Rattle.definitions.specs.declared.Suggested as Code
use Rattle.definitions.specs.declared.Suggested.TheVariants as Suggests
use Rattle.laws.proofs.Tests.{and_left, and_right, or_cases, true_is}
use Rattle.laws.proofs.Options.{some_is, some-not-none, provided-inv, provided-holds, onward-inv, onward-some}
use Rattle.laws.proofs.Results.{passed_is, not-refused, bind_inv, bind-passed, given-bind, given-bind-inv, require-after, require-after-inv}
use Rattle.laws.proofs.Variables.{at-variable}
use Rattle.laws.proofs.Ranges.{every_in}
use Rattle.laws.proofs.Reported.{is_written, written-binds}
use Rattle.laws.proofs.Check.{read-passed}
use Rattle.theorems.specs.OneType.{pair_of, with_code, OpenAt, Accepts, Lowest, NoneDoes, Suggested, OneType, OneTypes}
use Rattle.theorems.proofs.Retyped.{retyped, scope-same, verdict-same, types-written}
use Rattle.theorems.proofs.Rewritten.{pair-bound, bound-pair, Says, script-says, script-inside, rewritten}
use Rattle.theorems.proofs.LowestFirst.{LowestOf, lowest-of, lowest-nothing}

-- ── refusals of reading stand below 8 ───────────────────────────────────────────────────────

abbrev Below : {A : Type 0} → ℕ → Result A → Type 0
Below k (refused n) = refusal_number n < k
Below k (passed a) = Unit {0}

module _ {A B : Type 0} (k : ℕ) where
  bind-below : (m : Result A) (f : A → Result B) → Below k m → ((a : A) → Below k (f a)) → Below k (m >>= f)
  unfolding ◌>>=◌
  bind-below (refused n) f h g = h
  bind-below (passed a) f h g = g a

  after-below : (m : Result A) (n : Result B) → Below k m → Below k n → Below k (m >> n)
  unfolding ◌>>◌
  after-below (refused n) m h g = h
  after-below (passed a) m h g = g

require-below : (k : ℕ) (n : Refusal) (t : Bool) → refusal_number n < k → Below k (require n t)
unfolding require
require-below k n true l = tt
require-below k n false l = l

given_below : {A : Type 0} (k : ℕ) (n : Refusal) (o : Option A) → refusal_number n < k → Below k (given n o)
unfolding given
given_below k n none l = l
given_below k n (some a) l = tt

read_below : (terms schema script : List ℕ) → Below 8 (read_tests terms schema script)
unfolding read_tests record_tests script_tests
read_below terms schema script =
    bind-below 8 (record_tests terms schema) _
    (bind-below 8 (given BadTerm (read_terms terms)) _ (given_below 8 BadTerm (read_terms terms) (omega arith)) (λ listed.
    after-below 8 (require TermTwice (distinct same_term listed)) _ (require-below 8 TermTwice (distinct same_term listed) (omega arith))
    (bind-below 8 (given BadEntry (read_schema schema)) _ (given_below 8 BadEntry (read_schema schema) (omega arith)) (λ S.
    after-below 8 (require PropertyTwice (distinct same_property S)) _ (require-below 8 PropertyTwice (distinct same_property S) (omega arith)) tt))))
    (λ l.
    let ts = with_properties l.schema l.terms in
    bind-below 8 (script_tests ts l.schema script) _
    (after-below 8 (require BadScript (sizes_fit ts l.schema script)) _ (require-below 8 BadScript (sizes_fit ts l.schema script) (omega arith))
    (bind-below 8 (given BadScript (parsed (length ts) script)) _ (given_below 8 BadScript (parsed (length ts) script) (omega arith)) (λ root.
    after-below 8 (require OutOfScope (in_scope root)) _ (require-below 8 OutOfScope (in_scope root) (omega arith)) tt)))
    (λ root. tt))

-- ── what load and suggest answer ────────────────────────────────────────────────────────────

abbrev verdict_of : Parsed → Verdict
verdict_of x = verdict (constants_of x.schema x.terms) (written_types x.root) x.root

abbrev load_answer : Verdict → OrRefusal Unit
load_answer no_typing = Err NoTyping
load_answer no_greatest = Err NoGreatest
load_answer (greatest Γ) = Ok tt

module _ (l : Lent) (fit : T (lengths_fit l)) (good : T (is_alphabet l.ranks)) where
  load_is : (load l).returned.answer ≡ (load_result l (check l.terms l.schema l.script)).returned.answer
  unfolding load load_tests
  load_is =
      ap (λ (r : Result Checked). (load_result l r).returned.answer)
      (require-after WrongLength (lengths_fit l) _ fit ∙ require-after BadRanks (is_alphabet l.ranks) _ good)

  load-unread : {n : Refusal} → read_tests l.terms l.schema l.script ≡ refused n → (load l).returned.answer ≡ Err n
  unfolding check load_result ◌>>=◌
  load-unread e = load_is ∙ ap (λ (r : Result Parsed). (load_result l (r >>= type_tests)).returned.answer) e

  load_read : {x : Parsed} → read_tests l.terms l.schema l.script ≡ passed x → (load l).returned.answer ≡ load_answer (verdict_of x)
  unfolding check load_result type_tests types_of ◌>>=◌
  load_read {x} e = load_is ∙ ap (λ (r : Result Parsed). (load_result l (r >>= type_tests)).returned.answer) e ∙ go (verdict_of x)
    where
      go : (v : Verdict) → (load_result l (types_of v >>= λ Γ. passed (record { schema = x.schema; terms = x.terms; root = x.root; types = Γ }))).returned.answer ≡ load_answer v
      go no_typing = refl
      go no_greatest = refl
      go (greatest Γ) = refl

  -- a load accepts where the verdict is a greatest typing
  accepts-if : {x : Parsed} → read_tests l.terms l.schema l.script ≡ passed x → Accepts l ↔ T (is_accepted (verdict_of x))
  accepts-if {x} e = (λ a. to (verdict_of x) (sym (load_read e) ∙ a), λ t. load_read e ∙ of (verdict_of x) t)
    where
      to : (v : Verdict) → load_answer v ≡ Ok tt → T (is_accepted v)
      to no_typing a = let z : ◌≡◌ {A = ℕ} 0 1 = cc in absurd (omega arith)
      to no_greatest a = let z : ◌≡◌ {A = ℕ} 0 1 = cc in absurd (omega arith)
      to (greatest Γ) a = tt

      of : (v : Verdict) → T (is_accepted v) → load_answer v ≡ Ok tt
      of no_typing t = absurd t
      of no_greatest t = absurd t
      of (greatest Γ) t = refl

module _ (terms schema script : List ℕ) where
  suggest-unread : {n : Refusal} → read_tests terms schema script ≡ refused n → suggest terms schema script ≡ Err n
  unfolding suggest suggest_result
  suggest-unread e = ap suggest_result e

  suggest-read : {x : Parsed} → read_tests terms schema script ≡ passed x
      → suggest terms schema script ≡ suggest_for (constants_of x.schema x.terms) (written_types x.root) x.root
  unfolding suggest suggest_result
  suggest-read e = ap suggest_result e

abbrev answered : Option Suggestion → Verdict → OrRefusal Code.Suggested
answered o v = elim v [ no_typing ↦ Err NoTyping | no_greatest ↦ suggest_answer o | greatest Γ ↦ Ok Suggests.Accepted ]

suggest-for : (constants : ℕ → Sort) (ws : List Written) (s : Script) {v : Verdict} → verdict constants ws s ≡ v
    → suggest_for constants ws s ≡ answered (suggestion constants ws s) v
unfolding suggest_for
suggest-for constants ws s e = ap (answered (suggestion constants ws s)) e

-- ── the script with a type written at a variable ────────────────────────────────────────────

module _ (terms : ℕ) (s : List ℕ) (root : Script) where
  parsed-inv : parsed terms s ≡ some root → read_script s terms depth_limit 0 ≡ some (root, length s)
  unfolding parsed
  parsed-inv e =
      let r = onward-inv (read_script s terms depth_limit 0) (λ r. provided (eqb r.1 (length s)) (some r.0)) e in
      let q = provided-inv (eqb r.0.1 (length s)) (some r.0.0) r.2 in
      r.1 ∙ λ i. some (some_is q.1 i, eqb→eq r.0.1 (length s) q.0 i)

  parsed-made : read_script s terms depth_limit 0 ≡ some (root, length s) → parsed terms s ≡ some root
  unfolding parsed
  parsed-made e =
      onward-some (λ r. provided (eqb r.1 (length s)) (some r.0)) e
      ∙ provided-holds (eqb (length s) (length s)) (true_is (eqb (length s) (length s)) (eq-eqb (length s) (length s) refl)) refl

module _ (y p : ℕ) (τ : Ty) where
  parsed-rewritten : (terms : ℕ) (s : List ℕ) (root : Script) → parsed terms s ≡ some root → T (in_scope root) → pair_of root y ≡ some p
      → parsed terms (set s (p + 1) (type_code τ)) ≡ some (retyped y τ root)
  unfolding in_scope
  parsed-rewritten terms s root e scope f =
      let r = parsed-inv terms s root e in
      let i = script-inside s terms depth_limit 0 (length s) root y p r f in
      let once = and_right (every (λ v. not (is_free v root)) variables) (distinct eqb (variables_of (binders_of root))) scope in
      parsed-made terms (set s (p + 1) (type_code τ)) (retyped y τ root)
      (rewritten s terms y p τ (omega (arith, i)) depth_limit 0 (length s) root r f once ∙ ap (λ (n : ℕ). some (retyped y τ root, n)) (sym (length-set s (p + 1) (type_code τ))))

  tests-rewritten : (ts : List Term) (S : Schema) (script : List ℕ) (root : Script) → script_tests ts S script ≡ passed root → pair_of root y ≡ some p
      → script_tests ts S (set script (p + 1) (type_code τ)) ≡ passed (retyped y τ root)
  unfolding script_tests sizes_fit
  tests-rewritten ts S script root e f =
      let i = require-after-inv BadScript (sizes_fit ts S script) (given BadScript (parsed (length ts) script) >>= scoped) e in
      let j = given-bind-inv BadScript (parsed (length ts) script) scoped i.1 in
      let k = require-after-inv OutOfScope (in_scope j.0) (passed j.0) j.2 in
      let script' = set script (p + 1) (type_code τ) in
      let long = length-set script (p + 1) (type_code τ) in
      let same = passed_is k.1 in
      let good = subst (λ (c : Script). T (in_scope c)) same k.0 in
      let reads = j.1 ∙ ap some same in
      require-after BadScript (sizes_fit ts S script') _ (subst (λ (n : ℕ). T (leb (length ts) term_limit && (leb (length S) entry_limit && leb n script_limit))) (sym long) i.0)
      ∙ given-bind BadScript scoped (parsed-rewritten (length ts) script root reads good f)
      ∙ require-after OutOfScope (in_scope (retyped y τ root)) _ (subst T (sym (scope-same y τ root)) good)
    where
      scoped : Script → Result Script
      scoped root = require OutOfScope (in_scope root) >> passed root

  abbrev rewritten_in : Parsed → Parsed
  rewritten_in x = record { schema = x.schema; terms = x.terms; root = retyped y τ x.root }

  read-rewritten : (terms schema script : List ℕ) (x : Parsed) → read_tests terms schema script ≡ passed x → pair_of x.root y ≡ some p
      → read_tests terms schema (set script (p + 1) (type_code τ)) ≡ passed (rewritten_in x)
  unfolding read_tests
  read-rewritten terms schema script x e f =
      let i = bind_inv (record_tests terms schema) (next script) e in
      let j = bind_inv (script_tests (numbered i.0) i.0.schema script) (made i.0) i.2 in
      subst (λ (x : Parsed). pair_of x.root y ≡ some p → read_tests terms schema (set script (p + 1) (type_code τ)) ≡ passed (rewritten_in x)) (passed_is j.2)
      (λ g. bind-passed (next (set script (p + 1) (type_code τ))) i.1
      ∙ bind-passed (made i.0) (tests-rewritten (numbered i.0) i.0.schema script j.0 j.1 g)) f
    where
      numbered : Listed → List Term
      numbered l = with_properties l.schema l.terms

      made : Listed → Script → Result Parsed
      made l root = passed (record { schema = l.schema; terms = numbered l; root = root })

      next : List ℕ → Listed → Result Parsed
      next script l = script_tests (numbered l) l.schema script >>= made l

-- ── of a card that is read ──────────────────────────────────────────────────────────────────

zero-code : (k : ℕ) → written_of k ≡ some none → k ≡ 0
unfolding written_of
zero-code zero e = refl
zero-code (suc k) e =
    let h = onward-inv (type_of_code (suc k)) (λ τ. some (some τ)) e in
    absurd (some-not-none refl (some_is h.2))

in-variables : (y : ℕ) → y < variable_limit → T (is_in y variables)
in-variables y i = every_in (λ y. is_in y variables) 0 variable_limit tt y (omega arith) (omega arith)

below-limit : (y : ℕ) (xs : List ℕ) → T (every (λ x. ltb x variable_limit) xs) → T (is_in y xs) → y < variable_limit
below-limit y [] h m = absurd m
below-limit y (x ∷ xs) h m =
    ⊎_elim (λ e. subst (λ (n : ℕ). n < variable_limit) (sym (eqb→eq y x e)) (ltb→lt x variable_limit (and_left (ltb x variable_limit) (every (λ x. ltb x variable_limit) xs) h)))
    (below-limit y xs (and_right (ltb x variable_limit) (every (λ x. ltb x variable_limit) xs) h)) (or_cases (eqb y x) (is_in y xs) m)

module _ (l : Lent) (fit : T (lengths_fit l)) (good : T (is_alphabet l.ranks)) (x : Parsed) (read : read_tests l.terms l.schema l.script ≡ passed x) where
  abbrev root : Script
  root = x.root

  abbrev ws : List Written
  ws = written_types root

  abbrev constants : ℕ → Sort
  constants = constants_of x.schema x.terms

  reads : read_script l.script (length x.terms) depth_limit 0 ≡ some (root, length l.script)
  reads = parsed-inv (length x.terms) l.script root (read-passed l.terms l.schema l.script x read).parses

  says : (y p : ℕ) → pair_of root y ≡ some p → Says l.script y p (written_in (binders_of root) y)
  says y p f = script-says l.script (length x.terms) depth_limit 0 (length l.script) root y p reads f

  written_at : (y : ℕ) → y < variable_limit → get_or ws y unbound ≡ written_in (binders_of root) y
  unfolding written_types
  written_at y i = at-variable (written_in (binders_of root)) unbound y i

  -- writing a type leads to acceptance exactly where it would do
  accepts-written : (y p : ℕ) (τ : Ty) → pair_of root y ≡ some p → Accepts (with_code l p (type_code τ)) ↔ T (would_do constants ws root y τ)
  unfolding would_do
  accepts-written y p τ f =
      subst (λ (v : Verdict). Accepts (with_code l p (type_code τ)) ↔ T (is_accepted v))
      (ap (λ (ws : List Written). verdict constants ws (retyped y τ root)) (types-written y τ root (pair-bound root y p f) (says y p f).small) ∙ verdict-same y τ constants (set ws y (fixed τ)) root)
      (accepts-if (with_code l p (type_code τ)) fit good (read-rewritten y p τ l.terms l.schema l.script x read f))

  -- an open variable
  open-written : (y p : ℕ) → OpenAt l.script root y p → T (is_open (get_or ws y unbound))
  unfolding written_of
  open-written y p o =
      let h = says y p o.binds in
      let none-there : h.type ≡ none = sym (some_is (sym (ap written_of o.zero) ∙ h.code)) in
      subst (λ (w : Written). T (is_open w)) (sym (written_at y h.small ∙ h.written ∙ ap annotated none-there)) tt

  written-open : (y : ℕ) → y < variable_limit → T (is_open (get_or ws y unbound)) → (p : ℕ) × OpenAt l.script root y p
  written-open y i t =
      let w = written_in (binders_of root) y in
      let open-here = subst (λ (w : Written). T (is_open w)) (written_at y i) t in
      let bound = subst T (written-binds (binders_of root) y) (open-is-written w open-here) in
      let pair = bound-pair root y bound in
      let h = says y pair.0 pair.1 in
      let none-there = open-is-none h.type (subst (λ (w : Written). T (is_open w)) h.written open-here) in
      (pair.0, record { binds = pair.1; variable = h.variable; zero = zero-code (byte l.script (pair.0 + 1)) (h.code ∙ ap some none-there) })
    where
      open-is-written : (w : Written) → T (is_open w) → T (is_written w)
      open-is-written unbound t = t
      open-is-written undecided t = tt
      open-is-written (fixed τ) t = tt

      open-is-none : (o : Option Ty) → T (is_open (annotated o)) → o ≡ none
      open-is-none none t = refl
      open-is-none (some τ) t = absurd t

  -- a suggestion is the lowest; where there is none, none would do
  suggestion-lowest : (w : Suggestion) → suggestion constants ws root ≡ some w → Lowest l root w.variable (type_code w.type)
  unfolding suggestion
  suggestion-lowest w e =
      let h = lowest-of ws (would_do constants ws root) variables tt w e in
      let o = written-open w.variable (below-limit w.variable variables tt h.among-them) h.undecided in
      record {
        pair = o.0;
        opened = o.1;
        type = w.type;
        code_is = refl;
        accepted = (accepts-written w.variable o.0 w.type o.1.binds).1 h.passes;
        lower = λ y at τ k b a.
            h.lower y τ (in-variables y (says y at k.binds).small) (open-written y at k) b ((accepts-written y at τ k.binds).0 a);
      }

  suggestion-none : suggestion constants ws root ≡ none → NoneDoes l root
  unfolding suggestion
  suggestion-none e y at τ k a =
      lowest-nothing ws (would_do constants ws root) variables e y τ (in-variables y (says y at k.binds).small) (open-written y at k)
      ((accepts-written y at τ k.binds).0 a)

  suggested-so : (o : Option Suggestion) → suggestion constants ws root ≡ o → Suggested l root (suggest_answer o)
  unfolding suggest_answer
  suggested-so none e = suggestion-none e
  suggested-so (some w) e = suggestion-lowest w e

  -- ── by the verdict ────────────────────────────────────────────────────────────────────────

  by-verdict : (v : Verdict) → verdict constants ws root ≡ v → OneType l
  unfolding suggest_answer
  by-verdict v e = go v (load_read l fit good read ∙ ap load_answer e) (suggest-read l.terms l.schema l.script read ∙ suggest-for constants ws root e)
    where
      named-not : (o : Option Suggestion) → (suggest_answer o ≡ Ok Suggests.Accepted → ⊥) × ((n : Refusal) → suggest_answer o ≡ Err n → ⊥)
      named-not none = (λ q. let z : ◌≡◌ {A = ℕ} 0 1 = cc in omega arith, λ n q. let z : ◌≡◌ {A = ℕ} 0 1 = cc in omega arith)
      named-not (some w) = (λ q. let z : ◌≡◌ {A = ℕ} 0 1 = cc in omega arith, λ n q. let z : ◌≡◌ {A = ℕ} 0 1 = cc in omega arith)

      go : (v : Verdict) → (load l).returned.answer ≡ load_answer v → suggest l.terms l.schema l.script ≡ answered (suggestion constants ws root) v → OneType l
      go no_typing a b = record {
        accepted = (λ q. absurd (let z : ◌≡◌ {A = ℕ} 0 1 = cc in omega arith), λ q. absurd (let z : ◌≡◌ {A = ℕ} 0 1 = cc in omega arith));
        refused = λ n k. (λ q. cc, λ q. cc);
        suggested = λ q. absurd (let z : ◌≡◌ {A = ℕ} 8 9 = cc in omega arith);
      }
      go no_greatest a b = record {
        accepted = (λ q. absurd (let z : ◌≡◌ {A = ℕ} 0 1 = cc in omega arith), λ q. absurd ((named-not (suggestion constants ws root)).0 (sym b ∙ q)));
        refused = λ n k. (
          λ q. absurd (let z : ◌≡◌ {A = ℕ} 9 (refusal_number n) = ap refusal_number (let y : NoGreatest ≡ n = cc in y) in omega (arith, z, k)),
          λ q. absurd ((named-not (suggestion constants ws root)).1 n (sym b ∙ q)),
        );
        suggested = λ q. (x, read, subst (Suggested l root) (sym b) (suggested-so (suggestion constants ws root) refl));
      }
      go (greatest Γ) a b = record {
        accepted = (λ q. b, λ q. a);
        refused = λ n k. (λ q. absurd (let z : ◌≡◌ {A = ℕ} 0 1 = cc in omega arith), λ q. absurd (let z : ◌≡◌ {A = ℕ} 0 1 = cc in omega arith));
        suggested = λ q. absurd (let z : ◌≡◌ {A = ℕ} 0 1 = cc in omega arith);
      }

-- ── of any card ─────────────────────────────────────────────────────────────────────────────

one_type : (l : Lent) → T (lengths_fit l) → T (is_alphabet l.ranks) → OneType l
one_type l fit good = go (read_tests l.terms l.schema l.script) refl (read_below l.terms l.schema l.script)
  where
    go : (r : Result Parsed) → read_tests l.terms l.schema l.script ≡ r → Below 8 (read_tests l.terms l.schema l.script) → OneType l
    go (refused m) e h =
        let a = load-unread l fit good e in
        let b = suggest-unread l.terms l.schema l.script e in
        let small : refusal_number m < 8 = subst (Below 8) e h in
        record {
          accepted = (λ q. absurd (let z : ◌≡◌ {A = ℕ} 0 1 = cc in omega arith), λ q. absurd (let z : ◌≡◌ {A = ℕ} 0 1 = cc in omega arith));
          refused = λ n k. (λ q. let z : m ≡ n = cc in cc, λ q. let z : m ≡ n = cc in cc);
          suggested = λ q. absurd (let z : ◌≡◌ {A = ℕ} (refusal_number m) 9 = ap refusal_number (let y : m ≡ NoGreatest = cc in y) in omega (arith, z, small));
        }
    go (passed x) e h = by-verdict l fit good x e (verdict_of x) refl

pub one-types : OneTypes
one-types = record { one = one_type }
