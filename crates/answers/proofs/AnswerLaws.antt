-- Laws of a block's answer: what the search is given stands for the block on top, what it finds is the machine's answer, and a tuple tried comes to the machine's outcome.
use Prim.Native.Nat.{ℕ, zero, suc, ◌+◌, ◌-◌, ◌*◌, ◌≤◌, ◌<◌}
use native.Mathlib.Omega.{arith}
use mathlib.Core.Path.{◌≡◌, refl, ap, sym, subst, fun_ext, ◌∙◌}
use mathlib.Core.List.{List, [], ◌∷◌, ◌++◌, map}
use mathlib.Core.Bool.{Bool, true, false, cond, ◌&&◌}
use mathlib.Core.Option.{Option, none, some}
use mathlib.Core.Logic.{⊎_elim}
use lib.Dec.{T, eqb, eqb→eq, eqb_refl, ltb, ltb→lt}
use lib.ListN.{length, get_or, take, replicate, get_or-eq_default, length-map}
use borrow.Author.Tests.{lt-ltb, le-ltb}
use Rattle.definitions.specs.Limits.{variable_limit, pair_limit, term_limit}
use Rattle.definitions.specs.Lists.{every, is_in, distinct}
use Rattle.definitions.specs.Bytes.{byte, filled, onward}
use Rattle.definitions.specs.Types.{type_of_code}
use Rattle.definitions.specs.Terms.{Term, Schema}
use Rattle.definitions.specs.Tree.{Script, block, Binder, Query}
use Rattle.definitions.specs.Reading.{read_query, binder_at, binders_at, written_of}
use Rattle.definitions.specs.Scope.{variables, variables_of}
use Rattle.definitions.specs.Typing.{type_at}
use Rattle.definitions.specs.Outcome.{ok}
use Rattle.definitions.specs.Evaluate.{Setting, Bindings, Quad, query}
use Rattle.definitions.specs.Evaluated.{query_records}
use Rattle.definitions.specs.Search.{Typing, Tuple, answer, bind}
use Rattle.definitions.specs.Machine.{Control, State, answer_now}
use Rattle.definitions.specs.Saved.{is_bound, number_or_zero, saved_item, saved_control, has_tuple, last_numbers}
use Rattle.definitions.specs.Sound.{last_sound}
use Rattle.definitions.specs.Calls.{Checked}
use Rattle.definitions.specs.declared.SavedItem.{SavedItem}
use Rattle.definitions.specs.declared.SavedControl.{SavedControl}
use Rattle.laws.proofs.Tests.{and_left, or_left, or_right}
use Rattle.laws.proofs.Options.{provided-inv, onward-inv}
use Rattle.laws.specs.Lists.{All}
use Rattle.laws.specs.Outcomes.{Fine}
use Rattle.laws.proofs.NoFault.{fine-at}
use Rattle.laws.proofs.Ranges.{split}
use Rattle.laws.specs.Bindings.{Fits}
use Rattle.laws.proofs.Bindings.{is_below}
use Rattle.laws.proofs.Answers.{IfSome, answer-fine}
use Rattle.laws.proofs.Places.{block-binds}
use Rattle.laws.proofs.Variables.{at-variable}
use Rattle.laws.proofs.Saved.{terms-few}
use Rattle.laws.proofs.Levels.{query-more}
use Rattle.laws.proofs.SoundMeans.{ItemFacts, Facts, facts}
use Rattle.scan.specs.Codes.{sought_code, free_code}
use Rattle.query.specs.Codes.{number_at, bindings_of}
use Rattle.query.specs.declared.Context.{Context}
use Rattle.query.specs.StoreLent.{setting_in}
use Rattle.search.specs.Ready.{Ready}
use Rattle.search.proofs.AtBlock.{block_apart, block-ready, world, answer-now}
use Rattle.search.specs.Finding.{numbers_from, tuple_of, last_of, World, AnswerOf}
use Rattle.search.specs.Trying.{tuple_fits, TriedOf}
use Rattle.search.specs.declared.Tried.{Tried}
use Rattle.search.specs.declared.Block.{Block}
use Rattle.std.specs.Prelude.{Option as Maybe, None, Some, option_map, is_some, IfSome as WhereSome, Result, Ok, Err, OkIff}
use Rattle.std.specs.Result.{result_unwrap_or}
use Rattle.laws.specs.Pairs.{pair_variables}
use Rattle.store.specs.Stack.{top_of}
use Rattle.acts.specs.Steps.{Top, on_top, answer_of}
use Rattle.answers.specs.Answers.{known_code, known_of, pair_numbers, types_of, four_of, block_of, short_number, short_numbers}
use Rattle.answers.specs.Lends.{Lends, setting, typing, AnswersNow, TriesNow}
use Rattle.store.proofs.ControlStates.{saved-top}
use Rattle.acts.proofs.StepLaws.{run_is, room, item-facts, Blocked, blocked}
use Rattle.laws.proofs.Reported.{type-reported}

-- ── what is known of the variables ──────────────────────────────────────────────────────────

number-again : (o : Option ℕ) → ((i : ℕ) → o ≡ some i → i < sought_code) → number_at (cond (is_bound o) (number_or_zero o) free_code) ≡ o
number-again none h = refl
number-again (some i) h = ap (λ (b : Bool). cond b (some i) none) (lt-ltb i sought_code (h i refl))

-- the state's own bindings
known_is : (types : List ℕ) (c : Control) (run : SavedControl) → run ≡ saved_control types c → ((v i : ℕ) → c.bindings v ≡ some i → v < variable_limit)
    → ((v i : ℕ) → c.bindings v ≡ some i → i < sought_code) → bindings_of (known_of run.bound run.bindings) ≡ c.bindings
unfolding bindings_of known_of saved_control
known_is types c run e few low =
    (λ z. λ x. number_at (get_or (map (known_code (e z).bound (e z).bindings) variables) x free_code))
    ∙ fun_ext (λ v. ⊎_elim (outside v) (within v) (split variable_limit v))
  where
    β : Bindings
    β = c.bindings

    saved : SavedControl
    saved = saved_control types c

    code : ℕ → ℕ
    code = known_code saved.bound saved.bindings

    within : (v : ℕ) → v < variable_limit → number_at (get_or (map code variables) v free_code) ≡ β v
    within v l =
        ap number_at (at-variable code free_code v l
        ∙ (λ z. cond (at-variable (λ v. is_bound (β v)) false v l z) (at-variable (λ v. number_or_zero (β v)) 0 v l z) free_code))
        ∙ number-again (β v) (low v)

    nothing : (v : ℕ) → variable_limit ≤ v → (o : Option ℕ) → β v ≡ o → none ≡ o
    nothing v h none q = refl
    nothing v h (some i) q = absurd (omega (arith, few v i q))

    outside : (v : ℕ) → variable_limit ≤ v → number_at (get_or (map code variables) v free_code) ≡ β v
    outside v h = ap number_at (get_or-eq_default (map code variables) free_code {n = v} h) ∙ nothing v h (β v) refl

-- ── the pairs ───────────────────────────────────────────────────────────────────────────────

here-or : (s : List ℕ) (at : ℕ) → byte s at < 16 → (left : ℕ) → ((j : ℕ) → j < left → byte s (at + 2 + 2 * j) < 16) → (k : ℕ) → k < suc left → byte s (at + 2 * k) < 16
here-or s at h left f zero l = let e : at ≡ at + 2 * 0 = omega arith in subst (λ (i : ℕ). byte s i < 16) e h
here-or s at h left f (suc k) l = let e : at + 2 + 2 * k ≡ at + 2 * suc k = omega arith in subst (λ (i : ℕ). byte s i < 16) e (f k (omega arith))

-- each of a block's pairs has a variable's number, an unused one zero
pair-low : (left count : ℕ) (s : List ℕ) (at : ℕ) (bs : List Binder) → binders_at left count s at ≡ some bs → (k : ℕ) → k < left → byte s (at + 2 * k) < 16
unfolding binders_at binder_at
pair-low zero count s at bs e k l = absurd (omega arith)
pair-low (suc left) zero s at bs e k l =
    let unused = eqb (byte s at) 0 in
    let p = provided-inv (unused && eqb (byte s (at + 1)) 0) (binders_at left zero s (at + 2)) e in
    let z = eqb→eq (byte s at) 0 (and_left unused (eqb (byte s (at + 1)) 0) p.0) in
    here-or s at (omega arith) left (λ j m. pair-low left zero s (at + 2) bs p.1 j m) k l
pair-low (suc left) (suc count) s at bs e k l =
    let p = onward-inv (binder_at s at) (λ b. onward (binders_at left count s (at + 2)) (λ bs. some (b ∷ bs))) e in
    let q = onward-inv (binders_at left count s (at + 2)) (λ bs. some (p.0 ∷ bs)) p.2 in
    let r = provided-inv (ltb (byte s at) variable_limit) (onward (written_of (byte s (at + 1))) (λ w. some (record { variable = byte s at; written = w }))) p.1 in
    here-or s at (ltb→lt (byte s at) variable_limit r.0) left (λ j m. pair-low left count s (at + 2) q.0 q.1 j m) k l

-- the variables as the search has them
numbers-pairs : (s : List ℕ) (at n : ℕ) → n ≤ 4 → numbers_from n (pair_numbers s at) 0 ≡ pair_variables n s (at + 3)
unfolding numbers_from pair_variables
numbers-pairs s at n l = go n l
  where
    two : at + 5 ≡ at + 3 + 2
    two = omega arith

    three : at + 7 ≡ at + 3 + 2 + 2
    three = omega arith

    four : at + 9 ≡ at + 3 + 2 + 2 + 2
    four = omega arith

    go : (n : ℕ) → n ≤ 4 → numbers_from n (pair_numbers s at) 0 ≡ pair_variables n s (at + 3)
    go zero l = refl
    go (suc zero) l = refl
    go (suc (suc zero)) l = λ z. byte s (at + 3) ∷ byte s (two z) ∷ []
    go (suc (suc (suc zero))) l = λ z. byte s (at + 3) ∷ byte s (two z) ∷ byte s (three z) ∷ []
    go (suc (suc (suc (suc zero)))) l = λ z. byte s (at + 3) ∷ byte s (two z) ∷ byte s (three z) ∷ byte s (four z) ∷ []
    go (suc (suc (suc (suc (suc n))))) l = absurd (omega arith)

pub pairs-low : (s : List ℕ) (at : ℕ) → ((k : ℕ) → k < 4 → byte s (at + 3 + 2 * k) < 16) → (k : ℕ) → get_or (pair_numbers s at) k 0 < 16
pairs-low s at h zero = let e : at + 3 + 2 * 0 ≡ at + 3 = omega arith in subst (λ (i : ℕ). byte s i < 16) e (h 0 (omega arith))
pairs-low s at h (suc zero) = let e : at + 3 + 2 * 1 ≡ at + 5 = omega arith in subst (λ (i : ℕ). byte s i < 16) e (h 1 (omega arith))
pairs-low s at h (suc (suc zero)) = let e : at + 3 + 2 * 2 ≡ at + 7 = omega arith in subst (λ (i : ℕ). byte s i < 16) e (h 2 (omega arith))
pairs-low s at h (suc (suc (suc zero))) = let e : at + 3 + 2 * 3 ≡ at + 9 = omega arith in subst (λ (i : ℕ). byte s i < 16) e (h 3 (omega arith))
pairs-low s at h (suc (suc (suc (suc k)))) = omega arith

-- ── their types ─────────────────────────────────────────────────────────────────────────────

types-at : (types vars : List ℕ) (k : ℕ) → k < 4 → get_or (types_of types vars) k 0 ≡ get_or types (get_or vars k 0) 0
types-at types vars zero l = refl
types-at types vars (suc zero) l = refl
types-at types vars (suc (suc zero)) l = refl
types-at types vars (suc (suc (suc zero))) l = refl
types-at types vars (suc (suc (suc (suc k)))) l = absurd (omega arith)

number_in : (n : ℕ) (l : List ℕ) (k j : ℕ) → j < n → T (is_in (get_or l (k + j) 0) (numbers_from n l k))
unfolding numbers_from
number_in zero l k j h = absurd (omega arith)
number_in (suc n) l k zero h =
    let e : k + 0 ≡ k = omega arith in
    let x = get_or l (k + 0) 0 in
    or_left (eqb x (get_or l k 0)) (is_in x (numbers_from n l (k + 1))) (subst (λ (i : ℕ). T (eqb (get_or l (k + 0) 0) (get_or l i 0))) e (eqb_refl (get_or l (k + 0) 0)))
number_in (suc n) l k (suc j) h =
    let e : k + 1 + j ≡ k + suc j = omega arith in
    let x = get_or l (k + suc j) 0 in
    or_right (eqb x (get_or l k 0)) (is_in x (numbers_from n l (k + 1)))
    (subst (λ (i : ℕ). T (is_in (get_or l i 0) (numbers_from n l (k + 1)))) e (number_in n l (k + 1) j (omega arith)))

-- ── the last tuple ──────────────────────────────────────────────────────────────────────────

numbers-shift : (n : ℕ) (x : ℕ) (l : List ℕ) (k : ℕ) → numbers_from n (x ∷ l) (suc k) ≡ numbers_from n l k
unfolding numbers_from
numbers-shift zero x l k = refl
numbers-shift (suc n) x l k =
    let e : suc k + 1 ≡ suc (k + 1) = omega arith in
    ap (λ (r : List ℕ). get_or l k 0 ∷ r) (ap (numbers_from n (x ∷ l)) e ∙ numbers-shift n x l (k + 1))

numbers-front : (t after : List ℕ) → numbers_from (length t) (t ++ after) 0 ≡ t
unfolding numbers_from
numbers-front [] after = refl
numbers-front (x ∷ t) after = ap (λ (r : List ℕ). x ∷ r) (numbers-shift (length t) x (t ++ after) 0 ∙ numbers-front t after)

four-numbers : (n : ℕ) → n ≤ 4 → (l : List ℕ) → numbers_from n (four_of l) 0 ≡ numbers_from n l 0
unfolding numbers_from
four-numbers zero h l = refl
four-numbers (suc zero) h l = refl
four-numbers (suc (suc zero)) h l = refl
four-numbers (suc (suc (suc zero))) h l = refl
four-numbers (suc (suc (suc (suc zero)))) h l = refl
four-numbers (suc (suc (suc (suc (suc n))))) h l = absurd (omega arith)

last-is : (terms at size : ℕ) (each : Bool) (bs : List Binder) (q : Query) (c : Script) (last : Option Tuple) → T (last_sound terms (block at each bs q c) last)
    → size ≡ length bs → last_of (has_tuple last) (last_numbers last) 0 size ≡ last
unfolding last_sound filled
last-is terms at size each bs q c none h e = refl
last-is terms at size false bs q c (some t) h e = absurd h
last-is terms at size true bs q c (some t) h e =
    let sized = eqb (length t) (length bs) in
    let n : size ≡ length t = e ∙ sym (eqb→eq (length t) (length bs) (and_left sized (every (λ i. ltb i terms) t) h)) in
    ap some (ap (λ (m : ℕ). numbers_from m (t ++ replicate (pair_limit - length t) 0) 0) n ∙ numbers-front t (replicate (pair_limit - length t) 0))

-- ── a tuple to try ──────────────────────────────────────────────────────────────────────────

four_is : (l : List ℕ) → length l ≡ 4 → four_of l ≡ l
four_is [] e = absurd (omega arith)
four_is (a ∷ []) e = absurd (omega arith)
four_is (a ∷ b ∷ []) e = absurd (omega arith)
four_is (a ∷ b ∷ c ∷ []) e = absurd (omega arith)
four_is (a ∷ b ∷ c ∷ d ∷ []) e = refl
four_is (a ∷ b ∷ c ∷ d ∷ x ∷ l) e = absurd (omega arith)

-- a function at each of four numbers
pub at-four : (f : ℕ → ℕ) (l m : List ℕ) → length m ≡ 4 → ((i : ℕ) → i < 4 → get_or m i 0 ≡ f (get_or l i 0))
    → m ≡ f (get_or l 0 0) ∷ f (get_or l 1 0) ∷ f (get_or l 2 0) ∷ f (get_or l 3 0) ∷ []
at-four f l m h e = sym (four_is m h) ∙ (λ z. e 0 (omega arith) z ∷ e 1 (omega arith) z ∷ e 2 (omega arith) z ∷ e 3 (omega arith) z ∷ [])

-- of four numbers those past the variables do not matter
bind-front : (l vs : List ℕ) → length vs ≤ 4 → (β : Bindings) → bind vs (numbers_from (length vs) (four_of l) 0) β ≡ bind vs (four_of l) β
unfolding bind numbers_from
bind-front l [] h β = refl
bind-front l (v ∷ []) h β = refl
bind-front l (v ∷ w ∷ []) h β = refl
bind-front l (v ∷ w ∷ x ∷ []) h β = refl
bind-front l (v ∷ w ∷ x ∷ y ∷ []) h β = refl
bind-front l (v ∷ w ∷ x ∷ y ∷ z ∷ vs) h β = absurd (omega arith)

fits-front : (S : Schema) (Γ : Typing) (terms : List Term) (l vs : List ℕ) → length vs ≤ 4
    → tuple_fits S Γ terms vs (numbers_from (length vs) (four_of l) 0) ≡ tuple_fits S Γ terms vs (four_of l)
unfolding tuple_fits numbers_from
fits-front S Γ terms l [] h = refl
fits-front S Γ terms l (v ∷ []) h = refl
fits-front S Γ terms l (v ∷ w ∷ []) h = refl
fits-front S Γ terms l (v ∷ w ∷ x ∷ []) h = refl
fits-front S Γ terms l (v ∷ w ∷ x ∷ y ∷ []) h = refl
fits-front S Γ terms l (v ∷ w ∷ x ∷ y ∷ z ∷ vs) h = absurd (omega arith)

-- ── the numbers found ───────────────────────────────────────────────────────────────────────

fits_low : (S : Schema) (Γ : Typing) (terms : List Term) → length terms ≤ term_limit → (vs t : List ℕ) → Fits S Γ terms vs t → All (λ i. i < sought_code) t
fits_low S Γ terms l [] [] h = tt
fits_low S Γ terms l [] (i ∷ t) h = absurd h
fits_low S Γ terms l (v ∷ vs) [] h = absurd h
fits_low S Γ terms l (v ∷ vs) (i ∷ t) h =
    (omega (arith, is_below terms i h.0.term h.0.there), fits_low S Γ terms l vs t h.1)

short-is : (n : ℕ) → n < sought_code → n ≡ short_number n
unfolding short_number
short-is n l = sym (ap (λ (b : Bool). cond b n 0) (lt-ltb n sought_code l))

short-not : (n : ℕ) → sought_code ≤ n → 0 ≡ short_number n
unfolding short_number
short-not n l = sym (ap (λ (b : Bool). cond b n 0) (le-ltb n sought_code l))

-- a conversion that may fail, with zero where it does
pub short-of : {E : Type 0} (r : Result ℕ E) (n : ℕ) → OkIff r (n < 65536) n → result_unwrap_or r 0 ≡ short_number n
short-of (Ok m) n h = h.1 ∙ short-is n h.0
short-of (Err e) n h = short-not n (omega (arith, h))

shorts-are : (n : ℕ) → n ≤ 4 → (l : List ℕ) → All (λ i. i < sought_code) (numbers_from n l 0) → numbers_from n l 0 ≡ take n (short_numbers l)
unfolding numbers_from
shorts-are zero h l a = refl
shorts-are (suc zero) h l a = λ z. short-is (get_or l 0 0) a.0 z ∷ []
shorts-are (suc (suc zero)) h l a = λ z. short-is (get_or l 0 0) a.0 z ∷ short-is (get_or l 1 0) a.1.0 z ∷ []
shorts-are (suc (suc (suc zero))) h l a =
    λ z. short-is (get_or l 0 0) a.0 z ∷ short-is (get_or l 1 0) a.1.0 z ∷ short-is (get_or l 2 0) a.1.1.0 z ∷ []
shorts-are (suc (suc (suc (suc zero)))) h l a =
    λ z. short-is (get_or l 0 0) a.0 z ∷ short-is (get_or l 1 0) a.1.0 z ∷ short-is (get_or l 2 0) a.1.1.0 z ∷ short-is (get_or l 3 0) a.1.1.1.0 z ∷ []
shorts-are (suc (suc (suc (suc (suc n))))) h l a = absurd (omega arith)

-- what is found fits the variables, and so is what the saved run can hold
found-is : (S : Schema) (Γ : Typing) (terms : List Term) → length terms ≤ term_limit → (vs : List ℕ) (n : ℕ) → n ≤ 4 → (r : Maybe (List ℕ))
    → IfSome (Fits S Γ terms vs) (tuple_of r 0 n) → tuple_of r 0 n ≡ answer_of (option_map short_numbers r) n
found-is S Γ terms few vs n l None h = refl
found-is S Γ terms few vs n l (Some t) h = ap some (shorts-are n l t (fits_low S Γ terms few vs (numbers_from n t 0) h))

-- ── the block ───────────────────────────────────────────────────────────────────────────────

pub block_made : (s : List ℕ) (at : ℕ) (types used : List ℕ) (size : ℕ) → size ≡ byte s (at + 2) → (vars : List ℕ) → vars ≡ pair_numbers s at
    → (codes : List ℕ) → codes ≡ types_of types vars → (last : List ℕ) → last ≡ four_of used
    → ◌≡◌ {A = Block} (record { «at» = at + 11; size = size; vars = vars; types = codes; last = last }) (block_of s at types used)
block_made s at types used size e vars v codes t last l =
    λ z. record { «at» = at + 11; size = e z; vars = v z; types = (t ∙ ap (types_of types) v) z; last = l z }

-- ── the search ──────────────────────────────────────────────────────────────────────────────

-- what a ready search finds fits the variables
ready-fits : (σ : Setting) (Γ : Typing) (terms : List Term) (quads : List Quad) (β : Bindings) (vs : List ℕ) (q : Query) → Ready σ.schema Γ terms β vs q
    → (last : Option Tuple) → Fine (IfSome (Fits σ.schema Γ terms vs)) (answer σ Γ terms quads β vs q last)
ready-fits σ Γ terms quads β vs q r last =
    answer-fine σ Γ r.loaded terms r.extends quads β r.well_bound vs q r.bounded r.bound r.typed last

-- ── the block on top ────────────────────────────────────────────────────────────────────────

module _ {script ranks table quads leasts : List ℕ} {x : Context} {run : SavedControl} {at : ℕ} (w : Lends script ranks table quads leasts x run) (t : Top w.here at)
    (kind : byte script at ≡ 0x73) where
  abbrev c : Checked
  c = w.here.checked

  abbrev s : State
  s = w.here.state

  abbrev b : Blocked (on_top w.here t)
  b = blocked (on_top w.here t) kind

  abbrev n : ℕ
  n = byte script (at + 2)

  state-facts : Facts c s
  state-facts = facts c w.here.accepted s w.here.sound

  low-number : (v i : ℕ) → s.control.bindings v ≡ some i → i < sought_code
  low-number v i e =
      let h = (state-facts.bindings v i e).holds in
      omega (arith, is_below s.store.terms i h.term h.there, terms-few c w.here.accepted s w.here.sound)

  pub known-now : bindings_of (known_of run.bound run.bindings) ≡ s.control.bindings
  known-now = known_is run.types s.control run w.here.saved (λ v i e. (state-facts.bindings v i e).below) low-number

  pub block-small : (k : ℕ) → get_or (pair_numbers script at) k 0 < 16
  block-small = pairs-low script at (pair-low 4 n script (at + 3) b.reads.binders b.reads.reads.binders)

  pub block_room : at + 11 ≤ length script
  block_room = b.reads.reads.room

  -- the item as the saved control has it
  pub top-item : top_of run ≡ saved_item t.item
  top-item =
      ap top_of (run_is (on_top w.here t))
      ∙ saved-top run.types s.control.bindings t.item t.rest (room (on_top w.here t))

  module _ (used : List ℕ) where
    abbrev seen : Block
    seen = block_of script at run.types used

    abbrev free : List ℕ
    free = known_of run.bound run.bindings

    module _ (each : Bool) (bs : List Binder) (q : Query) (d : Script) (is : t.item.script ≡ block at each bs q d) where
      same : (b.reads.binders ≡ bs) × (b.reads.query ≡ q)
      same = let p : block at b.reads.each b.reads.binders b.reads.query b.reads.body ≡ block at each bs q d = sym b.is ∙ is in (cc, cc)

      vars-are : numbers_from n (pair_numbers script at) 0 ≡ variables_of bs
      vars-are = numbers-pairs script at n b.four ∙ (sym b.variables ∙ ap variables_of same.0)

      size_is : n ≡ length bs
      size_is = sym b.count ∙ ap length same.0

      item-here : ItemFacts c.root (length s.store.terms) s.control.bindings (suc (length t.rest)) (record { script = block at each bs q d; last = t.item.last })
      item-here =
          subst (λ (e : Script). ItemFacts c.root (length s.store.terms) s.control.bindings (suc (length t.rest)) (record { script = e; last = t.item.last })) is
          (item-facts (on_top w.here t))

      read_here : read_query script x.loaded 24 (at + 11) ≡ some (q, b.reads.reads.next)
      read_here =
          query-more script x.loaded b.reads.left 24 (at + 11) b.reads.few b.reads.query b.reads.reads.next b.reads.reads.query
          ∙ ap (λ (y : Query). some (y, b.reads.reads.next)) same.1

      typed-here : (k : ℕ) → k < n → type_of_code (get_or (types_of run.types (pair_numbers script at)) k 0) ≡ some (type_at c.types (get_or (pair_numbers script at) k 0))
      typed-here k l =
          let v = get_or (pair_numbers script at) k 0 in
          let first : 0 + k ≡ k = omega arith in
          let there : T (is_in v (variables_of bs)) =
          subst (λ (vs : List ℕ). T (is_in v vs)) vars-are
          (subst (λ (i : ℕ). T (is_in (get_or (pair_numbers script at) i 0) (numbers_from n (pair_numbers script at) 0))) first (number_in n (pair_numbers script at) 0 k l)) in
          ap type_of_code (types-at run.types (pair_numbers script at) k (omega (arith, b.four)) ∙ ap (λ (ts : List ℕ). get_or ts v 0) w.reports)
          ∙ type-reported c.root c.types w.full v (block-small k) (block-binds item-here.in_root v there)

      ready : Ready c.schema (type_at c.types) s.store.terms s.control.bindings (variables_of bs) q
      ready = block-ready c w.here.accepted s w.here.sound item-here.in_root item-here.bound

      -- what the bytes stand for, and what the search promises of it
      abbrev world-here : World script ranks table quads leasts x seen
      world-here =
          world c w.here.accepted s w.here.sound w.scope t.stack is script ranks w.ranked w.told w.lent seen b.reads.reads.next read_here b.four block-small typed-here

      answered : (started : Bool) (r : Maybe (List ℕ)) → AnswerOf world-here free started r
          → answer_now (setting w) (typing w) s (variables_of bs) q (last_of started (four_of used) 0 n) ≡ ok (tuple_of r 0 n)
      answered started r =
          answer-now c w.here.accepted s w.here.sound w.scope t.stack is script ranks w.ranked w.told w.lent seen
          b.reads.reads.next read_here b.four block-small typed-here free started r vars-are known-now

      -- what trying promises, in the machine's terms
      tried : (r : Maybe Tried) → length used ≡ 4 → TriedOf world-here free (four_of used) 0 r
          → let β = bind (variables_of bs) used s.control.bindings in
          (is_some r ≡ tuple_fits c.schema (type_at c.types) s.store.terms (variables_of bs) used)
          × WhereSome r (λ y. (query (setting w) s.store.terms s.store.quads β q ≡ ok y.holds) × (y.records ≡ query_records (setting w) s.store.terms s.store.quads β q))
      unfolding setting_in
      tried r four h =
          let vs = variables_of bs in
          let β = s.control.bindings in
          let all : n - 0 ≡ n = omega arith in
          let size : n ≡ length vs = size_is ∙ sym (length-map bs (λ (b : Binder). b.variable)) in
          let few : length vs ≤ 4 = omega (arith, b.four, size) in
          let vars : numbers_from (n - 0) (pair_numbers script at) 0 ≡ vs = ap (λ (m : ℕ). numbers_from m (pair_numbers script at) 0) all ∙ vars-are in
          let numbers : numbers_from (n - 0) (four_of used) 0 ≡ numbers_from (length vs) (four_of used) 0 = ap (λ (m : ℕ). numbers_from m (four_of used) 0) (all ∙ size) in
          let whole = four_is used four in
          let bound : bind vs (numbers_from (length vs) (four_of used) 0) β ≡ bind vs used β = bind-front used vs few β ∙ ap (λ (l : List ℕ). bind vs l β) whole in
          let fit = fits-front c.schema (type_at c.types) s.store.terms used vs few ∙ ap (tuple_fits c.schema (type_at c.types) s.store.terms vs) whole in
          let g₁ : Given vs (bindings_of free) (numbers_from (n - 0) (four_of used) 0) = subst (λ (y : List ℕ). Given y (bindings_of free) (numbers_from (n - 0) (four_of used) 0)) vars h in
          let g₂ : Given vs β (numbers_from (n - 0) (four_of used) 0) = subst (λ (δ : Bindings). Given vs δ (numbers_from (n - 0) (four_of used) 0)) known-now g₁ in
          let g = subst (Given vs β) numbers g₂ (block_apart w.scope item-here.in_root) ready in
          (g.0 ∙ fit, subst Comes bound g.1)
        where
          Comes : Bindings → Type 0
          Comes δ =
              WhereSome r (λ y. (query (setting w) s.store.terms s.store.quads δ q ≡ ok y.holds) × (y.records ≡ query_records (setting w) s.store.terms s.store.quads δ q))

          Given : List ℕ → Bindings → Tuple → Type 0
          Given vs δ t =
              T (distinct eqb vs) → Ready c.schema (type_at c.types) s.store.terms δ vs q
              → (is_some r ≡ tuple_fits c.schema (type_at c.types) s.store.terms vs t) × Comes (bind vs t δ)

    pub answers-now : (started : Bool) (item : SavedItem) → item ≡ top_of run → started ≡ item.started → used ≡ item.last
        → (r : Maybe (List ℕ)) → ((y : World script ranks table quads leasts x seen) → AnswerOf y free started r)
        → (answer : Maybe (List ℕ)) → answer ≡ option_map short_numbers r → AnswersNow w t answer
    unfolding saved_item
    answers-now started item i e f r h answer g each bs q d is =
        let on : item ≡ saved_item t.item = i ∙ top-item in
        let last : last_of started (four_of used) 0 n ≡ t.item.last =
        ap (λ (l : List ℕ). cond started (some l) none) (four-numbers n b.four used)
        ∙ (λ z. last_of ((e ∙ ap (λ (y : SavedItem). y.started) on) z) ((f ∙ ap (λ (y : SavedItem). y.last) on) z) 0 n)
        ∙ last-is (length s.store.terms) at n each bs q d t.item.last (item-here each bs q d is).last (size_is each bs q d is) in
        let p : answer_now (setting w) (typing w) s (variables_of bs) q t.item.last ≡ ok (tuple_of r 0 n) =
        ap (answer_now (setting w) (typing w) s (variables_of bs) q) (sym last) ∙ answered each bs q d is started r (h (world-here each bs q d is)) in
        let fit = fine-at (tuple_of r 0 n) p (ready-fits (setting w) (typing w) s.store.terms s.store.quads s.control.bindings
        (variables_of bs) q (ready each bs q d is) t.item.last) in
        p ∙ ap ok (found-is c.schema (type_at c.types) s.store.terms (terms-few c w.here.accepted s w.here.sound) (variables_of bs) n b.four r fit
        ∙ ap (λ (o : Maybe (List ℕ)). answer_of o n) (sym g))

    -- as the code made them
    module _ (block : Block) (made : block ≡ seen) where
      pub world-given : World script ranks table quads leasts x block
      world-given =
          subst (World script ranks table quads leasts x) (sym made) (world-here b.reads.each b.reads.binders b.reads.query b.reads.body b.is)

      pub answers-given : (known : List ℕ) → known ≡ free → (started : Bool) (item : SavedItem) → item ≡ top_of run → started ≡ item.started → used ≡ item.last
          → (r : Maybe (List ℕ)) → ((y : World script ranks table quads leasts x block) → AnswerOf y known started r)
          → (answer : Maybe (List ℕ)) → answer ≡ option_map short_numbers r → AnswersNow w t answer
      answers-given known e started item i f g r h =
          answers-now started item i f g r
          (subst (λ (k : List ℕ). (y : World script ranks table quads leasts x seen) → AnswerOf y k started r) e
          (subst (λ (z : Block). (y : World script ranks table quads leasts x z) → AnswerOf y known started r) made h))

      pub tries-given : length used ≡ 4 → (known : List ℕ) → known ≡ free → (numbers : List ℕ) → numbers ≡ four_of used
          → (r : Maybe Tried) → ((y : World script ranks table quads leasts x block) → TriedOf y known numbers 0 r) → TriesNow w t used r
      tries-given four known e numbers f r h each bs q d is =
          tried each bs q d is r four
          (subst (λ (k : List ℕ). (y : World script ranks table quads leasts x seen) → TriedOf y k (four_of used) 0 r) e
          (subst (λ (l : List ℕ). (y : World script ranks table quads leasts x seen) → TriedOf y known l 0 r) f
          (subst (λ (z : Block). (y : World script ranks table quads leasts x z) → TriedOf y known numbers 0 r) made h)) (world-here each bs q d is))
