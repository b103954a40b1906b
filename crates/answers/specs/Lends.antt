-- What a run is lent beside its saved control; the answer of the block on top, and a tuple tried on it.
use Rattle.std.specs.Prelude.{ℕ, ◌+◌, ◌≡◌, List, Bool, T, length, Option as Maybe, is_some, IfSome}
use Rattle.definitions.specs.Limits.{ranks_width, variable_limit}
use Rattle.definitions.specs.Bytes.{byte, signed}
use Rattle.definitions.specs.Tree.{Script, block, Binder, Query}
use Rattle.definitions.specs.Scope.{variables_of, in_scope}
use Rattle.definitions.specs.Typing.{type_at}
use Rattle.definitions.specs.Outcome.{ok}
use Rattle.definitions.specs.Evaluate.{Setting, query}
use Rattle.definitions.specs.Evaluated.{query_records}
use Rattle.definitions.specs.Search.{Typing, Tuple, bind}
use Rattle.definitions.specs.Machine.{answer_now}
use Rattle.definitions.specs.Saved.{saved_store}
use Rattle.definitions.specs.Calls.{reported, setting_of}
use Rattle.definitions.specs.declared.SavedControl.{SavedControl}
use Rattle.definitions.specs.declared.SavedStore.{SavedStore}
use Rattle.query.specs.declared.Context.{Context}
use Rattle.query.specs.declared.View.{View}
use Rattle.query.specs.StoreLent.{Told, StoreLent}
use Rattle.search.specs.Trying.{tuple_fits}
use Rattle.search.specs.declared.Tried.{Tried}
use Rattle.acts.specs.Steps.{Standing, Top, answer_of}

-- a sound state of an accepted script, of whose store is lent what a search is told
pub record Lends (script ranks table quads leasts : List ℕ) (x : Context) (run : SavedControl) : Type 0 where
  pub here : Standing script x.loaded run
  pub scope : T (in_scope here.checked.root)
  pub full : length here.checked.types ≡ variable_limit
  pub reports : run.types ≡ reported here.checked
  pub told : Told x
  pub ranked : length ranks ≡ ranks_width
  pub lent : StoreLent table quads leasts x here.checked.schema here.state.store.terms here.state.store.quads

-- and with it its saved store
pub record LendsStore (script ranks table quads leasts : List ℕ) (x : Context) (run : SavedControl) (store : SavedStore) : Type 0 where
  pub lends : Lends script ranks table quads leasts x run
  pub stored : store ≡ saved_store lends.here.state.store

-- the same of what a query is evaluated over
abbrev pub LendsIn : View → SavedControl → Type 0
LendsIn v run = Lends v.script.now v.ranks.now v.table.now v.quads.now v.leasts.now v.context run

abbrev pub LendsStoreIn : View → SavedControl → SavedStore → Type 0
LendsStoreIn v run store = LendsStore v.script.now v.ranks.now v.table.now v.quads.now v.leasts.now v.context run store

module _ {script ranks table quads leasts : List ℕ} {x : Context} {run : SavedControl} (w : Lends script ranks table quads leasts x run) where
  -- what the machine runs under
  abbrev pub setting : Setting
  setting = setting_of w.here.checked ranks (signed x.clock)

  abbrev pub typing : Typing
  typing = type_at w.here.checked.types

  -- the answer of the block on top, after the tuple that it last used
  abbrev pub AnswersNow : {at : ℕ} → Top w.here at → Maybe (List ℕ) → Type 0
  AnswersNow {at} t r =
      (each : Bool) (bs : List Binder) (q : Query) (c : Script) → t.item.script ≡ block at each bs q c
      → answer_now setting typing w.here.state (variables_of bs) q t.item.last
      ≡ ok (answer_of r (byte script (at + 2)))

  -- a tuple tried on the query of the block on top: whether it fits the block's variables, and what the query then comes to
  abbrev pub TriesNow : {at : ℕ} → Top w.here at → Tuple → Maybe Tried → Type 0
  TriesNow {at} t tuple r =
      (each : Bool) (bs : List Binder) (q : Query) (c : Script) → t.item.script ≡ block at each bs q c
      → let s = w.here.state in
      let β = bind (variables_of bs) tuple s.control.bindings in
      (is_some r ≡ tuple_fits w.here.checked.schema typing s.store.terms (variables_of bs) tuple)
      × IfSome r (λ y. (query setting s.store.terms s.store.quads β q ≡ ok y.holds) × (y.records ≡ query_records setting s.store.terms s.store.quads β q))
