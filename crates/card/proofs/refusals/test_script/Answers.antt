-- `card::refusals::test_script` meets its contract.
use mathlib.Core.Path.{sym, ◌∙◌}
use Rattle.card.proofs.ScriptLaws.{many-entries, long-script, malformed, out-of-scope, script-passes}
use mathlib.Core.Path.{ap}
use mathlib.Core.Bool.{not}
use Rattle.card.proofs.refusals.test_script.Goals as goal

pub returns-then-schema-gt-SCHEMA_WIDTH : goal.returns-then-schema-gt-SCHEMA_WIDTH
returns-then-schema-gt-SCHEMA_WIDTH c = many-entries _ _ _ c.if-schema-gt-SCHEMA_WIDTH.true

pub returns-then-script-gt-SCRIPT_LIMIT : goal.returns-then-script-gt-SCRIPT_LIMIT
returns-then-script-gt-SCRIPT_LIMIT c = long-script _ _ _ c.if-schema-gt-SCHEMA_WIDTH.false c.if-script-gt-SCRIPT_LIMIT.true

pub returns-then-not-script_ok : goal.returns-then-not-script_ok
returns-then-not-script_ok c = malformed _ _ _ c.if-schema-gt-SCHEMA_WIDTH.false c.if-script-gt-SCRIPT_LIMIT.false c.script_ok.ensures (ap not c.if-not-script_ok.true)

pub in_scope-requires : goal.in_scope-requires
in_scope-requires c = sym c.script_ok.ensures ∙ c.if-not-script_ok.false

pub returns-then-not-in_scope : goal.returns-then-not-in_scope
returns-then-not-in_scope c =
    out-of-scope _ _ _ c.if-schema-gt-SCHEMA_WIDTH.false c.if-script-gt-SCRIPT_LIMIT.false c.script_ok.ensures (ap not c.if-not-script_ok.false) c.in_scope.ensures (ap not c.if-not-in_scope.true)

pub returns : goal.returns
returns c =
    script-passes _ _ _ c.if-schema-gt-SCHEMA_WIDTH.false c.if-script-gt-SCRIPT_LIMIT.false c.script_ok.ensures (ap not c.if-not-script_ok.false) c.in_scope.ensures (ap not c.if-not-in_scope.false)
