-- `asks::range_code` meets its contract: each name in turn.
use mathlib.Core.Path.{sym, ◌∙◌}
use Rattle.definitions.specs.Ascii.{ascii}
use Rattle.definitions.specs.Types.{string, decimal, date_time, integer, datatype_name}
use Rattle.asks.proofs.AskLaws.{text-is, range-named, range_other}
use Rattle.asks.proofs.range_code.Goals as goal

pub returns-then-is_text : goal.returns-then-is_text
unfolding ascii datatype_name
returns-then-is_text c = λ u e. range-named u string (sym (text-is _ u (datatype_name string) e tt c.is_text.ensures) ∙ c.if-is_text.true)

pub returns-then-is_text-2 : goal.returns-then-is_text-2
unfolding ascii datatype_name
returns-then-is_text-2 c = λ u e. range-named u decimal (sym (text-is _ u (datatype_name decimal) e tt c.is_text-2.ensures) ∙ c.if-is_text-2.true)

pub returns-then-is_text-3 : goal.returns-then-is_text-3
unfolding ascii datatype_name
returns-then-is_text-3 c = λ u e. range-named u date_time (sym (text-is _ u (datatype_name date_time) e tt c.is_text-3.ensures) ∙ c.if-is_text-3.true)

pub returns-then-is_text-4 : goal.returns-then-is_text-4
unfolding ascii datatype_name
returns-then-is_text-4 c = λ u e. range-named u integer (sym (text-is _ u (datatype_name integer) e tt c.is_text-4.ensures) ∙ c.if-is_text-4.true)

pub returns : goal.returns
unfolding ascii datatype_name
returns c =
    λ u e. range_other u (sym (text-is _ u (datatype_name string) e tt c.is_text.ensures) ∙ c.if-is_text.false)
    (sym (text-is _ u (datatype_name decimal) e tt c.is_text-2.ensures) ∙ c.if-is_text-2.false) (sym (text-is _ u (datatype_name date_time) e tt c.is_text-3.ensures) ∙ c.if-is_text-3.false)
    (sym (text-is _ u (datatype_name integer) e tt c.is_text-4.ensures) ∙ c.if-is_text-4.false)
