-- What a script demands of the types of its terms, as a list; what the children demand comes before what their record does.
use Rattle.std.specs.Prelude.{List, [], ◌∷◌, ◌++◌}
use Rattle.definitions.specs.Types.{Datatype, any_uri, string, decimal, date_time}
use Rattle.definitions.specs.Tree.{Name, Expr, Cond, Query, Script, success, from_named, block, sequence}

-- what has a family: a term of the script, or a value of a datatype
pub data Node : Type 0 where
  name : Name → Node
  fixed : Datatype → Node

-- two are of one family; a term is a property that another one can be the object of
pub data Demand : Type 0 where
  same : Node → Node → Demand
  property : (property object : Name) → Demand

abbrev pub is_uri : Name → Demand
is_uri n = same (name n) (fixed any_uri)

-- an expression's value is of its node's family
unfoldable pub expr_node : Expr → Node
expr_node (Expr.name n) = name n
expr_node Expr.now = fixed date_time
expr_node (Expr.str e) = fixed string
expr_node (Expr.abs e) = fixed decimal
expr_node (Expr.plus e f) = fixed decimal
expr_node (Expr.minus e f) = fixed decimal

abbrev pub is_number : Expr → Demand
is_number e = same (expr_node e) (fixed decimal)

abbrev pub is_string : Expr → Demand
is_string e = same (expr_node e) (fixed string)

unfoldable pub expr_demands : Expr → List Demand
expr_demands (Expr.name n) = []
expr_demands Expr.now = []
expr_demands (Expr.str e) = expr_demands e
expr_demands (Expr.abs e) = expr_demands e ++ (is_number e ∷ [])
expr_demands (Expr.plus e f) = expr_demands e ++ (expr_demands f ++ (is_number e ∷ is_number f ∷ []))
expr_demands (Expr.minus e f) = expr_demands e ++ (expr_demands f ++ (is_number e ∷ is_number f ∷ []))

unfoldable pub cond_demands : Cond → List Demand
cond_demands Cond.no = []
cond_demands Cond.yes = []
cond_demands (Cond.or c d) = cond_demands c ++ cond_demands d
cond_demands (Cond.and c d) = cond_demands c ++ cond_demands d
cond_demands (Cond.not c) = cond_demands c
cond_demands (Cond.regex p e) = expr_demands e ++ (is_string e ∷ [])
cond_demands (Cond.lang_matches r e) = expr_demands e ++ (is_string e ∷ [])
cond_demands (Cond.equal e f) = expr_demands e ++ (expr_demands f ++ (same (expr_node e) (expr_node f) ∷ []))
cond_demands (Cond.less e f) = expr_demands e ++ (expr_demands f ++ (same (expr_node e) (expr_node f) ∷ []))

unfoldable pub query_demands : Query → List Demand
query_demands (Query.pattern g s p o) = is_uri g ∷ is_uri s ∷ property p o ∷ []
query_demands (Query.both q r) = query_demands q ++ query_demands r
query_demands (Query.union q r) = query_demands q ++ query_demands r
query_demands (Query.filter c) = cond_demands c
query_demands Query.empty = []

unfoldable pub script_demands : Script → List Demand
script_demands (success at) = []
script_demands (from_named at n c) = is_uri n ∷ script_demands c
script_demands (block at each bs q c) = query_demands q ++ script_demands c
script_demands (sequence at c d) = script_demands c ++ script_demands d
