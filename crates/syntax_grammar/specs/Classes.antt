-- The grammar of a program, its classes and their members, with their trees.
use Rattle.std.specs.Prelude.{◌⊎◌, List, [], ◌∷◌, map, Bool, true, false, Option, Some, None}
use Rattle.lang_base.specs.declared.place.Place.{Place}
use Rattle.syntax_tokens.specs.declared.token.Symbol.{Symbol}
use Rattle.syntax_tokens.specs.declared.token.Keyword.{Keyword}
use Rattle.syntax_tokens.specs.declared.terminal.Placed.{Placed}
use Rattle.syntax_tokens.specs.declared.terminal.Terminal.TheVariants as terminal
use Rattle.syntax_tree.specs.declared.class.Class.{Class}
use Rattle.syntax_tree.specs.declared.class.Formal.{Formal}
use Rattle.syntax_tree.specs.declared.class.Item.{Item}
use Rattle.syntax_tree.specs.declared.class.Member.{Member}
use Rattle.syntax_tree.specs.declared.class.Member.TheVariants as member
use Rattle.syntax_tree.specs.declared.class.MethodResult.{MethodResult}
use Rattle.syntax_tree.specs.declared.class.MethodResult.TheVariants as outcome
use Rattle.syntax_tree.specs.declared.class.Parent.{Parent}
use Rattle.syntax_tree.specs.declared.class.SummaryTree.{SummaryTree}
use Rattle.syntax_tree.specs.declared.region.ConstrTree.{ConstrTree}
use Rattle.syntax_tree.specs.declared.region.Named.{Named}
use Rattle.syntax_tree.specs.declared.region.Params.{Params}
use Rattle.syntax_tree.specs.declared.region.ParamTree.{ParamTree}
use Rattle.syntax_tree.specs.declared.region.RplTree.{RplTree}
use Rattle.syntax_tree.specs.declared.region.TypeTree.{TypeTree}
use Rattle.syntax_tree.specs.declared.stmt.Stmt.{Stmt}
use Rattle.syntax_tree.specs.Plain.{plain_stmt, plain_stmts}
use Rattle.syntax_grammar.specs.Taking.{TakesSymbol, TakesKeyword, TakesName, Next, NoNext, Listed, Many}
use Rattle.syntax_grammar.specs.Paths.{DerivesRpl, DerivesArgs}
use Rattle.syntax_grammar.specs.Types.{DerivesType}
use Rattle.syntax_grammar.specs.Statements.{DerivesBlock}

-- [ "atomic" ]
pub data DerivesAtomic : List Placed → List Placed → Bool → Type 0 where
  plain : {here : List Placed} → DerivesAtomic here here false
  atomic : {before after : List Placed} {place : Place} → TakesKeyword Keyword.Atomic before after place → DerivesAtomic before after true

-- Kind = [ "atomic" ] "region"
pub data DerivesKind : List Placed → List Placed → Bool → Type 0 where
  kind : {before one after : List Placed} {is_atomic : Bool} {place : Place} →
      DerivesAtomic before one is_atomic → TakesKeyword Keyword.Region one after place → DerivesKind before after is_atomic

-- Name, as a parameter of a kind
pub data DerivesParam : Bool → List Placed → List Placed → ParamTree → Type 0 where
  param : {is_atomic : Bool} {before after : List Placed} {named : Named} →
      TakesName before after named →
      DerivesParam is_atomic before after (record { place = named.place; name = named.name; atomic = is_atomic })

-- [ Kind ], after a parameter of a kind: a bare name has the kind of the one before it
pub data DerivesKindOr : Bool → List Placed → List Placed → Bool → Type 0 where
  same : {earlier : Bool} {here : List Placed} → DerivesKindOr earlier here here earlier
  other : {earlier is_atomic : Bool} {before after : List Placed} → DerivesKind before after is_atomic → DerivesKindOr earlier before after is_atomic

-- { "," [ Kind ] Name }, after a parameter of a kind
pub data DerivesParamsAfter : Bool → List Placed → List Placed → List ParamTree → Type 0 where
  no_more : {earlier : Bool} {here : List Placed} → DerivesParamsAfter earlier here here []
  following : {earlier is_atomic : Bool} {before one two three after : List Placed} {tree : ParamTree} {others : List ParamTree} {comma : Place} →
      TakesSymbol Symbol.Comma before one comma → DerivesKindOr earlier one two is_atomic → DerivesParam is_atomic two three tree → DerivesParamsAfter is_atomic three after others →
      DerivesParamsAfter earlier before after (tree ∷ others)

-- Kind Name { "," [ Kind ] Name }
pub data DerivesDeclared : List Placed → List Placed → List ParamTree → Type 0 where
  declared : {before one two after : List Placed} {is_atomic : Bool} {tree : ParamTree} {others : List ParamTree} →
      DerivesKind before one is_atomic → DerivesParam is_atomic one two tree → DerivesParamsAfter is_atomic two after others →
      DerivesDeclared before after (tree ∷ others)

-- Constr = Rpl "#" Rpl
pub data DerivesConstr : List Placed → List Placed → ConstrTree → Type 0 where
  constraint : {before one two after : List Placed} {left right : RplTree} {hash : Place} →
      DerivesRpl before one left → TakesSymbol Symbol.Hash one two hash → DerivesRpl two after right →
      DerivesConstr before after (record { left = left; right = right })

-- [ "|" Constr { "," Constr } ]
pub data DerivesGiven : List Placed → List Placed → List ConstrTree → Type 0 where
  nothing_given : {here : List Placed} → DerivesGiven here here []
  given : {before one after : List Placed} {all : List ConstrTree} {bar : Place} →
      TakesSymbol Symbol.Bar before one bar → Listed DerivesConstr one after all → DerivesGiven before after all

-- [ Params ], where Params = "<" Kind Name { "," [ Kind ] Name } [ "|" Constr { "," Constr } ] ">"
pub data DerivesParams : List Placed → List Placed → Params → Type 0 where
  no_params : {here : List Placed} → DerivesParams here here (record { list = []; given = [] })
  params : {before one two three after : List Placed} {list : List ParamTree} {all : List ConstrTree} {open_at close_at : Place} →
      TakesSymbol Symbol.Less before one open_at → DerivesDeclared one two list → DerivesGiven two three all → TakesSymbol Symbol.Greater three after close_at →
      DerivesParams before after (record { list = list; given = all })

-- Type Name
pub data DerivesFormal : List Placed → List Placed → Formal → Type 0 where
  formal : {before one after : List Placed} {ty : TypeTree} {named : Named} →
      DerivesType before one ty → TakesName one after named →
      DerivesFormal before after (record { place = named.place; name = named.name; ty = ty })

-- [ Formals ], where Formals = Type Name { "," Type Name }
pub data DerivesFormalList : List Placed → List Placed → List Formal → Type 0 where
  no_formals : {here : List Placed} → DerivesFormalList here here []
  formals : {before after : List Placed} {all : List Formal} → Listed DerivesFormal before after all → DerivesFormalList before after all

-- "(" [ Formals ] ")"
pub data DerivesFormals : List Placed → List Placed → List Formal → Type 0 where
  parenthesised : {before one two after : List Placed} {all : List Formal} {open_at close_at : Place} →
      TakesSymbol Symbol.OpenParen before one open_at → DerivesFormalList one two all → TakesSymbol Symbol.CloseParen two after close_at →
      DerivesFormals before after all

-- [ "atomic" ] Rpl
pub data DerivesItem : List Placed → List Placed → Item → Type 0 where
  item : {before one after : List Placed} {is_atomic : Bool} {path : RplTree} →
      DerivesAtomic before one is_atomic → DerivesRpl one after path → DerivesItem before after (record { atomic = is_atomic; rpl = path })

-- a keyword and Items, where Items = [ "atomic" ] Rpl { "," [ "atomic" ] Rpl }
pub data DerivesItems : Keyword → List Placed → List Placed → List Item → Type 0 where
  items : {keyword : Keyword} {before one after : List Placed} {all : List Item} {place : Place} →
      TakesKeyword keyword before one place → Listed DerivesItem one after all → DerivesItems keyword before after all

-- [ a keyword and Items ]
pub data DerivesItemsIf : Keyword → List Placed → List Placed → List Item → Type 0 where
  no_items : {keyword : Keyword} {here : List Placed} → NoNext (terminal.Keyword keyword) here → DerivesItemsIf keyword here here []
  items : {keyword : Keyword} {before after : List Placed} {all : List Item} → DerivesItems keyword before after all → DerivesItemsIf keyword before after all

-- a summary of reads or writes comes next
abbrev pub BeginsEffects : List Placed → Type 0
BeginsEffects before = Next (terminal.Keyword Keyword.Reads) before ⊎ Next (terminal.Keyword Keyword.Writes) before

-- Summary = [ "pure" | "reads" Items [ "writes" Items ] | "writes" Items ]
pub data DerivesSummary : List Placed → List Placed → Option SummaryTree → Type 0 where
  no_summary : {here : List Placed} → DerivesSummary here here None
  pure : {before after : List Placed} {place : Place} →
      TakesKeyword Keyword.Pure before after place → DerivesSummary before after (Some (record { reads = []; writes = [] }))
  reads : {before after : List Placed} {read : List Item} →
      DerivesItems Keyword.Reads before after read → DerivesSummary before after (Some (record { reads = read; writes = [] }))
  reads_and_writes : {before one after : List Placed} {read written : List Item} →
      DerivesItems Keyword.Reads before one read → DerivesItems Keyword.Writes one after written → DerivesSummary before after (Some (record { reads = read; writes = written }))
  writes : {before after : List Placed} {written : List Item} →
      DerivesItems Keyword.Writes before after written → DerivesSummary before after (Some (record { reads = []; writes = written }))

-- [ "in" Rpl ]
pub data DerivesIn : List Placed → List Placed → Option RplTree → Type 0 where
  nowhere : {here : List Placed} → DerivesIn here here None
  in_region : {before one after : List Placed} {path : RplTree} {place : Place} →
      TakesKeyword Keyword.In before one place → DerivesRpl one after path → DerivesIn before after (Some path)

-- Type | "void"
pub data DerivesResult : List Placed → List Placed → MethodResult → Type 0 where
  void : {before after : List Placed} {place : Place} → TakesKeyword Keyword.Void before after place → DerivesResult before after outcome.Void
  value : {before after : List Placed} {ty : TypeTree} → DerivesType before after ty → DerivesResult before after (outcome.Value ty)

-- what stands in front of the name of a method, and nothing in front of that of a constructor
pub data DerivesFront : List Placed → List Placed → Params → MethodResult → Type 0 where
  constructs : {here : List Placed} → DerivesFront here here (record { list = []; given = [] }) outcome.Constructor
  answers : {before one after : List Placed} {params : Params} {answer : MethodResult} →
      DerivesParams before one params → DerivesResult one after answer → DerivesFront before after params answer

-- [ "in" Rpl ] ";", after the type and the name of a field
pub data DerivesField : TypeTree → Named → List Placed → List Placed → Member → Type 0 where
  field : {ty : TypeTree} {named : Named} {before one after : List Placed} {region : Option RplTree} {ends_at : Place} →
      DerivesIn before one region → TakesSymbol Symbol.Semicolon one after ends_at →
      DerivesField ty named before after (member.Field (record { place = named.place; name = named.name; ty = ty; region = region }))

-- "(" [ Formals ] ")" Summary Block, behind the name of a method and what stands in front of it
pub data DerivesMethod : Params → MethodResult → Named → List Placed → List Placed → Member → Type 0 where
  method : {params : Params} {answer : MethodResult} {named : Named} {before one two after : List Placed} {formals : List Formal} {summary : Option SummaryTree} {body : List Stmt} →
      DerivesFormals before one formals → DerivesSummary one two summary → DerivesBlock two after (plain_stmts (map plain_stmt body)) →
      DerivesMethod params answer named before after (member.Method (record { place = named.place; name = named.name; params = params; result = answer; formals = formals; summary = summary; body = body }))

-- Name "(" [ Formals ] ")" Summary Block, behind what stands in front of the name of a method
pub data DerivesNamed : Params → MethodResult → List Placed → List Placed → Member → Type 0 where
  named : {params : Params} {answer : MethodResult} {before one after : List Placed} {name : Named} {tree : Member} →
      TakesName before one name → DerivesMethod params answer name one after tree → DerivesNamed params answer before after tree

pub data DerivesMember : List Placed → List Placed → Member → Type 0 where
  -- Kind Name { "," Name } ";"
  regions : {before one two after : List Placed} {is_atomic : Bool} {names : List Named} {ends_at : Place} →
      DerivesKind before one is_atomic → Listed TakesName one two names → TakesSymbol Symbol.Semicolon two after ends_at →
      DerivesMember before after (member.Regions is_atomic names)
  -- Type Name [ "in" Rpl ] ";"
  field : {before one two after : List Placed} {ty : TypeTree} {named : Named} {tree : Member} →
      DerivesType before one ty → TakesName one two named → DerivesField ty named two after tree → DerivesMember before after tree
  -- Name "(" [ Formals ] ")" Summary Block, or [ Params ] ( Type | "void" ) Name "(" [ Formals ] ")" Summary Block
  method : {before one after : List Placed} {params : Params} {answer : MethodResult} {tree : Member} →
      DerivesFront before one params answer → DerivesNamed params answer one after tree → DerivesMember before after tree

-- [ "extends" Name [ Args ] ]
pub data DerivesParent : List Placed → List Placed → Option Parent → Type 0 where
  no_parent : {here : List Placed} → DerivesParent here here None
  extends : {before one two after : List Placed} {named : Named} {paths : List RplTree} {place : Place} →
      TakesKeyword Keyword.Extends before one place → TakesName one two named → DerivesArgs two after paths →
      DerivesParent before after (Some (record { name = named; args = paths }))

-- "{" { Member } "}"
pub data DerivesMembers : List Placed → List Placed → List Member → Type 0 where
  members : {before one two after : List Placed} {all : List Member} {open_at close_at : Place} →
      TakesSymbol Symbol.OpenBrace before one open_at → Many DerivesMember one two all → TakesSymbol Symbol.CloseBrace two after close_at → DerivesMembers before after all

-- Class = "class" Name [ Params ] [ "extends" Name [ Args ] ] "{" { Member } "}"
pub data DerivesClass : List Placed → List Placed → Class → Type 0 where
  class : {before one two three four after : List Placed} {named : Named} {params : Params} {parent : Option Parent} {all : List Member} {at : Place} →
      TakesKeyword Keyword.Class before one at → TakesName one two named → DerivesParams two three params → DerivesParent three four parent → DerivesMembers four after all →
      DerivesClass before after (record { place = named.place; name = named.name; params = params; parent = parent; members = all })

-- Program = Class { Class }, and nothing after it
pub data DerivesProgram : List Placed → List Class → Type 0 where
  program : {before one : List Placed} {first : Class} {others : List Class} →
      DerivesClass before one first → Many DerivesClass one [] others → DerivesProgram before (first ∷ others)
